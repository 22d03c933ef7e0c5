-- A program's call as a request.
use Rattle.plate.specs.declared.calls.Call.{Call}
use Rattle.plate.specs.declared.calls.Call.TheVariants.{Burn as BurnCall, Spoil as SpoilCall, Read as ReadCall, Correct as CorrectCall, Mend as MendCall}
use Rattle.plate.specs.Requests.{Request}
use Rattle.plate.specs.Requests.Request.{Burn, Spoil, Read, Correct, Mend}

abbrev pub request : Call → Request
request (BurnCall form) = Burn form.now
request (SpoilCall p e) = Spoil p e
request (ReadCall p) = Read p
request (CorrectCall r) = Correct r.place r.direction r.marks.now
request (MendCall r) = Mend r.place r.direction r.marks.now
