-- What a program's report says.
use Rattle.std.specs.Prelude.{ℕ, List, map}
use Rattle.report.specs.declared.kinds.Report.{Report as Given}
use Rattle.report.specs.declared.kinds.Report.TheVariants.{Accepted as GivenAccepted, Refused as GivenRefused}
use Rattle.report.specs.Reports.{Mark, Report, chosen, mark_of}
use Rattle.report.specs.Reports.Report.{Accepted, Refused}

-- those of the marks whose bit is set
abbrev pub meant_marks : List ℕ → ℕ → ℕ → List Mark
meant_marks marks q bits = map (mark_of q) (chosen marks bits)

abbrev pub meant : Given → Report
meant (GivenAccepted line symbol marks q wrong missing) = Accepted line symbol (meant_marks marks.now q wrong) (meant_marks marks.now q missing)
meant (GivenRefused line number) = Refused line number
