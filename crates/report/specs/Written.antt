-- A text as it grows, and at the start of a place.
use Rattle.std.specs.Prelude.{ℕ, ◌+◌, ◌≤◌, Bool, cond, List, ◌++◌, length, drop, Some, None, Option, nat_le}
use Rattle.report.specs.declared.buffer.Text.{Text}
use Rattle.report.specs.Room.{room}

-- what a buffer holds
abbrev pub written : Text → List ℕ
written t = t.bytes.items

-- n bytes more fit
abbrev pub RoomFor : ℕ → Text → Type 0
RoomFor n t = length (written t) + n ≤ room

-- at most n bytes longer
abbrev pub LongerBy : ℕ → Text → Text → Type 0
LongerBy n old new = length (written new) ≤ length (written old) + n

-- the text is not longer than the place
abbrev pub fits : List ℕ → List ℕ → Bool
fits text place = nat_le (length text) (length place)

-- the place with the text at its start and the rest left; as it was where the text does not fit
abbrev pub placed : List ℕ → List ℕ → List ℕ
placed text place = cond (fits text place) (text ++ drop (length text) place) place

-- how many bytes were written
abbrev pub count_placed : List ℕ → List ℕ → Option ℕ
count_placed text place = cond (fits text place) (Some (length text)) None
