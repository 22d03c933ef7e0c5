-- What is read along a line, and what a correction answers.
use Rattle.std.specs.Prelude.{◌≡◌, ℕ, cond, List, map, Some, None, Ok, Err, Option, Result, nat_lt, slice_index_or}
use Rattle.field.specs.Algebra.{Algebra}
use Rattle.cells.specs.declared.entries.Entry.{Entry}
use Rattle.cells.specs.declared.entries.Entry.TheVariants.{Symbol, Missing}
use Rattle.readings.specs.declared.kinds.Reading.{Reading}
use Rattle.readings.specs.declared.kinds.AnsweredLine.{AnsweredLine}
use Rattle.readings.specs.Readings.{Answers}
use Rattle.line.specs.declared.faults.LineFault.{LineFault}
use Rattle.line.specs.declared.faults.LineFault.TheVariants.{OtherField, NoPlace, NoDirection, SamePlace, TooFewMarks, TooManyMarks, NotAMark, RepeatedMark, ZeroPoint, NoAnswer}
use Rattle.line.specs.declared.lines.Target.{Target}
use Rattle.line.specs.declared.lines.AskedLine.{AskedLine}
use Rattle.line.specs.declared.lines.GatheredLine.{GatheredLine}
use Rattle.line.specs.Asking.{target, ask_fault}

-- An entry as a line takes it: one that is missing, is q or more, or does not exist counts as missing.
abbrev pub seen : ℕ → Entry → Entry
seen q (Symbol s) = cond (nat_lt s q) (Symbol s) Missing
seen q Missing = Missing

abbrev pub reading_of : ℕ → List Entry → Target → Reading
reading_of q entries t = record { mark = t.mark; divisor = t.divisor; entry = seen q (slice_index_or entries t.place Missing) }

-- the readings of a line through w in the direction v
abbrev pub line_readings : Algebra → ℕ → List Entry → ℕ → ℕ → List ℕ → List Reading
line_readings F m entries w v marks = map (λ t. reading_of F.size entries (target F m w v t)) marks

abbrev pub targets_of : {F : Type 0} → AskedLine F → List Target
targets_of l = l.targets.items

abbrev pub readings_of : {F : Type 0} → GatheredLine F → List Reading
readings_of l = l.readings.items

abbrev pub LineAnswers : Algebra → ℕ → List Reading → Result AnsweredLine LineFault → Type 0
LineAnswers F d rs (Ok a) = Answers F d rs (Ok a)
LineAnswers F d rs (Err (NoAnswer f)) = Answers F d rs (Err f)
LineAnswers F d rs (Err OtherField) = ⊥
LineAnswers F d rs (Err (NoPlace p)) = ⊥
LineAnswers F d rs (Err (NoDirection p)) = ⊥
LineAnswers F d rs (Err (SamePlace p)) = ⊥
LineAnswers F d rs (Err TooFewMarks) = ⊥
LineAnswers F d rs (Err TooManyMarks) = ⊥
LineAnswers F d rs (Err (NotAMark i)) = ⊥
LineAnswers F d rs (Err (RepeatedMark i)) = ⊥
LineAnswers F d rs (Err (ZeroPoint i)) = ⊥

abbrev pub RefusedOr : Option LineFault → Result AnsweredLine LineFault → Type 0 → Type 0
RefusedOr (Some f) r otherwise = r ≡ Err f
RefusedOr None r otherwise = otherwise

-- what a correction of w along v answers, by the entries of the store
abbrev pub Corrects : Algebra → ℕ → ℕ → ℕ → List Entry → ℕ → ℕ → List ℕ → Result AnsweredLine LineFault → Type 0
Corrects F q m d entries w v marks r = RefusedOr (ask_fault F q m d w v marks) r (LineAnswers F d (line_readings F m entries w v marks) r)
