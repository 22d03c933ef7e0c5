-- A line against a form: which readings are true, and when they are enough.
use Rattle.std.specs.Prelude.{◌≡◌, ℕ, ◌+◌, ◌*◌, ◌≤◌, Bool, false, not, List, map, length, None, Ok, Result, ◌==◌, slice_index_or}
use Rattle.field.specs.Algebra.{Algebra}
use Rattle.form.specs.Forms.{symbol_at}
use Rattle.form.specs.Sheets.{form_fault}
use Rattle.cells.specs.declared.entries.Entry.{Entry}
use Rattle.cells.specs.declared.entries.Entry.TheVariants.{Symbol, Missing}
use Rattle.readings.specs.declared.kinds.AnsweredLine.{AnsweredLine}
use Rattle.readings.specs.Counts.{count, bits}
use Rattle.readings.specs.Readings.{missings}
use Rattle.line.specs.declared.faults.LineFault.{LineFault}
use Rattle.line.specs.Asking.{line_place, ask_fault}
use Rattle.line.specs.Lines.{seen, line_readings}

-- a symbol other than s
abbrev pub other_symbol : ℕ → Entry → Bool
other_symbol s (Symbol x) = not (s == x)
other_symbol s Missing = false

-- Mark t has an untrue reading: a symbol that is not the form's at the place read.
abbrev pub is_untrue : Algebra → ℕ → ℕ → List ℕ → List Entry → ℕ → ℕ → ℕ → Bool
is_untrue F m d form entries w v t =
    other_symbol (symbol_at F m d form (line_place F m w v t)) (seen F.size (slice_index_or entries (line_place F m w v t) Missing))

abbrev pub untrues : Algebra → ℕ → ℕ → List ℕ → List Entry → ℕ → ℕ → List ℕ → List Bool
untrues F m d form entries w v marks = map (is_untrue F m d form entries w v) marks

abbrev pub lacking : Algebra → ℕ → List Entry → ℕ → ℕ → List ℕ → List Bool
lacking F m entries w v marks = missings (line_readings F m entries w v marks)

-- A fair line: twice the untrue readings and the missing ones are at most the marks less d + 1.
abbrev pub Fair : Algebra → ℕ → ℕ → List ℕ → List Entry → ℕ → ℕ → List ℕ → Type 0
Fair F m d form entries w v marks =
    2 * count (untrues F m d form entries w v marks) + count (lacking F m entries w v marks) + (d + 1) ≤ length marks

-- the form's symbol at w, with exactly the untrue readings as wrong and the missing ones as missing
abbrev pub restored : Algebra → ℕ → ℕ → List ℕ → List Entry → ℕ → ℕ → List ℕ → AnsweredLine
restored F m d form entries w v marks = record {
  symbol = symbol_at F m d form w;
  wrong = bits (untrues F m d form entries w v marks);
  missing = bits (lacking F m entries w v marks);
}

-- On a line that may be asked for, and that is fair against a form of the shape, the answer is the form's.
abbrev pub FairRestored : Algebra → ℕ → ℕ → ℕ → List Entry → ℕ → ℕ → List ℕ → Result AnsweredLine LineFault → Type 0
FairRestored F q m d entries w v marks r =
    (form : List ℕ) → form_fault F q m d form ≡ None → ask_fault F q m d w v marks ≡ None → Fair F m d form entries w v marks
    → r ≡ Ok (restored F m d form entries w v marks)
