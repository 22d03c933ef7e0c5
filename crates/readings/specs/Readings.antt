-- What the readings of a line say of the polynomial along it.
use Rattle.std.specs.Prelude.{◌≡◌, ℕ, suc, ◌+◌, ◌-◌, ◌*◌, ◌/◌, ◌<◌, ◌≤◌, Bool, true, false, cond, not, ◌&&◌, List, [], ◌∷◌, map, length, Ok, Err, Result, ◌==◌, nat_le, slice_index}
use Rattle.std.specs.List.{list_any}
use Rattle.fault.specs.declared.code.FaultCode.{FaultCode}
use Rattle.fault.specs.declared.code.Part.{Part}
use Rattle.field.specs.Algebra.{Algebra, Codes, ops, power}
use Rattle.poly.specs.Poly.{eval}
use Rattle.cells.specs.declared.entries.Entry.{Entry}
use Rattle.cells.specs.declared.entries.Entry.TheVariants.{Symbol, Missing}
use Rattle.decode.specs.Width.{points_most}
use Rattle.readings.specs.declared.kinds.Reading.{Reading}
use Rattle.readings.specs.declared.kinds.AnsweredLine.{AnsweredLine}
use Rattle.readings.specs.declared.kinds.AnswerFault.{AnswerFault}
use Rattle.readings.specs.declared.kinds.AnswerFault.TheVariants.{TooFewSymbols, NoPolynomial}
use Rattle.readings.specs.Counts.{count, bits}

abbrev pub answer_fault_code : AnswerFault → FaultCode
answer_fault_code TooFewSymbols = record { part = Part.Line; number = 40; position = 0 }
answer_fault_code NoPolynomial = record { part = Part.Line; number = 41; position = 0 }

-- the divisor to the power d, times the symbol y read
abbrev pub value_of : Algebra → ℕ → Reading → ℕ → ℕ
value_of F d r y = F.times (power (ops F) r.divisor d) y

-- what a polynomial H is at mark t: H(t), and at infinity, mark q, its coefficient of X^d
abbrev pub at_mark : Algebra → ℕ → List ℕ → ℕ → ℕ
at_mark F d h t = cond (t == F.size) (slice_index h d) (eval (ops F) h t)

abbrev pub disagrees : Algebra → ℕ → List ℕ → Reading → Entry → Bool
disagrees F d h r (Symbol y) = not (at_mark F d h r.mark == value_of F d r y)
disagrees F d h r Missing = false

-- a symbol was read, and H disagrees with it
abbrev pub is_wrong : Algebra → ℕ → List ℕ → Reading → Bool
is_wrong F d h r = disagrees F d h r r.entry

abbrev pub missing_entry : Entry → Bool
missing_entry (Symbol y) = false
missing_entry Missing = true

abbrev pub is_missing : Reading → Bool
is_missing r = missing_entry r.entry

abbrev pub wrongs : Algebra → ℕ → List ℕ → List Reading → List Bool
wrongs F d h rs = map (is_wrong F d h) rs

abbrev pub missings : List Reading → List Bool
missings rs = map is_missing rs

-- how many symbols were read
abbrev pub symbols_read : List Reading → ℕ
symbols_read rs = length rs - count (missings rs)

-- H, of degree at most d, disagrees with at most half of the symbols read beyond d + 1.
pub record Explains (F : Algebra) (d : ℕ) (rs : List Reading) (h : List ℕ) : Type 0 where
  pub long : length h ≡ suc d
  pub codes : Codes F h
  pub few : count (wrongs F d h rs) ≤ (symbols_read rs - d - 1) / 2

-- H(0), and which readings disagree with H or are missing
abbrev pub answered : Algebra → ℕ → List Reading → List ℕ → AnsweredLine
answered F d rs h = record { symbol = eval (ops F) h 0; wrong = bits (wrongs F d h rs); missing = bits (missings rs) }

-- The answer of readings: that of the H that explains them; refused where fewer than d + 1 symbols were read, or no H explains them.
abbrev pub Answers : Algebra → ℕ → List Reading → Result AnsweredLine AnswerFault → Type 0
Answers F d rs (Ok a) = (d < symbols_read rs) × ((h : List ℕ) × Explains F d rs h × (a ≡ answered F d rs h))
Answers F d rs (Err TooFewSymbols) = symbols_read rs ≤ d
Answers F d rs (Err NoPolynomial) = (d < symbols_read rs) × ((h : List ℕ) → Explains F d rs h → ⊥)

-- At most one H explains the readings.
abbrev pub OneExplains : Algebra → ℕ → List Reading → Type 0
OneExplains F d rs = (h k : List ℕ) → d < symbols_read rs → Explains F d rs h → Explains F d rs k → h ≡ k

-- Readings have one answer; and an H with which twice the wrong readings and the missing ones are few has it.
abbrev pub NearAnswered : Algebra → ℕ → List Reading → Result AnsweredLine AnswerFault → Type 0
NearAnswered F d rs r =
    (h : List ℕ) → length h ≡ suc d → Codes F h → 2 * count (wrongs F d h rs) + count (missings rs) + (d + 1) ≤ length rs
    → r ≡ Ok (answered F d rs h)

-- Marks that can be told apart: each 1 to q, and none twice.
abbrev pub has_mark : ℕ → List Reading → Bool
has_mark t rs = list_any (λ r. r.mark == t) rs

abbrev pub marked : ℕ → List Reading → Bool
marked q [] = true
marked q (r ∷ rs) = (nat_le 1 r.mark && nat_le r.mark q) && (not (has_mark r.mark rs) && marked q rs)

-- the readings, where they are not too many and their marks can be told apart, else none
abbrev pub usable : ℕ → List Reading → List Reading
usable q rs = cond (nat_le (length rs) points_most && marked q rs) rs []
