-- The report of one line of a job, and its text.
use Rattle.std.specs.Prelude.{◌≡◌, ℕ, zero, suc, ◌+◌, ◌/◌, ◌%◌, ◌^◌, ◌<◌, ◌≤◌, Bool, cond, List, [], ◌∷◌, ◌++◌, map, length, Some, None, codes, decimal, Option, ◌==◌}
use Rattle.std.specs.List.{join_with_byte, AllByRecursion}
use Rattle.std.specs.Int.Digits.{digits_of}

-- A mark of a line.
pub data Mark : Type 0 where
  At : (t : ℕ) → Mark
  Infinity : Mark

-- What a line of a job came to. Wrong and missing are marks in the order of the line's marks.
pub data Report : Type 0 where
  Accepted : (line : ℕ) (symbol : Option ℕ) (wrong missing : List Mark) → Report
  Refused : (line number : ℕ) → Report

-- Which marks

-- bit i of n, bit 0 the lowest
abbrev pub bit : ℕ → ℕ → Bool
bit n i = n / 2 ^ i % 2 == 1

-- of marks of which the first stands for bit i, those whose bit of n is set, in their order
abbrev pub chosen_from : ℕ → List ℕ → ℕ → List ℕ
chosen_from i [] n = []
chosen_from i (t ∷ ts) n = cond (bit n i) (t ∷ chosen_from (i + 1) ts n) (chosen_from (i + 1) ts n)

-- Bit i stands for mark i of the list, counted from 0. A number below 2^32 has no bit past 31, so it chooses no mark past the first 32.
abbrev pub chosen : List ℕ → ℕ → List ℕ
chosen marks n = chosen_from 0 marks n

-- mark q is infinity
abbrev pub mark_of : ℕ → ℕ → Mark
mark_of q t = cond (t == q) Infinity (At t)

-- Texts

abbrev pub space : ℕ
space = 32

abbrev pub comma : ℕ
comma = 44

-- the digits of n, the highest first, with no 0 in front; 0 is "0"
unfoldable pub numeral : ℕ → List ℕ
numeral zero = codes "0"
numeral (suc n) = map (λ d. 48 + d) (digits_of 10 (suc n))

-- It is what std writes of a number of 64 bits.
abbrev pub NumeralsDecimal : Type 0
NumeralsDecimal = (n : ℕ) → n < 2 ^ 64 → numeral n ≡ decimal n

abbrev pub symbol_text : Option ℕ → List ℕ
symbol_text None = codes "-"
symbol_text (Some s) = numeral s

abbrev pub mark_text : Mark → List ℕ
mark_text (At t) = numeral t
mark_text Infinity = codes "inf"

-- what stands before a mark of a list
abbrev pub separator : Bool → List ℕ
separator first = cond first [] (comma ∷ [])

abbrev pub marks_text : List Mark → List ℕ
marks_text [] = codes "-"
marks_text (m ∷ ms) = join_with_byte comma (map mark_text (m ∷ ms))

abbrev pub fields : Report → List (List ℕ)
fields (Accepted line symbol wrong missing) = numeral line ∷ (codes "ok" ∷ (symbol_text symbol ∷ (marks_text wrong ∷ (marks_text missing ∷ []))))
fields (Refused line number) = numeral line ∷ (numeral number ∷ (codes "-" ∷ (codes "-" ∷ (codes "-" ∷ []))))

-- one space between the fields, and a newline at the end
abbrev pub report_text : Report → List ℕ
report_text r = join_with_byte space (fields r) ++ codes "\n"

abbrev pub header_text : List ℕ
header_text = codes "line result symbol wrong missing\n"

-- How long a report is

abbrev pub ShortSymbol : Option ℕ → Type 0
ShortSymbol None = Unit {0}
ShortSymbol (Some s) = s ≤ 255

abbrev pub ShortMark : Mark → Type 0
ShortMark (At t) = t < 100
ShortMark Infinity = Unit {0}

abbrev pub Short : Report → Type 0
Short (Accepted line symbol wrong missing) =
    (line ≤ 65536) × ShortSymbol symbol × AllByRecursion ShortMark wrong × AllByRecursion ShortMark missing × (length wrong + length missing ≤ 16)
Short (Refused line number) = (line ≤ 65536) × (number ≤ 255)

abbrev pub ShortFits : Type 0
ShortFits = (r : Report) → Short r → length (report_text r) ≤ 128
