-- Worked examples over five residues, m = 2 and d = 2: places, lines, damaged cells; and one product or inverse in each of three other fields.
use Rattle.std.specs.Prelude.{◌≡◌, ℕ, List, [], ◌∷◌, map, Some, Ok, Err, slice_set}
use Rattle.field.specs.Algebra.{Algebra, inverse}
use Rattle.residue.specs.Residue.{residues}
use Rattle.binary.specs.Binary.{polynomials}
use Rattle.space.specs.Points.{place_answer}
use Rattle.cells.specs.declared.entries.Entry.TheVariants.{Symbol, Missing}
use Rattle.readings.specs.declared.kinds.Reading.{Reading}
use Rattle.readings.specs.declared.kinds.AnsweredLine.{AnsweredLine}
use Rattle.readings.specs.declared.kinds.AnswerFault.TheVariants.{TooFewSymbols, NoPolynomial}
use Rattle.readings.specs.Readings.{Answers}
use Rattle.line.specs.declared.faults.LineFault.TheVariants.{NoAnswer}
use Rattle.line.specs.Asking.{line_place, line_divisor}
use Rattle.line.specs.Lines.{line_readings}
use Rattle.line.specs.Fair.{Fair}
use Rattle.plate.specs.declared.faults.PlateFault.TheVariants.{AtLine}
use Rattle.plate.specs.declared.calls.Reply.TheVariants.{Corrected}
use Rattle.plate.specs.Settings.{Setting}
use Rattle.plate.specs.Requests.{Request, Answer, Cells, entry, codeword, Happens}
use Rattle.plate.specs.Requests.Request.{Correct}

abbrev pub five : Algebra
five = residues 5

-- a plate of that shape over a store of 31 cells and alphabet 255
abbrev pub setting : Setting
setting = record { field = five; q = 5; m = 2; d = 2; count = 31; alphabet = 255 }

-- the marks 1 to 4 and infinity
abbrev pub marks : List ℕ
marks = 1 ∷ 2 ∷ 3 ∷ 4 ∷ 5 ∷ []

abbrev pub line_7 : Request
line_7 = Correct 7 28 marks

abbrev pub line_27 : Request
line_27 = Correct 27 4 marks

abbrev pub told : ℕ → ℕ → ℕ → AnsweredLine
told symbol wrong missing = record { symbol = symbol; wrong = wrong; missing = missing }

-- With the cells x before it the call has this answer and no other, and leaves the cells as they are.
pub record Gives (x : Cells) (z : Request) (a : Answer) : Type 0 where
  pub so : Happens setting x z a x
  pub only : (b : Answer) (y : Cells) → Happens setting x z b y → (b ≡ a) × (y ≡ x)

-- a reading as if its point were normal
abbrev pub undivided : Reading → Reading
undivided r = record { mark = r.mark; divisor = 1; entry = r.entry }

-- the cells with the form's codeword
abbrev pub burned : List ℕ → Cells
burned form = codeword setting form

-- the entries of cells 10 and 18 in other hands
abbrev pub wiped_two : List ℕ → Cells
wiped_two form = slice_set (slice_set (burned form) 10 Missing) 18 Missing

abbrev pub wiped_three : List ℕ → Cells
wiped_three form = slice_set (wiped_two form) 21 Missing

abbrev pub spoilt_and_wiped : List ℕ → Cells
spoilt_and_wiped form = slice_set (slice_set (burned form) 10 (Symbol 4)) 18 Missing

abbrev pub spoilt_two : List ℕ → Cells
spoilt_two form = slice_set (slice_set (burned form) 10 (Symbol 1)) 18 (Symbol 0)

pub record Examples (form : List ℕ) : Type 0 where
  -- the places of four points; the last is not normal
  pub place_12 : place_answer five 5 2 (1 ∷ 2 ∷ 2 ∷ 0 ∷ []) ≡ Ok 12
  pub place_28 : place_answer five 5 2 (0 ∷ 1 ∷ 3 ∷ 0 ∷ []) ≡ Ok 28
  pub place_30 : place_answer five 5 2 (0 ∷ 0 ∷ 1 ∷ 0 ∷ []) ≡ Ok 30
  pub place_15 : place_answer five 5 2 (2 ∷ 1 ∷ 0 ∷ 0 ∷ []) ≡ Ok 15
  -- the line through 7 in the direction 28
  pub places_7 : map (line_place five 2 7 28) marks ≡ 10 ∷ 18 ∷ 21 ∷ 4 ∷ 28 ∷ []
  pub symbols_7 : map (entry (burned form)) (10 ∷ 18 ∷ 21 ∷ 4 ∷ 28 ∷ []) ≡ map Symbol (0 ∷ 3 ∷ 2 ∷ 2 ∷ 3 ∷ [])
  pub answer_7 : Gives (burned form) line_7 (Ok (Corrected (told 3 0 0)))
  -- the line through 27 in the direction 4: divisors other than 1 count
  pub places_27 : map (line_place five 2 27 4) marks ≡ 6 ∷ 15 ∷ 13 ∷ 22 ∷ 4 ∷ []
  pub divisors_27 : map (line_divisor five 2 27 4) marks ≡ 1 ∷ 2 ∷ 3 ∷ 4 ∷ 1 ∷ []
  pub symbols_27 : map (entry (burned form)) (6 ∷ 15 ∷ 13 ∷ 22 ∷ 4 ∷ []) ≡ map Symbol (2 ∷ 2 ∷ 2 ∷ 2 ∷ 2 ∷ [])
  pub answer_27 : Gives (burned form) line_27 (Ok (Corrected (told 0 0 0)))
  pub undivided_27 : Answers five 2 (map undivided (line_readings five 2 (burned form) 27 4 marks)) (Ok (told 2 16 0))
  -- two missing readings leave three symbols, and three missing ones too few
  pub answer_wiped_two : Gives (wiped_two form) line_7 (Ok (Corrected (told 3 0 3)))
  pub answer_wiped_three : Gives (wiped_three form) line_7 (Err (AtLine (NoAnswer TooFewSymbols)))
  -- one untrue and one missing reading: no polynomial is near enough
  pub answer_spoilt_and_wiped : Gives (spoilt_and_wiped form) line_7 (Err (AtLine (NoAnswer NoPolynomial)))
  -- two untrue readings: the line is not fair, and another polynomial is nearer
  pub unfair : Fair five 2 2 form (spoilt_two form) 7 28 marks → ⊥
  pub answer_spoilt_two : Gives (spoilt_two form) line_7 (Ok (Corrected (told 0 16 0)))
  -- products and an inverse in other fields
  pub product_4 : (polynomials 2 7).times 2 3 ≡ 1
  pub product_16 : (polynomials 4 19).times 8 2 ≡ 3
  pub inverse_7 : inverse (residues 7) 3 ≡ Some 5
