-- The five calls: what each answers and leaves, by the cells before it.
use Rattle.std.specs.Prelude.{◌≡◌, ℕ, cond, List, map, Some, None, Ok, Err, Option, Result, slice_index_or, slice_set}
use Rattle.std.specs.List.{range_with_len}
use Rattle.field.specs.Algebra.{Algebra}
use Rattle.space.specs.declared.shape.Shape.{Shape}
use Rattle.form.specs.Forms.{symbol_at}
use Rattle.form.specs.declared.faults.FormFault.{FormFault}
use Rattle.form.specs.Sheets.{coefficient_fault}
use Rattle.cells.specs.declared.entries.Entry.{Entry}
use Rattle.cells.specs.declared.entries.Entry.TheVariants.{Symbol, Missing}
use Rattle.cells.specs.declared.faults.StoreFault.{StoreFault}
use Rattle.cells.specs.Stores.{Meaning, count_of, with_entry}
use Rattle.cells.specs.Refusals.{access_fault, put_fault}
use Rattle.readings.specs.declared.kinds.AnsweredLine.{AnsweredLine}
use Rattle.readings.specs.declared.kinds.AnswerFault.{AnswerFault}
use Rattle.readings.specs.Readings.{Answers}
use Rattle.line.specs.declared.faults.LineFault.{LineFault}
use Rattle.line.specs.declared.faults.LineFault.TheVariants.{NoAnswer}
use Rattle.line.specs.Asking.{ask_fault}
use Rattle.line.specs.Lines.{line_readings}
use Rattle.plate.specs.declared.faults.PlateFault.{PlateFault}
use Rattle.plate.specs.declared.faults.PlateFault.TheVariants.{Unfit, AtForm, AtStore, AtLine}
use Rattle.plate.specs.declared.calls.Reply.{Reply}
use Rattle.plate.specs.declared.calls.Reply.TheVariants.{Done, Told, Corrected}
use Rattle.plate.specs.Settings.{Setting, setting_of, fits}

-- A call with its arguments.
pub data Request : Type 0 where
  Burn : (form : List ℕ) → Request
  Spoil : (p : ℕ) (e : Entry) → Request
  Read : (p : ℕ) → Request
  Correct : (w v : ℕ) (marks : List ℕ) → Request
  Mend : (w v : ℕ) (marks : List ℕ) → Request

-- What a call answers: its reply, or the whole fault for which it is refused.
abbrev pub Answer : Type 0
Answer = Result Reply PlateFault

abbrev pub Cells : Type 0
Cells = List Entry

-- the entry of the cell p; missing where there is none
abbrev pub entry : Cells → ℕ → Entry
entry x p = slice_index_or x p Missing

-- Refusals

abbrev pub of_form : Option FormFault → Option PlateFault
of_form (Some f) = Some (AtForm f)
of_form None = None

abbrev pub of_store : Option StoreFault → Option PlateFault
of_store (Some f) = Some (AtStore f)
of_store None = None

abbrev pub of_line : Option LineFault → Option PlateFault
of_line (Some f) = Some (AtLine f)
of_line None = None

-- why a cell is not given the entry
abbrev pub spoil_fault : Setting → ℕ → Entry → Option StoreFault
spoil_fault s p (Symbol x) = put_fault s.count s.alphabet p x
spoil_fault s p Missing = access_fault s.count p

-- the first refusal that the arguments meet on a plate that fits
abbrev pub argument_fault : Setting → Request → Option PlateFault
argument_fault s (Burn form) = of_form (coefficient_fault s.q s.m s.d form)
argument_fault s (Spoil p e) = of_store (spoil_fault s p e)
argument_fault s (Read p) = of_store (access_fault s.count p)
argument_fault s (Correct w v marks) = of_line (ask_fault s.field s.q s.m s.d w v marks)
argument_fault s (Mend w v marks) = of_line (ask_fault s.field s.q s.m s.d w v marks)

-- why a call is refused before it reads a cell
abbrev pub refusal : Setting → Request → Option PlateFault
refusal s z = cond (fits s) (argument_fault s z) (Some Unfit)

-- The call's arguments are sound: it is not refused before it reads a cell.
abbrev pub Sound : Setting → Request → Type 0
Sound s z = refusal s z ≡ None

-- Replies

-- the codeword of the form: its symbol at each place
abbrev pub codeword : Setting → List ℕ → Cells
codeword s form = map (λ p. Symbol (symbol_at s.field s.m s.d form p)) (range_with_len 0 s.count)

abbrev pub line_answer : Result AnsweredLine AnswerFault → Answer
line_answer (Ok a) = Ok (Corrected a)
line_answer (Err f) = Err (AtLine (NoAnswer f))

-- the symbol of the answer put at w
abbrev pub mended : Cells → ℕ → Result AnsweredLine AnswerFault → Cells
mended x w (Ok a) = slice_set x w (Symbol a.symbol)
mended x w (Err f) = x

-- the readings of the line, in the cells x, have the answer r
abbrev pub LineAnswers : Setting → Cells → ℕ → ℕ → List ℕ → Result AnsweredLine AnswerFault → Type 0
LineAnswers s x w v marks r = Answers s.field s.d (line_readings s.field s.m x w v marks) r

-- With the cells x before it, a call with sound arguments answers a and leaves the cells y.
abbrev pub Does : Setting → Cells → Request → Answer → Cells → Type 0
Does s x (Burn form) a y = (a ≡ Ok Done) × (y ≡ codeword s form)
Does s x (Spoil p e) a y = (a ≡ Ok Done) × (y ≡ slice_set x p e)
Does s x (Read p) a y = (a ≡ Ok (Told (entry x p))) × (y ≡ x)
Does s x (Correct w v marks) a y = (r : Result AnsweredLine AnswerFault) × LineAnswers s x w v marks r × (a ≡ line_answer r) × (y ≡ x)
Does s x (Mend w v marks) a y = (r : Result AnsweredLine AnswerFault) × LineAnswers s x w v marks r × (a ≡ line_answer r) × (y ≡ mended x w r)

abbrev pub Unless : Option PlateFault → Cells → Answer → Cells → Type 0 → Type 0
Unless (Some f) x a y otherwise = (a ≡ Err f) × (y ≡ x)
Unless None x a y otherwise = otherwise

-- With the cells x before it, the call answers a and leaves the cells y.
abbrev pub Happens : Setting → Cells → Request → Answer → Cells → Type 0
Happens s x z a y = Unless (refusal s z) x a y (Does s x z a y)

-- the answers of the five calls as answers

abbrev pub done : Result (Unit {0}) PlateFault → Answer
done (Ok u) = Ok Done
done (Err f) = Err f

abbrev pub told : Result Entry PlateFault → Answer
told (Ok e) = Ok (Told e)
told (Err f) = Err f

abbrev pub corrected : Result AnsweredLine PlateFault → Answer
corrected (Ok a) = Ok (Corrected a)
corrected (Err f) = Err f

-- The call on a plate of the field and the shape, over a store that means `before`: it answers a, and the store then means `after`.
abbrev pub Acts : Algebra → Shape → Meaning → Request → Answer → Meaning → Type 0
Acts F shape before z a after =
    Happens (setting_of F shape before) before.entries z a after.entries × (after.alphabet ≡ before.alphabet)

-- the symbol of an accepted answer can be put at w
abbrev pub CanPut : Meaning → ℕ → Result AnsweredLine PlateFault → Type 0
CanPut store w (Ok a) = put_fault (count_of store) store.alphabet w a.symbol ≡ None
CanPut store w (Err f) = Unit {0}

-- the store with the symbol of an accepted answer at w
abbrev pub with_answer : Meaning → ℕ → Result AnsweredLine PlateFault → Meaning
with_answer store w (Ok a) = with_entry store w (Symbol a.symbol)
with_answer store w (Err f) = store

-- An answer of a correction, put at w, makes a mend.
abbrev pub Mends : Algebra → Shape → Meaning → ℕ → ℕ → List ℕ → Result AnsweredLine PlateFault → Type 0
Mends F shape before w v marks r = (after : Meaning) → after ≡ with_answer before w r → Acts F shape before (Mend w v marks) (corrected r) after
