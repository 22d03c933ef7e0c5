-- A line's answer as a plate's.
use Rattle.std.proofs.Common.{◌≡◌, ℕ, ◌<◌, true, cond, List, set, Some, None, Ok, Err, Option, Result, sym, refl, ap, subst, arith}
use Rattle.space.specs.Counts.{cells}
use Rattle.cells.specs.declared.entries.Entry.TheVariants.{Symbol}
use Rattle.decode.proofs.Codes.{eval_in}
use Rattle.readings.specs.declared.kinds.Reading.{Reading}
use Rattle.readings.specs.declared.kinds.AnsweredLine.{AnsweredLine}
use Rattle.readings.specs.declared.kinds.AnswerFault.{AnswerFault}
use Rattle.readings.specs.Readings.{Answers}
use Rattle.line.proofs.Asked.{asked}
use Rattle.line.specs.declared.faults.LineFault.{LineFault}
use Rattle.line.specs.declared.faults.LineFault.TheVariants.{OtherField, NoPlace, NoDirection, SamePlace, TooFewMarks, TooManyMarks, NotAMark, RepeatedMark, ZeroPoint, NoAnswer}
use Rattle.line.specs.Asking.{ask_fault}
use Rattle.line.specs.Lines.{line_readings, LineAnswers as LineTold, RefusedOr, Corrects}
use Rattle.plate.specs.declared.faults.PlateFault.{PlateFault}
use Rattle.plate.specs.declared.faults.PlateFault.TheVariants.{Unfit, AtLine}
use Rattle.plate.specs.declared.calls.Reply.TheVariants.{Corrected}
use Rattle.field.specs.Algebra.{Algebra, Lawful}
use Rattle.space.specs.declared.shape.Shape.{Shape}
use Rattle.cells.specs.Stores.{Meaning, count_of}
use Rattle.cells.proofs.Cases.{put_within}
use Rattle.plate.proofs.Fitting.{fit}
use Rattle.plate.specs.Settings.{Setting, setting_of, fits}
use Rattle.plate.specs.Requests.{Request, Answer, Cells, of_line, refusal, argument_fault, Does, Unless, Happens, Acts, CanPut, Mends, corrected}
use Rattle.plate.specs.Requests.Request.{Correct, Mend}

-- on a plate that fits, only the arguments are refused
pub fitting : (s : Setting) (z : Request) → fits s ≡ true → refusal s z ≡ argument_fault s z
fitting s z e = ap (λ b. cond b (argument_fault s z) (Some Unfit)) e

abbrev pub of_result : Result AnsweredLine LineFault → Answer
of_result (Ok a) = Ok (Corrected a)
of_result (Err f) = Err (AtLine f)

abbrev pub with_result : Cells → ℕ → Result AnsweredLine LineFault → Cells
with_result x w (Ok a) = set x w (Symbol a.symbol)
with_result x w (Err f) = x

module _ (s : Setting) (x : Cells) (w v : ℕ) (marks : List ℕ) where
  -- what a line that may be asked for answers: a symbol, or that it has none
  line_cases : (P : Result AnsweredLine LineFault → Type 0)
      → ((a : AnsweredLine) → LineTold s.field s.d (line_readings s.field s.m x w v marks) (Ok a) → P (Ok a))
      → ((f : AnswerFault) → LineTold s.field s.d (line_readings s.field s.m x w v marks) (Err (NoAnswer f)) → P (Err (NoAnswer f)))
      → (r : Result AnsweredLine LineFault) → LineTold s.field s.d (line_readings s.field s.m x w v marks) r → P r
  line_cases P given none (Ok a) k = given a k
  line_cases P given none (Err (NoAnswer f)) k = none f k
  line_cases P given none (Err OtherField) k = absurd k
  line_cases P given none (Err (NoPlace p)) k = absurd k
  line_cases P given none (Err (NoDirection p)) k = absurd k
  line_cases P given none (Err (SamePlace p)) k = absurd k
  line_cases P given none (Err TooFewMarks) k = absurd k
  line_cases P given none (Err TooManyMarks) k = absurd k
  line_cases P given none (Err (NotAMark i)) k = absurd k
  line_cases P given none (Err (RepeatedMark i)) k = absurd k
  line_cases P given none (Err (ZeroPoint i)) k = absurd k

  told_line : (r : Result AnsweredLine LineFault) → LineTold s.field s.d (line_readings s.field s.m x w v marks) r → Does s x (Correct w v marks) (of_result r) x
  told_line = line_cases (λ r. Does s x (Correct w v marks) (of_result r) x) (λ a k. (Ok a, k, refl, refl)) (λ f k. (Err f, k, refl, refl))

  told_or : (o : Option LineFault) (r : Result AnsweredLine LineFault)
      → RefusedOr o r (LineTold s.field s.d (line_readings s.field s.m x w v marks) r)
      → Unless (of_line o) x (of_result r) x (Does s x (Correct w v marks) (of_result r) x)
  told_or (Some f) r k = (ap of_result k, refl)
  told_or None r k = told_line r k

  -- the same with the symbol put at w
  mended_line : (r : Result AnsweredLine LineFault) → LineTold s.field s.d (line_readings s.field s.m x w v marks) r
      → Does s x (Mend w v marks) (of_result r) (with_result x w r)
  mended_line = line_cases (λ r. Does s x (Mend w v marks) (of_result r) (with_result x w r)) (λ a k. (Ok a, k, refl, refl)) (λ f k. (Err f, k, refl, refl))

  mended_or : (o : Option LineFault) (r : Result AnsweredLine LineFault)
      → RefusedOr o r (LineTold s.field s.d (line_readings s.field s.m x w v marks) r)
      → Unless (of_line o) x (of_result r) (with_result x w r) (Does s x (Mend w v marks) (of_result r) (with_result x w r))
  mended_or (Some f) r k = (ap of_result k, ap (with_result x w) k)
  mended_or None r k = mended_line r k

  pub mended_answer : fits s ≡ true → (r : Result AnsweredLine LineFault) → Corrects s.field s.q s.m s.d x w v marks r
      → Happens s x (Mend w v marks) (of_result r) (with_result x w r)
  mended_answer e r k =
      subst (λ o. Unless o x (of_result r) (with_result x w r) (Does s x (Mend w v marks) (of_result r) (with_result x w r))) (sym (fitting s (Mend w v marks) e))
      (mended_or (ask_fault s.field s.q s.m s.d w v marks) r k)

  pub answered : fits s ≡ true → (r : Result AnsweredLine LineFault) → Corrects s.field s.q s.m s.d x w v marks r
      → Happens s x (Correct w v marks) (of_result r) x
  answered e r k =
      subst (λ o. Unless o x (of_result r) x (Does s x (Correct w v marks) (of_result r) x)) (sym (fitting s (Correct w v marks) e))
      (told_or (ask_fault s.field s.q s.m s.d w v marks) r k)

-- a call that leaves the store's meaning as it was
pub unchanged : (F : Algebra) (shape : Shape) (before after : Meaning) (z : Request) (a : Answer) → after ≡ before
    → Happens (setting_of F shape before) before.entries z a before.entries → Acts F shape before z a after
unchanged F shape before after z a e h =
    (subst (λ m. Happens (setting_of F shape before) before.entries z a m.entries) (sym e) h, ap (λ m. m.alphabet) e)

-- the symbol of an answer is a code
symbol_code : {F : Algebra} (L : Lawful F) (d : ℕ) (rs : List Reading) (a : AnsweredLine) → Answers F d rs (Ok a) → a.symbol < F.size
symbol_code {F} L d rs a k = subst (λ n. n < F.size) (sym (ap (λ (b : AnsweredLine). b.symbol) k.1.2)) (eval_in L k.1.0 0)

accepted_line : (o : Option LineFault) (a : AnsweredLine) (D : Type 0) → RefusedOr o (Ok a) D → (o ≡ None) × D
accepted_line (Some f) a D k = absurd (let z : ◌≡◌ {A = ℕ} 0 1 = cc in omega arith)
accepted_line None a D k = (refl, k)

-- an accepted answer is a code at a place
pub answer_placed : {F : Algebra} (L : Lawful F) (q m d w v : ℕ) (marks : List ℕ) (x : Cells) (a : AnsweredLine) → Corrects F q m d x w v marks (Ok a)
    → (w < cells q m) × (a.symbol < F.size)
answer_placed {F} L q m d w v marks x a k =
    let (o, t) = accepted_line (ask_fault F q m d w v marks) a _ k in
    ((asked F q m d w v marks o).place, symbol_code L d (line_readings F m x w v marks) a t)

-- a line's answer as a plate's
abbrev pub lifted : Result AnsweredLine LineFault → Result AnsweredLine PlateFault
lifted (Ok a) = Ok a
lifted (Err f) = Err (AtLine f)

pub record ToldLine (F : Algebra) (shape : Shape) (before after : Meaning) (w v : ℕ) (marks : List ℕ) (r : Result AnsweredLine PlateFault) : Type 0 where
  pub acts : Acts F shape before (Correct w v marks) (corrected r) after
  pub fitting : CanPut before w r
  pub mends : Mends F shape before w v marks r

module _ {F : Algebra} (L : Lawful F) (shape : Shape) (before after : Meaning) (w v : ℕ) (marks : List ℕ) (fitted : fits (setting_of F shape before) ≡ true) (same : after ≡ before) where
  abbrev s : Setting
  s = setting_of F shape before

  told_lifted : (r : Result AnsweredLine LineFault) → Corrects F shape.q shape.m shape.d before.entries w v marks r
      → ToldLine F shape before after w v marks (lifted r)
  told_lifted (Ok a) k =
      let f = fit s fitted in
      let (place, code) = answer_placed L shape.q shape.m shape.d w v marks before.entries a k in
      record {
        acts = unchanged F shape before after (Correct w v marks) (Ok (Corrected a)) same (answered s before.entries w v marks fitted (Ok a) k);
        fitting = put_within (count_of before) before.alphabet w a.symbol (omega (arith, place, f.counted)) (omega (arith, code, f.same, f.roomy));
        mends =
            λ y h. (
              subst (λ (e : Meaning). Happens s before.entries (Mend w v marks) (Ok (Corrected a)) e.entries) (sym h) (mended_answer s before.entries w v marks fitted (Ok a) k),
              ap (λ (e : Meaning). e.alphabet) h,
            );
      }
  told_lifted (Err f) k =
      record {
        acts = unchanged F shape before after (Correct w v marks) (Err (AtLine f)) same (answered s before.entries w v marks fitted (Err f) k);
        fitting = tt;
        mends = λ y h. unchanged F shape before y (Mend w v marks) (Err (AtLine f)) h (mended_answer s before.entries w v marks fitted (Err f) k);
      }

  pub told_by : (r : Result AnsweredLine LineFault) → Corrects F shape.q shape.m shape.d before.entries w v marks r
      → (p : Result AnsweredLine PlateFault) → p ≡ lifted r → ToldLine F shape before after w v marks p
  told_by r k p e = subst (ToldLine F shape before after w v marks) (sym e) (told_lifted r k)
