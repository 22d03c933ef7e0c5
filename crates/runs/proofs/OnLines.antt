-- What is known of a line's answer on a plate: there is one, and on a fair line it is the form's.
use Rattle.std.proofs.Common.{◌≡◌, ℕ, ◌≤◌, Bool, true, false, cond, eqb, List, [], Some, None, Ok, Option, Result, sym, refl, ◌∙◌, subst, arith}
use Rattle.std.proofs.lemmas.Bool.{eq-eqb, cond-true}
use Rattle.field.specs.Algebra.{Algebra, Lawful, Codes}
use Rattle.space.specs.Places.{point_of}
use Rattle.form.specs.declared.faults.FormFault.{FormFault}
use Rattle.form.specs.Sheets.{coefficient_fault}
use Rattle.form.proofs.Sound.{sound_form}
use Rattle.readings.specs.declared.kinds.AnsweredLine.{AnsweredLine}
use Rattle.readings.specs.declared.kinds.AnswerFault.{AnswerFault}
use Rattle.readings.specs.Readings.{Answers, marked}
use Rattle.readings.proofs.Concluded.{one_answer, near_answered}
use Rattle.line.specs.declared.faults.LineFault.{LineFault}
use Rattle.line.specs.Asking.{ask_fault, marks_fault, target}
use Rattle.line.specs.Lines.{reading_of, line_readings}
use Rattle.line.specs.Fair.{restored}
use Rattle.line.proofs.Asked.{Asked, asked, readings_marked}
use Rattle.line.proofs.Restored.{fair_answer}
use Rattle.plate.specs.declared.faults.PlateFault.{PlateFault}
use Rattle.plate.specs.declared.faults.PlateFault.TheVariants.{Unfit}
use Rattle.plate.specs.Settings.{Setting, fits}
use Rattle.plate.specs.Requests.{Cells, of_form, of_line, argument_fault, Sound, LineAnswers}
use Rattle.plate.specs.Requests.Request.{Burn, Correct}
use Rattle.plate.proofs.Fitting.{fit}
use Rattle.runs.specs.Histories.{FairLine}

chosen : (b : Bool) (o : Option PlateFault) (f : PlateFault) → cond b o (Some f) ≡ None → (b ≡ true) × (o ≡ None)
chosen true o f e = (refl, e)
chosen false o f e = absurd (let z : ◌≡◌ {A = ℕ} 0 1 = cc in omega arith)

of_line_none : (o : Option LineFault) → of_line o ≡ None → o ≡ None
of_line_none (Some f) e = absurd (let z : ◌≡◌ {A = ℕ} 0 1 = cc in omega arith)
of_line_none None e = refl

of_form_none : (o : Option FormFault) → of_form o ≡ None → o ≡ None
of_form_none (Some f) e = absurd (let z : ◌≡◌ {A = ℕ} 0 1 = cc in omega arith)
of_form_none None e = refl

module _ (s : Setting) (L : Lawful s.field) (wide : s.m ≤ 3) where
  abbrev F : Algebra
  F = s.field

  -- the coefficients of a burn with sound arguments are codes
  form_codes : (form : List ℕ) → Sound s (Burn form) → Codes F form
  form_codes form e =
      let (a, b) = chosen (fits s) (argument_fault s (Burn form)) Unfit e in
      let c = of_form_none (coefficient_fault s.q s.m s.d form) b in
      (sound_form F s.q s.m s.d form (cond-true (eqb s.q F.size) _ _ (eq-eqb s.q F.size (fit s a).same) ∙ c)).codes

  module _ (w v : ℕ) (marks : List ℕ) (sound : Sound s (Correct w v marks)) where
    line_asked : Asked F s.q s.m s.d w v marks
    line_asked =
        let (a, b) = chosen (fits s) (argument_fault s (Correct w v marks)) Unfit sound in
        asked F s.q s.m s.d w v marks (of_line_none (ask_fault F s.q s.m s.d w v marks) b)

    marks_sound : marks_fault F (point_of F.size s.m w) (point_of F.size s.m v) [] 0 marks ≡ None
    marks_sound =
        subst (λ q. marks_fault F (point_of q s.m w) (point_of q s.m v) [] 0 marks ≡ None) line_asked.same line_asked.marks_sound

    line_marked : (x : Cells) → marked F.size (line_readings F s.m x w v marks) ≡ true
    line_marked x =
        readings_marked F (point_of F.size s.m w) (point_of F.size s.m v) (λ t. reading_of F.size x (target F s.m w v t)) (λ t. refl) [] 0 marks marks_sound

    pub one_reply : (x y : Cells) → line_readings F s.m x w v marks ≡ line_readings F s.m y w v marks → (r t : Result AnsweredLine AnswerFault)
        → LineAnswers s x w v marks r → LineAnswers s y w v marks t → r ≡ t
    one_reply x y e r t a b =
        one_answer L s.d (line_readings F s.m x w v marks) (line_marked x) r t a (subst (λ rs. Answers F s.d rs t) (sym e) b)

    pub fair_reply : (form : List ℕ) → Sound s (Burn form) → (x : Cells) → FairLine s form x w v marks → (r : Result AnsweredLine AnswerFault)
        → LineAnswers s x w v marks r → r ≡ Ok (restored F s.m s.d form x w v marks)
    fair_reply form burned x fair r a =
        fair_answer L s.m s.d form wide (form_codes form burned) w v x marks marks_sound fair r
        (near_answered L s.d (line_readings F s.m x w v marks) (line_marked x) r a)
