-- What sound coefficients are.
use Rattle.std.proofs.Common.{◌≡◌, ℕ, suc, ◌+◌, ◌<◌, ◌≤◌, Bool, true, false, cond, eqb, leb, List, [], ◌∷◌, length, Some, None, Ok, Option, sym, refl, ap, ◌∙◌, subst, ⊎_elim, arith}
use Rattle.std.specs.List.{AllByRecursion, position_from}
use Rattle.std.proofs.lemmas.Bool.{cases_lt, le-leb, lt-leb, cond-true, cond-false, eqb-true, eq-eqb}
use Rattle.field.specs.Algebra.{Algebra, Codes}
use Rattle.form.specs.declared.faults.FormFault.{FormFault}
use Rattle.form.specs.declared.faults.FormFault.TheVariants.{OtherField, WrongCount}
use Rattle.form.specs.declared.sheet.Form.{Form}
use Rattle.form.specs.Forms.{coefficient_count}
use Rattle.form.specs.Soundness.{first_excess, excess, coefficient_fault, unless}
use Rattle.form.specs.Sheets.{form_fault, check_answer}

excess_from : (q i : ℕ) (cs : List ℕ) → position_from (leb q) i cs ≡ first_excess q i cs
excess_from q i [] = refl
excess_from q i (c ∷ cs) = let e : i + 1 ≡ suc i = omega arith in rw (e, excess_from q (suc i) cs) refl

-- coefficients of the right number, by the first that is q or more
pub judged : (q m d : ℕ) (cs : List ℕ) (o : Option ℕ) → length cs ≡ coefficient_count m d → o ≡ position_from (leb q) 0 cs → coefficient_fault q m d cs ≡ excess o
judged q m d cs o l e = cond-true (eqb (length cs) (coefficient_count m d)) _ _ (eq-eqb _ _ l) ∙ ap excess (sym (e ∙ excess_from q 0 cs))

codes_without_excess : (q i : ℕ) (cs : List ℕ) → first_excess q i cs ≡ None → AllByRecursion (λ c. c < q) cs
codes_without_excess q i [] e = tt
codes_without_excess q i (c ∷ cs) e =
    ⊎_elim
    (λ (l : c < q). (l, codes_without_excess q (suc i) cs (sym (cond-false (leb q c) (Some i) (first_excess q (suc i) cs) (lt-leb q c l)) ∙ e)))
    (λ (l : q ≤ c). let f = sym (cond-true (leb q c) (Some i) (first_excess q (suc i) cs) (le-leb q c l)) ∙ e in absurd (let z : ◌≡◌ {A = ℕ} 0 1 = cc in omega arith))
    (cases_lt c q)

no_excess : (o : Option ℕ) → excess o ≡ None → o ≡ None
no_excess (Some i) e = absurd (let z : ◌≡◌ {A = ℕ} 0 1 = cc in omega arith)
no_excess None e = refl

-- a test that chooses None was true
chosen : {X : Type 0} (b : Bool) (o : Option X) (x : X) → cond b o (Some x) ≡ None → (b ≡ true) × (o ≡ None)
chosen true o x e = (refl, e)
chosen false o x e = absurd (let z : ◌≡◌ {A = ℕ} 0 1 = cc in omega arith)

pub record Sound (F : Algebra) (q m d : ℕ) (cs : List ℕ) : Type 0 where
  pub same : q ≡ F.size
  pub whole : length cs ≡ coefficient_count m d
  pub codes : Codes F cs

pub sound_form : (F : Algebra) (q m d : ℕ) (cs : List ℕ) → form_fault F q m d cs ≡ None → Sound F q m d cs
sound_form F q m d cs e =
    let (a, b) = chosen (eqb q F.size) (coefficient_fault q m d cs) OtherField e in
    let (c, f) = chosen (eqb (length cs) (coefficient_count m d)) (excess (first_excess q 0 cs)) WrongCount b in
    let s = eqb-true q F.size a in
    record {
      same = s;
      whole = eqb-true (length cs) (coefficient_count m d) c;
      codes = subst (λ n. AllByRecursion (λ x. x < n) cs) s (codes_without_excess q 0 cs (no_excess (first_excess q 0 cs) f));
    }

pub no_fault : (o : Option FormFault) → unless {X = Unit {0}} o (Ok tt) ≡ Ok tt → o ≡ None
no_fault (Some f) e = absurd (let z : ◌≡◌ {A = ℕ} 0 1 = cc in omega arith)
no_fault None e = refl

pub checked_form : (F : Algebra) (f : Form) → check_answer F f ≡ Ok tt → Sound F f.shape.q f.shape.m f.shape.d f.coefficients.now
checked_form F f e =
    sound_form F f.shape.q f.shape.m f.shape.d f.coefficients.now
    (no_fault (form_fault F f.shape.q f.shape.m f.shape.d f.coefficients.now) e)
