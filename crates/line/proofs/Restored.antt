-- A form along a line, and what a fair line gives of it.
use Rattle.std.proofs.Common.{◌≡◌, ℕ, suc, ◌<◌, ◌≤◌, not, eqb, ◌≢◌, List, [], ◌∷◌, length, get_or, take, None, Ok, Result, sym, refl, ap, ◌∙◌, ap₂, ⊎_elim, arith}
use Rattle.std.proofs.lemmas.List.{length-map}
use Rattle.std.proofs.lemmas.Bool.{cases_eq, cases_lt, lt-ltb, le-ltb, eq-eqb, ne_eqb, cond-true, cond-false}
use Rattle.field.specs.Algebra.{Algebra, Lawful, Codes, ops, power}
use Rattle.field.specs.Vectors.{along}
use Rattle.field.proofs.Elements.{zero_in, power_in}
use Rattle.field.proofs.Inverses.{times_zero, power_positive}
use Rattle.poly.specs.Poly.{eval, Degree}
use Rattle.space.specs.Places.{Point, Normal, divisor, normal, place_of, point_of}
use Rattle.space.proofs.Undone.{undone}
use Rattle.space.proofs.Normals.{divisor_in, normal_back, normal_normal}
use Rattle.form.specs.Forms.{vectors, total, value_at, symbol_at, Leading}
use Rattle.form.proofs.OnForms.{multiples, on_lines, leading_value}
use Rattle.cells.specs.declared.entries.Entry.{Entry}
use Rattle.cells.specs.declared.entries.Entry.TheVariants.{Symbol, Missing}
use Rattle.decode.proofs.Codes.{cancel_times, last_getD}
use Rattle.readings.specs.declared.kinds.Reading.{Reading}
use Rattle.readings.specs.declared.kinds.AnsweredLine.{AnsweredLine}
use Rattle.readings.specs.declared.kinds.AnswerFault.{AnswerFault}
use Rattle.readings.specs.Counts.{bits}
use Rattle.readings.specs.Readings.{at_mark, disagrees, wrongs, missings, NearAnswered}
use Rattle.readings.proofs.Agreed.{same_test}
use Rattle.line.specs.Asking.{point_on, line_point, line_place, line_divisor, target, marks_fault}
use Rattle.line.specs.Lines.{seen, reading_of, line_readings}
use Rattle.line.specs.Fair.{other_symbol, untrues, Fair, restored}
use Rattle.line.proofs.OnLine.{infinite, finite, on_point}
use Rattle.line.proofs.Marks.{both_none, sound_mark}

module _ {F : Algebra} (L : Lawful F) where
  total_in : (p cs : List ℕ) (vs : List (List ℕ)) → total (ops F) p cs vs < F.size
  total_in p [] vs = zero_in L
  total_in p (c ∷ cs) [] = zero_in L
  total_in p (c ∷ cs) (u ∷ vs) = L.plus_in _ _

  -- the value of a form is a code
  pub value_in : (m d : ℕ) (form p : List ℕ) → value_at F m d form p < F.size
  value_in m d form p = total_in (take (suc m) p) form (vectors (length (take (suc m) p)) d)

module _ {F : Algebra} (L : Lawful F) (m d : ℕ) (form : List ℕ) (wide : m ≤ 3) (codes : Codes F form) where
  normal_point : (i : ℕ) → Normal F.size m (point_of F.size m i)
  normal_point i = (undone F.size m L.one_in wide).point_normal i

  leading : (p : List ℕ) → Codes F p → Leading F m d form p (value_at F m d form p)
  leading p c = leading_value F m d form p (value_at F m d form p) c codes refl (multiples L d) (on_lines L d)

  -- the value at a point is that at its place, times the divisor to the degree
  value_place : (p : List ℕ) → Point F.size m p → 0 < divisor p
      → value_at F m d form p ≡ F.times (power (ops F) (divisor p) d) (symbol_at F m d form (place_of F.size m (normal F p)))
  value_place p point pos =
      let n = normal_normal L m p point pos in
      let back = (undone F.size m L.one_in wide).point_of_place (normal F p) n in
      ap (value_at F m d form) (sym (normal_back L p point.codes pos))
      ∙ (leading (normal F p) n.point.codes).multiples (divisor p) (divisor_in L p point.codes)
      ∙ ap (λ x. F.times (power (ops F) (divisor p) d) (value_at F m d form x)) (sym back)

  along_zero : (w v : List ℕ) → Codes F w → length w ≡ length v → along (ops F) w v 0 ≡ w
  along_zero [] [] c l = refl
  along_zero [] (y ∷ v) c l = absurd (omega arith)
  along_zero (x ∷ w) [] c l = refl
  along_zero (x ∷ w) (y ∷ v) c l =
      ap₂ (λ a b. a ∷ b) (ap (F.plus x) (L.times_comm 0 y ∙ times_zero L y) ∙ L.plus_zero x c.0) (along_zero w v c.1 (omega arith))

  module _ (w v : ℕ) where
    abbrev first : List ℕ
    first = point_of F.size m w

    abbrev second : List ℕ
    second = point_of F.size m v

    first_point : Point F.size m first
    first_point = (normal_point w).point

    second_point : Point F.size m second
    second_point = (normal_point v).point

    -- the form along the line
    pub form_along : Degree F d (λ t. value_at F m d form (along (ops F) first second t)) (value_at F m d form second)
    form_along = (leading second second_point.codes).lines first (first_point.four ∙ sym second_point.four) first_point.codes

    pub h : List ℕ
    h = form_along.coefficients

    pub h_long : length h ≡ suc d
    unfolding h
    h_long = form_along.long

    pub h_codes : Codes F h
    unfolding h
    h_codes = form_along.codes

    at_marks : (t : ℕ) → t ≤ F.size → at_mark F d h t ≡ value_at F m d form (point_on F first second t)
    unfolding h
    at_marks t l =
        ⊎_elim
        (λ (e : t ≡ F.size).
        cond-true (eqb t F.size) _ _ (eq-eqb t F.size e)
        ∙ sym (last_getD 0 h d h_long) ∙ form_along.top ∙ ap (value_at F m d form) (sym (infinite L first second t e)))
        (λ (n : t ≢ F.size).
        cond-false (eqb t F.size) _ _ (ne_eqb t F.size n)
        ∙ sym (form_along.at t (omega arith)) ∙ ap (value_at F m d form) (sym (finite L first second t n)))
        (cases_eq t F.size)

    pub symbol_first : eval (ops F) h 0 ≡ symbol_at F m d form w
    unfolding h
    symbol_first =
        sym (form_along.at 0 (zero_in L))
        ∙ ap (value_at F m d form) (along_zero first second first_point.codes (first_point.four ∙ sym second_point.four))

    module _ (entries : List Entry) where
      reading : ℕ → Reading
      reading t = reading_of F.size entries (target F m w v t)

      wrong_entry : (t : ℕ) → t ≤ F.size → 0 < line_divisor F m w v t → (e : Entry)
          → disagrees F d h (reading t) (seen F.size e) ≡ other_symbol (symbol_at F m d form (line_place F m w v t)) (seen F.size e)
      unfolding reading
      wrong_entry t l pos Missing = refl
      wrong_entry t l pos (Symbol s) =
          ⊎_elim
          (λ (i : s < F.size).
          let p = line_point F m w v t in
          let D = line_divisor F m w v t in
          let k = power (ops F) D d in
          let x = symbol_at F m d form (line_place F m w v t) in
          let point = on_point L m t first second first_point second_point in
          let in-D : D < F.size = divisor_in L p point.codes in
          let nz : k ≢ 0 = λ z. omega (arith, power_positive L D d pos in-D) in
          let in-x : x < F.size = value_in L m d form (point_of F.size m (line_place F m w v t)) in
          let a : at_mark F d h t ≡ F.times k x = at_marks t l ∙ value_place p point pos in
          let b : eqb (at_mark F d h t) (F.times k s) ≡ eqb x s =
          ap (λ y. eqb y (F.times k s)) a
          ∙ same_test (F.times k x) (F.times k s) x s
          (λ e. cancel_times L k x s (power_in L D d) in-x i nz (L.times_comm x k ∙ e ∙ L.times_comm k s))
          (λ e. ap (F.times k) e) in
          rw (lt-ltb s F.size i) (ap not b))
          (λ (i : F.size ≤ s). rw (le-ltb s F.size i) refl)
          (cases_lt s F.size)

      wrong_untrue : (before : List ℕ) (i : ℕ) (ts : List ℕ) → marks_fault F first second before i ts ≡ None
          → wrongs F d h (line_readings F m entries w v ts) ≡ untrues F m d form entries w v ts
      unfolding reading
      wrong_untrue before i [] e = refl
      wrong_untrue before i (t ∷ ts) e =
          let (a, b) = both_none _ _ e in
          let s = sound_mark F first second before i t a in
          ap₂ (λ x y. x ∷ y) (wrong_entry t s.high s.somewhere (get_or entries (line_place F m w v t) Missing)) (wrong_untrue _ _ ts b)

      -- on a fair line the answer is the form's
      pub fair_answer : (marks : List ℕ) → marks_fault F (point_of F.size m w) (point_of F.size m v) [] 0 marks ≡ None
          → Fair F m d form entries w v marks → (r : Result AnsweredLine AnswerFault)
          → NearAnswered F d (line_readings F m entries w v marks) r → r ≡ Ok (restored F m d form entries w v marks)
      fair_answer marks e fair r near =
          let rs = line_readings F m entries w v marks in
          let u : wrongs F d h rs ≡ untrues F m d form entries w v marks = wrong_untrue [] 0 marks e in
          let n : length rs ≡ length marks = length-map marks (λ t. reading_of F.size entries (target F m w v t)) in
          let S : ℕ → ℕ → AnsweredLine = λ a b. record { symbol = a; wrong = b; missing = bits (missings rs) } in
          near h h_long h_codes (rw (u, n) fair) ∙ ap Ok (ap₂ S symbol_first (ap bits u))
