-- A field's codes: the laws, and what is shown over any carrier, on them.
use Rattle.std.proofs.Common.{◌≡◌, ℕ, zero, suc, ◌<◌, List, [], ◌∷◌, length, get_or, sym, refl, ap, ◌∙◌, ap₂, arith}
use Rattle.std.specs.List.{AllByRecursion}
use Rattle.field.specs.Algebra.{Algebra, Lawful, ops}
use Rattle.field.specs.Vectors.{add, scale}
use Rattle.field.proofs.Elements.{Elem, same_code, elems, field_of, lift, lower, lower_lift}
use Rattle.field.proofs.Ring.{differ}
use Rattle.field.proofs.Vectors.{scale_codes, add_codes, scale_lower, add_lower}
use Rattle.poly.specs.Poly.{eval, last}
use Rattle.poly.proofs.Evals.{eval_add, eval_scale}
use Rattle.poly.proofs.Transfer.{eval_lift, eval_lower}
use Rattle.decode.specs.Coefficients.{mix, raise}
use Rattle.decode.proofs.Scalars as scalar

pub pos_from : (n : ℕ) → (n ≡ 0 → ⊥) → 0 < n
pos_from n f = omega (arith, f)

last_lift : (q : ℕ) (p : Elem q) (cs : List ℕ) (h : AllByRecursion (λ c. c < q) cs) → (last p (lift q cs h)).0 ≡ last p.0 cs
last_lift q p [] h = refl
last_lift q p (c ∷ cs) h = last_lift q (c, h.0) cs h.1

pub last_getD : (p : ℕ) (xs : List ℕ) (k : ℕ) → length xs ≡ suc k → last p xs ≡ get_or xs k 0
last_getD p [] k l = absurd (omega arith)
last_getD p (x ∷ []) zero l = refl
last_getD p (x ∷ []) (suc k) l = absurd (omega arith)
last_getD p (x ∷ (y ∷ ys)) zero l = absurd (omega arith)
last_getD p (x ∷ (y ∷ ys)) (suc k) l = last_getD x (y ∷ ys) k (omega arith)

module _ {F : Algebra} (lawful : Lawful F) where
  lower_raise : (a p : Elem F.size) (xs : List (Elem F.size))
      → lower (raise (elems lawful) a p xs) ≡ raise (ops F) a.0 p.0 (lower xs)
  lower_raise a p [] = refl
  lower_raise a p (x ∷ xs) = ap (λ w. F.plus (F.times a.0 x.0) p.0 ∷ w) (lower_raise a x xs)

  pub eval_in : (cs : List ℕ) (t : ℕ) → eval (ops F) cs t < F.size
  eval_in [] t = omega (arith, lawful.one_in)
  eval_in (c ∷ cs) t = lawful.plus_in _ _

  pub small_mix : (p : ℕ) (xs : List ℕ) (r : ℕ) (ys : List ℕ) → AllByRecursion (λ c. c < F.size) (mix (ops F) p xs r ys)
  small_mix p xs r ys = add_codes lawful (scale (ops F) p xs) (scale (ops F) r ys) (scale_codes lawful p xs) (scale_codes lawful r ys)

  pub small_raise : (a p : ℕ) (xs : List ℕ) → AllByRecursion (λ c. c < F.size) (raise (ops F) a p xs)
  small_raise a p [] = tt
  small_raise a p (x ∷ xs) = (lawful.plus_in _ _, small_raise a x xs)

  pub plus_zeros : F.plus 0 0 ≡ 0
  plus_zeros = lawful.plus_zero 0 (omega (arith, lawful.one_in))

  pub zero_plus : (x : ℕ) → x < F.size → F.plus 0 x ≡ x
  zero_plus x h = lawful.plus_comm 0 x ∙ lawful.plus_zero x h

  pub eval_mix : (p : ℕ) (xs : List ℕ) (r : ℕ) (ys : List ℕ) (t : ℕ) → p < F.size → r < F.size → t < F.size
      → AllByRecursion (λ c. c < F.size) xs → AllByRecursion (λ c. c < F.size) ys
      → eval (ops F) (mix (ops F) p xs r ys) t ≡ F.plus (F.times p (eval (ops F) xs t)) (F.times r (eval (ops F) ys t))
  eval_mix p xs r ys t hp hr ht hx hy =
      let q = F.size in
      let E = elems lawful in
      let X = lift q xs hx in
      let Y = lift q ys hy in
      let P : Elem q = (p, hp) in
      let R : Elem q = (r, hr) in
      let T : Elem q = (t, ht) in
      let s = ap (λ w. w.0) (eval_add (field_of lawful) (scale E P X) (scale E R Y) T) in
      let u = ap (λ w. w.0) (eval_scale (field_of lawful) P X T) in
      let v = ap (λ w. w.0) (eval_scale (field_of lawful) R Y T) in
      cc (
        eval_lower lawful (add E (scale E P X) (scale E R Y)) T,
        add_lower lawful (scale E P X) (scale E R Y),
        scale_lower lawful P X,
        scale_lower lawful R Y,
        lower_lift q xs hx,
        lower_lift q ys hy,
        eval_lift lawful xs hx T,
        eval_lift lawful ys hy T,
      )

  pub eval_raise : (u : ℕ) (xs : List ℕ) (t : ℕ) → u < F.size → t < F.size → AllByRecursion (λ c. c < F.size) xs → last 0 xs ≡ 0
      → eval (ops F) (raise (ops F) (F.minus u) 0 xs) t ≡ F.times (F.plus (F.minus u) t) (eval (ops F) xs t)
  eval_raise u xs t hu ht hx e =
      let L = lawful in
      let E = elems L in
      let X = lift F.size xs hx in
      let a : Elem F.size = (F.minus u, lawful.minus_in u) in
      let s = scalar.eval_raise (field_of L) a E.zero X (t, ht) (same_code (last_lift F.size E.zero xs hx ∙ e)) in
      ap (λ w. eval (ops F) (raise (ops F) (F.minus u) 0 w) t) (sym (lower_lift F.size xs hx))
      ∙ ap (λ w. eval (ops F) w t) (sym (lower_raise a E.zero X))
      ∙ sym (eval_lower L (raise E a E.zero X) (t, ht))
      ∙ ap (λ w. w.0) s
      ∙ zero_plus _ (lawful.times_in _ _)
      ∙ ap (F.times (F.plus (F.minus u) t)) (eval_lift L xs hx (t, ht))

  pub mix_meets : (p r z n m e f : ℕ) → p < F.size → r < F.size → z < F.size → e < F.size → f < F.size → n ≡ F.times z e → m ≡ F.times z f
      → F.plus (F.times p n) (F.times r m) ≡ F.times z (F.plus (F.times p e) (F.times r f))
  mix_meets p r z n m e f hp hr hz he hf h k =
      ap₂ (λ x y. F.plus (F.times p x) (F.times r y)) h k
      ∙ ap (λ w. w.0) (scalar.mix_meets (field_of lawful) (p, hp) (r, hr) (z, hz) (F.times z e, lawful.times_in z e) (F.times z f, lawful.times_in z f) (e, he) (f, hf) (same_code refl) (same_code refl))

  pub raise_meets : (t z n e : ℕ) → t < F.size → z < F.size → e < F.size → n ≡ F.times z e → F.times t n ≡ F.times z (F.times t e)
  raise_meets t z n e ht hz he h =
      ap (F.times t) h
      ∙ ap (λ w. w.0) (scalar.raise_meets (field_of lawful) (t, ht) (z, hz) (F.times z e, lawful.times_in z e) (e, he) (same_code refl))

  -- N(u) - z E(u)
  pub no_discrepancy : (z n e : ℕ) → z < F.size → n < F.size → e < F.size → F.plus n (F.minus (F.times z e)) ≡ 0 → n ≡ F.times z e
  no_discrepancy z n e hz hn he h = ap (λ w. w.0) (scalar.no_discrepancy (field_of lawful) (z, hz) (n, hn) (e, he) (same_code h))

  pub discrepancies_meet : (z n m e f : ℕ) → z < F.size → n < F.size → m < F.size → e < F.size → f < F.size
      → F.plus (F.times (F.plus n (F.minus (F.times z e))) m) (F.times (F.minus (F.plus m (F.minus (F.times z f)))) n)
      ≡ F.times z (F.plus (F.times (F.plus n (F.minus (F.times z e))) f) (F.times (F.minus (F.plus m (F.minus (F.times z f)))) e))
  discrepancies_meet z n m e f hz hn hm he hf =
      ap (λ w. w.0) (scalar.discrepancies_meet (field_of lawful) (z, hz) (n, hn) (m, hm) (e, he) (f, hf))

  pub minus_pos : (x : ℕ) → x < F.size → 0 < x → 0 < F.minus x
  minus_pos x h p =
      pos_from (F.minus x) (λ e. let z : x ≡ 0 = sym (lawful.plus_zero x h) ∙ ap (F.plus x) (sym e) ∙ lawful.plus_minus x h in omega arith)

  -- the factor X - u vanishes at u, and nowhere else
  pub factor_zero : (u : ℕ) → u < F.size → F.plus (F.minus u) u ≡ 0
  factor_zero u h = lawful.plus_comm (F.minus u) u ∙ lawful.plus_minus u h

  pub factor_pos : (u t : ℕ) → u < F.size → t < F.size → (t ≡ u → ⊥) → 0 < F.plus (F.minus u) t
  factor_pos u t hu ht n =
      pos_from (F.plus (F.minus u) t) (λ e.
      differ (field_of lawful) (u, hu) (t, ht) (λ s. n (ap (λ w. w.0) s)) (same_code (lawful.plus_comm t (F.minus u) ∙ e)))

  pub cancel_times : (x y z : ℕ) → x < F.size → y < F.size → z < F.size → (x ≡ 0 → ⊥) → F.times y x ≡ F.times z x → y ≡ z
  cancel_times x y z hx hy hz n h =
      ap (λ w. w.0) (scalar.cancel_times (field_of lawful) (x, hx) (y, hy) (z, hz) (λ s. n (ap (λ w. w.0) s)) (same_code h))

  pub refined : (x z y : ℕ) → x < F.size → z < F.size → y < F.size → 0 < y
      → F.plus (F.times 1 x) (F.times (F.times (F.plus z (F.minus x)) (F.over y)) y) ≡ z
  refined x z y hx hz hy p =
      ap (λ w. w.0) (scalar.refined (field_of lawful) (x, hx) (z, hz) (y, hy) (λ s. let e : y ≡ 0 = ap (λ w. w.0) s in omega arith))
