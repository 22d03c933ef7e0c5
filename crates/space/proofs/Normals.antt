-- The normal form of a point.
use Rattle.std.proofs.Common.{◌≡◌, ℕ, zero, suc, ◌-◌, ◌<◌, List, [], ◌∷◌, drop, replicate, sym, refl, ap, ◌∙◌, subst, ap₂, ⊎_elim, arith}
use Rattle.std.proofs.lemmas.Bool.{cases_eq, ne_eqb}
use Rattle.field.specs.Algebra.{Algebra, Lawful, Codes, inverse, ops}
use Rattle.field.specs.Vectors.{scale}
use Rattle.field.proofs.Elements.{zero_in}
use Rattle.field.proofs.Inverses.{times_zero, times_positive, over_positive, inverse_at}
use Rattle.field.proofs.Vectors.{length_scale, scale_codes, scale_scale, scale_one}
use Rattle.space.specs.Places.{divisor, normal, Point, Normal}
use Rattle.space.specs.Points.{divided, normal_form, NormalAnswer}
use Rattle.space.proofs.Undone.{not_zero}

module _ {F : Algebra} (L : Lawful F) where
  pub divisor_in : (p : List ℕ) → Codes F p → divisor p < F.size
  divisor_in [] a = zero_in L
  divisor_in (zero ∷ xs) a = divisor_in xs a.1
  divisor_in (suc x ∷ xs) a = rw (not_zero x) a.0

  divisor_scale : (k : ℕ) → 0 < k → k < F.size → (p : List ℕ) → Codes F p → divisor (scale (ops F) k p) ≡ F.times k (divisor p)
  divisor_scale k h b [] a = sym (times_zero L k)
  divisor_scale k h b (zero ∷ xs) a = rw (times_zero L k) (divisor_scale k h b xs a.1)
  divisor_scale k h b (suc x ∷ xs) a =
      let n = ne_eqb (F.times k (suc x)) 0 (λ e. omega (arith, times_positive L k (suc x) h b (omega arith) a.0)) in
      rw (n, not_zero x) refl

  -- the normal form is 1 at its first coordinate that is not 0
  pub normal_first : (p : List ℕ) → Codes F p → 0 < divisor p → divisor (normal F p) ≡ 1
  normal_first p a h =
      let k = divisor p in
      let b = divisor_in p a in
      let o = F.over k in
      divisor_scale o (over_positive L k h b) (L.over_in k) p a ∙ L.times_comm o k ∙ L.times_over k h b

  -- a point is its divisor times its normal form
  pub normal_back : (p : List ℕ) → Codes F p → 0 < divisor p → scale (ops F) (divisor p) (normal F p) ≡ p
  normal_back p a h =
      let k = divisor p in
      let b = divisor_in p a in
      scale_scale L k (F.over k) b (L.over_in k) p a ∙ ap (λ w. scale (ops F) w p) (L.times_over k h b) ∙ scale_one L p a

  scale_zeros : (k n : ℕ) → scale (ops F) k (replicate n 0) ≡ replicate n 0
  scale_zeros k zero = refl
  scale_zeros k (suc n) = ap₂ (λ u v. u ∷ v) (times_zero L k) (scale_zeros k n)

  drop_scale : (k n : ℕ) (p : List ℕ) → drop n (scale (ops F) k p) ≡ scale (ops F) k (drop n p)
  drop_scale k zero p = refl
  drop_scale k (suc n) [] = refl
  drop_scale k (suc n) (x ∷ p) = drop_scale k n p

  -- the normal form of a point that is not 0 is a normal point
  pub normal_normal : (m : ℕ) (p : List ℕ) → Point F.size m p → 0 < divisor p → Normal F.size m (normal F p)
  normal_normal m p point h = record {
    point = record {
      four = length_scale F (F.over (divisor p)) p ∙ point.four;
      codes = scale_codes L (F.over (divisor p)) p;
      past = drop_scale (F.over (divisor p)) (suc m) p ∙ ap (scale (ops F) (F.over (divisor p))) point.past ∙ scale_zeros (F.over (divisor p)) (3 - m);
    };
    first = normal_first p point.codes h;
  }

  pub normal_answer : (m : ℕ) (p : List ℕ) → Point F.size m p → NormalAnswer F m p (normal_form F p)
  normal_answer m p point =
      ⊎_elim
      (λ (e : divisor p ≡ 0). subst (λ o. NormalAnswer F m p (divided p (ops F) o)) (sym (ap (inverse F) e)) e)
      (λ (n : divisor p ≡ 0 → ⊥).
      let h : 0 < divisor p = omega arith in
      subst (λ o. NormalAnswer F m p (divided p (ops F) o)) (sym (inverse_at L (divisor p) h (divisor_in p point.codes))) (record {
        divides = refl;
        positive = h;
        is = refl;
        back = normal_back p point.codes h;
        point = normal_normal m p point h;
      }))
      (cases_eq (divisor p) 0)
