-- One step, at a point: what the combinations come to.
use Rattle.std.proofs.Common.{◌≡◌, ◌≢◌, List, [], ◌∷◌, sym}
use Rattle.field.specs.Algebra.{Ops}
use Rattle.field.proofs.Abstract.{IsField}
use Rattle.poly.specs.Poly.{eval, last}
use Rattle.field.proofs.Ring.{ring, zero_add, add_back}
use Rattle.decode.specs.Coefficients.{raise}

module _ {K : Type 0} {o : Ops K} (L : IsField o) where
  open o use {zero as 𝟘, one as 𝟙, plus as ◌⊕◌, times as ◌⊗◌, minus as neg, over as inv}

  infixl 60 ◌⊕◌
  infixl 70 ◌⊗◌
  -- both pairs meet the value z
  pub mix_meets : (p q z n m e f : K) → n ≡ z ⊗ e → m ≡ z ⊗ f → p ⊗ n ⊕ q ⊗ m ≡ z ⊗ (p ⊗ e ⊕ q ⊗ f)
  mix_meets p q z n m e f h k = rw (h, k) (simp (ring, L))

  pub raise_meets : (t z n e : K) → n ≡ z ⊗ e → t ⊗ n ≡ z ⊗ (t ⊗ e)
  raise_meets t z n e h = rw h (simp (ring, L))

  shared : (a b c z e f : K) → a ⊗ (b ⊕ z ⊗ f) ⊕ c ⊗ (a ⊕ z ⊗ e) ≡ a ⊗ (b ⊕ c) ⊕ z ⊗ (a ⊗ f ⊕ c ⊗ e)
  shared a b c z e f = simp (ring, L)

  back : (n w : K) → n ≡ (n ⊕ neg w) ⊕ w
  back n w = sym (cc (L.add_assoc n (neg w) w, L.add_comm (neg w) w, L.add_minus w, L.add_zero n))

  -- neither does: the gaps cancel
  pub discrepancies_meet : (z n m e f : K) → (n ⊕ neg (z ⊗ e)) ⊗ m ⊕ neg (m ⊕ neg (z ⊗ f)) ⊗ n ≡ z ⊗ ((n ⊕ neg (z ⊗ e)) ⊗ f ⊕ neg (m ⊕ neg (z ⊗ f)) ⊗ e)
  discrepancies_meet z n m e f =
      let a = n ⊕ neg (z ⊗ e) in
      let b = m ⊕ neg (z ⊗ f) in
      let s = shared a b (neg b) z e f in
      let u : m ≡ b ⊕ z ⊗ f = back m (z ⊗ f) in
      let v : n ≡ a ⊕ z ⊗ e = back n (z ⊗ e) in
      let w : a ⊗ (b ⊕ neg b) ≡ 𝟘 = rw (L.add_minus b) (simp (ring, L)) in
      cc (zero_add L (z ⊗ (a ⊗ f ⊕ neg b ⊗ e)))

  -- no gap
  pub no_discrepancy : (z n e : K) → n ⊕ neg (z ⊗ e) ≡ 𝟘 → n ≡ z ⊗ e
  no_discrepancy z n e h = cc (back n (z ⊗ e), zero_add L (z ⊗ e))

  -- X + a times the list, of which the last is zero
  pub eval_raise : (a p : K) (xs : List K) (t : K) → last p xs ≡ 𝟘 → eval o (raise o a p xs) t ≡ p ⊕ (a ⊕ t) ⊗ eval o xs t
  eval_raise a p [] t h = rw h (simp (ring, L))
  eval_raise a p (c ∷ cs) t h = rw (eval_raise a c cs t h) (simp (ring, L))

  pub cancel_times : (x y z : K) → x ≢ 𝟘 → y ⊗ x ≡ z ⊗ x → y ≡ z
  cancel_times x y z n h = cc (L.mul_one y, L.mul_one z, L.mul_over x n, L.mul_assoc y x (inv x), L.mul_assoc z x (inv x))

  -- what is missed, over y and times y again
  pub refined : (x z y : K) → y ≢ 𝟘 → 𝟙 ⊗ x ⊕ ((z ⊕ neg x) ⊗ inv y) ⊗ y ≡ z
  refined x z y n =
      let w = z ⊕ neg x in
      let e : (w ⊗ inv y) ⊗ y ≡ w = cc (L.mul_assoc w (inv y) y, L.mul_comm (inv y) y, L.mul_over y n, L.mul_one w) in
      cc (L.mul_comm 𝟙 x, L.mul_one x, add_back L x z)
