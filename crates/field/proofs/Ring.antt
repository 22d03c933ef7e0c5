-- The algebra of a field with no side conditions.
use Rattle.std.proofs.Common.{◌≡◌, ◌≢◌, sym, ap, ◌∙◌}
use Rattle.field.specs.Algebra.{Ops}
use Rattle.field.proofs.Abstract.{IsField}

module _ {K : Type 0} {o : Ops K} (L : IsField o) where
  open o use {zero as 𝟘, one as 𝟙, plus as ◌⊕◌, times as ◌⊗◌, minus as neg, over as inv}
  open L use {add_comm, add_assoc, add_zero, add_minus, mul_comm, mul_assoc, mul_one, mul_over, distrib}

  infixl 60 ◌⊕◌
  infixl 70 ◌⊗◌
  pub add_left_comm : (x y z : K) → x ⊕ (y ⊕ z) ≡ y ⊕ (x ⊕ z)
  add_left_comm x y z = sym (add_assoc x y z) ∙ ap (λ w. w ⊕ z) (add_comm x y) ∙ add_assoc y x z

  pub mul_left_comm : (x y z : K) → x ⊗ (y ⊗ z) ≡ y ⊗ (x ⊗ z)
  mul_left_comm x y z = sym (mul_assoc x y z) ∙ ap (λ w. w ⊗ z) (mul_comm x y) ∙ mul_assoc y x z

  pub zero_add : (x : K) → 𝟘 ⊕ x ≡ x
  zero_add x = add_comm 𝟘 x ∙ add_zero x

  pub one_mul : (x : K) → 𝟙 ⊗ x ≡ x
  one_mul x = mul_comm 𝟙 x ∙ mul_one x

  pub distrib_right : (x y z : K) → (x ⊕ y) ⊗ z ≡ x ⊗ z ⊕ y ⊗ z
  distrib_right x y z = cc (mul_comm (x ⊕ y) z, distrib z x y, mul_comm z x, mul_comm z y)

  -- what is added on the left can be taken away
  pub cancel : (x y z : K) → x ⊕ y ≡ x ⊕ z → y ≡ z
  cancel x y z e = sym (gone y) ∙ ap (λ w. neg x ⊕ w) e ∙ gone z
    where
      gone : (w : K) → neg x ⊕ (x ⊕ w) ≡ w
      gone w = cc (add_assoc (neg x) x w, add_comm (neg x) x, add_minus x, zero_add w)

  pub mul_zero : (x : K) → x ⊗ 𝟘 ≡ 𝟘
  mul_zero x = cancel (x ⊗ 𝟘) (x ⊗ 𝟘) 𝟘 (cc (distrib x 𝟘 𝟘, add_zero 𝟘, add_zero (x ⊗ 𝟘)))

  pub zero_mul : (x : K) → 𝟘 ⊗ x ≡ 𝟘
  zero_mul x = mul_comm 𝟘 x ∙ mul_zero x

  -- the difference of two
  pub add_back : (a t : K) → a ⊕ (t ⊕ neg a) ≡ t
  add_back a t = cc (add_left_comm a t (neg a), add_minus a, add_zero t)

  pub no_zero_divisor : (x y : K) → x ≢ 𝟘 → x ⊗ y ≡ 𝟘 → y ≡ 𝟘
  no_zero_divisor x y n e =
      sym (one_mul y) ∙ cc (mul_over x n, mul_comm x (inv x), mul_assoc (inv x) x y, e, mul_zero (inv x))

  pub differ : (a t : K) → t ≢ a → (t ⊕ neg a) ≢ 𝟘
  differ a t n e = n (cc (add_back a t, e, add_zero a))

  pub adds_comm : (x y : K) → x ⊕ y ≡ y ⊕ x
  adds_comm = add_comm

  pub adds_assoc : (x y z : K) → (x ⊕ y) ⊕ z ≡ x ⊕ (y ⊕ z)
  adds_assoc = add_assoc

  pub muls_comm : (x y : K) → x ⊗ y ≡ y ⊗ x
  muls_comm = mul_comm

  pub muls_assoc : (x y z : K) → (x ⊗ y) ⊗ z ≡ x ⊗ (y ⊗ z)
  muls_assoc = mul_assoc

  pub distrib_left : (x y z : K) → x ⊗ (y ⊕ z) ≡ x ⊗ y ⊕ x ⊗ z
  distrib_left = distrib

  pub plus_zero : (x : K) → x ⊕ 𝟘 ≡ x
  plus_zero = add_zero

  pub times_one : (x : K) → x ⊗ 𝟙 ≡ x
  times_one = mul_one

  pub neg_one : (x : K) → x ⊕ neg 𝟙 ⊗ x ≡ 𝟘
  neg_one x = cc (one_mul x, distrib_right 𝟙 (neg 𝟙) x, add_minus 𝟙, zero_mul x)

  pub same : (x y : K) → x ⊕ neg 𝟙 ⊗ y ≡ 𝟘 → x ≡ y
  same x y e = cancel (neg 𝟙 ⊗ y) x y (cc (add_comm (neg 𝟙 ⊗ y) x, add_comm (neg 𝟙 ⊗ y) y, neg_one y, e))

-- `simp (ring, L)` proves what holds in any commutative semiring
pub ruleset ring = (mul_zero, zero_mul, plus_zero, zero_add, times_one, one_mul, distrib_left, distrib_right, muls_assoc, muls_comm, mul_left_comm, adds_assoc, adds_comm, add_left_comm)
