-- What the laws give of products and inverses of codes.
use Rattle.std.proofs.Common.{◌≡◌, ℕ, zero, suc, ◌<◌, ◌≤◌, ◌≢◌, Option, Some, None, sym, refl, ap, ◌∙◌, ⊎_elim, arith}
use Rattle.std.proofs.lemmas.Bool.{cases_lt, lt-ltb, le-ltb}
use Rattle.std.specs.Option.{MatchOption}
use Rattle.field.specs.Algebra.{Algebra, Lawful, inverse, ops, power}
use Rattle.field.proofs.Ring.{mul_zero, no_zero_divisor}
use Rattle.field.proofs.Elements.{Elem, field_of, same_code, power_in}

module _ {F : Algebra} (L : Lawful F) where
  pub times_zero : (a : ℕ) → F.times a 0 ≡ 0
  times_zero a =
      ⊎_elim
      (λ (h : a < F.size). ap (λ (x : Elem F.size). x.0) (mul_zero (field_of L) (a, h)))
      (λ (h : F.size ≤ a). L.times_out a 0 h)
      (cases_lt a F.size)

  pub one_times : (a : ℕ) → a < F.size → F.times 1 a ≡ a
  one_times a h = L.times_comm 1 a ∙ L.times_one a h

  -- a factor of 1 is a code other than 0
  pub factor_of_one : (a b : ℕ) → F.times a b ≡ 1 → (0 < a) × (a < F.size)
  factor_of_one a b e =
      let none : a ≢ 0 = λ z. (let n : ◌≡◌ {A = ℕ} 0 1 = sym (times_zero b) ∙ L.times_comm b 0 ∙ ap (λ x. F.times x b) (sym z) ∙ e in omega arith) in
      ⊎_elim
      (λ (h : a < F.size). (omega arith, h))
      (λ (h : F.size ≤ a). let n : ◌≡◌ {A = ℕ} 0 1 = sym (L.times_out a b h) ∙ e in absurd (omega arith))
      (cases_lt a F.size)

  -- there is one inverse only
  pub over_only : (a b : ℕ) → b < F.size → F.times a b ≡ 1 → F.over a ≡ b
  over_only a b h e =
      let (p, i) = factor_of_one a b e in
      let o = F.over a in
      sym (L.times_one o (L.over_in a)) ∙ ap (F.times o) (sym e) ∙ sym (L.times_assoc o a b (L.over_in a) i h)
      ∙ ap (λ x. F.times x b) (L.times_comm o a ∙ L.times_over a p i) ∙ one_times b h

  pub inverse_at : (a : ℕ) → 0 < a → a < F.size → inverse F a ≡ Some (F.over a)
  inverse_at a p h = rw (lt-ltb 0 a p, lt-ltb a F.size h)

  pub inverse_is : (a b : ℕ) → b < F.size → F.times a b ≡ 1 → Some b ≡ inverse F a
  inverse_is a b h e = let (p, i) = factor_of_one a b e in ap Some (sym (over_only a b h e)) ∙ sym (inverse_at a p i)

  pub inverse_of_zero : inverse F 0 ≡ None
  inverse_of_zero = refl

  pub inverse_past : (a : ℕ) → F.size ≤ a → inverse F a ≡ None
  inverse_past a h = let z : 0 < a = omega (arith, L.one_in) in rw (lt-ltb 0 a z, le-ltb a F.size h)

  -- the inverse of a code other than 0 is none either
  pub over_positive : (a : ℕ) → 0 < a → a < F.size → 0 < F.over a
  over_positive a p h = (factor_of_one (F.over a) a (L.times_comm (F.over a) a ∙ L.times_over a p h)).0

  pub inverse_none : (a : ℕ) → ((b : ℕ) → 0 < b → b < F.size → F.times a b ≡ 1 → ⊥) → None ≡ inverse F a
  inverse_none zero n = refl
  inverse_none (suc a) n =
      ⊎_elim
      (λ (h : suc a < F.size). absurd (n (F.over (suc a)) (over_positive (suc a) (omega arith) h) (L.over_in (suc a)) (L.times_over (suc a) (omega arith) h)))
      (λ (h : F.size ≤ suc a). sym (inverse_past (suc a) h))
      (cases_lt (suc a) F.size)

  -- an inverse that is answered is that of a code other than 0
  pub inverse_some : (a b : ℕ) → inverse F a ≡ Some b → (0 < a) × (a < F.size) × (b ≡ F.over a)
  inverse_some zero b e = absurd (let z : ◌≡◌ {A = ℕ} 0 1 = cc in omega arith)
  inverse_some (suc a) b e =
      ⊎_elim
      (λ (h : suc a < F.size). let e' = inverse_at (suc a) (omega arith) h in (omega arith, h, cc))
      (λ (h : F.size ≤ suc a). let e' = inverse_past (suc a) h in absurd (let z : ◌≡◌ {A = ℕ} 0 1 = cc in omega arith))
      (cases_lt (suc a) F.size)

  -- a product of two codes other than 0 is none either
  pub times_positive : (a b : ℕ) → 0 < a → a < F.size → 0 < b → b < F.size → 0 < F.times a b
  times_positive a b p h q k =
      let n : F.times a b ≢ 0 = λ z.
      (let e = no_zero_divisor (field_of L) (a, h) (b, k) (λ y. (let w : a ≡ 0 = ap (λ (x : Elem F.size). x.0) y in omega arith)) (same_code z) in
      let w : b ≡ 0 = ap (λ (x : Elem F.size). x.0) e in
      omega arith) in
      omega arith

  pub power_positive : (x e : ℕ) → 0 < x → x < F.size → 0 < power (ops F) x e
  power_positive x zero p h = omega arith
  power_positive x (suc e) p h = times_positive (power (ops F) x e) x (power_positive x e p h) (power_in L x e) p h

  -- the first of the codes from s on, at most 1, that a times it is 1
  pub inverse_found : (a s q : ℕ) → s ≤ 1 → q ≡ F.size → (r : Option ℕ) → MatchOption r ((k : ℕ) → s ≤ k → k < q → F.times a k ≡ 1 → ⊥) (λ i. (s ≤ i) × (i < q) × (F.times a i ≡ 1) × ((k : ℕ) → s ≤ k → k < i → F.times a k ≡ 1 → ⊥)) → r ≡ inverse F a
  inverse_found a s q l e None h = inverse_none a (λ b p k. h b (omega arith) (omega (arith, e)))
  inverse_found a s q l e (Some b) h = inverse_is a b (omega (arith, e, h.1)) h.2
