-- A polynomial read from its other end.
use Rattle.std.proofs.Common.{◌≡◌, ℕ, suc, ◌-◌, ◌<◌, List, [], ◌∷◌, ◌++◌, reverse, length, get_or, sym, refl, ap, ◌∙◌, ap₂, arith}
use mathlib.Core.List.{reverse_aux, reverse-cons}
use Rattle.std.specs.List.{AllByRecursion}
use Rattle.std.proofs.lemmas.List.{length-reverse, get_or-reverse}
use Rattle.field.specs.Algebra.{Algebra, Lawful, Ops, Codes, ops, power}
use Rattle.field.proofs.Abstract.{IsField}
use Rattle.field.proofs.Ring.{ring}
use Rattle.field.proofs.Elements.{Elem, elems, field_of, lift, lower, lower_lift, length_lift, same_code, power_lower}
use Rattle.field.proofs.Inverses.{times_zero}
use Rattle.poly.specs.Poly.{eval}
use Rattle.poly.proofs.Transfer.{eval_lower}

module _ {K : Type 0} {o : Ops K} (L : IsField o) where
  open o use {zero as 𝟘, one as 𝟙, plus as ◌⊕◌, times as ◌⊗◌}

  infixl 60 ◌⊕◌
  infixl 70 ◌⊗◌
  apart : (x p e r : K) → x ⊕ r ⊗ (p ⊗ e) ≡ x ⊕ (p ⊗ r) ⊗ e
  apart x p e r = simp (ring, L)

  regroup : (x t e p w : K) → x ⊕ t ⊗ (e ⊕ p ⊗ w) ≡ (x ⊕ t ⊗ e) ⊕ (p ⊗ t) ⊗ w
  regroup x t e p w = simp (ring, L)

  eval_append : (xs ys : List K) (t : K) → eval o (xs ++ ys) t ≡ eval o xs t ⊕ power o t (length xs) ⊗ eval o ys t
  eval_append [] ys t = simp (ring, L)
  eval_append (x ∷ xs) ys t = ap (λ w. x ⊕ t ⊗ w) (eval_append xs ys t) ∙ regroup x t (eval o xs t) (power o t (length xs)) (eval o ys t)

  alone : (x u : K) → x ⊕ u ⊗ 𝟘 ≡ x
  alone x u = simp (ring, L)

  one_alone : (x t : K) → x ≡ 𝟙 ⊗ (x ⊕ t ⊗ 𝟘)
  one_alone x t = simp (ring, L)

  turned : (p e u t x : K) → p ⊗ e ⊕ (p ⊗ u) ⊗ x ≡ p ⊗ 𝟙 ⊗ e ⊕ (p ⊗ u) ⊗ x
  turned p e u t x = simp (ring, L)

  joined : (p e u t x : K) → p ⊗ (t ⊗ u) ⊗ e ⊕ (p ⊗ u) ⊗ x ≡ (p ⊗ u) ⊗ (x ⊕ t ⊗ e)
  joined p e u t x = simp (ring, L)

  -- at u, with t u = 1
  pub eval_reverse : (x : K) (xs : List K) (t u : K) → t ⊗ u ≡ 𝟙 → eval o (reverse (x ∷ xs)) u ≡ power o u (length xs) ⊗ eval o (x ∷ xs) t
  eval_reverse x [] t u h = alone x u ∙ one_alone x t
  eval_reverse x (y ∷ ys) t u h =
      let p = power o u (length ys) in
      let e = eval o (y ∷ ys) t in
      let n : length (reverse (y ∷ ys)) ≡ suc (length ys) = length-reverse (y ∷ ys) in
      ap (λ w. eval o w u) (reverse-cons x (y ∷ ys))
      ∙ eval_append (reverse (y ∷ ys)) (x ∷ []) u
      ∙ ap₂ (λ a b. a ⊕ b ⊗ (x ⊕ u ⊗ 𝟘)) (eval_reverse y ys t u h) (ap (power o u) n)
      ∙ ap (λ w. p ⊗ e ⊕ (p ⊗ u) ⊗ w) (alone x u)
      ∙ turned p e u t x
      ∙ ap (λ w. p ⊗ w ⊗ e ⊕ (p ⊗ u) ⊗ x) (sym h)
      ∙ joined p e u t x

reverse_lower : {q : ℕ} (xs ys : List (Elem q)) → lower (reverse_aux xs ys) ≡ reverse_aux (lower xs) (lower ys)
reverse_lower [] ys = refl
reverse_lower (x ∷ xs) ys = reverse_lower xs (x ∷ ys)

reverse_codes : (q : ℕ) (xs ys : List ℕ) → AllByRecursion (λ c. c < q) xs → AllByRecursion (λ c. c < q) ys → AllByRecursion (λ c. c < q) (reverse_aux xs ys)
reverse_codes q [] ys h k = k
reverse_codes q (x ∷ xs) ys h k = reverse_codes q xs (x ∷ ys) h.1 (h.0, k)

module _ {F : Algebra} (L : Lawful F) where
  pub codes_reverse : (h : List ℕ) → Codes F h → Codes F (reverse h)
  codes_reverse h c = reverse_codes F.size h [] c tt

  lifted : (X : List (Elem F.size)) (t u : Elem F.size) (d : ℕ) → length X ≡ suc d → F.times t.0 u.0 ≡ 1
      → eval (ops F) (reverse (lower X)) u.0 ≡ F.times (power (ops F) u.0 d) (eval (ops F) (lower X) t.0)
  lifted [] t u d l e = absurd (omega arith)
  lifted (x ∷ X) t u d l e =
      let n : length X ≡ d = omega arith in
      let s = ap (λ w. w.0) (eval_reverse (field_of L) x X t u (same_code e)) in
      ap (λ w. eval (ops F) w u.0) (sym (reverse_lower (x ∷ X) []))
      ∙ sym (eval_lower L (reverse (x ∷ X)) u) ∙ s
      ∙ ap₂ F.times (ap (λ k. (power (elems L) u k).0) n ∙ power_lower L u d) (eval_lower L (x ∷ X) t)

  -- a polynomial of degree d backwards, at 1 / t
  pub at_inverse : (h : List ℕ) (d t u : ℕ) → Codes F h → length h ≡ suc d → t < F.size → u < F.size → F.times t u ≡ 1
      → eval (ops F) (reverse h) u ≡ F.times (power (ops F) u d) (eval (ops F) h t)
  at_inverse h d t u c l it iu e =
      let s = lifted (lift F.size h c) (t, it) (u, iu) d (length_lift F.size h c ∙ l) e in
      rw (lower_lift F.size h c) at s

  pub eval_at_zero : (cs : List ℕ) → Codes F cs → eval (ops F) cs 0 ≡ get_or cs 0 0
  eval_at_zero [] h = refl
  eval_at_zero (c ∷ cs) h =
      let z : F.times 0 (eval (ops F) cs 0) ≡ 0 = L.times_comm 0 (eval (ops F) cs 0) ∙ times_zero L (eval (ops F) cs 0) in
      ap (F.plus c) z ∙ L.plus_zero c h.0

  -- and at 0
  pub at_infinity : (h : List ℕ) (d : ℕ) → Codes F h → length h ≡ suc d → eval (ops F) (reverse h) 0 ≡ get_or h d 0
  at_infinity h d c l =
      let n : length h - 1 - 0 ≡ d = omega arith in
      eval_at_zero (reverse h) (codes_reverse h c) ∙ get_or-reverse h 0 0 (omega arith) ∙ ap (λ k. get_or h k 0) n
