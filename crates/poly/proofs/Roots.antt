-- A list of coefficients that has as many distinct roots as coefficients is all zeros.
use Rattle.std.proofs.Common.{◌≡◌, suc, ◌≤◌, ◌≢◌, List, [], ◌∷◌, length, sym, refl, ap, ◌∙◌, arith}
use Rattle.std.specs.List.{AllByRecursion}
use Rattle.field.specs.Algebra.{Ops}
use Rattle.field.proofs.Abstract.{IsField}
use Rattle.field.specs.Vectors.{add, scale}
use Rattle.poly.specs.Poly.{eval, Distinct}
use Rattle.field.proofs.Ring.{ring, add_back, no_zero_divisor, differ, zero_add, neg_one, same}
use Rattle.poly.proofs.Evals.{length_add, length_scale, eval_add, eval_scale}

module _ {K : Type 0} (o : Ops K) where
  -- what the tails of the list come to at a: the quotient of (c ∷ cs) by (X − a)
  abbrev pub tails : K → List K → List K
  tails a [] = []
  tails a (c ∷ cs) = eval o (c ∷ cs) a ∷ tails a cs

  pub length_tails : (a : K) (cs : List K) → length (tails a cs) ≡ length cs
  length_tails a [] = refl
  length_tails a (c ∷ cs) = ap suc (length_tails a cs)

module _ {K : Type 0} {o : Ops K} (L : IsField o) where
  open o use {zero as 𝟘, one as 𝟙, plus as ◌⊕◌, times as ◌⊗◌, minus as neg}

  infixl 60 ◌⊕◌
  infixl 70 ◌⊗◌
  step : (c a d p e : K) → c ⊕ (a ⊕ d) ⊗ (p ⊕ d ⊗ e) ≡ (c ⊕ a ⊗ p) ⊕ d ⊗ (p ⊕ (a ⊕ d) ⊗ e)
  step c a d p e = simp (ring, L)

  -- the factor theorem, at t = a + d
  pub divides : (c : K) (cs : List K) (a d : K)
      → eval o (c ∷ cs) (a ⊕ d) ≡ eval o (c ∷ cs) a ⊕ d ⊗ eval o (tails o a cs) (a ⊕ d)
  divides c [] a d = simp (eval, ring, L)
  divides c (e ∷ es) a d = ap (λ w. c ⊕ (a ⊕ d) ⊗ w) (divides e es a d) ∙ step c a d _ _

  pub divides_at : (c : K) (cs : List K) (a t : K)
      → eval o (c ∷ cs) t ≡ eval o (c ∷ cs) a ⊕ (t ⊕ neg a) ⊗ eval o (tails o a cs) t
  divides_at c cs a t = rw (add_back L a t) at (divides c cs a (t ⊕ neg a))

  pub eval_zeros : (cs : List K) (t : K) → AllByRecursion (λ c. c ≡ 𝟘) cs → eval o cs t ≡ 𝟘
  eval_zeros [] t z = refl
  eval_zeros (c ∷ cs) t z = simp (eval, z.0, eval_zeros cs t z.1, ring, L)

  -- the list's own first coefficient, where the rest are zeros
  first_zero : (c : K) (cs : List K) (a : K) → eval o (c ∷ cs) a ≡ 𝟘 → AllByRecursion (λ c. c ≡ 𝟘) cs → c ≡ 𝟘
  first_zero c cs a e z = simp (eval, eval_zeros cs a z, ring, L) at e

  tails_zeros : (a : K) (cs : List K) → AllByRecursion (λ c. c ≡ 𝟘) (tails o a cs) → AllByRecursion (λ c. c ≡ 𝟘) cs
  tails_zeros a [] z = tt
  tails_zeros a (c ∷ cs) z =
      let rest = tails_zeros a cs z.1 in
      (first_zero c cs a z.0 rest, rest)

  -- a root r of the list is no other root's
  roots_of_tails : (c : K) (cs : List K) (r : K) (rs : List K) → eval o (c ∷ cs) r ≡ 𝟘 → AllByRecursion (λ s. s ≢ r) rs
      → AllByRecursion (λ s. eval o (c ∷ cs) s ≡ 𝟘) rs → AllByRecursion (λ s. eval o (tails o r cs) s ≡ 𝟘) rs
  roots_of_tails c cs r [] e n h = tt
  roots_of_tails c cs r (s ∷ rs) e n h = (
    no_zero_divisor L (s ⊕ neg r) (eval o (tails o r cs) s) (differ L r s n.0)
        (sym (simp (e, zero_add, L) at (divides_at c cs r s)) ∙ h.0),
    roots_of_tails c cs r rs e n.1 h.1,
  )

  pub all_zeros_under : (rs cs : List K) → length cs ≤ length rs → Distinct rs → AllByRecursion (λ r. eval o cs r ≡ 𝟘) rs → AllByRecursion (λ c. c ≡ 𝟘) cs
  all_zeros_under rs [] l n h = tt
  all_zeros_under [] (c ∷ cs) l n h = absurd (omega arith)
  all_zeros_under (r ∷ rs) (c ∷ cs) l n h =
      let rest = all_zeros_under rs (tails o r cs) (omega (arith, length_tails o r cs)) n.1 (roots_of_tails c cs r rs h.0 n.0 h.1) in
      let zeros = tails_zeros r cs rest in
      (first_zero c cs r h.0 zeros, zeros)

  pub all_zeros : (rs cs : List K) → length cs ≡ length rs → Distinct rs → AllByRecursion (λ r. eval o cs r ≡ 𝟘) rs → AllByRecursion (λ c. c ≡ 𝟘) cs
  all_zeros rs cs l = all_zeros_under rs cs (omega arith)

  -- agreement
  agree_zero : (cs ds : List K) (t : K) → eval o cs t ≡ eval o ds t → eval o (add o cs (scale o (neg 𝟙) ds)) t ≡ 𝟘
  agree_zero cs ds t e = simp (eval_add, eval_scale, e, L) (neg_one L (eval o ds t))

  agree_zeros : (cs ds rs : List K) → AllByRecursion (λ r. eval o cs r ≡ eval o ds r) rs
      → AllByRecursion (λ r. eval o (add o cs (scale o (neg 𝟙) ds)) r ≡ 𝟘) rs
  agree_zeros cs ds [] h = tt
  agree_zeros cs ds (r ∷ rs) h = (agree_zero cs ds r h.0, agree_zeros cs ds rs h.1)

  no_difference : (cs ds : List K) → length cs ≡ length ds → AllByRecursion (λ c. c ≡ 𝟘) (add o cs (scale o (neg 𝟙) ds)) → cs ≡ ds
  no_difference [] [] l z = refl
  no_difference [] (d ∷ ds) l z = absurd (omega arith)
  no_difference (c ∷ cs) [] l z = absurd (omega arith)
  no_difference (c ∷ cs) (d ∷ ds) l z = cc (same L c d z.0, no_difference cs ds (omega arith) z.1)

  pub unique : (rs cs ds : List K) → length cs ≡ length rs → length ds ≡ length rs → Distinct rs
      → AllByRecursion (λ r. eval o cs r ≡ eval o ds r) rs → cs ≡ ds
  unique rs cs ds l m n h =
      no_difference cs ds (omega arith)
      (all_zeros rs (add o cs (scale o (neg 𝟙) ds)) (length_add o cs (scale o (neg 𝟙) ds) (omega (arith, length_scale o (neg 𝟙) ds)) ∙ l) n (agree_zeros cs ds rs h))
