-- A pair that meets enough points of a polynomial G is G's everywhere.
use Rattle.std.proofs.Common.{◌≡◌, ℕ, zero, suc, ◌+◌, ◌≤◌, List, [], ◌∷◌, length, get_or, take, sym, refl, ap, ◌∙◌, arith}
use Rattle.std.specs.List.{AllByRecursion}
use Rattle.std.proofs.ByRecursion.{All-weaker}
use Rattle.field.specs.Algebra.{Ops}
use Rattle.field.proofs.Abstract.{IsField}
use Rattle.field.specs.Vectors.{add, scale}
use Rattle.poly.specs.Poly.{eval, Distinct}
use Rattle.field.proofs.Ring.{ring, neg_one, same}
use Rattle.poly.proofs.Evals.{eval_add, eval_scale}
use Rattle.poly.proofs.Roots.{all_zeros_under, eval_zeros}
use Rattle.poly.proofs.Evals.{length_scale}

abbrev pub mul : {K : Type 0} → Ops K → List K → List K → List K
mul o [] ds = []
mul o (c ∷ cs) ds = add o (scale o c ds) (o.zero ∷ mul o cs ds)

module _ {K : Type 0} (o : Ops K) where
  length_add_under : (n : ℕ) (cs ds : List K) → length cs ≤ n → length ds ≤ n → length (add o cs ds) ≤ n
  length_add_under n [] ds h k = k
  length_add_under n (c ∷ cs) [] h k = h
  length_add_under zero (c ∷ cs) (d ∷ ds) h k = absurd (omega arith)
  length_add_under (suc n) (c ∷ cs) (d ∷ ds) h k =
      let r = length_add_under n cs ds (omega arith) (omega arith) in omega arith

  length_mul : (n : ℕ) (cs ds : List K) → 1 ≤ length ds → length cs + length ds ≤ suc n → length (mul o cs ds) ≤ n
  length_mul n [] ds i h = omega arith
  length_mul zero (c ∷ cs) ds i h = absurd (omega arith)
  length_mul (suc n) (c ∷ cs) ds i h =
      let r = length_mul n cs ds i (omega arith) in
      length_add_under (suc n) (scale o c ds) (o.zero ∷ mul o cs ds) (omega (arith, length_scale o c ds)) (omega arith)

module _ {K : Type 0} {o : Ops K} (L : IsField o) where
  open o use {zero as 𝟘, one as 𝟙, plus as ◌⊕◌, times as ◌⊗◌, minus as neg}

  infixl 60 ◌⊕◌
  infixl 70 ◌⊗◌
  grouped : (c t x y : K) → c ⊗ y ⊕ (𝟘 ⊕ t ⊗ (x ⊗ y)) ≡ (c ⊕ t ⊗ x) ⊗ y
  grouped c t x y = simp (ring, L)

  pub eval_mul : (cs ds : List K) (t : K) → eval o (mul o cs ds) t ≡ eval o cs t ⊗ eval o ds t
  eval_mul [] ds t = simp (ring, L)
  eval_mul (c ∷ cs) ds t =
      eval_add L (scale o c ds) (𝟘 ∷ mul o cs ds) t
      ∙ rw (eval_scale L c ds t) (ap (λ w. c ⊗ eval o ds t ⊕ (𝟘 ⊕ t ⊗ w)) (eval_mul cs ds t) ∙ grouped c t (eval o cs t) (eval o ds t))

  -- the coefficients from n on are zeros
  pub eval_cut : (n : ℕ) (cs : List K) (t : K) → ((k : ℕ) → n ≤ k → get_or cs k 𝟘 ≡ 𝟘) → eval o (take n cs) t ≡ eval o cs t
  eval_cut zero [] t z = refl
  eval_cut (suc n) [] t z = refl
  eval_cut zero (c ∷ cs) t z =
      let e = z 0 (omega arith) in
      let r = eval_cut zero cs t (λ k h. z (suc k) (omega arith)) in
      sym (simp (eval, e, sym r, ring, L))
  eval_cut (suc n) (c ∷ cs) t z = ap (λ w. c ⊕ t ⊗ w) (eval_cut n cs t (λ k h. z (suc k) (omega arith)))

  pub vanish : (rs cs : List K) → length cs ≤ length rs → Distinct rs → AllByRecursion (λ r. eval o cs r ≡ 𝟘) rs → (t : K) → eval o cs t ≡ 𝟘
  vanish rs cs l n h t = eval_zeros L cs t (all_zeros_under L rs cs l n h)

  pub locate : (rs ns gs es : List K) → Distinct rs → length ns ≤ length rs → 1 ≤ length es → length gs + length es ≤ suc (length rs)
      → AllByRecursion (λ r. eval o ns r ≡ eval o gs r ⊗ eval o es r) rs → (t : K) → eval o ns t ≡ eval o gs t ⊗ eval o es t
  locate rs ns gs es n l i m h t =
      let ds = add o ns (scale o (neg 𝟙) (mul o gs es)) in
      let at : (x : K) → eval o ds x ≡ eval o ns x ⊕ neg 𝟙 ⊗ (eval o gs x ⊗ eval o es x) =
      λ x. eval_add L ns (scale o (neg 𝟙) (mul o gs es)) x ∙ rw (eval_scale L (neg 𝟙) (mul o gs es) x, eval_mul gs es x) refl in
      let long : length ds ≤ length rs =
      length_add_under o (length rs) ns (scale o (neg 𝟙) (mul o gs es)) l
      (omega (arith, length_scale o (neg 𝟙) (mul o gs es), length_mul o (length rs) gs es i m)) in
      let zeros = All-weaker (λ r. eval o ns r ≡ eval o gs r ⊗ eval o es r) (λ r. eval o ds r ≡ 𝟘)
      (λ x e. at x ∙ rw e (neg_one L (eval o gs x ⊗ eval o es x))) rs h in
      same L (eval o ns t) (eval o gs t ⊗ eval o es t) (sym (at t) ∙ vanish rs ds long n zeros t)
