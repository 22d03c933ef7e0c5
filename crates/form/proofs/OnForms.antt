-- Multiples of a point, and lines.
use Rattle.std.proofs.Common.{◌≡◌, ℕ, zero, suc, ◌+◌, ◌<◌, min, List, [], ◌∷◌, map, length, take, sym, refl, ap, ◌∙◌, subst, ap₂, arith}
use Rattle.std.specs.List.{AllByRecursion}
use Rattle.std.proofs.ByRecursion.{All-append, All-map, All-weaker, All-take}
use Rattle.std.proofs.lemmas.List.{length-take}
use Rattle.field.specs.Algebra.{Algebra, Lawful, Ops, Codes, ops, power}
use Rattle.field.specs.Vectors.{scale, along}
use Rattle.field.proofs.Abstract.{IsField}
use Rattle.field.proofs.Ring.{ring, mul_zero}
use Rattle.field.proofs.Elements.{Elem, elems, field_of, lift, lower_lift, length_lift, power_lower}
use Rattle.field.proofs.Vectors.{scale_lower, along_lower, take_scale, take_along}
use Rattle.poly.proofs.Products.{product_at, slopes, Represented}
use Rattle.poly.proofs.Evals.{length_scale, length_add}
use Rattle.poly.proofs.Lines.{line, plus_represented, times_represented, renamed, nothing}
use Rattle.poly.proofs.Transfer.{lowered}
use Rattle.form.specs.Forms.{spread, vectors, monomial, total, value, value_at, degree, Multiples, OnLines, Leading}
use Rattle.form.proofs.Lower.{value_lower}

abbrev pub Good : ℕ → ℕ → List ℕ → Type 0
Good n d v = (length v ≡ n) × (degree v ≡ d)

good_spread : (n : ℕ) (f : ℕ → List (List ℕ)) → ((j : ℕ) → AllByRecursion (Good n j) (f j)) → (e d : ℕ) → AllByRecursion (Good (suc n) (e + d)) (spread f e d)
good_spread n f h e zero =
    All-map (Good (suc n) (e + zero)) (λ v. e ∷ v) (f zero)
    (All-weaker (Good n zero) (λ v. Good (suc n) (e + zero) (e ∷ v)) (λ v g. (ap suc g.0, omega (arith, g.1))) (f zero) (h zero))
good_spread n f h e (suc d) =
    let s : suc e + d ≡ e + suc d = omega arith in
    All-append (Good (suc n) (e + suc d)) (spread f (suc e) d) (map (λ v. e ∷ v) (f (suc d)))
    (subst (λ k. AllByRecursion (Good (suc n) k) (spread f (suc e) d)) s (good_spread n f h (suc e) d))
    (All-map (Good (suc n) (e + suc d)) (λ v. e ∷ v) (f (suc d))
    (All-weaker (Good n (suc d)) (λ v. Good (suc n) (e + suc d) (e ∷ v)) (λ v g. (ap suc g.0, omega (arith, g.1))) (f (suc d)) (h (suc d))))

pub good_vectors : (n d : ℕ) → AllByRecursion (Good n d) (vectors n d)
good_vectors zero zero = ((refl, refl), tt)
good_vectors zero (suc d) = tt
good_vectors (suc n) d =
    let s : 0 + d ≡ d = omega arith in
    subst (λ k. AllByRecursion (Good (suc n) k) (spread (vectors n) 0 d)) s (good_spread n (vectors n) (good_vectors n) 0 d)

-- a factor e times, before the others
abbrev rep : {K : Type 0} → ℕ → K × K → List (K × K) → List (K × K)
rep zero f fs = fs
rep (suc e) f fs = f ∷ rep e f fs

abbrev factors : {K : Type 0} → List K → List K → List ℕ → List (K × K)
factors [] vs es = []
factors (w ∷ ws) [] es = []
factors (w ∷ ws) (v ∷ vs) [] = []
factors (w ∷ ws) (v ∷ vs) (e ∷ es) = rep e (w, v) (factors ws vs es)

module _ {K : Type 0} {o : Ops K} (L : IsField o) where
  open o use {zero as 𝟘, one as 𝟙, plus as ◌⊕◌, times as ◌⊗◌}

  infixl 60 ◌⊕◌
  infixl 70 ◌⊗◌
  ring_mul : (a b k x : K) → (a ⊗ b) ⊗ (k ⊗ x) ≡ (a ⊗ k) ⊗ (b ⊗ x)
  ring_mul a b k x = simp (ring, L)

  ring_term : (c k m t : K) → c ⊗ (k ⊗ m) ⊕ k ⊗ t ≡ k ⊗ (c ⊗ m ⊕ t)
  ring_term c k m t = simp (ring, L)

  ring_rep : (x p r : K) → x ⊗ (p ⊗ r) ≡ (p ⊗ x) ⊗ r
  ring_rep x p r = simp (ring, L)

  power_add : (k : K) (a b : ℕ) → power o k (a + b) ≡ power o k a ⊗ power o k b
  power_add k zero b = let e : zero + b ≡ b = omega arith in rw e (sym (L.mul_comm _ _ ∙ L.mul_one _))
  power_add k (suc a) b =
      let e : suc a + b ≡ suc (a + b) = omega arith in
      rw e (ap (λ w. w ⊗ k) (power_add k a b) ∙ sym (sym (ring_rep k (power o k a) (power o k b)) ∙ L.mul_comm _ _))

  power_mul : (k x : K) (e : ℕ) → power o (k ⊗ x) e ≡ power o k e ⊗ power o x e
  power_mul k x zero = sym (L.mul_one 𝟙)
  power_mul k x (suc e) = ap (λ w. w ⊗ (k ⊗ x)) (power_mul k x e) ∙ ring_mul (power o k e) (power o x e) k x

  monomial_scale : (k : K) (p : List K) (v : List ℕ) → length v ≡ length p → monomial o (scale o k p) v ≡ power o k (degree v) ⊗ monomial o p v
  monomial_scale k [] [] h = sym (L.mul_one 𝟙)
  monomial_scale k [] (e ∷ v) h = absurd (omega arith)
  monomial_scale k (x ∷ p) [] h = absurd (omega arith)
  monomial_scale k (x ∷ p) (e ∷ v) h =
      ap₂ (λ a b. a ⊗ b) (power_mul k x e) (monomial_scale k p v (omega arith))
      ∙ ring_mul (power o k e) (power o x e) (power o k (degree v)) (monomial o p v)
      ∙ ap (λ w. w ⊗ (power o x e ⊗ monomial o p v)) (sym (power_add k e (degree v)))

  total_scale : (k : K) (d : ℕ) (p cs : List K) (vs : List (List ℕ)) → AllByRecursion (Good (length p) d) vs
      → total o (scale o k p) cs vs ≡ power o k d ⊗ total o p cs vs
  total_scale k d p [] vs g = sym (mul_zero L _)
  total_scale k d p (c ∷ cs) [] g = sym (mul_zero L _)
  total_scale k d p (c ∷ cs) (v ∷ vs) g =
      let m = monomial_scale k p v g.0.0 ∙ ap (λ n. power o k n ⊗ monomial o p v) g.0.1 in
      ap₂ (λ a b. c ⊗ a ⊕ b) m (total_scale k d p cs vs g.1) ∙ ring_term c (power o k d) (monomial o p v) (total o p cs vs)

  pub value_scale : (k : K) (p : List K) (d : ℕ) (cs : List K) → value o (scale o k p) d cs ≡ power o k d ⊗ value o p d cs
  value_scale k p d cs =
      ap (λ n. total o (scale o k p) cs (vectors n d)) (length_scale o k p) ∙ total_scale k d p cs (vectors (length p) d) (good_vectors (length p) d)

  -- lines
  length_rep : (e : ℕ) (f : K × K) (fs : List (K × K)) → length (rep e f fs) ≡ e + length fs
  length_rep zero f fs = omega arith
  length_rep (suc e) f fs = omega (arith, length_rep e f fs)

  value_rep : (e : ℕ) (f : K × K) (fs : List (K × K)) (t : K) → product_at o (rep e f fs) t ≡ power o (f.0 ⊕ f.1 ⊗ t) e ⊗ product_at o fs t
  value_rep zero f fs t = sym (L.mul_comm _ _ ∙ L.mul_one _)
  value_rep (suc e) f fs t =
      ap (λ w. (f.0 ⊕ f.1 ⊗ t) ⊗ w) (value_rep e f fs t) ∙ ring_rep (f.0 ⊕ f.1 ⊗ t) (power o (f.0 ⊕ f.1 ⊗ t) e) (product_at o fs t)

  slopes_rep : (e : ℕ) (f : K × K) (fs : List (K × K)) → slopes o (rep e f fs) ≡ power o f.1 e ⊗ slopes o fs
  slopes_rep zero f fs = sym (L.mul_comm _ _ ∙ L.mul_one _)
  slopes_rep (suc e) f fs = ap (λ w. f.1 ⊗ w) (slopes_rep e f fs) ∙ ring_rep f.1 (power o f.1 e) (slopes o fs)

  length_factors : (w v : List K) (es : List ℕ) → length w ≡ length v → length es ≡ length v → length (factors w v es) ≡ degree es
  length_factors [] [] [] h l = refl
  length_factors [] [] (e ∷ es) h l = absurd (omega arith)
  length_factors [] (y ∷ v) es h l = absurd (omega arith)
  length_factors (x ∷ w) [] es h l = absurd (omega arith)
  length_factors (x ∷ w) (y ∷ v) [] h l = absurd (omega arith)
  length_factors (x ∷ w) (y ∷ v) (e ∷ es) h l =
      length_rep e (x, y) (factors w v es) ∙ ap (λ n. e + n) (length_factors w v es (omega arith) (omega arith))

  value_factors : (w v : List K) (es : List ℕ) → length w ≡ length v → length es ≡ length v → (t : K)
      → product_at o (factors w v es) t ≡ monomial o (along o w v t) es
  value_factors [] [] es h l t = refl
  value_factors [] (y ∷ v) es h l t = absurd (omega arith)
  value_factors (x ∷ w) [] es h l t = absurd (omega arith)
  value_factors (x ∷ w) (y ∷ v) [] h l t = absurd (omega arith)
  value_factors (x ∷ w) (y ∷ v) (e ∷ es) h l t =
      value_rep e (x, y) (factors w v es) t
      ∙ ap₂ (λ a b. power o (x ⊕ a) e ⊗ b) (L.mul_comm y t) (value_factors w v es (omega arith) (omega arith) t)

  slopes_factors : (w v : List K) (es : List ℕ) → length w ≡ length v → length es ≡ length v → slopes o (factors w v es) ≡ monomial o v es
  slopes_factors [] [] es h l = refl
  slopes_factors [] (y ∷ v) es h l = absurd (omega arith)
  slopes_factors (x ∷ w) [] es h l = absurd (omega arith)
  slopes_factors (x ∷ w) (y ∷ v) [] h l = absurd (omega arith)
  slopes_factors (x ∷ w) (y ∷ v) (e ∷ es) h l =
      slopes_rep e (x, y) (factors w v es) ∙ ap (λ b. power o y e ⊗ b) (slopes_factors w v es (omega arith) (omega arith))

  total_line : (d : ℕ) (w v cs : List K) (vs : List (List ℕ)) → length w ≡ length v → AllByRecursion (Good (length v) d) vs
      → Represented o d (λ t. total o (along o w v t) cs vs) (total o v cs vs)
  total_line d w v [] vs h g = nothing L d
  total_line d w v (c ∷ cs) [] h g = nothing L d
  total_line d w v (c ∷ cs) (u ∷ us) h g =
      plus_represented L d _ _ _ _
      (times_represented L d _ _ c
      (renamed L (length_factors w v u h g.0.0 ∙ g.0.1) (λ t. sym (value_factors w v u h g.0.0 t)) (slopes_factors w v u h g.0.0) (line L (factors w v u))))
      (total_line d w v cs us h g.1)

  pub value_line : (d : ℕ) (w v cs : List K) → length w ≡ length v → Represented o d (λ t. value o (along o w v t) d cs) (value o v d cs)
  value_line d w v cs h =
      renamed L refl (λ t. ap (λ n. total o (along o w v t) cs (vectors n d)) (length_add o w (scale o t v) (h ∙ sym (length_scale o t v)) ∙ h)) refl
      (total_line d w v cs (vectors (length v) d) h (good_vectors (length v) d))

module _ {F : Algebra} (L : Lawful F) where
  pub multiples : (d : ℕ) → Multiples F d
  multiples d p cs in_p in-cs k in-k =
      let q = F.size in
      let E = elems L in
      let P = lift q p in_p in
      let C = lift q cs in-cs in
      let k' : Elem q = (k, in-k) in
      let a = lower_lift q p in_p in
      let b = lower_lift q cs in-cs in
      let e = ap (λ w. w.0) (value_scale (field_of L) k' P d C) in
      let l = value_lower L (scale E k' P) d C in
      let r = value_lower L P d C in
      let s = scale_lower L k' P in
      cc (power_lower L k' d)

  pub on_lines : (d : ℕ) → OnLines F d
  on_lines d w v cs in-w in-v in-cs h =
      let q = F.size in
      let E = elems L in
      let W = lift q w in-w in
      let V = lift q v in-v in
      let C = lift q cs in-cs in
      let a = lower_lift q w in-w in
      let b = lower_lift q v in-v in
      let c = lower_lift q cs in-cs in
      lowered L (value_line (field_of L) d W V C (length_lift q w in-w ∙ h ∙ sym (length_lift q v in-v))) _ _
      (λ t. value_lower L (along E W V t) d C ∙ ap₂ (λ x y. value (ops F) x d y) (along_lower L W V t ∙ ap₂ (λ x y. along (ops F) x y t.0) a b) c)
      (value_lower L V d C ∙ ap₂ (λ x y. value (ops F) x d y) b c)

-- the same for a value over the coordinates x0 to xm
pub leading_value : (F : Algebra) (m d : ℕ) (cs p : List ℕ) (v : ℕ) → Codes F p → Codes F cs → v ≡ value_at F m d cs p
    → Multiples F d → OnLines F d → Leading F m d cs p v
leading_value F m d cs p v in_p in-cs e ms ls = record {
  multiples = λ k h.
      ap (λ w. value (ops F) w d cs) (take_scale F k (suc m) p)
      ∙ ms (take (suc m) p) cs (All-take (λ x. x < F.size) (suc m) p in_p) in-cs k h
      ∙ ap (F.times (power (ops F) k d)) (sym e);
  lines = λ w l in-w.
      let t = ls (take (suc m) w) (take (suc m) p) cs (All-take (λ x. x < F.size) (suc m) w in-w) (All-take (λ x. x < F.size) (suc m) p in_p) in-cs
      (length-take (suc m) w ∙ ap (min (suc m)) l ∙ sym (length-take (suc m) p)) in
      record {
        coefficients = t.coefficients;
        codes = t.codes;
        long = t.long;
        top = t.top ∙ sym e;
        at = λ x h. ap (λ r. value (ops F) r d cs) (take_along F (suc m) w p x l) ∙ t.at x h;
      };
}
