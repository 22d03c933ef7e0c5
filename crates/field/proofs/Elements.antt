-- The codes below the size as elements: there the laws have no side condition, and what is proved there holds of codes.
use Rattle.std.proofs.Common.{◌≡◌, ℕ, zero, suc, ◌<◌, ◌≢◌, List, [], ◌∷◌, length, refl, ap, arith}
use mathlib.Core.HLevel.{Σ_prop_path}
use native.Mathlib.Bridge.{le_prop}
use Rattle.std.specs.List.{AllByRecursion}
use Rattle.field.specs.Algebra.{Algebra, Lawful, Ops, ops, power}
use Rattle.field.proofs.Abstract.{IsField}

abbrev pub Elem : ℕ → Type 0
Elem q = (x : ℕ) × (x < q)

pub same_code : {q : ℕ} {x y : Elem q} → x.0 ≡ y.0 → x ≡ y
same_code {q} {x} {y} e = Σ_prop_path (λ (k : ℕ). le_prop {n = suc k} {m = q}) {u = x} {v = y} e

module _ {F : Algebra} (L : Lawful F) where
  pub zero_in : 0 < F.size
  zero_in = omega (arith, L.one_in)

  abbrev pub elems : Ops (Elem F.size)
  elems = record {
    zero = (0, zero_in);
    one = (1, L.one_in);
    plus = λ x y. (F.plus x.0 y.0, L.plus_in x.0 y.0);
    times = λ x y. (F.times x.0 y.0, L.times_in x.0 y.0);
    minus = λ x. (F.minus x.0, L.minus_in x.0);
    over = λ x. (F.over x.0, L.over_in x.0);
  }

  inverted : (x : ℕ) → x < F.size → x ≢ 0 → F.times x (F.over x) ≡ 1
  inverted x h n = L.times_over x (omega arith) h

  pub field_of : IsField elems
  field_of = record {
    add_comm = λ x y. same_code (L.plus_comm x.0 y.0);
    add_assoc = λ x y z. same_code (L.plus_assoc x.0 y.0 z.0 x.1 y.1 z.1);
    add_zero = λ x. same_code (L.plus_zero x.0 x.1);
    add_minus = λ x. same_code (L.plus_minus x.0 x.1);
    mul_comm = λ x y. same_code (L.times_comm x.0 y.0);
    mul_assoc = λ x y z. same_code (L.times_assoc x.0 y.0 z.0 x.1 y.1 z.1);
    mul_one = λ x. same_code (L.times_one x.0 x.1);
    mul_over = λ x n. same_code (inverted x.0 x.1 (λ e. n (same_code e)));
    distrib = λ x y z. same_code (L.times_plus x.0 y.0 z.0 x.1 y.1 z.1);
    one_not_zero = λ e. let z : ◌≡◌ {A = ℕ} 1 0 = ap (λ x. x.0) e in omega arith;
  }

  pub power_lower : (x : Elem F.size) (e : ℕ) → (power elems x e).0 ≡ power (ops F) x.0 e
  power_lower x zero = refl
  power_lower x (suc e) = ap (λ w. F.times w x.0) (power_lower x e)

  pub power_in : (x e : ℕ) → power (ops F) x e < F.size
  power_in x zero = L.one_in
  power_in x (suc e) = L.times_in (power (ops F) x e) x

-- a list of codes as a list of elements, and back
abbrev pub lift : (q : ℕ) (cs : List ℕ) → AllByRecursion (λ c. c < q) cs → List (Elem q)
lift q [] h = []
lift q (c ∷ cs) h = (c, h.0) ∷ lift q cs h.1

abbrev pub lower : {q : ℕ} → List (Elem q) → List ℕ
lower [] = []
lower (x ∷ xs) = x.0 ∷ lower xs

pub lower_lift : (q : ℕ) (cs : List ℕ) (h : AllByRecursion (λ c. c < q) cs) → lower (lift q cs h) ≡ cs
lower_lift q [] h = refl
lower_lift q (c ∷ cs) h = ap (λ w. c ∷ w) (lower_lift q cs h.1)

pub length_lift : (q : ℕ) (cs : List ℕ) (h : AllByRecursion (λ c. c < q) cs) → length (lift q cs h) ≡ length cs
length_lift q [] h = refl
length_lift q (c ∷ cs) h = ap suc (length_lift q cs h.1)

module _ {q : ℕ} where
  pub codes_lower : (xs : List (Elem q)) → AllByRecursion (λ c. c < q) (lower xs)
  codes_lower [] = tt
  codes_lower (x ∷ xs) = (x.1, codes_lower xs)

  pub length_lower : (xs : List (Elem q)) → length (lower xs) ≡ length xs
  length_lower [] = refl
  length_lower (x ∷ xs) = ap suc (length_lower xs)

module _ {q : ℕ} (P : ℕ → Type 0) (Q : Elem q → Type 0) where
  pub all_lift : ((x : Elem q) → P x.0 → Q x) → (cs : List ℕ) (h : AllByRecursion (λ c. c < q) cs) → AllByRecursion P cs → AllByRecursion Q (lift q cs h)
  all_lift f [] h a = tt
  all_lift f (c ∷ cs) h a = (f (c, h.0) a.0, all_lift f cs h.1 a.1)

  pub all_lower : ((x : Elem q) → Q x → P x.0) → (cs : List ℕ) (h : AllByRecursion (λ c. c < q) cs) → AllByRecursion Q (lift q cs h) → AllByRecursion P cs
  all_lower f [] h a = tt
  all_lower f (c ∷ cs) h a = (f (c, h.0) a.0, all_lower f cs h.1 a.1)
