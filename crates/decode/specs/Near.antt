-- The coefficients that few points miss. A point is a place and a value.
use Rattle.std.specs.Prelude.{◌≡◌, ℕ, suc, ◌+◌, ◌-◌, ◌/◌, ◌<◌, ◌≤◌, Bool, cond, not, List, [], ◌∷◌, length, take, Some, None, Option, ◌==◌, slice_index}
use Rattle.std.specs.List.{AllByRecursion, AllByRecursion-prop}
use Rattle.std.specs.Coded.{×_prop, Unit-prop, le_prop}
use mathlib.Core.HLevel.{⊥_prop, Π_prop}
use Rattle.field.specs.Algebra.{Algebra, ops}
use Rattle.field.specs.Algebra.{Ops}
use Rattle.poly.specs.Poly.{eval, Distinct}
use Rattle.decode.specs.Width.{points_most}

abbrev pub places : List (ℕ × ℕ) → List ℕ
places [] = []
places (p ∷ ps) = p.0 ∷ places ps

-- whether the coefficients come to the point's value at its place
abbrev pub through : Ops ℕ → List ℕ → ℕ × ℕ → Bool
through o g p = eval o g p.0 == p.1

-- at how many points they do not
abbrev pub misses : Ops ℕ → List ℕ → List (ℕ × ℕ) → ℕ
misses o g [] = 0
misses o g (p ∷ ps) = cond (through o g p) (misses o g ps) (suc (misses o g ps))

-- distinct places, and codes only
pub record Points (F : Algebra) (ps : List (ℕ × ℕ)) : Type 0 where
  pub small : AllByRecursion (λ p. (p.0 < F.size) × (p.1 < F.size)) ps
  pub apart : Distinct (places ps)

pub Codes-prop : (q : ℕ) (ps : List (ℕ × ℕ)) → IsProp (AllByRecursion (λ p. (p.0 < q) × (p.1 < q)) ps)
Codes-prop q ps = AllByRecursion-prop _ (λ p. ×_prop le_prop le_prop) ps

pub Distinct-prop : (us : List ℕ) → IsProp (Distinct us)
Distinct-prop [] = Unit-prop
Distinct-prop (u ∷ us) = ×_prop (AllByRecursion-prop _ (λ s. Π_prop (λ e. ⊥_prop)) us) (Distinct-prop us)

-- d + 1 coefficients that miss at most half of the points beyond d + 1
pub record Near (F : Algebra) (d : ℕ) (ps : List (ℕ × ℕ)) (g : List ℕ) : Type 0 where
  pub long : length g ≡ suc d
  pub small : AllByRecursion (λ c. c < F.size) g
  pub few : misses (ops F) g ps ≤ (length ps - d - 1) / 2

-- A pair of lists n and e that meets every point: n is the value times e there.
abbrev pub Meets : Algebra → List ℕ → List ℕ → ℕ × ℕ → Type 0
Meets F n e p = eval (ops F) n p.0 ≡ F.times p.1 (eval (ops F) e p.0)

-- of degree at most w, and w - d
pub record Fits (F : Algebra) (d w : ℕ) (n e : List ℕ) : Type 0 where
  pub n_in : AllByRecursion (λ c. c < F.size) n
  pub e_in : AllByRecursion (λ c. c < F.size) e
  pub n_past : (k : ℕ) → w < k → slice_index n k ≡ 0
  pub e_past : (k : ℕ) → w < k + d → slice_index e k ≡ 0

-- whether e does not vanish at the point
abbrev pub usable : Ops ℕ → List ℕ → ℕ × ℕ → Bool
usable o e p = not (eval o e p.0 == 0)

-- the places of the points that pass a test
abbrev pub picked : (ℕ × ℕ → Bool) → List (ℕ × ℕ) → List ℕ
picked f [] = []
picked f (p ∷ ps) = cond (f p) (p.0 ∷ picked f ps) (picked f ps)

-- the near coefficients, filled up with zeros: there are no others
pub record Found (F : Algebra) (d : ℕ) (ps : List (ℕ × ℕ)) (g : List ℕ) : Type 0 where
  pub near : Near F d ps (take (suc d) g)
  pub past : (k : ℕ) → d < k → slice_index g k ≡ 0
  pub only : (h : List ℕ) → Near F d ps h → h ≡ take (suc d) g

-- what the decoder answers: near coefficients, or that there are none
abbrev pub Decoded : Algebra → ℕ → List (ℕ × ℕ) → Option (List ℕ) → Type 0
Decoded F d ps (Some g) = Found F d ps g
Decoded F d ps None = (g : List ℕ) → Near F d ps g → ⊥

-- points that a search takes: codes at distinct places, more than d and at most as many as there is room for
pub record Admissible (F : Algebra) (d : ℕ) (ps : List (ℕ × ℕ)) : Type 0 where
  pub points : Points F ps
  pub enough : d < length ps
  pub few : length ps ≤ points_most

-- the near coefficients, or none: where none are near, and where the points are not admissible
abbrev pub DecodeAnswer : Algebra → ℕ → List (ℕ × ℕ) → Option (List ℕ) → Type 0
DecodeAnswer F d ps (Some g) = Admissible F d ps × Found F d ps g
DecodeAnswer F d ps None = Admissible F d ps → (g : List ℕ) → Near F d ps g → ⊥
