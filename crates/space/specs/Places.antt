-- Points over q symbols with the coordinates x0 to xm, their normal form, and their places.
use Rattle.std.specs.Prelude.{◌≡◌, ℕ, zero, suc, ◌+◌, ◌-◌, ◌*◌, ◌/◌, ◌%◌, ◌^◌, ◌<◌, cond, List, [], ◌∷◌, ◌++◌, length, drop, replicate, ◌==◌, nat_lt}
use Rattle.std.specs.List.{AllByRecursion}
use Rattle.field.specs.Algebra.{Algebra, ops}
use Rattle.field.specs.Vectors.{scale}
use Rattle.space.specs.Counts.{cells}

-- The divisor of a point: its first coordinate that is not 0; 0 where every one is.
abbrev pub divisor : List ℕ → ℕ
divisor [] = 0
divisor (x ∷ xs) = cond (x == 0) (divisor xs) x

-- The normal form: every coordinate over the divisor.
abbrev pub normal : Algebra → List ℕ → List ℕ
normal F p = scale (ops F) (F.over (divisor p)) p

-- A point: four coordinates below q, those past xm 0.
pub record Point (q m : ℕ) (p : List ℕ) : Type 0 where
  pub four : length p ≡ 4
  pub codes : AllByRecursion (λ x. x < q) p
  pub past : drop (suc m) p ≡ replicate (3 - m) 0

-- A normal point: its first coordinate that is not 0 is 1.
pub record Normal (q m : ℕ) (p : List ℕ) : Type 0 where
  pub point : Point q m p
  pub first : divisor p ≡ 1

-- The first k of the list as the digits of a number to base q, the earliest highest.
abbrev pub number : ℕ → ℕ → List ℕ → ℕ
number q zero xs = 0
number q (suc k) [] = 0
number q (suc k) (x ∷ xs) = x * q ^ k + number q k xs

-- The place of a normal point: those whose first coordinate other than 0 is x0 come first, by the number that their later coordinates
-- write; then those with x1, and so on.
abbrev pub place_of : ℕ → ℕ → List ℕ → ℕ
place_of q zero p = 0
place_of q (suc m) [] = 0
place_of q (suc m) (x ∷ xs) = cond (x == 0) (q ^ suc m + place_of q m xs) (number q (suc m) xs)

-- The k lowest digits of i to base q, the highest first, and then the list z.
abbrev pub digits : ℕ → List ℕ → ℕ → ℕ → List ℕ
digits q z zero i = z
digits q z (suc k) i = i / q ^ k % q ∷ digits q z k i

-- The normal point at place i over x0 to xm, with z past xm.
abbrev pub point_at : ℕ → List ℕ → ℕ → ℕ → List ℕ
point_at q z zero i = 1 ∷ z
point_at q z (suc m) i = cond (nat_lt i (q ^ suc m)) (1 ∷ digits q z (suc m) i) (0 ∷ point_at q z m (i - q ^ suc m))

abbrev pub point_of : ℕ → ℕ → ℕ → List ℕ
point_of q m i = point_at q (replicate (3 - m) 0) m i

-- Places and normal points undo each other, both ways.
pub record Undo (q m : ℕ) : Type 0 where
  pub place_of_point : (i : ℕ) → i < cells q m → place_of q m (point_of q m i) ≡ i
  pub point_normal : (i : ℕ) → Normal q m (point_of q m i)
  pub point_of_place : (p : List ℕ) → Normal q m p → point_of q m (place_of q m p) ≡ p
  pub place_below : (p : List ℕ) → Normal q m p → place_of q m p < cells q m

-- The coordinate by which place i has its group, and its number in that group: how the code takes the point of a place apart.
abbrev pub group_of : ℕ → ℕ → ℕ → ℕ × ℕ
group_of q zero i = (0, i)
group_of q (suc m) i = cond (nat_lt i (q ^ suc m)) (0, i) (suc (group_of q m (i - q ^ suc m)).0, (group_of q m (i - q ^ suc m)).1)

-- The point of that group with that number.
abbrev pub grouped : ℕ → ℕ → ℕ → ℕ → List ℕ
grouped q m first i = replicate first 0 ++ (1 ∷ digits q (replicate (3 - m) 0) (m - first) i)
