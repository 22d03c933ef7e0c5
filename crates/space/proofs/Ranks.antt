-- The steps of `number` and `rank`.
use Rattle.std.proofs.Common.{◌≡◌, ℕ, zero, suc, ◌+◌, ◌-◌, ◌*◌, ◌^◌, ◌<◌, ◌≤◌, List, [], ◌∷◌, length, get_or, take, drop, refl, ap, pow-suc, add-one, add-mul, mul_assoc, arith}
use native.Mathlib.Nat.{pow-zero, pow-le-pow_left, pow-le-pow_right}
use Rattle.std.proofs.lemmas.List.{drop_more}
use Rattle.std.proofs.lemmas.Bool.{eq-eqb, ne_eqb}
use Rattle.std.proofs.lemmas.Nat.{mul-le}
use Rattle.std.specs.List.{AllByRecursion}
use Rattle.space.specs.Places.{number, place_of}
use Rattle.space.proofs.Undone.{number_below}

pub power_within : (q k : ℕ) → q ≤ 16 → k ≤ 3 → q ^ k ≤ 4096
power_within q k h l =
    let a : q ^ k ≤ 16 ^ k = pow-le-pow_left h k in
    let b : 16 ^ k ≤ 16 ^ 3 = pow-le-pow_right (omega arith) l in
    omega arith

module _ (q : ℕ) where
  -- one more digit
  pub number_more : (i : ℕ) (xs : List ℕ) → i < length xs → number q (i + 1) xs ≡ number q i xs * q + get_or xs i 0
  number_more i [] h = absurd (omega arith)
  number_more zero (x ∷ xs) h =
      let p : q ^ 0 ≡ 1 = pow-zero q in
      rw p (omega arith)
  number_more (suc i) (x ∷ xs) h =
      let e : suc i + 1 ≡ suc (i + 1) = omega arith in
      let n = number_more i xs (omega arith) in
      let p : q ^ (i + 1) ≡ q ^ i * q = rw add-one (pow-suc q i) in
      rw (e, n, p, add-mul (x * q ^ i) (number q i xs) q, mul_assoc x (q ^ i) q) (omega arith)

  -- only the first k count
  pub number_front : (k : ℕ) (xs : List ℕ) → number q k (take k xs) ≡ number q k xs
  number_front zero xs = refl
  number_front (suc k) [] = refl
  number_front (suc k) (x ∷ xs) = ap (λ n. x * q ^ k + n) (number_front k xs)

  pub place_here : (k i : ℕ) (p : List ℕ) → 0 < k → i < length p → (get_or p i 0 ≡ 0 → ⊥) → place_of q k (drop i p) ≡ number q k (drop (i + 1) p)
  place_here zero i p pos l n = absurd (omega arith)
  place_here (suc k) i p pos l n = rw (drop_more p i 0 l, ne_eqb (get_or p i 0) 0 n) refl

  pub place_later : (k i : ℕ) (p : List ℕ) → 0 < k → i < length p → get_or p i 0 ≡ 0
      → place_of q k (drop i p) ≡ q ^ k + place_of q (k - 1) (drop (i + 1) p)
  place_later zero i p pos l n = absurd (omega arith)
  place_later (suc k) i p pos l n = let e : suc k - 1 ≡ k = omega arith in rw (drop_more p i 0 l, eq-eqb (get_or p i 0) 0 n, e) refl

-- what is read of codes fits
pub number_room : (q i : ℕ) (xs : List ℕ) → 1 < q → q ≤ 16 → i ≤ 3 → AllByRecursion (λ x. x < q) xs → number q i xs * q ≤ 2 ^ 16
number_room q i xs two few low codes =
    let b = number_below q two i xs codes in
    let p = power_within q i few low in
    omega (arith, mul-le (number q i xs) q 4096 16 (omega arith) few)
