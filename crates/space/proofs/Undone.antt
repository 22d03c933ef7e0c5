-- Places and points undo each other.
use Rattle.std.proofs.Common.{◌≡◌, ℕ, zero, suc, ◌+◌, ◌-◌, ◌*◌, ◌/◌, ◌%◌, ◌^◌, ◌<◌, ◌≤◌, false, eqb, List, [], ◌∷◌, length, drop, replicate, sym, refl, ap, ◌∙◌, ⊎_elim, mod-lt, mod-eq_of_lt, mul_assoc, mul_comm, add-mul, pow-suc, arith}
use native.Mathlib.Nat.{pow-zero, mod-one}
use lib.Arith.{mod-mul, digits_lt, digits_div, digits_mod}
use Rattle.std.specs.List.{AllByRecursion}
use Rattle.std.proofs.lemmas.Bool.{cases_lt, lt-ltb, le-ltb, ne_eqb}
use Rattle.space.specs.Counts.{cells}
use Rattle.space.specs.Places.{divisor, number, place_of, digits, point_at, Undo}

pub not_zero : (x : ℕ) → eqb (suc x) 0 ≡ false
not_zero x = ne_eqb (suc x) 0 (λ (e : suc x ≡ 0). omega arith)

module _ (q : ℕ) (two : 1 < q) where
  pub power_pos : (k : ℕ) → 0 < q ^ k
  power_pos zero = rw (pow-zero q) (omega arith)
  power_pos (suc k) =
      let h = power_pos k in
      let e : 0 * (q ^ k) + 0 < q * (q ^ k) = digits_lt (omega arith) h in
      rw (pow-suc q k, mul_comm (q ^ k) q) (omega arith)

  pub number_digits : (z : List ℕ) (k i : ℕ) → number q k (digits q z k i) ≡ i % q ^ k
  number_digits z zero i = rw (pow-zero q) (sym (mod-one i))
  number_digits z (suc k) i =
      rw (number_digits z k i, pow-suc q k, mul_comm (q ^ k) q) (sym (mod-mul i (omega arith) (power_pos k)))

  pub number_below : (k : ℕ) (xs : List ℕ) → AllByRecursion (λ x. x < q) xs → number q k xs < q ^ k
  number_below zero xs h = power_pos zero
  number_below (suc k) [] h = power_pos (suc k)
  number_below (suc k) (x ∷ xs) h = rw (pow-suc q k, mul_comm (q ^ k) q) (digits_lt h.0 (number_below k xs h.1))

  regroup : (h x k n : ℕ) → h * q ^ suc k + (x * q ^ k + n) ≡ (h * q + x) * q ^ k + n
  regroup h x k n = rw (pow-suc q k, mul_comm (q ^ k) q, add-mul (h * q) x (q ^ k), mul_assoc h q (q ^ k)) (omega arith)

  pub digits_number : (k : ℕ) (xs : List ℕ) → AllByRecursion (λ x. x < q) xs → k ≤ length xs → (h : ℕ)
      → digits q (drop k xs) k (h * q ^ k + number q k xs) ≡ xs
  digits_number zero xs a l h = refl
  digits_number (suc k) [] a l h = absurd (omega arith)
  digits_number (suc k) (x ∷ xs) a l h =
      let n = number q k xs in
      let below : n < q ^ k = number_below k xs a.1 in
      let i = h * q ^ suc k + (x * q ^ k + n) in
      let e : i ≡ (h * q + x) * q ^ k + n = regroup h x k n in
      let d : i / q ^ k ≡ h * q + x = ap (λ w. w / q ^ k) e ∙ digits_div (h * q + x) below in
      let r : i / q ^ k % q ≡ x = ap (λ w. w % q) d ∙ digits_mod h a.0 in
      let t : digits q (drop k xs) k i ≡ xs = ap (digits q (drop k xs) k) e ∙ digits_number k xs a.1 (omega arith) (h * q + x) in
      cc

  pub place_of_point : (z : List ℕ) (m i : ℕ) → i < cells q m → place_of q m (point_at q z m i) ≡ i
  place_of_point z zero i h = omega arith
  place_of_point z (suc m) i h =
      ⊎_elim
      (λ (l : i < q ^ suc m). rw (lt-ltb i (q ^ suc m) l) (number_digits z (suc m) i ∙ mod-eq_of_lt l))
      (λ (l : q ^ suc m ≤ i). rw (le-ltb i (q ^ suc m) l) (rw (place_of_point z m (i - q ^ suc m) (omega arith)) (omega arith)))
      (cases_lt i (q ^ suc m))

  pub place_below : (m : ℕ) (p : List ℕ) → AllByRecursion (λ x. x < q) p → place_of q m p < cells q m
  place_below zero p a = omega arith
  place_below (suc m) [] a = omega (arith, power_pos (suc m))
  place_below (suc m) (zero ∷ xs) a = omega (arith, place_below m xs a.1)
  place_below (suc m) (suc x ∷ xs) a = rw (not_zero x) (omega (arith, number_below (suc m) xs a.1))

  pub point_of_place : (m : ℕ) (p : List ℕ) → AllByRecursion (λ x. x < q) p → suc m ≤ length p → divisor p ≡ 1 → divisor (drop (suc m) p) ≡ 0
      → point_at q (drop (suc m) p) m (place_of q m p) ≡ p
  point_of_place m [] a l d z = absurd (omega arith)
  point_of_place zero (zero ∷ xs) a l d z = absurd (omega arith)
  point_of_place zero (suc x ∷ xs) a l d z = ap (λ w. w ∷ xs) (sym (rw (not_zero x) at d))
  point_of_place (suc m) (zero ∷ xs) a l d z =
      let e : q ^ suc m + place_of q m xs - q ^ suc m ≡ place_of q m xs = omega arith in
      rw (le-ltb (q ^ suc m + place_of q m xs) (q ^ suc m) (omega arith), e) (ap (λ w. 0 ∷ w) (point_of_place m xs a.1 (omega arith) d z))
  point_of_place (suc m) (suc x ∷ xs) a l d z =
      let below = number_below (suc m) xs a.1 in
      let e : 0 * q ^ suc m + number q (suc m) xs ≡ number q (suc m) xs = omega arith in
      let t = digits_number (suc m) xs a.1 (omega arith) 0 in
      let one : suc x ≡ 1 = rw (not_zero x) at d in
      rw (not_zero x, lt-ltb (number q (suc m) xs) (q ^ suc m) below, one) (ap (λ w. 1 ∷ w) (rw e at t))

  digits_codes : (z : List ℕ) → AllByRecursion (λ x. x < q) z → (k i : ℕ) → AllByRecursion (λ x. x < q) (digits q z k i)
  digits_codes z a zero i = a
  digits_codes z a (suc k) i = (mod-lt (i / q ^ k) (omega arith), digits_codes z a k i)

  digits_past : (z : List ℕ) (k i : ℕ) → drop k (digits q z k i) ≡ z
  digits_past z zero i = refl
  digits_past z (suc k) i = digits_past z k i

  digits_length : (z : List ℕ) (k i : ℕ) → length (digits q z k i) ≡ k + length z
  digits_length z zero i = omega arith
  digits_length z (suc k) i = omega (arith, digits_length z k i)

  -- what the point at a place is
  record Fine (z : List ℕ) (m : ℕ) (p : List ℕ) : Type 0 where
    long : length p ≡ suc m + length z
    codes : AllByRecursion (λ x. x < q) p
    past : drop (suc m) p ≡ z
    first : divisor p ≡ 1

  point_fine : (z : List ℕ) → AllByRecursion (λ x. x < q) z → (m i : ℕ) → Fine z m (point_at q z m i)
  point_fine z a zero i = record { long = omega arith; codes = (two, a); past = refl; first = refl }
  point_fine z a (suc m) i =
      ⊎_elim
      (λ (l : i < q ^ suc m). rw (lt-ltb i (q ^ suc m) l) (record {
        long = omega (arith, digits_length z (suc m) i);
        codes = (two, digits_codes z a (suc m) i);
        past = digits_past z (suc m) i;
        first = refl;
      }))
      (λ (l : q ^ suc m ≤ i). rw (le-ltb i (q ^ suc m) l)
      (let f = point_fine z a m (i - q ^ suc m) in record {
        long = omega (arith, f.long);
        codes = (omega arith, f.codes);
        past = f.past;
        first = f.first;
      }))
      (cases_lt i (q ^ suc m))

zeros_codes : (q n : ℕ) → 0 < q → AllByRecursion (λ x. x < q) (replicate n 0)
zeros_codes q zero h = tt
zeros_codes q (suc n) h = (h, zeros_codes q n h)

zeros_divisor : (n : ℕ) → divisor (replicate n 0) ≡ 0
zeros_divisor zero = refl
zeros_divisor (suc n) = zeros_divisor n

length_zeros : (n : ℕ) → length (replicate n (zero)) ≡ n
length_zeros zero = refl
length_zeros (suc n) = ap suc (length_zeros n)

pub undone : (q m : ℕ) → 1 < q → m ≤ 3 → Undo q m
undone q m two m3 = record {
  place_of_point = place_of_point q two (replicate (3 - m) 0) m;
  point_normal = λ i.
      let z : List ℕ = replicate (3 - m) 0 in
      let f = point_fine q two z (zeros_codes q (3 - m) (omega arith)) m i in
      let lz = length_zeros (3 - m) in
      record { point = record { four = omega (arith, f.long, lz); codes = f.codes; past = f.past }; first = f.first };
  point_of_place = λ p n.
      let z = n.point.past in
      let t = point_of_place q two m p n.point.codes (omega (arith, n.point.four)) n.first (ap divisor z ∙ zeros_divisor (3 - m)) in
      rw z at t;
  place_below = λ p n. place_below q two m p n.point.codes;
}
