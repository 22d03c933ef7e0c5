-- Which marks a number chooses, and how many.
use Rattle.std.proofs.Common.{◌≡◌, ℕ, zero, suc, ◌+◌, ◌-◌, ◌/◌, ◌%◌, ◌^◌, ◌<◌, ◌≤◌, Bool, true, false, cond, List, [], ◌∷◌, length, sym, refl, ap, subst, ⊎_elim, lt_of_lt_of_le, arith, pow_mono}
use native.Mathlib.Nat.{div-eq_of_lt}
use Rattle.std.specs.List.{AllByRecursion}
use Rattle.std.specs.Int.Count.{count_leading_zeros}
use Rattle.std.proofs.lemmas.Bool.{cases_Bool, cases_lt, eqb-true}
use Rattle.std.proofs.lemmas.Nat.{leading_length}
use Rattle.report.specs.Reports.{bit, chosen_from}

-- what holds of each mark holds of each that is chosen
pub all_chosen : (P : ℕ → Type 0) (i : ℕ) (ms : List ℕ) (n : ℕ) → AllByRecursion P ms → AllByRecursion P (chosen_from i ms n)
all_chosen P i [] n h = tt
all_chosen P i (t ∷ ts) n h =
    let rest = all_chosen P (i + 1) ts n h.1 in
    elim (bit n i) as (λ b. AllByRecursion P (cond b (t ∷ chosen_from (i + 1) ts n) (chosen_from (i + 1) ts n))) [ true ↦ (h.0, rest) | false ↦ rest ]

pub length_chosen : (i : ℕ) (ms : List ℕ) (n : ℕ) → length (chosen_from i ms n) ≤ length ms
length_chosen i [] n = omega arith
length_chosen i (t ∷ ts) n =
    let rest = length_chosen (i + 1) ts n in
    elim (bit n i) as (λ b. length (cond b (t ∷ chosen_from (i + 1) ts n) (chosen_from (i + 1) ts n)) ≤ suc (length ts)) [ true ↦ omega arith | false ↦ omega arith ]

no_bit : (k i n : ℕ) → n < 2 ^ k → k ≤ i → bit n i ≡ true → ⊥
no_bit k i n h l e =
    let p : n < 2 ^ i = lt_of_lt_of_le h (pow_mono l) in
    let z = ap (λ x. x % 2) (div-eq_of_lt p) in
    let o = eqb-true (n / 2 ^ i % 2) 1 e in
    omega arith

-- a number of k bits chooses no mark from mark k on
pub none_chosen : (k i : ℕ) (ms : List ℕ) (n : ℕ) → n < 2 ^ k → k ≤ i → chosen_from i ms n ≡ []
none_chosen k i [] n h l = refl
none_chosen k i (t ∷ ts) n h l =
    let rest = none_chosen k (i + 1) ts n h (omega arith) in
    let P : Bool → Type 0 = λ b. cond b (t ∷ chosen_from (i + 1) ts n) (chosen_from (i + 1) ts n) ≡ [] in
    ⊎_elim (λ e. absurd (no_bit k i n h l e)) (λ e. subst P (sym e) rest) (cases_Bool (bit n i))

-- a number of k bits chooses at most k marks
pub few_chosen : (k i : ℕ) (ms : List ℕ) (n : ℕ) → n < 2 ^ k → length (chosen_from i ms n) ≤ k - i
few_chosen k i [] n h = omega arith
few_chosen k i (t ∷ ts) n h =
    let rest = few_chosen k (i + 1) ts n h in
    let P : Bool → Type 0 = λ b. length (cond b (t ∷ chosen_from (i + 1) ts n) (chosen_from (i + 1) ts n)) ≤ k - i in
    ⊎_elim
    (λ e. subst P (sym e) (⊎_elim (λ l. omega arith) (λ l. absurd (no_bit k i n h l e)) (cases_lt i k)))
    (λ e. subst P (sym e) (omega arith))
    (cases_Bool (bit n i))

-- of the n marks from mark i on that may have one of the k bits, none is left
pub none_left : (k i n : ℕ) (ms : List ℕ) (bits : ℕ) → bits < 2 ^ k → i + n ≡ k → (0 < n → length ms ≡ 0) → chosen_from i ms bits ≡ []
none_left k i n [] bits h e none = refl
none_left k i zero (t ∷ ts) bits h e none = none_chosen k i (t ∷ ts) bits h (omega arith)
none_left k i (suc n) (t ∷ ts) bits h e none = let z : suc (length ts) ≡ 0 = none (omega arith) in absurd (omega arith)

-- no bit stands past the highest
pub below_width : (k n : ℕ) → n < 2 ^ k → n < 2 ^ (k - count_leading_zeros k n)
below_width k n h =
    let l = leading_length k n h in
    let e : l.0 ≡ k - count_leading_zeros k n = omega (arith, l.1) in
    subst (λ m. n < 2 ^ m) e l.2

by_bits : (P : Bool → Bool → Type 0) (x y : Bool) → (x ≡ true → y ≡ true → ⊥) → P true false → P false true → P false false → P x y
by_bits P true true apart p q r = absurd (apart refl refl)
by_bits P true false apart p q r = p
by_bits P false true apart p q r = q
by_bits P false false apart p q r = r

-- two numbers without a bit in common choose different marks
pub chosen_apart : (a b : ℕ) → ((i : ℕ) → bit a i ≡ true → bit b i ≡ true → ⊥) → (i : ℕ) (ms : List ℕ) → length (chosen_from i ms a) + length (chosen_from i ms b) ≤ length ms
chosen_apart a b apart i [] = omega arith
chosen_apart a b apart i (t ∷ ts) =
    let rest = chosen_apart a b apart (i + 1) ts in
    let xs = chosen_from (i + 1) ts a in
    let ys = chosen_from (i + 1) ts b in
    let P : Bool → Bool → Type 0 = λ x y. length (cond x (t ∷ xs) xs) + length (cond y (t ∷ ys) ys) ≤ suc (length ts) in
    by_bits P (bit a i) (bit b i) (apart i) (omega arith) (omega arith) (omega arith)
