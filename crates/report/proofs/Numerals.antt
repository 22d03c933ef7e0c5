-- The digits of a number.
use Rattle.std.proofs.Common.{◌≡◌, ℕ, zero, suc, ◌+◌, ◌-◌, ◌/◌, ◌%◌, ◌^◌, ◌<◌, ◌≤◌, List, [], ◌∷◌, ◌++◌, map, length, sym, refl, ap, ◌∙◌, arith}
use Rattle.std.specs.Int.Digits.{digits_of, number_from_digits, AllBelowBase}
use Rattle.std.specs.List.{AllByRecursion}
use Rattle.std.proofs.lemmas.Int.Digits.{digits_of_step, length-digits_of-le, all_below_base_digits_of, number_digits_of}
use Rattle.std.proofs.lemmas.Fmt.{decimal-digits_of, decimal_digit}
use Rattle.std.proofs.lemmas.List.{map_push, length-map}
use Rattle.report.specs.Reports.{numeral, NumeralsDecimal}
use Rattle.report.specs.Reading.{number_in}

positive : (n : ℕ) → 0 < n → numeral n ≡ map (λ d. 48 + d) (digits_of 10 n)
unfolding numeral
positive zero h = absurd (omega arith)
positive (suc n) h = refl

pub numeral_digit : (n : ℕ) → n < 10 → numeral n ≡ (48 + n) ∷ []
unfolding numeral
numeral_digit zero h = refl
numeral_digit (suc n) h =
    let z : suc n / 10 ≡ 0 = omega arith in
    let m : suc n % 10 ≡ suc n = omega arith in
    ap (map (λ d. 48 + d)) (digits_of_step 10 (suc n) (omega arith) (omega arith) ∙ ap (λ k. digits_of 10 k ++ (suc n % 10 ∷ [])) z) ∙ ap (λ k. (48 + k) ∷ []) m

pub numeral_step : (n : ℕ) → 10 ≤ n → numeral n ≡ numeral (n / 10) ++ ((48 + n % 10) ∷ [])
numeral_step n h =
    positive n (omega arith)
    ∙ ap (map (λ d. 48 + d)) (digits_of_step 10 n (omega arith) (omega arith))
    ∙ map_push (λ d. 48 + d) (digits_of 10 (n / 10)) (n % 10)
    ∙ ap (λ l. l ++ ((48 + n % 10) ∷ [])) (sym (positive (n / 10) (omega arith)))

pub numerals_decimal : NumeralsDecimal
unfolding numeral
numerals_decimal zero h = sym (decimal_digit 0 (omega arith))
numerals_decimal (suc n) h = sym (decimal-digits_of (suc n) (omega arith) h)

-- every byte of a numeral is a digit
abbrev pub Figures : List ℕ → Type 0
Figures w = AllByRecursion (λ x. (47 < x) × (x < 58)) w

digits_figures : (ds : List ℕ) → AllBelowBase 10 ds → Figures (map (λ d. 48 + d) ds)
digits_figures [] u = tt
digits_figures (d ∷ ds) u = ((omega arith, omega arith), digits_figures ds u.1)

pub numeral_figures : (n : ℕ) → Figures (numeral n)
unfolding numeral
numeral_figures zero = ((omega arith, omega arith), tt)
numeral_figures (suc n) = digits_figures (digits_of 10 (suc n)) (all_below_base_digits_of 10 (suc n) (omega arith))

pub length_numeral_le : (k n : ℕ) → 0 < k → n < 10 ^ k → length (numeral n) ≤ k
unfolding numeral
length_numeral_le k zero h b = omega arith
length_numeral_le k (suc n) h b = rw (length-map (digits_of 10 (suc n)) (λ d. 48 + d)) (length-digits_of-le 10 k (suc n) (omega arith) b)

figures_back : (ds : List ℕ) → map (λ c. c - 48) (map (λ d. 48 + d) ds) ≡ ds
figures_back [] = refl
figures_back (d ∷ ds) = let e : 48 + d - 48 ≡ d = omega arith in let f = figures_back ds in cc

pub number_numeral : (n : ℕ) → number_in (numeral n) ≡ n
unfolding numeral
number_numeral zero = refl
number_numeral (suc n) = ap (number_from_digits 10) (figures_back (digits_of 10 (suc n))) ∙ number_digits_of 10 (suc n) (omega arith)
