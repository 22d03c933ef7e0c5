-- A number's bits as a polynomial over the field of two elements: bit k is the coefficient of x ^ k, and a sum is the exclusive or.
-- The numbers below 2 ^ d are the remainders by a polynomial m of degree d.
use Rattle.std.specs.Prelude.{◌≡◌, ℕ, zero, suc, ◌+◌, ◌-◌, ◌*◌, ◌/◌, ◌%◌, ◌^◌, ◌<◌, Bool, cond, List, map, ◌==◌, bit_xor}
use Rattle.std.specs.List.{range_with_len}
use Rattle.field.specs.Algebra.{Algebra}
use Rattle.field.specs.OnCodes.{on_codes}

-- whether p has the term x ^ k
abbrev pub has : ℕ → ℕ → Bool
has p k = p / 2 ^ k % 2 == 1

-- a times the terms of b below x ^ k: the sum of a times x ^ j over those that b has
abbrev pub product : ℕ → ℕ → ℕ → ℕ
product a b zero = 0
product a b (suc k) = cond (has b k) (bit_xor (product a b k) (a * 2 ^ k)) (product a b k)

-- p, of degree below d + k, less the multiples of m that take off its terms x ^ (d + k - 1) .. x ^ d
abbrev pub remainder : ℕ → ℕ → ℕ → ℕ → ℕ
remainder d m zero p = p
remainder d m (suc k) p = remainder d m k (cond (has p (d + k)) (bit_xor p (m * 2 ^ k)) p)

-- the remainder of the product of two polynomials of degree below d
abbrev pub product_by : ℕ → ℕ → ℕ → ℕ → ℕ
product_by d m a b = remainder d m (d - 1) (product a b d)

-- What a remainder by m is: a polynomial of degree below d that differs from p by a multiple of m.
pub record Remainder (d m p r : ℕ) : Type 0 where
  pub low : r < 2 ^ d
  pub quotient : ℕ
  pub differs : p ≡ bit_xor r (product m quotient d)

-- Each product of two polynomials of degree below d is the remainder of the unreduced product by m.
abbrev pub Reduces : ℕ → ℕ → Type 0
Reduces d m = (a b : ℕ) → a < 2 ^ d → b < 2 ^ d → Remainder d m (product a b d) (product_by d m a b)

-- the table of products: entry b of row a is a times b
abbrev pub products : ℕ → ℕ → List (List ℕ)
products d m = map (λ a. map (product_by d m a) (range_with_len 0 (2 ^ d))) (range_with_len 0 (2 ^ d))

-- each element is its own negative
abbrev pub polynomials : ℕ → ℕ → Algebra
polynomials d m = on_codes (2 ^ d) bit_xor (product_by d m) (λ a. a)

-- the table of inverses
abbrev pub inverses : ℕ → ℕ → List ℕ
inverses d m = map (polynomials d m).over (range_with_len 0 (2 ^ d))
