-- Remainders of polynomials are a field, for each modulus at which the tests pass.
use Rattle.std.specs.Prelude.{◌≡◌, ℕ, zero, suc, ◌+◌, ◌-◌, ◌*◌, ◌^◌, ◌<◌, Bool, cond, T, List, [], map, ◌==◌, bit_xor, nat_lt, slice_index, slice_index_or}
use Rattle.std.proofs.Common.{ap, ◌∙◌, eqb→eq, ltb→lt, arith}
use Rattle.std.proofs.lemmas.Nat.{xor_lt, xor_comm}
use Rattle.std.specs.Int.Bits.{xor_assoc, xor_zero_r, xor_self}
use Rattle.std.specs.List.{range_with_len}
use Rattle.std.proofs.lemmas.List.FromFn.{get_or-map-range_with_len}
use Rattle.field.specs.Algebra.{Lawful}
use Rattle.field.proofs.Every.{every, at, at_pair, at_triple}
use Rattle.field.proofs.Within.{inverts, lawful}
use Rattle.binary.specs.Binary.{has, product, product_by, Remainder, Reduces, products, polynomials, inverses}

-- the multiple of m that `remainder` takes off
abbrev pub quotient : ℕ → ℕ → ℕ → ℕ → ℕ
quotient d m zero p = 0
quotient d m (suc k) p = cond (has p (d + k)) (2 ^ k + quotient d m k (bit_xor p (m * 2 ^ k))) (quotient d m k p)

module _ (d m : ℕ) where
  -- the tests, at each code, pair and triple
  abbrev pub inside : ℕ → ℕ → Bool
  inside a b = nat_lt (product_by d m a b) (2 ^ d)

  abbrev pub divides : ℕ → ℕ → Bool
  divides a b = product a b d == bit_xor (product_by d m a b) (product m (quotient d m (d - 1) (product a b d)) d)

  abbrev pub commutes : ℕ → ℕ → Bool
  commutes a b = product_by d m a b == product_by d m b a

  abbrev pub associates : ℕ → ℕ → ℕ → Bool
  associates a b c = product_by d m (product_by d m a b) c == product_by d m a (product_by d m b c)

  abbrev pub distributes : ℕ → ℕ → ℕ → Bool
  distributes a b c = product_by d m a (bit_xor b c) == bit_xor (product_by d m a b) (product_by d m a c)

  abbrev pub keeps : ℕ → Bool
  keeps a = product_by d m a 1 == a

  abbrev pub pairs : (ℕ → ℕ → Bool) → Bool
  pairs f = every (λ a. every (f a) (2 ^ d)) (2 ^ d)

  abbrev pub triples : (ℕ → ℕ → ℕ → Bool) → Bool
  triples f = every (λ a. every (λ b. every (f a b) (2 ^ d)) (2 ^ d)) (2 ^ d)

  pub remainder_of_product : T (pairs inside) → T (pairs divides) → Reduces d m
  remainder_of_product t u a b i j = record {
    low = ltb→lt _ _ (at_pair inside (2 ^ d) t a b i j);
    quotient = quotient d m (d - 1) (product a b d);
    differs = eqb→eq _ _ (at_pair divides (2 ^ d) u a b i j);
  }

  pub polynomials_lawful : 1 < 2 ^ d → T (pairs inside) → T (pairs commutes) → T (triples associates) → T (triples distributes) → T (every keeps (2 ^ d))
      → T (every (inverts (2 ^ d) bit_xor (product_by d m) (λ a. a)) (2 ^ d - 1)) → Lawful (polynomials d m)
  polynomials_lawful one t-inside t-commutes t-associates t-distributes t-keeps t-inverts = lawful (2 ^ d) bit_xor (product_by d m) (λ a. a) (record {
    one_in = one;
    plus_in = λ a b i j. xor_lt d a b i j;
    times_in = λ a b i j. ltb→lt _ _ (at_pair inside (2 ^ d) t-inside a b i j);
    minus_in = λ a h. h;
    plus_comm = λ a b _ _. xor_comm a b;
    times_comm = λ a b i j. eqb→eq _ _ (at_pair commutes (2 ^ d) t-commutes a b i j);
    plus_assoc = λ a b c _ _ _. xor_assoc a b c;
    times_assoc = λ a b c i j k. eqb→eq _ _ (at_triple associates (2 ^ d) t-associates a b c i j k);
    times_plus = λ a b c i j k. eqb→eq _ _ (at_triple distributes (2 ^ d) t-distributes a b c i j k);
    plus_zero = λ a _. xor_zero_r a;
    times_one = λ a h. eqb→eq _ _ (at keeps (2 ^ d) t-keeps a h);
    plus_minus = λ a _. xor_self a;
  }) t-inverts

  -- what stands in the table
  pub record LookedUp (t : List (List ℕ)) (a b : ℕ) : Type 0 where
    pub exact : slice_index (slice_index_or t a []) b ≡ product_by d m a b
    pub reduced : Remainder d m (product a b d) (slice_index (slice_index_or t a []) b)

  pub looked_up : Reduces d m → (t : List (List ℕ)) → t ≡ products d m → (a b : ℕ) → a < 2 ^ d → b < 2 ^ d → LookedUp t a b
  looked_up reduces t e a b i j =
      let x : slice_index (slice_index_or t a []) b ≡ product_by d m a b =
      ap (λ w. slice_index (slice_index_or w a []) b) e
      ∙ ap (λ r. slice_index r b) (get_or-map-range_with_len (λ a. map (product_by d m a) (range_with_len 0 (2 ^ d))) 0 (2 ^ d) a a [] i (omega arith))
      ∙ get_or-map-range_with_len (product_by d m a) 0 (2 ^ d) b b 0 j (omega arith) in
      record { exact = x; reduced = rw x (reduces a b i j) }

  pub inverse_looked_up : (t : List ℕ) → t ≡ inverses d m → (a : ℕ) → a < 2 ^ d → slice_index t a ≡ (polynomials d m).over a
  inverse_looked_up t e a i = ap (λ w. slice_index w a) e ∙ get_or-map-range_with_len (polynomials d m).over 0 (2 ^ d) a a 0 i (omega arith)
