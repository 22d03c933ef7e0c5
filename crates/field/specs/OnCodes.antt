-- Operations that are given at codes, extended to every number: 0 where an argument is no code.
use Rattle.std.specs.Prelude.{ℕ, zero, suc, Bool, cond, nat_eq, nat_lt}
use Rattle.field.specs.Algebra.{Algebra}

abbrev pub within1 : ℕ → (ℕ → ℕ) → ℕ → ℕ
within1 q f a = cond (nat_lt a q) (f a) 0

abbrev pub within2 : ℕ → (ℕ → ℕ → ℕ) → ℕ → ℕ → ℕ
within2 q f a b = cond (nat_lt a q) (cond (nat_lt b q) (f a b) 0) 0

-- the greatest number below n that passes the test; 0 where none does
abbrev pub greatest : (ℕ → Bool) → ℕ → ℕ
greatest f zero = 0
greatest f (suc n) = cond (f n) n (greatest f n)

-- The algebra of a sum, a product and a negative at the codes below q. The inverse of a is the b that a times b is 1.
abbrev pub on_codes : ℕ → (ℕ → ℕ → ℕ) → (ℕ → ℕ → ℕ) → (ℕ → ℕ) → Algebra
on_codes q f g n = record {
  size = q;
  plus = within2 q f;
  times = within2 q g;
  minus = within1 q n;
  over = λ a. greatest (λ b. nat_eq (within2 q g a b) 1) q;
}
