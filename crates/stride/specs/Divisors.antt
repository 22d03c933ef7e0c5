-- Divisors that two numbers share.
use Rattle.std.specs.Prelude.{◌≡◌, ℕ, ◌%◌, ◌<◌}

-- d divides x where x leaves no remainder
abbrev pub Divides : ℕ → ℕ → Type 0
Divides d x = x % d ≡ 0

-- a and b share no divisor above 1
abbrev pub Apart : ℕ → ℕ → Type 0
Apart a b = (d : ℕ) → 1 < d → Divides d a → Divides d b → ⊥
