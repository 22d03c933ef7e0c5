-- A finite field on the codes 0 to size - 1: its operations, its laws, and what is defined from them.
-- The operations take every number and answer 0 where an argument is no code, so a contract states a result with no premise.
use Rattle.std.specs.Prelude.{◌≡◌, ℕ, zero, suc, ◌<◌, ◌≤◌, cond, ◌&&◌, List, Some, None, Option, nat_lt}
use Rattle.std.specs.List.{AllByRecursion}

-- The operations on codes; `over` is the inverse of a code other than 0.
pub record Algebra : Type 0 where
  pub size : ℕ
  pub plus : ℕ → ℕ → ℕ
  pub times : ℕ → ℕ → ℕ
  pub minus : ℕ → ℕ
  pub over : ℕ → ℕ

pub record Lawful (F : Algebra) : Type 0 where
  -- 0 and 1 are codes, and differ
  pub one_in : 1 < F.size
  -- every result is a code
  pub plus_in : (a b : ℕ) → F.plus a b < F.size
  pub times_in : (a b : ℕ) → F.times a b < F.size
  pub minus_in : (a : ℕ) → F.minus a < F.size
  pub over_in : (a : ℕ) → F.over a < F.size
  -- what is no code gives 0
  pub plus_out : (a b : ℕ) → F.size ≤ a → F.plus a b ≡ 0
  pub times_out : (a b : ℕ) → F.size ≤ a → F.times a b ≡ 0
  pub minus_out : (a : ℕ) → F.size ≤ a → F.minus a ≡ 0
  -- the laws of a field
  pub plus_comm : (a b : ℕ) → F.plus a b ≡ F.plus b a
  pub times_comm : (a b : ℕ) → F.times a b ≡ F.times b a
  pub plus_assoc : (a b c : ℕ) → a < F.size → b < F.size → c < F.size → F.plus (F.plus a b) c ≡ F.plus a (F.plus b c)
  pub times_assoc : (a b c : ℕ) → a < F.size → b < F.size → c < F.size → F.times (F.times a b) c ≡ F.times a (F.times b c)
  pub times_plus : (a b c : ℕ) → a < F.size → b < F.size → c < F.size → F.times a (F.plus b c) ≡ F.plus (F.times a b) (F.times a c)
  pub plus_zero : (a : ℕ) → a < F.size → F.plus a 0 ≡ a
  pub times_one : (a : ℕ) → a < F.size → F.times a 1 ≡ a
  pub plus_minus : (a : ℕ) → a < F.size → F.plus a (F.minus a) ≡ 0
  pub times_over : (a : ℕ) → 0 < a → a < F.size → F.times a (F.over a) ≡ 1

-- The inverse as it is answered: absent for 0 and for what is no code, and for no other.
abbrev pub inverse : Algebra → ℕ → Option ℕ
inverse F a = cond (nat_lt 0 a && nat_lt a F.size) (Some (F.over a)) None

-- Every number of the list is a code.
abbrev pub Codes : Algebra → List ℕ → Type 0
Codes F xs = AllByRecursion (λ x. x < F.size) xs

-- Operations on any carrier. What is defined with them serves codes, and elements of which the laws hold with no side condition.
pub record Ops (K : Type 0) : Type 0 where
  pub zero : K
  pub one : K
  pub plus : K → K → K
  pub times : K → K → K
  pub minus : K → K
  pub over : K → K

abbrev pub ops : Algebra → Ops ℕ
ops F = record { zero = 0; one = 1; plus = F.plus; times = F.times; minus = F.minus; over = F.over }

-- x to the e, with 1 for every x where e is 0
abbrev pub power : {K : Type 0} → Ops K → K → ℕ → K
power o x zero = o.one
power o x (suc e) = o.times (power o x e) x
