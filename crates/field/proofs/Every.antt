-- A test that is computed at each number below n.
use Rattle.std.proofs.Common.{◌≡◌, ℕ, zero, suc, ◌<◌, Bool, true, false, T, sym, subst, ⊎_elim, not-suc-le-zero, arith}
use Rattle.std.proofs.lemmas.Bool.{cases_eq}

abbrev both : Bool → Bool → Bool
both true b = b
both false b = false

both_left : (a b : Bool) → T (both a b) → T a
both_left true b t = tt
both_left false b t = t

both_right : (a b : Bool) → T (both a b) → T b
both_right true b t = t
both_right false b t = absurd t

abbrev pub every : (ℕ → Bool) → ℕ → Bool
every f zero = true
every f (suc n) = both (f n) (every f n)

pub at : (f : ℕ → Bool) (n : ℕ) → T (every f n) → (k : ℕ) → k < n → T (f k)
at f zero t k h = absurd (not-suc-le-zero h)
at f (suc n) t k h =
    ⊎_elim
    (λ (e : k ≡ n). subst (λ (m : ℕ). T (f m)) (sym e) (both_left (f n) (every f n) t))
    (λ (d : k ≡ n → ⊥). at f n (both_right (f n) (every f n) t) k (omega arith))
    (cases_eq k n)

-- at each pair and each triple of numbers below n
pub at_pair : (f : ℕ → ℕ → Bool) (n : ℕ) → T (every (λ a. every (f a) n) n) → (a b : ℕ) → a < n → b < n → T (f a b)
at_pair f n t a b i j = at (f a) n (at (λ x. every (f x) n) n t a i) b j

pub at_triple : (f : ℕ → ℕ → ℕ → Bool) (n : ℕ) → T (every (λ a. every (λ b. every (f a b) n) n) n) → (a b c : ℕ) → a < n → b < n → c < n → T (f a b c)
at_triple f n t a b c i j k = at (f a b) n (at_pair (λ x y. every (f x y) n) n t a b i j) c k
