-- Divisors that two numbers share, and multiples of one modulo the other.
use Rattle.std.proofs.Common.{◌≡◌, ℕ, zero, suc, ◌+◌, ◌-◌, ◌*◌, ◌/◌, ◌%◌, ◌<◌, ◌≤◌, sym, ap, ◌∙◌, inl, inr, mod-lt, mod-eq_of_lt, mul_assoc, mul_comm, add-mul, add_comm, one-mul, mul-zero, mul-one, mul-add, mul_left_comm, arith}
use native.Mathlib.Nat.{dvd_of_mod-eq-zero, mod-mod_of_dvd, mod_self, zero-mod, add-mod, div-add-mod, add-mul-mod_self_left}
use Rattle.std.proofs.lemmas.Bool.{cases_lt, cases_order}
use Rattle.stride.specs.Divisors.{Divides, Apart}

-- one step of Euclid keeps the divisors that two numbers share

abbrev pub Shared : ℕ → ℕ → ℕ → Type 0
Shared x y d = Divides d x × Divides d y

abbrev pub Same : ℕ → ℕ → ℕ → ℕ → Type 0
Same x y a b = ((d : ℕ) → Shared x y d → Shared a b d) × ((d : ℕ) → Shared a b d → Shared x y d)

pub same_more : (x y a b : ℕ) → Same x y a b → Same y (x % y) a b
same_more x y a b h = (
  λ d s. h.0 d (sym (mod-mod_of_dvd d x (dvd_of_mod-eq-zero d s.0)) ∙ s.1, s.0),
  λ d s. let t = h.1 d s in (t.1, mod-mod_of_dvd d x (dvd_of_mod-eq-zero d t.1) ∙ t.0),
)

-- at the end y is 0, and x is 1 exactly if the two share no divisor above 1

pub apart_from_one : (x y a b : ℕ) → Same x y a b → x ≡ 1 → Apart a b
apart_from_one x y a b h e d l p q =
    let z : 1 % d ≡ 1 = mod-eq_of_lt l in
    let s = ap (λ k. k % d) (sym e) ∙ (h.1 d (p, q)).0 in
    omega arith

pub one_from_apart : (x y a b : ℕ) → y ≡ 0 → Same x y a b → Apart a b → x ≡ 1
one_from_apart x y a b z h s = elim (cases_order x 1) [
  | inl e ↦ e
  | inr o ↦ elim o [
    | inl l ↦ (let n : x ≡ 0 = omega arith in let t = h.0 2 (ap (λ k. k % 2) n, ap (λ k. k % 2) z) in absurd (s 2 (omega arith) t.0 t.1))
    | inr l ↦ (let t = h.0 x (mod_self x, ap (λ k. k % x) z ∙ zero-mod x) in absurd (s x l t.0 t.1))
  ]
]

-- a number that shares no divisor with n has an inverse modulo n

record Inverse (s n : ℕ) : Type 0 where
  by : ℕ
  over : ℕ
  one : s * by ≡ n * over + 1

divides_add : (d x y : ℕ) → Divides d x → Divides d y → Divides d (x + y)
divides_add d x y p q = add-mod x y d ∙ ap (λ k. (k + y % d) % d) p ∙ ap (λ k. (0 + k) % d) q ∙ zero-mod d

-- that divides itself and n
only_one : (s n : ℕ) → 0 < s → Apart s n → Divides s n → s ≡ 1
only_one s n l h q = elim (cases_lt 1 s) [ inl k ↦ absurd (h s k (mod_self s) q) | inr k ↦ omega arith ]

-- by the difference of the two
inverse_within : (f s n : ℕ) → s + n ≤ f → 0 < s → Apart s n → Inverse s n
inverse_within zero s n le l h = absurd (omega arith)
inverse_within (suc f) s n le l h = elim (cases_order s n) [
  | inl e ↦ (let o = only_one s n l h (ap (λ k. k % s) (sym e) ∙ mod_self s) in record { by = 1; over = 0; one = omega (arith, mul-one s, mul-zero n) })
  | inr o ↦ elim o [
    | inl k ↦ (
        let g : n - s + s ≡ n = omega arith in
        let i = inverse_within f s (n - s) (omega arith) l (λ d t p q. h d t p (ap (λ x. x % d) (sym g) ∙ divides_add d (n - s) s q p)) in
        let a = i.by in
        let b = i.over in
        record { by = a + b; over = b; one = omega (arith, i.one, mul-add s a b, add-mul (n - s) s b, ap (λ x. x * b) g) })
    | inr k ↦ elim (cases_lt 0 n) [
      | inl z ↦ (
          let g : s - n + n ≡ s = omega arith in
          let i = inverse_within f (s - n) n (omega arith) (omega arith) (λ d t p q. h d t (ap (λ x. x % d) (sym g) ∙ divides_add d (s - n) n p q) q) in
          let a = i.by in
          let b = i.over in
          record { by = a; over = b + a; one = omega (arith, i.one, mul-add n b a, add-mul (s - n) n a, ap (λ x. x * a) g) })
      | inr z ↦ (
          let e : n ≡ 0 = omega arith in
          let o = only_one s n l h (ap (λ k. k % s) e ∙ zero-mod s) in
          record { by = 1; over = 0; one = omega (arith, mul-one s, mul-zero n) })
    ]
  ]
]

inverse : (s n : ℕ) → 0 < s → Apart s n → Inverse s n
inverse s n l h = inverse_within (s + n) s n (omega arith) l h

mod_within : (x y n : ℕ) → (x * (y % n)) % n ≡ (x * y) % n
mod_within x y n =
    let e : x * y ≡ x * (y % n) + n * (x * (y / n)) =
    ap (λ k. x * k) (sym (div-add-mod y n)) ∙ mul-add x (n * (y / n)) (y % n) ∙ add_comm (x * (n * (y / n))) (x * (y % n)) ∙ ap (λ k. x * (y % n) + k) (mul_left_comm x n (y / n)) in
    sym (ap (λ k. k % n) e ∙ add-mul-mod_self_left (x * (y % n)) n (x * (y / n)))

undone : (x y n b i : ℕ) → x * y ≡ n * b + 1 → i < n → (x * ((y * i) % n)) % n ≡ i
undone x y n b i e h =
    let f : x * (y * i) ≡ i + n * (b * i) = sym (mul_assoc x y i) ∙ ap (λ k. k * i) e ∙ add-mul (n * b) 1 i ∙ omega (arith, mul_assoc n b i, one-mul i) in
    mod_within x (y * i) n ∙ ap (λ k. k % n) f ∙ add-mul-mod_self_left i n (b * i) ∙ mod-eq_of_lt h

-- no two of the first n multiples of s are alike modulo n
pub multiples_apart : (s n i j : ℕ) → 0 < s → Apart s n → i < n → j < n → (s * i) % n ≡ (s * j) % n → i ≡ j
multiples_apart s n i j l h li lj e =
    let v = inverse s n l h in
    let o : v.by * s ≡ n * v.over + 1 = mul_comm v.by s ∙ v.one in
    sym (undone v.by s n v.over i o li) ∙ ap (λ k. (v.by * k) % n) e ∙ undone v.by s n v.over j o lj

-- each number below n is one of them
pub multiple_reached : (s n j : ℕ) → 0 < s → Apart s n → j < n → (i : ℕ) × (i < n) × ((s * i) % n ≡ j)
multiple_reached s n j l h lj =
    let v = inverse s n l h in
    ((v.by * j) % n, mod-lt (v.by * j) (omega arith), undone s v.by n v.over j v.one lj)
