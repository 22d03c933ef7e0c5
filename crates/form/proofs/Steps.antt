-- The steps of `over`.
use Rattle.std.proofs.Common.{◌≡◌, ℕ, zero, suc, ◌+◌, ◌-◌, ◌<◌, ◌≤◌, List, [], ◌∷◌, length, get_or, take, drop, set, sym, refl, ap, ◌∙◌, ⊎_elim, arith}
use Rattle.std.proofs.lemmas.Bool.{cases_eq}
use Rattle.std.proofs.lemmas.List.{get_or-set_same, get_or-set_other, get_or-drop, take_rest, length-drop}
use Rattle.poly.specs.Poly.{last}
use Rattle.field.specs.Algebra.{Algebra, ops, power}
use Rattle.form.specs.Evaluation.{terms, nested, Powers}

module _ (F : Algebra) where
  pub nested_one : (xs : List ℕ) (d : ℕ) (cs : List ℕ) → length xs ≡ 1
      → nested (ops F) xs d cs ≡ F.times (get_or cs 0 0) (power (ops F) (last 0 xs) d)
  nested_one [] d cs h = absurd (omega arith)
  nested_one (x ∷ []) d cs h = refl
  nested_one (x ∷ (y ∷ ys)) d cs h = absurd (omega arith)

  pub nested_start : (xs cs : List ℕ) → 2 ≤ length xs → nested (ops F) xs 0 cs ≡ nested (ops F) (drop 1 xs) 0 cs
  nested_start [] cs h = absurd (omega arith)
  nested_start (x ∷ []) cs h = absurd (omega arith)
  nested_start (x ∷ (y ∷ ys)) cs h = refl

  pub nested_step : (xs : List ℕ) (j : ℕ) (cs : List ℕ) → 2 ≤ length xs
      → nested (ops F) xs (suc j) cs
      ≡ F.plus (F.times (nested (ops F) xs j cs) (get_or xs 0 0)) (nested (ops F) (drop 1 xs) (suc j) (drop (terms (length xs) j) cs))
  nested_step [] j cs h = absurd (omega arith)
  nested_step (x ∷ []) j cs h = absurd (omega arith)
  nested_step (x ∷ (y ∷ ys)) j cs h = refl

  pub powers_more : (x e : ℕ) (t : List ℕ) (v : ℕ) → e + 1 < length t → Powers (ops F) x e t → v ≡ F.times (get_or t e 0) x
      → Powers (ops F) x (e + 1) (set t (e + 1) v)
  powers_more x e t v h p s i l =
      ⊎_elim
      (λ (q : i ≡ e + 1).
      let w : e + 1 ≡ suc e = omega arith in
      rw (q, get_or-set_same t (e + 1) v 0 h, w) (s ∙ ap (λ y. F.times y x) (p e (omega arith))))
      (λ (n : i ≡ e + 1 → ⊥). rw (get_or-set_other t (e + 1) i v 0 n) (p i (omega arith)))
      (cases_eq i (e + 1))

pub last_rest : (xs : List ℕ) → 2 ≤ length xs → last 0 (drop 1 xs) ≡ last 0 xs
last_rest [] h = absurd (omega arith)
last_rest (x ∷ []) h = absurd (omega arith)
last_rest (x ∷ (y ∷ ys)) h = refl

pub last_front : (p : List ℕ) (x m : ℕ) → m < length p → last x (take (m + 1) p) ≡ get_or p m 0
last_front [] x m h = absurd (omega arith)
last_front (y ∷ p) x zero h = refl
last_front (y ∷ p) x (suc m) h = let e : suc m + 1 ≡ suc (m + 1) = omega arith in rw e (last_front p y m (omega arith))

pub terms_one : (d : ℕ) → terms 1 d ≡ 1
terms_one zero = refl
terms_one (suc d) = omega (arith, terms_one d)

pub terms_start : (n : ℕ) → 1 ≤ n → terms n 0 ≡ terms (n - 1) 0
terms_start zero h = absurd (omega arith)
terms_start (suc n) h = let e : suc n - 1 ≡ n = omega arith in ap (λ k. terms k 0) (sym e)

pub terms_step : (n j : ℕ) → 1 ≤ n → terms n (suc j) ≡ terms n j + terms (n - 1) (suc j)
terms_step zero j h = absurd (omega arith)
terms_step (suc n) j h = let e : suc n - 1 ≡ n = omega arith in ap (λ k. terms (suc n) j + terms k (suc j)) (sym e)

pub terms_more : (n j d : ℕ) → 1 ≤ n → j ≤ d → terms n j ≤ terms n d
terms_more n zero zero h l = omega arith
terms_more n (suc j) zero h l = absurd (omega arith)
terms_more n j (suc d) h l =
    ⊎_elim
    (λ (e : j ≡ suc d). rw e (omega arith))
    (λ (u : j ≡ suc d → ⊥). omega (arith, terms_more n j d h (omega arith), terms_step n d h))
    (cases_eq j (suc d))

-- what follows the first of a list, as a slice has it
pub rest_long : (xs : List ℕ) → length (take (length xs - 1) (drop 1 xs)) ≡ length xs - 1
rest_long xs = ap length (take_rest xs 1) ∙ length-drop 1 xs

pub rest_at : (xs : List ℕ) (j : ℕ) → get_or (take (length xs - 1) (drop 1 xs)) j 0 ≡ get_or xs (j + 1) 0
rest_at xs j =
    let n : 1 + j ≡ j + 1 = omega arith in
    ap (λ ys. get_or ys j 0) (take_rest xs 1) ∙ get_or-drop 1 xs j 0 ∙ ap (λ i. get_or xs i 0) n

-- the coordinates after the first
pub record Later (xs ys : List ℕ) : Type 0 where
  pub is : ys ≡ drop 1 xs
  pub long : length ys ≡ length xs - 1
  pub same_last : last 0 ys ≡ last 0 xs

pub later : (xs : List ℕ) → 2 ≤ length xs → Later xs (take (length xs - 1) (drop 1 xs))
later xs two =
    let r : take (length xs - 1) (drop 1 xs) ≡ drop 1 xs = take_rest xs 1 in
    record { is = r; long = rest_long xs; same_last = ap (last 0) r ∙ last_rest xs two }

-- at two coordinates each degree of the first has one coefficient
terms_two : (d : ℕ) → terms 2 d ≡ d + 1
terms_two zero = refl
terms_two (suc d) = omega (arith, terms_two d, terms_one (suc d))

pub terms_of_two : (xs : List ℕ) (d : ℕ) → length xs ≡ 2 → terms (length xs) d ≡ d + 1
terms_of_two xs d e = ap (λ n. terms n d) e ∙ terms_two d

module _ (F : Algebra) where
  lone : (xs : List ℕ) (d : ℕ) (cs : List ℕ) → length xs ≡ 2
      → nested (ops F) (drop 1 xs) d cs ≡ F.times (get_or cs 0 0) (power (ops F) (last 0 xs) d)
  lone xs d cs two =
      nested_one F (drop 1 xs) d cs (length-drop 1 xs ∙ ap (λ n. n - 1) two)
      ∙ ap (λ y. F.times (get_or cs 0 0) (power (ops F) y d)) (last_rest xs (omega (arith, two)))

  pub two_start : (xs cs : List ℕ) → length xs ≡ 2 → nested (ops F) xs 0 cs ≡ F.times (get_or cs 0 0) (power (ops F) (last 0 xs) 0)
  two_start xs cs two = nested_start F xs cs (omega (arith, two)) ∙ lone xs 0 cs two

  pub two_step : (xs : List ℕ) (j : ℕ) (cs : List ℕ) → length xs ≡ 2
      → nested (ops F) xs (j + 1) cs
      ≡ F.plus (F.times (nested (ops F) xs j cs) (get_or xs 0 0)) (F.times (get_or cs (j + 1) 0) (power (ops F) (last 0 xs) (j + 1)))
  two_step xs j cs two =
      let m : j + 1 ≡ suc j = omega arith in
      let k = terms (length xs) j in
      let n : k + 0 ≡ suc j = omega (arith, terms_of_two xs j two) in
      let c : get_or (drop k cs) 0 0 ≡ get_or cs (suc j) 0 = get_or-drop k cs 0 0 ∙ ap (λ i. get_or cs i 0) n in
      rw m
      (nested_step F xs j cs (omega (arith, two))
      ∙ ap (F.plus (F.times (nested (ops F) xs j cs) (get_or xs 0 0)))
      (lone xs (suc j) (drop k cs) two ∙ ap (λ w. F.times w (power (ops F) (last 0 xs) (suc j))) c))
