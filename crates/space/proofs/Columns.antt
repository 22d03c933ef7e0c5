-- The table of counts, by the columns.
use Rattle.std.proofs.Common.{◌≡◌, ℕ, zero, suc, ◌-◌, ◌<◌, ◌≤◌, true, false, cond, eqb, List, [], ◌∷◌, map, get_or, Some, None, sym, refl, subst, ap, rules, ◌∙◌, ⊎_elim, arith}
use Rattle.std.specs.Prelude.{option_map}
use Rattle.std.specs.List.{AllByRecursion, find}
use Rattle.std.proofs.lemmas.Bool.{cases_Bool, cases_eq, eq-eqb, ne_eqb, cond-true, cond-false}
use Rattle.space.specs.Counts.{columns, cells, member, has_column, table, counts_of}

-- what is found by its first part
found : {X : Type 0} (f : ℕ → X) (q : ℕ) (xs : List ℕ)
    → option_map (λ (c : ℕ × X). c.1) (find (λ c. eqb c.0 q) (map (λ x. (x, f x)) xs)) ≡ cond (member q xs) (Some (f q)) None
found f q [] = refl
found f q (x ∷ xs) =
    ⊎_elim
    (λ (e : x ≡ q). rw (e, eq-eqb q q refl) refl)
    (λ (n : x ≡ q → ⊥). rw (ne_eqb x q n, ne_eqb q x (λ e. n (cc))) (found f q xs))
    (cases_eq x q)

pub column_found : (q : ℕ) → option_map (λ (c : ℕ × List ℕ). c.1) (find (λ c. eqb c.0 q) table) ≡ counts_of q
column_found q = found (λ x. map (cells x) (1 ∷ 2 ∷ 3 ∷ [])) q columns

member_all : (P : ℕ → Type 0) (x : ℕ) (ys : List ℕ) → AllByRecursion P ys → member x ys ≡ true → P x
member_all P x [] a h = absurd (cc)
member_all P x (y ∷ ys) a h =
    ⊎_elim
    (λ (e : x ≡ y). subst P (sym e) a.0)
    (λ (n : x ≡ y → ⊥). member_all P x ys a.1 (rw (ne_eqb x y n) at h))
    (cases_eq x y)

abbrev Few : ℕ → Type 0
Few q = (1 < q) × (q ≤ 16)

few_columns : AllByRecursion Few columns
few_columns = search rules

-- what the row of q tells
pub record Counted (q : ℕ) (row : List ℕ) : Type 0 where
  pub column : has_column q ≡ true
  pub symbols : (1 < q) × (q ≤ 16)
  pub cell : (m : ℕ) → 0 < m → m ≤ 3 → get_or row (m - 1) 0 ≡ cells q m

cell_at : (f : ℕ → ℕ) (m : ℕ) → 0 < m → m ≤ 3 → get_or (map f (1 ∷ 2 ∷ 3 ∷ [])) (m - 1) 0 ≡ f m
cell_at f zero h l = absurd (omega arith)
cell_at f (suc zero) h l = refl
cell_at f (suc (suc zero)) h l = refl
cell_at f (suc (suc (suc zero))) h l = refl
cell_at f (suc (suc (suc (suc m)))) h l = absurd (omega arith)

pub counted : (q : ℕ) (row : List ℕ) → counts_of q ≡ Some row → Counted q row
counted q row e =
    ⊎_elim
    (λ (h : has_column q ≡ true).
    let r : map (cells q) (1 ∷ 2 ∷ 3 ∷ []) ≡ row = let s = sym (cond-true (has_column q) (Some (map (cells q) (1 ∷ 2 ∷ 3 ∷ []))) None h) ∙ e in cc in
    record { column = h; symbols = member_all Few q columns few_columns h; cell = λ m a b. ap (λ w. get_or w (m - 1) 0) (sym r) ∙ cell_at (cells q) m a b })
    (λ (h : has_column q ≡ false). absurd (let s = sym (cond-false (has_column q) (Some (map (cells q) (1 ∷ 2 ∷ 3 ∷ []))) None h) ∙ e in cc))
    (cases_Bool (has_column q))
