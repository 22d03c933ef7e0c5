-- Bytes at the front of a row, and which stand where they were lent to a store.
use Rattle.std.proofs.Common.{◌≡◌, ℕ, zero, suc, List, [], ◌∷◌, take, set, refl, ap, ◌∙◌, inl, inr, arith}
use Rattle.std.proofs.lemmas.Bool.{cases_lt}
use Rattle.std.proofs.lemmas.List.{length-take, get_or-take, get_or_past}
use Rattle.cells.specs.Bytes.{AreBytes}
use Rattle.cells.specs.Stores.{Meaning}

pub take_set_in {ℓ} : {A : Type ℓ} (n : ℕ) (l : List A) (i : ℕ) (a : A) → take n (set l i a) ≡ set (take n l) i a
take_set_in zero l i a = refl
take_set_in (suc n) [] i a = refl
take_set_in (suc n) (x ∷ xs) zero a = refl
take_set_in (suc n) (x ∷ xs) (suc i) a = ap (λ r. x ∷ r) (take_set_in n xs i a)

pub front_bytes : (n : ℕ) (bs : List ℕ) → AreBytes bs → AreBytes (take n bs)
front_bytes n bs h i = elim (cases_lt i n) [
  | inl k ↦ rw (get_or-take n bs i 0 k) (h i)
  | inr k ↦ (let l = length-take n bs in rw (get_or_past (take n bs) i 0 (omega arith)) (omega arith))
]

-- bs are the bytes that the lender has in the end, and xs those that the store held
pub lender_told : (meaning : List ℕ → Meaning) (kept : List ℕ → List ℕ) (row : Meaning → List ℕ → List ℕ) → ((bs : List ℕ) → AreBytes bs → bs ≡ row (meaning bs) (kept bs)) → (bs xs : List ℕ) (m : Meaning) (k : List ℕ) → AreBytes bs → bs ≡ xs → meaning xs ≡ m → kept xs ≡ k → bs ≡ row m k
lender_told meaning kept row told bs xs m k h e p q = told bs h ∙ ap (λ x. row x (kept bs)) (ap meaning e ∙ p) ∙ ap (row m) (ap kept e ∙ q)
