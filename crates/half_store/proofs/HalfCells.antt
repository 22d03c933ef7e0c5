-- The cells of a row of bytes, two a byte.
use Rattle.std.proofs.Common.{◌≡◌, ℕ, zero, suc, ◌+◌, ◌*◌, ◌/◌, ◌%◌, ◌<◌, ◌≤◌, List, [], ◌∷◌, length, get_or, slice_get, Some, None, take, set, sym, refl, ap, ◌∙◌, arith}
use Rattle.std.proofs.lemmas.List.{get_or-take, drop-set-lt}
use Rattle.std.proofs.lemmas.Option.{slice_get-get_or, slice_get_past}
use Rattle.cells.specs.declared.entries.Entry.{Entry}
use Rattle.cells.specs.declared.entries.Entry.TheVariants.{Missing}
use Rattle.cells.specs.Stores.{InAlphabet, Meaning, count_of, with_entry}
use Rattle.half_store.specs.HalfStores.{half_entry, half_entries, half_meaning, half_kept, half_of, with_half, entry_half}
use Rattle.half_store.specs.Rows.{halves_count, half_count, halves_at}
use Rattle.cells.proofs.Codes.{code_again, code_most}
use Rattle.cells.proofs.Lenders.{take_set_in}

halves_set : (bs : List ℕ) (i v : ℕ) → v < 16 → half_entries (set bs (i / 2) (with_half (get_or bs (i / 2) 0) (i % 2) v)) ≡ set (half_entries bs) i (half_entry v)
halves_set [] i v h = refl
halves_set (b ∷ bs) zero v h =
    let e : (b / 16 * 16 + v) % 16 ≡ v = omega arith in
    let f : (b / 16 * 16 + v) / 16 ≡ b / 16 = omega arith in
    ap (λ x. half_entry x ∷ (half_entry ((b / 16 * 16 + v) / 16) ∷ half_entries bs)) e ∙ ap (λ x. half_entry v ∷ (half_entry x ∷ half_entries bs)) f
halves_set (b ∷ bs) (suc zero) v h =
    let e : (v * 16 + b % 16) % 16 ≡ b % 16 = omega arith in
    let f : (v * 16 + b % 16) / 16 ≡ v = omega arith in
    ap (λ x. half_entry x ∷ (half_entry ((v * 16 + b % 16) / 16) ∷ half_entries bs)) e ∙ ap (λ x. half_entry (b % 16) ∷ (half_entry x ∷ half_entries bs)) f
halves_set (b ∷ bs) (suc (suc i)) v h =
    let e : suc (suc i) / 2 ≡ suc (i / 2) = omega arith in
    let f : suc (suc i) % 2 ≡ i % 2 = omega arith in
    ap (λ k. half_entries (set (b ∷ bs) k (with_half (get_or (b ∷ bs) k 0) (suc (suc i) % 2) v))) e ∙ ap (λ p. half_entries (set (b ∷ bs) (suc (i / 2)) (with_half (get_or bs (i / 2) 0) p v))) f ∙ ap (λ es. half_entry (b % 16) ∷ (half_entry (b / 16) ∷ es)) (halves_set bs i v h)

pub half_set : (bs : List ℕ) (i v : ℕ) → i < count_of (half_meaning bs) → v < 16 → half_meaning (set bs (i / 2) (with_half (get_or bs (i / 2) 0) (i % 2) v)) ≡ with_entry (half_meaning bs) i (half_entry v)
half_set bs i v h k =
    let n = half_count bs in
    let F : List Entry → Meaning = λ es. record { entries = es; alphabet = 15 } in
    let g = get_or-take 32768 bs (i / 2) 0 (omega arith) in
    ap F (ap half_entries (take_set_in 32768 bs (i / 2) (with_half (get_or bs (i / 2) 0) (i % 2) v) ∙ ap (λ b. set (take 32768 bs) (i / 2) (with_half b (i % 2) v)) (sym g)) ∙ halves_set (take 32768 bs) i v k)

-- an entry put into a cell that there is
pub half_put : (bs : List ℕ) (i : ℕ) (e : Entry) → i < count_of (half_meaning bs) → InAlphabet 15 e → half_meaning (set bs (i / 2) (with_half (get_or bs (i / 2) 0) (i % 2) (entry_half e % 16))) ≡ with_entry (half_meaning bs) i e
half_put bs i e h k =
    let most = code_most 15 e k in
    let same : entry_half e % 16 ≡ entry_half e = omega arith in
    ap (λ v. half_meaning (set bs (i / 2) (with_half (get_or bs (i / 2) 0) (i % 2) v))) same ∙ half_set bs i (entry_half e) h (omega arith) ∙ ap (with_entry (half_meaning bs) i) (code_again 15 e k)

-- what is read from the bytes xs that hold cells
pub half_got : (bs xs : List ℕ) (i b : ℕ) → xs ≡ take 32768 bs → i / 2 < length xs → b ≡ get_or xs (i / 2) 0 → Some (half_entry (half_of b (i % 2))) ≡ slice_get (half_meaning bs).entries i
half_got bs xs i b e h q =
    let n = halves_count xs in
    let l : i < length (half_entries xs) = omega arith in
    ap (λ x. Some (half_entry (half_of x (i % 2)))) q ∙ sym (slice_get-get_or (half_entries xs) i Missing l ∙ ap Some (halves_at xs i l)) ∙ ap (λ ys. slice_get (half_entries ys) i) e

pub half_past : (bs xs : List ℕ) (i : ℕ) → xs ≡ take 32768 bs → length xs ≤ i / 2 → slice_get (half_meaning bs).entries i ≡ None
half_past bs xs i e h = slice_get_past (half_meaning bs).entries i (omega (arith, ap length e, halves_count (take 32768 bs)))

pub half_rest : (bs : List ℕ) (i x : ℕ) → i < count_of (half_meaning bs) → half_kept (set bs (i / 2) x) ≡ half_kept bs
half_rest bs i x h = let n = half_count bs in drop-set-lt 32768 bs (i / 2) x (omega arith)
