-- Every symbol of bytes is below the alphabet, and what they mean tells them.
use Rattle.std.proofs.Common.{◌≡◌, ℕ, zero, suc, ◌+◌, ◌*◌, ◌/◌, ◌%◌, ◌<◌, min, List, [], ◌∷◌, ◌++◌, length, get_or, take, drop, sym, refl, ap, ◌∙◌, arith}
use Rattle.std.proofs.lemmas.List.{length-take, get_or-take, take-append-drop}
use Rattle.cells.specs.declared.entries.Entry.TheVariants.{Missing}
use Rattle.cells.specs.Bytes.{AreBytes}
use Rattle.cells.specs.Stores.{Sound, count_of, entry_at}
use Rattle.half_store.specs.HalfStores.{half_entry, half_entries, half_meaning, half_of, entry_half, half_bytes, HalvesTold}
use Rattle.cells.proofs.Codes.{code_back, code_in, sound_from}
use Rattle.cells.proofs.Lenders.{front_bytes}

pub halves_count : (bs : List ℕ) → length (half_entries bs) ≡ 2 * length bs
halves_count [] = refl
halves_count (b ∷ bs) = let e = halves_count bs in omega arith

pub half_count : (bs : List ℕ) → count_of (half_meaning bs) ≡ 2 * min 32768 (length bs)
half_count bs = halves_count (take 32768 bs) ∙ ap (λ x. 2 * x) (length-take 32768 bs)

pub halves_at : (bs : List ℕ) (i : ℕ) → i < length (half_entries bs) → get_or (half_entries bs) i Missing ≡ half_entry (half_of (get_or bs (i / 2) 0) (i % 2))
halves_at [] i h = absurd (omega arith)
halves_at (b ∷ bs) zero h = refl
halves_at (b ∷ bs) (suc zero) h = refl
halves_at (b ∷ bs) (suc (suc i)) h =
    let e : suc (i / 2) ≡ suc (suc i) / 2 = omega arith in
    let f : i % 2 ≡ suc (suc i) % 2 = omega arith in
    halves_at bs i (omega arith) ∙ ap (λ p. half_entry (half_of (get_or bs (i / 2) 0) p)) f ∙ ap (λ k. half_entry (half_of (get_or (b ∷ bs) k 0) (suc (suc i) % 2))) e

pub half_at : (bs : List ℕ) (i : ℕ) → i < count_of (half_meaning bs) → entry_at (half_meaning bs) i ≡ half_entry (half_of (get_or bs (i / 2) 0) (i % 2))
half_at bs i h = let n = half_count bs in halves_at (take 32768 bs) i h ∙ ap (λ b. half_entry (half_of b (i % 2))) (get_or-take 32768 bs (i / 2) 0 (omega arith))

pub halves_sound : (bs : List ℕ) → Sound (half_meaning bs)
halves_sound bs = sound_from (half_meaning bs) (λ i h. rw (half_at bs i h) (code_in 15 (half_of (get_or bs (i / 2) 0) (i % 2))))

halves_back : (bs : List ℕ) → AreBytes bs → half_bytes (half_entries bs) ≡ bs
halves_back [] h = refl
halves_back (b ∷ bs) h =
    let l = code_back 15 (b % 16) (omega arith) in
    let u = code_back 15 (b / 16) (omega (arith, h 0)) in
    let q = halves_back bs (λ i. h (suc i)) in
    let e : entry_half (half_entry (b % 16)) + 16 * entry_half (half_entry (b / 16)) ≡ b = omega arith in
    cc

pub halves_told : HalvesTold
halves_told bs h = sym (ap (λ f. f ++ drop 32768 bs) (halves_back (take 32768 bs) (front_bytes 32768 bs h)) ∙ take-append-drop 32768 bs)
