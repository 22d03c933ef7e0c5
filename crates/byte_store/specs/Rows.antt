-- Every symbol of bytes is below the alphabet, and what they mean tells them.
use Rattle.std.proofs.Common.{◌≡◌, ℕ, suc, ◌<◌, min, List, [], ◌∷◌, ◌++◌, map, length, get_or, take, drop, sym, refl, ap, ◌∙◌, arith}
use Rattle.std.proofs.lemmas.List.{length-map, length-take, get_or-map, get_or-take, take-append-drop}
use Rattle.cells.specs.declared.entries.Entry.TheVariants.{Missing}
use Rattle.cells.specs.Bytes.{AreBytes}
use Rattle.cells.specs.Stores.{Sound, count_of, entry_at}
use Rattle.byte_store.specs.ByteStores.{byte_entry, byte_meaning, entry_byte, BytesTold}
use Rattle.cells.proofs.Codes.{code_back, code_in, sound_from}
use Rattle.cells.proofs.Lenders.{front_bytes}

pub byte_count : (bs : List ℕ) → count_of (byte_meaning bs) ≡ min 65536 (length bs)
byte_count bs = length-map (take 65536 bs) byte_entry ∙ length-take 65536 bs

pub byte_at : (bs : List ℕ) (i : ℕ) → i < count_of (byte_meaning bs) → entry_at (byte_meaning bs) i ≡ byte_entry (get_or bs i 0)
byte_at bs i h =
    let n = byte_count bs in
    let l = length-take 65536 bs in
    get_or-map byte_entry (take 65536 bs) i 0 Missing (omega arith) ∙ ap byte_entry (get_or-take 65536 bs i 0 (omega arith))

pub bytes_sound : (bs : List ℕ) → Sound (byte_meaning bs)
bytes_sound bs = sound_from (byte_meaning bs) (λ i h. rw (byte_at bs i h) (code_in 255 (get_or bs i 0)))

bytes_back : (bs : List ℕ) → AreBytes bs → map entry_byte (map byte_entry bs) ≡ bs
bytes_back [] h = refl
bytes_back (b ∷ bs) h = let p = code_back 255 b (omega (arith, h 0)) in let q = bytes_back bs (λ i. h (suc i)) in cc

pub bytes_told : BytesTold
bytes_told bs h = sym (ap (λ f. f ++ drop 65536 bs) (bytes_back (take 65536 bs) (front_bytes 65536 bs h)) ∙ take-append-drop 65536 bs)
