-- The cells of a row of bytes, one a byte.
use Rattle.std.proofs.Common.{◌≡◌, ℕ, ◌<◌, ◌≤◌, List, map, length, get_or, slice_get, Some, None, take, set, sym, ap, ◌∙◌, arith}
use Rattle.std.proofs.lemmas.List.{length-map, map-set, drop-set-lt}
use Rattle.std.specs.Option.{option_map}
use Rattle.std.proofs.lemmas.Option.{slice_get-map, slice_get-get_or, slice_get_past}
use Rattle.cells.specs.declared.entries.Entry.{Entry}
use Rattle.cells.specs.Stores.{InAlphabet, Meaning, count_of, with_entry}
use Rattle.byte_store.specs.ByteStores.{byte_entry, byte_meaning, byte_kept, entry_byte}
use Rattle.byte_store.specs.Rows.{byte_count}
use Rattle.cells.proofs.Codes.{code_again}
use Rattle.cells.proofs.Lenders.{take_set_in}

-- what is read from the bytes xs that are cells
pub byte_got : (bs xs : List ℕ) (i b : ℕ) → xs ≡ take 65536 bs → i < length xs → b ≡ get_or xs i 0 → Some (byte_entry b) ≡ slice_get (byte_meaning bs).entries i
byte_got bs xs i b e h q =
    ap (λ x. Some (byte_entry x)) q ∙ sym (slice_get-map byte_entry xs i ∙ ap (option_map byte_entry) (slice_get-get_or xs i 0 h)) ∙ ap (λ l. slice_get (map byte_entry l) i) e

pub byte_past : (bs xs : List ℕ) (i : ℕ) → xs ≡ take 65536 bs → length xs ≤ i → slice_get (byte_meaning bs).entries i ≡ None
byte_past bs xs i e h = slice_get_past (byte_meaning bs).entries i (omega (arith, ap length e, length-map (take 65536 bs) byte_entry))

pub byte_set : (bs : List ℕ) (i v : ℕ) → byte_meaning (set bs i v) ≡ with_entry (byte_meaning bs) i (byte_entry v)
byte_set bs i v =
    let F : List Entry → Meaning = λ es. record { entries = es; alphabet = 255 } in
    ap F (ap (map byte_entry) (take_set_in 65536 bs i v) ∙ map-set byte_entry (take 65536 bs) i v)

-- an entry put into a cell that there is
pub byte_put : (bs : List ℕ) (i : ℕ) (e : Entry) → InAlphabet 255 e → byte_meaning (set bs i (entry_byte e)) ≡ with_entry (byte_meaning bs) i e
byte_put bs i e h = byte_set bs i (entry_byte e) ∙ ap (with_entry (byte_meaning bs) i) (code_again 255 e h)

pub byte_rest : (bs : List ℕ) (i v : ℕ) → i < count_of (byte_meaning bs) → byte_kept (set bs i v) ≡ byte_kept bs
byte_rest bs i v h = let n = byte_count bs in drop-set-lt 65536 bs i v (omega arith)
