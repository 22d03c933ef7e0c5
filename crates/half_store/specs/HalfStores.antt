-- Two cells a byte, the lower four bits first.
use Rattle.std.specs.Prelude.{◌≡◌, ℕ, ◌+◌, ◌*◌, ◌/◌, ◌%◌, cond, List, [], ◌∷◌, ◌++◌, take, drop, ◌==◌}
use Rattle.cells.specs.declared.entries.Entry.{Entry}
use Rattle.cells.specs.Bytes.{AreBytes}
use Rattle.cells.specs.Codes.{code_entry, entry_code}
use Rattle.cells.specs.Stores.{Meaning}

-- a half below 15 is that symbol, and 15 is missing
abbrev pub half_entry : ℕ → Entry
half_entry h = code_entry 15 h

-- the lower half of each byte, then the upper
abbrev pub half_entries : List ℕ → List Entry
half_entries [] = []
half_entries (b ∷ bs) = half_entry (b % 16) ∷ (half_entry (b / 16) ∷ half_entries bs)

-- the first 65,536 halves are cells
abbrev pub half_meaning : List ℕ → Meaning
half_meaning bs = record { entries = half_entries (take 32768 bs); alphabet = 15 }

-- the bytes past them, which no call changes
abbrev pub half_kept : List ℕ → List ℕ
half_kept bs = drop 32768 bs

-- half p of the byte b, 0 the lower and 1 the upper
abbrev pub half_of : ℕ → ℕ → ℕ
half_of b p = cond (p == 0) (b % 16) (b / 16)

-- the byte b with v for its half p
abbrev pub with_half : ℕ → ℕ → ℕ → ℕ
with_half b p v = cond (p == 0) (b / 16 * 16 + v) (v * 16 + b % 16)

-- the half in which an entry stands
abbrev pub entry_half : Entry → ℕ
entry_half e = entry_code 15 e

-- the bytes in which entries stand, two a byte
abbrev pub half_bytes : List Entry → List ℕ
half_bytes [] = []
half_bytes (e ∷ []) = entry_half e ∷ []
half_bytes (e ∷ (f ∷ es)) = (entry_half e + 16 * entry_half f) ∷ half_bytes es

-- the bytes in which entries stand, with others past them
abbrev pub half_row : Meaning → List ℕ → List ℕ
half_row m rest = half_bytes m.entries ++ rest

-- What a store means and what no call changes tell which bytes stand there.
abbrev pub HalvesTold : Type 0
HalvesTold = (bs : List ℕ) → AreBytes bs → bs ≡ half_row (half_meaning bs) (half_kept bs)
