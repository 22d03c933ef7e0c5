-- One cell a byte.
use Rattle.std.specs.Prelude.{◌≡◌, ℕ, List, ◌++◌, map, take, drop}
use Rattle.cells.specs.declared.entries.Entry.{Entry}
use Rattle.cells.specs.Bytes.{AreBytes}
use Rattle.cells.specs.Codes.{code_entry, entry_code}
use Rattle.cells.specs.Stores.{Meaning}

-- a byte below 255 is that symbol, and 255 is missing
abbrev pub byte_entry : ℕ → Entry
byte_entry b = code_entry 255 b

-- the first 65,536 bytes are cells
abbrev pub byte_meaning : List ℕ → Meaning
byte_meaning bs = record { entries = map byte_entry (take 65536 bs); alphabet = 255 }

-- the bytes past them, which no call changes
abbrev pub byte_kept : List ℕ → List ℕ
byte_kept bs = drop 65536 bs

-- the byte in which an entry stands
abbrev pub entry_byte : Entry → ℕ
entry_byte e = entry_code 255 e

-- the bytes in which entries stand, with others past them
abbrev pub byte_row : Meaning → List ℕ → List ℕ
byte_row m rest = map entry_byte m.entries ++ rest

-- What a store means and what no call changes tell which bytes stand there.
abbrev pub BytesTold : Type 0
BytesTold = (bs : List ℕ) → AreBytes bs → bs ≡ byte_row (byte_meaning bs) (byte_kept bs)
