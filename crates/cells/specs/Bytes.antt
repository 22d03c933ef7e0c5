-- Bytes that are lent to a store.
use Rattle.std.specs.Prelude.{ℕ, ◌<◌, List, slice_index}

-- a list of bytes
abbrev pub AreBytes : List ℕ → Type 0
AreBytes bs = (i : ℕ) → slice_index bs i < 256
