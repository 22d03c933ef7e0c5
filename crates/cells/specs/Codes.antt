-- Entries as codes in memory.
use Rattle.std.specs.Prelude.{ℕ, cond, nat_lt}
use Rattle.cells.specs.declared.entries.Entry.{Entry}
use Rattle.cells.specs.declared.entries.Entry.TheVariants.{Symbol, Missing}

-- a code below the alphabet is that symbol, and any other is missing
abbrev pub code_entry : ℕ → ℕ → Entry
code_entry alphabet c = cond (nat_lt c alphabet) (Symbol c) Missing

-- a symbol is its own code, and the code of missing is the alphabet
abbrev pub entry_code : ℕ → Entry → ℕ
entry_code alphabet (Symbol v) = v
entry_code alphabet Missing = alphabet
