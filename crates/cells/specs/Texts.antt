-- Entries as text.
use Rattle.std.specs.Prelude.{ℕ, List, codes}
use Rattle.std.specs.Fmt.{decimal}
use Rattle.cells.specs.declared.entries.Entry.{Entry}
use Rattle.cells.specs.declared.entries.Entry.TheVariants.{Symbol, Missing}

-- a symbol's number in decimal, or the word missing
abbrev pub entry_text : Entry → List ℕ
entry_text (Symbol v) = decimal v
entry_text Missing = codes "missing"
