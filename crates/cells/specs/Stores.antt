-- What a store means, and what each call answers and leaves.
use Rattle.std.specs.Prelude.{ℕ, ◌<◌, List, length, Some, None, Ok, Err, Option, Result, slice_index_or, slice_set}
use Rattle.cells.specs.declared.entries.Entry.{Entry}
use Rattle.cells.specs.declared.entries.Entry.TheVariants.{Symbol, Missing}
use Rattle.cells.specs.declared.faults.StoreFault.{StoreFault}
use Rattle.cells.specs.Refusals.{access_fault, put_fault}

-- A store means a list of entries and an alphabet. An entry is a symbol or missing.
pub record Meaning : Type 0 where
  pub entries : List Entry
  pub alphabet : ℕ

-- the count is the list's length
abbrev pub count_of : Meaning → ℕ
count_of m = length m.entries

-- entry i; missing where there is none
abbrev pub entry_at : Meaning → ℕ → Entry
entry_at m i = slice_index_or m.entries i Missing

-- a symbol is below the alphabet, and missing is no symbol
abbrev pub InAlphabet : ℕ → Entry → Type 0
InAlphabet alphabet (Symbol v) = v < alphabet
InAlphabet alphabet Missing = Unit {0}

-- every symbol in the entries is below the alphabet
abbrev pub Sound : Meaning → Type 0
Sound m = (i : ℕ) → InAlphabet m.alphabet (entry_at m i)

-- entry i becomes e; every other entry, the count and the alphabet stay
abbrev pub with_entry : Meaning → ℕ → Entry → Meaning
with_entry m i e = record { entries = slice_set m.entries i e; alphabet = m.alphabet }

-- what a call answers: its refusal if there is one, else the value
abbrev pub unless : {A : Type 0} → Option StoreFault → A → Result A StoreFault
unless (Some f) a = Err f
unless None a = Ok a

-- what a call leaves: all as before if it is refused, else the change
abbrev pub left_unless : Option StoreFault → Meaning → Meaning → Meaning
left_unless (Some f) before after = before
left_unless None before after = after

abbrev pub read_answer : Meaning → ℕ → Result Entry StoreFault
read_answer m i = unless (access_fault (count_of m) i) (entry_at m i)

abbrev pub wipe_answer : Meaning → ℕ → Result (Unit {0}) StoreFault
wipe_answer m i = unless (access_fault (count_of m) i) tt

abbrev pub wiped : Meaning → ℕ → Meaning
wiped m i = left_unless (access_fault (count_of m) i) m (with_entry m i Missing)

abbrev pub put_answer : Meaning → ℕ → ℕ → Result (Unit {0}) StoreFault
put_answer m i v = unless (put_fault (count_of m) m.alphabet i v) tt

abbrev pub put_in : Meaning → ℕ → ℕ → Meaning
put_in m i v = left_unless (put_fault (count_of m) m.alphabet i v) m (with_entry m i (Symbol v))
