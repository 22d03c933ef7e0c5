-- Entries as codes in memory, there and back.
use Rattle.std.proofs.Common.{◌≡◌, ℕ, ◌<◌, ◌≤◌, ltb, ap, ◌∙◌, inl, inr, arith}
use Rattle.std.proofs.lemmas.Bool.{lt-ltb, le-ltb, cond-true, cond-false, cases_lt}
use Rattle.std.proofs.lemmas.List.{get_or_past}
use Rattle.cells.specs.declared.entries.Entry.{Entry}
use Rattle.cells.specs.declared.entries.Entry.TheVariants.{Symbol, Missing}
use Rattle.cells.specs.Codes.{code_entry, entry_code}
use Rattle.cells.specs.Stores.{InAlphabet, Meaning, Sound, count_of, entry_at}

code_symbol : (a c : ℕ) → c < a → code_entry a c ≡ Symbol c
code_symbol a c h = cond-true (ltb c a) _ _ (lt-ltb c a h)

code_missing : (a c : ℕ) → a ≤ c → code_entry a c ≡ Missing
code_missing a c h = cond-false (ltb c a) _ _ (le-ltb c a h)

-- the code of an entry is read as that entry
pub code_again : (a : ℕ) (e : Entry) → InAlphabet a e → code_entry a (entry_code a e) ≡ e
code_again a (Symbol v) h = code_symbol a v h
code_again a Missing h = code_missing a a (omega arith)

pub code_most : (a : ℕ) (e : Entry) → InAlphabet a e → entry_code a e ≤ a
code_most a (Symbol v) h = omega arith
code_most a Missing h = omega arith

-- a code up to the alphabet is the code of what is read
pub code_back : (a c : ℕ) → c ≤ a → entry_code a (code_entry a c) ≡ c
code_back a c h = elim (cases_lt c a) [ inl k ↦ ap (entry_code a) (code_symbol a c k) | inr k ↦ ap (entry_code a) (code_missing a c k) ∙ omega arith ]

pub code_in : (a c : ℕ) → InAlphabet a (code_entry a c)
code_in a c = elim (cases_lt c a) [ inl h ↦ rw (code_symbol a c h) h | inr h ↦ rw (code_missing a c h) tt ]

-- it is enough to look at the entries that there are
pub sound_from : (m : Meaning) → ((i : ℕ) → i < count_of m → InAlphabet m.alphabet (entry_at m i)) → Sound m
sound_from m h i = elim (cases_lt i (count_of m)) [ inl k ↦ h i k | inr k ↦ rw (get_or_past m.entries i Missing k) tt ]
