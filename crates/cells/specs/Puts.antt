-- Symbols put one after another.
use Rattle.std.specs.Prelude.{ℕ, suc, ◌+◌, min, cond, List, [], ◌∷◌, length, take, None, Option, Result, nat_lt, slice_index}
use Rattle.cells.specs.declared.entries.Entry.TheVariants.{Symbol}
use Rattle.cells.specs.declared.faults.StoreFault.{StoreFault}
use Rattle.cells.specs.Refusals.{put_fault}
use Rattle.cells.specs.Stores.{Meaning, count_of, with_entry, unless}

-- how many of the numbers, from the first on, are symbols of the alphabet
abbrev pub leading : ℕ → List ℕ → ℕ
leading alphabet [] = 0
leading alphabet (v ∷ vs) = cond (nat_lt v alphabet) (suc (leading alphabet vs)) 0

-- how many of them are put into entries 0, 1, 2 and so on before one is refused
abbrev pub accepted : Meaning → List ℕ → ℕ
accepted m vs = min (count_of m) (leading m.alphabet vs)

-- the refusal of the first that is refused
abbrev pub put_all_fault : Meaning → List ℕ → Option StoreFault
put_all_fault m vs = cond (nat_lt (accepted m vs) (length vs)) (put_fault (count_of m) m.alphabet (accepted m vs) (slice_index vs (accepted m vs))) None

abbrev pub put_all_answer : Meaning → List ℕ → Result (Unit {0}) StoreFault
put_all_answer m vs = unless (put_all_fault m vs) tt

-- the symbols stand in entries place i, place (i + 1) and so on
abbrev pub laid : (ℕ → ℕ) → Meaning → ℕ → List ℕ → Meaning
laid place m i [] = m
laid place m i (v ∷ vs) = laid place (with_entry m (place i) (Symbol v)) (i + 1) vs

-- those before the first refused stand in entries 0, 1, 2 and so on
abbrev pub put_all_in : Meaning → List ℕ → Meaning
put_all_in m vs = laid (λ i. i) m 0 (take (accepted m vs) vs)
