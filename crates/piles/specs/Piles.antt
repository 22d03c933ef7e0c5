-- A pile: a stride over a window over a store.
use Rattle.std.specs.Prelude.{ℕ, ◌+◌, ◌*◌, ◌%◌, List, take}
use Rattle.cells.specs.Stores.{Meaning}
use Rattle.cells.specs.Puts.{accepted, laid}
use Rattle.window.specs.Windows.{window_meaning}
use Rattle.stride.specs.Strides.{stride_meaning}
use Rattle.piles.specs.declared.pile.Pile.{Pile}

-- what the pile means, by what the store means
abbrev pub pile_meaning : Pile → Meaning → Meaning
pile_meaning pile m = stride_meaning (window_meaning m pile.span.start pile.span.len) pile.pair.n pile.pair.step

-- where entry i of the pile lies in the store
abbrev pub pile_place : Pile → ℕ → ℕ
pile_place pile i = pile.span.start + (pile.pair.step * i) % pile.pair.n

-- what the store means after symbols were put into the entries of the pile from 0 on, up to the first that is refused
abbrev pub piled : Pile → Meaning → List ℕ → Meaning
piled pile m symbols = laid (pile_place pile) m 0 (take (accepted (pile_meaning pile m) symbols) symbols)
