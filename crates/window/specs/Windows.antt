-- A window has a start and a length.
use Rattle.std.specs.Prelude.{◌≡◌, ℕ, ◌+◌, List, take, drop}
use Rattle.cells.specs.declared.entries.Entry.{Entry}
use Rattle.cells.specs.Stores.{Meaning}
use Rattle.layer.specs.Places.{LayerKept}

-- It means the entries below from start on, at most len of them, and keeps the alphabet.
abbrev pub window_meaning : Meaning → ℕ → ℕ → Meaning
window_meaning m start len = record { entries = take len (drop start m.entries); alphabet = m.alphabet }

-- What no call changes of the store below: start and length, and the entries that are not shown.
pub record WindowHidden : Type 0 where
  pub start : ℕ
  pub len : ℕ
  pub before : List Entry
  pub after : List Entry

abbrev pub window_hidden : Meaning → ℕ → ℕ → WindowHidden
window_hidden m start len = record { start = start; len = len; before = take start m.entries; after = drop (start + len) m.entries }

-- What no call changes, with what no call changes below.
abbrev pub WindowKept : Type 0 → Type 0
WindowKept K = LayerKept WindowHidden K

abbrev pub window_kept : {K : Type 0} → Meaning → K → ℕ → ℕ → WindowKept K
window_kept m k start len = record { hidden = window_hidden m start len; below = k }

-- What a window means and what no call changes tell what stands below.
abbrev pub WindowTold : Type 0 → Type 0
WindowTold K =
    (m n : Meaning) (k l : K) (start len : ℕ) → window_meaning m start len ≡ window_meaning n start len → window_kept m k start len ≡ window_kept n l start len
    → (m ≡ n) × (k ≡ l)
