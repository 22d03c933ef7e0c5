-- Bytes told by what they mean.
use Rattle.std.specs.Prelude.{◌≡◌, ℕ, List}
use Rattle.cells.specs.Bytes.{AreBytes}
use Rattle.cells.specs.Stores.{Meaning}

-- What bytes mean and what no call changes tell which bytes stand there: `written` writes them out again.
abbrev pub PackingTold : (List ℕ → Meaning) → (List ℕ → List ℕ) → (Meaning → List ℕ → List ℕ) → Type 0
PackingTold meaning kept written = (bs : List ℕ) → AreBytes bs → bs ≡ written (meaning bs) (kept bs)
