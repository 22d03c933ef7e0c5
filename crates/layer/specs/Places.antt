-- A layer shows entries of the store below, each at a place there.
use Rattle.std.specs.Prelude.{◌≡◌, ℕ, cond, Some, None, Ok, Err, Option, Result, nat_lt}
use Rattle.cells.specs.declared.entries.Entry.{Entry}
use Rattle.cells.specs.declared.faults.StoreFault.{StoreFault}
use Rattle.cells.specs.declared.faults.StoreFault.TheVariants.{NoEntry}
use Rattle.cells.specs.Refusals.{fault_at}
use Rattle.cells.specs.Stores.{Meaning, count_of, read_answer, wipe_answer, wiped, put_answer, put_in}

-- where entry i of a layer lies below, if the layer has such an entry
abbrev pub place_in : Meaning → ℕ → ℕ → Option ℕ
place_in layer i at = cond (nat_lt i (count_of layer)) (Some at) None

-- an answer from below, told of entry i of the layer
abbrev pub told_at : {A : Type 0} → ℕ → Result A StoreFault → Result A StoreFault
told_at i (Ok a) = Ok a
told_at i (Err f) = Err (fault_at i f)

-- what a call at a place of the store below answers for entry i of a layer, and what it leaves below
abbrev pub read_through : Meaning → Option ℕ → ℕ → Result Entry StoreFault
read_through m (Some at) i = told_at i (read_answer m at)
read_through m None i = Err (NoEntry i)

abbrev pub wipe_through : Meaning → Option ℕ → ℕ → Result (Unit {0}) StoreFault
wipe_through m (Some at) i = told_at i (wipe_answer m at)
wipe_through m None i = Err (NoEntry i)

abbrev pub wiped_through : Meaning → Option ℕ → Meaning
wiped_through m (Some at) = wiped m at
wiped_through m None = m

abbrev pub put_through : Meaning → Option ℕ → ℕ → ℕ → Result (Unit {0}) StoreFault
put_through m (Some at) i v = told_at i (put_answer m at v)
put_through m None i v = Err (NoEntry i)

abbrev pub put_below : Meaning → Option ℕ → ℕ → Meaning
put_below m (Some at) v = put_in m at v
put_below m None v = m

-- A call at a place p of the store below, which means m, is a call of the layer at its entry i: `view` is what the layer means and `rest` what no call changes of m.
pub record Passes {R : Type 0} (view : Meaning → Meaning) (rest : Meaning → R) (m : Meaning) (i : ℕ) (p : Option ℕ) : Type 0 where
  pub read_answers : read_through m p i ≡ read_answer (view m) i
  pub wipe_answers : wipe_through m p i ≡ wipe_answer (view m) i
  pub wipe_leaves : view (wiped_through m p) ≡ wiped (view m) i
  pub wipe_keeps : rest (wiped_through m p) ≡ rest m
  pub put_answers : (v : ℕ) → put_through m p i v ≡ put_answer (view m) i v
  pub put_leaves : (v : ℕ) → view (put_below m p v) ≡ put_in (view m) i v
  pub put_keeps : (v : ℕ) → rest (put_below m p v) ≡ rest m

-- What no call of a layer changes: its numbers and the entries below that it hides, and what no call changes below.
pub record LayerKept (H K : Type 0) : Type 0 where
  pub hidden : H
  pub below : K

-- a place for entry i, whatever store of so many entries lies below
abbrev pub PassesAll : {R : Type 0} → (Meaning → Meaning) → (Meaning → R) → ℕ → ℕ → Option ℕ → Type 0
PassesAll view rest below i p = (m : Meaning) → count_of m ≡ below → Passes view rest m i p

-- how many entries are shown, whatever store of so many lies below
abbrev pub ShowsOf : (Meaning → Meaning) → ℕ → ℕ → Type 0
ShowsOf view below n = (m : Meaning) → count_of m ≡ below → n ≡ count_of (view m)
