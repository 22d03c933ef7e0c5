-- A stride has a count n and a step.
use Rattle.std.specs.Prelude.{◌≡◌, ℕ, ◌*◌, ◌%◌, ◌<◌, ◌≤◌, cond, List, [], map, drop, nat_le}
use Rattle.std.specs.List.{range_with_len}
use Rattle.cells.specs.declared.entries.Entry.{Entry}
use Rattle.cells.specs.Stores.{Meaning, count_of, entry_at}
use Rattle.layer.specs.Places.{LayerKept}
use Rattle.stride.specs.Divisors.{Apart}

-- n and step make a stride: the step is neither 0 nor above n, the two share no divisor above 1, and n is at most 65,536
abbrev pub MakesStride : ℕ → ℕ → Type 0
MakesStride n step = (0 < step) × (step ≤ n) × (n ≤ 65536) × Apart step n

-- for each i below n, entry (step × i) mod n
abbrev pub strided : Meaning → ℕ → ℕ → List Entry
strided m n step = map (λ i. entry_at m ((step * i) % n)) (range_with_len 0 n)

-- It means these entries of the store below, and none over a store with fewer than n. It keeps the alphabet.
abbrev pub stride_meaning : Meaning → ℕ → ℕ → Meaning
stride_meaning m n step = record { entries = cond (nat_le n (count_of m)) (strided m n step) []; alphabet = m.alphabet }

-- the entries below that are not shown: those from n on, or all where none is shown
abbrev pub unshown : Meaning → ℕ → List Entry
unshown m n = cond (nat_le n (count_of m)) (drop n m.entries) m.entries

-- What no call changes of the store below: n and step, and the entries that are not shown.
pub record StrideHidden : Type 0 where
  pub n : ℕ
  pub step : ℕ
  pub others : List Entry

abbrev pub stride_hidden : Meaning → ℕ → ℕ → StrideHidden
stride_hidden m n step = record { n = n; step = step; others = unshown m n }

-- What no call changes, with what no call changes below.
abbrev pub StrideKept : Type 0 → Type 0
StrideKept K = LayerKept StrideHidden K

abbrev pub stride_kept : {K : Type 0} → Meaning → K → ℕ → ℕ → StrideKept K
stride_kept m k n step = record { hidden = stride_hidden m n step; below = k }

-- What a stride means and what no call changes tell what stands below.
abbrev pub StrideTold : Type 0 → Type 0
StrideTold K =
    (m m' : Meaning) (k k' : K) (n step : ℕ) → MakesStride n step → stride_meaning m n step ≡ stride_meaning m' n step → stride_kept m k n step ≡ stride_kept m' k' n step
    → (m ≡ m') × (k ≡ k')
