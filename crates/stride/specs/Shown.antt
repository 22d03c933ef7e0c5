-- The entries of a stride, by those below.
use Rattle.std.proofs.Common.{◌≡◌, ℕ, ◌*◌, ◌%◌, ◌<◌, ◌≤◌, cond, leb, [], length, get_or, drop, sym, refl, ap, ◌∙◌, inl, inr, arith}
use Rattle.std.proofs.lemmas.List.FromFn.{length-map-range_with_len, get_or-map-range_with_len}
use Rattle.std.proofs.lemmas.Bool.{le-leb, lt-leb, cond-true, cond-false, cases_lt}
use Rattle.cells.specs.declared.entries.Entry.TheVariants.{Missing}
use Rattle.cells.specs.Stores.{Meaning, Sound, count_of, entry_at}
use Rattle.stride.specs.Strides.{strided, stride_meaning, unshown}
use Rattle.layer.proofs.Views.{sound_passed}

pub strided_count : (m : Meaning) (n s : ℕ) → length (strided m n s) ≡ n
strided_count m n s = length-map-range_with_len (λ i. entry_at m ((s * i) % n)) 0 n

pub strided_at : (m : Meaning) (n s i : ℕ) → i < n → get_or (strided m n s) i Missing ≡ entry_at m ((s * i) % n)
strided_at m n s i h = get_or-map-range_with_len (λ k. entry_at m ((s * k) % n)) 0 n i i Missing h (omega arith)

-- where there are enough entries below, and where there are not
pub shown : (m : Meaning) (n s : ℕ) → n ≤ count_of m → ((stride_meaning m n s).entries ≡ strided m n s) × (unshown m n ≡ drop n m.entries)
shown m n s h = let e = le-leb n (count_of m) h in (cond-true (leb n (count_of m)) _ _ e, cond-true (leb n (count_of m)) _ _ e)

pub none_shown : (m : Meaning) (n s : ℕ) → count_of m < n → ((stride_meaning m n s).entries ≡ []) × (unshown m n ≡ m.entries)
none_shown m n s h = let e = lt-leb n (count_of m) h in (cond-false (leb n (count_of m)) _ _ e, cond-false (leb n (count_of m)) _ _ e)

pub stride_count : (m : Meaning) (n s : ℕ) → n ≤ count_of m → count_of (stride_meaning m n s) ≡ n
stride_count m n s h = ap length (shown m n s h).0 ∙ strided_count m n s

pub stride_none : (m : Meaning) (n s : ℕ) → count_of m < n → count_of (stride_meaning m n s) ≡ 0
stride_none m n s h = ap length (none_shown m n s h).0

pub stride_counted : (m : Meaning) (n s : ℕ) → count_of (stride_meaning m n s) ≡ cond (leb n (count_of m)) n 0
stride_counted m n s = elim (cases_lt (count_of m) n) [
  | inl h ↦ stride_none m n s h ∙ sym (cond-false (leb n (count_of m)) _ _ (lt-leb n (count_of m) h))
  | inr h ↦ stride_count m n s h ∙ sym (cond-true (leb n (count_of m)) _ _ (le-leb n (count_of m) h))
]

-- an entry that a stride has
pub stride_has : (m : Meaning) (n s i : ℕ) → i < count_of (stride_meaning m n s) → (n ≤ count_of m) × (i < n)
stride_has m n s i h = elim (cases_lt (count_of m) n) [
  | inl k ↦ absurd (omega (arith, stride_none m n s k))
  | inr k ↦ (k, omega (arith, stride_count m n s k))
]

pub stride_at : (m : Meaning) (n s i : ℕ) → i < count_of (stride_meaning m n s) → entry_at (stride_meaning m n s) i ≡ entry_at m ((s * i) % n)
stride_at m n s i h = let p = stride_has m n s i h in ap (λ es. get_or es i Missing) (shown m n s p.0).0 ∙ strided_at m n s i p.1

pub stride_sound : (m : Meaning) (n s : ℕ) → Sound m → Sound (stride_meaning m n s)
stride_sound m n s h = sound_passed m (stride_meaning m n s) (λ i. (s * i) % n) refl (stride_at m n s) h
