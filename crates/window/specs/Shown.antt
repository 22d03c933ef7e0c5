-- The entries of a window, by those below.
use Rattle.std.proofs.Common.{◌≡◌, ℕ, ◌+◌, ◌-◌, ◌<◌, min, drop, refl, ap, ◌∙◌, arith}
use Rattle.std.proofs.lemmas.List.{length-take, length-drop, get_or-take, get_or-drop}
use Rattle.cells.specs.declared.entries.Entry.TheVariants.{Missing}
use Rattle.cells.specs.Stores.{Meaning, Sound, count_of, entry_at}
use Rattle.window.specs.Windows.{window_meaning}
use Rattle.layer.proofs.Views.{sound_passed}

pub window_count : (m : Meaning) (start len : ℕ) → count_of (window_meaning m start len) ≡ min len (count_of m - start)
window_count m start len = length-take len (drop start m.entries) ∙ ap (min len) (length-drop start m.entries)

pub window_at : (m : Meaning) (start len i : ℕ) → i < count_of (window_meaning m start len) → entry_at (window_meaning m start len) i ≡ entry_at m (start + i)
window_at m start len i h =
    let n = window_count m start len in
    get_or-take len (drop start m.entries) i Missing (omega arith) ∙ get_or-drop start m.entries i Missing

pub window_sound : (m : Meaning) (start len : ℕ) → Sound m → Sound (window_meaning m start len)
window_sound m start len s = sound_passed m (window_meaning m start len) (λ i. start + i) refl (window_at m start len) s
