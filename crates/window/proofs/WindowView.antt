-- What a window shows, and what stays.
use Rattle.std.proofs.Common.{◌≡◌, ℕ, ◌+◌, ◌<◌, List, ◌++◌, take, drop, sym, refl, ap, ◌∙◌, arith}
use Rattle.std.proofs.lemmas.List.{take-set-le, drop-set-lt, drop-set-add, take-append-drop, drop-drop}
use Rattle.cells.specs.declared.entries.Entry.{Entry}
use Rattle.cells.specs.Stores.{Meaning, count_of, with_entry}
use Rattle.cells.proofs.Lenders.{take_set_in}
use Rattle.window.specs.Windows.{WindowKept, WindowTold, window_meaning, window_hidden}
use Rattle.window.specs.Shown.{window_count, window_at}
use Rattle.layer.proofs.Views.{Shows}

window_set : (m : Meaning) (start len i : ℕ) (e : Entry) → window_meaning (with_entry m (start + i) e) start len ≡ with_entry (window_meaning m start len) i e
window_set m start len i e =
    let F : List Entry → Meaning = λ es. record { entries = es; alphabet = m.alphabet } in
    ap F (ap (take len) (drop-set-add start m.entries i e) ∙ take_set_in len (drop start m.entries) i e)

window_rest : (m : Meaning) (start len i : ℕ) (e : Entry) → i < len → window_hidden (with_entry m (start + i) e) start len ≡ window_hidden m start len
window_rest m start len i e h =
    let a = take-set-le start m.entries (start + i) e (omega arith) in
    let b = drop-set-lt (start + len) m.entries (start + i) e (omega arith) in
    cc

pub window_shows : (m : Meaning) (start len i : ℕ) → i < count_of (window_meaning m start len) → Shows (λ x. window_meaning x start len) (λ x. window_hidden x start len) m i (start + i)
window_shows m start len i h =
    let n = window_count m start len in
    record {
      below = omega arith;
      alike = refl;
      same = window_at m start len i h;
      goes = window_set m start len i;
      stays = λ e. window_rest m start len i e (omega arith);
    }

-- the entries are those before the window, those in it and those after it
window_parts : (es : List Entry) (start len : ℕ) → take start es ++ (take len (drop start es) ++ drop (start + len) es) ≡ es
window_parts es start len =
    ap (λ x. take start es ++ (take len (drop start es) ++ x)) (sym (drop-drop len start es)) ∙ ap (λ x. take start es ++ x) (take-append-drop len (drop start es)) ∙ take-append-drop start es

pub window_told : {K : Type 0} → WindowTold K
window_told {K} m n k l start len p q =
    let e : m.entries ≡ n.entries =
    sym (window_parts m.entries start len)
    ∙ ap (λ (x : WindowKept K). x.hidden.before ++ (take len (drop start m.entries) ++ x.hidden.after)) q
    ∙ ap (λ (x : Meaning). take start n.entries ++ (x.entries ++ drop (start + len) n.entries)) p
    ∙ window_parts n.entries start len in
    let F : List Entry → ℕ → Meaning = λ es a. record { entries = es; alphabet = a } in
    (ap (λ es. F es m.alphabet) e ∙ ap (λ (x : Meaning). F n.entries x.alphabet) p, ap (λ (x : WindowKept K). x.below) q)
