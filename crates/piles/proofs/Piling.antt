-- Symbols put through a pile, and where they stand in the store.
use Rattle.std.proofs.Common.{◌≡◌, ℕ, ◌+◌, ◌*◌, ◌%◌, ◌<◌, ◌≤◌, List, length, take, sym, refl, ap, ◌∙◌, mod-lt, arith}
use Rattle.std.proofs.lemmas.List.{length-take}
use Rattle.cells.specs.Stores.{Meaning, count_of}
use Rattle.cells.specs.Puts.{accepted, laid, put_all_in}
use Rattle.window.specs.Windows.{WindowHidden, WindowKept, window_meaning, window_hidden, window_kept}
use Rattle.stride.specs.Strides.{MakesStride, StrideHidden, StrideKept, stride_meaning, stride_hidden, stride_kept}
use Rattle.layer.proofs.Views.{laid_passed}
use Rattle.window.proofs.WindowView.{window_shows, window_told}
use Rattle.stride.specs.Shown.{stride_has}
use Rattle.stride.proofs.StrideView.{stride_shows, stride_told}

-- the definitions of a pile, by its numbers
abbrev pub pile_meaning : Meaning → ℕ → ℕ → ℕ → ℕ → Meaning
pile_meaning m start len n step = stride_meaning (window_meaning m start len) n step

abbrev pub pile_place : ℕ → ℕ → ℕ → ℕ → ℕ
pile_place start n step i = start + (step * i) % n

abbrev pub piled : Meaning → ℕ → ℕ → ℕ → ℕ → List ℕ → Meaning
piled m start len n step symbols = laid (pile_place start n step) m 0 (take (accepted (pile_meaning m start len n step) symbols) symbols)

module _ {K : Type 0} (m : Meaning) (k : K) (start len n step : ℕ) (ok : MakesStride n step) (vs : List ℕ) where
  -- what stands below where symbols were put through the pile
  piled_below : (length vs ≤ count_of (pile_meaning m start len n step)) → (laid (λ i. i) (pile_meaning m start len n step) 0 vs ≡ pile_meaning (laid (pile_place start n step) m 0 vs) start len n step) × (stride_kept (window_meaning m start len) (window_kept m k start len) n step ≡ stride_kept (window_meaning (laid (pile_place start n step) m 0 vs) start len) (window_kept (laid (pile_place start n step) m 0 vs) k start len) n step)
  piled_below le =
      let w = window_meaning m start len in
      let at : ℕ → ℕ = λ i. (step * i) % n in
      let within : (j : ℕ) → j < 0 + length vs → at j < count_of w = λ j l. (
      let h = stride_has w n step j (omega arith) in
      let b : at j < n = mod-lt (step * j) (omega (arith, h.1)) in
      omega (arith, h.0)) in
      let a = laid_passed (λ x. window_meaning x start len) (λ x. window_hidden x start len) (λ j. start + j) at (λ x j. window_shows x start len j) m 0 vs within in
      let b = laid_passed (λ x. stride_meaning x n step) (λ x. stride_hidden x n step) at (λ j. j) (λ x j. stride_shows x n step j ok.0 ok.3) w 0 vs (λ j l. omega arith) in
      let F : StrideHidden → WindowHidden → StrideKept (WindowKept K) = λ x y. record { hidden = x; below = record { hidden = y; below = k } } in (
        sym b.0 ∙ ap (λ x. stride_meaning x n step) (sym a.0),
        ap (λ x. F x (window_hidden m start len)) (sym b.1 ∙ ap (λ x. stride_hidden x n step) (sym a.0)) ∙ ap (F (stride_hidden (window_meaning (laid (pile_place start n step) m 0 vs) start len) n step)) (sym a.1),
      )

-- what a pile means and keeps is the same over the same store with the same numbers
pub record SamePile {K : Type 0} (m m' : Meaning) (k k' : K) (start start' len len' n n' step step' : ℕ) : Type 0 where
  pub meaning : pile_meaning m start len n step ≡ pile_meaning m' start' len' n' step'
  pub kept : stride_kept (window_meaning m start len) (window_kept m k start len) n step ≡ stride_kept (window_meaning m' start' len') (window_kept m' k' start' len') n' step'

pub same_pile : {K : Type 0} (m m' : Meaning) (k k' : K) (start start' len len' n n' step step' : ℕ) → m ≡ m' → k ≡ k' → start ≡ start' → len ≡ len' → n ≡ n' → step ≡ step' → SamePile m m' k k' start start' len len' n n' step step'
same_pile {K} m m' k k' start start' len len' n n' step step' em ek ea el en es =
    let V : Meaning → ℕ → ℕ → ℕ → ℕ → Meaning = λ x a b c d. pile_meaning x a b c d in
    let R : Meaning → K → ℕ → ℕ → ℕ → ℕ → StrideKept (WindowKept K) = λ x y a b c d. stride_kept (window_meaning x a b) (window_kept x y a b) c d in
    record {
      meaning = ap (λ x. V x start len n step) em ∙ ap (λ x. V m' x len n step) ea ∙ ap (λ x. V m' start' x n step) el ∙ ap (λ x. V m' start' len' x step) en ∙ ap (V m' start' len' n') es;
      kept = ap (λ x. R x k start len n step) em ∙ ap (λ x. R m' x start len n step) ek ∙ ap (λ x. R m' k' x len n step) ea ∙ ap (λ x. R m' k' start' x n step) el ∙ ap (λ x. R m' k' start' len' x step) en ∙ ap (R m' k' start' len' n') es;
    }

-- the store that comes back from under the pile
pub pile_done : {K : Type 0} (m m'' : Meaning) (k k'' : K) (start len n step start'' len'' n'' step'' : ℕ) (vs : List ℕ) → MakesStride n step
    → pile_meaning m'' start'' len'' n'' step'' ≡ put_all_in (pile_meaning m start len n step) vs
    → stride_kept (window_meaning m'' start'' len'') (window_kept m'' k'' start'' len'') n'' step'' ≡ stride_kept (window_meaning m start len) (window_kept m k start len) n step
    → (m'' ≡ piled m start len n step vs) × (k'' ≡ k)
pile_done {K} m m'' k k'' start len n step start'' len'' n'' step'' vs ok p q =
    let W = WindowKept K in
    let same = same_pile m'' m'' k'' k'' start start'' len len'' n n'' step step'' refl refl
    (sym (ap (λ (x : StrideKept W). x.below.hidden.start) q)) (sym (ap (λ (x : StrideKept W). x.below.hidden.len) q)) (sym (ap (λ (x : StrideKept W). x.hidden.n) q)) (sym (ap (λ (x : StrideKept W). x.hidden.step) q)) in
    let some = take (accepted (pile_meaning m start len n step) vs) vs in
    let l = length-take (accepted (pile_meaning m start len n step) vs) vs in
    let m* = piled m start len n step vs in
    let below = piled_below m k start len n step ok some (omega arith) in
    let s = stride_told (window_meaning m'' start len) (window_meaning m* start len) (window_kept m'' k'' start len) (window_kept m* k start len) n step ok (same.meaning ∙ p ∙ below.0) (same.kept ∙ q ∙ below.1) in
    window_told m'' m* k'' k start len s.0 s.1
