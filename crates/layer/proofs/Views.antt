-- What a layer answers and leaves, from what the store below does at a place. `view` is what the layer means over what the store below means, and `rest` what no call changes.
use Rattle.std.proofs.Common.{◌≡◌, ℕ, ◌+◌, ◌<◌, ◌≤◌, ltb, List, [], ◌∷◌, length, replicate, Some, None, Ok, Err, Option, Result, sym, refl, ap, ◌∙◌, inl, inr, arith}
use Rattle.std.proofs.lemmas.Bool.{lt-ltb, le-ltb, cond-true, cond-false, cases_lt}
use Rattle.std.proofs.lemmas.List.{length-set, length-replicate}
use Rattle.cells.specs.declared.entries.Entry.{Entry}
use Rattle.cells.specs.declared.entries.Entry.TheVariants.{Symbol, Missing}
use Rattle.cells.specs.declared.faults.StoreFault.{StoreFault}
use Rattle.cells.specs.declared.faults.StoreFault.TheVariants.{NotASymbol}
use Rattle.cells.specs.Stores.{Meaning, Sound, count_of, entry_at, with_entry, read_answer, wipe_answer, wiped, put_answer, put_in}
use Rattle.cells.specs.Puts.{laid}
use Rattle.cells.proofs.Cases.{Done, read_none, read_some, wipe_none, wipe_some, put_none, put_not, put_some}
use Rattle.cells.proofs.Codes.{sound_from}
use Rattle.layer.specs.Places.{Passes, place_in, told_at, read_through, wipe_through, wiped_through, put_through, put_below}

place_none : (m' : Meaning) (i at : ℕ) → count_of m' ≤ i → place_in m' i at ≡ None
place_none m' i at h = cond-false (ltb i (count_of m')) _ _ (le-ltb i (count_of m') h)

place_some : (m' : Meaning) (i at : ℕ) → i < count_of m' → place_in m' i at ≡ Some at
place_some m' i at h = cond-true (ltb i (count_of m')) _ _ (lt-ltb i (count_of m') h)

-- entry i of the layer lies at `at` below
pub record Shows {R : Type 0} (view : Meaning → Meaning) (rest : Meaning → R) (m : Meaning) (i at : ℕ) : Type 0 where
  pub below : at < count_of m
  pub alike : (view m).alphabet ≡ m.alphabet
  pub same : entry_at (view m) i ≡ entry_at m at
  pub goes : (e : Entry) → view (with_entry m at e) ≡ with_entry (view m) i e
  pub stays : (e : Entry) → rest (with_entry m at e) ≡ rest m

-- a call of a layer, by what it is to answer and leave: the store below means m before and m'' after
record Passed {R : Type 0} (view : Meaning → Meaning) (rest : Meaning → R) (m m'' : Meaning) (r due : Result (Unit {0}) StoreFault) (left : Meaning) : Type 0 where
  answer : r ≡ due
  done : view m'' ≡ left
  kept : rest m'' ≡ rest m

module _ {R : Type 0} (view : Meaning → Meaning) (rest : Meaning → R) (m : Meaning) (i at : ℕ) (shows : i < count_of (view m) → Shows view rest m i at) (p : Option ℕ) (placed : p ≡ place_in (view m) i at) where
  read_passed : read_through m p i ≡ read_answer (view m) i
  read_passed = ap (λ x. read_through m x i) placed ∙ elim (cases_lt i (count_of (view m))) [
    | inl h ↦ (let s = shows h in ap (λ x. read_through m x i) (place_some (view m) i at h) ∙ ap (told_at i) (sym (read_some m at _ s.below (sym s.same))) ∙ read_some (view m) i _ h refl)
    | inr h ↦ ap (λ x. read_through m x i) (place_none (view m) i at h) ∙ read_none (view m) i h
  ]

  -- a call that changes nothing below
  same_passed : (m'' : Meaning) (r due : Result (Unit {0}) StoreFault) (left : Meaning) → m'' ≡ m → Done r due (view m) left → Passed view rest m m'' r due left
  same_passed m'' r due left e d = record { answer = d.answer; done = ap view e ∙ d.done; kept = ap rest e }

  -- a call that puts e at its place below
  set_passed : (e : Entry) → Shows view rest m i at → (m'' : Meaning) (r due : Result (Unit {0}) StoreFault) (left : Meaning) → m'' ≡ with_entry m at e → Done r due (view (with_entry m at e)) left → Passed view rest m m'' r due left
  set_passed e s m'' r due left w d = record { answer = d.answer; done = ap view w ∙ d.done; kept = ap rest w ∙ s.stays e }

  wipe_passed : Passed view rest m (wiped_through m p) (wipe_through m p i) (wipe_answer (view m) i) (wiped (view m) i)
  wipe_passed = elim (cases_lt i (count_of (view m))) [
    | inl h ↦ (
        let s = shows h in
        let q = placed ∙ place_some (view m) i at h in
        let d = wipe_some m at _ s.below refl in
        let d' = wipe_some (view m) i _ h (s.goes Missing) in
        let a : wipe_through m p i ≡ Ok tt = ap (λ x. wipe_through m x i) q ∙ ap (told_at i) (sym d.answer) in
        set_passed Missing s _ _ _ _ (ap (wiped_through m) q ∙ sym d.done) (record { answer = a ∙ d'.answer; done = d'.done }))
    | inr h ↦ (
        let q = placed ∙ place_none (view m) i at h in
        let d' = wipe_none (view m) i h in
        same_passed _ _ _ _ (ap (wiped_through m) q) (record { answer = ap (λ x. wipe_through m x i) q ∙ d'.answer; done = d'.done }))
  ]

  put_passed : (v : ℕ) → Passed view rest m (put_below m p v) (put_through m p i v) (put_answer (view m) i v) (put_in (view m) i v)
  put_passed v = elim (cases_lt i (count_of (view m))) [
    | inl h ↦ (
        let s = shows h in
        let l = s.alike in
        let q = placed ∙ place_some (view m) i at h in
        elim (cases_lt v m.alphabet) [
          | inl k ↦ (
              let d = put_some m at v _ s.below k refl in
              let d' = put_some (view m) i v _ h (omega arith) (s.goes (Symbol v)) in
              let a : put_through m p i v ≡ Ok tt = ap (λ x. put_through m x i v) q ∙ ap (told_at i) (sym d.answer) in
              set_passed (Symbol v) s _ _ _ _ (ap (λ x. put_below m x v) q ∙ sym d.done) (record { answer = a ∙ d'.answer; done = d'.done }))
          | inr k ↦ (
              let d = put_not m at v s.below k in
              let d' = put_not (view m) i v h (omega arith) in
              let a : put_through m p i v ≡ Err (NotASymbol i) = ap (λ x. put_through m x i v) q ∙ ap (told_at i) (sym d.answer) in
              same_passed _ _ _ _ (ap (λ x. put_below m x v) q ∙ sym d.done) (record { answer = a ∙ d'.answer; done = d'.done }))
        ])
    | inr h ↦ (
        let q = placed ∙ place_none (view m) i at h in
        let d' = put_none (view m) i v h in
        same_passed _ _ _ _ (ap (λ x. put_below m x v) q) (record { answer = ap (λ x. put_through m x i v) q ∙ d'.answer; done = d'.done }))
  ]

pub passes : {R : Type 0} (view : Meaning → Meaning) (rest : Meaning → R) (m : Meaning) (i at : ℕ) → (i < count_of (view m) → Shows view rest m i at) → (p : Option ℕ) → p ≡ place_in (view m) i at → Passes view rest m i p
passes view rest m i at shows p placed =
    let w = wipe_passed view rest m i at shows p placed in
    let u = put_passed view rest m i at shows p placed in
    record {
      read_answers = read_passed view rest m i at shows p placed;
      wipe_answers = w.answer;
      wipe_leaves = w.done;
      wipe_keeps = w.kept;
      put_answers = λ v. (u v).answer;
      put_leaves = λ v. (u v).done;
      put_keeps = λ v. (u v).kept;
    }

-- a call at the place of an entry that the layer has
pub passes_at : {R : Type 0} (view : Meaning → Meaning) (rest : Meaning → R) (m : Meaning) (i at : ℕ) → i < count_of (view m) → Shows view rest m i at → Passes view rest m i (Some at)
passes_at view rest m i at h shows = passes view rest m i at (λ _. shows) (Some at) (sym (place_some (view m) i at h))

-- some store of so many entries
pub of_count : (n : ℕ) → (m : Meaning) × (count_of m ≡ n)
of_count n = (record { entries = replicate n Missing; alphabet = 0 }, length-replicate n Missing)

-- every entry of a layer is one below
pub sound_passed : (m m' : Meaning) (at : ℕ → ℕ) → m'.alphabet ≡ m.alphabet → ((i : ℕ) → i < count_of m' → entry_at m' i ≡ entry_at m (at i)) → Sound m → Sound m'
sound_passed m m' at a same s = sound_from m' (λ i h. rw (a, same i h) (s (at i)))

-- symbols that stand in entries of a layer stand at their places below
pub laid_passed : {R : Type 0} (view : Meaning → Meaning) (rest : Meaning → R) (place at : ℕ → ℕ) → ((x : Meaning) (j : ℕ) → j < count_of (view x) → Shows view rest x j (place j)) → (m : Meaning) (i : ℕ) (vs : List ℕ) → ((j : ℕ) → j < i + length vs → at j < count_of (view m)) → (view (laid (λ j. place (at j)) m i vs) ≡ laid at (view m) i vs) × (rest (laid (λ j. place (at j)) m i vs) ≡ rest m)
laid_passed view rest place at shows m i [] h = (refl, refl)
laid_passed view rest place at shows m i (v ∷ vs) h =
    let s = shows m (at i) (h i (omega arith)) in
    let m1 = with_entry m (place (at i)) (Symbol v) in
    let n : count_of (view m1) ≡ count_of (view m) = ap count_of (s.goes (Symbol v)) ∙ length-set (view m).entries (at i) (Symbol v) in
    let r = laid_passed view rest place at shows m1 (i + 1) vs (λ j l. omega (arith, h j (omega arith))) in
    (r.0 ∙ ap (λ x. laid at x (i + 1) vs) (s.goes (Symbol v)), r.1 ∙ s.stays (Symbol v))
