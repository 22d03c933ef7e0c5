-- Symbols put one after another, by one more.
use Rattle.std.proofs.Common.{◌≡◌, ℕ, zero, suc, ◌+◌, ◌<◌, ◌≤◌, cond, ltb, List, [], ◌∷◌, ◌++◌, length, get_or, take, Some, None, Ok, Err, Option, sym, refl, ap, ◌∙◌, inl, inr, add-zero, arith}
use Rattle.std.proofs.lemmas.Bool.{lt-ltb, le-ltb, cond-true, cond-false, cases_lt}
use Rattle.std.proofs.lemmas.List.{length-set, length-take-le, take_more}
use Rattle.cells.specs.declared.entries.Entry.TheVariants.{Symbol}
use Rattle.cells.specs.declared.faults.StoreFault.{StoreFault}
use Rattle.cells.specs.Refusals.{put_fault}
use Rattle.cells.specs.Stores.{Meaning, count_of, with_entry, unless}
use Rattle.cells.specs.Puts.{leading, accepted, put_all_fault, put_all_answer, laid, put_all_in}
use Rattle.cells.proofs.Cases.{put_within}

pub laid_count : (p : ℕ → ℕ) (m : Meaning) (i : ℕ) (vs : List ℕ) → count_of (laid p m i vs) ≡ count_of m
laid_count p m i [] = refl
laid_count p m i (v ∷ vs) = laid_count p (with_entry m (p i) (Symbol v)) (i + 1) vs ∙ length-set m.entries (p i) (Symbol v)

pub laid_alphabet : (p : ℕ → ℕ) (m : Meaning) (i : ℕ) (vs : List ℕ) → (laid p m i vs).alphabet ≡ m.alphabet
laid_alphabet p m i [] = refl
laid_alphabet p m i (v ∷ vs) = laid_alphabet p (with_entry m (p i) (Symbol v)) (i + 1) vs

laid_push : (p : ℕ → ℕ) (m : Meaning) (i : ℕ) (vs : List ℕ) (v : ℕ) → laid p m i (vs ++ v ∷ []) ≡ with_entry (laid p m i vs) (p (i + length vs)) (Symbol v)
laid_push p m i [] v = ap (λ k. with_entry m (p k) (Symbol v)) (sym (add-zero i))
laid_push p m i (w ∷ vs) v =
    let k : i + 1 + length vs ≡ i + suc (length vs) = omega arith in
    let m' = with_entry m (p i) (Symbol w) in
    laid_push p m' (i + 1) vs v ∙ ap (λ j. with_entry (laid p m' (i + 1) vs) (p j) (Symbol v)) k

pub laid_more : (p : ℕ → ℕ) (m : Meaning) (vs : List ℕ) (i : ℕ) → i < length vs → laid p m 0 (take (i + 1) vs) ≡ with_entry (laid p m 0 (take i vs)) (p i) (Symbol (get_or vs i 0))
laid_more p m vs i h =
    let k : 0 + length (take i vs) ≡ i = omega (arith, length-take-le i vs (omega arith)) in
    ap (laid p m 0) (take_more vs i 0 h) ∙ laid_push p m 0 (take i vs) (get_or vs i 0) ∙ ap (λ j. with_entry (laid p m 0 (take i vs)) (p j) (Symbol (get_or vs i 0))) k

lead_yes : (a v : ℕ) (vs : List ℕ) → v < a → leading a (v ∷ vs) ≡ suc (leading a vs)
lead_yes a v vs h = cond-true (ltb v a) _ _ (lt-ltb v a h)

lead_no : (a v : ℕ) (vs : List ℕ) → a ≤ v → leading a (v ∷ vs) ≡ 0
lead_no a v vs h = cond-false (ltb v a) _ _ (le-ltb v a h)

lead_length : (a : ℕ) (vs : List ℕ) → leading a vs ≤ length vs
lead_length a [] = omega arith
lead_length a (v ∷ vs) = elim (cases_lt v a) [ inl h ↦ omega (arith, lead_yes a v vs h, lead_length a vs) | inr h ↦ omega (arith, lead_no a v vs h) ]

lead_more : (a : ℕ) (vs : List ℕ) (i : ℕ) → i ≤ leading a vs → i < length vs → get_or vs i 0 < a → i + 1 ≤ leading a vs
lead_more a [] i h l k = absurd (omega arith)
lead_more a (v ∷ vs) zero h l k = omega (arith, lead_yes a v vs k)
lead_more a (v ∷ vs) (suc i) h l k = elim (cases_lt v a) [
  | inl y ↦ (let e = lead_yes a v vs y in omega (arith, lead_more a vs i (omega arith) (omega arith) k))
  | inr n ↦ absurd (omega (arith, lead_no a v vs n))
]

lead_stop : (a : ℕ) (vs : List ℕ) (i : ℕ) → i ≤ leading a vs → i < length vs → a ≤ get_or vs i 0 → leading a vs ≡ i
lead_stop a [] i h l k = absurd (omega arith)
lead_stop a (v ∷ vs) zero h l k = lead_no a v vs k
lead_stop a (v ∷ vs) (suc i) h l k = elim (cases_lt v a) [
  | inl y ↦ (let e = lead_yes a v vs y in e ∙ ap suc (lead_stop a vs i (omega arith) (omega arith) k))
  | inr n ↦ absurd (omega (arith, lead_no a v vs n))
]

-- the first that is refused
accepted_stop : (m : Meaning) (vs : List ℕ) (i : ℕ) (e : StoreFault) → i ≤ accepted m vs → i < length vs → put_fault (count_of m) m.alphabet i (get_or vs i 0) ≡ Some e → accepted m vs ≡ i
accepted_stop m vs i e le l f = elim (cases_lt i (count_of m)) [
  | inl h ↦ elim (cases_lt (get_or vs i 0) m.alphabet) [
    | inl k ↦ (let q = put_within (count_of m) m.alphabet i (get_or vs i 0) h k in let z : ◌≡◌ {A = ℕ} 0 1 = cc in absurd (omega arith))
    | inr k ↦ omega (arith, lead_stop m.alphabet vs i (omega arith) l k)
  ]
  | inr h ↦ omega arith
]

-- m is what the store meant at first, and n what it means when those before i are put
module _ (m n : Meaning) (vs : List ℕ) (i : ℕ) (le : i ≤ accepted m vs) (so_far : n ≡ laid (λ k. k) m 0 (take i vs)) where
  count_stays : count_of n ≡ count_of m
  count_stays = ap count_of so_far ∙ laid_count (λ k. k) m 0 (take i vs)

  alphabet_stays : n.alphabet ≡ m.alphabet
  alphabet_stays = ap (λ (x : Meaning). x.alphabet) so_far ∙ laid_alphabet (λ k. k) m 0 (take i vs)

  pub all_more : i < length vs → i < count_of n → get_or vs i 0 < n.alphabet → (i + 1 ≤ accepted m vs) × (with_entry n i (Symbol (get_or vs i 0)) ≡ laid (λ k. k) m 0 (take (i + 1) vs))
  all_more l h k =
      let c = count_stays in
      let a = alphabet_stays in
      (omega (arith, lead_more m.alphabet vs i (omega arith) l (omega arith)), ap (λ x. with_entry x i (Symbol (get_or vs i 0))) so_far ∙ sym (laid_more (λ k. k) m vs i l))

  pub all_stop : (e : StoreFault) → i < length vs → put_fault (count_of n) n.alphabet i (get_or vs i 0) ≡ Some e → (Err e ≡ put_all_answer m vs) × (n ≡ put_all_in m vs)
  all_stop e l f =
      let c = count_stays in
      let a = alphabet_stays in
      let g : put_fault (count_of m) m.alphabet i (get_or vs i 0) ≡ Some e = ap (λ x. put_fault x m.alphabet i (get_or vs i 0)) (sym c) ∙ ap (λ x. put_fault (count_of n) x i (get_or vs i 0)) (sym a) ∙ f in
      let s = accepted_stop m vs i e le l g in
      let P : ℕ → Option StoreFault = λ k. cond (ltb k (length vs)) (put_fault (count_of m) m.alphabet k (get_or vs k 0)) None in
      let q : put_all_fault m vs ≡ Some e = ap P s ∙ cond-true (ltb i (length vs)) _ _ (lt-ltb i (length vs) l) ∙ g in
      (ap (λ x. unless x tt) (sym q), so_far ∙ ap (λ k. laid (λ j. j) m 0 (take k vs)) (sym s))

  pub all_done : length vs ≤ i → (Ok tt ≡ put_all_answer m vs) × (n ≡ put_all_in m vs)
  all_done l =
      let b = lead_length m.alphabet vs in
      let s : accepted m vs ≡ i = omega arith in
      let q : put_all_fault m vs ≡ None = cond-false (ltb (accepted m vs) (length vs)) _ _ (le-ltb (accepted m vs) (length vs) (omega arith)) in
      (ap (λ x. unless x tt) (sym q), so_far ∙ ap (λ k. laid (λ j. j) m 0 (take k vs)) (sym s))
