-- What each call answers and leaves, by case.
use Rattle.std.proofs.Common.{◌≡◌, ℕ, ◌<◌, ◌≤◌, ltb, Some, None, Ok, Err, Option, Result, sym, refl, ap, ◌∙◌, inl, inr, arith}
use Rattle.std.proofs.lemmas.Bool.{lt-ltb, le-ltb, cond-true, cond-false, cases_lt}
use Rattle.std.proofs.lemmas.List.{length-set}
use Rattle.cells.specs.declared.entries.Entry.{Entry}
use Rattle.cells.specs.declared.entries.Entry.TheVariants.{Symbol, Missing}
use Rattle.cells.specs.declared.faults.StoreFault.{StoreFault}
use Rattle.cells.specs.declared.faults.StoreFault.TheVariants.{NoEntry, NotASymbol}
use Rattle.cells.specs.Refusals.{access_fault, put_fault}
use Rattle.cells.specs.Stores.{Meaning, count_of, entry_at, with_entry, unless, left_unless, read_answer, wipe_answer, wiped, put_answer, put_in}

pub access_past : (n i : ℕ) → n ≤ i → access_fault n i ≡ Some (NoEntry i)
access_past n i h = cond-false (ltb i n) _ _ (le-ltb i n h)

pub access_within : (n i : ℕ) → i < n → access_fault n i ≡ None
access_within n i h = cond-true (ltb i n) _ _ (lt-ltb i n h)

pub put_past : (n a i v : ℕ) → n ≤ i → put_fault n a i v ≡ Some (NoEntry i)
put_past n a i v h = cond-false (ltb i n) _ _ (le-ltb i n h)

pub put_above : (n a i v : ℕ) → i < n → a ≤ v → put_fault n a i v ≡ Some (NotASymbol i)
put_above n a i v h k = cond-true (ltb i n) _ _ (lt-ltb i n h) ∙ cond-false (ltb v a) _ _ (le-ltb v a k)

pub put_within : (n a i v : ℕ) → i < n → v < a → put_fault n a i v ≡ None
put_within n a i v h k = cond-true (ltb i n) _ _ (lt-ltb i n h) ∙ cond-true (ltb v a) _ _ (lt-ltb v a k)

-- a call that may change the store from m to m' and answers r, beside what it is to answer and leave
pub record Done (r due : Result (Unit {0}) StoreFault) (m' left : Meaning) : Type 0 where
  pub answer : r ≡ due
  pub done : m' ≡ left

refused : (f : Option StoreFault) (e : StoreFault) (m after : Meaning) → f ≡ Some e → Done (Err e) (unless f tt) m (left_unless f m after)
refused f e m after p = record { answer = ap (λ g. unless g tt) (sym p); done = ap (λ g. left_unless g m after) (sym p) }

accepted : (f : Option StoreFault) (m after m' : Meaning) → f ≡ None → m' ≡ after → Done (Ok tt) (unless f tt) m' (left_unless f m after)
accepted f m after m' p e = record { answer = ap (λ g. unless g tt) (sym p); done = e ∙ ap (λ g. left_unless g m after) (sym p) }

module _ (m : Meaning) (i : ℕ) where
  pub read_none : count_of m ≤ i → Err (NoEntry i) ≡ read_answer m i
  read_none h = ap (λ g. unless g (entry_at m i)) (sym (access_past (count_of m) i h))

  pub read_some : (e : Entry) → i < count_of m → entry_at m i ≡ e → Ok e ≡ read_answer m i
  read_some e h s = ap Ok (sym s) ∙ ap (λ g. unless g (entry_at m i)) (sym (access_within (count_of m) i h))

  pub wipe_none : count_of m ≤ i → Done (Err (NoEntry i)) (wipe_answer m i) m (wiped m i)
  wipe_none h = refused (access_fault (count_of m) i) (NoEntry i) m (with_entry m i Missing) (access_past (count_of m) i h)

  pub wipe_some : (m' : Meaning) → i < count_of m → m' ≡ with_entry m i Missing → Done (Ok tt) (wipe_answer m i) m' (wiped m i)
  wipe_some m' h e = accepted (access_fault (count_of m) i) m (with_entry m i Missing) m' (access_within (count_of m) i h) e

  module _ (v : ℕ) where
    pub put_none : count_of m ≤ i → Done (Err (NoEntry i)) (put_answer m i v) m (put_in m i v)
    put_none h = refused (put_fault (count_of m) m.alphabet i v) (NoEntry i) m (with_entry m i (Symbol v)) (put_past (count_of m) m.alphabet i v h)

    pub put_not : i < count_of m → m.alphabet ≤ v → Done (Err (NotASymbol i)) (put_answer m i v) m (put_in m i v)
    put_not h k = refused (put_fault (count_of m) m.alphabet i v) (NotASymbol i) m (with_entry m i (Symbol v)) (put_above (count_of m) m.alphabet i v h k)

    pub put_some : (m' : Meaning) → i < count_of m → v < m.alphabet → m' ≡ with_entry m i (Symbol v) → Done (Ok tt) (put_answer m i v) m' (put_in m i v)
    put_some m' h k e = accepted (put_fault (count_of m) m.alphabet i v) m (with_entry m i (Symbol v)) m' (put_within (count_of m) m.alphabet i v h k) e

-- what follows from the answer

unless_ok : {A : Type 0} (f : Option StoreFault) (a x : A) → unless f a ≡ Ok x → f ≡ None
unless_ok (Some e) a x p = let z : ◌≡◌ {A = ℕ} 0 1 = cc in absurd (omega arith)
unless_ok None a x p = refl

unless_err : {A : Type 0} (f : Option StoreFault) (a : A) (e : StoreFault) → unless f a ≡ Err e → f ≡ Some e
unless_err (Some d) a e p = cc
unless_err None a e p = let z : ◌≡◌ {A = ℕ} 0 1 = cc in absurd (omega arith)

-- a put that is not refused
put_apart : (n a i v : ℕ) → put_fault n a i v ≡ None → (i < n) × (v < a)
put_apart n a i v p = elim (cases_lt i n) [
  | inl h ↦ elim (cases_lt v a) [
    | inl k ↦ (h, k)
    | inr k ↦ (let q = put_above n a i v h k in let z : ◌≡◌ {A = ℕ} 0 1 = cc in absurd (omega arith))
  ]
  | inr h ↦ (let q = put_past n a i v h in let z : ◌≡◌ {A = ℕ} 0 1 = cc in absurd (omega arith))
]

module _ (m : Meaning) (i v : ℕ) (r : Result (Unit {0}) StoreFault) (a : r ≡ put_answer m i v) where
  pub put_ok : (u : Unit {0}) → r ≡ Ok u → (i < count_of m) × (v < m.alphabet) × (put_in m i v ≡ with_entry m i (Symbol v))
  put_ok u b =
      let f = unless_ok (put_fault (count_of m) m.alphabet i v) tt u (sym a ∙ b) in
      let p = put_apart (count_of m) m.alphabet i v f in
      (p.0, p.1, ap (λ g. left_unless g m (with_entry m i (Symbol v))) f)

  pub put_err : (e : StoreFault) → r ≡ Err e → (put_fault (count_of m) m.alphabet i v ≡ Some e) × (put_in m i v ≡ m)
  put_err e b =
      let f = unless_err (put_fault (count_of m) m.alphabet i v) tt e (sym a ∙ b) in
      (f, ap (λ g. left_unless g m (with_entry m i (Symbol v))) f)

-- no call changes the count and the alphabet

left_stays : (f : Option StoreFault) (m : Meaning) (i : ℕ) (e : Entry) → (count_of (left_unless f m (with_entry m i e)) ≡ count_of m) × ((left_unless f m (with_entry m i e)).alphabet ≡ m.alphabet)
left_stays (Some f) m i e = (refl, refl)
left_stays None m i e = (length-set m.entries i e, refl)

pub put_stays : (m : Meaning) (i v : ℕ) → (count_of (put_in m i v) ≡ count_of m) × ((put_in m i v).alphabet ≡ m.alphabet)
put_stays m i v = left_stays (put_fault (count_of m) m.alphabet i v) m i (Symbol v)

pub wipe_stays : (m : Meaning) (i : ℕ) → (count_of (wiped m i) ≡ count_of m) × ((wiped m i).alphabet ≡ m.alphabet)
wipe_stays m i = left_stays (access_fault (count_of m) i) m i Missing
