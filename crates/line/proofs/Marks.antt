-- The marks of a line, one after the other.
use Rattle.std.proofs.Common.{◌≡◌, ℕ, zero, suc, ◌+◌, ◌<◌, ◌≤◌, Bool, true, false, cond, ◌&&◌, ◌||◌, nat_eq, leb, List, [], ◌∷◌, ◌++◌, length, get_or, take, drop, Some, None, Ok, Err, Option, sym, refl, ap, ◌∙◌, ap₂, append_assoc, arith}
use Rattle.std.proofs.lemmas.List.{take_more, at_drop_more, at_drop_all, append-nil}
use Rattle.std.proofs.lemmas.Bool.{and_parts, leb-true, eqb-false}
use Rattle.std.specs.List.{list_any}
use Rattle.std.proofs.lemmas.Cmp.{nat_eq_equiv}
use Rattle.field.specs.Algebra.{Algebra}
use Rattle.space.specs.Counts.{member}
use Rattle.space.specs.Places.{divisor}
use Rattle.line.specs.declared.faults.LineFault.{LineFault}
use Rattle.line.specs.declared.faults.LineFault.TheVariants.{NotAMark, RepeatedMark, ZeroPoint}
use Rattle.line.specs.Asking.{first, point_on, mark_fault, marks_fault, unless}

contains_member : (x : ℕ) (ys : List ℕ) → list_any (λ y. nat_eq y x) ys ≡ member x ys
contains_member x [] = refl
contains_member x (y ∷ ys) = ap₂ (λ a b. a || b) (nat_eq_equiv.symm y x) (contains_member x ys)

-- what a slice's `contains` told
pub contains_told : (x : ℕ) (ys : List ℕ) (told b : Bool) → told ≡ list_any (λ y. nat_eq y x) ys → told ≡ b → member x ys ≡ b
contains_told x ys told b e is = sym (contains_member x ys) ∙ sym e ∙ is

module _ (F : Algebra) (w v marks : List ℕ) (i : ℕ) where
  next : i < length marks
      → marks_fault F w v (take i marks) i (drop i marks) ≡ first (mark_fault F w v (take i marks) i (get_or marks i 0)) (marks_fault F w v (take (i + 1) marks) (i + 1) (drop (i + 1) marks))
  next h =
      let s : suc i ≡ i + 1 = omega arith in
      at_drop_more (marks_fault F w v (take i marks) i) marks i 0 h
      ∙ ap₂ (λ b k. first (mark_fault F w v (take i marks) i (get_or marks i 0)) (marks_fault F w v b k (drop (i + 1) marks))) (sym (take_more marks i 0 h)) s

  unless_ok : (o : Option LineFault) (u : Unit {0}) → unless o (Ok tt) ≡ Ok u → o ≡ None
  unless_ok (Some f) u e = absurd (let z : ◌≡◌ {A = ℕ} 0 1 = cc in omega arith)
  unless_ok None u e = refl

  unless_err : (o : Option LineFault) (f : LineFault) → unless {X = Unit {0}} o (Ok tt) ≡ Err f → o ≡ Some f
  unless_err (Some g) f e = cc
  unless_err None f e = absurd (let z : ◌≡◌ {A = ℕ} 0 1 = cc in omega arith)

  pub marks_later : i < length marks → (u : Unit {0}) → unless (mark_fault F w v (take i marks) i (get_or marks i 0)) (Ok tt) ≡ Ok u
      → marks_fault F w v (take i marks) i (drop i marks) ≡ marks_fault F w v (take (i + 1) marks) (i + 1) (drop (i + 1) marks)
  marks_later h u e = next h ∙ ap (λ o. first o (marks_fault F w v (take (i + 1) marks) (i + 1) (drop (i + 1) marks))) (unless_ok (mark_fault F w v (take i marks) i (get_or marks i 0)) u e)

  pub marks_stop : i < length marks → (f : LineFault) → unless {X = Unit {0}} (mark_fault F w v (take i marks) i (get_or marks i 0)) (Ok tt) ≡ Err f
      → marks_fault F w v (take i marks) i (drop i marks) ≡ Some f
  marks_stop h f e = next h ∙ ap (λ o. first o (marks_fault F w v (take (i + 1) marks) (i + 1) (drop (i + 1) marks))) (unless_err (mark_fault F w v (take i marks) i (get_or marks i 0)) f e)

  pub marks_end : length marks ≤ i → marks_fault F w v (take i marks) i (drop i marks) ≡ None
  marks_end h = at_drop_all (marks_fault F w v (take i marks) i) marks i h

-- What a mark with no fault is.
pub record SoundMark (F : Algebra) (w v before : List ℕ) (t : ℕ) : Type 0 where
  pub low : 1 ≤ t
  pub high : t ≤ F.size
  pub new : member t before ≡ false
  pub somewhere : 0 < divisor (point_on F w v t)

-- a test that chooses no fault
pub choose_none : (b : Bool) (o : Option LineFault) (f : LineFault) → cond b o (Some f) ≡ None → (b ≡ true) × (o ≡ None)
choose_none true o f e = (refl, e)
choose_none false o f e = absurd (let z : ◌≡◌ {A = ℕ} 0 1 = cc in omega arith)

pub pass_none : (b : Bool) (o : Option LineFault) (f : LineFault) → cond b (Some f) o ≡ None → (b ≡ false) × (o ≡ None)
pass_none true o f e = absurd (let z : ◌≡◌ {A = ℕ} 0 1 = cc in omega arith)
pass_none false o f e = (refl, e)

pub both_none : (a b : Option LineFault) → first a b ≡ None → (a ≡ None) × (b ≡ None)
both_none (Some f) b e = absurd (let z : ◌≡◌ {A = ℕ} 0 1 = cc in omega arith)
both_none None b e = (refl, e)

pub sound_mark : (F : Algebra) (w v before : List ℕ) (i t : ℕ) → mark_fault F w v before i t ≡ None → SoundMark F w v before t
sound_mark F w v before i t e =
    let (a, x) = choose_none (leb 1 t && leb t F.size) _ (NotAMark i) e in
    let (b, y) = pass_none (member t before) _ (RepeatedMark i) x in
    let (c, z) = pass_none (nat_eq (divisor (point_on F w v t)) 0) None (ZeroPoint i) y in
    let (l, h) = and_parts (leb 1 t) (leb t F.size) a in
    let n = eqb-false (divisor (point_on F w v t)) 0 c in
    record { low = leb-true 1 t l; high = leb-true t F.size h; new = b; somewhere = omega arith }

pub marks_sound : (F : Algebra) (w v before : List ℕ) (i : ℕ) (ts : List ℕ) → marks_fault F w v before i ts ≡ None
    → (k : ℕ) → k < length ts → SoundMark F w v (before ++ take k ts) (get_or ts k 0)
marks_sound F w v before i [] e k h = absurd (omega arith)
marks_sound F w v before i (t ∷ ts) e zero h =
    let (a, b) = both_none (mark_fault F w v before i t) _ e in
    rw (append-nil before) (sound_mark F w v before i t a)
marks_sound F w v before i (t ∷ ts) e (suc k) h =
    let (a, b) = both_none (mark_fault F w v before i t) _ e in
    rw append_assoc at (marks_sound F w v (before ++ (t ∷ [])) (suc i) ts b k (omega arith))
