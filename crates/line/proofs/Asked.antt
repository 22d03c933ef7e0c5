-- What arguments are that meet no refusal.
use Rattle.std.proofs.Common.{◌≡◌, ℕ, suc, ◌<◌, ◌≤◌, true, false, not, ◌&&◌, ◌||◌, eqb, ltb, leb, ◌≢◌, List, [], ◌∷◌, ◌++◌, map, length, None, sym, refl, ap, ◌∙◌, arith}
use Rattle.std.proofs.lemmas.List.{length-map}
use Rattle.std.proofs.lemmas.Bool.{eq-eqb, ne_eqb, eqb-true, eqb-false, ltb-true, leb-true, le-leb, and_from, not_from_false, or_left, or_right, cond-true}
use Rattle.field.specs.Algebra.{Algebra}
use Rattle.space.specs.Counts.{cells, member}
use Rattle.space.specs.Places.{point_of}
use Rattle.decode.specs.Width.{points_most}
use Rattle.readings.specs.declared.kinds.Reading.{Reading}
use Rattle.readings.specs.Readings.{has_mark, marked, usable}
use Rattle.line.specs.declared.faults.LineFault.TheVariants.{OtherField, NoPlace, NoDirection, SamePlace, TooFewMarks, TooManyMarks}
use Rattle.line.specs.Asking.{mark_fault, marks_fault, ask_fault}
use Rattle.line.proofs.Marks.{choose_none, pass_none, both_none, sound_mark}

pub record Asked (F : Algebra) (q m d w v : ℕ) (marks : List ℕ) : Type 0 where
  pub same : q ≡ F.size
  pub place : w < cells q m
  pub direction : v < cells q m
  pub apart : v ≢ w
  pub many : d < length marks
  pub few : length marks ≤ q
  pub marks_sound : marks_fault F (point_of q m w) (point_of q m v) [] 0 marks ≡ None

pub asked : (F : Algebra) (q m d w v : ℕ) (marks : List ℕ) → ask_fault F q m d w v marks ≡ None → Asked F q m d w v marks
asked F q m d w v marks e =
    let (a, x) = choose_none (eqb q F.size) _ OtherField e in
    let (b, y) = choose_none (ltb w (cells q m)) _ (NoPlace w) x in
    let (c, z) = choose_none (ltb v (cells q m)) _ (NoDirection v) y in
    let (f, s) = pass_none (eqb v w) _ (SamePlace v) z in
    let (g, t) = choose_none (ltb d (length marks)) _ TooFewMarks s in
    let (h, u) = choose_none (leb (length marks) q) _ TooManyMarks t in
    record {
      same = eqb-true q F.size a;
      place = ltb-true w (cells q m) b;
      direction = ltb-true v (cells q m) c;
      apart = eqb-false v w f;
      many = ltb-true d (length marks) g;
      few = leb-true (length marks) q h;
      marks_sound = u;
    }

module _ (F : Algebra) (w v : List ℕ) (R : ℕ → Reading) (keeps : (t : ℕ) → (R t).mark ≡ t) where
  member_push_left : (x : ℕ) (ys zs : List ℕ) → member x ys ≡ true → member x (ys ++ zs) ≡ true
  member_push_left x [] zs e = absurd (let z : ◌≡◌ {A = ℕ} 0 1 = cc in omega arith)
  member_push_left x (y ∷ ys) zs e =
      elim (eqb x y) as (λ b. (b || member x ys) ≡ true → (b || member x (ys ++ zs)) ≡ true) [ true ↦ λ _. refl | false ↦ λ h. member_push_left x ys zs h ] e

  member_last : (x : ℕ) (ys : List ℕ) → member x (ys ++ (x ∷ [])) ≡ true
  member_last x [] = or_left (eqb x x) false (eq-eqb x x refl)
  member_last x (y ∷ ys) = or_right (eqb x y) (member x (ys ++ (x ∷ []))) (member_last x ys)

  -- a mark that came before does not come again
  not_again : (x : ℕ) (before : List ℕ) (i : ℕ) (ts : List ℕ) → marks_fault F w v before i ts ≡ None → member x before ≡ true → has_mark x (map R ts) ≡ false
  not_again x before i [] e m = refl
  not_again x before i (t ∷ ts) e m =
      let (a, b) = both_none (mark_fault F w v before i t) _ e in
      let s = sound_mark F w v before i t a in
      let n : (R t).mark ≢ x = λ k. (let z : true ≡ false = sym m ∙ ap (λ y. member y before) (sym k ∙ keeps t) ∙ s.new in let y : ◌≡◌ {A = ℕ} 0 1 = cc in omega arith) in
      rw (ne_eqb (R t).mark x n) (not_again x (before ++ (t ∷ [])) (suc i) ts b (member_push_left x before (t ∷ []) m))

  pub readings_marked : (before : List ℕ) (i : ℕ) (ts : List ℕ) → marks_fault F w v before i ts ≡ None → marked F.size (map R ts) ≡ true
  readings_marked before i [] e = refl
  readings_marked before i (t ∷ ts) e =
      let (a, b) = both_none (mark_fault F w v before i t) _ e in
      let s = sound_mark F w v before i t a in
      let k = keeps t in
      and_from (leb 1 (R t).mark && leb (R t).mark F.size) (not (has_mark (R t).mark (map R ts)) && marked F.size (map R ts))
      (and_from (leb 1 (R t).mark) (leb (R t).mark F.size) (le-leb 1 (R t).mark (omega (arith, s.low))) (le-leb (R t).mark F.size (omega (arith, s.high))))
      (and_from (not (has_mark (R t).mark (map R ts))) (marked F.size (map R ts))
      (not_from_false (has_mark (R t).mark (map R ts)) (ap (λ y. has_mark y (map R ts)) k ∙ not_again t (before ++ (t ∷ [])) (suc i) ts b (member_last t before)))
      (readings_marked (before ++ (t ∷ [])) (suc i) ts b))

  pub readings_usable : (ts : List ℕ) → marks_fault F w v [] 0 ts ≡ None → length ts ≤ points_most → usable F.size (map R ts) ≡ map R ts
  readings_usable ts e l =
      cond-true (leb (length (map R ts)) points_most && marked F.size (map R ts)) (map R ts) []
      (and_from (leb (length (map R ts)) points_most) (marked F.size (map R ts)) (le-leb (length (map R ts)) points_most (omega (arith, length-map ts R))) (readings_marked [] 0 ts e))
