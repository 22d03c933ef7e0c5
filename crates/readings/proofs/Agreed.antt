-- What a polynomial says at the marks is what it says backwards at their points.
use Rattle.std.proofs.Common.{◌≡◌, ℕ, suc, ◌+◌, ◌<◌, ◌≤◌, true, false, cond, not, unwrap_or, ◌&&◌, eqb, leb, ◌≢◌, List, [], ◌∷◌, map, reverse, length, get_or, sym, refl, ap, ◌∙◌, subst, ap₂, ⊎_elim, arith}
use Rattle.std.specs.List.{AllByRecursion}
use Rattle.std.proofs.lemmas.Bool.{cases_eq, eq-eqb, ne_eqb, and_parts, leb-true, not-true, or_parts, eqb-false}
use Rattle.field.specs.Algebra.{Algebra, Lawful, Codes, ops, power}
use Rattle.field.proofs.Elements.{zero_in, power_in}
use Rattle.field.proofs.Inverses.{inverse_at, over_only, over_positive, power_positive}
use Rattle.poly.specs.Poly.{eval}
use Rattle.cells.specs.declared.entries.Entry.{Entry}
use Rattle.cells.specs.declared.entries.Entry.TheVariants.{Symbol, Missing}
use Rattle.decode.specs.Near.{Points, places, through, misses}
use Rattle.decode.proofs.Codes.{eval_in, cancel_times}
use Rattle.readings.specs.declared.kinds.Reading.{Reading}
use Rattle.readings.specs.Counts.{count}
use Rattle.readings.specs.Readings.{value_of, at_mark, disagrees, missing_entry, wrongs, missings, has_mark, marked}
use Rattle.readings.specs.Points.{over_mark, point_of, with_point, points_of, misses_entry, misses_reading}
use Rattle.readings.proofs.Reversal.{at_inverse, at_infinity}

pub record Mark (q t : ℕ) : Type 0 where
  pub low : 1 ≤ t
  pub high : t ≤ q

-- the first reading's mark, and the others
pub record Marked (q : ℕ) (r : Reading) (rs : List Reading) : Type 0 where
  pub mark : Mark q r.mark
  pub single : has_mark r.mark rs ≡ false
  pub rest : marked q rs ≡ true

pub take_marked : (q : ℕ) (r : Reading) (rs : List Reading) → marked q (r ∷ rs) ≡ true → Marked q r rs
take_marked q r rs e =
    let (a, b) = and_parts (leb 1 r.mark && leb r.mark q) (not (has_mark r.mark rs) && marked q rs) e in
    let (l, h) = and_parts (leb 1 r.mark) (leb r.mark q) a in
    let (s, m) = and_parts (not (has_mark r.mark rs)) (marked q rs) b in
    record { mark = record { low = leb-true 1 r.mark l; high = leb-true r.mark q h }; single = not-true (has_mark r.mark rs) s; rest = m }

pub same_test : (a b c d : ℕ) → (a ≡ b → c ≡ d) → (c ≡ d → a ≡ b) → eqb a b ≡ eqb c d
same_test a b c d to from =
    ⊎_elim
    (λ (e : a ≡ b). eq-eqb a b e ∙ sym (eq-eqb c d (to e)))
    (λ (n : a ≡ b → ⊥). ne_eqb a b n ∙ sym (ne_eqb c d (λ e. n (from e))))
    (cases_eq a b)

module _ {F : Algebra} (L : Lawful F) where
  -- a mark other than infinity
  over_is : (t : ℕ) → Mark F.size t → t ≢ F.size → over_mark F t ≡ F.over t
  over_is t m n = ap (λ o. unwrap_or o 0) (inverse_at L t m.low (omega (arith, m.high)))

  point_infinite : (d : ℕ) (r : Reading) (y : ℕ) → r.mark ≡ F.size → point_of F d r y ≡ (0, value_of F d r y)
  point_infinite d r y e = rw (eq-eqb r.mark F.size e) refl

  point_finite : (d : ℕ) (r : Reading) (y : ℕ) → r.mark ≢ F.size
      → point_of F d r y ≡ (over_mark F r.mark, F.times (power (ops F) (over_mark F r.mark) d) (value_of F d r y))
  point_finite d r y n = rw (ne_eqb r.mark F.size n) refl

  mark_infinite : (d : ℕ) (h : List ℕ) (t : ℕ) → t ≡ F.size → at_mark F d h t ≡ get_or h d 0
  mark_infinite d h t e = rw (eq-eqb t F.size e) refl

  mark_finite : (d : ℕ) (h : List ℕ) (t : ℕ) → t ≢ F.size → at_mark F d h t ≡ eval (ops F) h t
  mark_finite d h t n = rw (ne_eqb t F.size n) refl

  module _ (d : ℕ) (h : List ℕ) (long : length h ≡ suc d) (codes : Codes F h) where
    pub agreed : (r : Reading) (y : ℕ) → Mark F.size r.mark → through (ops F) (reverse h) (point_of F d r y) ≡ eqb (at_mark F d h r.mark) (value_of F d r y)
    agreed r y m =
        ⊎_elim
        (λ (e : r.mark ≡ F.size).
        ap (through (ops F) (reverse h)) (point_infinite d r y e)
        ∙ ap (λ w. eqb w (value_of F d r y)) (at_infinity L h d codes long ∙ sym (mark_infinite d h r.mark e)))
        (λ (n : r.mark ≢ F.size).
        let t = r.mark in
        let u = F.over t in
        let lt : t < F.size = omega (arith, m.high) in
        let one : F.times t u ≡ 1 = L.times_over t m.low lt in
        let k = power (ops F) u d in
        let v = value_of F d r y in
        let pos : k ≢ 0 = λ z. omega (arith, power_positive L u d (over_positive L t m.low lt) (L.over_in t)) in
        let E = eval (ops F) h t in
        ap (through (ops F) (reverse h)) (point_finite d r y n ∙ ap (λ w. (w, F.times (power (ops F) w d) v)) (over_is t m n))
        ∙ ap (λ w. eqb w (F.times k v)) (at_inverse L h d t u codes long lt (L.over_in t) one)
        ∙ same_test (F.times k E) (F.times k v) E v
        (λ e. cancel_times L k E v (power_in L u d) (eval_in L h t) (L.times_in _ _) pos (L.times_comm E k ∙ e ∙ L.times_comm k v))
        (λ e. ap (F.times k) e)
        ∙ ap (λ w. eqb w v) (sym (mark_finite d h t n)))
        (cases_eq r.mark F.size)

    entry_agreed : (r : Reading) (e : Entry) → Mark F.size r.mark → misses_entry F d (reverse h) r e ≡ disagrees F d h r e
    entry_agreed r (Symbol y) m = ap not (agreed r y m)
    entry_agreed r Missing m = refl

    pub wrongs_agreed : (rs : List Reading) → marked F.size rs ≡ true → map (misses_reading F d (reverse h)) rs ≡ wrongs F d h rs
    wrongs_agreed [] e = refl
    wrongs_agreed (r ∷ rs) e =
        let m = take_marked F.size r rs e in
        ap₂ (λ a b. a ∷ b) (entry_agreed r r.entry m.mark) (wrongs_agreed rs m.rest)

  -- how many
  missed_one : (d : ℕ) (g : List ℕ) (r : Reading) (e : Entry) (ps : List (ℕ × ℕ)) → misses (ops F) g (with_point F d r e ps) ≡ cond (misses_entry F d g r e) 1 0 + misses (ops F) g ps
  missed_one d g r (Symbol y) ps =
      elim (through (ops F) g (point_of F d r y)) as (λ b. cond b (misses (ops F) g ps) (suc (misses (ops F) g ps)) ≡ cond (not b) 1 0 + misses (ops F) g ps) [ true ↦ omega arith | false ↦ omega arith ]
  missed_one d g r Missing ps = omega arith

  pub misses_counted : (d : ℕ) (g : List ℕ) (rs : List Reading) → misses (ops F) g (points_of F d rs) ≡ count (map (misses_reading F d g) rs)
  misses_counted d g [] = refl
  misses_counted d g (r ∷ rs) = missed_one d g r r.entry (points_of F d rs) ∙ ap (λ n. cond (misses_reading F d g r) 1 0 + n) (misses_counted d g rs)

  point_or_missing : (d : ℕ) (r : Reading) (e : Entry) (ps : List (ℕ × ℕ)) → length (with_point F d r e ps) + cond (missing_entry e) 1 0 ≡ suc (length ps)
  point_or_missing d r (Symbol y) ps = omega arith
  point_or_missing d r Missing ps = omega arith

  pub points_counted : (d : ℕ) (rs : List Reading) → length (points_of F d rs) + count (missings rs) ≡ length rs
  points_counted d [] = refl
  points_counted d (r ∷ rs) = omega (arith, points_counted d rs, point_or_missing d r r.entry (points_of F d rs))

  -- the points are codes at distinct places
  pub point_in : (d : ℕ) (r : Reading) (y : ℕ) → Mark F.size r.mark → ((point_of F d r y).0 < F.size) × ((point_of F d r y).1 < F.size)
  point_in d r y m =
      ⊎_elim
      (λ (e : r.mark ≡ F.size). rw (point_infinite d r y e) (zero_in L, L.times_in _ _))
      (λ (n : r.mark ≢ F.size). rw (point_finite d r y n) (rw (over_is r.mark m n) (L.over_in r.mark), L.times_in _ _))
      (cases_eq r.mark F.size)

  place : ℕ → ℕ
  place t = cond (eqb t F.size) 0 (over_mark F t)

  point_place : (d : ℕ) (r : Reading) (y : ℕ) → (point_of F d r y).0 ≡ place r.mark
  unfolding place
  point_place d r y =
      elim (eqb r.mark F.size) as (λ b. (cond {A = ℕ × ℕ} b (0, value_of F d r y) (over_mark F r.mark, F.times (power (ops F) (over_mark F r.mark) d) (value_of F d r y))).0 ≡ cond b 0 (over_mark F r.mark)) [ true ↦ refl | false ↦ refl ]

  place_infinite : (t : ℕ) → t ≡ F.size → place t ≡ 0
  unfolding place
  place_infinite t e = rw (eq-eqb t F.size e) refl

  place_finite : (t : ℕ) → Mark F.size t → t ≢ F.size → (place t ≡ F.over t) × (0 < F.over t)
  unfolding place
  place_finite t m n = (rw (ne_eqb t F.size n) (over_is t m n), over_positive L t m.low (omega (arith, m.high)))

  -- marks with the same place are the same
  place_tells : (t s : ℕ) → Mark F.size t → Mark F.size s → place t ≡ place s → t ≡ s
  place_tells t s mt ms e =
      ⊎_elim
      (λ (a : t ≡ F.size). ⊎_elim
      (λ (b : s ≡ F.size). a ∙ sym b)
      (λ (b : s ≢ F.size). let f = place_finite s ms b in let z : F.over s ≡ 0 = sym f.0 ∙ sym e ∙ place_infinite t a in absurd (omega (arith, f.1)))
      (cases_eq s F.size))
      (λ (a : t ≢ F.size). ⊎_elim
      (λ (b : s ≡ F.size). let f = place_finite t mt a in let z : F.over t ≡ 0 = sym f.0 ∙ e ∙ place_infinite s b in absurd (omega (arith, f.1)))
      (λ (b : s ≢ F.size).
      let lt : t < F.size = omega (arith, mt.high) in
      let ls : s < F.size = omega (arith, ms.high) in
      let o : F.over t ≡ F.over s = sym (place_finite t mt a).0 ∙ e ∙ (place_finite s ms b).0 in
      let x = over_only L (F.over t) t lt (L.times_comm (F.over t) t ∙ L.times_over t mt.low lt) in
      let y = over_only L (F.over s) s ls (L.times_comm (F.over s) s ∙ L.times_over s ms.low ls) in
      sym x ∙ ap F.over o ∙ y)
      (cases_eq s F.size))
      (cases_eq t F.size)

  other_places : (d t : ℕ) → Mark F.size t → (rs : List Reading) → marked F.size rs ≡ true → has_mark t rs ≡ false → AllByRecursion (λ s. s ≢ place t) (places (points_of F d rs))
  other_places d t mt [] m n = tt
  other_places d t mt (r ∷ rs) m n =
      let k = take_marked F.size r rs m in
      let (a, b) = or_parts (eqb r.mark t) (has_mark t rs) n in
      with_entry r.entry (λ e. eqb-false r.mark t a (place_tells r.mark t k.mark mt e)) (other_places d t mt rs k.rest b)
    where
      with_entry : (e : Entry) → place r.mark ≢ place t → AllByRecursion (λ s. s ≢ place t) (places (points_of F d rs)) → AllByRecursion (λ s. s ≢ place t) (places (with_point F d r e (points_of F d rs)))
      with_entry (Symbol y) n a = ((λ e. n (sym (point_place d r y) ∙ e)), a)
      with_entry Missing n a = a

  pub points_good : (d : ℕ) (rs : List Reading) → marked F.size rs ≡ true → Points F (points_of F d rs)
  points_good d [] m = record { small = tt; apart = tt }
  points_good d (r ∷ rs) m =
      let k = take_marked F.size r rs m in
      with_entry r.entry k.mark (points_good d rs k.rest) (other_places d r.mark k.mark rs k.rest k.single)
    where
      with_entry : (e : Entry) → Mark F.size r.mark → Points F (points_of F d rs) → AllByRecursion (λ s. s ≢ place r.mark) (places (points_of F d rs)) → Points F (with_point F d r e (points_of F d rs))
      with_entry (Symbol y) k p o = record {
        small = (point_in d r y k, p.small);
        apart = (subst (λ w. AllByRecursion (λ s. s ≢ w) (places (points_of F d rs))) (sym (point_place d r y)) o, p.apart);
      }
      with_entry Missing k p o = p
