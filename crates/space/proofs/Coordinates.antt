-- The first coordinate that no point has.
use Rattle.std.proofs.Common.{◌≡◌, ℕ, zero, suc, ◌+◌, ◌-◌, ◌<◌, ◌≤◌, true, false, not, ◌&&◌, eqb, ltb, leb, List, [], ◌∷◌, length, get_or, drop, replicate, Some, None, sym, refl, ap, ◌∙◌, ⊎_elim, arith}
use Rattle.std.specs.List.{AllByRecursion}
use Rattle.std.proofs.lemmas.List.{at_drop_more, at_drop_all, ext_get_or, get_or-drop, length-drop, length-replicate, get_or-replicate}
use Rattle.std.proofs.lemmas.Bool.{cases_Bool, cond-true, cond-false, or_parts, or_from, leb-false, lt-leb, le-ltb, and_cases, and_left, and_right, not-false, not_from_true, ltb-false, eqb-true, eq-eqb, cases_lt}
use Rattle.space.specs.Places.{Point}
use Rattle.space.specs.Points.{bad_coordinate, first_bad}

module _ (q m : ℕ) where
  pub bad_here : (i : ℕ) (p : List ℕ) → i < length p → bad_coordinate q m i (get_or p i 0) ≡ true → first_bad q m i (drop i p) ≡ Some i
  bad_here i p h e = at_drop_more (first_bad q m i) p i 0 h ∙ cond-true (bad_coordinate q m i (get_or p i 0)) _ _ e

  pub bad_later : (i : ℕ) (p : List ℕ) → i < length p → bad_coordinate q m i (get_or p i 0) ≡ false → first_bad q m i (drop i p) ≡ first_bad q m (i + 1) (drop (i + 1) p)
  bad_later i p h e =
      let s : suc i ≡ i + 1 = omega arith in
      at_drop_more (first_bad q m i) p i 0 h ∙ cond-false (bad_coordinate q m i (get_or p i 0)) _ _ e ∙ ap (λ k. first_bad q m k (drop (i + 1) p)) s

  pub none_bad : (i : ℕ) (p : List ℕ) → length p ≤ i → first_bad q m i (drop i p) ≡ None
  none_bad i p h = at_drop_all (first_bad q m i) p i h

  good_one : (i x : ℕ) → bad_coordinate q m i x ≡ false → (x < q) × (m < i → x ≡ 0)
  good_one i x e =
      let (a, b) = or_parts (leb q x) (ltb m i && not (eqb x 0)) e in (
        leb-false q x a,
        λ h. ⊎_elim
            (λ (l : ltb m i ≡ false). absurd (omega (arith, ltb-false m i l)))
            (λ (z : not (eqb x 0) ≡ false). eqb-true x 0 (not-false (eqb x 0) z))
            (and_cases (ltb m i) (not (eqb x 0)) b),
      )

  good_all : (i : ℕ) (xs : List ℕ) → first_bad q m i xs ≡ None → AllByRecursion (λ x. x < q) xs × ((k : ℕ) → m < i + k → get_or xs k 0 ≡ 0)
  good_all i [] e = (tt, λ k h. refl)
  good_all i (x ∷ xs) e =
      ⊎_elim
      (λ (b : bad_coordinate q m i x ≡ true). let e' = sym (cond-true (bad_coordinate q m i x) (Some i) (first_bad q m (suc i) xs) b) ∙ e in absurd (let z : ◌≡◌ {A = ℕ} 0 1 = cc in omega arith))
      (λ (b : bad_coordinate q m i x ≡ false).
      let (c, d) = good_one i x b in
      let (r, s) = good_all (suc i) xs (sym (cond-false (bad_coordinate q m i x) (Some i) (first_bad q m (suc i) xs) b) ∙ e) in
      ((c, r), zeros x xs d s))
      (cases_Bool (bad_coordinate q m i x))
    where
      zeros : (x : ℕ) (xs : List ℕ) → (m < i → x ≡ 0) → ((k : ℕ) → m < suc i + k → get_or xs k 0 ≡ 0) → (k : ℕ) → m < i + k → get_or (x ∷ xs) k 0 ≡ 0
      zeros x xs d s zero h = d (omega arith)
      zeros x xs d s (suc k) h = s k (omega arith)

  pub bad_none : (p : List ℕ) → length p ≡ 4 → m ≤ 3 → first_bad q m 0 p ≡ None → Point q m p
  bad_none p four w e =
      let (a, z) = good_all 0 p e in
      let lr : length (replicate {A = ℕ} (3 - m) 0) ≡ 3 - m = length-replicate (3 - m) 0 in
      let ld = length-drop (suc m) p in
      record {
        four = four;
        codes = a;
        past = ext_get_or 0 (drop (suc m) p) (replicate (3 - m) 0) (omega arith) (λ k h. get_or-drop (suc m) p k 0 ∙ z (suc m + k) (omega arith) ∙ sym (get_or-replicate (3 - m) k 0 0 (omega arith)));
      }

  -- and a point has none that is bad
  fine : (i x : ℕ) → x < q → (m < i → x ≡ 0) → bad_coordinate q m i x ≡ false
  fine i x h z =
      or_from (leb q x) (ltb m i && not (eqb x 0)) (lt-leb q x h)
      (⊎_elim
      (λ (l : m < i). and_right (ltb m i) (not (eqb x 0)) (not_from_true (eqb x 0) (eq-eqb x 0 (z l))))
      (λ (l : i ≤ m). and_left (ltb m i) (not (eqb x 0)) (le-ltb m i l))
      (cases_lt m i))

  fine_all : (i : ℕ) (xs : List ℕ) → AllByRecursion (λ x. x < q) xs → ((k : ℕ) → m < i + k → get_or xs k 0 ≡ 0) → first_bad q m i xs ≡ None
  fine_all i [] a z = refl
  fine_all i (x ∷ xs) a z =
      cond-false (bad_coordinate q m i x) _ _ (fine i x a.0 (λ h. z 0 (omega arith)))
      ∙ fine_all (suc i) xs a.1 (λ k h. z (suc k) (omega arith))

  zeros_past : (n k : ℕ) → ◌≡◌ {A = ℕ} (get_or (replicate n 0) k 0) 0
  zeros_past zero k = refl
  zeros_past (suc n) zero = refl
  zeros_past (suc n) (suc k) = zeros_past n k

  pub none_of_point : (p : List ℕ) → Point q m p → first_bad q m 0 p ≡ None
  none_of_point p point = fine_all 0 p point.codes (λ k h.
      let e : suc m + (k - suc m) ≡ k = omega arith in
      let d = get_or-drop (suc m) p (k - suc m) 0 in
      ap (λ j. get_or p j 0) (sym e) ∙ sym d ∙ ap (λ l. get_or l (k - suc m) 0) point.past ∙ zeros_past (3 - m) (k - suc m))
