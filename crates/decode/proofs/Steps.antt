-- One step keeps what the two pairs are.
use Rattle.std.proofs.Common.{◌≡◌, ℕ, zero, suc, ◌+◌, ◌-◌, ◌<◌, ◌≤◌, Bool, true, false, cond, eqb, leb, List, length, get_or, sym, refl, ap, ◌∙◌, ap₂, ⊎_elim, add-one, arith, below_more}
use Rattle.std.specs.List.{AllByRecursion}
use Rattle.std.proofs.lemmas.List.{get_or_past}
use Rattle.std.proofs.ByRecursion.{All-get_or}
use Rattle.std.proofs.lemmas.Bool.{cases_lt, eqb-true, eqb-false, leb-true, leb-false}
use Rattle.field.specs.Algebra.{Algebra, Lawful, ops}
use Rattle.field.proofs.Inverses.{times_zero, times_positive}
use Rattle.poly.specs.Poly.{eval, last}
use Rattle.decode.specs.Width.{top}
use Rattle.decode.specs.declared.key.Pair.{Pair}
use Rattle.decode.specs.Coefficients.{mix, raise, before}
use Rattle.decode.specs.Near.{Points, Meets}
use Rattle.decode.specs.Pairs.{discrepancy_of, raised_of, mixed_of, step_of, Shaped, Leads}
use Rattle.decode.proofs.Places.{length_mix, getD_mix, length_raise, getD_raise}
use Rattle.decode.proofs.Codes.{pos_from, last_getD, eval_in, small_mix, small_raise, plus_zeros, zero_plus, eval_mix, eval_raise, mix_meets, raise_meets, no_discrepancy, discrepancies_meet, factor_zero}

module _ {F : Algebra} (lawful : Lawful F) where
  in_field : (xs : List ℕ) (k : ℕ) → AllByRecursion (λ c. c < F.size) xs → get_or xs k 0 < F.size
  in_field xs k h =
      ⊎_elim (λ (l : k < length xs). All-get_or (λ c. c < F.size) xs k 0 l h)
      (λ (l : length xs ≤ k). rw (get_or_past xs k 0 l) (omega (arith, lawful.one_in)))
      (cases_lt k (length xs))

  nothing : (a : ℕ) → a < F.size → F.plus (F.times a 0) 0 ≡ 0
  nothing a h = ap (λ w. F.plus w 0) (times_zero lawful a) ∙ plus_zeros lawful

  pub raise_zero : (a : ℕ) (xs : List ℕ) (k : ℕ) → a < F.size → get_or xs k 0 ≡ 0 → before 0 xs 0 k ≡ 0 → get_or (raise (ops F) a 0 xs) k 0 ≡ 0
  raise_zero a xs k h e f =
      ⊎_elim
      (λ (l : k < length xs). getD_raise (ops F) a 0 xs 0 k l ∙ ap₂ (λ x y. F.plus (F.times a x) y) e f ∙ nothing a h)
      (λ (l : length xs ≤ k). get_or_past (raise (ops F) a 0 xs) k 0 (omega (arith, length_raise (ops F) a 0 xs)))
      (cases_lt k (length xs))

  pub raise_top : (a : ℕ) (xs : List ℕ) (k : ℕ) → a < F.size → AllByRecursion (λ c. c < F.size) xs → suc k < length xs → get_or xs (suc k) 0 ≡ 0
      → get_or (raise (ops F) a 0 xs) (suc k) 0 ≡ get_or xs k 0
  raise_top a xs k h i l e =
      getD_raise (ops F) a 0 xs 0 (suc k) l
      ∙ ap (λ x. F.plus (F.times a x) (get_or xs k 0)) e
      ∙ ap (λ w. F.plus w (get_or xs k 0)) (times_zero lawful a)
      ∙ zero_plus lawful (get_or xs k 0) (in_field xs k i)

  pub mix_zero : (p : ℕ) (xs : List ℕ) (r : ℕ) (ys : List ℕ) (k : ℕ) → p < F.size → r < F.size → length xs ≡ length ys
      → get_or xs k 0 ≡ 0 → get_or ys k 0 ≡ 0 → get_or (mix (ops F) p xs r ys) k 0 ≡ 0
  mix_zero p xs r ys k hp hr l e f =
      ⊎_elim
      (λ (i : k < length xs). getD_mix (ops F) p xs r ys 0 k i (omega arith)
      ∙ ap₂ (λ x y. F.plus (F.times p x) (F.times r y)) e f
      ∙ ap₂ F.plus (times_zero lawful p) (times_zero lawful r) ∙ plus_zeros lawful)
      (λ (i : length xs ≤ k). get_or_past (mix (ops F) p xs r ys) k 0 (omega (arith, length_mix (ops F) p xs r ys l)))
      (cases_lt k (length xs))

  pub mix_top : (p : ℕ) (xs : List ℕ) (r : ℕ) (ys : List ℕ) (k : ℕ) → p < F.size → r < F.size → AllByRecursion (λ c. c < F.size) xs → length xs ≡ length ys → k < length xs
      → 0 < p → 0 < get_or xs k 0 → get_or ys k 0 ≡ 0 → 0 < get_or (mix (ops F) p xs r ys) k 0
  mix_top p xs r ys k hp hr hx l i a b f =
      let e : get_or (mix (ops F) p xs r ys) k 0 ≡ F.times p (get_or xs k 0) =
      getD_mix (ops F) p xs r ys 0 k i (omega arith)
      ∙ ap (λ y. F.plus (F.times p (get_or xs k 0)) (F.times r y)) f
      ∙ ap (F.plus (F.times p (get_or xs k 0))) (times_zero lawful r)
      ∙ lawful.plus_zero _ (lawful.times_in p (get_or xs k 0)) in
      rw e (times_positive lawful p (get_or xs k 0) a hp b (in_field xs k hx))

  module _ (d : ℕ) (ps : List (ℕ × ℕ)) (ok : Points F ps) (i : ℕ) (here : i < length ps) where
    point_in : (j : ℕ) → j < length ps → ((get_or ps j (0, 0)).0 < F.size) × ((get_or ps j (0, 0)).1 < F.size)
    point_in j l = All-get_or (λ p. (p.0 < F.size) × (p.1 < F.size)) ps j (0, 0) l ok.small

    keep_shaped : (x : Pair) → Shaped F d ps i x → discrepancy_of F x (get_or ps i (0, 0)) ≡ 0 → Shaped F d ps (i + 1) x
    keep_shaped x s e = record {
      n_long = s.n_long;
      e_long = s.e_long;
      fit = s.fit;
      meets = below_more (λ j. Meets F x.n x.e (get_or ps j (0, 0))) i s.meets
          (no_discrepancy lawful _ _ _ (point_in i here).1 (eval_in lawful x.n _) (eval_in lawful x.e _) e);
    }

    raise_shaped : (x : Pair) → Shaped F d ps i x → x.weight < top → Shaped F d ps (i + 1) (raised_of F x (get_or ps i (0, 0)).0)
    raise_shaped x s small =
        let u = (get_or ps i (0, 0)).0 in
        let hu : u < F.size = (point_in i here).0 in
        let a = F.minus u in
        let ha : a < F.size = lawful.minus_in u in
        let last-n : last 0 x.n ≡ 0 = last_getD 0 x.n top s.n_long ∙ s.fit.n_past top small in
        let last-e : last 0 x.e ≡ 0 = last_getD 0 x.e top s.e_long ∙ s.fit.e_past top (omega arith) in
        let at_n : (t : ℕ) → t < F.size → eval (ops F) (raise (ops F) a 0 x.n) t ≡ F.times (F.plus a t) (eval (ops F) x.n t) =
        λ t ht. eval_raise lawful u x.n t hu ht s.fit.n_in last-n in
        let at-e : (t : ℕ) → t < F.size → eval (ops F) (raise (ops F) a 0 x.e) t ≡ F.times (F.plus a t) (eval (ops F) x.e t) =
        λ t ht. eval_raise lawful u x.e t hu ht s.fit.e_in last-e in
        record {
          n_long = length_raise (ops F) a 0 x.n ∙ s.n_long;
          e_long = length_raise (ops F) a 0 x.e ∙ s.e_long;
          fit = record {
            n_in = small_raise lawful a 0 x.n;
            e_in = small_raise lawful a 0 x.e;
            n_past = raised_past_n a ha x s;
            e_past = raised_past_e a ha x s;
          };
          meets = below_more (λ j. Meets F (raise (ops F) a 0 x.n) (raise (ops F) a 0 x.e) (get_or ps j (0, 0))) i
              (λ j h.
              let t = (get_or ps j (0, 0)).0 in
              let z = (get_or ps j (0, 0)).1 in
              let (ht, hz) = point_in j (omega arith) in
              at_n t ht ∙ raise_meets lawful (F.plus a t) z _ _ (lawful.plus_in a t) hz (eval_in lawful x.e t) (s.meets j h) ∙ ap (F.times z) (sym (at-e t ht)))
              (let z = (get_or ps i (0, 0)).1 in
              let hz : z < F.size = (point_in i here).1 in
              let zero-times : (y : ℕ) → y < F.size → F.times 0 y ≡ 0 = λ y hy. lawful.times_comm 0 y ∙ times_zero lawful y in
              let gone : (xs : List ℕ) → F.times (F.plus a u) (eval (ops F) xs u) ≡ 0 =
              λ xs. ap (λ w. F.times w (eval (ops F) xs u)) (factor_zero lawful u hu) ∙ zero-times (eval (ops F) xs u) (eval_in lawful xs u) in
              at_n u hu ∙ gone x.n ∙ sym (ap (F.times z) (at-e u hu ∙ gone x.e) ∙ times_zero lawful z));
        }
      where
        raised_past_n : (a : ℕ) → a < F.size → (x : Pair) → Shaped F d ps i x → (k : ℕ) → x.weight + 1 < k → get_or (raise (ops F) a 0 x.n) k 0 ≡ 0
        raised_past_n a ha x s zero h = absurd (omega arith)
        raised_past_n a ha x s (suc k) h = raise_zero a x.n (suc k) ha (s.fit.n_past (suc k) (omega arith)) (s.fit.n_past k (omega arith))

        raised_past_e : (a : ℕ) → a < F.size → (x : Pair) → Shaped F d ps i x → (k : ℕ) → x.weight + 1 < k + d → get_or (raise (ops F) a 0 x.e) k 0 ≡ 0
        raised_past_e a ha x s zero h = raise_zero a x.e 0 ha (s.fit.e_past 0 (omega arith)) refl
        raised_past_e a ha x s (suc k) h = raise_zero a x.e (suc k) ha (s.fit.e_past (suc k) (omega arith)) (s.fit.e_past k (omega arith))

    -- p x - q y, where the lighter is y, and it meets the next point too
    mix_shaped : (p : ℕ) (x : Pair) (q : ℕ) (y : Pair) → p < F.size → q < F.size → Shaped F d ps i x → Shaped F d ps i y → y.weight ≤ x.weight
        → Meets F (mixed_of F p x q y).n (mixed_of F p x q y).e (get_or ps i (0, 0))
        → Shaped F d ps (i + 1) (mixed_of F p x q y)
    mix_shaped p x q y hp hq s t w m =
        let r = F.minus q in
        let hr : r < F.size = lawful.minus_in q in
        let ln : length x.n ≡ length y.n = s.n_long ∙ sym t.n_long in
        let le : length x.e ≡ length y.e = s.e_long ∙ sym t.e_long in
        record {
          n_long = length_mix (ops F) p x.n r y.n ln ∙ s.n_long;
          e_long = length_mix (ops F) p x.e r y.e le ∙ s.e_long;
          fit = record {
            n_in = small_mix lawful p x.n r y.n;
            e_in = small_mix lawful p x.e r y.e;
            n_past = λ k h. mix_zero p x.n r y.n k hp hr ln (s.fit.n_past k h) (t.fit.n_past k (omega arith));
            e_past = λ k h. mix_zero p x.e r y.e k hp hr le (s.fit.e_past k h) (t.fit.e_past k (omega arith));
          };
          meets = below_more (λ j. Meets F (mix (ops F) p x.n r y.n) (mix (ops F) p x.e r y.e) (get_or ps j (0, 0))) i
              (λ j h.
              let u = (get_or ps j (0, 0)).0 in
              let z = (get_or ps j (0, 0)).1 in
              let (hu, hz) = point_in j (omega arith) in
              eval_mix lawful p x.n r y.n u hp hr hu s.fit.n_in t.fit.n_in
              ∙ mix_meets lawful p r z _ _ _ _ hp hr hz (eval_in lawful x.e u) (eval_in lawful y.e u) (s.meets j h) (t.meets j h)
              ∙ ap (F.times z) (sym (eval_mix lawful p x.e r y.e u hp hr hu s.fit.e_in t.fit.e_in)))
              m;
        }

    -- the gaps as factors make a pair that meets the point
    mix_here : (x y : Pair) → Shaped F d ps i x → Shaped F d ps i y
        → Meets F (mixed_of F (discrepancy_of F y (get_or ps i (0, 0))) x (discrepancy_of F x (get_or ps i (0, 0))) y).n (mixed_of F (discrepancy_of F y (get_or ps i (0, 0))) x (discrepancy_of F x (get_or ps i (0, 0))) y).e (get_or ps i (0, 0))
    mix_here x y s t =
        let u = (get_or ps i (0, 0)).0 in
        let z = (get_or ps i (0, 0)).1 in
        let (hu, hz) = point_in i here in
        let p = discrepancy_of F y (get_or ps i (0, 0)) in
        let r = F.minus (discrepancy_of F x (get_or ps i (0, 0))) in
        let hp : p < F.size = lawful.plus_in _ _ in
        let hr : r < F.size = lawful.minus_in _ in
        eval_mix lawful p x.n r y.n u hp hr hu s.fit.n_in t.fit.n_in
        ∙ discrepancies_meet lawful z (eval (ops F) y.n u) (eval (ops F) x.n u) (eval (ops F) y.e u) (eval (ops F) x.e u) hz
        (eval_in lawful y.n u) (eval_in lawful x.n u) (eval_in lawful y.e u) (eval_in lawful x.e u)
        ∙ ap (F.times z) (sym (eval_mix lawful p x.e r y.e u hp hr hu s.fit.e_in t.fit.e_in))

    module _ (room : d + i < top) (a b : Pair) (s : Leads F d ps i a b) where
      a_light : a.weight < top
      a_light = omega (arith, s.weights, s.b_min)

      b_light : b.weight < top
      b_light = omega (arith, s.weights, s.b_min)

      -- a raised keeps its lead
      a_raised_top : (u : ℕ) → 0 < get_or (raised_of F a u).n (raised_of F a u).weight 0
      a_raised_top u =
          rw add-one (rw (raise_top (F.minus u) a.n a.weight (lawful.minus_in u) s.a_ok.fit.n_in (omega (arith, a_light, s.a_ok.n_long))
          (s.a_ok.fit.n_past (suc a.weight) (omega arith))) s.a_top)

      a_raised_low : (u k : ℕ) → k + d ≡ a.weight + 1 → get_or (raised_of F a u).e k 0 ≡ 0
      a_raised_low u zero h = raise_zero (F.minus u) a.e 0 (lawful.minus_in u) (s.a_ok.fit.e_past 0 (omega arith)) refl
      a_raised_low u (suc k) h =
          raise_zero (F.minus u) a.e (suc k) (lawful.minus_in u) (s.a_ok.fit.e_past (suc k) (omega arith)) (s.a_low k (omega arith))

      b_raised_top : (u : ℕ) → 0 < get_or (raised_of F b u).e ((raised_of F b u).weight - d) 0
      b_raised_top u =
          let e : (b.weight + 1) - d ≡ suc (b.weight - d) = omega (arith, s.b_min) in
          rw e (rw (raise_top (F.minus u) b.e (b.weight - d) (lawful.minus_in u) s.b_ok.fit.e_in (omega (arith, b_light, s.b_ok.e_long))
          (s.b_ok.fit.e_past (suc (b.weight - d)) (omega (arith, s.b_min)))) s.b_top)

      both_kept : discrepancy_of F a (get_or ps i (0, 0)) ≡ 0 → discrepancy_of F b (get_or ps i (0, 0)) ≡ 0 → Leads F d ps (i + 1) a b
      both_kept e f = record {
        a_ok = keep_shaped a s.a_ok e;
        b_ok = keep_shaped b s.b_ok f;
        a_top = s.a_top;
        a_low = s.a_low;
        b_min = s.b_min;
        b_top = s.b_top;
        weights = omega (arith, s.weights);
      }

      b_raised : discrepancy_of F a (get_or ps i (0, 0)) ≡ 0 → Leads F d ps (i + 1) a (raised_of F b (get_or ps i (0, 0)).0)
      b_raised e = record {
        a_ok = keep_shaped a s.a_ok e;
        b_ok = raise_shaped b s.b_ok b_light;
        a_top = s.a_top;
        a_low = s.a_low;
        b_min = omega (arith, s.b_min);
        b_top = b_raised_top (get_or ps i (0, 0)).0;
        weights = omega (arith, s.weights);
      }

      a_raised : discrepancy_of F b (get_or ps i (0, 0)) ≡ 0 → Leads F d ps (i + 1) (raised_of F a (get_or ps i (0, 0)).0) b
      a_raised f = record {
        a_ok = raise_shaped a s.a_ok a_light;
        b_ok = keep_shaped b s.b_ok f;
        a_top = a_raised_top (get_or ps i (0, 0)).0;
        a_low = a_raised_low (get_or ps i (0, 0)).0;
        b_min = s.b_min;
        b_top = s.b_top;
        weights = omega (arith, s.weights);
      }

      b_mixed : a.weight ≤ b.weight → 0 < discrepancy_of F a (get_or ps i (0, 0))
          → Leads F d ps (i + 1) (raised_of F a (get_or ps i (0, 0)).0) (mixed_of F (discrepancy_of F a (get_or ps i (0, 0))) b (discrepancy_of F b (get_or ps i (0, 0))) a)
      b_mixed w g =
          let p = discrepancy_of F a (get_or ps i (0, 0)) in
          let q = discrepancy_of F b (get_or ps i (0, 0)) in
          let low : get_or a.e (b.weight - d) 0 ≡ 0 =
          ⊎_elim (λ (h : a.weight < b.weight). s.a_ok.fit.e_past (b.weight - d) (omega (arith, s.b_min)))
          (λ (h : b.weight ≤ a.weight). s.a_low (b.weight - d) (omega (arith, s.b_min)))
          (cases_lt a.weight b.weight) in
          record {
            a_ok = raise_shaped a s.a_ok a_light;
            b_ok = mix_shaped p b q a (lawful.plus_in _ _) (lawful.plus_in _ _) s.b_ok s.a_ok w (mix_here b a s.b_ok s.a_ok);
            a_top = a_raised_top (get_or ps i (0, 0)).0;
            a_low = a_raised_low (get_or ps i (0, 0)).0;
            b_min = s.b_min;
            b_top = mix_top p b.e (F.minus q) a.e (b.weight - d) (lawful.plus_in _ _) (lawful.minus_in _) s.b_ok.fit.e_in
                (s.b_ok.e_long ∙ sym s.a_ok.e_long) (omega (arith, b_light, s.b_ok.e_long)) g s.b_top low;
            weights = omega (arith, s.weights);
          }

      a_mixed : b.weight < a.weight → 0 < discrepancy_of F b (get_or ps i (0, 0))
          → Leads F d ps (i + 1) (mixed_of F (discrepancy_of F b (get_or ps i (0, 0))) a (discrepancy_of F a (get_or ps i (0, 0))) b) (raised_of F b (get_or ps i (0, 0)).0)
      a_mixed w g =
          let p = discrepancy_of F b (get_or ps i (0, 0)) in
          let q = discrepancy_of F a (get_or ps i (0, 0)) in
          let hp : p < F.size = lawful.plus_in _ _ in
          let hr : F.minus q < F.size = lawful.minus_in _ in
          record {
            a_ok = mix_shaped p a q b (lawful.plus_in _ _) (lawful.plus_in _ _) s.a_ok s.b_ok (omega arith) (mix_here a b s.a_ok s.b_ok);
            b_ok = raise_shaped b s.b_ok b_light;
            a_top = mix_top p a.n (F.minus q) b.n a.weight (lawful.plus_in _ _) (lawful.minus_in _) s.a_ok.fit.n_in
                (s.a_ok.n_long ∙ sym s.b_ok.n_long) (omega (arith, a_light, s.a_ok.n_long)) g s.a_top (s.b_ok.fit.n_past a.weight w);
            a_low = λ k h. mix_zero p a.e (F.minus q) b.e k hp hr (s.a_ok.e_long ∙ sym s.b_ok.e_long) (s.a_low k h)
                (s.b_ok.fit.e_past k (omega arith));
            b_min = omega (arith, s.b_min);
            b_top = b_raised_top (get_or ps i (0, 0)).0;
            weights = omega (arith, s.weights);
          }

      pub stepped : Leads F d ps (i + 1) (step_of F (get_or ps i (0, 0)) a b).0 (step_of F (get_or ps i (0, 0)) a b).1
      stepped = way (eqb (discrepancy_of F a (get_or ps i (0, 0))) 0) (eqb (discrepancy_of F b (get_or ps i (0, 0))) 0) (leb a.weight b.weight) refl refl refl
        where
          way : (x y w : Bool) → eqb (discrepancy_of F a (get_or ps i (0, 0))) 0 ≡ x → eqb (discrepancy_of F b (get_or ps i (0, 0))) 0 ≡ y → leb a.weight b.weight ≡ w
              → let p = get_or ps i (0, 0) in
              let r : Pair × Pair = cond x (cond y (a, b) (a, raised_of F b p.0))
              (cond y (raised_of F a p.0, b)
              (cond w (raised_of F a p.0, mixed_of F (discrepancy_of F a p) b (discrepancy_of F b p) a) (mixed_of F (discrepancy_of F b p) a (discrepancy_of F a p) b, raised_of F b p.0))) in
              Leads F d ps (i + 1) r.0 r.1
          way true true w e f h = both_kept (eqb-true _ _ e) (eqb-true _ _ f)
          way true false w e f h = b_raised (eqb-true _ _ e)
          way false true w e f h = a_raised (eqb-true _ _ f)
          way false false true e f h = b_mixed (leb-true _ _ h) (pos_from _ (eqb-false _ _ e))
          way false false false e f h = a_mixed (leb-false _ _ h) (pos_from _ (eqb-false _ _ f))
