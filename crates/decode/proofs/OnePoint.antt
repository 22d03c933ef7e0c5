-- One point more.
use Rattle.std.proofs.Common.{◌≡◌, ℕ, zero, suc, ◌+◌, ◌<◌, ◌≤◌, unwrap_or, true, false, cond, List, ◌∷◌, length, get_or, take, replicate, sym, refl, ap, ◌∙◌, ap₂, add-zero, arith, below_more}
use Rattle.std.proofs.lemmas.List.{length-replicate}
use Rattle.std.proofs.ByRecursion.{All-get_or}
use Rattle.field.specs.Algebra.{Algebra, Lawful, inverse, ops}
use Rattle.poly.specs.Poly.{eval, last}
use Rattle.decode.specs.Width.{top, width}
use Rattle.decode.specs.declared.newton.Fit.{Fit}
use Rattle.decode.specs.Coefficients.{mix, raise}
use Rattle.decode.specs.Near.{Points, usable, picked}
use Rattle.decode.specs.Fitted.{factor_of, fitted_of, Fitting, Through}
use Rattle.decode.proofs.Places.{length_mix, length_raise}
use Rattle.decode.proofs.Codes.{last_getD, eval_in, small_mix, small_raise, eval_mix, eval_raise, factor_zero, factor_pos, refined}
use Rattle.field.proofs.Inverses.{times_zero, times_positive, one_times, inverse_at}
use Rattle.decode.proofs.Steps.{raise_zero, mix_zero}
use Rattle.decode.proofs.Picked.{picked_more, apart_at}
use Rattle.decode.proofs.Start.{zeros_at, zeros_in}
use Rattle.decode.proofs.Complete.{eval_cut}

module _ {F : Algebra} (lawful : Lawful F) where
  inverse_is : (y : ℕ) → 0 < y → y < F.size → unwrap_or (inverse F y) 0 ≡ F.over y
  inverse_is y h i = ap (λ o. unwrap_or o 0) (inverse_at lawful y h i)

  module _ (es : List ℕ) (ps : List (ℕ × ℕ)) (ok : Points F ps) (i : ℕ) (here : i < length ps) (f : Fit) (s : Fitting F es ps i f) where
    pub skipped : usable (ops F) es (get_or ps i (0, 0)) ≡ false → Fitting F es ps (i + 1) f
    skipped left = record {
      p_long = s.p_long;
      m_long = s.m_long;
      p_in = s.p_in;
      m_in = s.m_in;
      p_past = s.p_past;
      m_past = s.m_past;
      at = below_more
          (λ j. usable (ops F) es (get_or ps j (0, 0)) ≡ true → (eval (ops F) f.p (get_or ps j (0, 0)).0 ≡ (get_or ps j (0, 0)).1) × (eval (ops F) f.m (get_or ps j (0, 0)).0 ≡ 0))
          i s.at (λ taken. absurd (let z : ◌≡◌ {A = ℕ} 0 1 = cc in omega arith));
      ahead = λ j h l. s.ahead j (omega arith) l;
      counts = picked_more (usable (ops F) es) ps i (0, 0) here
          ∙ ap (λ b. length (picked (usable (ops F) es) (take i ps)) + cond b 1 0) left ∙ add-zero _ ∙ s.counts;
    }

    pub more : f.count < top → usable (ops F) es (get_or ps i (0, 0)) ≡ true → Fitting F es ps (i + 1) (fitted_of F f (get_or ps i (0, 0)))
    more small taken =
        let u = (get_or ps i (0, 0)).0 in
        let z = (get_or ps i (0, 0)).1 in
        let point_in : (j : ℕ) → j < length ps → ((get_or ps j (0, 0)).0 < F.size) × ((get_or ps j (0, 0)).1 < F.size) =
        λ j l. All-get_or (λ p. (p.0 < F.size) × (p.1 < F.size)) ps j (0, 0) l ok.small in
        let hu : u < F.size = (point_in i here).0 in
        let hz : z < F.size = (point_in i here).1 in
        let c = factor_of F f (get_or ps i (0, 0)) in
        let hc : c < F.size = lawful.times_in _ _ in
        let a = F.minus u in
        let ha : a < F.size = lawful.minus_in u in
        let long : length f.p ≡ length f.m = s.p_long ∙ sym s.m_long in
        let last-m : last 0 f.m ≡ 0 = last_getD 0 f.m top s.m_long ∙ s.m_past top small in
        let at-m : (t : ℕ) → t < F.size → eval (ops F) (raise (ops F) a 0 f.m) t ≡ F.times (F.plus a t) (eval (ops F) f.m t) =
        λ t ht. eval_raise lawful u f.m t hu ht s.m_in last-m in
        let at_p : (t : ℕ) → t < F.size → eval (ops F) (mix (ops F) 1 f.p c f.m) t ≡ F.plus (F.times 1 (eval (ops F) f.p t)) (F.times c (eval (ops F) f.m t)) =
        λ t ht. eval_mix lawful 1 f.p c f.m t lawful.one_in hc ht s.p_in s.m_in in
        let y = eval (ops F) f.m u in
        let hy : 0 < y = s.ahead i (omega arith) here in
        record {
          p_long = length_mix (ops F) 1 f.p c f.m long ∙ s.p_long;
          m_long = length_raise (ops F) a 0 f.m ∙ s.m_long;
          p_in = small_mix lawful 1 f.p c f.m;
          m_in = small_raise lawful a 0 f.m;
          p_past = λ k h. mix_zero lawful 1 f.p c f.m k lawful.one_in hc long (s.p_past k (omega arith)) (s.m_past k (omega arith));
          m_past = past a ha;
          at = below_more
              (λ j. usable (ops F) es (get_or ps j (0, 0)) ≡ true
              → (eval (ops F) (mix (ops F) 1 f.p c f.m) (get_or ps j (0, 0)).0 ≡ (get_or ps j (0, 0)).1) × (eval (ops F) (raise (ops F) a 0 f.m) (get_or ps j (0, 0)).0 ≡ 0))
              i
              (λ j l w.
              let t = (get_or ps j (0, 0)).0 in
              let ht : t < F.size = (point_in j (omega arith)).0 in
              let (e, g) = s.at j l w in (
                at_p t ht
                    ∙ ap₂ F.plus (one_times lawful (eval (ops F) f.p t) (eval_in lawful f.p t)) (ap (F.times c) g ∙ times_zero lawful c)
                    ∙ lawful.plus_zero _ (eval_in lawful f.p t) ∙ e,
                at-m t ht ∙ ap (F.times (F.plus a t)) g ∙ times_zero lawful (F.plus a t),
              ))
              (λ _. (
                at_p u hu
                    ∙ ap (λ v. F.plus (F.times 1 (eval (ops F) f.p u)) (F.times (F.times (F.plus z (F.minus (eval (ops F) f.p u))) v) y)) (inverse_is y hy (eval_in lawful f.m u))
                    ∙ refined lawful (eval (ops F) f.p u) z y (eval_in lawful f.p u) hz (eval_in lawful f.m u) hy,
                at-m u hu ∙ ap (λ v. F.times v y) (factor_zero lawful u hu) ∙ lawful.times_comm 0 y ∙ times_zero lawful y,
              ));
          ahead = λ j l h.
              let t = (get_or ps j (0, 0)).0 in
              let ht : t < F.size = (point_in j h).0 in
              rw (at-m t ht) (times_positive lawful (F.plus a t) (eval (ops F) f.m t) (factor_pos lawful u t hu ht (apart_at ps i j (0, 0) ok.apart (omega arith) h)) (lawful.plus_in a t) (s.ahead j (omega arith) h) (eval_in lawful f.m t));
          counts = picked_more (usable (ops F) es) ps i (0, 0) here
              ∙ ap (λ b. length (picked (usable (ops F) es) (take i ps)) + cond b 1 0) taken ∙ ap (λ n. n + 1) s.counts;
        }
      where
        past : (a : ℕ) → a < F.size → (k : ℕ) → f.count + 1 < k → get_or (raise (ops F) a 0 f.m) k 0 ≡ 0
        past a ha zero h = absurd (omega arith)
        past a ha (suc k) h = raise_zero lawful a f.m (suc k) ha (s.m_past (suc k) (omega arith)) (s.m_past k (omega arith))

  module _ (es : List ℕ) (ps : List (ℕ × ℕ)) (ok : Points F ps) (m : ℕ) (long : suc m ≡ width) where
    past_one : (k : ℕ) → 0 < k → ◌≡◌ {A = ℕ} (get_or (1 ∷ replicate m 0) k 0) 0
    past_one zero h = absurd (omega arith)
    past_one (suc k) h = zeros_at m k

    one_at : (t : ℕ) → t < F.size → eval (ops F) (1 ∷ replicate m 0) t ≡ 1
    one_at t h =
        let e : 0 ≡ eval (ops F) (replicate m 0) t = eval_cut lawful 0 (replicate m 0) t h (λ k _. zeros_at m k) in
        ap (λ w. F.plus 1 (F.times t w)) (sym e) ∙ ap (F.plus 1) (times_zero lawful t) ∙ lawful.plus_zero 1 lawful.one_in

    none : Fitting F es ps 0 (record { p = 0 ∷ replicate m 0; m = 1 ∷ replicate m 0; count = 0 })
    none = record {
      p_long = ap suc (length-replicate m 0) ∙ long;
      m_long = ap suc (length-replicate m 0) ∙ long;
      p_in = (omega (arith, lawful.one_in), zeros_in F.size m (omega (arith, lawful.one_in)));
      m_in = (lawful.one_in, zeros_in F.size m (omega (arith, lawful.one_in)));
      p_past = λ k h. zeros_at (suc m) k;
      m_past = past_one;
      at = λ j h. absurd (omega arith);
      ahead = λ j h l. rw (one_at (get_or ps j (0, 0)).0 (All-get_or (λ p. (p.0 < F.size) × (p.1 < F.size)) ps j (0, 0) l ok.small).0) (omega arith);
      counts = refl;
    }

    pub none_from : (x y : List ℕ) → x ≡ 0 ∷ replicate m 0 → y ≡ 1 ∷ replicate m 0 → Fitting F es ps 0 (record { p = x; m = y; count = 0 })
    none_from x y e f = rw (e, f) none

-- d + 1 usable points are enough
pub reached : {F : Algebra} (es : List ℕ) (d : ℕ) (ps : List (ℕ × ℕ)) (i : ℕ) (f : Fit) → Fitting F es ps i f → i ≤ length ps → f.count ≡ suc d → Through F es d ps f.p
reached es d ps i f s h e = record {
  long = s.p_long;
  small = s.p_in;
  past = λ k l. s.p_past k (omega arith);
  upto = i;
  within = h;
  at = λ j l u. (s.at j l u).0;
  many = s.counts ∙ e;
}
