-- What a pair that meets every point says of near coefficients.
use Rattle.std.proofs.Common.{◌≡◌, ℕ, zero, suc, ◌+◌, ◌-◌, ◌<◌, ◌≤◌, Bool, true, eqb, List, [], ◌∷◌, length, get_or, take, sym, refl, ap, ◌∙◌, ap₂, ⊎_elim, arith}
use Rattle.std.specs.List.{AllByRecursion}
use Rattle.std.proofs.lemmas.List.{length-take, get_or-take, get_or_past}
use Rattle.std.proofs.ByRecursion.{All-weaker, All-take, All-get_or}
use Rattle.std.proofs.lemmas.Bool.{cases_lt, eqb-true, eqb-false, not-true}
use Rattle.field.specs.Algebra.{Algebra, Lawful, ops}
use Rattle.poly.specs.Poly.{eval, Distinct}
use Rattle.field.proofs.Elements.{Elem, same_code, elems, field_of, lift, length_lift, all_lift}
use Rattle.field.proofs.Inverses.{times_zero}
use Rattle.poly.proofs.Transfer.{eval_lift, distinct_lift, few_roots}
use Rattle.decode.specs.Near.{Points, Near, Meets, Fits, through, usable, picked}
use Rattle.decode.proofs.Codes.{eval_in, plus_zeros, cancel_times}
use Rattle.decode.proofs.Picked.{picked_all, picked_apart, picked_count, misses_count}
use Rattle.decode.proofs.Locate as abstract

pub all_both : {X : Type 0} (P Q : X → Type 0) (xs : List X) → AllByRecursion P xs → AllByRecursion Q xs → AllByRecursion (λ x. P x × Q x) xs
all_both P Q [] a b = tt
all_both P Q (x ∷ xs) a b = ((a.0, b.0), all_both P Q xs a.1 b.1)

module _ {F : Algebra} (lawful : Lawful F) where
  -- the coefficients from n on are zeros
  pub eval_cut : (n : ℕ) (cs : List ℕ) (t : ℕ) → t < F.size → ((k : ℕ) → n ≤ k → get_or cs k 0 ≡ 0) → eval (ops F) (take n cs) t ≡ eval (ops F) cs t
  eval_cut zero [] t h z = refl
  eval_cut (suc n) [] t h z = refl
  eval_cut zero (c ∷ cs) t h z =
      let e : c ≡ 0 = z 0 (omega arith) in
      let r : 0 ≡ eval (ops F) cs t = eval_cut zero cs t h (λ k i. z (suc k) (omega arith)) in
      sym (ap₂ (λ x y. F.plus x (F.times t y)) e (sym r) ∙ ap (F.plus 0) (times_zero lawful t) ∙ plus_zeros lawful)
  eval_cut (suc n) (c ∷ cs) t h z = ap (λ w. F.plus c (F.times t w)) (eval_cut n cs t h (λ k i. z (suc k) (omega arith)))

  -- a list of degree at most w with more than w roots is all zeros
  pub all_gone : (w : ℕ) (us cs : List ℕ) → AllByRecursion (λ u. u < F.size) us → AllByRecursion (λ c. c < F.size) cs → Distinct us → w < length us
      → ((k : ℕ) → w < k → get_or cs k 0 ≡ 0) → AllByRecursion (λ u. eval (ops F) cs u ≡ 0) us → (k : ℕ) → get_or cs k 0 ≡ 0
  all_gone w us cs in-us in-cs n l z h k =
      let cut = take (suc w) cs in
      let zeros : AllByRecursion (λ c. c ≡ 0) cut =
      few_roots lawful us cut in-us (All-take (λ c. c < F.size) (suc w) cs in-cs) (simp length-take (omega arith)) n
      (All-weaker (λ u. (u < F.size) × (eval (ops F) cs u ≡ 0)) (λ u. eval (ops F) cut u ≡ 0)
      (λ u e. eval_cut (suc w) cs u e.0 (λ j i. z j (omega arith)) ∙ e.1) us (all_both (λ u. u < F.size) (λ u. eval (ops F) cs u ≡ 0) us in-us h)) in
      ⊎_elim
      (λ (i : k < suc w). sym (get_or-take (suc w) cs k 0 i) ∙ ⊎_elim
      (λ (j : k < length cut). All-get_or (λ c. c ≡ 0) cut k 0 j zeros)
      (λ (j : length cut ≤ k). get_or_past cut k 0 j)
      (cases_lt k (length cut)))
      (λ (i : suc w ≤ k). z k (omega arith))
      (cases_lt k (suc w))

module _ {F : Algebra} (lawful : Lawful F) where
  -- n is g times e everywhere where it is at more than w places
  pub located : (d w : ℕ) (us ns gs es : List ℕ) → Fits F d w ns es → AllByRecursion (λ u. u < F.size) us → AllByRecursion (λ c. c < F.size) gs → Distinct us
      → w < length us → d ≤ w → length gs ≡ suc d → 0 < length es
      → AllByRecursion (λ u. eval (ops F) ns u ≡ F.times (eval (ops F) gs u) (eval (ops F) es u)) us
      → (t : ℕ) → t < F.size → eval (ops F) ns t ≡ F.times (eval (ops F) gs t) (eval (ops F) es t)
  located d w us ns gs es fit in-us in-gs n l i g j h t ht =
      let L = lawful in
      let q = F.size in
      let N = take (suc w) ns in
      let E = take (suc (w - d)) es in
      let in-N = All-take (λ c. c < q) (suc w) ns fit.n_in in
      let in-E = All-take (λ c. c < q) (suc (w - d)) es fit.e_in in
      let at-N : (u : ℕ) → u < q → eval (ops F) N u ≡ eval (ops F) ns u = λ u hu. eval_cut lawful (suc w) ns u hu (λ k m. fit.n_past k (omega arith)) in
      let at-E : (u : ℕ) → u < q → eval (ops F) E u ≡ eval (ops F) es u = λ u hu. eval_cut lawful (suc (w - d)) es u hu (λ k m. fit.e_past k (omega arith)) in
      let NN = lift q N in-N in
      let GG = lift q gs in-gs in
      let EE = lift q E in-E in
      let lift-N : (x : Elem q) → (eval (elems L) NN x).0 ≡ eval (ops F) ns x.0 = λ x. eval_lift L N in-N x ∙ at-N x.0 x.1 in
      let lift-E : (x : Elem q) → (eval (elems L) EE x).0 ≡ eval (ops F) es x.0 = λ x. eval_lift L E in-E x ∙ at-E x.0 x.1 in
      let all = all_lift (λ u. eval (ops F) ns u ≡ F.times (eval (ops F) gs u) (eval (ops F) es u))
      (λ x. eval (elems L) NN x ≡ (elems L).times (eval (elems L) GG x) (eval (elems L) EE x))
      (λ x e. same_code (lift-N x ∙ e ∙ sym (ap₂ F.times (eval_lift L gs in-gs x) (lift-E x)))) us in-us h in
      let a = length_lift q us in-us in
      let b : length NN ≤ suc w = omega (arith, length_lift q N in-N, length-take (suc w) ns) in
      let c : length GG ≡ suc d = length_lift q gs in-gs ∙ g in
      let e : length EE ≤ suc (w - d) = omega (arith, length_lift q E in-E, length-take (suc (w - d)) es) in
      let f : 1 ≤ length EE = omega (arith, length_lift q E in-E, length-take (suc (w - d)) es) in
      let r = abstract.locate (field_of L) (lift q us in-us) NN GG EE (distinct_lift q us in-us n) (omega arith) f (omega arith) all (t, ht) in
      sym (lift-N (t, ht)) ∙ ap (λ y. y.0) r ∙ ap₂ F.times (eval_lift L gs in-gs (t, ht)) (lift-E (t, ht))

module _ {F : Algebra} (lawful : Lawful F) (d : ℕ) (ps : List (ℕ × ℕ)) (ok : Points F ps) (w : ℕ) (ns es : List ℕ) (fit : Fits F d w ns es)
    (meets : AllByRecursion (Meets F ns es) ps) (d-under : d ≤ w) (w-under : w + w ≤ length ps + d) (r-over : d < length ps) (e_long : 0 < length es)
    (g : List ℕ) (near : Near F d ps g) where
  agreed_many : w < length (picked (through (ops F) g) ps)
  agreed_many = omega (arith, misses_count (ops F) g ps, near.few)

  agreed_in : AllByRecursion (λ u. u < F.size) (picked (through (ops F) g) ps)
  agreed_in = picked_all (through (ops F) g) (λ u. u < F.size) (λ p. (p.0 < F.size) × (p.1 < F.size)) (λ p h e. h.0) ps ok.small

  agreed_at : AllByRecursion (λ u. eval (ops F) ns u ≡ F.times (eval (ops F) g u) (eval (ops F) es u)) (picked (through (ops F) g) ps)
  agreed_at =
      picked_all (through (ops F) g) (λ u. eval (ops F) ns u ≡ F.times (eval (ops F) g u) (eval (ops F) es u)) (Meets F ns es)
      (λ p m e. m ∙ ap (λ z. F.times z (eval (ops F) es p.0)) (sym (eqb-true (eval (ops F) g p.0) p.1 e))) ps meets

  everywhere : (t : ℕ) → t < F.size → eval (ops F) ns t ≡ F.times (eval (ops F) g t) (eval (ops F) es t)
  everywhere =
      located lawful d w (picked (through (ops F) g) ps) ns g es fit agreed_in near.small (picked_apart (through (ops F) g) ps ok.apart) agreed_many d-under
      near.long e_long agreed_at

  -- g comes to the value wherever e does not vanish
  pub exact : (p : ℕ × ℕ) → (p.0 < F.size) × (p.1 < F.size) → Meets F ns es p → usable (ops F) es p ≡ true → eval (ops F) g p.0 ≡ p.1
  exact p h m e =
      sym (cancel_times lawful (eval (ops F) es p.0) p.1 (eval (ops F) g p.0) (eval_in lawful es p.0) h.1 (eval_in lawful g p.0)
      (eqb-false (eval (ops F) es p.0) 0 (not-true (eqb (eval (ops F) es p.0) 0) e))
      (sym m ∙ everywhere p.0 h.0))

  -- e vanishes at few of the points
  pub enough : (((k : ℕ) → get_or es k 0 ≡ 0) → ((k : ℕ) → get_or ns k 0 ≡ 0) → ⊥) → d < length (picked (usable (ops F) es) ps)
  enough some =
      let gone : ℕ × ℕ → Bool = λ p. eqb (eval (ops F) es p.0) 0 in
      let count = picked_count gone ps in
      ⊎_elim
      (λ (many : w - d < length (picked gone ps)).
      let none-e : (k : ℕ) → get_or es k 0 ≡ 0 =
      all_gone lawful (w - d) (picked gone ps) es
      (picked_all gone (λ u. u < F.size) (λ p. (p.0 < F.size) × (p.1 < F.size)) (λ p h e. h.0) ps ok.small)
      fit.e_in (picked_apart gone ps ok.apart) many (λ k h. fit.e_past k (omega arith))
      (picked_all gone (λ u. eval (ops F) es u ≡ 0) (λ p. (p.0 < F.size) × (p.1 < F.size)) (λ p h e. eqb-true (eval (ops F) es p.0) 0 e) ps ok.small) in
      let flat : (t : ℕ) → t < F.size → eval (ops F) es t ≡ 0 = λ t h. sym (eval_cut lawful 0 es t h (λ k i. none-e k)) in
      let none-n : (k : ℕ) → get_or ns k 0 ≡ 0 =
      all_gone lawful w (picked (through (ops F) g) ps) ns agreed_in fit.n_in (picked_apart (through (ops F) g) ps ok.apart) agreed_many fit.n_past
      (All-weaker (λ u. u < F.size) (λ u. eval (ops F) ns u ≡ 0)
      (λ u h. everywhere u h ∙ ap (F.times (eval (ops F) g u)) (flat u h) ∙ times_zero lawful (eval (ops F) g u))
      (picked (through (ops F) g) ps) agreed_in) in
      absurd (some none-e none-n))
      (λ (few : length (picked gone ps) ≤ w - d). omega (arith, count))
      (cases_lt (w - d) (length (picked gone ps)))
