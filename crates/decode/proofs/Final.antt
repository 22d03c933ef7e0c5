-- What is found is what is near.
use Rattle.std.proofs.Common.{◌≡◌, ℕ, zero, suc, ◌+◌, ◌-◌, ◌/◌, ◌<◌, ◌≤◌, Bool, true, false, cond, eqb, leb, ◌≢◌, List, [], ◌∷◌, length, get_or, take, sym, refl, ap, ◌∙◌, ap₂, arith}
use Rattle.std.specs.Bool.{then_some}
use Rattle.std.specs.List.{AllByRecursion}
use Rattle.std.proofs.lemmas.List.{length-take, length-take-le, get_or-take}
use Rattle.std.proofs.ByRecursion.{All-weaker, All-take, All-get_or, All-from_get_or}
use Rattle.std.proofs.lemmas.Bool.{leb-true, leb-false}
use Rattle.field.specs.Algebra.{Algebra, Lawful, ops}
use Rattle.field.specs.Algebra.{Ops}
use Rattle.poly.specs.Poly.{eval, Distinct}
use Rattle.poly.proofs.Transfer.{unique_codes}
use Rattle.decode.specs.Width.{top}
use Rattle.decode.specs.declared.key.Pair.{Pair}
use Rattle.decode.specs.Near.{Points, Near, Found, Decoded, Meets, places, misses, usable, picked}
use Rattle.decode.specs.Pairs.{Solution}
use Rattle.decode.specs.Fitted.{Through}
use Rattle.decode.proofs.Picked.{picked_all, picked_apart}
use Rattle.decode.proofs.Complete.{eval_cut, exact, enough}

pub misses_same : (o : Ops ℕ) (g h : List ℕ) (ps : List (ℕ × ℕ)) → AllByRecursion (λ p. eval o g p.0 ≡ eval o h p.0) ps → misses o g ps ≡ misses o h ps
misses_same o g h [] e = refl
misses_same o g h (p ∷ ps) e = ap₂ (λ x n. cond (eqb x p.1) n (suc n)) e.0 (misses_same o g h ps e.1)

places_take : (P : ℕ → Type 0) (n : ℕ) (ps : List (ℕ × ℕ)) → AllByRecursion P (places ps) → AllByRecursion P (places (take n ps))
places_take P zero ps h = tt
places_take P (suc n) [] h = tt
places_take P (suc n) (p ∷ ps) h = (h.0, places_take P n ps h.1)

apart_take : (n : ℕ) (ps : List (ℕ × ℕ)) → Distinct (places ps) → Distinct (places (take n ps))
apart_take zero ps h = tt
apart_take (suc n) [] h = tt
apart_take (suc n) (p ∷ ps) h = (places_take (λ s. s ≢ p.0) n ps h.0, apart_take n ps h.1)

module _ {F : Algebra} (lawful : Lawful F) (d : ℕ) (ps : List (ℕ × ℕ)) (ok : Points F ps) (x : Pair) (s : Solution F d ps x) (r-over : d < length ps) (d-under : d < top) where
  cut_at : (g : List ℕ) → Through F x.e d ps g → (u : ℕ) → u < F.size → eval (ops F) (take (suc d) g) u ≡ eval (ops F) g u
  cut_at g t u h = eval_cut lawful (suc d) g u h (λ k i. t.past k (omega arith))

  cut_misses : (g : List ℕ) → Through F x.e d ps g → misses (ops F) (take (suc d) g) ps ≡ misses (ops F) g ps
  cut_misses g t =
      misses_same (ops F) (take (suc d) g) g ps
      (All-weaker (λ p. (p.0 < F.size) × (p.1 < F.size)) (λ p. eval (ops F) (take (suc d) g) p.0 ≡ eval (ops F) g p.0) (λ p h. cut_at g t p.0 h.0) ps ok.small)

  cut_long : (g : List ℕ) → Through F x.e d ps g → length (take (suc d) g) ≡ suc d
  cut_long g t = length-take-le (suc d) g (omega (arith, t.long))

  found_is : (g : List ℕ) → Through F x.e d ps g → (h : List ℕ) → Near F d ps h → take (suc d) g ≡ h
  found_is g t h near =
      let f = usable (ops F) x.e in
      let qs = take t.upto ps in
      let Q : ℕ × ℕ → Type 0 = λ p. (p.0 < F.size) × (p.1 < F.size) in
      let in-qs : AllByRecursion Q qs = All-take Q t.upto ps ok.small in
      let R : ℕ × ℕ → Type 0 = λ p. f p ≡ true → eval (ops F) (take (suc d) g) p.0 ≡ eval (ops F) h p.0 in
      let same : AllByRecursion R qs =
      All-from_get_or R qs (0, 0) (λ j l.
      let l' : j < t.upto = omega (arith, length-take t.upto ps) in
      let l'' : j < length ps = omega (arith, t.within) in
      rw (get_or-take t.upto ps j (0, 0) l')
      (λ e.
      let p = get_or ps j (0, 0) in
      let hp = All-get_or Q ps j (0, 0) l'' ok.small in
      cut_at g t p.0 hp.0 ∙ t.at j l' e
      ∙ sym (exact lawful d ps ok ((length ps + d) / 2) x.n x.e s.fit s.meets (omega arith) (omega arith) r-over (omega (arith, s.e_long)) h near p hp
      (All-get_or (Meets F x.n x.e) ps j (0, 0) l'' s.meets) e))) in
      unique_codes lawful (picked f qs) (take (suc d) g) h
      (picked_all f (λ u. u < F.size) Q (λ p k _. k.0) qs in-qs) (All-take (λ c. c < F.size) (suc d) g t.small) near.small
      (cut_long g t ∙ sym t.many) (near.long ∙ sym t.many) (picked_apart f qs (apart_take t.upto ps ok.apart))
      (picked_all f (λ u. eval (ops F) (take (suc d) g) u ≡ eval (ops F) h u) R (λ p k e. k e) qs same)

  pub found_near : (g : List ℕ) → Through F x.e d ps g → misses (ops F) g ps ≤ (length ps - d - 1) / 2 → Found F d ps g
  found_near g t h = record {
    near = record {
      long = cut_long g t;
      small = All-take (λ c. c < F.size) (suc d) g t.small;
      few = rw (cut_misses g t) h;
    };
    past = t.past;
    only = λ k near. sym (found_is g t k near);
  }

  pub none_nearer : (g : List ℕ) → Through F x.e d ps g → (length ps - d - 1) / 2 < misses (ops F) g ps → (h : List ℕ) → Near F d ps h → ⊥
  none_nearer g t l h near =
      let e = ap (λ k. misses (ops F) k ps) (found_is g t h near) in
      omega (arith, e, cut_misses g t, near.few)

  pub none_at_all : length (picked (usable (ops F) x.e) ps) ≤ d → (h : List ℕ) → Near F d ps h → ⊥
  none_at_all l h near =
      omega (arith, enough lawful d ps ok ((length ps + d) / 2) x.n x.e s.fit s.meets (omega arith) (omega arith) r-over (omega (arith, s.e_long)) h near s.some)

  -- the candidate, where few enough points miss it
  pub decided : (g : List ℕ) → Through F x.e d ps g → (m : ℕ) → m ≡ misses (ops F) g ps → Decoded F d ps (then_some (leb m ((length ps - d - 1) / 2)) g)
  decided g t m e = go (leb m ((length ps - d - 1) / 2)) refl
    where
      go : (b : Bool) → leb m ((length ps - d - 1) / 2) ≡ b → Decoded F d ps (then_some b g)
      go true k = found_near g t (omega (arith, leb-true m _ k))
      go false k = none_nearer g t (omega (arith, leb-false m _ k))
