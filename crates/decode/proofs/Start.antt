-- The pairs that the search starts from.
use Rattle.std.proofs.Common.{◌≡◌, ℕ, zero, suc, ◌+◌, ◌-◌, ◌<◌, ◌≤◌, List, ◌∷◌, length, get_or, replicate, refl, ap, ◌∙◌, arith}
use Rattle.std.specs.List.{AllByRecursion}
use Rattle.std.proofs.lemmas.List.{length-replicate}
use Rattle.field.specs.Algebra.{Algebra, Lawful}
use Rattle.decode.specs.Width.{width}
use Rattle.decode.specs.declared.key.Pair.{Pair}
use Rattle.decode.specs.Near.{Meets}
use Rattle.decode.specs.Pairs.{Shaped, Leads, Solution}
use Rattle.std.proofs.ByRecursion.{All-from_get_or}

pub zeros_at : (n k : ℕ) → ◌≡◌ {A = ℕ} (get_or (replicate n 0) k 0) 0
zeros_at zero k = refl
zeros_at (suc n) zero = refl
zeros_at (suc n) (suc k) = zeros_at n k

pub zeros_in : (q n : ℕ) → 0 < q → AllByRecursion (λ (c : ℕ). c < q) (replicate n 0)
zeros_in q zero h = tt
zeros_in q (suc n) h = (h, zeros_in q n h)

module _ {F : Algebra} (lawful : Lawful F) (d m : ℕ) (ps : List (ℕ × ℕ)) (long : suc m ≡ width) where
  pub start : Leads F d ps 0 (record { n = 1 ∷ replicate m 0; e = 0 ∷ replicate m 0; weight = 0 }) (record { n = 0 ∷ replicate m 0; e = 1 ∷ replicate m 0; weight = d })
  start = record {
    a_ok = record {
      n_long = ap suc (length-replicate m 0) ∙ long;
      e_long = length-replicate (suc m) 0 ∙ long;
      fit = record { n_in = (lawful.one_in, zeros_in F.size m pos); e_in = zeros_in F.size (suc m) pos; n_past = past; e_past = λ k h. zeros_at (suc m) k };
      meets = λ j h. absurd (omega arith);
    };
    b_ok = record {
      n_long = length-replicate (suc m) 0 ∙ long;
      e_long = ap suc (length-replicate m 0) ∙ long;
      fit = record { n_in = zeros_in F.size (suc m) pos; e_in = (lawful.one_in, zeros_in F.size m pos); n_past = λ k h. zeros_at (suc m) k; e_past = λ k h. past k (omega arith) };
      meets = λ j h. absurd (omega arith);
    };
    a_top = omega arith;
    a_low = λ k h. zeros_at (suc m) k;
    b_min = omega arith;
    b_top = at (d - d) (omega arith);
    weights = omega arith;
  }
    where
      pos : 0 < F.size
      pos = omega (arith, lawful.one_in)

      past : (k : ℕ) → 0 < k → ◌≡◌ {A = ℕ} (get_or (1 ∷ replicate m 0) k 0) 0
      past zero h = absurd (omega arith)
      past (suc k) h = zeros_at m k

      at : (k : ℕ) → k ≡ 0 → 0 < get_or (1 ∷ replicate m 0) k 0
      at zero h = omega arith
      at (suc k) h = absurd (omega arith)

  pub start_from : (x y z w : List ℕ) → x ≡ 1 ∷ replicate m 0 → y ≡ 0 ∷ replicate m 0 → z ≡ 0 ∷ replicate m 0 → w ≡ 1 ∷ replicate m 0
      → Leads F d ps 0 (record { n = x; e = y; weight = 0 }) (record { n = z; e = w; weight = d })
  start_from x y z w e f g h = rw (e, f, g, h) start

-- The lighter of the two at the end.
module _ {F : Algebra} (d : ℕ) (ps : List (ℕ × ℕ)) (i : ℕ) (a b : Pair) (s : Leads F d ps i a b) (whole : length ps ≤ i) (within : i ≤ length ps) where
  lighter : (x : Pair) → Shaped F d ps i x → x.weight + x.weight ≤ d + i
      → (((k : ℕ) → get_or x.e k 0 ≡ 0) → ((k : ℕ) → get_or x.n k 0 ≡ 0) → ⊥) → Solution F d ps x
  lighter x t w some = record {
    e_long = t.e_long;
    fit = record {
      n_in = t.fit.n_in;
      e_in = t.fit.e_in;
      n_past = λ k h. t.fit.n_past k (omega arith);
      e_past = λ k h. t.fit.e_past k (omega arith);
    };
    meets = All-from_get_or (Meets F x.n x.e) ps (0, 0) (λ j h. t.meets j (omega arith));
    some = some;
  }

  pub a_solves : a.weight ≤ b.weight → Solution F d ps a
  a_solves h = lighter a s.a_ok (omega (arith, s.weights)) (λ e n. omega (arith, n a.weight, s.a_top))

  pub b_solves : b.weight < a.weight → Solution F d ps b
  b_solves h = lighter b s.b_ok (omega (arith, s.weights)) (λ e n. omega (arith, e (b.weight - d), s.b_top))
