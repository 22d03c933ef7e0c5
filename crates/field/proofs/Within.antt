-- The laws of an algebra on codes follow from those at the codes alone.
use Rattle.std.proofs.Common.{◌≡◌, ℕ, zero, suc, ◌-◌, ◌<◌, ◌≤◌, Bool, cond, T, eqb, ltb, sym, ap, ◌∙◌, ⊎_elim, arith, eqb→eq}
use Rattle.std.proofs.lemmas.Bool.{cases_lt, lt-ltb, le-ltb, cond_both, ltb-true}
use Rattle.field.specs.Algebra.{Lawful}
use Rattle.field.specs.OnCodes.{within1, within2, greatest, on_codes}
use Rattle.field.proofs.Every.{every, at}

module _ (q : ℕ) (f : ℕ → ℕ) where
  in1 : (a : ℕ) → a < q → within1 q f a ≡ f a
  in1 a h = rw (lt-ltb a q h)

  out1 : (a : ℕ) → q ≤ a → within1 q f a ≡ 0
  out1 a h = rw (le-ltb a q h)

  below1 : 0 < q → ((a : ℕ) → a < q → f a < q) → (a : ℕ) → within1 q f a < q
  below1 pos h a = cond_both (ltb a q) (f a) 0 (λ x. x < q) (λ e. h a (ltb-true a q e)) (λ e. pos)

module _ (q : ℕ) (f : ℕ → ℕ → ℕ) where
  pub in2 : (a b : ℕ) → a < q → b < q → within2 q f a b ≡ f a b
  in2 a b h k = rw (lt-ltb a q h, lt-ltb b q k)

  out2 : (a b : ℕ) → q ≤ a → within2 q f a b ≡ 0
  out2 a b h = rw (le-ltb a q h)

  below2 : 0 < q → ((a b : ℕ) → a < q → b < q → f a b < q) → (a b : ℕ) → within2 q f a b < q
  below2 pos h a b =
      cond_both (ltb a q) (cond (ltb b q) (f a b) 0) 0 (λ x. x < q)
      (λ e. cond_both (ltb b q) (f a b) 0 (λ x. x < q) (λ d. h a b (ltb-true a q e) (ltb-true b q d)) (λ d. pos))
      (λ e. pos)

  comm2 : ((a b : ℕ) → a < q → b < q → f a b ≡ f b a) → (a b : ℕ) → within2 q f a b ≡ within2 q f b a
  comm2 h a b =
      ⊎_elim
      (λ (k : a < q). ⊎_elim
      (λ (l : b < q). in2 a b k l ∙ h a b k l ∙ sym (in2 b a l k))
      (λ (l : q ≤ b). simp (le-ltb b q l, lt-ltb a q k))
      (cases_lt b q))
      (λ (k : q ≤ a). ⊎_elim
      (λ (l : b < q). simp (le-ltb a q k, lt-ltb b q l))
      (λ (l : q ≤ b). simp (le-ltb a q k, le-ltb b q l))
      (cases_lt b q))
      (cases_lt a q)

greatest_below : (f : ℕ → Bool) (n : ℕ) → 0 < n → greatest f n < n
greatest_below f zero h = h
greatest_below f (suc zero) h = cond_both (f zero) zero zero (λ x. x < 1) (λ e. omega arith) (λ e. omega arith)
greatest_below f (suc (suc n)) h =
    cond_both (f (suc n)) (suc n) (greatest f (suc n)) (λ x. x < suc (suc n)) (λ e. omega arith) (λ e. omega (arith, greatest_below f (suc n) (omega arith)))

-- The laws, asked of codes alone. That each code but 0 has an inverse is a test that is computed.
pub record AtCodes (q : ℕ) (f g : ℕ → ℕ → ℕ) (n : ℕ → ℕ) : Type 0 where
  pub one_in : 1 < q
  pub plus_in : (a b : ℕ) → a < q → b < q → f a b < q
  pub times_in : (a b : ℕ) → a < q → b < q → g a b < q
  pub minus_in : (a : ℕ) → a < q → n a < q
  pub plus_comm : (a b : ℕ) → a < q → b < q → f a b ≡ f b a
  pub times_comm : (a b : ℕ) → a < q → b < q → g a b ≡ g b a
  pub plus_assoc : (a b c : ℕ) → a < q → b < q → c < q → f (f a b) c ≡ f a (f b c)
  pub times_assoc : (a b c : ℕ) → a < q → b < q → c < q → g (g a b) c ≡ g a (g b c)
  pub times_plus : (a b c : ℕ) → a < q → b < q → c < q → g a (f b c) ≡ f (g a b) (g a c)
  pub plus_zero : (a : ℕ) → a < q → f a 0 ≡ a
  pub times_one : (a : ℕ) → a < q → g a 1 ≡ a
  pub plus_minus : (a : ℕ) → a < q → f a (n a) ≡ 0

module _ (q : ℕ) (f g : ℕ → ℕ → ℕ) (n : ℕ → ℕ) where
  -- whether the code k + 1 has an inverse
  abbrev pub inverts : ℕ → Bool
  inverts k = eqb (within2 q g (suc k) ((on_codes q f g n).over (suc k))) 1

  module _ (L : AtCodes q f g n) (test : T (every inverts (q - 1))) where
    zero_in : 0 < q
    zero_in = omega (arith, L.one_in)

    assoc2 : (h : ℕ → ℕ → ℕ) → ((a b : ℕ) → a < q → b < q → h a b < q) → ((a b c : ℕ) → a < q → b < q → c < q → h (h a b) c ≡ h a (h b c)) → (a b c : ℕ) → a < q → b < q → c < q → within2 q h (within2 q h a b) c ≡ within2 q h a (within2 q h b c)
    assoc2 h inside law a b c i j k =
        ap (λ x. within2 q h x c) (in2 q h a b i j) ∙ in2 q h (h a b) c (inside a b i j) k ∙ law a b c i j k
        ∙ sym (in2 q h a (h b c) i (inside b c j k)) ∙ sym (ap (within2 q h a) (in2 q h b c j k))

    distributes : (a b c : ℕ) → a < q → b < q → c < q → within2 q g a (within2 q f b c) ≡ within2 q f (within2 q g a b) (within2 q g a c)
    distributes a b c i j k =
        ap (within2 q g a) (in2 q f b c j k) ∙ in2 q g a (f b c) i (L.plus_in b c j k) ∙ L.times_plus a b c i j k
        ∙ sym (in2 q f (g a b) (g a c) (L.times_in a b i j) (L.times_in a c i k))
        ∙ sym (ap (λ x. within2 q f x (g a c)) (in2 q g a b i j)) ∙ sym (ap (within2 q f (within2 q g a b)) (in2 q g a c i k))

    inverted : (a : ℕ) → 0 < a → a < q → within2 q g a ((on_codes q f g n).over a) ≡ 1
    inverted zero p h = omega arith
    inverted (suc k) p h = eqb→eq _ 1 (at inverts (q - 1) test k (omega arith))

    pub lawful : Lawful (on_codes q f g n)
    lawful = record {
      one_in = L.one_in;
      plus_in = below2 q f zero_in L.plus_in;
      times_in = below2 q g zero_in L.times_in;
      minus_in = below1 q n zero_in L.minus_in;
      over_in = λ a. greatest_below (λ b. eqb (within2 q g a b) 1) q zero_in;
      plus_out = out2 q f;
      times_out = out2 q g;
      minus_out = out1 q n;
      plus_comm = comm2 q f L.plus_comm;
      times_comm = comm2 q g L.times_comm;
      plus_assoc = assoc2 f L.plus_in L.plus_assoc;
      times_assoc = assoc2 g L.times_in L.times_assoc;
      times_plus = distributes;
      plus_zero = λ a h. in2 q f a 0 h zero_in ∙ L.plus_zero a h;
      times_one = λ a h. in2 q g a 1 h L.one_in ∙ L.times_one a h;
      plus_minus = λ a h. ap (within2 q f a) (in1 q n a h) ∙ in2 q f a (n a) h (L.minus_in a h) ∙ L.plus_minus a h;
      times_over = inverted;
    }
