-- An array made from a function of the index.
use Rattle.std.proofs.Common.{◌≡◌, ℕ, zero, suc, ◌+◌, ◌<◌, ◌≤◌, List, length, get_or, sym, refl, ◌∙◌, subst, ⊎_elim, arith}
use Rattle.std.proofs.lemmas.Bool.{cases_lt}
use Rattle.std.proofs.lemmas.List.{ext_get_or}
use Rattle.std.specs.Array.{IsFromFnResult, IsFromFnResultFrom}
use Rattle.std.specs.Fn.{Called}
use denote.Param.Members.{Mut}

module _ {F B : Type 0} (g : Mut F (ℕ × Unit {0}) B) (f : F) (ys : List B) (v : ℕ → B)
    (calls : (i : ℕ) (y : B) (q : F) → Called g f (i, tt) y q → (q ≡ f) × (y ≡ v i)) where
  from : (h : F) (i n : ℕ) → h ≡ f → IsFromFnResultFrom g h ys i n → (k : ℕ) (d : B) → i ≤ k → k < i + n → get_or ys k d ≡ v k
  from h i zero e r k d a b = absurd (omega arith)
  from h i (suc n) e r k d a b =
      let w = calls i r.1 r.0 (subst (λ j. Called g j (i, tt) r.1 r.0) e r.3) in
      ⊎_elim
      (λ (c : i < k). from r.0 (i + 1) n w.0 r.4 k d (omega arith) (omega arith))
      (λ (c : k ≤ i).
      let s : i ≡ k = omega arith in
      subst (λ j. get_or ys j d ≡ v j) s (r.2.1 d ∙ w.1))
      (cases_lt i k)

  -- xs, whose element k is v k
  pub made : (n : ℕ) (xs : List B) (d : B) → length xs ≡ n → ((k : ℕ) → k < n → get_or xs k d ≡ v k) → IsFromFnResult g f ys n → ys ≡ xs
  made n xs d l e r = ext_get_or d ys xs (omega (arith, r.long)) (λ k h. from f 0 n refl r.each k d (omega arith) (omega (arith, r.long)) ∙ sym (e k (omega (arith, r.long))))
