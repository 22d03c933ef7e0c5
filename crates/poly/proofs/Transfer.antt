-- From elements to codes.
use Rattle.std.proofs.Common.{◌≡◌, ℕ, ◌<◌, ◌≢◌, List, [], ◌∷◌, sym, refl, ap, ◌∙◌, arith}
use Rattle.std.specs.List.{AllByRecursion}
use Rattle.field.specs.Algebra.{Algebra, Lawful, Codes, ops}
use Rattle.field.proofs.Elements.{Elem, same_code, elems, field_of, lift, lower, lower_lift, length_lift, codes_lower, length_lower, all_lift, all_lower}
use Rattle.poly.specs.Poly.{eval, last, Distinct, Degree, FewRoots, Unique}
use Rattle.poly.proofs.Products.{Represented}
use Rattle.poly.proofs.Roots.{all_zeros_under, unique}

pub distinct_lift : (q : ℕ) (rs : List ℕ) (h : AllByRecursion (λ c. c < q) rs) → Distinct rs → Distinct (lift q rs h)
distinct_lift q [] h n = tt
distinct_lift q (r ∷ rs) h n =
    (all_lift (λ s. s ≢ r) (λ s. s ≢ (r, h.0)) (λ x n e. n (ap (λ y. y.0) e)) rs h.1 n.0, distinct_lift q rs h.1 n.1)

last_lower : {q : ℕ} (p : Elem q) (xs : List (Elem q)) → last p.0 (lower xs) ≡ (last p xs).0
last_lower p [] = refl
last_lower p (x ∷ xs) = last_lower x xs

module _ {F : Algebra} (L : Lawful F) where
  pub eval_lower : (xs : List (Elem F.size)) (t : Elem F.size) → (eval (elems L) xs t).0 ≡ eval (ops F) (lower xs) t.0
  eval_lower [] t = refl
  eval_lower (x ∷ xs) t = ap (λ w. F.plus x.0 (F.times t.0 w)) (eval_lower xs t)

  pub eval_lift : (cs : List ℕ) (h : Codes F cs) (t : Elem F.size) → (eval (elems L) (lift F.size cs h) t).0 ≡ eval (ops F) cs t.0
  eval_lift cs h t = eval_lower (lift F.size cs h) t ∙ ap (λ w. eval (ops F) w t.0) (lower_lift F.size cs h)

  pub few_roots : FewRoots F
  few_roots rs cs in-rs in-cs l n h =
      let q = F.size in
      all_lower (λ c. c ≡ 0) (λ c. c ≡ (elems L).zero) (λ x e. ap (λ y. y.0) e) cs in-cs
      (all_zeros_under (field_of L) (lift q rs in-rs) (lift q cs in-cs) (omega (arith, length_lift q cs in-cs, length_lift q rs in-rs)) (distinct_lift q rs in-rs n)
      (all_lift (λ r. eval (ops F) cs r ≡ 0) (λ r. eval (elems L) (lift q cs in-cs) r ≡ (elems L).zero)
      (λ x e. same_code (eval_lift cs in-cs x ∙ e)) rs in-rs h))

  pub unique_codes : Unique F
  unique_codes rs cs ds in-rs in-cs in-ds l m n h =
      let q = F.size in
      sym (lower_lift q cs in-cs)
      ∙ ap lower (unique (field_of L) (lift q rs in-rs) (lift q cs in-cs) (lift q ds in-ds)
      (length_lift q cs in-cs ∙ l ∙ sym (length_lift q rs in-rs)) (length_lift q ds in-ds ∙ m ∙ sym (length_lift q rs in-rs)) (distinct_lift q rs in-rs n)
      (all_lift (λ r. eval (ops F) cs r ≡ eval (ops F) ds r) (λ r. eval (elems L) (lift q cs in-cs) r ≡ eval (elems L) (lift q ds in-ds) r)
      (λ x e. same_code (eval_lift cs in-cs x ∙ e ∙ sym (eval_lift ds in-ds x))) rs in-rs h))
      ∙ lower_lift q ds in-ds

  -- what is a polynomial at elements is one at codes
  pub lowered : {k : ℕ} {f : Elem F.size → Elem F.size} {x : Elem F.size} → Represented (elems L) k f x
      → (g : ℕ → ℕ) (y : ℕ) → ((t : Elem F.size) → (f t).0 ≡ g t.0) → x.0 ≡ y → Degree F k g y
  lowered r g y eg ey = record {
    coefficients = lower r.coefficients;
    codes = codes_lower r.coefficients;
    long = length_lower r.coefficients ∙ r.long;
    top = last_lower (elems L).zero r.coefficients ∙ ap (λ y. y.0) r.top ∙ ey;
    at = λ t h. sym (eg (t, h)) ∙ ap (λ y. y.0) (r.at (t, h)) ∙ eval_lower r.coefficients (t, h);
  }
