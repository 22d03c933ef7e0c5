-- A fold from the last coefficient on is the value.
use Rattle.std.proofs.Common.{◌≡◌, List, [], ◌∷◌, reverse, refl, ap, ◌∙◌}
use Rattle.std.specs.List.{fold}
use Rattle.std.proofs.lemmas.Grind.{reverse_onto, fold-append}
use Rattle.field.specs.Algebra.{Ops}
use Rattle.poly.specs.Poly.{eval}

module _ {K : Type 0} (o : Ops K) (t : K) where
  abbrev pub onto : K → K → K
  onto total c = o.plus c (o.times t total)

  pub fold_back : (cs : List K) → fold onto o.zero (reverse cs) ≡ eval o cs t
  fold_back [] = refl
  fold_back (c ∷ cs) = ap (fold onto o.zero) (reverse_onto cs c []) ∙ fold-append onto o.zero (reverse cs) (c ∷ []) ∙ ap (λ w. o.plus c (o.times t w)) (fold_back cs)
