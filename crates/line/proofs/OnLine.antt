-- The points of a line.
use Rattle.std.proofs.Common.{◌≡◌, ℕ, zero, suc, ◌-◌, ◌<◌, cond, eqb, ◌≢◌, List, [], ◌∷◌, length, drop, replicate, Ok, Err, Result, sym, refl, ap, ◌∙◌, subst, ap₂, ⊎_elim, arith}
use Rattle.std.proofs.lemmas.Bool.{cases_eq, eq-eqb, ne_eqb, cond-true, cond-false}
use Rattle.field.specs.Algebra.{Algebra, Lawful, ops}
use Rattle.field.specs.Vectors.{scale, add, along}
use Rattle.field.proofs.Elements.{zero_in}
use Rattle.field.proofs.Inverses.{times_zero}
use Rattle.field.proofs.Vectors.{length_scale, along_codes}
use Rattle.poly.proofs.Evals.{length_add}
use Rattle.space.specs.declared.faults.PointFault.{PointFault}
use Rattle.space.specs.declared.faults.PointFault.TheVariants.{AllZero}
use Rattle.space.specs.declared.points.Location.{Location}
use Rattle.space.specs.Places.{Point, Normal, divisor, normal, place_of}
use Rattle.space.specs.Points.{checked, location}
use Rattle.space.proofs.Coordinates.{none_of_point}
use Rattle.line.specs.Asking.{point_on}

module _ {F : Algebra} (L : Lawful F) where
  drop_add : (n : ℕ) (w v : List ℕ) → length w ≡ length v → drop n (add (ops F) w v) ≡ add (ops F) (drop n w) (drop n v)
  drop_add zero w v l = refl
  drop_add (suc n) [] [] l = refl
  drop_add (suc n) [] (y ∷ v) l = absurd (omega arith)
  drop_add (suc n) (x ∷ w) [] l = absurd (omega arith)
  drop_add (suc n) (x ∷ w) (y ∷ v) l = drop_add n w v (omega arith)

  drop_scale : (t n : ℕ) (v : List ℕ) → drop n (scale (ops F) t v) ≡ scale (ops F) t (drop n v)
  drop_scale t zero v = refl
  drop_scale t (suc n) [] = refl
  drop_scale t (suc n) (y ∷ v) = drop_scale t n v

  zeros_along : (t n : ℕ) → along (ops F) (replicate n 0) (replicate n 0) t ≡ replicate n 0
  zeros_along t zero = refl
  zeros_along t (suc n) =
      ap₂ (λ x r. x ∷ r) (ap (F.plus 0) (times_zero L t) ∙ L.plus_zero 0 (zero_in L)) (zeros_along t n)

  pub along_point : (m t : ℕ) (w v : List ℕ) → Point F.size m w → Point F.size m v → Point F.size m (along (ops F) w v t)
  along_point m t w v a b =
      let l : length w ≡ length (scale (ops F) t v) = a.four ∙ sym (length_scale F t v ∙ b.four) in
      record {
        four = length_add (ops F) w (scale (ops F) t v) l ∙ a.four;
        codes = along_codes L w v t a.codes;
        past = drop_add (suc m) w (scale (ops F) t v) l ∙ ap₂ (add (ops F)) a.past (drop_scale t (suc m) v ∙ ap (scale (ops F) t) b.past) ∙ zeros_along t (3 - m);
      }

  pub infinite : (w v : List ℕ) (t : ℕ) → t ≡ F.size → point_on F w v t ≡ v
  infinite w v t e = cond-true (eqb t F.size) _ _ (eq-eqb t F.size e)

  pub finite : (w v : List ℕ) (t : ℕ) → t ≢ F.size → point_on F w v t ≡ along (ops F) w v t
  finite w v t n = cond-false (eqb t F.size) _ _ (ne_eqb t F.size n)

  pub on_point : (m t : ℕ) (w v : List ℕ) → Point F.size m w → Point F.size m v → Point F.size m (point_on F w v t)
  on_point m t w v a b =
      ⊎_elim
      (λ (e : t ≡ F.size). subst (Point F.size m) (sym (infinite w v t e)) b)
      (λ (n : t ≢ F.size). subst (Point F.size m) (sym (finite w v t n)) (along_point m t w v a b))
      (cases_eq t F.size)

  -- a point of the shape that is not 0 has a place
  pub located : (q m : ℕ) (p : List ℕ) → q ≡ F.size → Point F.size m p → 0 < divisor p
      → location F q m p ≡ Ok (record { place = place_of q m (normal F p); divisor = divisor p })
  located q m p s point pos =
      let r : Result Location PointFault = cond (eqb (divisor p) 0) (Err AllZero) (Ok (record { place = place_of q m (normal F p); divisor = divisor p })) in
      cond-true (eqb q F.size) _ _ (eq-eqb q F.size s)
      ∙ ap (checked r) (none_of_point q m p (subst (λ n. Point n m p) (sym s) point))
      ∙ cond-false (eqb (divisor p) 0) _ _ (ne_eqb (divisor p) 0 (λ e. omega arith))

  -- so has the point of a mark on a line of normal points
  pub mark_located : (q m t : ℕ) (w v : List ℕ) → q ≡ F.size → Normal q m w → Normal q m v → 0 < divisor (point_on F w v t)
      → location F q m (point_on F w v t) ≡ Ok (record { place = place_of q m (normal F (point_on F w v t)); divisor = divisor (point_on F w v t) })
  mark_located q m t w v s a b pos =
      let codes : (p : List ℕ) → Point q m p → Point F.size m p = λ p x. subst (λ n. Point n m p) s x in
      located q m (point_on F w v t) s (on_point m t w v (codes w a.point) (codes v b.point)) pos
