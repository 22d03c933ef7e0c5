-- What the search says of the points is what the readings have for an answer.
use Rattle.std.proofs.Common.{◌≡◌, ℕ, suc, ◌+◌, ◌-◌, ◌*◌, ◌<◌, ◌≤◌, true, not, eqb, List, [], ◌∷◌, map, reverse, length, get_or, take, Ok, Err, Result, sym, refl, ap, ◌∙◌, ap₂, arith}
use Rattle.std.proofs.lemmas.List.{length-reverse, reverse-reverse, get_or-reverse, get_or-take}
use Rattle.field.specs.Algebra.{Algebra, Lawful, Codes, ops}
use Rattle.poly.specs.Poly.{eval}
use Rattle.cells.specs.declared.entries.Entry.{Entry}
use Rattle.cells.specs.declared.entries.Entry.TheVariants.{Symbol, Missing}
use Rattle.decode.specs.Near.{Near, Found, Admissible, misses}
use Rattle.decode.proofs.Complete.{eval_cut}
use Rattle.decode.proofs.Sole.{one_near}
use Rattle.decode.specs.Width.{points_most}
use Rattle.readings.specs.declared.kinds.Reading.{Reading}
use Rattle.readings.specs.declared.kinds.AnsweredLine.{AnsweredLine}
use Rattle.readings.specs.declared.kinds.AnswerFault.{AnswerFault}
use Rattle.readings.specs.declared.kinds.AnswerFault.TheVariants.{TooFewSymbols, NoPolynomial}
use Rattle.readings.specs.Counts.{count, bits}
use Rattle.readings.specs.Readings.{wrongs, missings, symbols_read, Explains, answered, Answers, OneExplains, NearAnswered, marked}
use Rattle.readings.specs.Points.{point_of, points_of, misses_entry, misses_reading}
use Rattle.readings.proofs.Reversal.{codes_reverse, eval_at_zero}
use Rattle.readings.proofs.Agreed.{Mark, take_marked, wrongs_agreed, misses_counted, points_counted, points_good, point_in}

-- what a function promises of the readings' answer
pub record Concluded (F : Algebra) (d : ℕ) (rs : List Reading) (r : Result AnsweredLine AnswerFault) : Type 0 where
  pub answer : Answers F d rs r
  pub one : OneExplains F d rs
  pub near : NearAnswered F d rs r

module _ {F : Algebra} (L : Lawful F) (d : ℕ) (rs : List Reading) (told : marked F.size rs ≡ true) where
  read_points : symbols_read rs ≡ length (points_of F d rs)
  read_points = omega (arith, points_counted L d rs)

  explains_near : (h : List ℕ) → Explains F d rs h → Near F d (points_of F d rs) (reverse h)
  explains_near h e = record {
    long = length-reverse h ∙ e.long;
    small = codes_reverse L h e.codes;
    few = rw (misses_counted L d (reverse h) rs, wrongs_agreed L d h e.long e.codes rs told, ← read_points) e.few;
  }

  near_explains : (g : List ℕ) → Near F d (points_of F d rs) g → Explains F d rs (reverse g)
  near_explains g n =
      let l : length (reverse g) ≡ suc d = length-reverse g ∙ n.long in
      let c = codes_reverse L g n.small in
      let w : count (wrongs F d (reverse g) rs) ≡ misses (ops F) g (points_of F d rs) =
      ap count (sym (wrongs_agreed L d (reverse g) l c rs told)) ∙ ap (λ k. count (map (misses_reading F d k) rs)) (reverse-reverse g) ∙ sym (misses_counted L d g rs) in
      record { long = l; codes = c; few = rw (w, read_points) n.few }

  pub one_explains : OneExplains F d rs
  one_explains h k e x y =
      sym (reverse-reverse h)
      ∙ ap reverse (one_near L d (points_of F d rs) (reverse h) (reverse k) (points_good L d rs told) (omega (arith, read_points)) (explains_near h x) (explains_near k y))
      ∙ reverse-reverse k

  -- few wrong and missing readings leave enough that are right
  fair_explains : (h : List ℕ) → length h ≡ suc d → Codes F h → 2 * count (wrongs F d h rs) + count (missings rs) + (d + 1) ≤ length rs
      → (d < symbols_read rs) × Explains F d rs h
  fair_explains h l c f = (omega arith, record { long = l; codes = c; few = omega arith })

  pub near_answered : (r : Result AnsweredLine AnswerFault) → Answers F d rs r → NearAnswered F d rs r
  near_answered (Ok a) k h l c f = ap Ok (k.1.2 ∙ ap (answered F d rs) (one_explains k.1.0 h k.0 k.1.1 (fair_explains h l c f).1))
  near_answered (Err TooFewSymbols) k h l c f = absurd (omega (arith, k, (fair_explains h l c f).0))
  near_answered (Err NoPolynomial) k h l c f = absurd (k.1 h (fair_explains h l c f).1)

  -- readings have one answer
  pub one_answer : (r s : Result AnsweredLine AnswerFault) → Answers F d rs r → Answers F d rs s → r ≡ s
  one_answer (Ok a) (Ok b) k m = ap Ok (k.1.2 ∙ ap (answered F d rs) (one_explains k.1.0 m.1.0 k.0 k.1.1 m.1.1) ∙ sym m.1.2)
  one_answer (Ok a) (Err TooFewSymbols) k m = absurd (omega (arith, k.0, m))
  one_answer (Ok a) (Err NoPolynomial) k m = absurd (m.1 k.1.0 k.1.1)
  one_answer (Err TooFewSymbols) (Ok b) k m = absurd (omega (arith, k, m.0))
  one_answer (Err TooFewSymbols) (Err TooFewSymbols) k m = refl
  one_answer (Err TooFewSymbols) (Err NoPolynomial) k m = absurd (omega (arith, k, m.0))
  one_answer (Err NoPolynomial) (Ok b) k m = absurd (k.1 m.1.0 m.1.1)
  one_answer (Err NoPolynomial) (Err TooFewSymbols) k m = absurd (omega (arith, k.0, m))
  one_answer (Err NoPolynomial) (Err NoPolynomial) k m = refl

  concluded : (r : Result AnsweredLine AnswerFault) → Answers F d rs r → Concluded F d rs r
  concluded r k = record { answer = k; one = one_explains; near = near_answered r k }

  pub too_few : symbols_read rs ≤ d → Concluded F d rs (Err TooFewSymbols)
  too_few f = concluded (Err TooFewSymbols) f

  pub none_explains : d < symbols_read rs → ((g : List ℕ) → Near F d (points_of F d rs) g → ⊥) → Concluded F d rs (Err NoPolynomial)
  none_explains e n = concluded (Err NoPolynomial) (e, λ h x. n (reverse h) (explains_near h x))

  module _ (g : List ℕ) (found : Found F d (points_of F d rs) g) where
    first : List ℕ
    first = take (suc d) g

    entry_cut : (r : Reading) (e : Entry) → Mark F.size r.mark → misses_entry F d g r e ≡ misses_entry F d first r e
    unfolding first
    entry_cut r (Symbol y) m =
        ap (λ w. not (eqb w (point_of F d r y).1)) (sym (eval_cut L (suc d) g (point_of F d r y).0 (point_in L d r y m).0 (λ k h. found.past k (omega arith))))
    entry_cut r Missing m = refl

    readings_cut : (qs : List Reading) → marked F.size qs ≡ true → map (misses_reading F d g) qs ≡ map (misses_reading F d first) qs
    readings_cut [] e = refl
    readings_cut (r ∷ qs) e =
        let m = take_marked F.size r qs e in
        ap₂ (λ a b. a ∷ b) (entry_cut r r.entry m.mark) (readings_cut qs m.rest)

    explains : Explains F d rs (reverse first)
    unfolding first
    explains = near_explains first found.near

    symbol_is : get_or g d 0 ≡ eval (ops F) (reverse first) 0
    unfolding first
    symbol_is =
        let n : length first ≡ suc d = found.near.long in
        let k : length first - 1 - 0 ≡ d = omega arith in
        sym (eval_at_zero L (reverse first) explains.codes ∙ get_or-reverse first 0 0 (omega arith) ∙ ap (λ j. get_or first j 0) k ∙ get_or-take (suc d) g d 0 (omega arith))

    wrong_is : map (misses_reading F d g) rs ≡ wrongs F d (reverse first) rs
    wrong_is =
        readings_cut rs told ∙ ap (λ k. map (misses_reading F d k) rs) (sym (reverse-reverse first))
        ∙ wrongs_agreed L d (reverse first) explains.long explains.codes rs told

    pub found_explains : d < symbols_read rs → (symbol wrong missing : ℕ) → symbol ≡ get_or g d 0 → wrong ≡ bits (map (misses_reading F d g) rs) → missing ≡ bits (missings rs)
        → Concluded F d rs (Ok (record { symbol = symbol; wrong = wrong; missing = missing }))
    found_explains e symbol wrong missing es ew em =
        let S : ℕ → ℕ → ℕ → AnsweredLine = λ a b c. record { symbol = a; wrong = b; missing = c } in
        let a : S symbol wrong missing ≡ answered F d rs (reverse first) =
        ap₂ (λ x y. S x y missing) (es ∙ symbol_is) (ew ∙ ap bits wrong_is) ∙ ap (S (eval (ops F) (reverse first) 0) (bits (wrongs F d (reverse first) rs))) em in
        concluded (Ok (S symbol wrong missing)) (e, (reverse first, explains, a))

  pub admissible : length rs ≤ points_most → d < symbols_read rs → Admissible F d (points_of F d rs)
  admissible few e = record { points = points_good L d rs told; enough = omega (arith, read_points); few = omega (arith, points_counted L d rs) }
