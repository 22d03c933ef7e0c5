-- The worked examples, by computation; that an answer is the only one, by what is known of lines.
use Rattle.std.proofs.Common.{◌≡◌, ℕ, ◌-◌, ◌/◌, Bool, true, false, not, T, leb, ltb, List, map, [], ◌∷◌, None, Ok, Err, Option, Result, sym, refl, ap, ◌∙◌, subst, arith, lit<, lit≤}
use Rattle.std.proofs.lemmas.Bool.{le-leb}
use Rattle.field.specs.Algebra.{Lawful}
use Rattle.field.proofs.Every.{every, at_triple}
use Rattle.residue.specs.Remainders.{residues_lawful}
use Rattle.readings.specs.declared.kinds.Reading.{Reading}
use Rattle.readings.specs.declared.kinds.AnsweredLine.{AnsweredLine}
use Rattle.readings.specs.declared.kinds.AnswerFault.{AnswerFault}
use Rattle.readings.specs.declared.kinds.AnswerFault.TheVariants.{TooFewSymbols, NoPolynomial}
use Rattle.readings.specs.Counts.{count}
use Rattle.readings.specs.Readings.{Answers, Explains, answered, symbols_read, wrongs}
use Rattle.line.specs.Lines.{line_readings}
use Rattle.plate.specs.declared.faults.PlateFault.{PlateFault}
use Rattle.plate.specs.Requests.{Cells, refusal, Sound, line_answer, LineAnswers, Does, Unless}
use Rattle.plate.specs.declared.calls.Reply.TheVariants.{Corrected}
use Rattle.plate.specs.Requests.Request.{Correct}
use Rattle.runs.proofs.Moments.{unless_none}
use Rattle.runs.proofs.OnLines.{one_reply}
use Rattle.examples.specs.Examples.{five, setting, marks, Gives, undivided, burned, wiped_two, wiped_three, spoilt_and_wiped, spoilt_two, Examples}

lawful : Lawful five
lawful = residues_lawful 5 (lit< tt) tt

-- an answer of the line that meets the definition is the only one
gives : (x : Cells) (w v : ℕ) → Sound setting (Correct w v marks) → (r : Result AnsweredLine AnswerFault) → LineAnswers setting x w v marks r
    → Gives x (Correct w v marks) (line_answer r)
gives x w v sound r a = record {
  so = unless_none_back sound (r, a, refl, refl);
  only = λ b y h.
      let d = unless_none (refusal setting (Correct w v marks)) x b y (Does setting x (Correct w v marks) b y) sound h in
      (d.2 ∙ ap line_answer (sym (one_reply setting lawful (lit≤ tt) w v marks sound x x refl r d.0 a d.1)), d.3);
}
  where
    unless_none_back : {o : Option PlateFault} {D : Type 0} → o ≡ None → D → Unless o x (line_answer r) x D
    unless_none_back {o} {D} e t = subst (λ (p : Option PlateFault). Unless p x (line_answer r) x D) (sym e) t

-- whether few enough readings disagree with the polynomial
abbrev few : List Reading → ℕ → ℕ → ℕ → Bool
few rs a b c = leb (count (wrongs five 2 (a ∷ b ∷ c ∷ []) rs)) ((symbols_read rs - 2 - 1) / 2)

-- three codes, few enough readings that disagree with them, and enough symbols
abbrev Near : List Reading → ℕ → ℕ → ℕ → Type 0
Near rs a b c = T (ltb a 5) × T (ltb b 5) × T (ltb c 5) × T (ltb 2 (symbols_read rs)) × T (few rs a b c)

-- readings near to a polynomial have its answer
explained : (rs : List Reading) (a b c : ℕ) → Near rs a b c → Answers five 2 rs (Ok (answered five 2 rs (a ∷ b ∷ c ∷ [])))
explained rs a b c t = (lit< t.3, (a ∷ b ∷ c ∷ [], record { long = refl; codes = (lit< t.0, (lit< t.1, (lit< t.2, tt))); few = lit≤ t.4 }, refl))

-- so has a line of such readings
concluded : (x : Cells) (w v : ℕ) → Sound setting (Correct w v marks) → (a b c : ℕ) → Near (line_readings five 2 x w v marks) a b c
    → Gives x (Correct w v marks) (Ok (Corrected (answered five 2 (line_readings five 2 x w v marks) (a ∷ b ∷ c ∷ []))))
concluded x w v sound a b c t = gives x w v sound (Ok (answered five 2 (line_readings five 2 x w v marks) (a ∷ b ∷ c ∷ []))) (explained (line_readings five 2 x w v marks) a b c t)

none_explains : (rs : List Reading) → T (every (λ a. every (λ b. every (λ c. not (few rs a b c)) 5) 5) 5)
    → (h : List ℕ) → Explains five 2 rs h → ⊥
none_explains rs test [] e = absurd (omega (arith, e.long))
none_explains rs test (a ∷ []) e = absurd (omega (arith, e.long))
none_explains rs test (a ∷ (b ∷ [])) e = absurd (omega (arith, e.long))
none_explains rs test (a ∷ (b ∷ (c ∷ (d ∷ ds)))) e = absurd (omega (arith, e.long))
none_explains rs test (a ∷ (b ∷ (c ∷ []))) e =
    refuted (few rs a b c) (at_triple (λ x y z. not (few rs x y z)) 5 test a b c e.codes.0 e.codes.1.0 e.codes.1.1.0) (le-leb _ _ e.few)
  where
    refuted : (t : Bool) → T (not t) → t ≡ true → ⊥
    refuted true n y = n
    refuted false n y = absurd (let z : ◌≡◌ {A = ℕ} 0 1 = cc in omega arith)

abbrev form : List ℕ
form = 1 ∷ 2 ∷ 0 ∷ 0 ∷ 3 ∷ 1 ∷ []

pub examples : Examples form
examples = record {
  place_12 = refl;
  place_28 = refl;
  place_30 = refl;
  place_15 = refl;
  places_7 = refl;
  symbols_7 = refl;
  answer_7 = concluded (burned form) 7 28 refl 3 4 3 (tt, tt, tt, tt, tt);
  places_27 = refl;
  divisors_27 = refl;
  symbols_27 = refl;
  answer_27 = concluded (burned form) 27 4 refl 0 0 2 (tt, tt, tt, tt, tt);
  undivided_27 = explained (map undivided (line_readings five 2 (burned form) 27 4 marks)) 2 0 0 (tt, tt, tt, tt, tt);
  answer_wiped_two = concluded (wiped_two form) 7 28 refl 3 4 3 (tt, tt, tt, tt, tt);
  answer_wiped_three = gives (wiped_three form) 7 28 refl (Err TooFewSymbols) (lit≤ tt);
  answer_spoilt_and_wiped =
      gives (spoilt_and_wiped form) 7 28 refl (Err NoPolynomial) (lit< tt, none_explains (line_readings five 2 (spoilt_and_wiped form) 7 28 marks) tt);
  unfair = λ f. absurd (omega (arith, f));
  answer_spoilt_two = concluded (spoilt_two form) 7 28 refl 0 2 4 (tt, tt, tt, tt, tt);
  product_4 = refl;
  product_16 = refl;
  inverse_7 = refl;
}
