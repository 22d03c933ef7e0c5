-- A report is read back from its text.
use Rattle.std.proofs.Common.{◌≡◌, ℕ, ◌<◌, ◌≤◌, Bool, true, false, cond, ◌&&◌, List, [], ◌∷◌, ◌++◌, map, get_or, Some, None, codes, Option, sym, refl, ap, ◌∙◌, ap₂, arith}
use Rattle.std.specs.List.{join_with_byte, AllByRecursion}
use Rattle.std.specs.Str.{bytes_eq}
use Rattle.std.proofs.ByRecursion.{All-append, All-weaker}
use Rattle.std.proofs.lemmas.Slice.Eq.{bytes_eq-Decides}
use Rattle.std.proofs.lemmas.Bool.{ne_eqb, eq-eqb}
use Rattle.report.specs.Reports.{Mark, Report, comma, space, numeral, symbol_text, mark_text, marks_text, fields, report_text}
use Rattle.report.specs.Reports.Mark.{At, Infinity}
use Rattle.report.specs.Reports.Report.{Accepted, Refused}
use Rattle.report.specs.Reading.{onto_first, cut, number_in, symbol_in, mark_in, marks_in, report_in, taken_apart, read_report, ReadsBack, ReadsOnlyReports, ToldApart}
use Rattle.report.proofs.Numerals.{numeral_figures, number_numeral}

-- every byte is above c
abbrev Above : ℕ → List ℕ → Type 0
Above c w = AllByRecursion (λ x. c < x) w

above_less : (c d : ℕ) → d ≤ c → (w : List ℕ) → Above c w → Above d w
above_less c d h w a = All-weaker (λ x. c < x) (λ x. d < x) (λ x l. omega arith) w a

-- Cuts

cut_all : (c : ℕ) (w : List ℕ) → Above c w → cut c w ≡ w ∷ []
cut_all c [] a = refl
cut_all c (x ∷ w) a =
    ap (λ b. cond b ([] ∷ cut c w) (onto_first x (cut c w))) (ne_eqb x c (λ e. omega (arith, a.0)))
    ∙ ap (onto_first x) (cut_all c w a.1)

cut_first : (c : ℕ) (w rest : List ℕ) → Above c w → cut c (w ++ (c ∷ rest)) ≡ w ∷ cut c rest
cut_first c [] rest a = ap (λ b. cond b ([] ∷ cut c rest) (onto_first c (cut c rest))) (eq-eqb c c refl)
cut_first c (x ∷ w) rest a =
    ap (λ b. cond b ([] ∷ cut c (w ++ (c ∷ rest))) (onto_first x (cut c (w ++ (c ∷ rest))))) (ne_eqb x c (λ e. omega (arith, a.0)))
    ∙ ap (onto_first x) (cut_first c w rest a.1)

cut_rejoined : (c : ℕ) (w : List ℕ) (ws : List (List ℕ)) → AllByRecursion (Above c) (w ∷ ws) → cut c (join_with_byte c (w ∷ ws)) ≡ w ∷ ws
cut_rejoined c w [] a = cut_all c w a.0
cut_rejoined c w (v ∷ ws) a = cut_first c w (join_with_byte c (v ∷ ws)) a.0 ∙ ap (λ l. w ∷ l) (cut_rejoined c v ws a.1)

all_rejoined : (P : ℕ → Type 0) (c : ℕ) (ws : List (List ℕ)) → P c → AllByRecursion (AllByRecursion P) ws → AllByRecursion P (join_with_byte c ws)
all_rejoined P c [] h a = tt
all_rejoined P c (w ∷ []) h a = a.0
all_rejoined P c (w ∷ v ∷ ws) h a = All-append P w (c ∷ join_with_byte c (v ∷ ws)) a.0 (h, all_rejoined P c (v ∷ ws) h a.1)

-- Fields

numeral_above : (n : ℕ) → Above 47 (numeral n)
numeral_above n = All-weaker (λ x. (47 < x) × (x < 58)) (λ x. 47 < x) (λ x h. h.0) (numeral n) (numeral_figures n)

mark_above : (m : Mark) → Above 47 (mark_text m)
mark_above (At t) = numeral_above t
mark_above Infinity = (omega arith, (omega arith, (omega arith, tt)))

all_marks_above : (ms : List Mark) → AllByRecursion (Above 47) (map mark_text ms)
all_marks_above [] = tt
all_marks_above (m ∷ ms) = (mark_above m, all_marks_above ms)

marks_above : (ms : List Mark) → Above 43 (marks_text ms)
marks_above [] = (omega arith, tt)
marks_above (m ∷ ms) =
    all_rejoined (λ x. 43 < x) comma (map mark_text (m ∷ ms)) (omega arith)
    (All-weaker (Above 47) (Above 43) (above_less 47 43 (omega arith)) (map mark_text (m ∷ ms)) (all_marks_above (m ∷ ms)))

symbol_above : (s : Option ℕ) → Above 44 (symbol_text s)
symbol_above None = (omega arith, tt)
symbol_above (Some n) = above_less 47 44 (omega arith) (numeral n) (numeral_above n)

dash_above : Above space (codes "-")
dash_above = (omega arith, tt)

fields_above : (r : Report) → AllByRecursion (Above space) (fields r)
fields_above (Accepted line symbol wrong missing) = (
  above_less 47 space (omega arith) (numeral line) (numeral_above line),
  (
    (omega arith, (omega arith, tt)),
    (
      above_less 44 space (omega arith) (symbol_text symbol) (symbol_above symbol),
      (above_less 43 space (omega arith) (marks_text wrong) (marks_above wrong), (above_less 43 space (omega arith) (marks_text missing) (marks_above missing), tt)),
    ),
  ),
)
fields_above (Refused line number) = (
  above_less 47 space (omega arith) (numeral line) (numeral_above line),
  (above_less 47 space (omega arith) (numeral number) (numeral_above number), (dash_above, (dash_above, (dash_above, tt)))),
)

-- Fields read

-- a text without the byte that the other begins with is not the other
other_text : (c : ℕ) (w cs : List ℕ) → AllByRecursion (λ x. x ≡ c → ⊥) w → bytes_eq w (c ∷ cs) ≡ false
other_text c [] cs h = refl
other_text c (x ∷ w) cs h = ap (λ b. b && bytes_eq w cs) (ne_eqb x c h.0)

no_dash : (w : List ℕ) → Above 47 w → AllByRecursion (λ x. x ≡ 45 → ⊥) w
no_dash w a = All-weaker (λ x. 47 < x) (λ x. x ≡ 45 → ⊥) (λ x h e. omega arith) w a

numeral_no_dash : (n : ℕ) → bytes_eq (numeral n) (codes "-") ≡ false
numeral_no_dash n = other_text 45 (numeral n) [] (no_dash (numeral n) (numeral_above n))

numeral_no_letter : (c n : ℕ) (cs : List ℕ) → 57 < c → bytes_eq (numeral n) (c ∷ cs) ≡ false
numeral_no_letter c n cs h = other_text c (numeral n) cs (All-weaker (λ x. (47 < x) × (x < 58)) (λ x. x ≡ c → ⊥) (λ x k e. omega (arith, k.1)) (numeral n) (numeral_figures n))

symbol_back : (s : Option ℕ) → symbol_in (symbol_text s) ≡ s
symbol_back None = refl
symbol_back (Some n) = ap (λ b. cond b None (Some (number_in (numeral n)))) (numeral_no_dash n) ∙ ap Some (number_numeral n)

mark_back : (m : Mark) → mark_in (mark_text m) ≡ m
mark_back (At t) = ap (λ b. cond b Infinity (At (number_in (numeral t)))) (numeral_no_letter 105 t (codes "nf") (omega arith)) ∙ ap At (number_numeral t)
mark_back Infinity = refl

all_back : (ms : List Mark) → map mark_in (map mark_text ms) ≡ ms
all_back [] = refl
all_back (m ∷ ms) = ap₂ ◌∷◌ (mark_back m) (all_back ms)

marks_no_dash : (ms : List Mark) → bytes_eq (join_with_byte comma (map mark_text ms)) (codes "-") ≡ false
marks_no_dash ms =
    let P : ℕ → Type 0 = λ x. x ≡ 45 → ⊥ in
    other_text 45 (join_with_byte comma (map mark_text ms)) [] (all_rejoined P comma (map mark_text ms) (λ e. omega arith) (All-weaker (Above 47) (AllByRecursion P) no_dash (map mark_text ms) (all_marks_above ms)))

marks_back : (ms : List Mark) → marks_in (marks_text ms) ≡ ms
marks_back [] = refl
marks_back (m ∷ ms) =
    let w = join_with_byte comma (map mark_text (m ∷ ms)) in
    ap (λ b. cond b [] (map mark_in (cut comma w))) (marks_no_dash (m ∷ ms))
    ∙ ap (map mark_in) (cut_rejoined comma (mark_text m) (map mark_text ms) (All-weaker (Above 47) (Above comma) (above_less 47 comma (omega arith)) (map mark_text (m ∷ ms)) (all_marks_above (m ∷ ms))))
    ∙ all_back (m ∷ ms)

fields_back : (r : Report) → report_in (fields r) ≡ r
fields_back (Accepted line symbol wrong missing) =
    ap (λ n. Accepted n (symbol_in (symbol_text symbol)) (marks_in (marks_text wrong)) (marks_in (marks_text missing))) (number_numeral line)
    ∙ ap (λ s. Accepted line s (marks_in (marks_text wrong)) (marks_in (marks_text missing))) (symbol_back symbol)
    ∙ ap₂ (Accepted line symbol) (marks_back wrong) (marks_back missing)
fields_back (Refused line number) =
    ap (λ b. cond b (Accepted (number_in (numeral line)) None [] []) (Refused (number_in (numeral line)) (number_in (numeral number)))) (numeral_no_letter 111 number (codes "k") (omega arith))
    ∙ ap₂ Refused (number_numeral line) (number_numeral number)

-- The whole text

fields_cut : (r : Report) → cut space (join_with_byte space (fields r)) ≡ fields r
fields_cut (Accepted line symbol wrong missing) = cut_rejoined space _ _ (fields_above (Accepted line symbol wrong missing))
fields_cut (Refused line number) = cut_rejoined space _ _ (fields_above (Refused line number))

line_above : (r : Report) → Above 10 (join_with_byte space (fields r))
line_above r = all_rejoined (λ x. 10 < x) space (fields r) (omega arith) (All-weaker (Above space) (Above 10) (above_less space 10 (omega arith)) (fields r) (fields_above r))

taken_back : (r : Report) → taken_apart (report_text r) ≡ r
taken_back r =
    ap (λ ls. report_in (cut space (get_or ls 0 []))) (cut_first 10 (join_with_byte space (fields r)) [] (line_above r))
    ∙ ap report_in (fields_cut r)
    ∙ fields_back r

pub reads_back : ReadsBack
reads_back r =
    let text = report_text r in
    let e = taken_back r in
    let same = (bytes_eq-Decides (report_text (taken_apart text)) text).1 (ap report_text e) in
    ap (λ b. cond b (Some (taken_apart text)) None) same ∙ ap Some e

some_when : (b : Bool) (r s : Report) → cond b (Some r) None ≡ Some s → (b ≡ true) × (r ≡ s)
some_when true r s e = (refl, cc)
some_when false r s e = absurd (let z : ◌≡◌ {A = ℕ} 0 1 = cc in omega arith)

pub reads_only_reports : ReadsOnlyReports
reads_only_reports text r e =
    let p = some_when (bytes_eq (report_text (taken_apart text)) text) (taken_apart text) r e in
    ap report_text (sym p.1) ∙ (bytes_eq-Decides (report_text (taken_apart text)) text).0 p.0

pub told_apart : ToldApart
told_apart r s e = let p = reads_back r in let q = reads_back s in let k = ap read_report e in cc
