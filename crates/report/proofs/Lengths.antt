-- How long reports are.
use Rattle.std.proofs.Common.{◌≡◌, ℕ, ◌+◌, ◌*◌, ◌^◌, ◌<◌, ◌≤◌, true, false, cond, eqb, List, [], ◌∷◌, map, length, get_or, Some, None, Option, refl, arith}
use Rattle.std.specs.List.{AllByRecursion, join_with_byte}
use Rattle.std.proofs.ByRecursion.{All-from_get_or, All-map, All-weaker}
use Rattle.std.proofs.lemmas.List.{length-append, length-map}
use Rattle.report.specs.Room.{room}
use Rattle.report.specs.Reports.{Mark, bit, chosen, mark_of, comma, numeral, symbol_text, mark_text, marks_text, report_text, header_text, ShortSymbol, ShortMark, Short, ShortFits}
use Rattle.report.specs.Reports.Mark.{At, Infinity}
use Rattle.report.specs.Reports.Report.{Accepted, Refused}
use Rattle.report.specs.Meant.{meant_marks}
use Rattle.report.proofs.Chosen.{all_chosen, few_chosen, chosen_apart}
use Rattle.report.proofs.Numerals.{length_numeral_le}

-- of at most three bytes
abbrev Brief : Mark → Type 0
Brief m = length (mark_text m) ≤ 3

rejoined_length : (ms : List Mark) → AllByRecursion Brief ms → length (join_with_byte comma (map mark_text ms)) ≤ 4 * length ms
rejoined_length [] h = omega arith
rejoined_length (m ∷ []) h = omega (arith, h.0)
rejoined_length (m ∷ n ∷ ms) h =
    let rest = rejoined_length (n ∷ ms) h.1 in
    simp length-append (omega (arith, h.0))

marks_length : (ms : List Mark) → AllByRecursion Brief ms → length (marks_text ms) ≤ 4 * length ms + 1
marks_length [] h = omega arith
marks_length (m ∷ ms) h = let rest = rejoined_length (m ∷ ms) h in omega arith

accepted_length : (line : ℕ) (symbol : Option ℕ) (wrong missing : List Mark) (a n : ℕ)
    → length (numeral line) ≤ a → length (symbol_text symbol) ≤ 3 → AllByRecursion Brief wrong → AllByRecursion Brief missing → length wrong + length missing ≤ n
    → length (report_text (Accepted line symbol wrong missing)) ≤ a + 4 * n + 12
accepted_length line symbol wrong missing a n l s w m few =
    let x = marks_length wrong w in
    let y = marks_length missing m in
    simp length-append (omega arith)

refused_length : (line number : ℕ) (a b : ℕ) → length (numeral line) ≤ a → length (numeral number) ≤ b → length (report_text (Refused line number)) ≤ a + b + 8
refused_length line number a b l n = simp length-append (omega arith)

symbol_brief : (symbol : Option ℕ) → ShortSymbol symbol → length (symbol_text symbol) ≤ 3
symbol_brief None h = omega arith
symbol_brief (Some s) h = length_numeral_le 3 s (omega arith) (omega arith)

mark_brief : (m : Mark) → ShortMark m → Brief m
mark_brief (At t) h = length_numeral_le 3 t (omega arith) (omega arith)
mark_brief Infinity h = omega arith

pub short_fits : ShortFits
short_fits (Accepted line symbol wrong missing) h =
    let l = accepted_length line symbol wrong missing 5 16 (length_numeral_le 5 line (omega arith) (omega (arith, h.0))) (symbol_brief symbol h.1)
    (All-weaker ShortMark Brief mark_brief wrong h.2) (All-weaker ShortMark Brief mark_brief missing h.3) h.4 in
    omega arith
short_fits (Refused line number) h =
    let l = refused_length line number 5 3 (length_numeral_le 5 line (omega arith) (omega (arith, h.0))) (length_numeral_le 3 number (omega arith) (omega (arith, h.1))) in
    omega arith

mark_short : (q t : ℕ) → t < 100 → ShortMark (mark_of q t)
mark_short q t h = elim (eqb t q) as (λ b. ShortMark (cond b Infinity (At t))) [ true ↦ tt | false ↦ h ]

-- at most 16 marks below 100, of which each is wrong or missing or neither
pub short_accepted : (line : ℕ) (symbol : Option ℕ) (marks : List ℕ) (q wrong missing : ℕ)
    → line ≤ 65536 → ShortSymbol symbol → AllByRecursion (λ t. t < 100) marks → length marks ≤ 16 → ((i : ℕ) → bit wrong i ≡ true → bit missing i ≡ true → ⊥)
    → Short (Accepted line symbol (meant_marks marks q wrong) (meant_marks marks q missing))
short_accepted line symbol marks q wrong missing l s small few apart =
    let short = λ (n : ℕ). All-map ShortMark (mark_of q) (chosen marks n) (All-weaker (λ t. t < 100) (λ t. ShortMark (mark_of q t)) (mark_short q) (chosen marks n) (all_chosen (λ t. t < 100) 0 marks n small)) in
    let both = chosen_apart wrong missing apart 0 marks in
    let lw = length-map (chosen marks wrong) (mark_of q) in
    let lm = length-map (chosen marks missing) (mark_of q) in
    (l, s, short wrong, short missing, omega arith)

pub header_length : length header_text ≡ 33
header_length = refl

mark_byte_brief : (q t : ℕ) → t < 256 → Brief (mark_of q t)
mark_byte_brief q t h =
    let l = length_numeral_le 3 t (omega arith) (omega arith) in
    elim (eqb t q) as (λ b. Brief (cond b Infinity (At t))) [ true ↦ omega arith | false ↦ l ]

chosen_brief : (marks : List ℕ) (q n : ℕ) → ((i : ℕ) → get_or marks i 0 < 256) → AllByRecursion Brief (meant_marks marks q n)
chosen_brief marks q n bytes =
    All-map Brief (mark_of q) (chosen marks n)
    (All-weaker (λ t. t < 256) (λ t. Brief (mark_of q t)) (mark_byte_brief q) (chosen marks n)
    (all_chosen (λ t. t < 256) 0 marks n (All-from_get_or (λ t. t < 256) marks 0 (λ i h. bytes i))))

-- a report of bytes has room
pub accepted_room : (line : ℕ) (symbol : Option ℕ) (marks : List ℕ) (q wrong missing : ℕ)
    → line < 2 ^ 32 → ShortSymbol symbol → ((i : ℕ) → get_or marks i 0 < 256) → wrong < 2 ^ 32 → missing < 2 ^ 32
    → length (report_text (Accepted line symbol (meant_marks marks q wrong) (meant_marks marks q missing))) ≤ room
accepted_room line symbol marks q wrong missing l s bytes w m =
    let few-wrong = few_chosen 32 0 marks wrong w in
    let few-missing = few_chosen 32 0 marks missing m in
    let lw = length-map (chosen marks wrong) (mark_of q) in
    let lm = length-map (chosen marks missing) (mark_of q) in
    let h = accepted_length line symbol (meant_marks marks q wrong) (meant_marks marks q missing) 10 64 (length_numeral_le 10 line (omega arith) (omega arith)) (symbol_brief symbol s)
    (chosen_brief marks q wrong bytes) (chosen_brief marks q missing bytes) (omega arith) in
    omega arith

pub refused_room : (line number : ℕ) → line < 2 ^ 32 → number < 256 → length (report_text (Refused line number)) ≤ room
refused_room line number l n =
    let h = refused_length line number 10 3 (length_numeral_le 10 line (omega arith) (omega arith)) (length_numeral_le 3 number (omega arith) (omega arith)) in
    omega arith
