-- A report read back from its text.
use Rattle.std.specs.Prelude.{◌≡◌, ℕ, ◌-◌, cond, List, [], ◌∷◌, map, Some, None, codes, Option, ◌==◌, slice_index_or}
use Rattle.std.specs.Int.Digits.{number_from_digits}
use Rattle.std.specs.Str.{bytes_eq}
use Rattle.report.specs.Reports.{Mark, Report, space, comma, report_text}
use Rattle.report.specs.Reports.Mark.{At, Infinity}
use Rattle.report.specs.Reports.Report.{Accepted, Refused}

abbrev pub onto_first : ℕ → List (List ℕ) → List (List ℕ)
onto_first x [] = (x ∷ []) ∷ []
onto_first x (w ∷ ws) = (x ∷ w) ∷ ws

-- the pieces of a text between its bytes c
abbrev pub cut : ℕ → List ℕ → List (List ℕ)
cut c [] = [] ∷ []
cut c (x ∷ xs) = cond (x == c) ([] ∷ cut c xs) (onto_first x (cut c xs))

-- the number that digits write
abbrev pub number_in : List ℕ → ℕ
number_in w = number_from_digits 10 (map (λ c. c - 48) w)

abbrev pub symbol_in : List ℕ → Option ℕ
symbol_in w = cond (bytes_eq w (codes "-")) None (Some (number_in w))

abbrev pub mark_in : List ℕ → Mark
mark_in w = cond (bytes_eq w (codes "inf")) Infinity (At (number_in w))

abbrev pub marks_in : List ℕ → List Mark
marks_in w = cond (bytes_eq w (codes "-")) [] (map mark_in (cut comma w))

-- what five fields say
abbrev pub report_in : List (List ℕ) → Report
report_in ws =
    cond (bytes_eq (slice_index_or ws 1 []) (codes "ok"))
    (Accepted (number_in (slice_index_or ws 0 [])) (symbol_in (slice_index_or ws 2 [])) (marks_in (slice_index_or ws 3 [])) (marks_in (slice_index_or ws 4 [])))
    (Refused (number_in (slice_index_or ws 0 [])) (number_in (slice_index_or ws 1 [])))

-- what the fields of the first line of a text say
abbrev pub taken_apart : List ℕ → Report
taken_apart text = report_in (cut space (slice_index_or (cut 10 text) 0 []))

-- A text is a report's if it is the text of what its fields say.
abbrev pub read_report : List ℕ → Option Report
read_report text = cond (bytes_eq (report_text (taken_apart text)) text) (Some (taken_apart text)) None

abbrev pub ReadsBack : Type 0
ReadsBack = (r : Report) → read_report (report_text r) ≡ Some r

abbrev pub ReadsOnlyReports : Type 0
ReadsOnlyReports = (text : List ℕ) (r : Report) → read_report text ≡ Some r → report_text r ≡ text

-- No two reports have one text.
abbrev pub ToldApart : Type 0
ToldApart = (r s : Report) → report_text r ≡ report_text s → r ≡ s
