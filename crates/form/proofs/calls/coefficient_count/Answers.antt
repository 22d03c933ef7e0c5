use Rattle.std.proofs.Common.{◌≡◌, ℕ, ◌+◌, ◌*◌, ◌/◌, ◌<◌, Bool, T, eqb, sym, ap, ◌∙◌, arith, eqb→eq}
use Rattle.field.proofs.Every.{every, at}
use Rattle.form.specs.Forms.{choose}
use Rattle.form.proofs.Ordered.{vectors_listed}
use Rattle.form.proofs.calls.coefficient_count.Goals as goal

-- the formulas, by a test at each degree below 16
abbrev right : ℕ → (ℕ → ℕ) → ℕ → Bool
right m f d = eqb (f d) (choose (m + d) d)

tested : (m : ℕ) (f : ℕ → ℕ) → T (every (right m f) 16) → (n d : ℕ) → n ≡ m → d < 16 → f d ≡ choose (n + d) d
tested m f t n d e h = eqb→eq (f d) (choose (m + d) d) (at (right m f) 16 t d h) ∙ ap (λ w. choose (w + d) d) (sym e)

pub returns-in-1 : goal.returns-in-1
returns-in-1 c =
    let s = c.args.shape in
    record { count = tested 1 (λ d. d + 1) tt s.m s.d (omega arith) (omega arith); listed = vectors_listed s.m s.d }

pub returns-in-2 : goal.returns-in-2
returns-in-2 c =
    let s = c.args.shape in
    record { count = tested 2 (λ d. (d + 1) * (d + 2) / 2) tt s.m s.d (omega arith) (omega arith); listed = vectors_listed s.m s.d }

pub returns-in_default : goal.returns-in_default
returns-in_default c =
    let s = c.args.shape in
    record { count = tested 3 (λ d. (d + 1) * (d + 2) * (d + 3) / 6) tt s.m s.d (omega arith) (omega arith); listed = vectors_listed s.m s.d }
