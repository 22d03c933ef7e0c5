-- What a plate that fits allows.
use Rattle.std.proofs.Common.{◌≡◌, ℕ, ◌<◌, ◌≤◌, true, eqb, ltb, List, None, Ok, Err, Result, sym, ap, ◌∙◌, subst, arith}
use Rattle.std.proofs.lemmas.Bool.{and_parts, eqb-true, leb-true, eq-eqb, lt-ltb, cond-true}
use Rattle.field.specs.Algebra.{Algebra, Lawful}
use Rattle.space.specs.declared.shape.Shape.{Shape}
use Rattle.space.specs.Counts.{cells}
use Rattle.space.specs.Places.{point_of}
use Rattle.space.specs.Points.{at_place}
use Rattle.form.specs.declared.sheet.Form.{Form}
use Rattle.form.specs.Forms.{symbol_at}
use Rattle.form.specs.Sheets.{form_fault, check_answer, symbol_answer, unless, of_point}
use Rattle.form.proofs.Sound.{checked_form, no_fault}
use Rattle.cells.specs.declared.entries.Entry.TheVariants.{Symbol}
use Rattle.cells.specs.Refusals.{put_fault}
use Rattle.cells.specs.Stores.{Meaning, count_of, put_answer, put_in, with_entry, left_unless, unless as store_unless}
use Rattle.cells.proofs.Cases.{put_within}
use Rattle.line.proofs.Restored.{value_in}
use Rattle.plate.specs.Settings.{Setting, setting_of, fits}

pub record Fit (s : Setting) : Type 0 where
  pub same : s.q ≡ s.field.size
  pub counted : s.count ≡ cells s.q s.m
  pub roomy : s.q ≤ s.alphabet

pub fit : (s : Setting) → fits s ≡ true → Fit s
fit s e =
    let (a, b) = and_parts (eqb s.q s.field.size) _ e in
    let (c, d) = and_parts (eqb s.count (cells s.q s.m)) _ b in
    record { same = eqb-true s.q s.field.size a; counted = eqb-true s.count (cells s.q s.m) c; roomy = leb-true s.q s.alphabet d }

-- a checked form has a symbol at every place
place_told : (F : Algebra) (f : Form) (i s : ℕ) → check_answer F f ≡ Ok tt → i < cells f.shape.q f.shape.m → at_place F f.shape.q f.shape.m i (Ok s) ≡ Ok s
place_told F f i s e l =
    let c = checked_form F f e in
    cond-true (eqb f.shape.q F.size) _ _ (eq-eqb f.shape.q F.size c.same)
    ∙ cond-true (ltb i (cells f.shape.q f.shape.m)) _ _ (lt-ltb i (cells f.shape.q f.shape.m) l)

-- and tells it
pub symbol_told : (F : Algebra) (f : Form) (i : ℕ) → check_answer F f ≡ Ok tt → i < cells f.shape.q f.shape.m
    → symbol_answer F f i ≡ Ok (symbol_at F f.shape.m f.shape.d f.coefficients.now i)
symbol_told F f i e l =
    let s = symbol_at F f.shape.m f.shape.d f.coefficients.now i in
    ap (λ o. unless o (of_point (at_place F f.shape.q f.shape.m i (Ok s)))) (no_fault (form_fault F f.shape.q f.shape.m f.shape.d f.coefficients.now) e)
    ∙ ap of_point (place_told F f i s e l)

-- a code of the field can be put into every place
pub put_told : (s : Setting) (m : Meaning) (i v : ℕ) → Fit s → s.count ≡ count_of m → s.alphabet ≡ m.alphabet → i < cells s.q s.m → v < s.field.size
    → put_answer m i v ≡ Ok tt
put_told s m i v f c a l h =
    ap (λ o. store_unless o tt) (put_within (count_of m) m.alphabet i v (omega (arith, f.counted, c, l)) (omega (arith, f.same, f.roomy, a, h)))

-- What a form's symbol x at place i is to a store that means m: it is accepted there.
pub record Burns (F : Algebra) (shape : Shape) (form : List ℕ) (m : Meaning) (i x : ℕ) : Type 0 where
  pub is : x ≡ symbol_at F shape.m shape.d form i
  pub accepted : put_answer m i x ≡ Ok tt
  pub put : put_in m i x ≡ with_entry m i (Symbol x)

pub not_both : {X E : Type 0} (r : Result X E) (x : X) (e : E) → r ≡ Ok x → r ≡ Err e → ⊥
not_both r x e a b = let z : ◌≡◌ {A = ℕ} 0 1 = cc in omega arith

pub same_ok : {X E : Type 0} (r : Result X E) (x y : X) → r ≡ Ok x → r ≡ Ok y → x ≡ y
same_ok r x y a b = cc

-- so it is on a plate that fits, while the store keeps its count and alphabet
pub burns : {F : Algebra} (L : Lawful F) (f : Form) (shape : Shape) (start m : Meaning) (i x : ℕ)
    → fits (setting_of F shape start) ≡ true → f.shape ≡ shape → check_answer F f ≡ Ok tt → count_of m ≡ count_of start → m.alphabet ≡ start.alphabet
    → i < shape.n → at_place F f.shape.q f.shape.m i (Ok (symbol_at F f.shape.m f.shape.d f.coefficients.now i)) ≡ Ok x → Burns F shape f.coefficients.now m i x
burns {F} L f shape start m i x fitted same checked count alphabet below e =
    let t = fit (setting_of F shape start) fitted in
    let within : i < cells shape.q shape.m = omega (arith, below, shape.counted) in
    let told = place_told F f i (symbol_at F f.shape.m f.shape.d f.coefficients.now i) checked (subst (λ (k : Shape). i < cells k.q k.m) (sym same) within) in
    let is : x ≡ symbol_at F f.shape.m f.shape.d f.coefficients.now i = same_ok _ x _ e told in
    let code : x < F.size = subst (λ y. y < F.size) (sym is) (value_in L f.shape.m f.shape.d f.coefficients.now (point_of F.size f.shape.m i)) in
    let p : put_fault (count_of m) m.alphabet i x ≡ None =
    put_within (count_of m) m.alphabet i x (omega (arith, t.counted, count, within)) (omega (arith, t.same, t.roomy, alphabet, code)) in
    record {
      is = is ∙ ap (λ (k : Shape). symbol_at F k.m k.d f.coefficients.now i) same;
      accepted = ap (λ o. store_unless o tt) p;
      put = ap (λ o. left_unless o m (with_entry m i (Symbol x))) p;
    }
