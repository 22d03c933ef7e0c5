-- Single calls of a history.
use Rattle.std.proofs.Common.{◌≡◌, ℕ, zero, suc, ◌≤◌, ◌⊎◌, List, [], ◌∷◌, Some, None, Err, Option, Result, sym, refl, ap, ◌∙◌, subst, inl, inr}
use Rattle.field.specs.Algebra.{Lawful}
use Rattle.readings.specs.declared.kinds.AnsweredLine.{AnsweredLine}
use Rattle.readings.specs.declared.kinds.AnswerFault.{AnswerFault}
use Rattle.plate.specs.declared.faults.PlateFault.{PlateFault}
use Rattle.plate.specs.Settings.{Setting}
use Rattle.plate.specs.Requests.{Request, Answer, Cells, refusal, Sound, line_answer, LineAnswers, Does, Unless, Happens}
use Rattle.plate.specs.Requests.Request.{Burn, Correct, Mend}
use Rattle.runs.specs.Histories.{Moment, History, Leads, At, Accepted, Burns}
use Rattle.runs.specs.Laws.{FairRestored}
use Rattle.runs.proofs.OnLines.{fair_reply}

pub happened : (s : Setting) (x : Cells) (h : History) (y : Cells) (i : ℕ) (m : Moment) → Leads s x h y → At h i m → Happens s m.before m.request m.answer m.after
happened s x [] y i m r a = absurd a
happened s x (n ∷ h) y zero m r a = subst (λ (k : Moment). Happens s k.before k.request k.answer k.after) a r.1
happened s x (n ∷ h) y (suc i) m r a = happened s n.after h y i m r.2 a

pub unless_none : (o : Option PlateFault) (x : Cells) (a : Answer) (y : Cells) (D : Type 0) → o ≡ None → Unless o x a y D → D
unless_none o x a y D e u = subst (λ (r : Option PlateFault). Unless r x a y D) e u

pub refused_not : (a : Answer) (f : PlateFault) → a ≡ Err f → Accepted a → ⊥
refused_not a f e k = subst Accepted e k

accepted_none : (o : Option PlateFault) (x : Cells) (a : Answer) (y : Cells) (D : Type 0) → Unless o x a y D → Accepted a → o ≡ None
accepted_none (Some f) x a y D u k = absurd (refused_not a f u.0 k)
accepted_none None x a y D u k = refl

-- an accepted burn had sound arguments
pub burned_sound : (s : Setting) (form : List ℕ) (m : Moment) → Happens s m.before m.request m.answer m.after → Burns form m → Sound s (Burn form)
burned_sound s form m h b = ap (refusal s) (sym b.0) ∙ accepted_none (refusal s m.request) m.before m.answer m.after _ h b.1

-- what a correct or mend with sound arguments answered
answered : (s : Setting) (x : Cells) (z : Request) (a : Answer) (y : Cells) (w v : ℕ) (marks : List ℕ)
    → (z ≡ Correct w v marks) ⊎ (z ≡ Mend w v marks) → Sound s z → Happens s x z a y
    → (r : Result AnsweredLine AnswerFault) × LineAnswers s x w v marks r × (a ≡ line_answer r) × Sound s (Correct w v marks)
answered s x z a y w v marks (inl e) k h =
    let t : Sound s z × Happens s x z a y = (k, h) in
    let u = subst (λ (n : Request). Sound s n × Happens s x n a y) e t in
    let d = unless_none (refusal s (Correct w v marks)) x a y (Does s x (Correct w v marks) a y) u.0 u.1 in
    (d.0, d.1, d.2, u.0)
answered s x z a y w v marks (inr e) k h =
    let t : Sound s z × Happens s x z a y = (k, h) in
    let u = subst (λ (n : Request). Sound s n × Happens s x n a y) e t in
    let d = unless_none (refusal s (Mend w v marks)) x a y (Does s x (Mend w v marks) a y) u.0 u.1 in
    (d.0, d.1, d.2, u.0)

pub fair_restored : (s : Setting) → Lawful s.field → s.m ≤ 3 → (x : Cells) (h : History) (y : Cells) → Leads s x h y → FairRestored s h
fair_restored s L wide x h y r i m at form j b w v marks z sound fair =
    let burned = burned_sound s form b.burn (happened s x h y j b.burn r b.there) b.burns in
    let t = answered s m.before m.request m.answer m.after w v marks z sound (happened s x h y i m r at) in
    t.2 ∙ ap line_answer (fair_reply s L wide w v marks t.3 form burned m.before fair t.0 t.1)
