use Rattle.std.proofs.Common.{◌≡◌, ℕ, [], map, None, refl, ap, ◌∙◌, subst, arith}
use mathlib.Core.List.{map-map}
use Rattle.space.specs.Places.{point_of}
use Rattle.form.proofs.Sound.{sound_form}
use Rattle.readings.specs.declared.kinds.Reading.{Reading}
use Rattle.readings.specs.Readings.{Answers, NearAnswered, usable}
use Rattle.line.specs.Asking.{target, marks_fault, when_sound}
use Rattle.line.specs.Lines.{reading_of, line_readings, readings_of, targets_of}
use Rattle.line.proofs.Asked.{asked, readings_usable}
use Rattle.line.proofs.Restored.{fair_answer}
use Rattle.line.proofs.corrections.gathered_answer.Goals as goal

pub returns : goal.returns
returns g c =
    let F = g.F.Field.algebra in
    let L = g.met.F.Field.lawful in
    let s = c.args.shape in
    let w = c.args.request.now.place in
    let v = c.args.request.now.direction in
    let marks = c.args.request.now.marks.now in
    let entries = (g.S.Store.meaning c.args.store.now).entries in
    let a = asked F s.q s.m s.d w v marks c.requires in
    let sound : marks_fault F (point_of F.size s.m w) (point_of F.size s.m v) [] 0 marks ≡ None =
    subst (λ q. marks_fault F (point_of q s.m w) (point_of q s.m v) [] 0 marks ≡ None) a.same a.marks_sound in
    let rs = line_readings F s.m entries w v marks in
    let R : ℕ → Reading = λ t. reading_of F.size entries (target F s.m w v t) in
    let targets : targets_of c.new.result ≡ map (target F s.m w v) marks = c.new.ensures.targets ∙ ap (λ o. when_sound o (map (target F s.m w v) marks)) c.requires in
    let readings : readings_of c.gather.result ≡ rs =
    c.gather.ensures.readings ∙ ap (map (reading_of F.size entries)) targets ∙ map-map (reading_of F.size entries) (target F s.m w v) marks in
    let used : usable F.size (readings_of c.gather.result) ≡ rs =
    ap (usable F.size) readings
    ∙ readings_usable F (point_of F.size s.m w) (point_of F.size s.m v) R (λ t. refl) marks sound (omega (arith, a.few, s.symbols.1)) in
    let degree : c.gather.result.d ≡ s.d = c.gather.ensures.degree ∙ c.new.ensures.degree in
    let e = c.answer.ensures in
    let near : NearAnswered F s.d rs c.answer.result =
    subst (λ d. NearAnswered F d rs c.answer.result) degree (subst (λ xs. NearAnswered F c.gather.result.d xs c.answer.result) used e.near) in
    record {
      answer = subst (λ d. Answers F d rs c.answer.result) degree (subst (λ xs. Answers F c.gather.result.d xs c.answer.result) used e.answer);
      fair = λ form f fair. fair_answer L s.m s.d form s.wide.1 (sound_form F s.q s.m s.d form f).codes w v entries marks sound fair c.answer.result near;
      same = c.gather.ensures.same;
      kept = c.gather.ensures.kept;
      lent = c.gather.ensures.lent;
    }
