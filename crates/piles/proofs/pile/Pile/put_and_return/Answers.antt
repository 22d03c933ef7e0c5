use Rattle.std.proofs.Common.{◌≡◌, ap, ◌∙◌}
use Rattle.cells.specs.Puts.{put_all_answer, put_all_in}
use Rattle.piles.proofs.Piling.{same_pile, pile_done}
use Rattle.piles.proofs.pile.Pile.put_and_return.Goals as goal

pub returns : goal.returns
returns g c =
    let store = c.args.store in
    let m = g.S.Store.meaning store in
    let k = g.S.Store.kept store in
    let vs = c.args.symbols.now in
    let pile = c.args.self in
    let pair = pile.pair in
    let last = c.put_all-answer.new.store in
    let e = c.put_all-answer.ensures in
    let p = c.over-pile.ensures in
    let same = same_pile _ m _ k _ pile.span.start _ pile.span.len _ pair.n _ pair.step
    (ap g.S.Store.meaning p.store) (ap g.S.Store.kept p.store) (ap (λ x. x.start) p.span) (ap (λ x. x.len) p.span) (ap (λ x. x.n) p.pair) (ap (λ x. x.step) p.pair) in
    let back : c.into_below-2.result ≡ last.below.below = c.into_below-2.ensures ∙ ap (λ x. x.below) c.into_below.ensures in
    let d = pile_done m (g.S.Store.meaning last.below.below) k (g.S.Store.kept last.below.below) pile.span.start pile.span.len pair.n pair.step last.below.placing.start last.below.placing.len last.placing.n last.placing.step vs
    (pair.some, pair.within, pair.most, pair.apart) (e.done ∙ ap (λ x. put_all_in x vs) same.meaning) (e.kept ∙ same.kept) in
    record {
      answer = e.answer ∙ ap (λ x. put_all_answer x vs) same.meaning;
      done = ap g.S.Store.meaning back ∙ d.0;
      kept = ap g.S.Store.kept back ∙ d.1;
      lent = ap g.S.Store.lent back ∙ e.lent ∙ ap g.S.Store.lent p.store;
    }
