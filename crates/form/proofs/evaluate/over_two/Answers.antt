use Rattle.std.proofs.Common.{◌≡◌, ◌+◌, ◌-◌, ◌<◌, length, get_or, take, drop, sym, ap, ◌∙◌, ap₂, arith, rules}
use Rattle.std.proofs.lemmas.List.{get_or-take, length-append}
use Rattle.std.proofs.lemmas.Slice.Zip.{zip_turn, zip_end}
use Rattle.std.specs.Iterator.Adapters.{zip_first, zip_second}
use Rattle.std.specs.Slice.Iter.{iter_rest}
use Rattle.field.specs.Algebra.{ops}
use Rattle.form.specs.Evaluation.{nested}
use Rattle.form.proofs.Steps.{two_start, two_step, terms_of_two, rest_at, rest_long}
use Rattle.form.proofs.evaluate.over_two.Goals as goal

pub split_at-requires : goal.split_at-requires
split_at-requires g c = let k = terms_of_two c.args.xs.now c.args.d c.requires.two in omega (arith, k, c.requires.enough)

pub loop-c-init : goal.loop-c-init
loop-c-init g c =
    let F = g.F.Field.algebra in
    let cs = c.args.cs.now in
    let h : get_or c.split_at.result.0.now 0 0 ≡ get_or cs 0 0 = ap (λ l. get_or l 0 0) c.split_at.ensures.front ∙ get_or-take (c.args.d + 1) cs 0 0 (omega arith) in
    c.mul-total.ensures ∙ ap₂ F.times h (c.requires.right 0 (omega arith)) ∙ sym (two_start F c.args.xs.now cs c.requires.two)

pub loop-c-preserved : goal.loop-c-preserved
loop-c-preserved g c =
    let F = g.F.Field.algebra in
    let xs = c.args.xs.now in
    let cs = c.args.cs.now in
    let own = c.split_at.result.0.now in
    let table = c.args.table.now in
    let ks = take (length own - 1) (drop 1 own) in
    let vs = take (length table - 1) (drop 1 table) in
    let s = c.into_iter-c-iterator.result in
    let first : iter_rest (zip_first s) ≡ ks = search rules in
    let second : iter_rest (zip_second s) ≡ vs = search rules in
    let z = zip_turn ks vs c.loop-c.yielded s c.loop-c.c-iterator c.next.new.self c.next.result first second c.loop-c.yielded_by (c.in-Some.c, c.in-Some.power) c.in-Some.is c.next.ensures.steps in
    let j = length c.loop-c.yielded in
    let n : length own ≡ c.args.d + 1 = c.split_at.ensures.front_len in
    let k : length ks ≡ length own - 1 = rest_long own in
    let low : j + 1 < c.args.d + 1 = omega (arith, z.0, k, n) in
    let a : c.in-Some.c.now ≡ get_or cs (j + 1) 0 = z.2 0 ∙ rest_at own j ∙ ap (λ l. get_or l (j + 1) 0) c.split_at.ensures.front ∙ get_or-take (c.args.d + 1) cs (j + 1) 0 low in
    let p = z.3 0 ∙ rest_at table j ∙ c.requires.right (j + 1) (omega (arith, low)) in
    c.add-total.ensures
    ∙ ap₂ F.plus (c.mul.ensures ∙ ap (λ w. F.times w (get_or xs 0 0)) c.loop-c.invariant) (c.mul-in-loop-c.ensures ∙ ap₂ F.times a p)
    ∙ sym (two_step F xs j cs c.requires.two)
    ∙ ap (λ i. nested (ops F) xs i cs) (sym (length-append c.loop-c.yielded _))

pub returns-clause-made : goal.returns-clause-made
returns-clause-made g c =
    let own = c.split_at.result.0.now in
    let table = c.args.table.now in
    let ks = take (length own - 1) (drop 1 own) in
    let vs = take (length table - 1) (drop 1 table) in
    let s = c.into_iter-c-iterator.result in
    let first : iter_rest (zip_first s) ≡ ks = search rules in
    let second : iter_rest (zip_second s) ≡ vs = search rules in
    let z = zip_end ks vs c.loop-c.yielded s c.loop-c.c-iterator c.next.new.self c.next.result first second c.loop-c.yielded_by c.in-None.is c.next.ensures.steps in
    let n : length own ≡ c.args.d + 1 = c.split_at.ensures.front_len in
    let k : length ks ≡ length own - 1 = rest_long own in
    let t : length table ≡ 16 = c.told-table in
    let v : length vs ≡ length table - 1 = rest_long table in
    let e : length c.loop-c.yielded ≡ c.args.d = omega (arith, z, k, n, v, t, c.requires.low) in
    c.loop-c.invariant ∙ ap (λ i. nested (ops g.F.Field.algebra) c.args.xs.now i c.args.cs.now) e

pub returns-clause-rest : goal.returns-clause-rest
returns-clause-rest g c = c.split_at.ensures.back ∙ ap (λ n. drop n c.args.cs.now) (sym (terms_of_two c.args.xs.now c.args.d c.requires.two))
