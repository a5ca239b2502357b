use Rattle.std.proofs.Common.{◌≡◌, ◌-◌, [], arith, ap, ◌∙◌, flat_map, map}
use Rattle.std.specs.List.{range_with_len}
use Rattle.pair_enumeration.specs.declared.walks.Stage.TheVariants.{Same}
use Rattle.pair_enumeration.specs.Walks.{tails, joined}
use Rattle.pair_enumeration.proofs.WalkLemmas.{degrees_more}
use Rattle.pair_enumeration.proofs.walks.list_classes.Goals as goal

pub loop-degree-preserved : goal.loop-degree-preserved
loop-degree-preserved c =
    degrees_more c.args.counts.now c.loop-degree.degree c.start.result c.loop-degree.classes.items c.extend.new.classes.items
    (omega arith) c.loop-degree.invariant c.start.ensures.place c.start.ensures.rest c.start.ensures.stage c.in_ok-extend.ensures

pub returns : goal.returns
returns c =
    let e : c.loop-degree.degree - 2 ≡ c.args.limit - 1 = omega arith in
    c.loop-degree.invariant.items ∙ ap (λ n. flat_map (λ d. map (joined [] []) (tails c.args.counts.now d Same)) (range_with_len 2 n)) e
