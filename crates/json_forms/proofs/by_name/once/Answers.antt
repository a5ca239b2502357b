use Rattle.std.proofs.Common.{◌≡◌, ◌∷◌, ◌++◌, length, string_bytes, ◌∙◌, ap, sym, arith}
use Rattle.std.specs.Vec.Iter.{into_iter_items}
use Rattle.json_forms.proofs.RepeatLemmas.{shown-again, shown-new, step_whole, text-seen, text-new, text-kept}
use Rattle.json_forms.proofs.by_name.once.Goals as goal

pub returns-then-not-branch : goal.returns-then-not-branch
returns-then-not-branch c =
    let at = c.loop-name in
    let steps : into_iter_items at.name-iterator ≡ c.in-Some.name ∷ into_iter_items c.next.new.self = c.in-Some.ensures.steps.0 in
    shown-again string_bytes c.args.names.items at.yielded (into_iter_items c.next.new.self) c.in-Some.name
    (ap (λ left. at.yielded ++ left) (sym steps) ∙ at.invariant.whole ∙ c.into_iter-name-iterator.ensures.into_iter_gives.0)
    (text-seen c.in-Some.name at.found.keys at.yielded c.in_ok-insert.field-0 at.invariant.kept c.in_ok-insert.ensures.added c.if-not-branch.true)

pub loop-name-preserved : goal.loop-name-preserved
loop-name-preserved c =
    let at = c.loop-name in
    let steps : into_iter_items at.name-iterator ≡ c.in-Some.name ∷ into_iter_items c.next.new.self = c.in-Some.ensures.steps.0 in
    let gone = c.in-Some.ensures.steps.1 in
    let short = ap length steps in
    record {
      whole = step_whole at.yielded (into_iter_items c.next.new.self) (into_iter_items at.name-iterator) _ c.in-Some.name steps at.invariant.whole;
      len = omega (arith, at.invariant.len, gone, short);
      kept = text-kept c.in-Some.name at.found.keys at.yielded c.in_ok-insert.field-0 at.invariant.kept c.in_ok-insert.ensures.added _ c.if-not-branch.false c.in_ok-insert.ensures.keys;
      once = shown-new string_bytes c.args.names.items at.yielded (into_iter_items c.next.new.self) c.in-Some.name at.invariant.once
          (text-new c.in-Some.name at.found.keys at.yielded c.in_ok-insert.field-0 at.invariant.kept c.in_ok-insert.ensures.added c.if-not-branch.false);
    }
