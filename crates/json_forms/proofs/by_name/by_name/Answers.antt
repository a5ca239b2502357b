use Rattle.std.proofs.Common.{◌≡◌, [], ◌∷◌, ◌++◌, length, true, false, is_some, ◌∙◌, ap, sym, arith}
use Rattle.std.specs.String.{string_eq}
use Rattle.std.specs.Vec.Iter.{into_iter_items}
use Rattle.indexmap.proofs.CallerLemmas.{insert_entry-new}
use Rattle.json_forms.specs.EntryViews.{name_of}
use Rattle.json_forms.proofs.RepeatLemmas.{shown-again, shown-new, step_whole, name-is, none_found}
use Rattle.json_forms.proofs.by_name.by_name.Goals as goal

pub returns-then-is_some : goal.returns-then-is_some
returns-then-is_some g c =
    let at = c.loop-name in
    let steps : into_iter_items at.name-iterator ≡ (c.in-Some.name, c.in-Some.value) ∷ into_iter_items c.next.new.self = c.in-Some.ensures.steps.0 in
    shown-again name_of c.args.entries.items at.yielded (into_iter_items c.next.new.self) (c.in-Some.name, c.in-Some.value)
    (ap (λ left. at.yielded ++ left) (sym steps) ∙ at.invariant.whole ∙ c.into_iter-name-iterator.ensures.into_iter_gives.0)
    (name-is c.in-Some.name at.found.entries at.yielded at.invariant.kept true (c.if-is_some.ensures ∙ ap is_some c.in_ok-insert.ensures.old))

pub loop-name-preserved : goal.loop-name-preserved
loop-name-preserved g c =
    let at = c.loop-name in
    let steps : into_iter_items at.name-iterator ≡ (c.in-Some.name, c.in-Some.value) ∷ into_iter_items c.next.new.self = c.in-Some.ensures.steps.0 in
    let gone = c.in-Some.ensures.steps.1 in
    let short = ap length steps in
    let none = c.if-is_some.ensures ∙ ap is_some c.in_ok-insert.ensures.old in
    record {
      whole = step_whole at.yielded (into_iter_items c.next.new.self) (into_iter_items at.name-iterator) _ (c.in-Some.name, c.in-Some.value) steps at.invariant.whole;
      len = omega (arith, at.invariant.len, gone, short);
      kept = c.in_ok-insert.ensures.entries ∙ insert_entry-new string_eq at.found c.in-Some.name c.in-Some.value (none_found _ none)
          ∙ ap (λ entries. entries ++ (c.in-Some.name, c.in-Some.value) ∷ []) at.invariant.kept;
      once = shown-new name_of c.args.entries.items at.yielded (into_iter_items c.next.new.self) (c.in-Some.name, c.in-Some.value) at.invariant.once
          (name-is c.in-Some.name at.found.entries at.yielded at.invariant.kept false none);
    }
