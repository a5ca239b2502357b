use Rattle.std.proofs.Common.{ℕ, ◌∙◌, ap, sym, arith, drop, take}
use Rattle.std.specs.Prelude.{Ok, Err, List}
use Rattle.std.proofs.lemmas.List.{length-take-le, take_all, take_more_set}
use Rattle.csv.specs.Records.{fields_of}
use Rattle.ranking.specs.Tables.{levels_named}
use Rattle.ranking.proofs.FieldLemmas.{get-drop}
use Rattle.ranking.proofs.ReadLemmas.{level_found, levels_after-nil, levels_end, levels_step, levels_stop}
use Rattle.ranking.proofs.alternatives.read_levels.Goals as goal

pub loop-place-init : goal.loop-place-init
loop-place-init g c =
    let levels = ((goal.LevelNames-dyn g c.args.names.now).criteria c.args.names.now.1).levels in
    levels_after-nil (levels_named levels (drop 1 (fields_of c.args.row.now)))

pub loop-place-preserved : goal.loop-place-preserved
loop-place-preserved g c =
    let levels = ((goal.LevelNames-dyn g c.args.names.now).criteria c.args.names.now.1).levels in
    let texts = drop 1 (fields_of c.args.row.now) in
    let place : ℕ = c.loop-place.place in
    let f = level_found levels place c.field.result.now c.level.result (omega (arith, c.requires.cells)) c.level.ensures in
    let at = get-drop (fields_of c.args.row.now) place ∙ c.field.ensures in
    rw (take_more_set c.loop-place.cells place c.in-Some.level (omega arith))
    (sym (levels_step levels texts place (take place c.loop-place.cells) f.0 c.field.result.now c.in-Some.level f.1 at (sym f.2 ∙ c.in-Some.is)) ∙ c.loop-place.invariant)

pub returns-in-None-clause-read : goal.returns-in-None-clause-read
returns-in-None-clause-read g c =
    let levels = ((goal.LevelNames-dyn g c.args.names.now).criteria c.args.names.now.1).levels in
    let texts = drop 1 (fields_of c.args.row.now) in
    let place : ℕ = c.loop-place.place in
    let f = level_found levels place c.field.result.now c.level.result (omega (arith, c.requires.cells)) c.level.ensures in
    let at = get-drop (fields_of c.args.row.now) place ∙ c.field.ensures in
    sym c.loop-place.invariant ∙ levels_stop levels texts place (take place c.loop-place.cells) f.0 c.field.result.now f.1 at (sym f.2 ∙ c.in-None.is) ∙ ap (λ (n : ℕ). Err n) (length-take-le place c.loop-place.cells (omega arith))

pub returns-clause-read : goal.returns-clause-read
returns-clause-read g c =
    let levels = ((goal.LevelNames-dyn g c.args.names.now).criteria c.args.names.now.1).levels in
    let texts = drop 1 (fields_of c.args.row.now) in
    let place : ℕ = c.loop-place.place in
    sym c.loop-place.invariant ∙ levels_end levels (drop place texts) place (take place c.loop-place.cells) (omega (arith, c.requires.cells)) ∙ ap (λ (found : List ℕ). Ok found) (take_all place c.loop-place.cells (omega arith))
