use Rattle.std.proofs.Common.{◌≤◌, ℕ, ◌∙◌, ap, sym, subst, arith, drop, length, map}
use Rattle.std.specs.Prelude.{List, All}
use Rattle.std.proofs.lemmas.List.{length-take, take_at}
use Rattle.criteria_model.specs.Criteria.{Criteria}
use Rattle.criteria_model.specs.Lists.{IsTuple}
use Rattle.criteria_model.proofs.LevelLemmas.{few_increments_fit}
use Rattle.csv.specs.Records.{fields_of}
use Rattle.ranking.proofs.ReadLemmas.{levels_within, names_few}
use Rattle.ranking.proofs.alternatives.read_alternative.Goals as goal

pub of-requires : goal.of-requires
of-requires g c =
    let levels = ((goal.LevelNames-dyn g c.args.names.now).criteria c.args.names.now.1).levels in
    let model = c.criteria.ensures.model in
    let counts : IsTuple c.model-model.result.levels = few_increments_fit c.model-model.result.levels model.some model.two_levels model.few_increments in
    let few : All (λ n. n ≤ 25) (map length levels) =
    subst (λ (ns : List ℕ). All (λ n. n ≤ 25) ns) (sym (c.model-model.ensures.1.level ∙ ap (λ (m : Criteria). m.levels) (sym c.model-model.ensures.0))) counts.within in
    let cells : List ℕ = c.read_levels.new.cells in
    let tuple : IsTuple cells = record {
      some = omega (arith, c.read_levels.ensures.len, length-take {A = ℕ}, counts.some, counts.most, c.criteria.ensures.value);
      most = omega (arith, c.read_levels.ensures.len, length-take {A = ℕ}, counts.most, c.criteria.ensures.value);
      within = levels_within levels (drop 1 (fields_of c.args.row.now)) cells 25 (names_few levels 25 few) c.in_default.ensures.read;
    } in
    rw (take_at cells _ c.from-count.result (omega (arith, c.read_levels.ensures.len, length-take {A = ℕ}, counts.most, c.criteria.ensures.value))) tuple
