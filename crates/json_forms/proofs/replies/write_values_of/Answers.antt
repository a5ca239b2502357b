use Rattle.std.proofs.Common.{◌≡◌, ◌-◌, ◌≤◌, ◌++◌, ◌∙◌, get_or, length, length-set, length-take, map, take, ap, rules, arith}
use Rattle.std.specs.Int.{w128}
use Rattle.std.specs.List.{range_with_len}
use Rattle.std.proofs.lemmas.Int.{to_z-of_z}
use Rattle.serde_json.specs.Written.{compact_text}
use Rattle.part_worths.specs.Values.{value_of_level}
use Rattle.json_forms.specs.Json.{array_of, certificate}
use Rattle.json_forms.specs.Replies.{level_values}
use Rattle.json_forms.proofs.LevelLemmas.{cells_more, index-is}
use Rattle.json_forms.proofs.replies.write_values_of.Goals as goal

pub loop-place-preserved : goal.loop-place-preserved
loop-place-preserved c = record {
  len = simp length-set c.loop-place.invariant.len;
  written = cells_more (value_of_level c.args.model.now.levels c.args.vector.now c.args.criterion) c.loop-place.values c.loop-place.place c.from.result _
      (omega (arith, c.loop-place.invariant.len, c.levels-count.ensures.range, c.loop-place-test.true)) c.from.ensures c.loop-place.invariant.written
      (to_z-of_z w128 c.level_value.result (search rules) ∙ c.level_value.ensures);
}

pub write_array-requires : goal.write_array-requires
write_array-requires c =
    let count = index-is c.args.model.now.levels (c.args.criterion - 1) c.levels-count.result c.levels-count.ensures.value in
    simp length-take (omega (arith, count, c.from-2.ensures, c.requires.room))

pub returns-clause-bytes : goal.returns-clause-bytes
returns-clause-bytes c =
    let f = value_of_level c.args.model.now.levels c.args.vector.now c.args.criterion in
    let count = index-is c.args.model.now.levels (c.args.criterion - 1) c.levels-count.result c.levels-count.ensures.value in
    let all : c.from-2.result ≡ c.loop-place.place = omega (arith, c.from-2.ensures) in
    let end : c.loop-place.place ≡ get_or c.args.model.now.levels (c.args.criterion - 1) 0 = omega (arith, count) in
    let written : take c.from-2.result c.loop-place.values ≡ level_values c.args.model.now.levels c.args.vector.now c.args.criterion =
    ap (λ n. take n c.loop-place.values) all ∙ c.loop-place.invariant.written ∙ ap (λ n. map f (range_with_len 1 n)) end in
    c.write_array.ensures.bytes ∙ ap (λ xs. c.args.out.now.bytes ++ compact_text (array_of certificate xs)) written

pub returns-clause-grown : goal.returns-clause-grown
returns-clause-grown c =
    let count = index-is c.args.model.now.levels (c.args.criterion - 1) c.levels-count.result c.levels-count.ensures.value in
    let most : length (take c.from-2.result c.loop-place.values) ≤ c.from-2.result = simp length-take (omega arith) in
    omega (arith, count, most, c.from-2.ensures, c.write_array.ensures.grown)
