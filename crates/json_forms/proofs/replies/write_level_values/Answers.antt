use Rattle.std.proofs.Common.{◌≡◌, ℕ, ◌+◌, ◌<◌, ◌++◌, ◌∙◌, false, length, map, ap, arith}
use Rattle.std.specs.List.{range_with_len}
use Rattle.json_forms.specs.Json.{array_of, certificate}
use Rattle.json_forms.specs.Replies.{level_values}
use Rattle.json_forms.proofs.ArrayLemmas.{front, range_more, array_end}
use Rattle.json_forms.proofs.LevelLemmas.{increments_more, few_bytes, first-place}
use Rattle.json_forms.proofs.replies.write_level_values.Goals as goal

pub separate-requires : goal.separate-requires
separate-requires c =
    let model = c.criteria-place-end.ensures.model in
    omega (
      arith,
      few_bytes c.args.model.now.levels c.loop-place.place model.two_levels model.few_increments
          (omega (arith, c.criteria-place-end.ensures.value, c.loop-place-test.true)),
      c.loop-place.invariant.short,
      c.loop-place.invariant.room,
      c.add.ensures.grown,
      c.add.ensures.room,
      c.requires.room,
    )

pub write_values_of-requires-clause-room : goal.write_values_of-requires-clause-room
write_values_of-requires-clause-room c =
    let model = c.criteria-place-end.ensures.model in
    let within : c.loop-place.place < length c.args.model.now.levels = omega (arith, c.criteria-place-end.ensures.value, c.loop-place-test.true) in
    rw (first-place c.loop-place.place)
    (omega (
      arith,
      few_bytes c.args.model.now.levels (c.loop-place.place + 1) model.two_levels model.few_increments (omega (arith, within)),
      increments_more c.args.model.now.levels c.loop-place.place within,
      c.loop-place.invariant.short,
      c.loop-place.invariant.room,
      c.add.ensures.grown,
      c.add.ensures.room,
      c.requires.room,
      c.separate.ensures.grown,
      c.separate.ensures.room,
    ))

pub loop-place-preserved : goal.loop-place-preserved
loop-place-preserved c =
    let levels = c.args.model.now.levels in
    let within : c.loop-place.place < length c.args.model.now.levels = omega (arith, c.criteria-place-end.ensures.value, c.loop-place-test.true) in
    record {
      out = range_more (λ criterion. array_of certificate (level_values levels c.args.vector.now criterion)) c.loop-place.place
          c.add.new.self.bytes c.loop-place.out.bytes c.separate.new.out.bytes c.write_values_of.new.out.bytes
          c.loop-place.invariant.out c.separate.ensures.bytes c.write_values_of.ensures.bytes;
      short = omega (
        arith,
        increments_more levels c.loop-place.place within,
        c.loop-place.invariant.short,
        c.separate.ensures.grown,
        rw (first-place c.loop-place.place) at c.write_values_of.ensures.grown,
      );
      room = c.write_values_of.ensures.room ∙ c.separate.ensures.room ∙ c.loop-place.invariant.room;
    }

pub add-requires-2 : goal.add-requires-2
add-requires-2 c =
    let model = c.criteria-place-end.ensures.model in
    omega (
      arith,
      few_bytes c.args.model.now.levels c.loop-place.place model.two_levels model.few_increments
          (omega (arith, c.criteria-place-end.ensures.value, c.loop-place.auto.place-end)),
      c.loop-place.invariant.short,
      c.loop-place.invariant.room,
      c.add.ensures.grown,
      c.add.ensures.room,
      c.requires.room,
    )

pub returns-clause-bytes : goal.returns-clause-bytes
returns-clause-bytes c =
    let f = λ (criterion : ℕ). array_of certificate (level_values c.args.model.now.levels c.args.vector.now criterion) in
    let end : c.loop-place.place ≡ length c.args.model.now.levels = omega (arith, c.criteria-place-end.ensures.value, c.loop-place.auto.place-end, c.loop-place-test.false) in
    array_end (map f (range_with_len 1 (length c.args.model.now.levels))) c.args.out.now.bytes c.add.new.self.bytes c.loop-place.out.bytes c.add-2.new.self.bytes c.add.ensures.bytes
    (c.loop-place.invariant.out ∙ ap (λ n. c.add.new.self.bytes ++ front false (map f (range_with_len 1 n))) end)
    c.add-2.ensures.bytes

pub returns-clause-grown : goal.returns-clause-grown
returns-clause-grown c =
    let model = c.criteria-place-end.ensures.model in
    omega (
      arith,
      few_bytes c.args.model.now.levels c.loop-place.place model.two_levels model.few_increments
          (omega (arith, c.criteria-place-end.ensures.value, c.loop-place.auto.place-end)),
      c.loop-place.invariant.short,
      c.add.ensures.grown,
      c.add-2.ensures.grown,
    )
