use Rattle.std.proofs.Common.{◌≡◌, true, false, Bool, cond, length-set, refl, ◌∙◌, rules, arith}
use mir.Val.{bool_byte}
use Rattle.part_worths.proofs.ShareLaws.{share_step, share_is, is_shares}
use Rattle.part_worths.proofs.apportionment.Shares.of.Goals as goal

byte_is : (b : Bool) → bool_byte b ≡ cond b 1 0
byte_is true = refl
byte_is false = refl

pub loop-place-preserved : goal.loop-place-preserved
loop-place-preserved c = record {
  len = simp length-set c.loop-place.invariant.len;
  written = share_step c.args.values.now c.loop-place.items c.loop-place.place _ (omega (arith, c.loop-place.invariant.len, c.requires.most, c.loop-place-test.true)) c.loop-place.invariant.written
      (share_is c.args.values.now c.fill_remainders.new.left_over c.loop-place.place c.sum-total.result _ c.count_before.result c.missing-missing.result _ (search rules) c.fill_remainders.ensures c.rounded_down.ensures.value c.count_before.ensures c.missing-missing.ensures (c.from.ensures ∙ byte_is _));
}

pub with_items-requires : goal.with_items-requires
with_items-requires c = is_shares c.args.values.now _ c.requires.some c.requires.most c.requires.positive (search rules)
