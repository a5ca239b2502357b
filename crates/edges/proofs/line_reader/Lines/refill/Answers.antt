use Rattle.std.proofs.Common.{◌≡◌, ◌+◌, ◌-◌, ℕ, take, ap, arith, slice_range, ◌∙◌}
use Rattle.std.specs.Vec.{with_items}
use Rattle.std.specs.Io.KnownBytes.{prepend_known}
use Rattle.std.proofs.lemmas.List.{with_items_is}
use Rattle.edges.specs.Lines.{LinesView}
use Rattle.edges.proofs.RefillLemmas.{refilled}
use Rattle.edges.proofs.line_reader.Lines.refill.Goals as goal

-- No byte is lost by the move to the front of the buffer, nor by the call of the source.
pub returns-clause-same : goal.returns-clause-same
returns-clause-same g c =
    let k : ℕ = c.self.inside.kept_end - c.self.inside.kept_start in
    let items : (with_items c.move_to_front.new.buffer c.take_behind.new.buffer).items ≡ c.take_behind.new.buffer =
    with_items_is c.move_to_front.new.buffer c.take_behind.new.buffer (omega (arith, c.take_behind.auto.buffer, c.as_mut_slice.ensures.len)) in
    let kept : slice_range c.self.inside.buffer.items c.self.inside.kept_start c.self.inside.kept_end ≡ c.args.self.now.kept =
    ap (λ (v : LinesView). v.kept) c.self.view_is in
    let front : take k c.as_mut_slice.result.now ≡ c.args.self.now.kept =
    ap (take k) c.as_mut_slice.ensures.value ∙ c.move_to_front.ensures.front ∙ kept in
    ap (λ xs. prepend_known (slice_range xs 0 (k + c.in_ok-taken.taken)) (g.S.Source.left c.take_behind.new.source)) items ∙ refilled c.args.self.now.kept c.as_mut_slice.result.now c.take_behind.new.buffer k c.in_ok-taken.taken (g.S.Source.left c.args.source.now) (g.S.Source.left c.take_behind.new.source) front c.take_behind.ensures.front c.in_ok-taken.ensures.taken
