use Rattle.std.proofs.Common.{◌≡◌, ℕ, ◌++◌, ◌∙◌, ap, arith, drop, length, take}
use Rattle.std.specs.Prelude.{List}
use Rattle.std.proofs.lemmas.List.{take_at}
use Rattle.ranking.proofs.TableLemmas.{taken_more}
use Rattle.ranking.proofs.tables.read_table.Goals as goal

pub loop-len-preserved : goal.loop-len-preserved
loop-len-preserved g c =
    let table = c.loop-len.table in
    let inv = c.loop-len.invariant in
    let buffer : List ℕ = c.take_behind.new.buffer in
    let value : c.as_mut_slice.result.now ≡ table.items = c.as_mut_slice.ensures.value in
    let len : length buffer ≡ table.len = omega (arith, c.in-Ok.ensures.len, ap length value, table.ok.0) in
    let same : take table.len (buffer ++ drop (length buffer) table.items) ≡ buffer = take_at buffer (drop (length buffer) table.items) table.len len in
    let front : take c.loop-len.len buffer ≡ take c.loop-len.len table.items = c.in-Ok.ensures.front ∙ ap (take c.loop-len.len) value in
    record {
      taken = rw same (taken_more (g.S.Source.left c.args.source.now) (g.S.Source.left c.loop-len.source) (g.S.Source.left c.take_behind.new.source) table.items buffer c.loop-len.len c.in-Ok.taken inv.taken front c.in-Ok.ensures.taken);
      faults = c.in-Ok.ensures.quiet ∙ inv.faults;
      loans = c.in-Ok.ensures.loans ∙ inv.loans;
      room = rw same (omega (arith, c.in-Ok.ensures.len, ap length value, inv.room));
      within = omega (arith, c.in-Ok.ensures.within, ap length value, inv.room);
    }
