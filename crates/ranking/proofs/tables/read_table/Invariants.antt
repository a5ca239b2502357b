use Rattle.std.proofs.Common.{◌≡◌, ◌≤◌, ◌+◌, ◌-◌, length, take}
use Rattle.edges.specs.Told.{Takes}
use Rattle.ranking.proofs.tables.read_table.Given as goal

-- The bytes so far were taken, and no call failed.
abbrev pub invariant-loop-len : goal.invariant-loop-len
invariant-loop-len g l = record {
  taken : Takes (g.S.Source.left l.fn.source) (g.S.Source.left l.source) (take l.len l.table.items);
  faults : g.S.Source.faults l.source ≡ g.S.Source.faults l.fn.source;
  loans : g.S.Source.loans l.source ≡ g.S.Source.loans l.fn.source;
  room : length l.table.items ≡ l.fn.most + 1;
  within : l.len ≤ l.fn.most + 1;
}

abbrev pub decreases-loop-len : goal.decreases-loop-len
decreases-loop-len g l = l.fn.most + 1 - l.len
