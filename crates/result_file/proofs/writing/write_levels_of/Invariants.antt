use Rattle.std.proofs.Common.{◌≡◌, ◌+◌, ◌*◌, ◌≤◌, ◌++◌, length, take, decimal}
use Rattle.text_fields.specs.Spelling.{listed}
use Rattle.result_file.proofs.writing.write_levels_of.Given as goal

-- The levels of the first criteria are out.
abbrev pub invariant-loop-criterion : goal.invariant-loop-criterion
invariant-loop-criterion l = record {
  out : l.out.bytes ≡ l.fn.out.bytes ++ listed decimal (take l.criterion l.model.levels);
  short : length l.out.bytes ≤ length l.fn.out.bytes + 4 * l.criterion;
  room : l.out.room ≡ l.fn.out.room;
}
