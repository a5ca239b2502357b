use Rattle.std.proofs.Common.{◌≡◌, ◌+◌, ◌*◌, ◌≤◌, ◌++◌, length, map, take, false}
use Rattle.std.specs.List.{range_with_len}
use Rattle.criteria_model.specs.Worth.{increments}
use Rattle.json_forms.specs.Json.{array_of, certificate}
use Rattle.json_forms.specs.Replies.{level_values}
use Rattle.json_forms.proofs.ArrayLemmas.{front}
use Rattle.json_forms.proofs.replies.write_level_values.Given as goal

-- The values of the criteria so far are out: at most 43 bytes for each of their levels, which are their increments and one more.
abbrev pub invariant-loop-place : goal.invariant-loop-place
invariant-loop-place l = record {
  out : l.out.bytes ≡ l.initial.out.bytes ++ front false (map (λ criterion. array_of certificate (level_values l.model.levels l.vector criterion)) (range_with_len 1 l.place));
  short : length l.out.bytes ≤ length l.initial.out.bytes + 43 * (increments (take l.place l.model.levels) + l.place) + 3 * l.place;
  room : l.out.room ≡ l.initial.out.room;
}
