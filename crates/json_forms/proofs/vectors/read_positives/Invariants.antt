use Rattle.std.proofs.Common.{◌≡◌, ◌≤ℤ◌, pos, length, take, All}
use Rattle.text_fields.specs.Spelling.{IsCertificate}
use Rattle.json_forms.specs.Vectors.{positive_in}
use Rattle.json_forms.proofs.EachLemmas.{IsReadTo}
use Rattle.json_forms.proofs.vectors.read_positives.Given as goal

-- The items so far are in the cells.
abbrev pub invariant-loop-place : goal.invariant-loop-place
invariant-loop-place l = record {
  read : IsReadTo positive_in l.items l.place (take l.place l.cells);
  len : length l.cells ≡ length l.initial.cells;
  positive : All (λ z. pos 1 ≤ℤ z) (take l.place l.cells);
  within : All IsCertificate (take l.place l.cells);
}
