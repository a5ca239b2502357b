use Rattle.std.proofs.Common.{◌+◌, ◌-◌, ◌≤◌, ◌≡◌, ℕ, length, drop, arith, ap, slice_range, ◌∙◌}
use Rattle.std.proofs.lemmas.List.{length-take}
use Rattle.edges.specs.Lines.{LinesView}
use Rattle.edges.proofs.PartLemmas.{slice_range-drop}
use Rattle.edges.proofs.line_reader.Lines.show.Goals as goal

-- The bytes kept are a part of the buffer, and lose those shown and skipped.
pub returns-clause-kept : goal.returns-clause-kept
returns-clause-kept c =
    let n : ℕ = c.args.count + c.args.skipped in
    let kept : slice_range c.self.inside.buffer.items c.self.inside.kept_start c.self.inside.kept_end ≡ c.args.self.now.kept =
    ap (λ (v : LinesView). v.kept) c.self.view_is in
    let sums : c.self.inside.kept_start + c.args.count + c.args.skipped ≡ c.self.inside.kept_start + n = omega arith in
    let fits : c.self.inside.kept_start + n ≤ c.self.inside.kept_end =
    omega (arith, c.requires, ap length kept, length-take (c.self.inside.kept_end - c.self.inside.kept_start) (drop c.self.inside.kept_start c.self.inside.buffer.items)) in
    ap (λ a. slice_range c.self.inside.buffer.items a c.self.inside.kept_end) sums ∙ slice_range-drop c.self.inside.buffer.items c.self.inside.kept_start n c.self.inside.kept_end fits ∙ ap (drop n) kept
