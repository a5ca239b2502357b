use Rattle.std.proofs.Common.{◌≡◌, length, rules, arith}
use Rattle.std.proofs.lemmas.List.Sums.{count_by-le-length}
use Rattle.survey_core.proofs.marks.Marks.asked.Goals as goal

pub overflow_cast-result : goal.overflow_cast-result
overflow_cast-result c =
    let size : c.len.result ≡ length c.self.inside.questions.items = search rules in
    omega (arith, size, c.self.invariant.few, c.self.invariant.asked_count, count_by-le-length (λ m. m.issued) c.self.inside.classes.items)
