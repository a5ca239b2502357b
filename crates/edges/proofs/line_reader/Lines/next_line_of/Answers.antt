use Rattle.std.proofs.Common.{◌≡◌, ◌+◌, ℕ, List, length, take, ap, sym, subst, ◌∙◌, arith}
use Rattle.std.proofs.lemmas.List.{take_all}
use Rattle.edges.specs.Line.{HasNoLineEnd}
use Rattle.edges.proofs.line_reader.Lines.next_line_of.Goals as goal

pub line_end_from-requires-clause-searched : goal.line_end_from-requires-clause-searched
line_end_from-requires-clause-searched g c =
    let old : List ℕ = c.loop-searched.self.kept in
    let whole : take (c.loop-searched.self.longest + 1) old ≡ old = take_all (c.loop-searched.self.longest + 1) old (omega arith) in
    let len : c.kept_len-searched.result ≡ length old = c.kept_len-searched.ensures in
    let front : take c.kept_len-searched.result c.refill.new.self.kept ≡ old =
    ap (λ n. take n c.refill.new.self.kept) len ∙ c.refill.ensures.front in
    subst HasNoLineEnd (sym front) (subst HasNoLineEnd whole c.loop-searched.invariant.unbroken)
