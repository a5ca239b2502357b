use Rattle.std.proofs.Common.{ℕ, ◌≤◌, ◌∙◌, List, [], ◌∷◌, ◌++◌, length, subst, sym}
use Rattle.edges.specs.Line.{line_end}
use Rattle.edges.specs.Lines.{ahead}
use Rattle.edges.specs.Told.{Takes}
use Rattle.session_protocol.specs.Sessions.{IsLine}
use Rattle.session_protocol.proofs.SessionLemmas.{overlong}
use Rattle.survey_hall.proofs.greetings.greet.Goals as goal

pub returns-in-Ok-clause-greets : goal.returns-in-Ok-clause-greets
returns-in-Ok-clause-greets g c =
    let got = c.in-Line.ensures.got in
    let line = c.next_line.new.self.line in
    c.greeting_of.ensures.greets c.args.definition.now c.next_line.new.self.kept _ _ (record {
      line = c.line.result.now;
      is_line = subst (λ (l : List ℕ). IsLine l) (sym c.line.ensures)
          (subst (λ (n : ℕ). length line ≤ n) (c.next_line.ensures.limits.longest ∙ c.requires.longest) got.fits, got.unbroken);
      read = subst (λ (l : List ℕ). Takes (ahead c.args.lines.now (g.S.Source.left c.args.source.now)) (ahead c.next_line.new.self (g.S.Source.left c.next_line.new.source)) (l ++ line_end ∷ []))
          (sym c.line.ensures) got.told;
      tested = c.in-Ok.ensures;
    })

pub returns-in-TooLong-clause-greets : goal.returns-in-TooLong-clause-greets
returns-in-TooLong-clause-greets g c =
    (overlong c.next_line.new.self _ _ (c.next_line.ensures.limits.longest ∙ c.requires.longest) c.in-TooLong.ensures.got, c.in-TooLong.ensures.got.same)
