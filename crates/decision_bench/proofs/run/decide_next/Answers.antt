-- One answer more, and the point that meets it.
use Rattle.std.proofs.Common.{◌≡◌, ℕ, ◌++◌, ◌∷◌, [], ap, sym, length, length-append, arith, subst, List}
use Rattle.std.specs.Prelude.{All}
use Rattle.std.proofs.lemmas.List.Elements.{All-push}
use Rattle.criteria_model.specs.declared.pairs.Answer.{Answer}
use Rattle.criteria_model.specs.Pairs.{IsFit}
use Rattle.criteria_model.specs.Answers.{MeetsAll}
use Rattle.answer_rows.specs.Room.{room_of}
use Rattle.decider.specs.declared.tools.Snapshot.{Snapshot}
use Rattle.decision_bench.proofs.run.decide_next.Goals as goal

pub returns-in-Undecided : goal.returns-in-Undecided
returns-in-Undecided c =
    let answer : Answer = record { pair = c.class-pair.result; side = c.ranking-side.result } in
    let before = c.decide_from-decision.new.tools.snapshot.answers.answers in
    let kept : c.decide_from-decision.new.tools.snapshot ≡ c.args.tools.now.snapshot = c.decide_from-decision.ensures.snapshot in
    let room : room_of c.decide_from-decision.new.tools.snapshot.answers ≡ room_of c.args.tools.now.snapshot.answers = ap (λ (s : Snapshot). room_of s.answers) kept in
    let count : length before ≡ length c.args.tools.now.snapshot.answers.answers = ap (λ (s : Snapshot). length s.answers.answers) kept in
    record {
      ready = record {
        reserved = record {
          snapshot = omega (arith, c.push.ensures.room, room, c.requires.underway.ready.reserved.snapshot);
          work = record {
            columns = omega (arith, c.point_with-tools.ensures.up.room.columns, c.decide_from-decision.ensures.room.columns, c.requires.underway.ready.reserved.work.columns);
            rows = omega (arith, c.point_with-tools.ensures.up.room.rows, c.decide_from-decision.ensures.room.rows, c.requires.underway.ready.reserved.work.rows);
          };
        };
        few = omega (arith, c.requires.underway.most, count, ap length c.push.ensures.answers, length-append before (answer ∷ []), c.requires.high, c.count-count.ensures.listed.len);
        answers_fit = subst (λ (l : List Answer). All (λ a. IsFit c.args.classes.now.criteria.levels a.pair) l) (sym c.push.ensures.answers)
            (All-push (λ a. IsFit c.args.classes.now.criteria.levels a.pair) before answer
            (subst (λ (s : Snapshot). All (λ a. IsFit c.args.classes.now.criteria.levels a.pair) s.answers.answers) (sym kept) c.requires.underway.ready.answers_fit)
            c.class-pair.ensures.class.fits);
        meets = subst (λ (l : List Answer). MeetsAll c.args.classes.now.criteria.levels l c.point_with-tools.result) (sym c.push.ensures.answers)
            (subst (λ (l : List ℕ). MeetsAll l (before ++ answer ∷ []) c.point_with-tools.result) (ap (λ m. m.levels) c.model-model.ensures.value)
            c.point_with-tools.ensures.meets);
      };
      most = omega (arith, c.requires.underway.most, count, ap length c.push.ensures.answers, length-append before (answer ∷ []));
    }
