use Rattle.std.proofs.Common.{pos, ◌<ℤ◌, length, ap, sym, ◌∙◌}
use Rattle.row_laws.specs.Rows.{dot}
use Rattle.criteria_model.specs.Worth.{increments}
use Rattle.criteria_model.specs.Answers.{Ranks, MeetsAll}
use Rattle.criteria_model.proofs.GainLemmas.{length-gain}
use Rattle.simplex.specs.Rows.{IsCoprime}
use Rattle.decider.proofs.WitnessLists.{some_weaker, gaining_ranks}
use Rattle.decider.proofs.witnesses.Witnesses.find.Goals as goal

pub first_gaining-requires : goal.first_gaining-requires
first_gaining-requires c =
    ap length c.gain-gain.ensures ∙ length-gain c.args.model.now.levels c.args.pair.now c.args.side c.requires.pair_fits
    ∙ ap increments (sym c.catch_up.ensures)

pub first_meeting-requires-clause-row : goal.first_meeting-requires-clause-row
first_meeting-requires-clause-row c = ap length c.gain-gain.ensures ∙ length-gain c.args.model.now.levels c.args.pair.now c.args.side c.requires.pair_fits

pub returns : goal.returns
returns c =
    some_weaker (λ v. MeetsAll c.args.model.now.levels c.args.answers.now.answers v × (pos 0 <ℤ dot v c.gain-gain.result) × IsCoprime v)
    (λ v. MeetsAll c.args.model.now.levels c.args.answers.now.answers v × Ranks c.args.model.now.levels v c.args.pair.now c.args.side × IsCoprime v)
    (λ v h. (h.0, gaining_ranks c.args.model.now.levels v c.gain-gain.result c.args.pair.now c.args.side c.requires.strict c.gain-gain.ensures h.1, h.2))
    c.first_meeting.result c.first_meeting.ensures
