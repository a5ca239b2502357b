use Rattle.std.proofs.Common.{◌≡◌, ◌++◌, vec_len, rules, ◌≢◌, ◌<◌, List, [], ◌∷◌, length, length-append, Some, ℤ, refl, ap, sym, ◌∙◌, subst, arith}
use Rattle.criteria_model.specs.Worth.{increments}
use Rattle.pair_enumeration.specs.Listed.{Listed, IsListed}
use Rattle.survey_core.specs.declared.events.Event.{Event}
use Rattle.survey_core.specs.Legal.{IsLegal}
use Rattle.survey_core.specs.declared.limits.TheConstants.{MAX_EVENTS}
use Rattle.result_file.specs.Checked.{begun}
use Rattle.result_file.specs.Stops.{StopsAt}
use Rattle.result_file.specs.declared.stops.Stop.TheVariants.{Wrong}
use Rattle.result_file.specs.Contents.{of_events}
use Rattle.result_file.specs.Entries.{ReadsEntry}
use Rattle.survey_core.specs.declared.points.AnswerPoint.{AnswerPoint}
use Rattle.survey_core.specs.Points.{standing_points, points_after}
use Rattle.result_file.specs.Kept.{KeptSurvey, AddsEvent}
use Rattle.result_file.specs.Texts.{end_line}
use Rattle.result_file.proofs.EventLaws.{not_allowed, adds_event}
use Rattle.survey_core.proofs.PointLemmas.{points_next, points_room}
use Rattle.result_file.proofs.survey.Survey.add.Goals as goal

pub returns-in-Err-clause-failed : goal.returns-in-Err-clause-failed
returns-in-Err-clause-failed c =
    let reads : ReadsEntry c.self.inside.format c.self.inside.core.listed.criteria c.args.line.now (Some c.in-Some.entry) =
    c.in-Some.ensures c.self.inside.core.listed.criteria c.self.invariant.listed.model c.self.invariant.criteria c.self.invariant.increments in
    let room : length c.self.inside.core.history < MAX_EVENTS = omega (arith, c.self.invariant.count, c.if-self-ge-MAX_EVENTS.false) in
    subst (λ (k : KeptSurvey). c.args.line.now ≢ end_line → StopsAt (begun (of_events k.format k.survey)) c.args.line.now (Wrong c.from.result)) c.self.view_is
    (λ no_end. not_allowed c.in-Err.broken c.from.result c.self.inside.format c.self.inside.core c.args.line.now c.in-Some.entry c.in-Some-event_of.event reads.sound.1 reads.sound.0 room c.in-Some-event_of.ensures c.in-Err.ensures c.from.ensures)

pub returns-clause-added : goal.returns-clause-added
returns-clause-added c =
    let reads : ReadsEntry c.self.inside.format c.self.inside.core.listed.criteria c.args.line.now (Some c.in-Some.entry) =
    c.in-Some.ensures c.self.inside.core.listed.criteria c.self.invariant.listed.model c.self.invariant.criteria c.self.invariant.increments in
    let room : length c.self.inside.core.history < MAX_EVENTS = omega (arith, c.self.invariant.count, c.if-self-ge-MAX_EVENTS.false) in
    let new : KeptSurvey = record { format = c.self.inside.format; survey = c.apply.new.self } in
    subst (λ (k : KeptSurvey). AddsEvent k new c.args.line.now) c.self.view_is
    (adds_event (record { format = c.self.inside.format; survey = c.self.inside.core }) new c.args.line.now c.in-Some.entry c.in-Some-event_of.event reads.sound.1 reads.sound.0 room c.in-Some-event_of.ensures refl c.apply.ensures.listed c.apply.ensures.history c.apply.ensures.legal)

pub invariant_of-self : goal.invariant_of-self
invariant_of-self c =
    let event : Event = c.in-Some-event_of.event in
    record {
      listed = subst IsListed (sym c.apply.ensures.listed) c.self.invariant.listed;
      criteria = c.self.invariant.criteria ∙ ap (λ (l : Listed). length l.criteria.levels) (sym c.apply.ensures.listed);
      increments = c.self.invariant.increments ∙ ap (λ (l : Listed). increments l.criteria.levels) (sym c.apply.ensures.listed);
      count = omega (arith, c.self.invariant.count, ap (λ (events : List Event). length events) c.apply.ensures.history, length-append c.self.inside.core.history (event ∷ []));
      few = omega (arith, c.if-self-ge-MAX_EVENTS.false);
      points =
          c.follow.ensures.items
          ∙ ap (λ (points : List AnswerPoint). points_after points event) c.self.invariant.points
          ∙ sym (points_next c.self.inside.core.history event)
          ∙ ap standing_points (sym c.apply.ensures.history);
      room = omega (arith, c.self.invariant.room, c.follow.ensures.capacity, ap (λ (l : Listed). length l.classes) c.apply.ensures.listed);
    }

pub follow-requires : goal.follow-requires
follow-requires c commits =
    let event : Event = c.in-Some-event_of.event in
    let legal : IsLegal c.self.inside.core.listed (c.self.inside.core.history ++ event ∷ []) =
    rw (sym c.apply.ensures.listed, sym c.apply.ensures.history) c.apply.ensures.legal in
    let size : vec_len c.self.inside.points ≡ length c.self.inside.points.items = search rules in
    omega (
      arith,
      size,
      points_room c.self.inside.core.listed c.self.inside.core.history event c.self.invariant.listed legal commits,
      ap (λ (points : List AnswerPoint). length points) c.self.invariant.points,
      c.self.invariant.room,
    )
