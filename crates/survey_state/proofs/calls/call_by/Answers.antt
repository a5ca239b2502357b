use Rattle.std.proofs.Common.{◌≡◌, List, ap, sym, subst, ◌∙◌}
use Rattle.criteria_model.specs.declared.pairs.Side.{Side}
use Rattle.decider.specs.declared.tools.Snapshot.{Snapshot}
use Rattle.pair_enumeration.specs.Listed.{Listed}
use Rattle.survey_core.specs.declared.events.Event.{Event}
use Rattle.survey_replies.specs.Calls.{IsCall}
use Rattle.survey_replies.proofs.TurnLemmas.{call_is_made_lem, preparations_join_lem}
use Rattle.survey_state.specs.Findings.{IsFinding, LooksAt, IsFoundIn}
use Rattle.survey_state.proofs.FindingLemmas.{found_in, tools_kept, tools_kept_on}
use Rattle.survey_state.proofs.calls.call_by.Goals as goal

pub returns-in-Reply-clause-call : goal.returns-in-Reply-clause-call
returns-in-Reply-clause-call g c =
    let A = g.A.Access in
    let replies = c.in-Reply.ensures.turn in
    let same : A.listed (A.about c.loop-reply.access) ≡ A.listed (A.about c.args.access.now) = ap A.listed c.loop-reply.invariant.same in
    subst (λ (l : Listed). IsCall l (g.C.Call.desk c.args.call.now) (A.seen c.args.access.now) (A.seen c.turn_by.new.access)
    (g.C.Call.request c.args.call.now) (g.C.Call.outcome_of c.in-Reply.reply)) same
    (call_is_made_lem (A.listed (A.about c.loop-reply.access)) (g.C.Call.desk c.args.call.now) (A.seen c.args.access.now) (A.seen c.loop-reply.access)
    (A.seen c.turn_by.new.access) replies.found (g.C.Call.request c.args.call.now) (g.C.Call.outcome_of c.in-Reply.reply)
    c.loop-reply.invariant.prepares replies.turn replies.replied)

pub loop-reply-preserved-in-Look : goal.loop-reply-preserved-in-Look
loop-reply-preserved-in-Look g c =
    let A = g.A.Access in
    let asked = g.C.Call.request c.args.call.now in
    let listed : Listed = A.listed (A.about c.args.access.now) in
    let journal : List Event = (A.seen c.turn_by.new.access).journal in
    let snapshot : Snapshot = c.turn_by.new.tools.snapshot in
    let looks : LooksAt listed journal asked snapshot c.in-Look.look =
    subst (λ (l : Listed). LooksAt l journal asked snapshot c.in-Look.look) (ap A.listed c.loop-reply.invariant.same) c.in-Look.ensures.turn.1 in
    record {
      prepares =
          preparations_join_lem asked (A.seen c.args.access.now) (A.seen c.loop-reply.access) (A.seen c.turn_by.new.access)
          c.loop-reply.invariant.prepares c.in-Look.ensures.turn.0;
      free = c.in-Look.ensures.free;
      same = c.in-Look.ensures.same ∙ c.loop-reply.invariant.same;
      rooms = tools_kept c.args.tools.now c.turn_by.new.tools c.found_of.new.tools (tools_kept_on c.args.tools.now c.loop-reply.tools c.turn_by.new.tools c.loop-reply.invariant.rooms c.in-Look.ensures.rooms) c.found_of.ensures.snapshot c.found_of.ensures.room;
      found = (
        c.found_of.ensures.at ∙ looks.look_at.at,
        subst (λ (s : Snapshot). IsFoundIn listed journal asked (g.C.Call.wanted c.args.call.now) s c.found_of.result) (sym c.found_of.ensures.snapshot)
            (found_in listed journal asked (g.C.Call.wanted c.args.call.now) snapshot c.in-Look.look c.found_of.result looks c.found_of.ensures.at c.found_of.ensures.place
            (subst (λ (s : Side). IsFinding c.in-Look.look.model.levels snapshot.answers.answers c.in-Look.look.pair s c.found_of.result.finding) c.side.ensures
            c.found_of.ensures.finding)),
      );
    }

pub loop-reply-preserved : goal.loop-reply-preserved
loop-reply-preserved g c =
    let A = g.A.Access in
    record {
      prepares =
          preparations_join_lem (g.C.Call.request c.args.call.now) (A.seen c.args.access.now) (A.seen c.loop-reply.access) (A.seen c.turn_by.new.access)
          c.loop-reply.invariant.prepares c.in-Again.ensures.turn;
      free = c.in-Again.ensures.free;
      same = c.in-Again.ensures.same ∙ c.loop-reply.invariant.same;
      rooms = tools_kept_on c.args.tools.now c.loop-reply.tools c.turn_by.new.tools c.loop-reply.invariant.rooms c.in-Again.ensures.rooms;
      found = tt;
    }
