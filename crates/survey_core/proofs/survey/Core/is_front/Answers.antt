use Rattle.std.proofs.Common.{◌↔◌, ◌-◌, IsTrue, map, sym, subst}
use Rattle.survey_core.specs.Recorded.{Recorded}
use Rattle.survey_core.specs.Legal.{IsPlace, AreEarlierAsked}
use Rattle.survey_core.specs.Marked.{AreSettled}
use Rattle.survey_core.proofs.KeptLemmas.{front_at}
use Rattle.survey_core.proofs.survey.Core.is_front.Goals as goal

pub returns : goal.returns
returns c =
    let is : IsPlace c.self.inside.classes c.args.place = subst (λ (r : Recorded). IsPlace r.listed c.args.place) (sym c.self.view_is) c.requires in
    let both : AreSettled c.self.inside.marks.classes (c.args.place - 1) ↔ AreEarlierAsked (map (λ event. event.value) c.self.inside.events.items) c.args.place =
    front_at _ _ _ _ _ _ c.self.invariant c.args.place is in
    subst (λ (r : Recorded). IsTrue c.is_front.result ↔ AreEarlierAsked r.history c.args.place) c.self.view_is
    ((λ front. both.0 (c.is_front.ensures.0 front)), (λ all. c.is_front.ensures.1 (both.1 all)))
