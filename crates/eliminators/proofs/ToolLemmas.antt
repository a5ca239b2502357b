-- Tools between jobs.
use Rattle.std.proofs.Common.{◌≡◌, List, refl, sym, subst, arith}
use Rattle.criteria_model.specs.Criteria.{Criteria}
use Rattle.decider.specs.declared.tools.Tools.{Tools}
use Rattle.decider.specs.Reserved.{IsReserved}
use Rattle.decider.specs.ToolDecisions.{AreReady}
use Rattle.pair_enumeration.specs.Listed.{Listed}
use Rattle.survey_core.specs.declared.events.Event.{Event}
use Rattle.survey_state.specs.Findings.{KeepsTools}
use Rattle.eliminators.specs.Jobs.{IsReadySnapshot}

pub tools_ready : (model : Criteria) (listed : Listed) (journal : List Event) (tools : Tools) → model ≡ listed.criteria → IsReserved model tools
    → IsReadySnapshot listed journal tools.snapshot → AreReady model tools
tools_ready model listed journal tools same reserved ready =
    subst (λ (criteria : Criteria). AreReady criteria tools) (sym same) (record {
      reserved = subst (λ (criteria : Criteria). IsReserved criteria tools) same reserved;
      few = ready.few;
      answers_fit = ready.answers_fit;
      meets = ready.copy.has.meets;
    })

pub still_reserved : (model : Criteria) (old new : Tools) → IsReserved model old → KeepsTools old new → IsReserved model new
still_reserved model old new reserved keeps = record {
  snapshot = omega (arith, reserved.snapshot, keeps.answers);
  work = record {
    columns = omega (arith, reserved.work.columns, keeps.work.columns);
    rows = omega (arith, reserved.work.rows, keeps.work.rows);
  };
}

pub nothing_lost : (tools : Tools) → KeepsTools tools tools
nothing_lost tools = record { answers = refl; work = record { columns = refl; rows = refl } }
