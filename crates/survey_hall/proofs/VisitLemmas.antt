-- What a connection at a desk comes to.
use Rattle.std.proofs.Common.{◌≡◌, ℕ, List, length, Option, inl, inr, refl, subst, sym}
use Rattle.edges.specs.Told.{Appends, AppendsPrefix}
use Rattle.criteria_model.specs.Criteria.{Criteria}
use Rattle.pair_enumeration.specs.Listed.{Listed, IsListed}
use Rattle.survey_core.specs.Legal.{IsLegal}
use Rattle.survey_replies.specs.Calls.{Seen}
use Rattle.session_protocol.specs.declared.sessions.CountedEnd.{CountedEnd}
use Rattle.session_protocol.specs.declared.sessions.SessionEnd.TheVariants.{WriteFault}
use Rattle.session_protocol.specs.declared.sessions.TheConstants.{MAX_MESSAGES}
use Rattle.session_protocol.specs.Sessions.{IsCountedSession, session_view}
use Rattle.shared_survey.specs.declared.pass.Front.{Front}
use Rattle.shared_survey.specs.Passes.{front_journal, front_seen}
use Rattle.survey_hall.specs.ConnectionViews.{connection_view}
use Rattle.survey_hall.specs.Visits.{IsVisit, OwnsSeenPlaces, welcome_text}

module _ (listed : Listed) (criteria : Criteria) (desk : ℕ) (seen : Seen) where
  -- the welcome was written, and a session followed
  pub visit_ran : (ahead after written middle now : Option (List ℕ)) {last : Seen} (began : ℕ) (front : Front) (counted : CountedEnd) → listed.criteria ≡ criteria → IsListed listed
      → began ≡ length seen.journal → OwnsSeenPlaces seen → IsLegal listed (front_journal front) → front_seen front ≡ last
      → Appends written middle (welcome_text criteria desk)
      → IsCountedSession listed desk (session_view seen ahead middle) (session_view last after now) MAX_MESSAGES counted
      → IsVisit criteria desk (connection_view ahead written) (connection_view after now) began front counted
  visit_ran ahead after written middle now {last} began front counted model lists from owned legal all welcome session = record {
    listed = listed;
    model = model;
    lists = lists;
    seen = seen;
    from = from;
    owned = owned;
    legal = legal;
    run = inl (record {
      written = middle;
      welcome = subst (λ (c : Criteria). Appends written middle (welcome_text c desk)) (sym model) welcome;
      session = subst (λ (s : Seen). IsCountedSession listed desk (session_view seen ahead middle) (session_view s after now) MAX_MESSAGES counted) (sym all) session;
    });
  }

  -- the sink failed at the welcome
  pub visit_cut : (ahead written now : Option (List ℕ)) (began : ℕ) (front : Front) (counted : CountedEnd) → listed.criteria ≡ criteria → IsListed listed
      → began ≡ length seen.journal → OwnsSeenPlaces seen → IsLegal listed (front_journal front) → front_seen front ≡ seen
      → AppendsPrefix written now (welcome_text criteria desk) → counted ≡ record { end = WriteFault; replies = 0 }
      → IsVisit criteria desk (connection_view ahead written) (connection_view ahead now) began front counted
  visit_cut ahead written now began front counted model lists from owned legal all welcome none = record {
    listed = listed;
    model = model;
    lists = lists;
    seen = seen;
    from = from;
    owned = owned;
    legal = legal;
    run = inr (record {
      welcome = subst (λ (c : Criteria). AppendsPrefix written now (welcome_text c desk)) (sym model) welcome;
      ahead = refl;
      unchanged = all;
      none = none;
    });
  }
