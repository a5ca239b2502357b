-- Where one desk asks and answers alone, eliminations change no reply.
use Rattle.std.specs.Prelude.{◌≡◌, ℕ, ◌<◌, List, [], ◌∷◌, Some, slice_get, map}
use Rattle.pair_enumeration.specs.Listed.{Listed, IsListed}
use Rattle.survey_core.specs.declared.events.Event.{Event}
use Rattle.survey_core.specs.Legal.{IsLegal}
use Rattle.survey_replies.specs.Gists.{gist_of}
use Rattle.survey_replies.specs.Outcomes.{Exchange}
use Rattle.survey_replies.specs.Calls.{Seen, unseen, Conversation, occurrences}
use Rattle.survey_replies.specs.CallLaws.{IsNoEliminate}
use Rattle.survey_replies.specs.JournalLaws.{DeskRun, WorkerRun, MakesJournal}
use Rattle.survey_replies.specs.PlainRun.{plain_start, IsPlainRun}

-- each event seen that is no Eliminate is the respondent's own
abbrev pub IsAlone : Seen → Type 0
IsAlone seen = (place : ℕ) (event : Event) → slice_get seen.journal place ≡ Some event → IsNoEliminate event → 0 < occurrences place seen.own

-- a conversation that is alone on a legal journal replies as the plain run does
abbrev pub AloneIsPlain : Type 0
AloneIsPlain =
    (listed : Listed) (desk : ℕ) (after : Seen) (exchanges : List Exchange) → IsListed listed → IsLegal listed after.journal
    → Conversation listed desk unseen after exchanges → IsAlone after → IsPlainRun listed plain_start exchanges

-- and, certificates apart, as every plain run of the same requests
abbrev pub AloneIsThePlain : Type 0
AloneIsThePlain =
    (listed : Listed) (desk : ℕ) (after : Seen) (exchanges others : List Exchange) → IsListed listed → IsLegal listed after.journal
    → Conversation listed desk unseen after exchanges → IsAlone after
    → map (λ exchange. exchange.request) others ≡ map (λ exchange. exchange.request) exchanges → IsPlainRun listed plain_start others
    → map (λ exchange. gist_of exchange.reply) others ≡ map (λ exchange. gist_of exchange.reply) exchanges

-- so a journal that one desk and eliminators made has the replies of the plain run
abbrev pub OneDeskIsPlain : Type 0
OneDeskIsPlain =
    (listed : Listed) (journal : List Event) (run : DeskRun) (workers : List WorkerRun) → IsListed listed → IsLegal listed journal
    → MakesJournal listed journal (run ∷ []) workers → IsPlainRun listed plain_start run.exchanges
