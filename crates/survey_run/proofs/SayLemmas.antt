-- What a desk says, session by session.
use Rattle.std.proofs.Common.{◌≡◌, ℕ, Bool, true, false, ◌||◌, ◌+◌, List, [], ◌∷◌, ◌++◌, length, map, take, Option, Some, slice_get, refl, ap, sym, subst, ◌∙◌, append-nil}
use Rattle.std.specs.List.{AllZip, AllByRecursion, list_any}
use Rattle.std.specs.Global.{Vec}
use Rattle.std.specs.Prelude.{vec_len}
use Rattle.std.proofs.lemmas.Bool.{true≢false}
use Rattle.std.proofs.lemmas.Grind.{flat_map-append}
use Rattle.json_forms.specs.declared.messages.Message.{Message}
use Rattle.json_forms.specs.declared.replies.Reply.{Reply}
use Rattle.pair_enumeration.specs.Listed.{Listed}
use Rattle.session_protocol.specs.Exchanges.{asked_by, reply_by}
use Rattle.survey_replies.specs.Outcomes.{Exchange, Outcome}
use Rattle.survey_replies.specs.Calls.{Seen, IsCall, Conversation}
use Rattle.survey_replies.proofs.CallLemmas.{conversation_more, conversations_join_lem, not_begun}
use Rattle.survey_script.specs.ScriptViews.{ScriptSessionView}
use Rattle.survey_run.specs.Sessions.{MessageRun, message_exchange, message_exchanges, message_reply}
use Rattle.survey_run.proofs.EachLemmas.{take_one_more}
use Rattle.survey_run.specs.Desks.{DeskSession, HasNoSession, HasSessionRoom, IsSaid, IsSaidBy, SaysAll, SaysOne, is_at, lists_of, said_exchanges}

pub map_push : {X Y : Type 0} (f : X → Y) (xs : List X) (x : X) → map f (xs ++ x ∷ []) ≡ map f xs ++ f x ∷ []
map_push f [] x = refl
map_push f (y ∷ ys) x = ap (λ zs. f y ∷ zs) (map_push f ys x)

pub each_push_rec : {X : Type 0} (P : X → Type 0) (xs : List X) (x : X) → AllByRecursion P xs → P x → AllByRecursion P (xs ++ x ∷ [])
each_push_rec P [] x each p = (p, tt)
each_push_rec P (y ∷ ys) x each p = (each.0, each_push_rec P ys x each.1 p)

-- in no session nothing is said
pub says_none : (listed : Listed) (respondent desk : ℕ) (seen : Seen) → SaysAll listed respondent desk seen seen [] []
says_none listed respondent desk seen = record {
  said = [];
  each = tt;
  of = refl;
  shown = refl;
  talk = not_begun listed desk seen;
}

-- one session more
pub says_push : (listed : Listed) (respondent desk : ℕ) (before middle after : Seen) (sessions : List ScriptSessionView) (told : List (List Reply))
    (session : ScriptSessionView) (replies : List Reply) → SaysAll listed respondent desk before middle sessions told
    → SaysOne listed respondent desk middle after session replies
    → SaysAll listed respondent desk before after (sessions ++ session ∷ []) (told ++ replies ∷ [])
says_push listed respondent desk before middle after sessions told session replies says one =
    let last : DeskSession = record { session = session; messages = one.messages; replies = replies } in
    let joined : said_exchanges (says.said ++ last ∷ []) ≡ said_exchanges says.said ++ message_exchanges one.messages =
    flat_map-append (λ (x : DeskSession). message_exchanges x.messages) says.said (last ∷ []) ∙ ap (λ (xs : List Exchange). said_exchanges says.said ++ xs) (append-nil (message_exchanges one.messages)) in
    record {
      said = says.said ++ last ∷ [];
      each = each_push_rec (IsSaidBy (length listed.classes) respondent desk) says.said last says.each one.is;
      of = map_push (λ (x : DeskSession). x.session) says.said last ∙ ap (λ (xs : List ScriptSessionView). xs ++ session ∷ []) says.of;
      shown = map_push (λ (x : DeskSession). x.replies) says.said last ∙ ap (λ (xs : List (List Reply)). xs ++ replies ∷ []) says.shown;
      talk = subst (Conversation listed desk before after) (sym joined)
          (conversations_join_lem listed desk before middle after (said_exchanges says.said) (message_exchanges one.messages) says.talk one.talk);
    }

pub or_none : (a b : Bool) → (a || b) ≡ false → (a ≡ false) × (b ≡ false)
or_none false b none = (refl, none)
or_none true b none = absurd (true≢false none)

-- where no session is the desk's, nothing is said in any
pub silent : List ScriptSessionView → List DeskSession
silent sessions = map (λ session. record { session = session; messages = []; replies = [] }) sessions

silent_each : (classes respondent desk : ℕ) (sessions : List ScriptSessionView) → HasNoSession respondent desk sessions
    → AllByRecursion (IsSaidBy classes respondent desk) (silent sessions)
unfolding silent
silent_each classes respondent desk [] none = tt
silent_each classes respondent desk (s ∷ ss) none =
    let each = or_none (is_at respondent desk s) (list_any (is_at respondent desk) ss) none in
    (subst (λ b. IsSaid classes desk b (record { session = s; messages = []; replies = [] })) (sym each.0) (refl, refl), silent_each classes respondent desk ss each.1)

silent_of : (sessions : List ScriptSessionView) → map (λ (one : DeskSession). one.session) (silent sessions) ≡ sessions
unfolding silent
silent_of [] = refl
silent_of (s ∷ ss) = ap (λ (xs : List ScriptSessionView). s ∷ xs) (silent_of ss)

silent_shown : (respondent desk : ℕ) (sessions : List ScriptSessionView) (rooms : List (Vec Reply)) → AllZip (HasSessionRoom respondent desk) sessions rooms
    → map (λ (one : DeskSession). one.replies) (silent sessions) ≡ map (λ (room : Vec Reply). room.items) rooms
unfolding silent
silent_shown respondent desk [] [] each = refl
silent_shown respondent desk [] (r ∷ rs) each = absurd each
silent_shown respondent desk (s ∷ ss) [] each = absurd each
silent_shown respondent desk (s ∷ ss) (r ∷ rs) each = let e = each.0.empty in rw e (ap (λ (xs : List (List Reply)). [] ∷ xs) (silent_shown respondent desk ss rs each.1))

silent_talk : (sessions : List ScriptSessionView) → said_exchanges (silent sessions) ≡ []
unfolding silent
silent_talk [] = refl
silent_talk (s ∷ ss) = silent_talk ss

pub says_nothing : (listed : Listed) (respondent desk : ℕ) (seen : Seen) (sessions : List ScriptSessionView) (rooms : Vec (Vec Reply))
    → HasNoSession respondent desk sessions → AllZip (HasSessionRoom respondent desk) sessions rooms.items
    → SaysAll listed respondent desk seen seen sessions (lists_of rooms)
says_nothing listed respondent desk seen sessions rooms none each = record {
  said = silent sessions;
  each = silent_each (length listed.classes) respondent desk sessions none;
  of = silent_of sessions;
  shown = silent_shown respondent desk sessions rooms.items each;
  talk = subst (Conversation listed desk seen seen) (sym (silent_talk sessions)) (not_begun listed desk seen);
}

-- ---- in loops
pub says_begun : (listed : Listed) (respondent desk : ℕ) (seen : Seen) (sessions : List ScriptSessionView) (told : Vec (Vec Reply)) → told.items ≡ []
    → vec_len told ≡ 0 → SaysAll listed respondent desk seen seen (take (vec_len told) sessions) (lists_of told)
says_begun listed respondent desk seen sessions told empty zero =
    rw zero (subst (λ (items : List (Vec Reply)). SaysAll listed respondent desk seen seen [] (map (λ (replies : Vec Reply). replies.items) items)) (sym empty)
    (says_none listed respondent desk seen))

pub says_more : (listed : Listed) (respondent desk : ℕ) (before middle after : Seen) (sessions : List ScriptSessionView) (told new : Vec (Vec Reply))
    (session : ScriptSessionView) (replies : Vec Reply) → new.items ≡ told.items ++ replies ∷ [] → vec_len new ≡ vec_len told + 1
    → slice_get sessions (vec_len told) ≡ Some session → SaysAll listed respondent desk before middle (take (vec_len told) sessions) (lists_of told)
    → SaysOne listed respondent desk middle after session replies.items
    → SaysAll listed respondent desk before after (take (vec_len new) sessions) (lists_of new)
says_more listed respondent desk before middle after sessions told new session replies pushed longer at says one =
    let lists : lists_of new ≡ lists_of told ++ replies.items ∷ [] =
    ap (map (λ (replies : Vec Reply). replies.items)) pushed ∙ map_push (λ (replies : Vec Reply). replies.items) told.items replies in
    rw (lists, take_one_more sessions (vec_len told) (vec_len new) session longer at)
    (says_push listed respondent desk before middle after (take (vec_len told) sessions) (lists_of told) session replies.items says one)

-- a message and its reply more
pub messages_more : (listed : Listed) (desk : ℕ) (before middle after : Seen) (messages : List MessageRun) (message : Option Message) (came : Outcome)
    → Conversation listed desk before middle (message_exchanges messages) → IsCall listed desk middle after (asked_by message) came
    → Conversation listed desk before after (message_exchanges (messages ++ record { message = message; came = came } ∷ []))
messages_more listed desk before middle after messages message came talk call =
    rw (map_push message_exchange messages (record { message = message; came = came }))
    (conversation_more listed desk before middle after (message_exchanges messages) (message_exchange (record { message = message; came = came })) talk call)

pub replies_more : (first : Reply) (messages : List MessageRun) (message : Option Message) (came : Outcome) (reply : Reply) (old new : List Reply)
    → new ≡ old ++ reply ∷ [] → old ≡ first ∷ map message_reply messages → reply ≡ reply_by message came
    → new ≡ first ∷ map message_reply (messages ++ record { message = message; came = came } ∷ [])
replies_more first messages message came reply old new pushed before replied =
    let last : MessageRun = record { message = message; came = came } in
    pushed ∙ (ap (λ (xs : List Reply). xs ++ reply ∷ []) before ∙ ap (λ (xs : List Reply). first ∷ xs)
    (ap (λ (r : Reply). map message_reply messages ++ r ∷ []) replied ∙ sym (map_push message_reply messages last)))
