-- What replies rest on, with an elimination more or less.
use Rattle.std.proofs.Common.{◌≡◌, ℕ, ◌+◌, Bool, true, false, cond, not, ◌&&◌, ◌||◌, List, [], ◌∷◌, ◌++◌, length, Option, None, refl, ap, sym, ◌∙◌, append-nil, arith}
use Rattle.std.specs.List.{filter, filter_map, fold, list_any, range_with_len, count_by, cons_option}
use Rattle.std.proofs.lemmas.List.Elements.{filter-append, filter_map-append, filter_agree}
use Rattle.std.proofs.lemmas.List.Sums.{sum_by-append, sum_by-cons}
use Rattle.criteria_model.specs.declared.pairs.Side.{Side}
use Rattle.farkas_check.specs.declared.combination.Combination.{Combination}
use Rattle.survey_core.specs.declared.events.Event.{Event}
use Rattle.survey_core.specs.declared.events.Event.TheVariants.{Eliminate, Issue, Commit, Close, Withdraw}
use Rattle.survey_core.specs.Kinds.{cites, issued_place, is_commit, is_withdraw}
use Rattle.survey_core.specs.Histories.{standing, standing_after, without_taken, issued, answer_of, committed, ends, is_unended, open_questions, withdrawals}
use Rattle.survey_replies.specs.Interview.{answered, answered_question}
use Rattle.survey_replies.specs.Laws.{EliminationsChangeNoReply}

pub count_by-append : {X : Type 0} (p : X → Bool) (xs ys : List X) → count_by p (xs ++ ys) ≡ count_by p xs + count_by p ys
count_by-append p xs ys = sum_by-append (λ x. cond (p x) 1 0) xs ys

-- ---- the events without the Eliminates
abbrev is_other : Event → Bool
is_other (Eliminate worker place verdict combination) = false
is_other _ = true

abbrev others : List Event → List Event
others events = filter is_other events

any_others : (p : Event → Bool) → ((worker place : ℕ) (verdict : Side) (combination : Combination) → p (Eliminate worker place verdict combination) ≡ false)
    → (events : List Event) → list_any p (others events) ≡ list_any p events
any_others p none [] = refl
any_others p none (Eliminate worker place verdict combination ∷ later) =
    any_others p none later ∙ sym (ap (λ b. b || list_any p later) (none worker place verdict combination))
any_others p none (Issue desk place plus minus ∷ later) = ap (λ b. p (Issue desk place plus minus) || b) (any_others p none later)
any_others p none (Commit desk question side plus minus point ∷ later) =
    ap (λ b. p (Commit desk question side plus minus point) || b) (any_others p none later)
any_others p none (Close desk question ∷ later) = ap (λ b. p (Close desk question) || b) (any_others p none later)
any_others p none (Withdraw desk answer ∷ later) = ap (λ b. p (Withdraw desk answer) || b) (any_others p none later)

map_others : {Y : Type 0} (f : Event → Option Y)
    → ((worker place : ℕ) (verdict : Side) (combination : Combination) → f (Eliminate worker place verdict combination) ≡ None)
    → (events : List Event) → filter_map f (others events) ≡ filter_map f events
map_others f none [] = refl
map_others f none (Eliminate worker place verdict combination ∷ later) =
    map_others f none later ∙ sym (ap (λ o. cons_option o (filter_map f later)) (none worker place verdict combination))
map_others f none (Issue desk place plus minus ∷ later) = ap (λ rest. cons_option (f (Issue desk place plus minus)) rest) (map_others f none later)
map_others f none (Commit desk question side plus minus point ∷ later) =
    ap (λ rest. cons_option (f (Commit desk question side plus minus point)) rest) (map_others f none later)
map_others f none (Close desk question ∷ later) = ap (λ rest. cons_option (f (Close desk question)) rest) (map_others f none later)
map_others f none (Withdraw desk answer ∷ later) = ap (λ rest. cons_option (f (Withdraw desk answer)) rest) (map_others f none later)

-- ---- what a withdrawal takes out
either_rest : (worker place : ℕ) (verdict : Side) (combination : Combination) (rest : List Event) (b : Bool)
    → others (cond b rest (Eliminate worker place verdict combination ∷ rest)) ≡ others rest
either_rest worker place verdict combination rest true = refl
either_rest worker place verdict combination rest false = refl

kept_rest : (rest : List Event) (b : Bool) (event : Event) → is_other event ≡ true
    → others (cond b rest (event ∷ rest)) ≡ cond b (others rest) (event ∷ others rest)
kept_rest rest true event other = refl
kept_rest rest false event other = ap (λ t. cond t (event ∷ others rest) (others rest)) other

commits_none : (worker place : ℕ) (verdict : Side) (combination : Combination) → is_commit (Eliminate worker place verdict combination) ≡ false
commits_none worker place verdict combination = refl

others-taken : (n : ℕ) (b : Bool) (events : List Event) → others (without_taken n b events) ≡ without_taken n b (others events)
others-taken n b [] = refl
others-taken n b (Eliminate worker place verdict combination ∷ later) =
    either_rest worker place verdict combination (without_taken n b later) (cites n (Eliminate worker place verdict combination))
    ∙ others-taken n b later
others-taken n b (Issue desk place plus minus ∷ later) = ap (λ rest. Issue desk place plus minus ∷ rest) (others-taken n b later)
others-taken n b (Commit desk question side plus minus point ∷ later) =
    let event : Event = Commit desk question side plus minus point in
    let rest : List Event = without_taken n b (others later) in
    kept_rest (without_taken n b later) (not (list_any is_commit later)) event refl
    ∙ ap (λ l. cond (not (list_any is_commit later)) l (event ∷ l)) (others-taken n b later)
    ∙ sym (ap (λ t. cond (not t) rest (event ∷ rest)) (any_others is_commit commits_none later))
others-taken n b (Close desk question ∷ later) =
    let event : Event = Close desk question in
    let rest : List Event = without_taken n b (others later) in
    kept_rest (without_taken n b later) (b && not (list_any is_commit later)) event refl
    ∙ ap (λ l. cond (b && not (list_any is_commit later)) l (event ∷ l)) (others-taken n b later)
    ∙ sym (ap (λ t. cond (b && not t) rest (event ∷ rest)) (any_others is_commit commits_none later))
others-taken n b (Withdraw desk answer ∷ later) = ap (λ rest. Withdraw desk answer ∷ rest) (others-taken n b later)

-- ---- standing events
others-after : (one two : List Event) (event : Event) → others one ≡ others two → others (standing_after one event) ≡ others (standing_after two event)
others-after one two (Eliminate worker place verdict combination) same =
    let event : Event = Eliminate worker place verdict combination in
    filter-append is_other one (event ∷ []) ∙ ap (λ l. l ++ []) same ∙ sym (filter-append is_other two (event ∷ []))
others-after one two (Issue desk place plus minus) same =
    let event : Event = Issue desk place plus minus in
    filter-append is_other one (event ∷ []) ∙ ap (λ l. l ++ event ∷ []) same ∙ sym (filter-append is_other two (event ∷ []))
others-after one two (Commit desk question side plus minus point) same =
    let event : Event = Commit desk question side plus minus point in
    filter-append is_other one (event ∷ []) ∙ ap (λ l. l ++ event ∷ []) same ∙ sym (filter-append is_other two (event ∷ []))
others-after one two (Close desk question) same =
    let event : Event = Close desk question in
    filter-append is_other one (event ∷ []) ∙ ap (λ l. l ++ event ∷ []) same ∙ sym (filter-append is_other two (event ∷ []))
others-after one two (Withdraw desk answer) same =
    let commit : list_any is_commit one ≡ list_any is_commit two =
    sym (any_others is_commit commits_none one) ∙ ap (λ l. list_any is_commit l) same ∙ any_others is_commit commits_none two in
    others-taken answer (list_any is_commit one) one
    ∙ ap (λ l. without_taken answer (list_any is_commit one) l) same
    ∙ ap (λ b. without_taken answer b (others two)) commit
    ∙ sym (others-taken answer (list_any is_commit two) two)

others-fold : (one two events : List Event) → others one ≡ others two → others (fold standing_after one events) ≡ others (fold standing_after two events)
others-fold one two [] same = same
others-fold one two (event ∷ events) same =
    others-fold (standing_after one event) (standing_after two event) events (others-after one two event same)

fold-append : (start front back : List Event) → fold standing_after start (front ++ back) ≡ fold standing_after (fold standing_after start front) back
fold-append start [] back = refl
fold-append start (event ∷ front) back = fold-append (standing_after start event) front back

module _ (before after : List Event) (worker place : ℕ) (verdict : Side) (combination : Combination) where
  abbrev gone : Event
  gone = Eliminate worker place verdict combination

  abbrev with_it : List Event
  with_it = before ++ gone ∷ after

  abbrev without_it : List Event
  without_it = before ++ after

  same_others : others (standing with_it) ≡ others (standing without_it)
  same_others =
      let here : others (standing before ++ gone ∷ []) ≡ others (standing before) =
      filter-append is_other (standing before) (gone ∷ []) ∙ append-nil (others (standing before)) in
      ap others (fold-append [] before (gone ∷ after))
      ∙ others-fold (standing before ++ gone ∷ []) (standing before) after here
      ∙ sym (ap others (fold-append [] before after))

  same_issued : issued with_it ≡ issued without_it
  same_issued = filter_map-append issued_place before (gone ∷ after) ∙ sym (filter_map-append issued_place before after)

  same_map : {Y : Type 0} (f : Event → Option Y)
      → ((w p : ℕ) (v : Side) (c : Combination) → f (Eliminate w p v c) ≡ None)
      → filter_map f (standing with_it) ≡ filter_map f (standing without_it)
  same_map f none = sym (map_others f none (standing with_it)) ∙ ap (λ l. filter_map f l) same_others ∙ map_others f none (standing without_it)

  same_unended : (question : ℕ) → is_unended with_it question ≡ is_unended without_it question
  same_unended question =
      ap not (sym (any_others (ends question) (λ w p v c. refl) (standing with_it)) ∙ ap (λ l. list_any (ends question) l) same_others
      ∙ any_others (ends question) (λ w p v c. refl) (standing without_it))

  same_open : open_questions with_it ≡ open_questions without_it
  same_open =
      ap (λ (l : List ℕ). filter (is_unended with_it) (range_with_len 1 (length l))) same_issued
      ∙ filter_agree (is_unended with_it) (is_unended without_it) same_unended (range_with_len 1 (length (issued without_it)))

  same_withdrawals : withdrawals with_it ≡ withdrawals without_it
  same_withdrawals =
      omega (
        arith,
        count_by-append is_withdraw before (gone ∷ after),
        count_by-append is_withdraw before after,
        sum_by-cons (λ x. cond (is_withdraw x) 1 0) gone after,
      )

pub eliminations_change_no_reply_lem : EliminationsChangeNoReply
eliminations_change_no_reply_lem listed before after worker place verdict combination =
    let more : List Event = before ++ Eliminate worker place verdict combination ∷ after in
    let asked : issued more ≡ issued (before ++ after) = same_issued before after worker place verdict combination in
    let answers : committed listed.classes more ≡ committed listed.classes (before ++ after) =
    ap (λ (l : List ℕ). filter_map (answer_of listed.classes l) (standing more)) asked
    ∙ same_map before after worker place verdict combination (answer_of listed.classes (issued (before ++ after))) (λ w p v c. refl) in
    let questions : answered more ≡ answered (before ++ after) =
    same_map before after worker place verdict combination answered_question (λ w p v c. refl) in
    let unanswered : open_questions more ≡ open_questions (before ++ after) = same_open before after worker place verdict combination in
    let count : withdrawals more ≡ withdrawals (before ++ after) = same_withdrawals before after worker place verdict combination in
    λ i. record {
      asked = asked i;
      answers = answers i;
      answered = questions i;
      open_questions = unanswered i;
      withdrawals = count i;
    }
