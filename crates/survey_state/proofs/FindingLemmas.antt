-- What was found stays right while the answers are the same.
use Rattle.std.proofs.Common.{◌≡◌, ℕ, ◌+◌, ◌≤◌, Bool, true, false, cond, List, [], ◌∷◌, ◌++◌, length, length-append, take, drop, inl, inr, All, Option, Some, None, IfSome, ℤ, refl, ap, sym, subst, ◌∙◌, arith, append-nil, append_assoc}
use Rattle.std.specs.List.{count_by}
use Rattle.std.proofs.lemmas.List.{take-append-le, take-append-drop}
use Rattle.std.proofs.lemmas.List.Elements.{All-append}
use mathlib.Core.List.{IsPrefix}
use Rattle.criteria_model.specs.declared.pairs.Pair.{Pair}
use Rattle.criteria_model.specs.declared.pairs.Answer.{Answer}
use Rattle.criteria_model.specs.declared.pairs.Side.{Side}
use Rattle.criteria_model.specs.Criteria.{Criteria}
use Rattle.criteria_model.specs.Pairs.{IsFit}
use Rattle.criteria_model.specs.declared.pairs.Side.TheVariants.{Left, Right}
use Rattle.criteria_model.specs.Counts.{class_count}
use Rattle.criteria_model.specs.Answers.{Ranks, Meets, MeetsAll, Opens}
use Rattle.decider.specs.declared.tools.Snapshot.{Snapshot}
use Rattle.decider.specs.declared.tools.Tools.{Tools}
use Rattle.decider.specs.Reserved.{IsReserved}
use Rattle.decider.specs.ToolDecisions.{AreReady}
use Rattle.decider.specs.Standing.{KeepsRoom}
use Rattle.answer_rows.specs.Room.{room_of}
use Rattle.farkas_check.specs.declared.combination.Combination.{Combination}
use Rattle.pair_enumeration.specs.Listed.{Listed}
use Rattle.question_queue.specs.declared.marks.Kept.{Kept}
use Rattle.survey_core.specs.declared.events.Event.{Event}
use Rattle.survey_core.specs.declared.events.Event.TheVariants.{Eliminate, Issue, Commit, Close, Withdraw}
use Rattle.survey_core.specs.Histories.{class_at, committed}
use Rattle.survey_core.specs.Legal.{IsPlace, IsLegal, OpensClass}
use Rattle.survey_core.proofs.ListSteps.{some_and, some_at, at_some, take_whole}
use Rattle.survey_core.proofs.StandingLemmas.{standing-push}
use Rattle.survey_core.proofs.SoundLemmas.{IsSound, sound_history, committed-push, committed-issue}
use Rattle.survey_replies.specs.Requests.{Request}
use Rattle.survey_replies.specs.Requests as request
use Rattle.survey_replies.proofs.InterviewLemmas.{count_by-append}
use Rattle.survey_state.specs.declared.findings.Look.{Look}
use Rattle.survey_state.specs.declared.findings.Finding.{Finding}
use Rattle.survey_state.specs.declared.findings.Finding.TheVariants.{Open, Ranked}
use Rattle.survey_state.specs.declared.findings.Found.{Found}
use Rattle.survey_state.specs.States.{changes_answers, version_of, IsKept, HasAnswersOf}
use Rattle.survey_state.specs.Sought.{IsSought}
use Rattle.survey_state.specs.Findings.{OpensByFirst, IsCertified, IsFinding, IsReadyFor, IsLook, LooksAt, IsFindingOf, IsFoundIn, IsFresh, IsCertifiedClass, MeetsWithClass, KeepsTools}
use Rattle.survey_core.proofs.FollowLemmas.{legal_front}

-- ---- the answers, after events that change none
same_after : (listed : Listed) (history : List Event) → IsSound listed history → (event : Event) → changes_answers event ≡ false
    → committed listed.classes (history ++ event ∷ []) ≡ committed listed.classes history
same_after listed history sound (Eliminate worker place verdict combination) same =
    committed-push listed history sound (Eliminate worker place verdict combination) refl (standing-push history (Eliminate worker place verdict combination))
    ∙ append-nil (committed listed.classes history)
same_after listed history sound (Issue desk place plus minus) same = committed-issue listed history sound desk place plus minus
same_after listed history sound (Commit desk question side plus minus point) same = absurd (let both : true ≡ false = same in cc)
same_after listed history sound (Close desk question) same =
    committed-push listed history sound (Close desk question) refl (standing-push history (Close desk question)) ∙ append-nil (committed listed.classes history)
same_after listed history sound (Withdraw desk answer) same = absurd (let both : true ≡ false = same in cc)

none_changes : (b : Bool) (count : ℕ) → count ≡ cond b 1 0 → count ≡ 0 → b ≡ false
none_changes true count is none = absurd (omega (arith, is, none))
none_changes false count is none = refl

same_answers : (listed : Listed) (history more : List Event) → IsLegal listed (history ++ more) → count_by changes_answers more ≡ 0
    → committed listed.classes (history ++ more) ≡ committed listed.classes history
same_answers listed history [] legal none = ap (λ (l : List Event). committed listed.classes l) (append-nil history)
same_answers listed history (event ∷ more) legal none =
    let whole : (history ++ event ∷ []) ++ more ≡ history ++ event ∷ more = append_assoc history (event ∷ []) more in
    let legal_whole : IsLegal listed ((history ++ event ∷ []) ++ more) = subst (λ (l : List Event). IsLegal listed l) (sym whole) legal in
    let sound : IsSound listed history = sound_history listed history (legal_front listed history (event ∷ more) legal) in
    let counts : count_by changes_answers (event ∷ more) ≡ count_by changes_answers (event ∷ []) + count_by changes_answers more =
    count_by-append changes_answers (event ∷ []) more in
    let one : 0 + cond (changes_answers event) 1 0 ≡ count_by changes_answers (event ∷ []) = refl in
    ap (λ (l : List Event). committed listed.classes l) (sym whole)
    ∙ same_answers listed (history ++ event ∷ []) more legal_whole (omega (arith, counts, none))
    ∙ same_after listed history sound event (none_changes (changes_answers event) (cond (changes_answers event) 1 0) refl (omega (arith, counts, one, none)))

-- ---- copies
pub copy_longer : (listed : Listed) (history more : List Event) (snapshot : Snapshot) → IsLegal listed (history ++ more) → HasAnswersOf listed history snapshot
    → snapshot.version ≡ version_of (history ++ more) → HasAnswersOf listed (history ++ more) snapshot
copy_longer listed history more snapshot legal copy version =
    let none : count_by changes_answers more ≡ 0 = omega (arith, copy.version, version, count_by-append changes_answers history more) in
    record { answers = copy.answers ∙ sym (same_answers listed history more legal none); meets = copy.meets; version = version }

pub copy_eliminated : (listed : Listed) (history after : List Event) (worker place : ℕ) (verdict : Side) (combination : Combination) (snapshot : Snapshot)
    → IsLegal listed history → after ≡ history ++ Eliminate worker place verdict combination ∷ [] → HasAnswersOf listed history snapshot → HasAnswersOf listed after snapshot
copy_eliminated listed history after worker place verdict combination snapshot legal is copy =
    let event : Event = Eliminate worker place verdict combination in
    let count : version_of after ≡ version_of history =
    ap version_of is ∙ count_by-append changes_answers history (event ∷ []) ∙ (let more : version_of history + 0 ≡ version_of history = omega arith in more) in
    record {
      answers =
          copy.answers ∙ sym (same_after listed history (sound_history listed history legal) event refl)
          ∙ ap (λ (l : List Event). committed listed.classes l) (sym is);
      meets = copy.meets;
      version = copy.version ∙ sym count;
    }

-- ---- kept vectors
pub all_met : (levels : List ℕ) (answers : List Answer) (met : ℕ) (vector : List ℤ) → MeetsAll levels (take met answers) vector
    → MeetsAll levels (drop met answers) vector → MeetsAll levels answers vector
all_met levels answers met vector first rest = record {
  vector = first.vector;
  each =
      subst (λ (l : List Answer). All (Meets levels vector) l) (take-append-drop met answers)
      (All-append (Meets levels vector) (take met answers) (drop met answers) first.each rest.each);
}

pub kept_opens : (listed : Listed) (answers : List Answer) (place : ℕ) (kept : Kept) (pair : Pair) → IsKept listed answers place kept
    → class_at listed.classes place ≡ Some pair → OpensByFirst listed.criteria.levels answers pair kept
kept_opens listed answers place kept pair is class = (
  is.within,
  record {
    plus_meets = is.plus_meets;
    minus_meets = is.minus_meets;
    more = at_some (class_at listed.classes place) (λ other. Ranks listed.criteria.levels kept.plus other Left) pair class is.opposite.more;
    less = at_some (class_at listed.classes place) (λ other. Ranks listed.criteria.levels kept.minus other Right) pair class is.opposite.less;
  },
)

pub kept_look : (listed : Listed) (answers : List Answer) (place : ℕ) (latest : Option Kept) (pair : Pair) → class_at listed.classes place ≡ Some pair
    → IfSome latest (λ kept. IsKept listed answers place kept) → IfSome latest (OpensByFirst listed.criteria.levels answers pair)
kept_look listed answers place None pair class h = h
kept_look listed answers place (Some kept) pair class h = kept_opens listed answers place kept pair h class

-- ---- what is looked at
pub sought_place : (listed : Listed) (journal : List Event) (asked : Request) (place : ℕ) → IsSought listed journal asked place → IsPlace listed place
sought_place listed journal request.next place (inl due) = due.class
sought_place listed journal request.next place (inr first) = first.1.class
sought_place listed journal request.values place first = first.class
sought_place listed journal (request.answer question side) place asks = asks.0.1
sought_place listed journal _ place none = absurd none

pub look_ready : (listed : Listed) (journal : List Event) (asked : Request) (tools : Tools) (look : Look) → LooksAt listed journal asked tools.snapshot look
    → IsReserved listed.criteria tools → IsReadyFor look tools
look_ready listed journal asked tools look is reserved =
    let here : IsLook listed journal look = is.look_at in
    let answers : List Answer = tools.snapshot.answers.answers in
    let same : committed listed.classes journal ≡ answers = sym is.copy.answers in
    let Ready : Criteria → Type 0 = λ criteria. AreReady criteria tools × IsFit criteria.levels look.pair × IfSome look.kept (OpensByFirst criteria.levels answers look.pair) in
    let ready : Ready look.model =
    subst Ready (sym here.model) (
      record {
        reserved = reserved;
        few = subst (λ (l : List Answer). length l ≤ class_count listed.criteria.levels listed.criteria.degree) same here.few;
        answers_fit = subst (λ (l : List Answer). All (λ answer. IsFit listed.criteria.levels answer.pair) l) same here.answers_fit;
        meets = is.copy.meets;
      },
      here.fits,
      subst (λ (l : List Answer). IfSome look.kept (OpensByFirst listed.criteria.levels l look.pair)) same here.kept,
    ) in
    record { ready = ready.0; fits = ready.1; kept = ready.2 }

-- ---- what was found
pub found_in : (listed : Listed) (journal : List Event) (asked : Request) (side : Side) (snapshot : Snapshot) (look : Look) (found : Found)
    → LooksAt listed journal asked snapshot look → found.at ≡ look.at → found.place ≡ look.place
    → IsFinding look.model.levels snapshot.answers.answers look.pair side found.finding → IsFoundIn listed journal asked side snapshot found
found_in listed journal asked side snapshot look found is at place finding =
    let here : IsLook listed journal look = is.look_at in
    let len : found.at ≡ length journal = at ∙ here.at in
    let whole : take found.at journal ≡ journal = take_whole found.at journal (omega (arith, len)) in
    let class : class_at listed.classes found.place ≡ Some look.pair = ap (λ n. class_at listed.classes n) place ∙ here.class in
    record {
      within = omega (arith, len);
      sought = subst (λ (l : List Event). IsSought listed l asked found.place) (sym whole) (subst (λ (n : ℕ). IsSought listed journal asked n) (sym place) is.sought);
      copy = subst (λ (l : List Event). HasAnswersOf listed l snapshot) (sym whole) is.copy;
      finding =
          some_at (class_at listed.classes found.place) (λ pair. IsFinding listed.criteria.levels snapshot.answers.answers pair side found.finding) look.pair class
          (subst (λ (criteria : Criteria). IsFinding criteria.levels snapshot.answers.answers look.pair side found.finding) here.model finding);
    }

pub found_longer : (listed : Listed) (journal longer : List Event) (asked : Request) (side : Side) (snapshot : Snapshot) (found : Found)
    → IsPrefix journal longer → IsFoundIn listed journal asked side snapshot found → IsFoundIn listed longer asked side snapshot found
found_longer listed journal longer asked side snapshot found (more, whole) is =
    let same : take found.at longer ≡ take found.at journal =
    ap (λ (l : List Event). take found.at l) (sym whole) ∙ take-append-le found.at journal more is.within in
    record {
      within = omega (arith, is.within, ap (λ (l : List Event). length l) whole, length-append journal more);
      sought = subst (λ (l : List Event). IsSought listed l asked found.place) (sym same) is.sought;
      copy = subst (λ (l : List Event). HasAnswersOf listed l snapshot) (sym same) is.copy;
      finding = is.finding;
    }

module _ (listed : Listed) (journal : List Event) (legal : IsLegal listed journal) (asked : Request) (side : Side) (snapshot : Snapshot) (found : Found)
    (is : IsFoundIn listed journal asked side snapshot found) where
  -- nothing came since
  pub found_now : found.at ≡ length journal → IsFresh listed journal asked snapshot found.place
  found_now at =
      let whole : take found.at journal ≡ journal = take_whole found.at journal (omega (arith, at)) in
      record {
        legal = legal;
        sought = subst (λ (l : List Event). IsSought listed l asked found.place) whole is.sought;
        copy = subst (λ (l : List Event). HasAnswersOf listed l snapshot) whole is.copy;
      }

  -- the answers are the same
  pub found_same : (place : ℕ) → found.place ≡ place → IsSought listed journal asked place → snapshot.version ≡ version_of journal
      → IsFresh listed journal asked snapshot found.place
  found_same place same sought version =
      let whole : take found.at journal ++ drop found.at journal ≡ journal = take-append-drop found.at journal in
      record {
        legal = legal;
        sought = subst (λ (n : ℕ). IsSought listed journal asked n) (sym same) sought;
        copy =
            subst (λ (l : List Event). HasAnswersOf listed l snapshot) whole
            (copy_longer listed (take found.at journal) (drop found.at journal) snapshot
            (subst (λ (l : List Event). IsLegal listed l) (sym whole) legal) is.copy (version ∙ ap version_of (sym whole)));
      }

module _ (listed : Listed) (journal : List Event) (asked : Request) (side : Side) (snapshot : Snapshot) (found : Found)
    (fresh : IsFresh listed journal asked snapshot found.place) (finding : IsFindingOf listed snapshot side found) where
  found_pair : (pair : Pair) × (class_at listed.classes found.place ≡ Some pair)
      × IsFinding listed.criteria.levels (committed listed.classes journal) pair side found.finding
  found_pair =
      let here : (pair : Pair) × (class_at listed.classes found.place ≡ Some pair) × IsFinding listed.criteria.levels snapshot.answers.answers pair side found.finding =
      some_and (class_at listed.classes found.place) (λ pair. IsFinding listed.criteria.levels snapshot.answers.answers pair side found.finding) finding in
      (here.0, here.1, subst (λ (l : List Answer). IsFinding listed.criteria.levels l here.0 side found.finding) fresh.copy.answers here.2)

  module _ (plus minus point : List ℤ) (is : found.finding ≡ Open plus minus point) where
    open_pair : (pair : Pair) × (class_at listed.classes found.place ≡ Some pair)
        × IsFinding listed.criteria.levels (committed listed.classes journal) pair side (Open plus minus point)
    open_pair =
        (found_pair.0, found_pair.1, subst (λ (f : Finding). IsFinding listed.criteria.levels (committed listed.classes journal) found_pair.0 side f) is found_pair.2)

    pub found_opens : OpensClass listed journal found.place plus minus
    found_opens =
        some_at (class_at listed.classes found.place) (λ pair. Opens listed.criteria.levels (committed listed.classes journal) pair plus minus) open_pair.0 open_pair.1 open_pair.2.0

    pub found_meets : MeetsWithClass listed journal found.place side point
    found_meets =
        some_at (class_at listed.classes found.place)
        (λ pair. MeetsAll listed.criteria.levels (committed listed.classes journal ++ record { pair = pair; side = side } ∷ []) point) open_pair.0 open_pair.1 open_pair.2.1

    pub found_kept : (met : ℕ) → met ≡ length (committed listed.classes journal)
        → IsKept listed (committed listed.classes journal) found.place (record { plus = plus; minus = minus; met = met })
    found_kept met count =
        let answers : List Answer = committed listed.classes journal in
        let opens : Opens listed.criteria.levels answers open_pair.0 plus minus = open_pair.2.0 in
        let whole : take met answers ≡ answers = take_whole met answers (omega (arith, count)) in
        record {
          opposite = record {
            plus_vector = opens.plus_meets.vector;
            minus_vector = opens.minus_meets.vector;
            more = some_at (class_at listed.classes found.place) (λ pair. Ranks listed.criteria.levels plus pair Left) open_pair.0 open_pair.1 opens.more;
            less = some_at (class_at listed.classes found.place) (λ pair. Ranks listed.criteria.levels minus pair Right) open_pair.0 open_pair.1 opens.less;
          };
          within = omega (arith, count);
          plus_meets = subst (λ (l : List Answer). MeetsAll listed.criteria.levels l plus) (sym whole) opens.plus_meets;
          minus_meets = subst (λ (l : List Answer). MeetsAll listed.criteria.levels l minus) (sym whole) opens.minus_meets;
        }

  pub found_certified : (verdict : Side) (combination : Combination) → found.finding ≡ Ranked verdict combination
      → IsCertifiedClass listed journal found.place verdict combination
  found_certified verdict combination is =
      some_at (class_at listed.classes found.place) (λ pair. IsCertified listed.criteria.levels (committed listed.classes journal) pair verdict combination)
      found_pair.0 found_pair.1
      (subst (λ (f : Finding). IsFinding listed.criteria.levels (committed listed.classes journal) found_pair.0 side f) is found_pair.2)

pub found_some : (listed : Listed) (journal longer : List Event) (asked : Request) (side : Side) (snapshot : Snapshot) (found : Option Found)
    → IsPrefix journal longer → IfSome found (IsFoundIn listed journal asked side snapshot) → IfSome found (IsFoundIn listed longer asked side snapshot)
found_some listed journal longer asked side snapshot None front h = h
found_some listed journal longer asked side snapshot (Some found) front h = found_longer listed journal longer asked side snapshot found front h

-- ---- rooms
pub tools_kept_on : (old middle new : Tools) → KeepsTools old middle → KeepsTools middle new → KeepsTools old new
tools_kept_on old middle new one other = record {
  answers = other.answers ∙ one.answers;
  work = record { columns = other.work.columns ∙ one.work.columns; rows = other.work.rows ∙ one.work.rows };
}

pub tools_kept : (old middle new : Tools) → KeepsTools old middle → new.snapshot ≡ middle.snapshot → KeepsRoom middle.work new.work → KeepsTools old new
tools_kept old middle new one same room =
    tools_kept_on old middle new one (record { answers = ap (λ (s : Snapshot). room_of s.answers) same; work = room })
