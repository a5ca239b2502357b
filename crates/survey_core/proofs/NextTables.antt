-- The marks after one more event, kind by kind.
use Rattle.std.proofs.Common.{◌≡◌, ◌≢◌, ℕ, ◌+◌, ◌-◌, ◌<◌, ◌≤◌, ◌==◌, min, nat_lt, nat_le, Bool, true, false, cond, ◌||◌, List, [], ◌∷◌, ◌++◌, length, map, Option, Some, slice_get, slice_set, ℤ, append-nil, length-append, refl, ap, sym, subst, ◌∙◌, inl, inr, arith}
use Rattle.std.specs.Option.{option_map_or}
use Rattle.std.specs.List.{filter, flat_map, list_any, count_by}
use Rattle.std.proofs.lemmas.Bool.{eq-eqb}
use Rattle.std.proofs.lemmas.Bool.Decides.{nat_tests}
use Rattle.std.proofs.lemmas.Grind.{flat_map-append}
use Rattle.std.proofs.lemmas.List.{length-set, map-append}
use Rattle.std.proofs.Math.Seq.{map-set_same}
use Rattle.std.proofs.lemmas.List.Concat.{flat_map-cons}
use Rattle.std.proofs.lemmas.List.Folds.{list_any-append}
use Rattle.std.proofs.lemmas.List.Sums.{sum_by-cons}
use Rattle.std.proofs.lemmas.Option.{slice_get-map, get_or_from_slice_get}
use Rattle.std.proofs.lemmas.List.{length-map}
use Rattle.criteria_model.specs.declared.pairs.Answer.{Answer}
use Rattle.criteria_model.specs.declared.pairs.Side.{Side}
use Rattle.farkas_check.specs.declared.combination.Combination.{Combination}
use Rattle.pair_enumeration.specs.Listed.{Listed}
use Rattle.survey_core.specs.declared.events.Event.{Event}
use Rattle.survey_core.specs.declared.events.Event.TheVariants.{Eliminate, Issue, Commit, Close, Withdraw}
use Rattle.survey_core.specs.declared.marks.Ranking.{Ranking}
use Rattle.survey_core.specs.declared.marks.Ranking.TheVariants.{Unranked, Eliminated, Committed as CommittedBy}
use Rattle.survey_core.specs.declared.marks.Ending.{Ending}
use Rattle.survey_core.specs.declared.marks.Ending.TheVariants.{Open, Committed, Closed}
use Rattle.survey_core.specs.declared.marks.Mark.{Mark}
use Rattle.survey_core.specs.declared.marks.Question.{Question}
use Rattle.survey_core.specs.Histories.{issued, is_issued, place_of, committed, commits_class}
use Rattle.survey_core.specs.Marked.{greatest_cited, Resting, resting, ranking_by, rankings, marked_rankings, ending_by, endings, marked_endings, Table, left_ranking, left_mark, left_ending, left_question, is_number_up_to, is_answer_up_to, IsMark, IsQuestionMark, IsTableOf}
use Rattle.survey_core.proofs.ListSteps.{Each, Each-map, slice_get-push, flat_map-filter}
use Rattle.survey_core.proofs.StandingLemmas.{standing-push, issued-push}
use Rattle.survey_core.proofs.SoundLemmas.{IsSoundAt, IsSound, issued-same, resting-push, resting-withdraw}
use Rattle.survey_core.proofs.TableLemmas.{set_cases, count_set, one_if}
use Rattle.row_laws.proofs.ItemLemmas.{item_within, item_at-append}
use Rattle.survey_core.proofs.ReadLemmas.{map_some, mark_at, question_at, issued_len, asks_at}

-- ---- lists
-- what holds of each element by its number, after one is rewritten
pub each_set : {X : Type 0} (P Q : ℕ → X → Type 0) (xs : List X) (number : ℕ) (to : X) → 1 ≤ number
    → ((k : ℕ) (x : X) → slice_get xs k ≡ Some x → P (k + 1) x) → Q number to → ((other : ℕ) (x : X) → number ≢ other → P other x → Q other x)
    → (k : ℕ) (x : X) → slice_get (slice_set xs (number - 1) to) k ≡ Some x → Q (k + 1) x
each_set {X} P Q xs number to low each here others k x at =
    elim (set_cases xs (number - 1) to k x at) [
      | inl found ↦
          (let same : number ≡ k + 1 = omega (arith, found.0) in
          subst (λ (n : ℕ). Q n x) same (subst (λ (y : X). Q number y) found.1 here))
      | inr found ↦ others (k + 1) x (omega (arith, found.0)) (each k x found.1)
    ]

-- after one is put at the end
pub each_push : {X : Type 0} (P Q : ℕ → X → Type 0) (xs : List X) (last : X)
    → ((k : ℕ) (x : X) → slice_get xs k ≡ Some x → P (k + 1) x) → Q (length xs + 1) last → ((other : ℕ) (x : X) → P other x → Q other x)
    → (k : ℕ) (x : X) → slice_get (xs ++ last ∷ []) k ≡ Some x → Q (k + 1) x
each_push {X} P Q xs last each here others k x at =
    elim (slice_get-push xs last k x at) [
      | inl found ↦ others (k + 1) x (each k x found)
      | inr found ↦
          (let same : length xs + 1 ≡ k + 1 = omega (arith, found.0) in
          subst (λ (n : ℕ). Q n x) same (subst (λ (y : X). Q (length xs + 1) y) found.1 here))
    ]

-- after each is rewritten
pub each_mapped : {X : Type 0} (P Q : ℕ → X → Type 0) (f : X → X) (xs : List X)
    → ((k : ℕ) (x : X) → slice_get xs k ≡ Some x → P (k + 1) x) → ((number : ℕ) (x : X) → P number x → Q number (f x))
    → (k : ℕ) (y : X) → slice_get (map f xs) k ≡ Some y → Q (k + 1) y
each_mapped {X} P Q f xs each go k y at =
    let found : (x : X) × (slice_get xs k ≡ Some x) × (f x ≡ y) = map_some f (slice_get xs k) y (sym (slice_get-map f xs k) ∙ at) in
    subst (λ (z : X). Q (k + 1) z) found.2 (go (k + 1) found.0 (each k found.0 found.1))

pub flat_map-same : {X Y : Type 0} (f g : X → List Y) (xs : List X) → Each (λ x. f x ≡ g x) xs → flat_map f xs ≡ flat_map g xs
flat_map-same f g [] hs = refl
flat_map-same f g (x ∷ xs) hs =
    flat_map-cons f x xs ∙ ap (λ l. l ++ flat_map f xs) hs.0 ∙ ap (λ l. g x ++ l) (flat_map-same f g xs hs.1) ∙ sym (flat_map-cons g x xs)

flat_map-none : {X Y : Type 0} (f : X → List Y) (xs : List X) → Each (λ x. f x ≡ []) xs → flat_map f xs ≡ []
flat_map-none f [] hs = refl
flat_map-none f (x ∷ xs) hs = flat_map-cons f x xs ∙ ap (λ l. l ++ flat_map f xs) hs.0 ∙ flat_map-none f xs hs.1

flat_map-push : {X Y : Type 0} (f : X → List Y) (xs : List X) (x : X) → flat_map f (xs ++ x ∷ []) ≡ flat_map f xs ++ f x
flat_map-push f xs x =
    flat_map-append f xs (x ∷ []) ∙ ap (λ l. flat_map f xs ++ l) (flat_map-cons f x [] ∙ append-nil (f x))

count_mapped : {X : Type 0} (p r : X → Bool) (f : X → X) → ((x : X) → p (f x) ≡ r x) → (xs : List X) → count_by p (map f xs) ≡ count_by r xs
count_mapped p r f h [] = refl
count_mapped p r f h (x ∷ xs) =
    omega (
      arith,
      sum_by-cons (λ y. cond (p y) 1 0) (f x) (map f xs),
      sum_by-cons (λ y. cond (r y) 1 0) x xs,
      ap one_if (h x),
      count_mapped p r f h xs,
    )

map_map : {X Y : Type 0} (g : X → Y) (f : X → X) → ((x : X) → g (f x) ≡ g x) → (xs : List X) → map g (map f xs) ≡ map g xs
map_map g f h [] = refl
map_map g f h (x ∷ xs) = ap (λ y. y ∷ map g (map f xs)) (h x) ∙ ap (λ l. g x ∷ l) (map_map g f h xs)

pub map_set : {X Y : Type 0} (g : X → Y) (xs : List X) (i : ℕ) (x y : X) → slice_get xs i ≡ Some x → g y ≡ g x → map g (slice_set xs i y) ≡ map g xs
map_set g xs i x y at same = map-set_same g xs i y x (same ∙ ap g (sym (get_or_from_slice_get xs i x x at)))

-- ---- numbers
pub other_no : (a b : ℕ) → a ≢ b → (a == b) ≡ false
other_no a b h = grind (arith, nat_tests)

pub or_nothing : (b : Bool) → (b || false) ≡ b
or_nothing true = refl
or_nothing false = refl

pub or_something : (b : Bool) → (b || true) ≡ true
or_something true = refl
or_something false = refl

if_nil : {Y : Type 0} (b : Bool) → [] ≡ cond {A = List Y} b [] []
if_nil true = refl
if_nil false = refl

if_yes : {Y : Type 0} (b : Bool) (ys : List Y) → b ≡ true → cond b ys [] ≡ ys
if_yes true ys h = refl
if_yes false ys h = absurd (let both : false ≡ true = h in cc)

if_no : {Y : Type 0} (b : Bool) (ys : List Y) → b ≡ false → cond b ys [] ≡ []
if_no false ys h = refl
if_no true ys h = absurd (let both : true ≡ false = h in cc)

-- ---- marks after an event that is put at the end
module _ (history after : List Event) (last : Resting) (resting_is : resting after ≡ resting history ++ last ∷ []) where
  rankings_after : (asked : List ℕ) (place : ℕ) (old new : List Ranking) → rankings asked place (resting history) ≡ old
      → ranking_by asked place last.level last.event ≡ new → rankings asked place (resting after) ≡ old ++ new
  rankings_after asked place old new before by =
      let f : Resting → List Ranking = λ e. ranking_by asked place e.level e.event in
      ap (λ (l : List Resting). flat_map f l) resting_is ∙ flat_map-push f (resting history) last
      ∙ ap (λ l. l ++ f last) before ∙ ap (λ l. old ++ l) by

  endings_after : (number : ℕ) (old new : List Ending) → endings number (resting history) ≡ old
      → ending_by number last.level last.event ≡ new → endings number (resting after) ≡ old ++ new
  endings_after number old new before by =
      let f : Resting → List Ending = λ e. ending_by number e.level e.event in
      ap (λ (l : List Resting). flat_map f l) resting_is ∙ flat_map-push f (resting history) last
      ∙ ap (λ l. l ++ f last) before ∙ ap (λ l. old ++ l) by

  -- a question that the event doesn't end
  question_kept : (number : ℕ) (question : Question) → ending_by number last.level last.event ≡ [] → IsQuestionMark history number question
      → IsQuestionMark after number question
  question_kept number question none is = record {
    ending = endings_after number (marked_endings question.ending) [] is.ending none ∙ append-nil (marked_endings question.ending);
  }

  -- a question that it ends
  question_ended : (number : ℕ) (question : Question) (ending : Ending) → question.ending ≡ Open
      → ending_by number last.level last.event ≡ marked_endings ending
      → IsQuestionMark history number question → IsQuestionMark after number (record { place = question.place; ending = ending })
  question_ended number question ending before by is = record {
    ending = endings_after number [] (marked_endings ending) (is.ending ∙ ap marked_endings before) by;
  }

  module _ (asked_is : issued after ≡ issued history) where
    asked_same : (place : ℕ) → is_issued after place ≡ is_issued history place
    asked_same place = ap (λ (l : List ℕ). list_any (λ a. a == place) l) asked_is

    -- a class that it doesn't rank
    class_kept : (place : ℕ) (mark : Mark) → ranking_by (issued history) place last.level last.event ≡ [] → IsMark history place mark → IsMark after place mark
    class_kept place mark none is = record {
      ranking =
          ap (λ (l : List ℕ). rankings l place (resting after)) asked_is
          ∙ rankings_after (issued history) place (marked_rankings mark.ranking) [] is.ranking none ∙ append-nil (marked_rankings mark.ranking);
      asked = asked_same place ∙ is.asked;
    }

    -- a class that it ranks
    class_ranked : (place : ℕ) (mark : Mark) (ranking : Ranking) → mark.ranking ≡ Unranked
        → ranking_by (issued history) place last.level last.event ≡ marked_rankings ranking
        → IsMark history place mark → IsMark after place (record { ranking = ranking; issued = mark.issued })
    class_ranked place mark ranking before by is = record {
      ranking =
          ap (λ (l : List ℕ). rankings l place (resting after)) asked_is
          ∙ rankings_after (issued history) place [] (marked_rankings ranking) (is.ranking ∙ ap marked_rankings before) by;
      asked = asked_same place ∙ is.asked;
    }

-- ---- what more questions leave as it was
ranking_same : (listed : Listed) (asked more : List ℕ) (answers : List Answer) (place level : ℕ) (event : Event) → IsSoundAt listed asked answers level event
    → ranking_by (asked ++ more) place level event ≡ ranking_by asked place level event
ranking_same listed asked more answers place level (Eliminate worker other verdict combination) s = refl
ranking_same listed asked more answers place level (Issue desk other plus minus) s = refl
ranking_same listed asked more answers place level (Commit desk question side plus minus point) s =
    let longer : place_of (asked ++ more) question ≡ Some s.place = item_at-append asked more question s.place s.asks in
    rw (longer, s.asks) refl
ranking_same listed asked more answers place level (Close desk question) s = refl
ranking_same listed asked more answers place level (Withdraw desk answer) s = refl

-- a question that wasn't issued has not ended
unasked_unended : (listed : Listed) (asked : List ℕ) (answers : List Answer) (number level : ℕ) (event : Event) → length asked < number
    → IsSoundAt listed asked answers level event → ending_by number level event ≡ []
unasked_unended listed asked answers number level (Eliminate worker place verdict combination) high s = refl
unasked_unended listed asked answers number level (Issue desk place plus minus) high s = refl
unasked_unended listed asked answers number level (Commit desk question side plus minus point) high s =
    if_no (question == number) (Committed level ∷ [])
    (other_no question number (omega (arith, item_within asked question s.place s.asks)))
unasked_unended listed asked answers number level (Close desk question) high s =
    if_no (question == number) (Closed level ∷ []) (other_no question number (omega (arith, s.1)))
unasked_unended listed asked answers number level (Withdraw desk answer) high s = refl

-- ---- what is left without an answer
abbrev stays : ℕ → Ranking → Bool
stays n Unranked = true
stays n (Eliminated level) = nat_lt level n
stays n (CommittedBy level) = nat_lt level n

abbrev remains : ℕ → Ending → Bool
remains n Open = true
remains n (Committed level) = nat_lt level n
remains n (Closed level) = nat_lt level n

filter_one : {Y : Type 0} (q : Y → Bool) (y : Y) (b t : Bool) → q y ≡ t → filter q (cond b (y ∷ []) []) ≡ cond t (cond b (y ∷ []) []) []
filter_one q y true t h = ap (λ c. cond c (y ∷ []) []) h
filter_one q y false t h = if_nil t

ranking_left : (n : ℕ) (asked : List ℕ) (place level : ℕ) (event : Event)
    → filter (stays n) (ranking_by asked place level event) ≡ cond (nat_lt level n) (ranking_by asked place level event) []
ranking_left n asked place level (Eliminate worker other verdict combination) = filter_one (stays n) (Eliminated level) (other == place) (nat_lt level n) refl
ranking_left n asked place level (Issue desk other plus minus) = if_nil (nat_lt level n)
ranking_left n asked place level (Commit desk question side plus minus point) =
    filter_one (stays n) (CommittedBy level) (commits_class asked place (Commit desk question side plus minus point)) (nat_lt level n) refl
ranking_left n asked place level (Close desk question) = if_nil (nat_lt level n)
ranking_left n asked place level (Withdraw desk answer) = if_nil (nat_lt level n)

ending_left : (n number level : ℕ) (event : Event)
    → filter (remains n) (ending_by number level event) ≡ cond (nat_lt level n) (ending_by number level event) []
ending_left n number level (Eliminate worker place verdict combination) = if_nil (nat_lt level n)
ending_left n number level (Issue desk place plus minus) = if_nil (nat_lt level n)
ending_left n number level (Commit desk question side plus minus point) = filter_one (remains n) (Committed level) (question == number) (nat_lt level n) refl
ending_left n number level (Close desk question) = filter_one (remains n) (Closed level) (question == number) (nat_lt level n) refl
ending_left n number level (Withdraw desk answer) = if_nil (nat_lt level n)

ranking_either : (b : Bool) (ranking : Ranking) → marked_rankings ranking ≡ ranking ∷ [] → cond b (ranking ∷ []) [] ≡ marked_rankings (cond b ranking Unranked)
ranking_either true ranking one = sym one
ranking_either false ranking one = refl

marked_left : (n : ℕ) (ranking : Ranking) → filter (stays n) (marked_rankings ranking) ≡ marked_rankings (left_ranking n ranking)
marked_left n Unranked = refl
marked_left n (Eliminated level) = ranking_either (nat_lt level n) (Eliminated level) refl
marked_left n (CommittedBy level) = ranking_either (nat_lt level n) (CommittedBy level) refl

ending_either : (b : Bool) (ending : Ending) → marked_endings ending ≡ ending ∷ [] → cond b (ending ∷ []) [] ≡ marked_endings (cond b ending Open)
ending_either true ending one = sym one
ending_either false ending one = refl

ended_left : (n : ℕ) (ending : Ending) → filter (remains n) (marked_endings ending) ≡ marked_endings (left_ending n ending)
ended_left n Open = refl
ended_left n (Committed level) = ending_either (nat_lt level n) (Committed level) refl
ended_left n (Closed level) = ending_either (nat_lt level n) (Closed level) refl

up_to_none : (most level : ℕ) (b : Bool) → is_number_up_to most (cond b (Eliminated level) Unranked) ≡ false
up_to_none most level true = refl
up_to_none most level false = refl

up_to_yes : (n most level : ℕ) → 1 ≤ n → nat_lt level n ≡ true → nat_le level most ≡ nat_le level (min most (n - 1))
up_to_yes n most level some yes_ = grind (arith, nat_tests)

up_to_no : (n most level : ℕ) → 1 ≤ n → nat_lt level n ≡ false → false ≡ nat_le level (min most (n - 1))
up_to_no n most level some no_ = grind (arith, nat_tests)

-- the answers up to a number that are left
up_to_left : (n most : ℕ) (ranking : Ranking) → 1 ≤ n → is_number_up_to most (left_ranking n ranking) ≡ is_number_up_to (min most (n - 1)) ranking
up_to_left n most Unranked some = refl
up_to_left n most (Eliminated level) some = up_to_none most level (nat_lt level n)
up_to_left n most (CommittedBy level) some =
    let go : (b : Bool) → nat_lt level n ≡ b → is_number_up_to most (cond b (CommittedBy level) Unranked) ≡ nat_le level (min most (n - 1)) =
    λ b. elim b as (λ b. nat_lt level n ≡ b → is_number_up_to most (cond b (CommittedBy level) Unranked) ≡ nat_le level (min most (n - 1))) [
      | true ↦ λ h. up_to_yes n most level some h
      | false ↦ λ h. up_to_no n most level some h
    ]
    in go (nat_lt level n) refl

-- one answer more
up_to_next : (most answers : ℕ) → min most answers + cond (nat_le (answers + 1) most) 1 0 ≡ min most (answers + 1)
up_to_next most answers =
    let go : (b : Bool) → nat_le (answers + 1) most ≡ b → min most answers + cond b 1 0 ≡ min most (answers + 1) =
    λ b. elim b as (λ b. nat_le (answers + 1) most ≡ b → min most answers + cond b 1 0 ≡ min most (answers + 1)) [
      | true ↦ λ h. (let low : answers + 1 ≤ most = grind (arith, nat_tests) in omega arith)
      | false ↦ λ h. (let high : most < answers + 1 = grind (arith, nat_tests) in omega arith)
    ]
    in go (nat_le (answers + 1) most) refl

-- ---- the five kinds
module _ (listed : Listed) (history : List Event) (sound : IsSound listed history) (table : Table)
    (table_of : IsTableOf listed history (length (committed listed.classes history)) table) where
  abbrev answers : List Answer
  answers = committed listed.classes history

  none_ended : (number : ℕ) → length (issued history) < number → endings number (resting history) ≡ []
  none_ended number high =
      flat_map-none (λ (e : Resting). ending_by number e.level e.event) (resting history)
      (Each-map (λ e. IsSoundAt listed (issued history) answers e.level e.event) (λ e. ending_by number e.level e.event ≡ [])
      (λ e. unasked_unended listed (issued history) answers number e.level e.event high) (resting history) sound.each)

  -- a class is ranked
  abbrev ranked : ℕ → Mark → Ranking → List Mark
  ranked place mark ranking = slice_set table.classes (place - 1) (record { ranking = ranking; issued = mark.issued })

  -- a question is ended
  abbrev ended : ℕ → Question → Ending → List Question
  ended number question ending = slice_set table.questions (number - 1) (record { place = question.place; ending = ending })

  pub table_eliminate : (worker place : ℕ) (verdict : Side) (combination : Combination) (mark : Mark) → 1 ≤ place
      → slice_get table.classes (place - 1) ≡ Some mark → mark.ranking ≡ Unranked
      → IsTableOf listed (history ++ Eliminate worker place verdict combination ∷ []) (length answers)
      (record { classes = ranked place mark (Eliminated (greatest_cited combination.answers)); questions = table.questions })
  table_eliminate worker place verdict combination mark low at before =
      let event : Event = Eliminate worker place verdict combination in
      let after : List Event = history ++ event ∷ [] in
      let level : ℕ = greatest_cited combination.answers in
      let last : Resting = record { level = level; event = event } in
      let to : Mark = record { ranking = Eliminated level; issued = mark.issued } in
      let resting_is : resting after ≡ resting history ++ last ∷ [] = resting-push listed history sound event (standing-push history event) in
      let asked_is : issued after ≡ issued history = issued-same history event refl in
      record {
        len = length-set table.classes (place - 1) to ∙ table_of.len;
        each_class =
            each_set (IsMark history) (IsMark after) table.classes place to low table_of.each_class
            (class_ranked history after last resting_is asked_is place mark (Eliminated level) before
            (if_yes (place == place) (Eliminated level ∷ []) (eq-eqb place place refl)) (mark_at table_of place mark low at))
            (λ other m differs. class_kept history after last resting_is asked_is other m (if_no (place == other) (Eliminated level ∷ []) (other_no place other differs)));
        places = table_of.places ∙ sym asked_is;
        each_question = λ k question found. question_kept history after last resting_is (k + 1) question refl (table_of.each_question k question found);
        asked_count =
            omega (arith, count_set (λ m. m.issued) table.classes (place - 1) mark to at, table_of.asked_count);
        answer_count = λ most.
            (let count : count_by (is_answer_up_to most) (slice_set table.classes (place - 1) to) + cond (is_answer_up_to most mark) 1 0
            ≡ count_by (is_answer_up_to most) table.classes + 0 =
            count_set (is_answer_up_to most) table.classes (place - 1) mark to at in
            omega (arith, count, ap (λ (r : Ranking). one_if (is_number_up_to most r)) before, table_of.answer_count most));
      }

  pub table_issue : (desk place : ℕ) (plus minus : List ℤ) (mark : Mark) → 1 ≤ place
      → slice_get table.classes (place - 1) ≡ Some mark → mark.issued ≡ false
      → IsTableOf listed (history ++ Issue desk place plus minus ∷ []) (length answers) (record {
        classes = slice_set table.classes (place - 1) (record { ranking = mark.ranking; issued = true });
        questions = table.questions ++ record { place = place; ending = Open } ∷ [];
      })
  table_issue desk place plus minus mark low at before =
      let event : Event = Issue desk place plus minus in
      let after : List Event = history ++ event ∷ [] in
      let asked : List ℕ = issued history in
      let last : Resting = record { level = 0; event = event } in
      let to : Mark = record { ranking = mark.ranking; issued = true } in
      let question : Question = record { place = place; ending = Open } in
      let resting_is : resting after ≡ resting history ++ last ∷ [] = resting-push listed history sound event (standing-push history event) in
      let asked_is : issued after ≡ asked ++ place ∷ [] = issued-push history event in
      let ranked_same : (other : ℕ) → rankings (asked ++ place ∷ []) other (resting history) ≡ rankings asked other (resting history) =
      λ other. flat_map-same (λ (e : Resting). ranking_by (asked ++ place ∷ []) other e.level e.event) (λ e. ranking_by asked other e.level e.event) (resting history)
      (Each-map (λ e. IsSoundAt listed asked answers e.level e.event)
      (λ e. ranking_by (asked ++ place ∷ []) other e.level e.event ≡ ranking_by asked other e.level e.event)
      (λ e. ranking_same listed asked (place ∷ []) answers other e.level e.event) (resting history) sound.each) in
      let class_after : (other : ℕ) (m : Mark) (b : Bool) → IsMark history other m → (m.issued || ((place == other) || false)) ≡ b
      → IsMark after other (record { ranking = m.ranking; issued = b }) =
      λ other m b is by. record {
        ranking =
            ap (λ (l : List ℕ). rankings l other (resting after)) asked_is
            ∙ rankings_after history after last resting_is (asked ++ place ∷ []) other (marked_rankings m.ranking) [] (ranked_same other ∙ is.ranking) refl
            ∙ append-nil (marked_rankings m.ranking);
        asked =
            ap (λ (l : List ℕ). list_any (λ a. a == other) l) asked_is ∙ list_any-append (λ a. a == other) asked (place ∷ [])
            ∙ ap (λ c. c || ((place == other) || false)) is.asked ∙ by;
      } in
      record {
        len = length-set table.classes (place - 1) to ∙ table_of.len;
        each_class =
            each_set (IsMark history) (IsMark after) table.classes place to low table_of.each_class
            (class_after place mark true (mark_at table_of place mark low at) (ap (λ c. mark.issued || (c || false)) (eq-eqb place place refl) ∙ or_something mark.issued))
            (λ other m differs is. class_after other m m.issued is (ap (λ c. m.issued || (c || false)) (other_no place other differs) ∙ or_nothing m.issued));
        places = map-append (λ (q : Question). q.place) table.questions (question ∷ []) ∙ ap (λ l. l ++ place ∷ []) table_of.places ∙ sym asked_is;
        each_question =
            each_push (IsQuestionMark history) (IsQuestionMark after) table.questions question table_of.each_question (record {
              ending =
                  endings_after history after last resting_is (length table.questions + 1) [] [] (none_ended (length table.questions + 1) (omega (arith, issued_len table_of))) refl;
            })
            (λ other q. question_kept history after last resting_is other q refl);
        asked_count =
            omega (
              arith,
              count_set (λ m. m.issued) table.classes (place - 1) mark to at,
              ap one_if before,
              table_of.asked_count,
              length-append table.questions (question ∷ []),
            );
        answer_count = λ most.
            (let count : count_by (is_answer_up_to most) (slice_set table.classes (place - 1) to) + cond (is_answer_up_to most mark) 1 0
            ≡ count_by (is_answer_up_to most) table.classes + cond (is_answer_up_to most mark) 1 0 =
            count_set (is_answer_up_to most) table.classes (place - 1) mark to at in
            omega (arith, count, table_of.answer_count most));
      }

  pub table_commit : (desk number : ℕ) (side : Side) (plus minus point : List ℤ) (mark : Mark) (question : Question) → 1 ≤ number → 1 ≤ question.place
      → slice_get table.questions (number - 1) ≡ Some question → question.ending ≡ Open
      → slice_get table.classes (question.place - 1) ≡ Some mark → mark.ranking ≡ Unranked
      → IsTableOf listed (history ++ Commit desk number side plus minus point ∷ []) (length answers + 1)
      (record { classes = ranked question.place mark (CommittedBy (length answers + 1)); questions = ended number question (Committed (length answers + 1)) })
  table_commit desk number side plus minus point mark question number_low place_low asks open_before at before =
      let event : Event = Commit desk number side plus minus point in
      let after : List Event = history ++ event ∷ [] in
      let place : ℕ = question.place in
      let level : ℕ = length answers + 1 in
      let last : Resting = record { level = level; event = event } in
      let to : Mark = record { ranking = CommittedBy level; issued = mark.issued } in
      let gone : Question = record { place = place; ending = Committed level } in
      let resting_is : resting after ≡ resting history ++ last ∷ [] = resting-push listed history sound event (standing-push history event) in
      let asked_is : issued after ≡ issued history = issued-same history event refl in
      let asks_place : place_of (issued history) number ≡ Some place = asks_at table_of number question number_low asks in
      let commits : (other : ℕ) → commits_class (issued history) other event ≡ (place == other) =
      λ other. ap (λ (o : Option ℕ). option_map_or (λ p. p == other) o false) asks_place in
      record {
        len = length-set table.classes (place - 1) to ∙ table_of.len;
        each_class =
            each_set (IsMark history) (IsMark after) table.classes place to place_low table_of.each_class
            (class_ranked history after last resting_is asked_is place mark (CommittedBy level) before
            (if_yes (commits_class (issued history) place event) (CommittedBy level ∷ []) (commits place ∙ eq-eqb place place refl)) (mark_at table_of place mark place_low at))
            (λ other m differs.
            class_kept history after last resting_is asked_is other m
            (if_no (commits_class (issued history) other event) (CommittedBy level ∷ []) (commits other ∙ other_no place other differs)));
        places = map_set (λ (q : Question). q.place) table.questions (number - 1) question gone asks refl ∙ table_of.places ∙ sym asked_is;
        each_question =
            each_set (IsQuestionMark history) (IsQuestionMark after) table.questions number gone number_low table_of.each_question
            (question_ended history after last resting_is number question (Committed level) open_before
            (if_yes (number == number) (Committed level ∷ []) (eq-eqb number number refl)) (question_at table_of number question number_low asks))
            (λ other q differs. question_kept history after last resting_is other q (if_no (number == other) (Committed level ∷ []) (other_no number other differs)));
        asked_count =
            omega (
              arith,
              count_set (λ m. m.issued) table.classes (place - 1) mark to at,
              table_of.asked_count,
              length-set table.questions (number - 1) gone,
            );
        answer_count = λ most.
            (let count : count_by (is_answer_up_to most) (slice_set table.classes (place - 1) to) + cond (is_answer_up_to most mark) 1 0
            ≡ count_by (is_answer_up_to most) table.classes + cond (nat_le level most) 1 0 =
            count_set (is_answer_up_to most) table.classes (place - 1) mark to at in
            omega (arith, count, ap (λ (r : Ranking). one_if (is_number_up_to most r)) before, table_of.answer_count most, up_to_next most (length answers)));
      }

  pub table_close : (desk number : ℕ) (question : Question) → 1 ≤ number → slice_get table.questions (number - 1) ≡ Some question → question.ending ≡ Open
      → IsTableOf listed (history ++ Close desk number ∷ []) (length answers)
      (record { classes = table.classes; questions = ended number question (Closed (length answers)) })
  table_close desk number question number_low asks open_before =
      let event : Event = Close desk number in
      let after : List Event = history ++ event ∷ [] in
      let level : ℕ = length answers in
      let last : Resting = record { level = level; event = event } in
      let gone : Question = record { place = question.place; ending = Closed level } in
      let resting_is : resting after ≡ resting history ++ last ∷ [] = resting-push listed history sound event (standing-push history event) in
      let asked_is : issued after ≡ issued history = issued-same history event refl in
      record {
        len = table_of.len;
        each_class = λ k m found. class_kept history after last resting_is asked_is (k + 1) m refl (table_of.each_class k m found);
        places = map_set (λ (q : Question). q.place) table.questions (number - 1) question gone asks refl ∙ table_of.places ∙ sym asked_is;
        each_question =
            each_set (IsQuestionMark history) (IsQuestionMark after) table.questions number gone number_low table_of.each_question
            (question_ended history after last resting_is number question (Closed level) open_before
            (if_yes (number == number) (Closed level ∷ []) (eq-eqb number number refl)) (question_at table_of number question number_low asks))
            (λ other q differs. question_kept history after last resting_is other q (if_no (number == other) (Closed level ∷ []) (other_no number other differs)));
        asked_count = table_of.asked_count ∙ sym (length-set table.questions (number - 1) gone);
        answer_count = table_of.answer_count;
      }

  pub table_withdraw : (desk n : ℕ) → 1 ≤ n → n ≡ length answers
      → IsTableOf listed (history ++ Withdraw desk n ∷ []) (length answers - 1)
      (record { classes = map (left_mark n) table.classes; questions = map (left_question n) table.questions })
  table_withdraw desk n some count =
      let event : Event = Withdraw desk n in
      let after : List Event = history ++ event ∷ [] in
      let asked_is : issued after ≡ issued history = issued-same history event refl in
      let resting_is : resting after ≡ filter (λ e. nat_lt e.level n) (resting history) = resting-withdraw listed history sound desk n some count in
      record {
        len = length-map table.classes (left_mark n) ∙ table_of.len;
        each_class =
            each_mapped (IsMark history) (IsMark after) (left_mark n) table.classes table_of.each_class
            (λ place m is. record {
              ranking =
                  ap (λ (l : List ℕ). rankings l place (resting after)) asked_is ∙ ap (λ (l : List Resting). rankings (issued history) place l) resting_is
                  ∙ flat_map-filter (λ (e : Resting). ranking_by (issued history) place e.level e.event) (λ e. nat_lt e.level n) (stays n)
                  (λ e. ranking_left n (issued history) place e.level e.event) (resting history)
                  ∙ ap (λ l. filter (stays n) l) is.ranking ∙ marked_left n m.ranking;
              asked = ap (λ (l : List ℕ). list_any (λ a. a == place) l) asked_is ∙ is.asked;
            });
        places = map_map (λ (q : Question). q.place) (left_question n) (λ q. refl) table.questions ∙ table_of.places ∙ sym asked_is;
        each_question =
            each_mapped (IsQuestionMark history) (IsQuestionMark after) (left_question n) table.questions table_of.each_question
            (λ number q is. record {
              ending =
                  ap (λ (l : List Resting). endings number l) resting_is
                  ∙ flat_map-filter (λ (e : Resting). ending_by number e.level e.event) (λ e. nat_lt e.level n) (remains n)
                  (λ e. ending_left n number e.level e.event) (resting history)
                  ∙ ap (λ l. filter (remains n) l) is.ending ∙ ended_left n q.ending;
            });
        asked_count =
            count_mapped (λ m. m.issued) (λ m. m.issued) (left_mark n) (λ m. refl) table.classes ∙ table_of.asked_count
            ∙ sym (length-map table.questions (left_question n));
        answer_count = λ most.
            count_mapped (is_answer_up_to most) (is_answer_up_to (min most (n - 1))) (left_mark n) (λ m. up_to_left n most m.ranking some) table.classes
            ∙ table_of.answer_count (min most (n - 1)) ∙ omega (arith, count);
      }
