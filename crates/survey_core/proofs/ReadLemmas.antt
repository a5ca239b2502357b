-- What the marks say of a history.
use Rattle.std.proofs.Common.{◌≡◌, ◌⊎◌, ℕ, zero, suc, ◌+◌, ◌-◌, ◌<◌, ◌≤◌, ◌==◌, Bool, true, false, cond, not, ◌||◌, List, [], ◌∷◌, length, map, All, Contains, Option, Some, None, slice_get, refl, ap, sym, subst, ◌∙◌, inl, inr, arith}
use Rattle.std.specs.Option.{option_map}
use Rattle.std.specs.List.{filter, filter_map, flat_map, list_any, count_by, range_with_len, cons_option}
use Rattle.std.proofs.lemmas.List.Concat.{flat_map-cons}
use Rattle.std.proofs.lemmas.List.Folds.{list_any-append}
use Rattle.std.proofs.lemmas.List.Sums.{sum_by-cons}
use Rattle.std.proofs.lemmas.Option.{none-some, same_Some, slice_get_within, slice_get-map, get_or_from_slice_get}
use Rattle.std.proofs.lemmas.Bool.{cases_lt}
use Rattle.std.proofs.lemmas.List.{length-map}
use Rattle.criteria_model.specs.declared.pairs.Side.{Side}
use Rattle.criteria_model.specs.declared.pairs.Pair.{Pair}
use Rattle.criteria_model.specs.declared.pairs.Answer.{Answer}
use Rattle.criteria_model.specs.Pairs.{IsFit}
use Rattle.pair_enumeration.specs.Listed.{Listed, IsListed}
use Rattle.survey_core.specs.declared.events.Event.{Event}
use Rattle.survey_core.specs.declared.events.Event.TheVariants.{Eliminate, Issue, Commit, Close, Withdraw}
use Rattle.survey_core.specs.declared.marks.Ranking.{Ranking}
use Rattle.survey_core.specs.declared.marks.Ranking.TheVariants.{Unranked, Eliminated, Committed as CommittedBy}
use Rattle.survey_core.specs.declared.marks.Ending.{Ending}
use Rattle.survey_core.specs.declared.marks.Ending.TheVariants.{Open, Committed, Closed}
use Rattle.survey_core.specs.declared.marks.Mark.{Mark}
use Rattle.survey_core.specs.declared.marks.Question.{Question}
use Rattle.survey_core.specs.Kinds.{eliminates}
use Rattle.survey_core.specs.Histories.{standing, issued, class_at, class_of, place_of, answer_of, committed, ends, is_unended, open_questions, is_eliminated, commits_class, is_committed, is_ranked}
use Rattle.survey_core.specs.Marked.{Resting, numbered, resting, ranking_by, marked_rankings, ending_by, marked_endings, is_ranking, is_elimination, is_open, is_open_mark, Table, IsMark, IsQuestionMark, IsTableOf}
use Rattle.survey_core.proofs.ListSteps.{Each, Each-All, and_then_some}
use Rattle.row_laws.proofs.ItemLemmas.{item_of, item_found}
use Rattle.survey_core.proofs.StandingLemmas.{step}

any_flat : {X Y : Type 0} (f : X → List Y) (q : Y → Bool) (p : X → Bool) → ((x : X) → list_any q (f x) ≡ p x) → (xs : List X)
    → list_any q (flat_map f xs) ≡ list_any p xs
any_flat f q p h [] = refl
any_flat f q p h (x ∷ xs) =
    ap (λ l. list_any q l) (flat_map-cons f x xs) ∙ list_any-append q (f x) (flat_map f xs)
    ∙ ap (λ b. b || list_any q (flat_map f xs)) (h x) ∙ ap (λ b. p x || b) (any_flat f q p h xs)

any_numbered : (p : Event → Bool) (before : ℕ) (events : List Event) → list_any (λ e. p e.event) (numbered before events) ≡ list_any p events
any_numbered p before [] = refl
any_numbered p before (event ∷ later) = ap (λ b. p event || b) (any_numbered p (before + step event) later)

-- ---- classes
abbrev pub is_commitment : Ranking → Bool
is_commitment Unranked = false
is_commitment (Eliminated level) = false
is_commitment (CommittedBy level) = true

one_or_none : {Y : Type 0} (q : Y → Bool) (y : Y) (b : Bool) → list_any q (cond b (y ∷ []) []) ≡ cond b (q y || false) false
one_or_none q y true = refl
one_or_none q y false = refl

if_true : (b : Bool) → cond b true false ≡ b
if_true true = refl
if_true false = refl

if_none : (b : Bool) → cond b false false ≡ false
if_none true = refl
if_none false = refl

eliminated_by : (asked : List ℕ) (place level : ℕ) (event : Event) → list_any is_elimination (ranking_by asked place level event) ≡ eliminates place event
eliminated_by asked place level (Eliminate worker other verdict combination) = one_or_none is_elimination (Eliminated level) (other == place) ∙ if_true (other == place)
eliminated_by asked place level (Issue desk other plus minus) = refl
eliminated_by asked place level (Commit desk question side plus minus point) =
    let b : Bool = commits_class asked place (Commit desk question side plus minus point) in
    one_or_none is_elimination (CommittedBy level) b ∙ if_none b
eliminated_by asked place level (Close desk question) = refl
eliminated_by asked place level (Withdraw desk answer) = refl

committed_by : (asked : List ℕ) (place level : ℕ) (event : Event) → list_any is_commitment (ranking_by asked place level event) ≡ commits_class asked place event
committed_by asked place level (Eliminate worker other verdict combination) = one_or_none is_commitment (Eliminated level) (other == place) ∙ if_none (other == place)
committed_by asked place level (Issue desk other plus minus) = refl
committed_by asked place level (Commit desk question side plus minus point) =
    let b : Bool = commits_class asked place (Commit desk question side plus minus point) in
    one_or_none is_commitment (CommittedBy level) b ∙ if_true b
committed_by asked place level (Close desk question) = refl
committed_by asked place level (Withdraw desk answer) = refl

or_false : (b : Bool) → (b || false) ≡ b
or_false true = refl
or_false false = refl

any_marked : (q : Ranking → Bool) (ranking : Ranking) → q Unranked ≡ false → list_any q (marked_rankings ranking) ≡ q ranking
any_marked q Unranked none = sym none
any_marked q (Eliminated level) none = or_false (q (Eliminated level))
any_marked q (CommittedBy level) none = or_false (q (CommittedBy level))

pub mark_eliminated : (history : List Event) (place : ℕ) (mark : Mark) → IsMark history place mark → is_eliminated history place ≡ is_elimination mark.ranking
mark_eliminated history place mark is =
    sym (any_flat (λ (e : Resting). ranking_by (issued history) place e.level e.event) is_elimination (λ e. eliminates place e.event)
    (λ e. eliminated_by (issued history) place e.level e.event) (resting history) ∙ any_numbered (eliminates place) 0 (standing history))
    ∙ ap (λ l. list_any is_elimination l) is.ranking ∙ any_marked is_elimination mark.ranking refl

pub mark_committed : (history : List Event) (place : ℕ) (mark : Mark) → IsMark history place mark → is_committed history place ≡ is_commitment mark.ranking
mark_committed history place mark is =
    sym (any_flat (λ (e : Resting). ranking_by (issued history) place e.level e.event) is_commitment (λ e. commits_class (issued history) place e.event)
    (λ e. committed_by (issued history) place e.level e.event) (resting history) ∙ any_numbered (commits_class (issued history) place) 0 (standing history))
    ∙ ap (λ l. list_any is_commitment l) is.ranking ∙ any_marked is_commitment mark.ranking refl

either_ranking : (ranking : Ranking) → (is_elimination ranking || is_commitment ranking) ≡ is_ranking ranking
either_ranking Unranked = refl
either_ranking (Eliminated level) = refl
either_ranking (CommittedBy level) = refl

pub mark_ranked : (history : List Event) (place : ℕ) (mark : Mark) → IsMark history place mark → is_ranked history place ≡ is_ranking mark.ranking
mark_ranked history place mark is =
    ap (λ b. b || is_committed history place) (mark_eliminated history place mark is)
    ∙ ap (λ b. is_elimination mark.ranking || b) (mark_committed history place mark is) ∙ either_ranking mark.ranking

-- ---- questions
ended_by : (question level : ℕ) (event : Event) → list_any (λ (e : Ending). not (is_open e)) (ending_by question level event) ≡ ends question event
ended_by question level (Eliminate worker place verdict combination) = refl
ended_by question level (Issue desk place plus minus) = refl
ended_by question level (Commit desk committed side plus minus point) =
    one_or_none (λ (e : Ending). not (is_open e)) (Committed level) (committed == question) ∙ if_true (committed == question) ∙ sym (or_false (committed == question))
ended_by question level (Close desk closed) =
    one_or_none (λ (e : Ending). not (is_open e)) (Closed level) (closed == question) ∙ if_true (closed == question)
ended_by question level (Withdraw desk answer) = refl

any_ended : (ending : Ending) → not (list_any (λ (e : Ending). not (is_open e)) (marked_endings ending)) ≡ is_open ending
any_ended Open = refl
any_ended (Committed level) = refl
any_ended (Closed level) = refl

pub question_unended : (history : List Event) (number : ℕ) (question : Question) → IsQuestionMark history number question
    → is_unended history number ≡ is_open question.ending
question_unended history number question is =
    ap not (sym (any_flat (λ (e : Resting). ending_by number e.level e.event) (λ (e : Ending). not (is_open e)) (λ e. ends number e.event)
    (λ e. ended_by number e.level e.event) (resting history) ∙ any_numbered (ends number) 0 (standing history)))
    ∙ ap (λ l. not (list_any (λ (e : Ending). not (is_open e)) l)) is.ending ∙ any_ended question.ending

length_cond : (b : Bool) (x : ℕ) (xs : List ℕ) → length (cond b (x ∷ xs) xs) ≡ cond b 1 0 + length xs
length_cond true x xs = omega arith
length_cond false x xs = omega arith

length_filter_range : {X : Type 0} (p : ℕ → Bool) (r : X → Bool) (from : ℕ) (xs : List X) → ((k : ℕ) (x : X) → slice_get xs k ≡ Some x → p (from + k) ≡ r x)
    → length (filter p (range_with_len from (length xs))) ≡ count_by r xs
length_filter_range p r from [] h = refl
length_filter_range {X} p r from (x ∷ xs) h =
    let ih : length (filter p (range_with_len (from + 1) (length xs))) ≡ count_by r xs =
    length_filter_range p r (from + 1) xs (λ k y at. ap p (omega arith) ∙ h (suc k) y at) in
    let here : p from ≡ r x = ap p (omega arith) ∙ h 0 x refl in
    length_cond (p from) from (filter p (range_with_len (from + 1) (length xs))) ∙ ap (λ b. cond b 1 0 + length (filter p (range_with_len (from + 1) (length xs)))) here
    ∙ ap (λ n. cond (r x) 1 0 + n) ih ∙ sym (sum_by-cons (λ y. cond (r y) 1 0) x xs)

pub open_count : (history : List Event) (questions : List Question) → map (λ question. question.place) questions ≡ issued history
    → ((k : ℕ) (question : Question) → slice_get questions k ≡ Some question → IsQuestionMark history (k + 1) question)
    → length (open_questions history) ≡ count_by is_open_mark questions
open_count history questions places each =
    ap (λ n. length (filter (is_unended history) (range_with_len 1 n))) (sym (ap length places) ∙ length-map questions (λ question. question.place))
    ∙ length_filter_range (is_unended history) is_open_mark 1 questions
    (λ k question at. ap (λ n. is_unended history n) (omega arith) ∙ question_unended history (k + 1) question (each k question at))

contains_next : (x : ℕ) (xs : List ℕ) (b : Bool) (q : ℕ) → Contains xs q → Contains (cond b (x ∷ xs) xs) q
contains_next x xs true q (k, within, at) = (suc k, omega arith, at)
contains_next x xs false q h = h

contains_first : (x : ℕ) (xs : List ℕ) (b : Bool) → b ≡ true → Contains (cond b (x ∷ xs) xs) x
contains_first x xs true h = (0, omega arith, refl)
contains_first x xs false h = absurd (let both : false ≡ true = h in cc)

contains_either : (p : ℕ → Bool) (from n q : ℕ) → p q ≡ true → (from < q) ⊎ (q ≤ from) → from ≤ q → q < from + suc n
    → (from + 1 ≤ q → q < from + 1 + n → Contains (filter p (range_with_len (from + 1) n)) q) → Contains (filter p (range_with_len from (suc n))) q
contains_either p from n q passes (inl more) low high rest = contains_next from (filter p (range_with_len (from + 1) n)) (p from) q (rest (omega arith) (omega arith))
contains_either p from n q passes (inr last) low high rest =
    let same : from ≡ q = omega arith in
    subst (λ (x : ℕ). Contains (filter p (range_with_len from (suc n))) x) same
    (contains_first from (filter p (range_with_len (from + 1) n)) (p from) (ap p same ∙ passes))

-- a number of the range that passes the test is kept
pub contains_filtered : (p : ℕ → Bool) (from n q : ℕ) → from ≤ q → q < from + n → p q ≡ true → Contains (filter p (range_with_len from n)) q
contains_filtered p from zero q low high passes = absurd (omega arith)
contains_filtered p from (suc n) q low high passes = contains_either p from n q passes (cases_lt from q) low high (λ l h. contains_filtered p (from + 1) n q l h passes)

-- ---- answers
contained : {X : Type 0} (xs : List X) (k : ℕ) (x : X) → slice_get xs k ≡ Some x → Contains xs x
contained xs k x at = (k, slice_get_within xs k x at, get_or_from_slice_get xs k x x at)

-- a class at a place is a class of the model
pub class_fits : (listed : Listed) (k : ℕ) (pair : Pair) → IsListed listed → slice_get listed.classes k ≡ Some pair → IsFit listed.criteria.levels pair
class_fits listed k pair model at = ((model.list.members pair).0 (contained listed.classes k pair at)).fits

pub map_some : {X Y : Type 0} (f : X → Y) (o : Option X) (y : Y) → option_map f o ≡ Some y → (x : X) × (o ≡ Some x) × (f x ≡ y)
map_some f None y h = absurd (none-some y h)
map_some f (Some x) y h = (x, refl, same_Some (f x) y h)

given_fits : (listed : Listed) (asked : List ℕ) → IsListed listed → (question : ℕ) (side : Side) (answer : Answer)
    → option_map (λ pair. record { pair = pair; side = side }) (class_of listed.classes asked question) ≡ Some answer → IsFit listed.criteria.levels answer.pair
given_fits listed asked model question side answer is =
    let made : Pair → Answer = λ pair. record { pair = pair; side = side } in
    let given : (pair : Pair) × (class_of listed.classes asked question ≡ Some pair) × (made pair ≡ answer) = map_some made (class_of listed.classes asked question) answer is in
    let at : (place : ℕ) × (place_of asked question ≡ Some place) × (class_at listed.classes place ≡ Some given.0) =
    and_then_some (class_at listed.classes) (place_of asked question) given.0 given.1 in
    subst (λ (a : Answer). IsFit listed.criteria.levels a.pair) given.2 (class_fits listed (at.0 - 1) given.0 model (item_found listed.classes at.0 given.0 at.2))

answer_fits : (listed : Listed) (asked : List ℕ) → IsListed listed → (event : Event) (answer : Answer) → answer_of listed.classes asked event ≡ Some answer
    → IsFit listed.criteria.levels answer.pair
answer_fits listed asked model (Eliminate worker place verdict combination) answer is = absurd (none-some answer is)
answer_fits listed asked model (Issue desk place plus minus) answer is = absurd (none-some answer is)
answer_fits listed asked model (Commit desk question side plus minus point) answer is = given_fits listed asked model question side answer is
answer_fits listed asked model (Close desk question) answer is = absurd (none-some answer is)
answer_fits listed asked model (Withdraw desk number) answer is = absurd (none-some answer is)

each_cons : {Y : Type 0} (P : Y → Type 0) (o : Option Y) (ys : List Y) → ((y : Y) → o ≡ Some y → P y) → Each P ys → Each P (cons_option o ys)
each_cons P None ys h rest = rest
each_cons P (Some y) ys h rest = (h y refl, rest)

each_given : {X Y : Type 0} (f : X → Option Y) (P : Y → Type 0) → ((x : X) (y : Y) → f x ≡ Some y → P y) → (xs : List X) → Each P (filter_map f xs)
each_given f P h [] = tt
each_given f P h (x ∷ xs) = each_cons P (f x) (filter_map f xs) (h x) (each_given f P h xs)

pub answers_fit : (listed : Listed) (history : List Event) → IsListed listed → All (λ answer. IsFit listed.criteria.levels answer.pair) (committed listed.classes history)
answers_fit listed history model =
    Each-All (λ (answer : Answer). IsFit listed.criteria.levels answer.pair) (committed listed.classes history)
    (each_given (answer_of listed.classes (issued history)) (λ answer. IsFit listed.criteria.levels answer.pair) (answer_fits listed (issued history) model) (standing history))

-- ---- the table of a history
module _ {listed : Listed} {history : List Event} {answers : ℕ} {table : Table} (table_of : IsTableOf listed history answers table) where
  pub mark_at : (place : ℕ) (mark : Mark) → 1 ≤ place → slice_get table.classes (place - 1) ≡ Some mark → IsMark history place mark
  mark_at place mark low at =
      let same : place - 1 + 1 ≡ place = omega arith in
      subst (λ (n : ℕ). IsMark history n mark) same (table_of.each_class (place - 1) mark at)

  pub question_at : (number : ℕ) (question : Question) → 1 ≤ number → slice_get table.questions (number - 1) ≡ Some question
      → IsQuestionMark history number question
  question_at number question low at =
      let same : number - 1 + 1 ≡ number = omega arith in
      subst (λ (n : ℕ). IsQuestionMark history n question) same (table_of.each_question (number - 1) question at)

  pub issued_len : length (issued history) ≡ length table.questions
  issued_len = ap (λ (l : List ℕ). length l) (sym table_of.places) ∙ length-map table.questions (λ (q : Question). q.place)

  pub asks_at : (number : ℕ) (question : Question) → 1 ≤ number → slice_get table.questions (number - 1) ≡ Some question
      → place_of (issued history) number ≡ Some question.place
  asks_at number question low at =
      item_of (issued history) number question.place low
      (ap (λ (l : List ℕ). slice_get l (number - 1)) (sym table_of.places)
      ∙ slice_get-map (λ (q : Question). q.place) table.questions (number - 1)
      ∙ ap (λ (o : Option Question). option_map (λ (q : Question). q.place) o) at)
