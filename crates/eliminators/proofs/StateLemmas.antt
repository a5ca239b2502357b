-- What a turn finds in its state.
use Rattle.std.proofs.Common.{◌≡◌, ℕ, ◌+◌, ◌≤◌, List, length, take, drop, All, Some, ap, sym, subst, ◌∙◌, arith}
use Rattle.std.specs.Prelude.{ℤ}
use Rattle.std.proofs.lemmas.List.Elements.{All-take, All-drop}
use Rattle.criteria_model.specs.declared.pairs.Pair.{Pair}
use Rattle.criteria_model.specs.declared.pairs.Answer.{Answer}
use Rattle.criteria_model.specs.declared.pairs.Side.TheVariants.{Left, Right}
use Rattle.criteria_model.specs.Counts.{class_count}
use Rattle.criteria_model.specs.Criteria.{Criteria}
use Rattle.criteria_model.specs.Pairs.{IsFit}
use Rattle.criteria_model.specs.Answers.{Ranks, Meets, MeetsAll, Opens}
use Rattle.decider.specs.declared.tools.Snapshot.{Snapshot}
use Rattle.pair_enumeration.specs.Listed.{Listed, IsListed}
use Rattle.row_laws.proofs.ItemLemmas.{item_positive, item_within}
use Rattle.survey_core.specs.declared.events.Event.{Event}
use Rattle.survey_core.specs.Histories.{class_at, committed}
use Rattle.survey_core.specs.Legal.{IsPlace}
use Rattle.survey_core.proofs.ListSteps.{some_at, take_whole}
use Rattle.survey_state.specs.States.{IsSnapshotOf, IsKept}
use Rattle.survey_state.proofs.FindingLemmas.{all_met}
use Rattle.eliminators.specs.Jobs.{IsReadySnapshot}

-- ---- a class by its place
pub has_place : (listed : Listed) (place : ℕ) (pair : Pair) → class_at listed.classes place ≡ Some pair → IsPlace listed place
has_place listed place pair class = (item_positive listed.classes place pair class, item_within listed.classes place pair class)

-- ---- the answers
copied_now : (listed : Listed) (journal : List Event) (answers : List Answer) (room missing : ℕ) (snapshot : Snapshot) → IsListed listed
    → answers ≡ committed listed.classes journal → All (λ answer. IsFit listed.criteria.levels answer.pair) answers → length answers ≤ length listed.classes
    → class_count listed.criteria.levels listed.criteria.degree ≤ room → snapshot.answers.answers ≡ take room (committed listed.classes journal)
    → length snapshot.answers.answers + missing ≡ length (committed listed.classes journal) → (missing ≡ 0 → IsSnapshotOf listed journal snapshot)
    → IsReadySnapshot listed journal snapshot
copied_now listed journal answers room missing snapshot is same fit few enough copied lacks whole =
    let len : length answers ≡ length (committed listed.classes journal) = ap (λ (l : List Answer). length l) same in
    let count : length listed.classes ≡ class_count listed.criteria.levels listed.criteria.degree = is.len in
    let all : take room (committed listed.classes journal) ≡ committed listed.classes journal = take_whole room (committed listed.classes journal) (omega arith) in
    let has : snapshot.answers.answers ≡ answers = copied ∙ all ∙ sym same in
    let has_len : length snapshot.answers.answers ≡ length answers = ap (λ (l : List Answer). length l) has in
    record {
      copy = whole (omega arith);
      few = omega arith;
      answers_fit = subst (λ (l : List Answer). All (λ answer. IsFit listed.criteria.levels answer.pair) l) (sym has) fit;
    }

-- what a core shows of the answers
pub record HasCore (listed : Listed) (history : List Event) (answers : List Answer) : Type 0 where
  pub model : IsListed listed
  pub value : answers ≡ committed listed.classes history
  pub fit : All (λ answer. IsFit listed.criteria.levels answer.pair) answers
  pub few : length answers ≤ length listed.classes

pub copied_all : (listed now : Listed) (journal history : List Event) (answers : List Answer) (room missing : ℕ) (snapshot : Snapshot) → now ≡ listed
    → history ≡ journal → HasCore now history answers → class_count listed.criteria.levels listed.criteria.degree ≤ room
    → snapshot.answers.answers ≡ take room (committed listed.classes journal)
    → length snapshot.answers.answers + missing ≡ length (committed listed.classes journal) → (missing ≡ 0 → IsSnapshotOf listed journal snapshot)
    → IsReadySnapshot listed journal snapshot
copied_all listed now journal history answers room missing snapshot same same_journal core enough copied lacks whole =
    let here : HasCore listed journal answers =
    subst (λ (l : Listed). HasCore l journal answers) same (subst (λ (h : List Event). HasCore now h answers) same_journal core) in
    copied_now listed journal answers room missing snapshot here.model here.value here.fit here.few enough copied lacks whole

-- ---- vectors
front_met : (levels : List ℕ) (answers : List Answer) (known : ℕ) (vector : List ℤ) → MeetsAll levels answers vector
    → MeetsAll levels (take known answers) vector
front_met levels answers known vector meets = record { vector = meets.vector; each = All-take (Meets levels vector) known answers meets.each }

pub rest_met : (levels : List ℕ) (answers : List Answer) (known : ℕ) (vector : List ℤ) → MeetsAll levels answers vector
    → MeetsAll levels (drop known answers) vector
rest_met levels answers known vector meets = record { vector = meets.vector; each = All-drop (Meets levels vector) known answers meets.each }

pub opens_front : (levels : List ℕ) (earlier answers : List Answer) (known : ℕ) (pair : Pair) (plus minus : List ℤ)
    → take known earlier ≡ take known answers → Opens levels earlier pair plus minus → Opens levels (take known answers) pair plus minus
opens_front levels earlier answers known pair plus minus same opens =
    subst (λ (l : List Answer). Opens levels l pair plus minus) same (record {
      plus_meets = front_met levels earlier known plus opens.plus_meets;
      minus_meets = front_met levels earlier known minus opens.minus_meets;
      more = opens.more;
      less = opens.less;
    })

pub opens_all : (levels : List ℕ) (answers : List Answer) (known : ℕ) (pair : Pair) (plus minus : List ℤ)
    → Opens levels (take known answers) pair plus minus → MeetsAll levels (drop known answers) plus → MeetsAll levels (drop known answers) minus
    → Opens levels answers pair plus minus
opens_all levels answers known pair plus minus opens plus_rest minus_rest = record {
  plus_meets = all_met levels answers known plus opens.plus_meets plus_rest;
  minus_meets = all_met levels answers known minus opens.minus_meets minus_rest;
  more = opens.more;
  less = opens.less;
}

pub opens_by : (listed now : Listed) (model : Criteria) (answers : List Answer) (pair : Pair) (plus minus : List ℤ) → now ≡ listed → model ≡ now.criteria
    → Opens listed.criteria.levels answers pair plus minus → Opens model.levels answers pair plus minus
opens_by listed now model answers pair plus minus same same_model opens =
    let criteria : model ≡ listed.criteria = same_model ∙ ap (λ (l : Listed). l.criteria) same in
    subst (λ (c : Criteria). Opens c.levels answers pair plus minus) (sym criteria) opens

kept_now : (listed : Listed) (answers : List Answer) (place met : ℕ) (pair : Pair) (plus minus : List ℤ) → class_at listed.classes place ≡ Some pair
    → met ≡ length answers → Opens listed.criteria.levels answers pair plus minus
    → IsKept listed answers place (record { plus = plus; minus = minus; met = met })
kept_now listed answers place met pair plus minus class all opens =
    let whole : answers ≡ take met answers = sym (take_whole met answers (omega arith)) in
    record {
      opposite = record {
        plus_vector = opens.plus_meets.vector;
        minus_vector = opens.minus_meets.vector;
        more = some_at (class_at listed.classes place) (λ other. Ranks listed.criteria.levels plus other Left) pair class opens.more;
        less = some_at (class_at listed.classes place) (λ other. Ranks listed.criteria.levels minus other Right) pair class opens.less;
      };
      within = omega arith;
      plus_meets = subst (λ (l : List Answer). MeetsAll listed.criteria.levels l plus) whole opens.plus_meets;
      minus_meets = subst (λ (l : List Answer). MeetsAll listed.criteria.levels l minus) whole opens.minus_meets;
    }

pub opened_kept : (listed now : Listed) (journal history : List Event) (model : Criteria) (answers : List Answer) (place met : ℕ) (pair : Pair)
    (plus minus : List ℤ) → now ≡ listed → history ≡ journal → model ≡ now.criteria → answers ≡ committed now.classes history
    → class_at listed.classes place ≡ Some pair → met ≡ length answers → Opens model.levels answers pair plus minus
    → IsKept listed (committed listed.classes journal) place (record { plus = plus; minus = minus; met = met })
opened_kept listed now journal history model answers place met pair plus minus same same_journal same_model value class all opens =
    let here : answers ≡ committed listed.classes journal =
    value ∙ ap (λ (l : Listed). committed l.classes history) same ∙ ap (λ (h : List Event). committed listed.classes h) same_journal in
    let criteria : model ≡ listed.criteria = same_model ∙ ap (λ (l : Listed). l.criteria) same in
    subst (λ (l : List Answer). IsKept listed l place (record { plus = plus; minus = minus; met = met })) here
    (kept_now listed answers place met pair plus minus class all (subst (λ (c : Criteria). Opens c.levels answers pair plus minus) criteria opens))
