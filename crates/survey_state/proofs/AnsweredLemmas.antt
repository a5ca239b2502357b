-- The questions of the answers that stand, and how many they are.
use Rattle.std.proofs.Common.{◌≡◌, ℕ, ◌≤◌, List, [], ◌∷◌, length, map, Option, Some, None, refl, ap, sym, ◌∙◌, arith}
use Rattle.std.specs.Option.{option_map}
use Rattle.std.proofs.lemmas.List.{length-map}
use Rattle.std.proofs.lemmas.Option.{none-some}
use Rattle.criteria_model.specs.declared.pairs.Answer.{Answer}
use Rattle.row_laws.proofs.ItemLemmas.{item_inside, item_positive}
use Rattle.pair_enumeration.specs.Listed.{Listed}
use Rattle.survey_core.specs.declared.events.Event.{Event}
use Rattle.survey_core.specs.declared.events.Event.TheVariants.{Eliminate, Issue, Commit, Close, Withdraw}
use Rattle.survey_core.specs.declared.points.AnswerPoint.{AnswerPoint}
use Rattle.survey_core.specs.Histories.{item_at, standing, committed}
use Rattle.survey_core.specs.Legal.{IsLegal}
use Rattle.survey_core.specs.Points.{answer_point, standing_points}
use Rattle.survey_core.proofs.PointLemmas.{item_mapped, mapped, points_count}
use Rattle.survey_replies.specs.Interview.{answered_question, answered}

question_same : (event : Event) → option_map (λ last. last.question) (answer_point event) ≡ answered_question event
question_same (Eliminate worker place verdict combination) = refl
question_same (Issue desk place plus minus) = refl
question_same (Commit desk question side plus minus point) = refl
question_same (Close desk question) = refl
question_same (Withdraw desk answer) = refl

pub last_question_is : (history : List Event)
    → option_map (λ last. last.question) (item_at (standing_points history) (length (standing_points history))) ≡ item_at (answered history) (length (answered history))
last_question_is history =
    let points : List AnswerPoint = standing_points history in
    let same : map (λ last. last.question) points ≡ answered history = mapped (λ last. last.question) answered_question question_same (standing history) in
    sym (item_mapped (λ last. last.question) points (length points))
    ∙ ap (λ n. item_at (map (λ last. last.question) points) n) (sym (length-map points (λ last. last.question)))
    ∙ ap (λ (l : List ℕ). item_at l (length l)) same

-- ---- how many they are
pub answered_count : (listed : Listed) (history : List Event) → IsLegal listed history → length (answered history) ≡ length (committed listed.classes history)
answered_count listed history legal =
    let points : List AnswerPoint = standing_points history in
    ap (λ (l : List ℕ). length l) (sym (mapped (λ last. last.question) answered_question question_same (standing history)))
    ∙ length-map points (λ last. last.question) ∙ points_count listed history legal

pub none_answered : (listed : Listed) (history : List Event) → IsLegal listed history → item_at (answered history) (length (answered history)) ≡ None
    → committed listed.classes history ≡ []
none_answered listed history legal none = go (committed listed.classes history) refl
  where
    go : (answers : List Answer) → answers ≡ committed listed.classes history → committed listed.classes history ≡ []
    go [] is = sym is
    go (answer ∷ answers) is =
        let some : 1 ≤ length (answered history) = omega (arith, answered_count listed history legal, ap (λ (l : List Answer). length l) is) in
        let last : (question : ℕ) × (item_at (answered history) (length (answered history)) ≡ Some question) =
        item_inside (answered history) (length (answered history)) some (omega arith) in
        absurd (none-some last.0 (sym none ∙ last.1))

pub some_answered : (listed : Listed) (history : List Event) (question : ℕ) → IsLegal listed history
    → item_at (answered history) (length (answered history)) ≡ Some question → 1 ≤ length (committed listed.classes history)
some_answered listed history question legal some =
    omega (arith, answered_count listed history legal, item_positive (answered history) (length (answered history)) question some)
