-- The points of the answers that stand.
use Rattle.std.proofs.Common.{◌≡◌, ℕ, zero, suc, ◌+◌, ◌-◌, ◌<◌, true, false, List, [], ◌∷◌, ◌++◌, length, map, take, replicate, Option, Some, None, ℤ, pos, append-nil, length-append, refl, ap, sym, ◌∙◌, arith}
use Rattle.std.specs.Option.{option_map}
use Rattle.std.specs.List.{filter_map, fold, cons_option}
use Rattle.std.proofs.lemmas.List.Elements.{filter_map-append}
use Rattle.std.proofs.lemmas.Option.{slice_get-map}
use Rattle.criteria_model.specs.Worth.{increments}
use Rattle.pair_enumeration.specs.Listed.{Listed, IsListed}
use Rattle.survey_core.specs.declared.events.Event.{Event}
use Rattle.survey_core.specs.declared.events.Event.TheVariants.{Eliminate, Issue, Commit, Close, Withdraw}
use Rattle.survey_core.specs.declared.points.AnswerPoint.{AnswerPoint}
use Rattle.survey_core.specs.Kinds.{is_commit}
use Rattle.survey_core.specs.Histories.{item_at, standing, standing_after, committed}
use Rattle.survey_core.specs.Legal.{IsLegal}
use Rattle.survey_core.specs.Laws.{point_of, last_point}
use Rattle.survey_core.specs.Points.{answer_point, standing_points, points_after}
use Rattle.survey_core.proofs.FollowLemmas.{few_committed}
use Rattle.survey_core.proofs.ListSteps.{Each}
use Rattle.survey_core.proofs.SoundLemmas.{sound_history, answers_count}
use Rattle.survey_core.proofs.StandingLemmas.{standing-push, OfCommits, length-filter_map, filter_map-without}

each_point : (events : List Event) → Each (OfCommits answer_point) events
each_point [] = tt
each_point (Eliminate worker place verdict combination ∷ later) = (refl, each_point later)
each_point (Issue desk place plus minus ∷ later) = (refl, each_point later)
each_point (Commit desk question side plus minus point ∷ later) = ((record { question = question; point = point }, refl), each_point later)
each_point (Close desk question ∷ later) = (refl, each_point later)
each_point (Withdraw desk answer ∷ later) = (refl, each_point later)

points_step : (events : List Event) (event : Event) → filter_map answer_point (standing_after events event) ≡ points_after (filter_map answer_point events) event
points_step events (Eliminate worker place verdict combination) =
    filter_map-append answer_point events (Eliminate worker place verdict combination ∷ []) ∙ append-nil (filter_map answer_point events)
points_step events (Issue desk place plus minus) =
    filter_map-append answer_point events (Issue desk place plus minus ∷ []) ∙ append-nil (filter_map answer_point events)
points_step events (Commit desk question side plus minus point) =
    filter_map-append answer_point events (Commit desk question side plus minus point ∷ [])
points_step events (Close desk question) =
    filter_map-append answer_point events (Close desk question ∷ []) ∙ append-nil (filter_map answer_point events)
points_step events (Withdraw desk answer) =
    filter_map-without answer_point answer events (each_point events)
    ∙ ap (λ n. take (n - 1) (filter_map answer_point events)) (sym (length-filter_map answer_point events (each_point events)))

pub points_next : (history : List Event) (event : Event) → standing_points (history ++ event ∷ []) ≡ points_after (standing_points history) event
points_next history event = ap (λ events. filter_map answer_point events) (standing-push history event) ∙ points_step (standing history) event

pub points_count : (listed : Listed) (history : List Event) → IsLegal listed history → length (standing_points history) ≡ length (committed listed.classes history)
points_count listed history legal =
    length-filter_map answer_point (standing history) (each_point (standing history)) ∙ sym (answers_count listed history (sound_history listed history legal))

-- where a Commit may follow, there are fewer than classes
pub points_room : (listed : Listed) (history : List Event) (event : Event) → IsListed listed → IsLegal listed (history ++ event ∷ [])
    → is_commit event ≡ true → length (standing_points history) < length listed.classes
points_room listed history event model legal commits =
    omega (
      arith,
      one_more (standing_points history) event commits,
      ap (λ (l : List AnswerPoint). length l) (points_next history event),
      points_count listed (history ++ event ∷ []) legal,
      few_committed listed (history ++ event ∷ []) model legal,
    )
  where
    one_more : (points : List AnswerPoint) (event : Event) → is_commit event ≡ true → length (points_after points event) ≡ length points + 1
    one_more points (Commit desk question side plus minus point) is = length-append points (record { question = question; point = point } ∷ [])
    one_more points (Eliminate worker place verdict combination) is = absurd (let both : false ≡ true = is in cc)
    one_more points (Issue desk place plus minus) is = absurd (let both : false ≡ true = is in cc)
    one_more points (Close desk question) is = absurd (let both : false ≡ true = is in cc)
    one_more points (Withdraw desk answer) is = absurd (let both : false ≡ true = is in cc)

-- ---- what is read of them
module _ {X : Type 0} (f : AnswerPoint → X) where
  pub item_mapped : (points : List AnswerPoint) (n : ℕ) → item_at (map f points) n ≡ option_map f (item_at points n)
  item_mapped points zero = refl
  item_mapped points (suc k) = slice_get-map f points k

  fold_mapped : (first : X) (points : List AnswerPoint) → fold (λ earlier last. f last) first points ≡ fold (λ earlier last. last) first (map f points)
  fold_mapped first [] = refl
  fold_mapped first (point ∷ points) = fold_mapped (f point) points

  pub mapped : (g : Event → Option X) → ((event : Event) → option_map f (answer_point event) ≡ g event) → (events : List Event)
      → map f (filter_map answer_point events) ≡ filter_map g events
  mapped g same [] = refl
  mapped g same (event ∷ later) =
      one (answer_point event) (filter_map answer_point later)
      ∙ ap (λ o. cons_option o (map f (filter_map answer_point later))) (same event) ∙ ap (λ rest. cons_option (g event) rest) (mapped g same later)
    where
      one : (o : Option AnswerPoint) (rest : List AnswerPoint) → map f (cons_option o rest) ≡ cons_option (option_map f o) (map f rest)
      one None rest = refl
      one (Some point) rest = refl

point_same : (event : Event) → option_map (λ last. last.point) (answer_point event) ≡ point_of event
point_same (Eliminate worker place verdict combination) = refl
point_same (Issue desk place plus minus) = refl
point_same (Commit desk question side plus minus point) = refl
point_same (Close desk question) = refl
point_same (Withdraw desk answer) = refl

pub latest_is : (levels : List ℕ) (history : List Event)
    → fold (λ earlier last. last.point) (replicate (increments levels) (pos 1)) (standing_points history) ≡ last_point levels history
latest_is levels history =
    let ones : List ℤ = replicate (increments levels) (pos 1) in
    fold_mapped (λ last. last.point) ones (standing_points history)
    ∙ ap (λ points. fold (λ earlier point. point) ones points) (mapped (λ last. last.point) point_of point_same (standing history))
