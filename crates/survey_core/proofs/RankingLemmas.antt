-- The ranking of each class of a legal history, and of every pair that the class stands for.
use Rattle.std.proofs.Common.{◌≡◌, ◌⊎◌, ℕ, zero, suc, ◌+◌, ◌-◌, ◌≤◌, ◌==◌, true, false, List, [], ◌∷◌, ◌++◌, length, take, get_or, Option, Some, None, slice_get, ℤ, refl, ap, sym, subst, ◌∙◌, inl, inr, append-nil}
use Rattle.std.specs.Option.{option_map_or}
use Rattle.std.proofs.Math.Seq.{take-append_seam}
use Rattle.std.proofs.lemmas.Bool.{eqb-true, eq-eqb, or_cases, or_left, or_right}
use Rattle.std.proofs.lemmas.Option.{none-some, same_Some, get_or_from_slice_get, slice_get_within, slice_get_read}
use Rattle.std.proofs.lemmas.List.Elements.{All-take}
use Rattle.std.proofs.lemmas.List.Folds.{Any-from_list_any, list_any-from_Any}
use Rattle.criteria_model.specs.declared.pairs.Pair.{Pair}
use Rattle.criteria_model.specs.declared.pairs.Answer.{Answer}
use Rattle.criteria_model.specs.declared.pairs.Side.{Side}
use Rattle.criteria_model.specs.declared.pairs.Side.TheVariants.{Left, Right, Equal}
use Rattle.criteria_model.specs.Answers.{Ranks, Meets, IsSatisfiable, IsRanked, Opens, turned_side}
use Rattle.criteria_model.proofs.GainLemmas.{replicas_rank_same_lem}
use Rattle.criteria_model.proofs.RankLemmas.{ranks_once, opened_is_open}
use Rattle.farkas_check.specs.Proof.{Proves}
use Rattle.farkas_check.proofs.Ranking.{proved_is_ranked_lem}
use Rattle.pair_enumeration.specs.declared.flips.Flip.{Flip}
use Rattle.pair_enumeration.specs.declared.flips.Flip.TheVariants.{Kept, Turned}
use Rattle.pair_enumeration.specs.Listed.{Listed}
use Rattle.pair_enumeration.specs.Places.{flipped}
use Rattle.pair_enumeration.proofs.PlaceLaws.{each_pair_has_place_lem}
use Rattle.survey_core.specs.declared.events.Event.{Event}
use Rattle.survey_core.specs.declared.events.Event.TheVariants.{Eliminate, Issue, Commit, Close, Withdraw}
use Rattle.survey_core.specs.Kinds.{eliminates}
use Rattle.survey_core.specs.Histories.{standing, issued, place_of, class_at, class_of, committed, commits_class, is_eliminated, is_committed}
use Rattle.survey_core.specs.Legal.{IsLegal}
use Rattle.survey_core.proofs.NamedParts.{MayEliminate, MayIssue, MayCommit, HasParts, named}
use Rattle.survey_core.specs.Laws.{last_point, GivesSide, HasRanking, flipped_side, AnswersAreSatisfiable, EliminatedAreRanked, EliminatedPairsAreRanked, IssuedAreOpen, AnsweredAreOpen, RankedHasRanking, EachHasOneRanking, RankingsAreByAnswers, ClassRanksPairs, CompleteRanksEveryPair}
use Rattle.survey_core.specs.Marked.{rests_on, Resting, numbered}
use Rattle.survey_core.proofs.ListSteps.{Each, at_some}
use Rattle.row_laws.proofs.ItemLemmas.{item_positive, item_within}
use Rattle.survey_core.proofs.StandingLemmas.{step}
use Rattle.survey_core.proofs.SoundLemmas.{IsSoundAt, IsSound, sound_history}
use Rattle.survey_core.proofs.LawLemmas.{last_point_meets_lem}

pub answers_are_satisfiable_lem : AnswersAreSatisfiable
answers_are_satisfiable_lem listed history model legal = (last_point listed.criteria.levels history, last_point_meets_lem listed history model legal)

-- ---- an event of a history, and what stands before it
event_at : (before after : List Event) (event : Event) → slice_get (before ++ event ∷ after) (length before) ≡ Some event
event_at [] after event = refl
event_at (first ∷ before) after event = event_at before after event

-- an event of a legal history may follow what stands before it
may_follow : (listed : Listed) (history before after : List Event) (event : Event) → IsLegal listed history → history ≡ before ++ event ∷ after
    → HasParts listed before event
may_follow listed history before after event legal whole =
    let at : slice_get history (length before) ≡ Some event =
    ap (λ (events : List Event). slice_get events (length before)) whole ∙ event_at before after event in
    let front : take (length before) history ≡ before =
    ap (λ (events : List Event). take (length before) events) whole ∙ take-append_seam before (event ∷ after) in
    subst (λ (events : List Event). HasParts listed events event) front
    (named listed (take (length before) history) event (legal (length before) event at).1)

pub eliminated_are_ranked_lem : EliminatedAreRanked
eliminated_are_ranked_lem listed history before after worker place verdict combination pair legal whole class =
    let levels : List ℕ = listed.criteria.levels in
    let answers : List Answer = committed listed.classes before in
    let may : MayEliminate listed before place verdict combination =
    may_follow listed history before after (Eliminate worker place verdict combination) legal whole in
    let proves : Proves levels answers combination pair verdict =
    at_some (class_at listed.classes place) (λ other. Proves levels answers combination other verdict) pair class may.proved in
    subst (λ (l : List Answer). IsRanked levels l pair verdict) (append-nil answers)
    (proved_is_ranked_lem levels answers [] combination pair verdict proves)

pub issued_are_open_lem : IssuedAreOpen
issued_are_open_lem listed history before after desk place plus minus pair legal whole class =
    let levels : List ℕ = listed.criteria.levels in
    let answers : List Answer = committed listed.classes before in
    let may : MayIssue listed before place plus minus = may_follow listed history before after (Issue desk place plus minus) legal whole in
    let opens : Opens levels answers pair plus minus =
    at_some (class_at listed.classes place) (λ pair. Opens levels answers pair plus minus) pair class may.opened in
    (opens, opened_is_open levels answers pair plus minus opens)

pub answered_are_open_lem : AnsweredAreOpen
answered_are_open_lem listed history before after desk question side plus minus point pair legal whole class =
    let levels : List ℕ = listed.criteria.levels in
    let answers : List Answer = committed listed.classes before in
    let may : MayCommit listed before question side plus minus point =
    may_follow listed history before after (Commit desk question side plus minus point) legal whole in
    let opens : Opens levels answers pair plus minus =
    at_some (class_of listed.classes (issued before) question) (λ pair. Opens levels answers pair plus minus) pair class may.opened in
    (opens, opened_is_open levels answers pair plus minus opens)

-- ---- a class is ranked by an event exactly where it has a ranking
eliminates_gives : (asked : List ℕ) (place : ℕ) (event : Event) → eliminates place event ≡ true → (side : Side) × GivesSide asked place event side
eliminates_gives asked place (Eliminate worker other verdict combination) h = (verdict, (eqb-true other place h, refl))
eliminates_gives asked place (Issue desk other plus minus) h = absurd cc
eliminates_gives asked place (Commit desk question side plus minus point) h = absurd cc
eliminates_gives asked place (Close desk question) h = absurd cc
eliminates_gives asked place (Withdraw desk answer) h = absurd cc

is_place : (place : ℕ) (found : Option ℕ) → option_map_or (λ other. other == place) found false ≡ true → found ≡ Some place
is_place place None h = absurd cc
is_place place (Some other) h = ap Some (eqb-true other place h)

commits_gives : (asked : List ℕ) (place : ℕ) (event : Event) → commits_class asked place event ≡ true → (side : Side) × GivesSide asked place event side
commits_gives asked place (Eliminate worker other verdict combination) h = absurd cc
commits_gives asked place (Issue desk other plus minus) h = absurd cc
commits_gives asked place (Commit desk question side plus minus point) h = (side, (is_place place (place_of asked question) h, refl))
commits_gives asked place (Close desk question) h = absurd cc
commits_gives asked place (Withdraw desk answer) h = absurd cc

gives_either : (asked : List ℕ) (place : ℕ) (side : Side) (event : Event) → GivesSide asked place event side
    → (eliminates place event ≡ true) ⊎ (commits_class asked place event ≡ true)
gives_either asked place side (Eliminate worker other verdict combination) g = inl (eq-eqb other place g.0)
gives_either asked place side (Issue desk other plus minus) g = absurd g
gives_either asked place side (Commit desk question chosen plus minus point) g =
    inr (ap (λ (o : Option ℕ). option_map_or (λ other. other == place) o false) g.0 ∙ eq-eqb place place refl)
gives_either asked place side (Close desk question) g = absurd g
gives_either asked place side (Withdraw desk answer) g = absurd g

pub ranked_has_ranking_lem : RankedHasRanking
ranked_has_ranking_lem history place =
    let asked : List ℕ = issued history in
    let events : List Event = standing history in (
      λ ranked. elim (or_cases (is_eliminated history place) (is_committed history place) ranked) [
        | inl eliminated ↦
            (let (k, event, within, at, h) = Any-from_list_any (eliminates place) events eliminated in
            let given : (side : Side) × GivesSide asked place event side = eliminates_gives asked place event h in
            (given.0, (k, event, within, at, given.1)))
        | inr given ↦
            (let (k, event, within, at, h) = Any-from_list_any (commits_class asked place) events given in
            let given : (side : Side) × GivesSide asked place event side = commits_gives asked place event h in
            (given.0, (k, event, within, at, given.1)))
      ],
      λ (side, (k, event, within, at, given)).
          elim (gives_either asked place side event given) [
            | inl eliminated ↦
                or_left (is_eliminated history place) (is_committed history place)
                (list_any-from_Any (eliminates place) events (k, event, within, at, eliminated))
            | inr committed ↦
                or_right (is_eliminated history place) (is_committed history place)
                (list_any-from_Any (commits_class asked place) events (k, event, within, at, committed))
          ],
    )

-- ---- the ranking of a class is the one by the answers
-- what each numbered event has, each event has by some number
at_event : (P : Resting → Type 0) (before : ℕ) (events : List Event) → Each P (numbered before events) → (k : ℕ) (event : Event)
    → slice_get events k ≡ Some event → (level : ℕ) × P (record { level = level; event = event })
at_event P before [] each k event at = absurd (none-some event at)
at_event P before (first ∷ later) each zero event at =
    let level : ℕ = rests_on before first in
    (level, subst (λ (e : Event). P (record { level = level; event = e })) (same_Some first event at) each.0)
at_event P before (first ∷ later) each (suc k) event at = at_event P (before + step first) later each.1 k event at

module _ (listed : Listed) (asked : List ℕ) (answers : List Answer) where
  -- the place has a class, and the answers rank it so
  abbrev pub RankedAt : ℕ → Side → Type 0
  RankedAt place side = (pair : Pair) × (class_at listed.classes place ≡ Some pair) × IsRanked listed.criteria.levels answers pair side

  given_ranked : (level place : ℕ) (side : Side) (event : Event) → IsSoundAt listed asked answers level event → GivesSide asked place event side → RankedAt place side
  given_ranked level place side (Eliminate worker other verdict combination) s g = (
    s.pair,
    ap (λ k. class_at listed.classes k) (sym g.0) ∙ s.class,
    λ values meets.
        subst (λ (t : Side). Ranks listed.criteria.levels values s.pair t) g.1
        (s.ranked values (record { vector = meets.vector; each = All-take (Meets listed.criteria.levels values) level answers meets.each })),
  )
  given_ranked level place side (Issue desk other plus minus) s g = absurd g
  given_ranked level place side (Commit desk question chosen plus minus point) s g =
      let same : s.place ≡ place = same_Some s.place place (sym s.asks ∙ g.0) in
      let given : Answer = record { pair = s.pair; side = chosen } in
      let at : get_or answers (level - 1) given ≡ given = get_or_from_slice_get answers (level - 1) given given s.answer in (
        s.pair,
        ap (λ k. class_at listed.classes k) (sym same) ∙ s.class,
        λ values meets.
            subst (λ (t : Side). Ranks listed.criteria.levels values s.pair t) g.1
            (subst (λ (a : Answer). Meets listed.criteria.levels values a) at
            (meets.each (level - 1) given (slice_get_within answers (level - 1) given s.answer))),
      )
  given_ranked level place side (Close desk question) s g = absurd g
  given_ranked level place side (Withdraw desk answer) s g = absurd g

ranking_ranks : (listed : Listed) (history : List Event) (place : ℕ) (side : Side) → IsLegal listed history → HasRanking history place side
    → RankedAt listed (issued history) (committed listed.classes history) place side
ranking_ranks listed history place side legal (k, event, within, at, given) =
    let asked : List ℕ = issued history in
    let answers : List Answer = committed listed.classes history in
    let sound : IsSound listed history = sound_history listed history legal in
    let found : slice_get (standing history) k ≡ Some event = slice_get_read (standing history) (length (standing history)) k event refl within (sym at) in
    let here : (level : ℕ) × IsSoundAt listed asked answers level event =
    at_event (λ e. IsSoundAt listed asked answers e.level e.event) 0 (standing history) sound.each k event found in
    given_ranked listed asked answers here.0 place side event here.1 given

pub rankings_are_by_answers_lem : RankingsAreByAnswers
rankings_are_by_answers_lem listed history place side pair legal ranking class =
    let here : RankedAt listed (issued history) (committed listed.classes history) place side = ranking_ranks listed history place side legal ranking in
    subst (λ (p : Pair). IsRanked listed.criteria.levels (committed listed.classes history) p side) (same_Some here.0 pair (sym here.1 ∙ class)) here.2

pub each_has_one_ranking_lem : EachHasOneRanking
each_has_one_ranking_lem listed history place one other model legal first second =
    let levels : List ℕ = listed.criteria.levels in
    let answers : List Answer = committed listed.classes history in
    let a : RankedAt listed (issued history) answers place one = ranking_ranks listed history place one legal first in
    let b : IsRanked levels answers a.0 other = rankings_are_by_answers_lem listed history place other a.0 legal second a.1 in
    let met : IsSatisfiable levels answers = answers_are_satisfiable_lem listed history model legal in
    ranks_once levels met.0 a.0 one other (a.2 met.0 met.1) (b met.0 met.1)

-- ---- every pair that a class stands for
turned_ranks : (levels : List ℕ) (values : List ℤ) (a b : List ℕ) (side : Side) → Ranks levels values (record { left = b; right = a }) side
    → Ranks levels values (record { left = a; right = b }) (turned_side side)
turned_ranks levels values a b Left h = h
turned_ranks levels values a b Right h = h
turned_ranks levels values a b Equal h = sym h

flipped_ranks : (levels : List ℕ) (values : List ℤ) (a b : List ℕ) (flip : Flip) (side : Side) → Ranks levels values (flipped flip a b) side
    → Ranks levels values (record { left = a; right = b }) (flipped_side flip side)
flipped_ranks levels values a b Kept side h = h
flipped_ranks levels values a b Turned side h = turned_ranks levels values a b side h

pub class_ranks_pairs_lem : ClassRanksPairs
class_ranks_pairs_lem listed answers place side pair a b flip class ranked stands =
    let same : pair ≡ stands.pair = same_Some pair stands.pair (sym class ∙ stands.stands) in
    λ values meets.
    flipped_ranks listed.criteria.levels values a b flip side
    (replicas_rank_same_lem listed.criteria.levels values stands.pair (flipped flip a b) side stands.replica
    (subst (λ (p : Pair). Ranks listed.criteria.levels values p side) same (ranked values meets)))

pub eliminated_pairs_are_ranked_lem : EliminatedPairsAreRanked
eliminated_pairs_are_ranked_lem listed history before after worker place verdict combination a b flip legal whole class =
    class_ranks_pairs_lem listed (committed listed.classes before) place verdict class.pair a b flip class.stands
    (eliminated_are_ranked_lem listed history before after worker place verdict combination class.pair legal whole class.stands) class

pub complete_ranks_every_pair_lem : CompleteRanksEveryPair
complete_ranks_every_pair_lem listed history model legal each a b first second needs =
    let answers : List Answer = committed listed.classes history in
    let (place, flip, class) = each_pair_has_place_lem listed a b model first second needs in
    let within : place ≤ length listed.classes = item_within listed.classes place class.pair class.stands in
    let found : (side : Side) × HasRanking history place side = (ranked_has_ranking_lem history place).0 (each place (item_positive listed.classes place class.pair class.stands, within)) in
    let by : IsRanked listed.criteria.levels answers class.pair found.0 =
    rankings_are_by_answers_lem listed history place found.0 class.pair legal found.1 class.stands in
    record {
      place = place;
      flip = flip;
      side = found.0;
      class = class;
      ranking = found.1;
      ranked = class_ranks_pairs_lem listed answers place found.0 class.pair a b flip class.stands by class;
    }
