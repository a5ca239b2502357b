-- What contracts see of a survey's state, and what its type keeps.
use Rattle.std.specs.Prelude.{◌≡◌, ℕ, ◌+◌, ◌-◌, ◌*◌, ◌<◌, ◌≤◌, Bool, ◌||◌, IsFalse, List, [], ◌∷◌, ◌++◌, length, map, take, count_by, slice_get, slice_set, Option, Some, None, IfSome, IsSomeAnd, ℤ}
use Rattle.criteria_model.specs.declared.pairs.Answer.{Answer}
use Rattle.criteria_model.specs.declared.pairs.Side.TheVariants.{Left, Right}
use Rattle.criteria_model.specs.Worth.{IsValueVector}
use Rattle.criteria_model.specs.Answers.{Ranks, MeetsAll}
use Rattle.decider.specs.declared.tools.Snapshot.{Snapshot}
use Rattle.pair_enumeration.specs.Listed.{Listed, IsListed}
use Rattle.question_queue.specs.declared.marks.Mark.{Mark}
use Rattle.question_queue.specs.declared.marks.Kept.{Kept}
use Rattle.question_queue.specs.Pools.{Pooled, given_out, cut_kept}
use Rattle.survey_core.specs.declared.events.Event.{Event}
use Rattle.survey_core.specs.declared.events.Event.TheVariants.{Commit, Withdraw}
use Rattle.survey_core.specs.Kinds.{is_commit, is_withdraw}
use Rattle.survey_core.specs.Histories.{is_issued, class_at, committed, is_ranked, withdrawals}
use Rattle.survey_core.specs.Legal.{IsPlace, IsUnranked, AreEarlierAsked, MayFollow, FailsFirst, IsLegal}
use Rattle.survey_core.specs.Laws.{last_point}
use Rattle.survey_core.specs.declared.points.AnswerPoint.{AnswerPoint}
use Rattle.survey_core.specs.Points.{standing_points}
use Rattle.survey_core.specs.Recorded.{Recorded}
use Rattle.survey_replies.specs.Records.{AreEarlierRanked}
use Rattle.survey_state.specs.declared.offer.Offer.{Offer}
use Rattle.survey_state.specs.declared.offer.Offer.TheVariants.{Done, Stale}

-- the model with its classes, the journal, for how many more events there is memory, and what is marked and kept of the classes
pub record Surveyed : Type 0 where
  pub listed : Listed
  pub journal : List Event
  pub spare : ℕ
  pub pool : Pooled

-- a Commit or a Withdraw changes the answers
abbrev pub changes_answers : Event → Bool
changes_answers event = is_commit event || is_withdraw event

-- how often the answers changed
abbrev pub version_of : List Event → ℕ
version_of journal = count_by changes_answers journal

-- memory for all events that may follow the journal up to the next Withdraw
abbrev pub HasRoom : Listed → List Event → ℕ → Type 0
HasRoom listed journal spare = (more : List Event) → IsLegal listed (journal ++ more) → withdrawals more ≡ 0 → length more ≤ spare

-- a Withdraw needs memory for itself and for three events a class
abbrev pub room_for_withdrawal : Listed → ℕ
room_for_withdrawal listed = 3 * length listed.classes + 1

-- at which version each class was last given out
abbrev pub given_at : Pooled → List (Option ℕ)
given_at pool = map (λ mark. mark.given) pool.marks

-- the vectors kept for the classes, after one more event: after a withdrawal there are fewer answers that they can meet
abbrev pub kept_after : List (Option Kept) → Event → List (Option Kept)
kept_after kept (Withdraw desk answer) = map (cut_kept (answer - 1)) kept
kept_after kept _ = kept

-- an event that may follow is put at the end, of the memory that there was. No class is given out by it, and no vectors come
pub record IsAppended (old new : Surveyed) (event : Event) : Type 0 where
  pub allowed : MayFollow old.listed old.journal event
  pub listed : new.listed ≡ old.listed
  pub journal : new.journal ≡ old.journal ++ event ∷ []
  pub spare : new.spare ≡ old.spare - 1
  pub given : given_at new.pool ≡ given_at old.pool
  pub kept : new.pool.kept ≡ kept_after old.pool.kept event

-- what an offer does: an event that may follow is put at the end. Any other is refused by the first part that it lacks, and nothing changes
abbrev pub IsOffered : Surveyed → Surveyed → Event → Offer → Type 0
IsOffered old new event Done = IsAppended old new event
IsOffered old new event (Stale broken) = FailsFirst old.listed old.journal event broken × (new ≡ old)

-- a snapshot that has the journal's answers, a point that meets them, and the version
pub record HasAnswersOf (listed : Listed) (journal : List Event) (snapshot : Snapshot) : Type 0 where
  pub answers : snapshot.answers.answers ≡ committed listed.classes journal
  pub meets : MeetsAll listed.criteria.levels snapshot.answers.answers snapshot.point
  pub version : snapshot.version ≡ version_of journal

-- a snapshot of the journal, which has its answers: the point is that of the last answer
pub record IsSnapshotOf (listed : Listed) (journal : List Event) (snapshot : Snapshot) : Type 0 where
  pub has : HasAnswersOf listed journal snapshot
  pub point : snapshot.point ≡ last_point listed.criteria.levels journal

-- the first class that no event ranks
pub record IsFirstUnranked (listed : Listed) (journal : List Event) (place : ℕ) : Type 0 where
  pub class : IsPlace listed place
  pub unranked : IsUnranked journal place
  pub earlier : AreEarlierRanked journal place

-- the first class that no event ranks and that was never asked
pub record IsFirstDue (listed : Listed) (journal : List Event) (place : ℕ) : Type 0 where
  pub class : IsPlace listed place
  pub unranked : IsUnranked journal place
  pub unasked : IsFalse (is_issued journal place)
  pub earlier : AreEarlierAsked journal place

-- two value vectors: by the first the class's left side is worth more, by the second less
pub record RankOppositely (listed : Listed) (place : ℕ) (plus minus : List ℤ) : Type 0 where
  pub plus_vector : IsValueVector listed.criteria.levels plus
  pub minus_vector : IsValueVector listed.criteria.levels minus
  pub more : IsSomeAnd (class_at listed.classes place) (λ pair. Ranks listed.criteria.levels plus pair Left)
  pub less : IsSomeAnd (class_at listed.classes place) (λ pair. Ranks listed.criteria.levels minus pair Right)

-- vectors of a class: two that rank it oppositely, and both meet the first answers, as many as is said
pub record IsKept (listed : Listed) (answers : List Answer) (place : ℕ) (kept : Kept) : Type 0 where
  pub opposite : RankOppositely listed place kept.plus kept.minus
  pub within : kept.met ≤ length answers
  pub plus_meets : MeetsAll listed.criteria.levels (take kept.met answers) kept.plus
  pub minus_meets : MeetsAll listed.criteria.levels (take kept.met answers) kept.minus

-- the state, with another pool
abbrev pub with_pool : Surveyed → Pooled → Surveyed
with_pool state pool = record { listed = state.listed; journal = state.journal; spare = state.spare; pool = pool }

-- the pool, with its first job at the version given out
abbrev pub with_given : Pooled → ℕ → Pooled
with_given pool version = record { marks = given_out version pool.marks; kept = pool.kept }

-- the pool, with these vectors kept for the class at the place
abbrev pub with_kept : Pooled → ℕ → Kept → Pooled
with_kept pool place kept = record { marks = pool.marks; kept = slice_set pool.kept (place - 1) (Some kept) }

-- the mark of a class says whether the journal ranks it and whether it was asked
pub record IsMarkOf (journal : List Event) (place : ℕ) (mark : Mark) : Type 0 where
  pub ranked : mark.ranked ≡ is_ranked journal place
  pub asked : mark.asked ≡ is_issued journal place

-- what a `State` keeps of the classes
pub record KeepsPool (listed : Listed) (journal : List Event) (pool : Pooled) : Type 0 where
  pub len : length pool.marks ≡ length listed.classes
  pub each_mark : (k : ℕ) (mark : Mark) → slice_get pool.marks k ≡ Some mark → IsMarkOf journal (k + 1) mark
  pub each_kept : (k : ℕ) (latest : Option Kept) → slice_get pool.kept k ≡ Some latest
      → IfSome latest (λ kept. IsKept listed (committed listed.classes journal) (k + 1) kept)

-- the last event of a history, and the pool as it was before it
pub record IsLastEvent (core : Recorded) (event : Event) (pool : Pooled) : Type 0 where
  pub journal : List Event
  pub history : core.history ≡ journal ++ event ∷ []
  pub legal : IsLegal core.listed journal
  pub allowed : MayFollow core.listed journal event
  pub kept : KeepsPool core.listed journal pool

-- marks of classes that each say whether the class was asked, the first of them, up to this number, also whether it is ranked
pub record AreMarkedUpTo (core : Recorded) (count : ℕ) (marks : List Mark) : Type 0 where
  pub len : length marks ≡ length core.listed.classes
  pub asked : (k : ℕ) (mark : Mark) → slice_get marks k ≡ Some mark → mark.asked ≡ is_issued core.history (k + 1)
  pub ranked : (k : ℕ) (mark : Mark) → k < count → slice_get marks k ≡ Some mark → mark.ranked ≡ is_ranked core.history (k + 1)

-- the mark, with what is said of whether the class is ranked
abbrev pub as_said : Bool → Mark → Mark
as_said said mark = record mark { ranked = said }

-- what a `State` keeps of its journal
pub record KeepsJournal (core : Recorded) (journal : List Event) (points : List AnswerPoint) (pool : Pooled) (version room_for_points spare : ℕ) : Type 0 where
  pub model : IsListed core.listed
  pub legal : IsLegal core.listed journal
  pub history : core.history ≡ journal
  pub points_of : points ≡ standing_points journal
  pub enough : length core.listed.classes ≤ room_for_points
  pub pool_of : KeepsPool core.listed journal pool
  pub changes : version ≡ version_of journal
  pub room : HasRoom core.listed journal spare
