-- Dictionaries whose rows are those of answers.
use Rattle.std.specs.Prelude.{ℕ, ◌+◌, ◌-◌, ◌*◌, ◌^◌, min, ◌≡◌, ◌<◌, ◌≤◌, List, [], ◌∷◌, length, take, pos}
use Rattle.std.specs.List.{flat_map}
use Rattle.criteria_model.specs.declared.pairs.Pair.{Pair}
use Rattle.criteria_model.specs.declared.pairs.Answer.{Answer}
use Rattle.criteria_model.specs.declared.pairs.Side.{Side}
use Rattle.criteria_model.specs.declared.pairs.Side.TheVariants.{Left, Right, Equal}
use Rattle.criteria_model.specs.Worth.{increments}
use Rattle.criteria_model.specs.Answers.{gain}
use Rattle.fraction_free.specs.declared.loaded.LoadedRow.{LoadedRow}
use Rattle.fraction_free.specs.Dictionary.{DictionaryView, loaded_at}
use Rattle.fraction_free.specs.Changes.{next_count}

-- the rows of a ranking: a strict one for left and right, and two that are not for equal
abbrev pub rows_of : List ℕ → Pair → Side → List LoadedRow
rows_of levels pair Left = (record { coefficients = gain levels pair Left; least = pos 1 }) ∷ []
rows_of levels pair Right = (record { coefficients = gain levels pair Right; least = pos 1 }) ∷ []
rows_of levels pair Equal = (record { coefficients = gain levels pair Left; least = pos 0 }) ∷ (record { coefficients = gain levels pair Right; least = pos 0 }) ∷ []

-- the rows of the answers, in order
abbrev pub rows_of_answers : List ℕ → List Answer → List LoadedRow
rows_of_answers levels answers = flat_map (λ answer. rows_of levels answer.pair answer.side) answers

-- the row stands after the first `before`
pub record HasRow (loaded : List LoadedRow) (before : ℕ) (row : LoadedRow) : Type 0 where
  pub within : before < length loaded
  pub is : loaded_at loaded before ≡ row

-- these rows stand after the first `from`
abbrev pub BeginsAt : List LoadedRow → List LoadedRow → ℕ → Type 0
BeginsAt loaded [] from = Unit {0}
BeginsAt loaded (row ∷ rows) from = HasRow loaded from row × BeginsAt loaded rows (from + 1)

-- the dictionary has the model's increments as columns, and the answers' rows
pub record StandsFor (levels : List ℕ) (answers : List Answer) (d : DictionaryView) : Type 0 where
  pub columns : d.columns ≡ increments levels
  pub loaded : d.loaded ≡ rows_of_answers levels answers

-- room for the model's increments, for two rows an answer, and for two more
pub record HasRoomForRows (levels : List ℕ) (answers : List Answer) (d : DictionaryView) : Type 0 where
  pub columns : increments levels ≤ d.room_columns
  pub rows : 2 * length answers + 2 ≤ d.room_rows

-- the rooms are as before
pub record KeepsRoom (old new : DictionaryView) : Type 0 where
  pub columns : new.room_columns ≡ old.room_columns
  pub rows : new.room_rows ≡ old.room_rows

-- a count rose by at most this much, or stayed; it stands still at its last value, 2^64 - 1
pub record RisesAtMost (before now most : ℕ) : Type 0 where
  pub low : min before (2 ^ 64 - 1) ≤ now
  pub high : now ≤ before + most

-- afterwards the dictionary stands for the answers: loaded anew only where it stood for none of their prefixes, with at most two rows for each answer that it lacked, and `more` besides
pub record BringsUp (levels : List ℕ) (answers : List Answer) (more : ℕ) (old new : DictionaryView) : Type 0 where
  pub stands : StandsFor levels answers new
  pub room : KeepsRoom old new
  pub warm : (held : ℕ) → held ≤ length answers → StandsFor levels (take held answers) old
      → (new.loads ≡ old.loads) × RisesAtMost old.added new.added (2 * (length answers - held) + more)
  pub cold : ((held : ℕ) → held ≤ length answers → ¬ StandsFor levels (take held answers) old)
      → (new.loads ≡ next_count old.loads) × RisesAtMost old.added new.added (2 * length answers + more)
