-- What the cites of a combination sum to.
use Rattle.std.specs.Prelude.{ℕ, ◌-◌, List, [], ◌∷◌, slice_get, ℤ, pos, ◌+ℤ◌, ◌*ℤ◌}
use Rattle.std.specs.Option.{option_map_or}
use Rattle.criteria_model.specs.declared.pairs.Answer.{Answer}
use Rattle.criteria_model.specs.declared.pairs.Side.{Side}
use Rattle.criteria_model.specs.declared.pairs.Side.TheVariants.{Equal}
use Rattle.row_laws.specs.Rows.{entry}
use Rattle.criteria_model.specs.Answers.{gain}
use Rattle.farkas_check.specs.declared.cites.Cite.{Cite}

-- the side of the cited answer, whose number is at least 1; equal where the list ends before it
abbrev pub cited_side : List Answer → Cite → Side
cited_side answers cite = option_map_or (λ answer. answer.side) (slice_get answers (cite.answer - 1)) Equal

-- for each increment, what the winner of the cited answer has more than the loser; nothing where the list ends before it
abbrev pub cited_gain : List ℕ → List Answer → Cite → List ℤ
cited_gain levels answers cite = option_map_or (λ answer. gain levels answer.pair answer.side) (slice_get answers (cite.answer - 1)) []

-- at an increment, by its place: the sum, over the cites, of weight times what the winner of the cited answer has more
abbrev pub sum_of_cites : List ℕ → List Answer → List Cite → ℕ → ℤ
sum_of_cites levels answers [] place = pos 0
sum_of_cites levels answers (cite ∷ cites) place =
    cite.weight *ℤ entry (cited_gain levels answers cite) place +ℤ sum_of_cites levels answers cites place
