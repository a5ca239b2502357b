-- The records of a ranking, one after another.
use Rattle.std.proofs.Common.{◌≡◌, ℕ, ◌+◌, List, ◌++◌, drop, sym, ap, ◌∙◌, append_assoc}
use Rattle.std.specs.Prelude.{slice_get, Some}
use Rattle.ranking.specs.NamedWorths.{NamedWorthView}
use Rattle.ranking.proofs.FieldLemmas.{drop-get}
use Rattle.survey_server.specs.RankTexts.{ranked_row, ranked_rows}

-- one more record
pub rows_step : (ranked : List NamedWorthView) (index : ℕ) (one : NamedWorthView) (text : List ℕ) → slice_get ranked index ≡ Some one
    → text ++ ranked_rows ranked (drop index ranked) ≡ (text ++ ranked_row ranked one) ++ ranked_rows ranked (drop (index + 1) ranked)
rows_step ranked index one text at =
    ap (λ (rows : List NamedWorthView). text ++ ranked_rows ranked rows) (drop-get ranked index one at) ∙ sym (append_assoc text (ranked_row ranked one) (ranked_rows ranked (drop (index + 1) ranked)))
