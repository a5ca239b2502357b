use Rattle.std.proofs.Common.{◌≡◌, ◌++◌, drop}
use Rattle.survey_server.specs.RankTexts.{IsReady, ranked_rows, ranked_text, written}
use Rattle.survey_server.proofs.rank_texts.ranking_text_of.Given as goal

-- The text so far, and the records that are left, are the whole text.
abbrev pub invariant-loop-index : goal.invariant-loop-index
invariant-loop-index l = record {
  ready : IsReady l.writer;
  text : written l.writer ++ ranked_rows l.ranked (drop l.index l.ranked) ≡ ranked_text l.ranked;
}
