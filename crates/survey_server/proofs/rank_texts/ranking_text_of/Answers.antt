use Rattle.std.proofs.Common.{◌≡◌, ◌+◌, ◌++◌, [], ◌∙◌, ap, sym, arith, drop, get_or, List, ℕ, pos}
use Rattle.std.specs.Prelude.{Some, slice_get}
use Rattle.std.proofs.lemmas.Option.{slice_get-get_or}
use Rattle.ranking.specs.NamedWorths.{NamedWorthView}
use Rattle.ranking.proofs.FieldLemmas.{item_at-next}
use Rattle.survey_server.specs.RankTexts.{ranked_row, ranked_rows, written}
use Rattle.survey_server.proofs.RankTextLemmas.{rows_step}
use Rattle.survey_server.proofs.rank_texts.ranking_text_of.Goals as goal

pub loop-index-preserved : goal.loop-index-preserved
loop-index-preserved c =
    let ranked : List NamedWorthView = c.args.ranked.now in
    let index : ℕ = c.loop-index.index in
    let none : NamedWorthView = record { name = []; worth = pos 0 } in
    let one : NamedWorthView = get_or ranked index none in
    let at : slice_get ranked index ≡ Some one = slice_get-get_or ranked index none (omega (arith, c.loop-index-test.true, c.count-index-end.ensures.value)) in
    let more : written c.write_ranked.new.writer ≡ written c.loop-index.writer ++ ranked_row ranked one = c.in_ok-write_ranked.ensures.written one (item_at-next ranked index ∙ at) in
    record {
      ready = c.in_ok-write_ranked.ensures.ready;
      text = ap (λ (xs : List ℕ). xs ++ ranked_rows ranked (drop (index + 1) ranked)) more ∙ sym (rows_step ranked index one (written c.loop-index.writer) at) ∙ c.loop-index.invariant.text;
    }
