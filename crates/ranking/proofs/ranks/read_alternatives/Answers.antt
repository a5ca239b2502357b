use Rattle.std.proofs.Common.{◌≡◌, ℕ, [], ◌∷◌, ◌∙◌, ap, sym, refl, arith, length, map}
use Rattle.std.specs.Prelude.{Err, option_map}
use Rattle.std.proofs.lemmas.List.{length-append}
use Rattle.std.proofs.lemmas.Option.{slice_get-map, slice_get_read}
use Rattle.csv.specs.Records.{fields_of}
use Rattle.ranking.specs.Tables.{alternative_in, alternatives_in}
use Rattle.ranking.proofs.ReadLemmas.{refusal_map, worths_step, worths_stop}
use Rattle.ranking.proofs.ranks.read_alternatives.Goals as goal

pub loop-row-preserved : goal.loop-row-preserved
loop-row-preserved g c =
    let criteria = (goal.LevelNames-dyn g c.args.names.now).criteria c.args.names.now.1 in
    let rows = c.args.rows.now in
    let index : ℕ = c.loop-row.row-index in
    let front = c.loop-row.alternatives.items in
    let at = slice_get-map fields_of rows index ∙ ap (option_map fields_of) (slice_get_read rows (length rows) index c.row-item.result refl (omega arith) c.row-item.is) in
    let step = worths_step criteria c.args.vector.now (map fields_of rows) index c.loop-row.place front (fields_of c.row-item.result) c.in-Ok.alternative at c.in-Ok.ensures.read in
    record {
      place = omega (arith, c.loop-row.invariant.place);
      len = rw c.in_ok-keep-in-Ok.ensures (omega (arith, length-append front (c.in-Ok.alternative ∷ []), c.loop-row.invariant.len));
      read = rw c.in_ok-keep-in-Ok.ensures (sym step ∙ c.loop-row.invariant.read);
    }

pub returns-in-Err-clause-read : goal.returns-in-Err-clause-read
returns-in-Err-clause-read g c =
    let criteria = (goal.LevelNames-dyn g c.args.names.now).criteria c.args.names.now.1 in
    let rows = c.args.rows.now in
    let index : ℕ = c.loop-row.row-index in
    let front = c.loop-row.alternatives.items in
    let at = slice_get-map fields_of rows index ∙ ap (option_map fields_of) (slice_get_read rows (length rows) index c.row-item.result refl (omega arith) c.row-item.is) in
    refusal_map (λ stop. alternative_in criteria c.args.vector.now c.loop-row.place (fields_of c.row-item.result) ≡ Err stop)
    (λ stop. alternatives_in criteria c.args.vector.now 2 (map fields_of rows) ≡ Err stop)
    (λ stop refused. sym c.loop-row.invariant.read ∙ worths_stop criteria c.args.vector.now (map fields_of rows) index c.loop-row.place front (fields_of c.row-item.result) stop at refused)
    c.in-Err.stop c.in-Err.ensures.read
