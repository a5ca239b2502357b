use Rattle.std.proofs.Common.{◌≡◌, ◌≢◌, ◌∙◌, ◌<◌, ◌+◌, ◌-◌, ℕ, ℤ, pos, List, [], length, take, get_or, inr, sym, ap, subst, arith}
use Rattle.std.proofs.lemmas.List.{get_or-take}
use Rattle.fraction_free.specs.Dictionary.{DictionaryView}
use Rattle.fraction_free.specs.Changes.{IsFirstWithEntry, IsPivoted}
use Rattle.fraction_free.proofs.DropRow.{found_below}
use Rattle.fraction_free.proofs.dictionary.Dictionary.drop_last.Goals as goal
use Rattle.fraction_free.proofs.dictionary.Dictionary.drop_last.Goals.{After-first_row_with-row}

-- the row to pivot on
module _ (c : After-first_row_with-row) where
  below : c.first_row_with-row.result < length c.self.inside.loaded.items
  below =
      found_below c.self.inside.columns c.self.inside.loaded.items c.self.inside.scale c.self.inside.places c.self.inside.lines.items c.as_slice.result.now _ _ _ _ _ _
      c.place-place.result c.first_row_with-row.result (c.from-columns.result + c.len.result) c.self.invariant
      (omega (arith, c.requires, ap (λ (t : DictionaryView). length t.loaded) c.self.view_is))
      (omega (arith, c.from-columns.ensures, c.len.ensures, c.self.inside.loaded.ok.0))
      (omega (arith, c.if-place-columns.true, c.from-columns.ensures)) c.place-place.ensures.value c.as_slice.ensures.value c.first_row_with-row.ensures.before

  pub first : IsFirstWithEntry c.args.self.now c.first_row_with-row.result c.place-place.result
  first =
      let lines : c.as_slice.result.now ≡ c.args.self.now.lines = c.as_slice.ensures.value ∙ ap (λ (t : DictionaryView). t.lines) c.self.view_is in
      record {
        within = omega (arith, below, ap (λ (t : DictionaryView). length t.loaded) c.self.view_is);
        nonzero = subst (λ (ls : List (List ℤ)). get_or (get_or ls c.first_row_with-row.result []) c.place-place.result (pos 0) ≢ pos 0) lines
            (c.first_row_with-row.ensures.found (omega (arith, below, ap length c.as_slice.ensures.value, c.self.invariant.minors.lines_len)));
        first = subst (λ (ls : List (List ℤ)). (other : ℕ) → other < c.first_row_with-row.result → get_or (get_or ls other []) c.place-place.result (pos 0) ≡ pos 0) lines
            c.first_row_with-row.ensures.before;
      }

pub pivot-requires-clause-row_high : goal.pivot-requires-clause-row_high
pivot-requires-clause-row_high c = omega (arith, (first (goal.at.pivot-requires-clause-row_high c).After-first_row_with-row).within)

pub pivot-requires-clause-entry : goal.pivot-requires-clause-entry
pivot-requires-clause-entry c =
    let row : c.first_row_with-row.result + 1 - 1 ≡ c.first_row_with-row.result = omega arith in
    let column : c.place-place.result + 1 - 1 ≡ c.place-place.result = omega arith in
    rw (row, column) (first (goal.at.pivot-requires-clause-entry c).After-first_row_with-row).nonzero

-- the slack's column is the one that was found
pub returns-then-place-columns-clause-dropped : goal.returns-then-place-columns-clause-dropped
returns-then-place-columns-clause-dropped c =
    let row : c.first_row_with-row.result + 1 - 1 ≡ c.first_row_with-row.result = omega arith in
    let column : c.place-place.result + 1 - 1 ≡ c.place-place.result = omega arith in
    let pivoted : IsPivoted c.args.self.now c.pivot.new.self c.first_row_with-row.result c.place-place.result =
    subst (λ n. IsPivoted c.args.self.now c.pivot.new.self n c.place-place.result) row (subst (λ n. IsPivoted c.args.self.now c.pivot.new.self (c.first_row_with-row.result + 1 - 1) n) column c.pivot.ensures.pivoted) in
    let dropped = c.drop_row.ensures.dropped in
    let loaded : c.pivot.new.self.loaded ≡ c.args.self.now.loaded = ap (λ (t : DictionaryView). t.loaded) pivoted.rest in
    let columns : c.self.inside.columns ≡ c.args.self.now.columns = ap (λ (t : DictionaryView). t.columns) c.self.view_is in
    let nonbasic : take c.self.inside.columns c.self.inside.places.order ≡ c.args.self.now.nonbasic = ap (λ (t : DictionaryView). t.nonbasic) c.self.view_is in
    let slack = first (goal.at.returns-then-place-columns-clause-dropped c).After-first_row_with-row in
    record {
      loaded = ap (λ (t : DictionaryView). t.loaded) dropped.is ∙ ap (λ xs. take (length xs - 1) xs) loaded;
      columns = ap (λ (t : DictionaryView). t.columns) dropped.is ∙ ap (λ (t : DictionaryView). t.columns) pivoted.rest;
      room_columns = ap (λ (t : DictionaryView). t.room_columns) dropped.is ∙ ap (λ (t : DictionaryView). t.room_columns) pivoted.rest;
      room_rows = ap (λ (t : DictionaryView). t.room_rows) dropped.is ∙ ap (λ (t : DictionaryView). t.room_rows) pivoted.rest;
      loads = ap (λ (t : DictionaryView). t.loads) dropped.is ∙ ap (λ (t : DictionaryView). t.loads) pivoted.rest;
      added = ap (λ (t : DictionaryView). t.added) dropped.is ∙ ap (λ (t : DictionaryView). t.added) pivoted.rest;
      way = inr (
        c.place-place.result,
        c.first_row_with-row.result,
        c.pivot.new.self,
        record {
          within = omega (arith, c.if-place-columns.true, c.from-columns.ensures, columns);
          slack = ap (λ xs. get_or xs c.place-place.result 0) (sym nonbasic)
              ∙ get_or-take c.self.inside.columns c.self.inside.places.order c.place-place.result 0 (omega (arith, c.if-place-columns.true, c.from-columns.ensures))
              ∙ c.place-place.ensures.value
              ∙ omega (arith, c.from-columns.ensures, c.len.ensures, c.self.inside.loaded.ok.0, columns, ap (λ (t : DictionaryView). length t.loaded) c.self.view_is);
          first = slack;
          pivoted = pivoted;
          dropped = dropped;
        },
      );
    }
