use Rattle.std.proofs.Common.{◌≡◌, ◌∙◌, ◌+◌, ◌-◌, length, take, drop, get_or, vec_len, sym, ap, subst, arith}
use Rattle.std.proofs.lemmas.List.{get_or-drop}
use Rattle.std.proofs.lemmas.List.Edits.{length-swap}
use Rattle.std.specs.List.{SwappedAt, swap}
use Rattle.fraction_free.specs.Arrangement.{Arranged}
use Rattle.fraction_free.specs.Dictionary.{DictionaryView}
use Rattle.fraction_free.specs.Changes.{DropsRow}
use Rattle.fraction_free.proofs.Views.{view_with}
use Rattle.fraction_free.proofs.PivotKept.{swapped_at}
use Rattle.fraction_free.proofs.DropRow.{AreRowsSwapped, dropped_kept, dropped_row}
use Rattle.fraction_free.proofs.Kept.{dictionary_from_kept}
use Rattle.fraction_free.proofs.dictionary.Dictionary.drop_row.Goals as goal
use Rattle.fraction_free.proofs.dictionary.Dictionary.drop_row.Goals.{After-swap-2}

-- the two rows exchanged, before the last goes
module _ (c : After-swap-2) where
  count : length c.self.inside.loaded.items ≡ length c.args.self.now.loaded
  count = ap (λ (t : DictionaryView). length t.loaded) c.self.view_is

  columns : c.self.inside.columns ≡ c.args.self.now.columns
  columns = ap (λ (t : DictionaryView). t.columns) c.self.view_is

  lines_len : c.len-last.result ≡ length c.self.inside.loaded.items
  lines_len = c.len-last.ensures ∙ c.self.inside.lines.ok.0 ∙ c.self.invariant.minors.lines_len

  some : c.self.inside.columns + 1 + (c.len-last.result - 1) + 1 ≡ length c.self.inside.places.order
  some = omega (arith, lines_len, count, c.self.invariant.minors.order_len, c.requires.within)

  mid_is : c.swap-2.new.self.order ≡ swap c.self.inside.places.order (c.self.inside.columns + 1 + c.args.row) (c.self.inside.columns + 1 + (c.len-last.result - 1))
  mid_is =
      let at : c.from-rows.result ≡ c.self.inside.columns = c.from-rows.ensures in
      ap (λ (p : Arranged). p.order) c.swap-2.ensures.order
      ∙ ap (λ n. swap c.self.inside.places.order (n + 1 + c.args.row) (n + 1 + (c.len-last.result - 1))) at

  order_swapped : SwappedAt c.self.inside.places.order c.swap-2.new.self.order (c.self.inside.columns + 1 + c.args.row) (c.self.inside.columns + 1 + (c.len-last.result - 1))
  order_swapped =
      swapped_at c.self.inside.places.order c.swap-2.new.self.order (c.self.inside.columns + 1 + c.args.row) (c.self.inside.columns + 1 + (c.len-last.result - 1))
      (omega (arith, some, count, lines_len, c.requires.within)) (omega (arith, some)) mid_is

  pub swapped : AreRowsSwapped c.self.inside.columns c.self.inside.places.order c.self.inside.lines.items c.swap-2.new.self.order c.swap.new.self.items c.args.row (c.len-last.result - 1)
  swapped = record {
    first_below = omega (arith, c.self.invariant.minors.lines_len, count, c.requires.within);
    second_below = omega (arith, c.self.invariant.minors.lines_len, lines_len, count, c.requires.within);
    order_len = ap length mid_is ∙ length-swap c.self.inside.places.order (c.self.inside.columns + 1 + c.args.row) (c.self.inside.columns + 1 + (c.len-last.result - 1));
    lines_len = sym c.swap.new.self.ok.0 ∙ c.swap.ensures.len ∙ c.self.inside.lines.ok.0;
    order_swapped = order_swapped;
    lines_swapped = c.swap.ensures.by_index;
  }

  -- the slack stands at the row's place
  pub slack : get_or (drop (c.self.inside.columns + 1) c.self.inside.places.order) c.args.row 0 ≡ c.self.inside.columns + (c.len-last.result - 1 + 1)
  slack =
      let basic : drop (c.self.inside.columns + 1) c.self.inside.places.order ≡ c.args.self.now.basic = ap (λ (t : DictionaryView). t.basic) c.self.view_is in
      ap (λ xs. get_or xs c.args.row 0) basic ∙ c.requires.slack ∙ omega (arith, lines_len, count, columns, c.requires.within)

  -- and after the exchange at the last
  pub last : get_or c.swap-2.new.self.order (c.self.inside.columns + 1 + (c.len-last.result - 1)) 0 ≡ c.self.inside.columns + 1 + (c.len-last.result - 1)
  last =
      order_swapped.1 0 ∙ sym (get_or-drop (c.self.inside.columns + 1) c.self.inside.places.order c.args.row 0) ∙ slack ∙ omega arith

  pub rows : length c.self.inside.loaded.items ≡ c.len-last.result - 1 + 1
  rows = omega (arith, lines_len, count, c.requires.within)

  pub end : length c.swap-2.new.self.order - 1 ≡ c.self.inside.columns + 1 + (c.len-last.result - 1)
  end = omega (arith, swapped.order_len, some)

pub pop-requires-clause-last : goal.pop-requires-clause-last
pop-requires-clause-last c =
    let p = (goal.at.pop-requires-clause-last c).After-swap-2 in
    ap (λ n. get_or c.swap-2.new.self.order n 0) (end p) ∙ last p ∙ sym (end p)

pub invariant_of-self : goal.invariant_of-self
invariant_of-self c =
    let p = (goal.at.invariant_of-self c).After-swap-2 in
    let inside = c.self.inside in
    let loaded_len : vec_len inside.loaded - 1 ≡ c.len-last.result - 1 = omega (arith, inside.loaded.ok.0, rows p) in
    let mid_lines_len : vec_len c.swap.new.self - 1 ≡ c.len-last.result - 1 = omega (arith, c.swap.ensures.len, c.len-last.ensures) in
    dropped_kept inside.columns inside.loaded.items c.pop-row.new.self.items inside.scale inside.places c.pop.new.self
    inside.lines.items c.pop-line.new.self.items c.swap.new.self.items c.swap-2.new.self.order
    inside.room_columns inside.room_rows _ _ inside.loads inside.added _ _ (c.len-last.result - 1) c.args.row c.self.invariant (rows p) (swapped p) c.swap-2.ensures.arrangement (last p)
    (c.pop-row.ensures.rest ∙ ap (λ n. take n inside.loaded.items) loaded_len)
    (c.pop-line.ensures.rest ∙ ap (λ n. take n c.swap.new.self.items) mid_lines_len)
    (ap (λ (p : Arranged). p.order) c.pop.ensures.order ∙ ap (λ n. take n c.swap-2.new.self.order) (end p))
    (ap (λ (p : Arranged). p.room) c.pop.ensures.order ∙ ap (λ (p : Arranged). p.room) c.swap-2.ensures.order)
    c.pop.ensures.arrangement (omega (arith, c.pop-line.ensures.capacity, c.swap.ensures.capacity)) (omega (arith, c.pop-row.ensures.capacity))

pub returns-clause-dropped : goal.returns-clause-dropped
returns-clause-dropped c =
    let p = (goal.at.returns-clause-dropped c).After-swap-2 in
    let inside = c.self.inside in
    let loaded_len : vec_len inside.loaded - 1 ≡ c.len-last.result - 1 = omega (arith, inside.loaded.ok.0, rows p) in
    let mid_lines_len : vec_len c.swap.new.self - 1 ≡ c.len-last.result - 1 = omega (arith, c.swap.ensures.len, c.len-last.ensures) in
    let new =
    view_with inside.columns c.pop-row.new.self.items inside.scale c.pop.new.self.order c.pop-line.new.self.items
    inside.room_columns inside.room_rows inside.loads inside.added in
    subst (λ (v : DictionaryView). DropsRow v new c.args.row) c.self.view_is
    (dropped_row inside.columns inside.loaded.items c.pop-row.new.self.items inside.scale inside.places.order c.swap-2.new.self.order c.pop.new.self.order
    inside.lines.items c.swap.new.self.items c.pop-line.new.self.items
    inside.room_columns inside.room_rows inside.loads inside.added (c.len-last.result - 1) c.args.row (rows p)
    (omega (arith, inside.lines.ok.0, c.len-last.ensures, rows p, c.self.invariant.minors.lines_len))
    (omega (arith, c.self.invariant.minors.order_len, rows p)) (swapped p) (slack p)
    (c.pop-row.ensures.rest ∙ ap (λ n. take n inside.loaded.items) loaded_len)
    (c.pop-line.ensures.rest ∙ ap (λ n. take n c.swap.new.self.items) mid_lines_len)
    (ap (λ (p : Arranged). p.order) c.pop.ensures.order ∙ ap (λ n. take n c.swap-2.new.self.order) (end p)))

pub returns-clause-dictionary : goal.returns-clause-dictionary
returns-clause-dictionary c = dictionary_from_kept _ _ _ _ _ _ _ _ _ _ _ (invariant_of-self c)
