use Rattle.std.proofs.Common.{◌≡◌, ◌≢◌, ◌+◌, ◌-◌, ℕ, ℤ, pos, length, to_z, of_z, sym, ap, subst, refl, arith}
use Rattle.std.specs.Int.{w128}
use Rattle.row_laws.proofs.Integers.{read_back}
use Rattle.fraction_free.specs.Arrangement.{Arranged}
use Rattle.row_laws.specs.Rows.{entry}
use Rattle.fraction_free.specs.Changes.{IsPivoted}
use Rattle.fraction_free.specs.Dictionary.{DictionaryView, Satisfies, line_of}
use Rattle.fraction_free.specs.Representation.{CanExchange}
use Rattle.fraction_free.proofs.Kept.{can_exchange, scale_fits, dictionary_from_kept, satisfied}
use Rattle.fraction_free.proofs.PivotKept.{IsExchange, exchange_from, exchanged_kept, exchanged_back_all, pivoted_from}
use Rattle.fraction_free.proofs.dictionary.Dictionary.pivot.Goals as goal
use Rattle.fraction_free.proofs.dictionary.Dictionary.pivot.Goals.{After-swap}

nonzero_of : (t u : DictionaryView) (row col n : ℕ) → t ≡ u → n ≡ col → entry (line_of u row) (col - 1) ≢ pos 0 → entry (line_of t row) (n - 1) ≢ pos 0
nonzero_of t u row col n same is h = rw (same, is) h

pub pivot_lines-entry-requires-clause-exact : goal.pivot_lines-entry-requires-clause-exact
pivot_lines-entry-requires-clause-exact c =
    let k = c.self.invariant in
    let inside = c.self.inside in
    let rows : length inside.loaded.items ≡ length c.args.self.now.loaded = ap (λ (t : DictionaryView). length t.loaded) c.self.view_is in
    let columns : inside.columns ≡ c.args.self.now.columns = ap (λ (t : DictionaryView). t.columns) c.self.view_is in
    subst (λ (z : ℤ). CanExchange z (c.args.row - 1) (c.from-column.result - 1) inside.lines.items)
    (sym (read_back w128 inside.scale (omega (arith, scale_fits inside.columns inside.loaded.items inside.scale inside.places.order inside.lines.items k.minors))))
    (can_exchange inside.columns inside.loaded.items inside.scale inside.places.order inside.lines.items (c.args.row - 1) (c.from-column.result - 1) k.minors (omega arith) (omega arith)
    (nonzero_of _ c.args.self.now (c.args.row - 1) c.args.col c.from-column.result c.self.view_is c.from-column.ensures c.requires.entry))

exchanged : (c : After-swap) → IsExchange c.self.inside.columns c.self.inside.scale c.self.inside.places.order c.self.inside.lines.items
    (to_z w128 (of_z w128 c.with_sign-self-inside.result)) c.swap.new.self.order c.pivot_lines-entry.new.lines.items (c.args.row - 1) (c.from-column.result - 1)
exchanged c =
    let k = c.self.invariant in
    let inside = c.self.inside in
    let rows : length inside.loaded.items ≡ length c.args.self.now.loaded = ap (λ (t : DictionaryView). length t.loaded) c.self.view_is in
    let columns : inside.columns ≡ c.args.self.now.columns = ap (λ (t : DictionaryView). t.columns) c.self.view_is in
    exchange_from inside.columns inside.loaded.items inside.scale (to_z w128 (of_z w128 inside.scale)) inside.places.order c.swap.new.self.order
    inside.lines.items c.pivot_lines-entry.new.lines.items (c.args.row - 1) (c.from-column.result - 1) 0 (c.from.result + 1 + (c.args.row - 1))
    c.pivot_lines-entry.result c.with_sign-self-inside.result (to_z w128 (of_z w128 c.with_sign-self-inside.result))
    k.minors (omega arith) (omega arith)
    (nonzero_of _ c.args.self.now (c.args.row - 1) c.args.col c.from-column.result c.self.view_is c.from-column.ensures c.requires.entry)
    (read_back w128 inside.scale (omega (arith, scale_fits inside.columns inside.loaded.items inside.scale inside.places.order inside.lines.items k.minors)))
    c.pivot_lines-entry.ensures.lines c.pivot_lines-entry.ensures.entry c.pivot_lines-entry.ensures.size
    c.with_sign-self-inside.ensures refl (omega (arith, c.from.ensures)) (ap (λ (a : Arranged). a.order) c.swap.ensures.order) c.swap.ensures.arrangement

pub invariant_of-self : goal.invariant_of-self
invariant_of-self c =
    let inside = c.self.inside in
    exchanged_kept inside.columns inside.loaded.items inside.scale inside.places inside.lines.items
    (to_z w128 (of_z w128 c.with_sign-self-inside.result)) c.swap.new.self c.pivot_lines-entry.new.lines.items (c.args.row - 1) (c.from-column.result - 1) inside.room_columns inside.room_rows _ _ _ inside.loads inside.added c.self.invariant (exchanged c)
    (ap (λ (a : Arranged). a.room) c.swap.ensures.order) c.pivot_lines-entry.ensures.capacity

pivoted_along : (t u v : DictionaryView) (row n col : ℕ) → t ≡ u → n ≡ col → IsPivoted t v row (n - 1) → IsPivoted u v row (col - 1)
pivoted_along t u v row n col same is h = rw (sym same, sym is) h

pub returns-clause-pivoted : goal.returns-clause-pivoted
returns-clause-pivoted c =
    let inside = c.self.inside in
    pivoted_along _ c.args.self.now _ (c.args.row - 1) c.from-column.result c.args.col c.self.view_is c.from-column.ensures
    (pivoted_from inside.columns inside.loaded.items inside.scale inside.places.order inside.lines.items
    (to_z w128 (of_z w128 c.with_sign-self-inside.result)) c.swap.new.self.order c.pivot_lines-entry.new.lines.items (c.args.row - 1) (c.from-column.result - 1) inside.room_columns inside.room_rows inside.loads inside.added (exchanged c))

pub returns-clause-solutions : goal.returns-clause-solutions
returns-clause-solutions c =
    let inside = c.self.inside in
    let k = c.self.invariant in
    let new = invariant_of-self c in
    λ x. (
      (λ h. subst (λ (t : DictionaryView). Satisfies t x) c.self.view_is
          (exchanged_back_all inside.columns inside.loaded.items inside.scale inside.places inside.lines.items
          (to_z w128 (of_z w128 c.with_sign-self-inside.result)) c.swap.new.self c.pivot_lines-entry.new.lines.items (c.args.row - 1) (c.from-column.result - 1) inside.room_columns inside.room_rows inside.loads inside.added x k.minors (exchanged c) h)),
      (λ h. satisfied inside.columns inside.loaded.items (to_z w128 (of_z w128 c.with_sign-self-inside.result)) c.swap.new.self.order c.pivot_lines-entry.new.lines.items
          inside.room_columns inside.room_rows inside.loads inside.added x new.minors (k.solutions x (subst (λ (t : DictionaryView). Satisfies t x) (sym c.self.view_is) h))),
    )

pub returns-clause-dictionary : goal.returns-clause-dictionary
returns-clause-dictionary c = dictionary_from_kept _ _ _ _ _ _ _ _ _ _ _ (invariant_of-self c)
