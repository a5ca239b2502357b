use Rattle.std.proofs.Common.{◌≡◌, ◌∙◌, ◌<◌, ℕ, ℤ, Bool, true, cond, List, [], ◌∷◌, ◌++◌, length, vec_len, to_z, of_z, sym, ap, subst, arith}
use Rattle.std.proofs.lemmas.Int.{to_z-of_z}
use Rattle.std.specs.Int.{w8, w128}
use Rattle.std.specs.Prelude.{vec_capacity}
use Rattle.minors.specs.Combination.{IsCombination}
use Rattle.row_laws.proofs.Integers.{read_back}
use Rattle.fraction_free.specs.declared.loaded.LoadedRow.{LoadedRow}
use Rattle.fraction_free.specs.Dictionary.{DictionaryView, IsLoadable}
use Rattle.fraction_free.specs.Representation.{CanCombine, AreMinors, row_of, square_of}
use Rattle.fraction_free.proofs.AddRow.{added_kept, added_view, can_combine}
use Rattle.fraction_free.proofs.Kept.{dictionary_from_kept, scale_fits}
use Rattle.fraction_free.proofs.dictionary.Dictionary.add_row.Goals as goal
use Rattle.fraction_free.proofs.dictionary.Dictionary.add_row.Goals.{After-push-pushed-2}

combine_along : (m : ℕ) (s t : ℤ) (order : List ℕ) (lines given : List (List ℤ)) → t ≡ s → given ≡ lines → CanCombine m s order lines → CanCombine m t order given
combine_along m s t order lines given i j h = rw (i, j) h

pub slack_line-line-requires-clause-can : goal.slack_line-line-requires-clause-can
slack_line-line-requires-clause-can c =
    let inside = c.self.inside in
    let k = c.self.invariant in
    combine_along inside.columns inside.scale (to_z w128 (of_z w128 inside.scale)) inside.places.order inside.lines.items c.as_slice.result.now
    (read_back w128 inside.scale (omega (arith, scale_fits inside.columns inside.loaded.items inside.scale inside.places.order inside.lines.items k.minors)))
    c.as_slice.ensures.value (can_combine inside.columns inside.loaded.items inside.scale inside.places.order inside.lines.items k.minors)

pushed : {X : Type 0} (ok : Bool) (old new : List X) (x : X) → ok ≡ true → new ≡ cond ok (old ++ x ∷ []) old → new ≡ old ++ x ∷ []
pushed ok old new x h e = e ∙ ap (λ t. cond t (old ++ x ∷ []) old) h

line_along : (m : ℕ) (l : List LoadedRow) (s t : ℤ) (order : List ℕ) (lines given : List (List ℤ)) (coefficients line : List ℤ) (least u : ℤ) → t ≡ s → given ≡ lines → u ≡ least
    → ((loaded : List LoadedRow) → AreMinors m loaded t order given → IsCombination t (row_of (record { coefficients = coefficients; least = u })) line (square_of m loaded order))
    → AreMinors m l s order lines → IsCombination s (row_of (record { coefficients = coefficients; least = least })) line (square_of m l order)
line_along m l s t order lines given coefficients line least u i j n h k = rw (sym i, sym n) (h l (rw (i, j) k))

loadable_along : (m : ℕ) (coefficients : List ℤ) (least u : ℤ) → u ≡ least → IsLoadable m (record { coefficients = coefficients; least = u }) → IsLoadable m (record { coefficients = coefficients; least = least })
loadable_along m coefficients least u n h = rw (sym n) h

-- the lists with one more each
module _ (c : After-push-pushed-2) where
  pub has_room : length c.self.inside.loaded.items < c.self.inside.room_rows
  has_room =
      omega (arith, ap (λ (t : DictionaryView). length t.loaded) c.self.view_is, ap (λ (t : DictionaryView). t.room_rows) c.self.view_is, c.requires.room)

  lines_room : vec_len c.self.inside.lines < vec_capacity c.self.inside.lines
  lines_room = omega (arith, c.self.inside.lines.ok.0, c.self.invariant.minors.lines_len, c.self.invariant.has_lines_room, has_room)

  loaded_room : vec_len c.self.inside.loaded < vec_capacity c.self.inside.loaded
  loaded_room = omega (arith, c.self.inside.loaded.ok.0, c.self.invariant.has_loaded_room, has_room)

  pub lines_are : c.push-pushed.new.self.items ≡ c.self.inside.lines.items ++ c.slack_line-line.result ∷ []
  lines_are =
      pushed _ c.self.inside.lines.items c.push-pushed.new.self.items c.slack_line-line.result
      (c.push-pushed.ensures.succeeds lines_room) c.push-pushed.ensures.items

  pub loaded_are : c.push-pushed-2.new.self.items
      ≡ c.self.inside.loaded.items ++ record { coefficients = c.args.coefficients.now; least = c.args.least } ∷ []
  loaded_are =
      subst (λ (z : ℤ). c.push-pushed-2.new.self.items ≡ c.self.inside.loaded.items ++ record { coefficients = c.args.coefficients.now; least = z } ∷ [])
      (to_z-of_z w8 c.args.least c.ranges.least)
      (pushed _ c.self.inside.loaded.items c.push-pushed-2.new.self.items _ (c.push-pushed-2.ensures.succeeds loaded_room) c.push-pushed-2.ensures.items)

pub invariant_of-self : goal.invariant_of-self
invariant_of-self c =
    let p = (goal.at.invariant_of-self c).After-push-pushed-2 in
    let inside = c.self.inside in
    let k = c.self.invariant in
    let scale_is =
    read_back w128 inside.scale (omega (arith, scale_fits inside.columns inside.loaded.items inside.scale inside.places.order inside.lines.items k.minors)) in
    let least_is = to_z-of_z w8 c.args.least c.ranges.least in
    added_kept inside.columns inside.loaded.items c.push-pushed-2.new.self.items inside.scale inside.places c.push.new.self
    inside.lines.items c.push-pushed.new.self.items (record { coefficients = c.args.coefficients.now; least = c.args.least })
    c.slack_line-line.result inside.room_columns inside.room_rows _ _ inside.loads inside.added _ _ c.saturating_add-self-inside.result k
    (loadable_along inside.columns c.args.coefficients.now c.args.least (to_z w8 (of_z w8 c.args.least)) least_is c.slack_line-line.ensures.row)
    (line_along inside.columns inside.loaded.items inside.scale (to_z w128 (of_z w128 inside.scale)) inside.places.order
    inside.lines.items c.as_slice.result.now c.args.coefficients.now c.slack_line-line.result
    c.args.least (to_z w8 (of_z w8 c.args.least)) scale_is c.as_slice.ensures.value least_is c.slack_line-line.ensures.line k.minors)
    (has_room p) (loaded_are p) (lines_are p) c.push.ensures.order c.push.ensures.arrangement
    (omega (arith, c.push-pushed.ensures.capacity)) (omega (arith, c.push-pushed-2.ensures.capacity))

pub returns-clause-added : goal.returns-clause-added
returns-clause-added c =
    let p = (goal.at.returns-clause-added c).After-push-pushed-2 in
    let inside = c.self.inside in
    added_view inside.columns inside.loaded.items c.push-pushed-2.new.self.items inside.scale inside.places c.push.new.self
    inside.lines.items c.push-pushed.new.self.items (record { coefficients = c.args.coefficients.now; least = c.args.least })
    c.slack_line-line.result inside.room_columns inside.room_rows inside.loads inside.added c.saturating_add-self-inside.result
    c.args.self.now c.self.view_is c.self.invariant.minors.order_len (loaded_are p) (lines_are p)
    c.push.ensures.order c.saturating_add-self-inside.ensures

pub returns-clause-dictionary : goal.returns-clause-dictionary
returns-clause-dictionary c = dictionary_from_kept _ _ _ _ _ _ _ _ _ _ _ (invariant_of-self c)
