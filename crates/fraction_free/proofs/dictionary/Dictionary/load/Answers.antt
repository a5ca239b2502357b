use Rattle.std.proofs.Common.{◌≡◌, ◌∙◌, ℕ, pos, ap, refl, arith}
use Rattle.fraction_free.specs.Arrangement.{Arranged}
use Rattle.fraction_free.specs.Changes.{empty_dictionary, next_count}
use Rattle.fraction_free.specs.Dictionary.{DictionaryView}
use Rattle.fraction_free.proofs.Empty.{empty_kept, empty_view}
use Rattle.fraction_free.proofs.Kept.{dictionary_from_kept}
use Rattle.fraction_free.proofs.dictionary.Dictionary.load.Goals as goal

pub invariant_of-self : goal.invariant_of-self
invariant_of-self c =
    let k = c.self.invariant in
    let columns : c.self.inside.room_columns ≡ c.args.self.now.room_columns = ap (λ (t : DictionaryView). t.room_columns) c.self.view_is in
    let room : c.reset.new.self.room ≡ c.self.inside.places.room = ap (λ (a : Arranged). a.room) c.reset.ensures.order in
    empty_kept c.args.cols c.clear-2.new.self.items (pos 1) c.reset.new.self c.clear.new.self.items c.self.inside.room_columns c.self.inside.room_rows _ _ _ _
    c.requires.some c.clear-2.ensures.items refl c.clear.ensures.items (ap (λ (a : Arranged). a.order) c.reset.ensures.order) c.reset.ensures.arrangement
    (omega (arith, c.requires.room)) k.columns_most k.rows_most (omega (arith, k.places_room)) (omega (arith, k.has_lines_room, c.clear.ensures.capacity)) (omega (arith, k.has_loaded_room, c.clear-2.ensures.capacity))

same_empty : (m a b e f : ℕ) (t u : DictionaryView) → t ≡ u → a ≡ t.room_columns → b ≡ t.room_rows → e ≡ next_count t.loads → f ≡ t.added
    → empty_dictionary m a b e f ≡ empty_dictionary m u.room_columns u.room_rows (next_count u.loads) u.added
same_empty m a b e f t u same i j k l = rw (i, j, k, l, same) refl

pub returns-clause-empty : goal.returns-clause-empty
returns-clause-empty c =
    empty_view c.args.cols c.clear-2.new.self.items (pos 1) c.reset.new.self.order c.clear.new.self.items c.self.inside.room_columns c.self.inside.room_rows c.saturating_add-self-inside.result c.self.inside.added
    c.clear-2.ensures.items refl c.clear.ensures.items (ap (λ (a : Arranged). a.order) c.reset.ensures.order)
    ∙ same_empty c.args.cols _ _ _ _ _ c.args.self.now c.self.view_is refl refl c.saturating_add-self-inside.ensures refl

pub returns-clause-dictionary : goal.returns-clause-dictionary
returns-clause-dictionary c = dictionary_from_kept _ _ _ _ _ _ _ _ _ _ _ (invariant_of-self c)
