use Rattle.std.proofs.Common.{◌≡◌, ◌+◌, pos, ap, refl, arith}
use Rattle.fraction_free.specs.Arrangement.{Arranged}
use Rattle.fraction_free.proofs.Empty.{empty_kept, empty_view}
use Rattle.fraction_free.proofs.Kept.{dictionary_from_kept}
use Rattle.fraction_free.proofs.dictionary.Dictionary.reserve.Goals as goal

pub invariant_of-result : goal.invariant_of-result
invariant_of-result c =
    let first : c.reset.new.self.room ≡ c.in_ok-places.places.room = ap (λ (a : Arranged). a.room) c.reset.ensures.order in
    let room : c.in_ok-places.places.room ≡ c.from.result + 1 + c.args.rows = ap (λ (a : Arranged). a.room) c.in_ok-places.ensures.empty in
    empty_kept c.args.cols c.in_ok-loaded.loaded.items (pos 1) c.reset.new.self c.in_ok-lines.lines.items c.args.cols c.args.rows _ _ _ _
    c.requires.cols_some c.in_ok-loaded.ensures.items refl c.in_ok-lines.ensures.items (ap (λ (a : Arranged). a.order) c.reset.ensures.order) c.reset.ensures.arrangement
    (omega arith) c.requires.cols_most c.requires.rows_most (omega (arith, c.from.ensures)) (omega (arith, c.in_ok-lines.ensures.capacity)) (omega (arith, c.in_ok-loaded.ensures.capacity))

pub returns-clause-empty : goal.returns-clause-empty
returns-clause-empty c =
    empty_view c.args.cols c.in_ok-loaded.loaded.items (pos 1) c.reset.new.self.order c.in_ok-lines.lines.items c.args.cols c.args.rows 0 0
    c.in_ok-loaded.ensures.items refl c.in_ok-lines.ensures.items (ap (λ (a : Arranged). a.order) c.reset.ensures.order)

pub returns-clause-dictionary : goal.returns-clause-dictionary
returns-clause-dictionary c = dictionary_from_kept _ _ _ _ _ _ _ _ _ _ _ (invariant_of-result c)
