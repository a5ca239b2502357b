use Rattle.std.proofs.Common.{◌∙◌, arith, refl, sym, true≢false}
use Rattle.std.proofs.lemmas.List.{get_or_default}
use Rattle.pair_enumeration.proofs.SearchLemmas.{not_below_middle, found_at, nowhere}
use Rattle.pair_enumeration.proofs.search.place_among.Goals as goal
use Rattle.pair_enumeration.proofs.search.place_among.Goals.{else-low-pairs-via-then-low-pairs+else-is_same, else-low-pairs-via-else-low-pairs}

pub loop-low-preserved-then-comes_before : goal.loop-low-preserved-then-comes_before
loop-low-preserved-then-comes_before c =
    not_below_middle c.args.pairs.now c.args.pair.now c.index-pairs-middle.result c.loop-low.low c.loop-low.high _ c.requires.ordered c.loop-low.invariant
    (omega arith) (omega arith)
    (get_or_default c.args.pairs.now _ c.args.pair.now c.index-pairs-middle.result (omega (arith, c.loop-low.invariant.high_len)) ∙ sym c.index-pairs-middle.is)
    (c.if-comes_before.ensures.0 refl)

pub returns-then-is_same-clause-some : goal.returns-then-is_same-clause-some
returns-then-is_same-clause-some c =
    let here = get_or_default c.args.pairs.now c.loop-low.low c.args.pair.now c.index-pairs-low.result c.if-low-pairs.true ∙ sym c.index-pairs-low.is ∙ c.if-is_same.ensures.0 refl in
    (λ _. (c.loop-low.low, c.if-low-pairs.true, here), λ _. refl)

pub returns-then-is_same-clause-found : goal.returns-then-is_same-clause-found
returns-then-is_same-clause-found c =
    let here = get_or_default c.args.pairs.now c.loop-low.low c.args.pair.now c.index-pairs-low.result c.if-low-pairs.true ∙ sym c.index-pairs-low.is ∙ c.if-is_same.ensures.0 refl in
    found_at c.args.pairs.now c.args.pair.now c.loop-low.low c.if-low-pairs.true here

pub returns-else-low-pairs-clause-some : goal.returns-else-low-pairs-clause-some
returns-else-low-pairs-clause-some c = (
  λ t. absurd (true≢false (sym t)),
  λ h. absurd (nowhere c.args.pairs.now c.args.pair.now c.loop-low.low c.loop-low.high c.loop-low.invariant c.loop-low-test.false
      (λ l e. elim c.else-low-pairs.branch [
        | else-low-pairs-via-then-low-pairs+else-is_same w ↦
            true≢false (sym (w.if-is_same.ensures.1 (w.index-pairs-low.is ∙ get_or_default c.args.pairs.now c.loop-low.low w.index-pairs-low.result c.args.pair.now l ∙ e)))
        | else-low-pairs-via-else-low-pairs w ↦ omega (arith, w.if-low-pairs.false, l)
      ])
      h),
)
