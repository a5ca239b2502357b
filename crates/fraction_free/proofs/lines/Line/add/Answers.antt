use Rattle.std.proofs.Common.{◌≡◌, ◌≢◌, ◌∙◌, ◌<◌, ◌^◌, inl, inr, ℕ, ℤ, pos, ◌+ℤ◌, ◌*ℤ◌, unsigned_abs, List, length, to_z, of_z, sym, ap, subst, arith}
use Rattle.std.proofs.lemmas.List.{length-set, get_or-set_same, get_or-set_other}
use Rattle.std.proofs.lemmas.Bool.{cases_eq}
use Rattle.std.specs.Int.{w128}
use Rattle.row_laws.proofs.Integers.{read_back}
use Rattle.row_laws.specs.Rows.{entry}
use Rattle.fraction_free.proofs.Sums.{sum_back, product_fits, sum_fits}
use Rattle.fraction_free.proofs.lines.Line.add.Goals as goal

pub loop-place-preserved : goal.loop-place-preserved
loop-place-preserved c =
    let v = c.loop-place.invariant in
    let old = c.args.self.now in
    let now = c.loop-place.self in
    let place = c.loop-place.place in
    let other_line = c.args.other.now in
    let times = to_z w128 (of_z w128 c.args.times) in
    let t_is : times ≡ c.args.times = read_back w128 c.args.times (omega (arith, c.requires.times)) in
    let inside : place < length now = omega (arith, v.len) in
    let value = sum_back c.get.result c.get-in-loop-place.result c.args.times (entry now place) (entry other_line place) c.get.ensures c.get-in-loop-place.ensures
    (subst (λ (n : ℤ). unsigned_abs n < 2 ^ 100) (sym (v.rest place (omega arith))) (c.requires.sizes place)) (c.requires.other_sizes place) c.requires.times in
    let here = ap (λ (ns : List ℤ). entry ns place) c.set.ensures ∙ get_or-set_same now place _ (pos 0) inside ∙ value in
    let there : (k : ℕ) → k ≢ place → entry c.set.new.self k ≡ entry now k = λ k apart. ap (λ (ns : List ℤ). entry ns k) c.set.ensures ∙ get_or-set_other now place k _ (pos 0) apart in
    record {
      len = ap length c.set.ensures ∙ length-set now place _ ∙ v.len;
      sums = λ k below.
          elim (cases_eq k place) [
            | inl e ↦
                ap (entry c.set.new.self) e ∙ here
                ∙ ap (λ (n : ℤ). n +ℤ c.args.times *ℤ entry other_line place) (v.rest place (omega arith))
                ∙ ap (λ (n : ℤ). entry old place +ℤ n *ℤ entry other_line place) (sym t_is)
                ∙ ap (λ j. entry old j +ℤ times *ℤ entry other_line j) (sym e)
            | inr ne ↦ there k ne ∙ v.sums k (omega arith)
          ];
      rest = λ k above. there k (omega arith) ∙ v.rest k (omega arith);
    }

pub overflow_mul-times : goal.overflow_mul-times
overflow_mul-times c = product_fits c.get-in-loop-place.result c.args.times (entry c.args.other.now c.loop-place.place) c.get-in-loop-place.ensures (c.requires.other_sizes c.loop-place.place) c.requires.times

pub overflow_add-get : goal.overflow_add-get
overflow_add-get c =
    let v = c.loop-place.invariant in
    sum_fits c.get.result c.get-in-loop-place.result c.args.times (entry c.loop-place.self c.loop-place.place) (entry c.args.other.now c.loop-place.place) c.get.ensures c.get-in-loop-place.ensures
    (subst (λ (n : ℤ). unsigned_abs n < 2 ^ 100) (sym (v.rest c.loop-place.place (omega arith))) (c.requires.sizes c.loop-place.place)) (c.requires.other_sizes c.loop-place.place) c.requires.times
