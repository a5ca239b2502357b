use Rattle.std.proofs.Common.{◌≡◌, ◌∙◌, ◌<◌, ◌^◌, ℕ, ℤ, pos, ◌*ℤ◌, ◌-ℤ◌, unsigned_abs, List, length, set, to_z, of_z, refl, sym, ap, arith}
use Rattle.std.proofs.lemmas.List.{length-set, get_or-set_same, get_or-set_other}
use Rattle.std.proofs.lemmas.Int.{ints}
use Rattle.std.proofs.Math.IntN.{*ℤ_comm, zero-*ℤ}
use Rattle.std.specs.Int.{w128}
use Rattle.row_laws.specs.Rows.{entry}
use Rattle.fraction_free.specs.Changes.{IsExchangedAt}
use Rattle.fraction_free.proofs.UnitSteps.{small_back}
use Rattle.fraction_free.proofs.lines.Line.exchange_at.Goals as goal

quotient_back : (q s a x b c d : ℤ) → x ≡ b → unsigned_abs a < 2 ^ 89 → unsigned_abs b < 2 ^ 89 → unsigned_abs c < 2 ^ 89 → unsigned_abs d < 2 ^ 89
    → q *ℤ s ≡ to_z w128 (of_z w128 a) *ℤ to_z w128 (of_z w128 x) -ℤ to_z w128 (of_z w128 c) *ℤ to_z w128 (of_z w128 d)
    → q *ℤ s ≡ a *ℤ b -ℤ c *ℤ d
quotient_back q s a x b c d i a_size b_size c_size d_size h =
    rw (i, small_back a (omega arith), small_back b (omega arith), small_back c (omega arith), small_back d (omega arith)) at h

exchanged_at : (s lead factor other : ℤ) (old new : List ℤ) (place : ℕ) (v q : ℤ) → place < length old → new ≡ set old place v → v ≡ q
    → q *ℤ s ≡ lead *ℤ entry old place -ℤ factor *ℤ other → IsExchangedAt s lead factor other old new place
exchanged_at s lead factor other old new place v q inside is value exact = record {
  len = ap length is ∙ length-set old place v;
  divided = ap (λ (n : ℤ). n *ℤ s) (ap (λ (ns : List ℤ). entry ns place) is ∙ get_or-set_same old place v (pos 0) inside ∙ value) ∙ exact;
  others = λ at apart. ap (λ (ns : List ℤ). entry ns at) is ∙ get_or-set_other old place at v (pos 0) apart;
}

pub returns : goal.returns
returns c =
    let old = c.args.self.now in
    let q = c.quotient_of-quotient.result in
    exchanged_at c.args.scale.now c.args.lead c.args.factor c.args.other old c.set.new.self c.args.place _ q c.requires.place c.set.ensures
    (small_back q c.quotient_of-quotient.ensures.size)
    (quotient_back q c.args.scale.now c.args.lead c.get.result (entry old c.args.place) c.args.factor c.args.other c.get.ensures
    c.requires.entry_size c.requires.number_size c.requires.factor_size c.requires.other_size c.quotient_of-quotient.ensures.quotient)

-- with the scale as the entry and nothing to take off the number stays
stayed : (s lead factor other : ℤ) (old : List ℤ) (place : ℕ) → lead ≡ s → other ≡ pos 0 → IsExchangedAt s lead factor other old old place
stayed s lead factor other old place same none = record {
  len = refl;
  divided = rw (same, none) (alone s (entry old place) factor);
  others = λ at apart. refl;
}
  where
    alone : (s x f : ℤ) → x *ℤ s ≡ s *ℤ x -ℤ f *ℤ pos 0
    alone s x f = omega (arith, ints, *ℤ_comm x s, *ℤ_comm f (pos 0), zero-*ℤ f)

pub returns-then-other-eq0 : goal.returns-then-other-eq0
returns-then-other-eq0 c =
    let size = c.requires.other_size in
    stayed c.args.scale.now c.args.lead c.args.factor c.args.other c.args.self.now c.args.place (c.requires.same_scale c.if-same.true)
    (sym (small_back c.args.other (omega arith)) ∙ ap (to_z w128) c.if-other-eq0.true)
