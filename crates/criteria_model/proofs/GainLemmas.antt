-- Gains: their length and range, what they say of rankings, and that replicas have the same.
use Rattle.std.proofs.Common.{◌≡◌, inl, inr, ℕ, List, ℤ, refl, ap, sym, ◌∙◌, arith, length, pos, ◌-ℤ◌, ◌<ℤ◌, ◌≤ℤ◌}
use Rattle.std.proofs.lemmas.Int.{ints}
use Rattle.criteria_model.specs.declared.pairs.Pair.{Pair}
use Rattle.criteria_model.specs.declared.pairs.Side.{Side}
use Rattle.criteria_model.specs.declared.pairs.Side.TheVariants.{Left, Right, Equal}
use Rattle.criteria_model.specs.Lists.{IsRow}
use Rattle.criteria_model.specs.Criteria.{Criteria, IsModel}
use Rattle.row_laws.specs.Rows.{dot, minus}
use Rattle.criteria_model.specs.Worth.{increments, has}
use Rattle.criteria_model.specs.Pairs.{IsFit, AreReplicas}
use Rattle.criteria_model.specs.Answers.{Ranks, gain}
use Rattle.criteria_model.specs.Laws.{ReplicasGainSame, ReplicasRankSame}
use Rattle.row_laws.proofs.RowLemmas.{dot-minus}
use Rattle.criteria_model.proofs.LevelLemmas.{AreMatched, MatchesAt, minus-has-matched, length-minus-has, minus-has-fits}

-- ---- length and range
pub length-gain : (levels : List ℕ) (pair : Pair) (side : Side) → IsFit levels pair → length (gain levels pair side) ≡ increments levels
length-gain levels pair Left h = length-minus-has levels pair.left pair.right h.left_len h.right_len
length-gain levels pair Right h = length-minus-has levels pair.right pair.left h.right_len h.left_len
length-gain levels pair Equal h = length-minus-has levels pair.left pair.right h.left_len h.right_len

pub gain-fits : (criteria : Criteria) (pair : Pair) (side : Side) → IsModel criteria → IsFit criteria.levels pair
    → IsRow (gain criteria.levels pair side)
gain-fits m pair Left k h = minus-has-fits m.levels pair.left pair.right k.some k.two_levels k.few_increments h.left_len h.right_len
gain-fits m pair Right k h = minus-has-fits m.levels pair.right pair.left k.some k.two_levels k.few_increments h.right_len h.left_len
gain-fits m pair Equal k h = minus-has-fits m.levels pair.left pair.right k.some k.two_levels k.few_increments h.left_len h.right_len

-- ---- values rank a pair by the sign of their product with its gain
abbrev pub Favours : Side → ℤ → Type 0
Favours Left x = pos 1 ≤ℤ x
Favours Right x = pos 1 ≤ℤ x
Favours Equal x = x ≡ pos 0

pub ranks_favours : (levels : List ℕ) (values : List ℤ) (pair : Pair) (side : Side) → Ranks levels values pair side
    → Favours side (dot values (gain levels pair side))
ranks_favours levels values pair Left h = omega (arith, ints, h, dot-minus values (has levels pair.left) (has levels pair.right))
ranks_favours levels values pair Right h = omega (arith, ints, h, dot-minus values (has levels pair.right) (has levels pair.left))
ranks_favours levels values pair Equal h = omega (arith, ints, h, dot-minus values (has levels pair.left) (has levels pair.right))

pub favours_ranks : (levels : List ℕ) (values : List ℤ) (pair : Pair) (side : Side) → Favours side (dot values (gain levels pair side))
    → Ranks levels values pair side
favours_ranks levels values pair Left h = omega (arith, ints, h, dot-minus values (has levels pair.left) (has levels pair.right))
favours_ranks levels values pair Right h = omega (arith, ints, h, dot-minus values (has levels pair.right) (has levels pair.left))
favours_ranks levels values pair Equal h = omega (arith, ints, h, dot-minus values (has levels pair.left) (has levels pair.right))

-- ---- replicas
replicas_match : (levels : List ℕ) (p q : Pair) → AreReplicas levels p q → AreMatched levels p.left p.right q.left q.right
replicas_match levels p q r = record { first = r.left_len; second = r.right_len; third = r.other_left_len; fourth = r.other_right_len; places = r.places }

turned_matches : (a b c d : ℕ) → MatchesAt a b c d → MatchesAt b a d c
turned_matches a b c d (inl agree) = inl (sym agree.0, sym agree.1)
turned_matches a b c d (inr same) = inr (same.1, same.0)

turned_replicas_match : (levels : List ℕ) (p q : Pair) → AreReplicas levels p q → AreMatched levels p.right p.left q.right q.left
turned_replicas_match levels p q r = record { first = r.right_len; second = r.left_len; third = r.other_right_len; fourth = r.other_left_len; places = λ k l. turned_matches _ _ _ _ (r.places k l) }

pub replicas_gain_same_lem : ReplicasGainSame
replicas_gain_same_lem levels p q Left r = minus-has-matched levels p.left p.right q.left q.right (replicas_match levels p q r)
replicas_gain_same_lem levels p q Right r = minus-has-matched levels p.right p.left q.right q.left (turned_replicas_match levels p q r)
replicas_gain_same_lem levels p q Equal r = minus-has-matched levels p.left p.right q.left q.right (replicas_match levels p q r)

worths_apart : (levels : List ℕ) (values : List ℤ) (p q : Pair) → AreReplicas levels p q
    → dot values (has levels p.left) -ℤ dot values (has levels p.right) ≡ dot values (has levels q.left) -ℤ dot values (has levels q.right)
worths_apart levels values p q r =
    sym (dot-minus values (has levels p.left) (has levels p.right))
    ∙ ap (dot values) (replicas_gain_same_lem levels p q Left r)
    ∙ dot-minus values (has levels q.left) (has levels q.right)

pub replicas_rank_same_lem : ReplicasRankSame
replicas_rank_same_lem levels values p q Left r h = omega (arith, ints, h, worths_apart levels values p q r)
replicas_rank_same_lem levels values p q Right r h = omega (arith, ints, h, worths_apart levels values p q r)
replicas_rank_same_lem levels values p q Equal r h = omega (arith, ints, h, worths_apart levels values p q r)

-- ---- which way values rank a pair, by the lead of its left side
abbrev pub Leads : Side → ℤ → Type 0
Leads Left lead = pos 0 <ℤ lead
Leads Right lead = lead <ℤ pos 0
Leads Equal lead = lead ≡ pos 0

module _ (levels : List ℕ) (values : List ℤ) (pair : Pair) (lead : ℤ) (lead_is : lead ≡ dot values (gain levels pair Left)) where
  -- the lead is the difference of the worths
  worths : dot values (minus (has levels pair.left) (has levels pair.right)) ≡ dot values (has levels pair.left) -ℤ dot values (has levels pair.right)
  worths = dot-minus values (has levels pair.left) (has levels pair.right)

  ranks : (side : Side) → Leads side lead → Ranks levels values pair side
  ranks Left h = omega (arith, ints, h, worths, lead_is)
  ranks Right h = omega (arith, ints, h, worths, lead_is)
  ranks Equal h = omega (arith, ints, h, worths, lead_is)

  only : (side other : Side) → Leads side lead → Ranks levels values pair other → other ≡ side
  only Left Left h r = refl
  only Right Right h r = refl
  only Equal Equal h r = refl
  only Left Right h r = absurd (omega (arith, ints, h, r, worths, lead_is))
  only Left Equal h r = absurd (omega (arith, ints, h, r, worths, lead_is))
  only Right Left h r = absurd (omega (arith, ints, h, r, worths, lead_is))
  only Right Equal h r = absurd (omega (arith, ints, h, r, worths, lead_is))
  only Equal Left h r = absurd (omega (arith, ints, h, r, worths, lead_is))
  only Equal Right h r = absurd (omega (arith, ints, h, r, worths, lead_is))

  -- the side that the lead names, and no other
  pub lead_ranks : (side : Side) → Leads side lead → Ranks levels values pair side × ((other : Side) → Ranks levels values pair other → other ≡ side)
  lead_ranks side h = (ranks side h, λ other. only side other h)
