-- The parts of a decision, over the rows of a dictionary that stands for the answers.
use Rattle.std.proofs.Common.{◌≡◌, ℕ, zero, suc, ◌^◌, ◌<◌, ◌≤◌, List, ◌++◌, length, ◌⊎◌, inl, inr, ℤ, pos, negsuc, ◌*ℤ◌, ◌≤ℤ◌, unsigned_abs, sym, ap, subst, ◌∙◌, arith}
use Rattle.std.specs.Prelude.{All, count_by}
use Rattle.std.proofs.lemmas.Int.{ints}
use Rattle.criteria_model.specs.declared.pairs.Pair.{Pair}
use Rattle.criteria_model.specs.declared.pairs.Answer.{Answer}
use Rattle.criteria_model.specs.declared.pairs.Side.{Side}
use Rattle.criteria_model.specs.declared.pairs.Side.TheVariants.{Left, Right, Equal}
use Rattle.row_laws.specs.Rows.{dot, times}
use Rattle.criteria_model.specs.Worth.{increments}
use Rattle.criteria_model.specs.Pairs.{IsFit}
use Rattle.criteria_model.specs.Answers.{Ranks, MeetsAll, Opens}
use Rattle.row_laws.proofs.RowLemmas.{dot-times, length-times}
use Rattle.row_laws.proofs.Signs.{positive_from_multiple}
use Rattle.farkas_check.specs.declared.combination.Combination.{Combination}
use Rattle.farkas_check.specs.Proof.{Proves}
use Rattle.fraction_free.specs.declared.loaded.LoadedRow.{LoadedRow}
use Rattle.fraction_free.specs.Dictionary.{DictionaryView, IsDictionary, loaded_at}
use Rattle.simplex.specs.declared.found.Clash.{Clash}
use Rattle.simplex.specs.Rows.{MeetsRows, IsCoprime}
use Rattle.simplex.specs.Weights.{is_weight}
use Rattle.simplex.specs.Results.{IsClash}
use Rattle.decider.specs.declared.decision.Decision.TheVariants.{Undecided, Implied}
use Rattle.decider.specs.Standing.{rows_of, rows_of_answers, StandsFor}
use Rattle.decider.specs.Decisions.{numbers_of, weights_of, IsDecision, IsExact}
use Rattle.decider.specs.Combining.{rows_in, EndsWithTried, Combines}
use Rattle.decider.specs.Trying.{against, OpensRows}
use Rattle.decider.proofs.AnswerRows.{IsReduced, ranks_scaled, meets_first, meets_later, meets_ranks, rows_meet_all, all_meets_rows, standing_meets, meets_standing}
use Rattle.decider.proofs.CitedGains.{rows_length}
use Rattle.decider.proofs.Verdicts.{IsCombined, tried_is_last, few_weights, combined_proves}
use Rattle.decider.proofs.Decided.{proved_decision, proved_exact, opened_decision, opened_exact}
use Rattle.decider.proofs.Mirror.{mirrored}

-- ---- vectors without their common factor

row_scaled : (columns : ℕ) (row : LoadedRow) (factor : ℤ) (values : List ℤ) → (row.least ≡ pos 0) ⊎ (row.least ≡ pos 1) → pos 1 ≤ℤ factor
    → row.least ≤ℤ dot row.coefficients (times factor values) → row.least ≤ℤ dot row.coefficients values
row_scaled columns row factor values least low meets =
    from least (subst (λ (n : ℤ). row.least ≤ℤ n) (dot-times factor row.coefficients values) meets)
  where
    nonneg : (a x : ℤ) → pos 1 ≤ℤ a → pos 0 ≤ℤ (a *ℤ x) → pos 0 ≤ℤ x
    nonneg (pos a) (pos x) h k = omega (arith, ints)
    nonneg (pos (suc a)) (negsuc x) h k = absurd (omega (arith, ints))
    nonneg (pos zero) (negsuc x) h k = absurd (omega (arith, ints))
    nonneg (negsuc a) x h k = absurd (omega (arith, ints))

    from : (row.least ≡ pos 0) ⊎ (row.least ≡ pos 1) → row.least ≤ℤ (factor *ℤ dot row.coefficients values) → row.least ≤ℤ dot row.coefficients values
    from (inl e) h = subst (λ (n : ℤ). n ≤ℤ dot row.coefficients values) (sym e)
        (nonneg factor (dot row.coefficients values) low (subst (λ (n : ℤ). n ≤ℤ (factor *ℤ dot row.coefficients values)) e h))
    from (inr e) h = subst (λ (n : ℤ). n ≤ℤ dot row.coefficients values) (sym e)
        (positive_from_multiple factor (dot row.coefficients values) low (subst (λ (n : ℤ). n ≤ℤ (factor *ℤ dot row.coefficients values)) e h))

rows_scaled : (d : DictionaryView) (factor : ℤ) (values : List ℤ) → IsDictionary d → pos 1 ≤ℤ factor → All (λ x. pos 1 ≤ℤ x) values → MeetsRows d.columns d.loaded (times factor values)
    → MeetsRows d.columns d.loaded values
rows_scaled d factor values is low positive meets = record {
  len = sym (length-times factor values) ∙ meets.len;
  positive = positive;
  each = λ row lt. row_scaled d.columns (loaded_at d.loaded row) factor values (is.rows row lt).least low (meets.each row lt);
}

reduced_meets : (d : DictionaryView) (point given kept : List ℤ) → IsDictionary d → given ≡ point → (factor : ℤ) × (pos 1 ≤ℤ factor) × (given ≡ times factor kept)
    → All (λ x. pos 1 ≤ℤ x) kept → MeetsRows d.columns d.loaded point
    → MeetsRows d.columns d.loaded kept
reduced_meets d point given kept is same multiple positive meets =
    rows_scaled d multiple.0 kept is multiple.1 positive (subst (MeetsRows d.columns d.loaded) (sym same ∙ multiple.2) meets)

reduced_ranks : (levels : List ℕ) (pair : Pair) (side : Side) (point given kept : List ℤ) → given ≡ point → (factor : ℤ) × (pos 1 ≤ℤ factor) × (given ≡ times factor kept)
    → Ranks levels point pair side → Ranks levels kept pair side
reduced_ranks levels pair side point given kept same multiple ranks =
    ranks_scaled levels multiple.0 kept pair side multiple.1 (subst (λ (v : List ℤ). Ranks levels v pair side) (sym same ∙ multiple.2) ranks)

-- ---- two vectors that open the pair

pub tried_ranks : (levels : List ℕ) (columns : ℕ) (loaded : List LoadedRow) (v : List ℤ) (pair : Pair) (side : Side) → columns ≡ increments levels
    → MeetsRows columns (loaded ++ rows_of levels pair side) v → Ranks levels v pair side
tried_ranks levels columns loaded v pair side e meets =
    meets_ranks levels v pair side (subst (λ (n : ℕ). MeetsRows n (rows_of levels pair side) v) e (meets_later columns loaded (rows_of levels pair side) v meets))

pub opens_left : (levels : List ℕ) (d : DictionaryView) (pair : Pair) (side : Side) (point given kept other : List ℤ) → IsDictionary d → d.columns ≡ increments levels → side ≡ Left
    → IsReduced point given kept
    → MeetsRows d.columns d.loaded point → Ranks levels point pair side → MeetsRows d.columns (d.loaded ++ rows_of levels pair (against side)) other → IsCoprime other
    → OpensRows levels d.columns d.loaded pair kept other
opens_left levels d pair side point given kept other is columns e r meets ranks other_meets reduced = record {
  plus_meets = reduced_meets d point given kept is r.value r.multiple r.positive meets;
  minus_meets = meets_first d.columns d.loaded (rows_of levels pair (against side)) other other_meets;
  more = reduced_ranks levels pair Left point given kept r.value r.multiple (subst (Ranks levels point pair) e ranks);
  less = tried_ranks levels d.columns d.loaded other pair Right columns (subst (λ (s : Side). MeetsRows d.columns (d.loaded ++ rows_of levels pair (against s)) other) e other_meets);
  plus_reduced = r.reduced;
  minus_reduced = reduced;
}

pub opens_right : (levels : List ℕ) (d : DictionaryView) (pair : Pair) (side : Side) (point given kept other : List ℤ) → IsDictionary d → d.columns ≡ increments levels → side ≡ Right
    → IsReduced point given kept
    → MeetsRows d.columns d.loaded point → Ranks levels point pair side → MeetsRows d.columns (d.loaded ++ rows_of levels pair (against side)) other → IsCoprime other
    → OpensRows levels d.columns d.loaded pair other kept
opens_right levels d pair side point given kept other is columns e r meets ranks other_meets reduced = record {
  plus_meets = meets_first d.columns d.loaded (rows_of levels pair (against side)) other other_meets;
  minus_meets = reduced_meets d point given kept is r.value r.multiple r.positive meets;
  more = tried_ranks levels d.columns d.loaded other pair Left columns (subst (λ (s : Side). MeetsRows d.columns (d.loaded ++ rows_of levels pair (against s)) other) e other_meets);
  less = reduced_ranks levels pair Right point given kept r.value r.multiple (subst (Ranks levels point pair) e ranks);
  plus_reduced = reduced;
  minus_reduced = r.reduced;
}

pub opens_both : (levels : List ℕ) (d : DictionaryView) (pair : Pair) (side : Side) (found other : List ℤ) → d.columns ≡ increments levels → side ≡ Equal
    → MeetsRows d.columns (d.loaded ++ rows_of levels pair Left) found → IsCoprime found
    → MeetsRows d.columns (d.loaded ++ rows_of levels pair (against side)) other → IsCoprime other → OpensRows levels d.columns d.loaded pair found other
opens_both levels d pair side found other columns e meets found_reduced other_meets reduced = record {
  plus_meets = meets_first d.columns d.loaded (rows_of levels pair Left) found meets;
  minus_meets = meets_first d.columns d.loaded (rows_of levels pair (against side)) other other_meets;
  more = tried_ranks levels d.columns d.loaded found pair Left columns meets;
  less = tried_ranks levels d.columns d.loaded other pair Right columns (subst (λ (s : Side). MeetsRows d.columns (d.loaded ++ rows_of levels pair (against s)) other) e other_meets);
  plus_reduced = found_reduced;
  minus_reduced = reduced;
}

-- ---- rows of the answers

pub standing_point : (levels : List ℕ) (answers : List Answer) (d : DictionaryView) (point : List ℤ) → StandsFor levels answers d → MeetsAll levels answers point → MeetsRows d.columns d.loaded point
standing_point levels answers d point stands meets =
    subst (λ (n : ℕ). MeetsRows n d.loaded point) (sym stands.columns)
    (subst (λ (l : List LoadedRow). MeetsRows (increments levels) l point) (sym stands.loaded) (all_meets_rows levels answers point meets))

point_standing : (levels : List ℕ) (answers : List Answer) (d : DictionaryView) (point : List ℤ) → StandsFor levels answers d → MeetsRows d.columns d.loaded point → MeetsAll levels answers point
point_standing levels answers d point stands meets =
    rows_meet_all levels answers point
    (subst (λ (n : ℕ). MeetsRows n (rows_of_answers levels answers) point) stands.columns (subst (λ (l : List LoadedRow). MeetsRows d.columns l point) stands.loaded meets))

pub standing_still : (levels : List ℕ) (answers : List Answer) (old new : DictionaryView) → new.columns ≡ old.columns → new.loaded ≡ old.loaded → StandsFor levels answers old
    → StandsFor levels answers new
standing_still levels answers old new columns loaded stands = record { columns = columns ∙ stands.columns; loaded = loaded ∙ stands.loaded }

pub rows_few : (levels : List ℕ) (answers : List Answer) (d : DictionaryView) → IsDictionary d → StandsFor levels answers d → rows_in answers ≤ 65536
rows_few levels answers d is stands = omega (arith, sym (rows_length levels answers), ap length stands.loaded, is.rows_room, is.rows_most)

standing_clash : (levels : List ℕ) (answers : List Answer) (d : DictionaryView) (pair : Pair) (side tried : Side) (clash : Clash) → StandsFor levels answers d → tried ≡ against side
    → IsClash d.columns (d.loaded ++ rows_of levels pair tried) clash → IsClash (increments levels) (rows_of_answers levels answers ++ rows_of levels pair (against side)) clash
standing_clash levels answers d pair side tried clash stands e is =
    subst (λ (n : ℕ). IsClash n (rows_of_answers levels answers ++ rows_of levels pair (against side)) clash) stands.columns
    (subst (λ (l : List LoadedRow). IsClash d.columns (l ++ rows_of levels pair (against side)) clash) stands.loaded
    (subst (λ (s : Side). IsClash d.columns (d.loaded ++ rows_of levels pair s) clash) e is))

pub standing_ends : (levels : List ℕ) (answers : List Answer) (d : DictionaryView) (point : List ℤ) (pair : Pair) (side tried : Side) (clash : Clash) → StandsFor levels answers d
    → tried ≡ against side
    → IsClash d.columns (d.loaded ++ rows_of levels pair tried) clash → MeetsAll levels answers point → EndsWithTried answers clash.rows
standing_ends levels answers d point pair side tried clash stands e is meets =
    tried_is_last levels answers point pair side clash meets (standing_clash levels answers d pair side tried clash stands e is)

-- ---- decisions

-- what leads to `Implied`
pub record IsRefuted (levels : List ℕ) (answers : List Answer) (d : DictionaryView) (point : List ℤ) (pair : Pair) (side tried : Side) (clash : Clash) (combination : Combination) : Type 0 where
  pub fit : All (λ answer. IsFit levels answer.pair) answers
  pub pair_fits : IsFit levels pair
  pub meets : MeetsAll levels answers point
  pub stands : StandsFor levels answers d
  pub dictionary : IsDictionary d
  pub ranks : Ranks levels point pair side
  pub tried_is : tried ≡ against side
  pub clashes : IsClash d.columns (d.loaded ++ rows_of levels pair tried) clash
  pub combines : Combines answers clash combination

combined : (levels : List ℕ) (answers : List Answer) (d : DictionaryView) (point : List ℤ) (pair : Pair) (side tried : Side) (clash : Clash) (combination : Combination)
    → IsRefuted levels answers d point pair side tried clash combination
    → IsCombined levels answers pair side clash combination
combined levels answers d point pair side tried clash combination r = record {
  fit = r.fit;
  pair_fits = r.pair_fits;
  clashes = standing_clash levels answers d pair side tried clash r.stands r.tried_is r.clashes;
  ends = standing_ends levels answers d point pair side tried clash r.stands r.tried_is r.clashes r.meets;
  combines = r.combines;
}

refuted_proves : (levels : List ℕ) (answers : List Answer) (d : DictionaryView) (point : List ℤ) (pair : Pair) (side tried : Side) (clash : Clash) (combination : Combination)
    → IsRefuted levels answers d point pair side tried clash combination
    → Proves levels answers combination pair side
refuted_proves levels answers d point pair side tried clash combination r =
    combined_proves levels answers pair side clash combination point (combined levels answers d point pair side tried clash combination r) r.meets r.ranks

pub implied_decision : (levels : List ℕ) (answers : List Answer) (d : DictionaryView) (point : List ℤ) (pair : Pair) (side tried : Side) (clash : Clash) (combination : Combination)
    → IsRefuted levels answers d point pair side tried clash combination
    → IsCoprime (numbers_of combination) → unsigned_abs combination.scale < 2 ^ 96 → IsDecision levels answers pair (Implied side combination)
implied_decision levels answers d point pair side tried clash combination r reduced small =
    proved_decision levels answers pair side combination (refuted_proves levels answers d point pair side tried clash combination r) reduced small

pub implied_exact : (levels : List ℕ) (answers : List Answer) (d : DictionaryView) (point : List ℤ) (pair : Pair) (side tried : Side) (clash : Clash) (combination : Combination)
    → IsRefuted levels answers d point pair side tried clash combination
    → IsExact levels answers pair (Implied side combination)
implied_exact levels answers d point pair side tried clash combination r =
    proved_exact levels answers pair side combination point (refuted_proves levels answers d point pair side tried clash combination r) r.meets

pub implied_few : (levels : List ℕ) (answers : List Answer) (d : DictionaryView) (point : List ℤ) (pair : Pair) (side tried : Side) (clash : Clash) (combination : Combination)
    → IsRefuted levels answers d point pair side tried clash combination
    → count_by is_weight (weights_of combination) ≤ 24
implied_few levels answers d point pair side tried clash combination r =
    let c = combined levels answers d point pair side tried clash combination r in
    let few = few_weights (increments levels) (rows_of_answers levels answers ++ rows_of levels pair (against side)) answers clash combination c.clashes c.ends c.combines in
    omega (arith, few, r.stands.columns, r.dictionary.columns_most)

opens_of : (levels : List ℕ) (answers : List Answer) (d : DictionaryView) (pair : Pair) (plus minus : List ℤ) → StandsFor levels answers d
    → OpensRows levels d.columns d.loaded pair plus minus → Opens levels answers pair plus minus
opens_of levels answers d pair plus minus stands opens = record {
  plus_meets = point_standing levels answers d plus stands opens.plus_meets;
  minus_meets = point_standing levels answers d minus stands opens.minus_meets;
  more = opens.more;
  less = opens.less;
}

pub undecided_decision : (levels : List ℕ) (answers : List Answer) (d : DictionaryView) (pair : Pair) (plus minus : List ℤ) → StandsFor levels answers d
    → OpensRows levels d.columns d.loaded pair plus minus
    → IsDecision levels answers pair (Undecided plus minus)
undecided_decision levels answers d pair plus minus stands opens =
    opened_decision levels answers pair plus minus (opens_of levels answers d pair plus minus stands opens) opens.plus_reduced opens.minus_reduced

pub undecided_exact : (levels : List ℕ) (answers : List Answer) (d : DictionaryView) (pair : Pair) (plus minus : List ℤ) → StandsFor levels answers d
    → OpensRows levels d.columns d.loaded pair plus minus
    → IsExact levels answers pair (Undecided plus minus)
undecided_exact levels answers d pair plus minus stands opens =
    opened_exact levels answers pair plus minus (opens_of levels answers d pair plus minus stands opens)

-- where the point ranks the pair equal, there is a vector on the other side too
pub standing_mirrored : (levels : List ℕ) (answers : List Answer) (d new : DictionaryView) (point other : List ℤ) (pair : Pair) (side tried : Side) → StandsFor levels answers d
    → new.columns ≡ d.columns → new.loaded ≡ d.loaded
    → MeetsAll levels answers point → Ranks levels point pair side → tried ≡ against side → MeetsRows d.columns (d.loaded ++ rows_of levels pair tried) other → side ≡ Equal
    → (vector : List ℤ) × MeetsRows new.columns (new.loaded ++ rows_of levels pair Left) vector
standing_mirrored levels answers d new point other pair side tried stands columns loaded meets ranks e other_meets f =
    let less = meets_standing levels answers d other pair Right stands (subst (λ (s : Side). MeetsRows d.columns (d.loaded ++ rows_of levels pair s) other) (e ∙ ap against f) other_meets) in
    let found = mirrored levels answers point other pair meets less.0 (subst (Ranks levels point pair) f ranks) less.1 in
    (found.0, standing_meets levels answers new found.0 pair Left (standing_still levels answers d new columns loaded stands) found.1 found.2)
