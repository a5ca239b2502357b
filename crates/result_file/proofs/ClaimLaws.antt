-- What the line of a claim does to the claims before it.
use Rattle.std.proofs.Common.{◌≡◌, ◌≢◌, ℕ, ◌+◌, ◌<◌, ◌≤◌, List, [], ◌∷◌, ◌++◌, length, refl, sym, ap, subst, ◌∙◌, arith, append-nil, length-append, Some, None}
use Rattle.std.specs.Prelude.{Result, Ok, Err, IfErr}
use Rattle.std.specs.List.{All}
use Rattle.criteria_model.specs.declared.pairs.Pair.{Pair}
use Rattle.criteria_model.specs.declared.pairs.Answer.{Answer}
use Rattle.criteria_model.specs.Worth.{increments}
use Rattle.criteria_model.specs.Criteria.{Criteria, IsModel}
use Rattle.criteria_model.proofs.LevelLemmas.{length-le-increments}
use Rattle.text_fields.specs.Spelling.{IsCertificate}
use Rattle.std.proofs.lemmas.List.Elements.{All-nil, All-cons, All-append}
use Rattle.criteria_model.specs.Pairs.{IsFit}
use Rattle.criteria_model.specs.Classes.{IsClass}
use Rattle.farkas_check.specs.declared.flaws.Flaw.{Flaw}
use Rattle.farkas_check.specs.declared.flaws.Flaw.TheVariants as flaws
use Rattle.farkas_check.specs.Flaws.{IsFirstFlaw}
use Rattle.farkas_check.specs.Proof.{Proves}
use Rattle.farkas_check.specs.Cited.{AreCites}
use Rattle.survey_core.specs.declared.limits.TheConstants.{MAX_EVENTS}
use Rattle.result_file.specs.declared.eliminations.Elimination.{Elimination}
use Rattle.result_file.specs.declared.stops.Stop.{Stop}
use Rattle.result_file.specs.declared.stops.Stop.TheVariants as stops
use Rattle.result_file.specs.declared.verdicts.Part.{Part}
use Rattle.result_file.specs.declared.verdicts.Part.TheVariants.{Form}
use Rattle.result_file.specs.Claims.{Claim, answered, eliminated, answers_of, pair_of}
use Rattle.survey_core.specs.declared.broken.Broken.TheVariants as broken
use Rattle.result_file.specs.Parts.{part_of}
use Rattle.result_file.specs.Texts.{claim_line, end_line}
use Rattle.result_file.specs.Reading.{read_answer, read_elimination}
use Rattle.result_file.specs.Eliminations.{Reads}
use Rattle.result_file.specs.Checked.{Fails, begun}
use Rattle.result_file.specs.Contents.{of_claims}
use Rattle.result_file.specs.Forms.{HasPairForm, HasEliminationForm}
use Rattle.result_file.specs.RightClaims.{HasForm, FailsAs}
use Rattle.result_file.specs.Kept.{KeptClaims, KeepsClaims, AddsClaim, AcceptsClaim}
use Rattle.result_file.specs.Stops.{StopsAt, Refuses}
use Rattle.result_file.proofs.LineLaws.{IsPair, answer_takes, answer_again}
use Rattle.result_file.proofs.EliminationLaws.{IsReadElimination, elimination_takes, elimination_again}

-- ---- the numbers of criteria and increments

pub record IsSmall (criteria : Criteria) : Type 0 where
  pub some : 1 ≤ length criteria.levels
  pub most : length criteria.levels ≤ 24
  pub some_increments : 1 ≤ increments criteria.levels
  pub most_increments : increments criteria.levels ≤ 24

pub is_small : (criteria : Criteria) → IsModel criteria → IsSmall criteria
is_small criteria m =
    let few = length-le-increments criteria.levels m.two_levels in
    record {
      some = m.some;
      most = omega (arith, few, m.few_increments);
      some_increments = omega (arith, few, m.some);
      most_increments = m.few_increments;
    }

-- ---- forms, as they are read

pub pair_form : (criteria : Criteria) (pair : Pair) → IsPair (length criteria.levels) pair → HasPairForm criteria pair
pair_form criteria pair h = record {
  left = record { len = h.left.len; each = h.left.each };
  right = record { len = h.right.len; each = h.right.each };
}

pub pair_read : (criteria : Criteria) (pair : Pair) → HasPairForm criteria pair → IsPair (length criteria.levels) pair
pair_read criteria pair h = record {
  left = record { len = h.left.len; each = h.left.each };
  right = record { len = h.right.len; each = h.right.each };
}

elimination_form : (criteria : Criteria) (e : Elimination) → IsReadElimination (length criteria.levels) (increments criteria.levels) e
    → AreCites e.combination.answers → HasEliminationForm criteria e
elimination_form criteria e h cites = record {
  worker = h.worker;
  pair = pair_form criteria e.pair h.pair;
  combination = record {
    scale = h.combination.scale;
    len = h.combination.weights.len;
    weights = h.combination.weights.each;
    cites = cites;
    numbers = λ k d lt. (h.combination.cites.each k d lt).number;
  };
}

elimination_read : (criteria : Criteria) (e : Elimination) → HasEliminationForm criteria e
    → IsReadElimination (length criteria.levels) (increments criteria.levels) e
elimination_read criteria e h = record {
  worker = h.worker;
  pair = pair_read criteria e.pair h.pair;
  combination = record {
    scale = h.combination.scale;
    weights = record { len = h.combination.len; each = h.combination.weights };
    cites = record {
      most = h.combination.cites.most;
      each = λ k d lt. record { number = h.combination.numbers k d lt; weight = (h.combination.cites.each k d lt).within };
    };
  };
}

-- ---- lines

answer_line_takes : (criteria : Criteria) (line : List ℕ) (answer : Answer) → IsModel criteria
    → read_answer (length criteria.levels) line ≡ Some answer → (line ≡ claim_line (answered answer)) × HasForm criteria (answered answer)
answer_line_takes criteria line answer m e =
    let s = is_small criteria m in
    let t = answer_takes (length criteria.levels) line answer s.some s.most e in
    (t.0, pair_form criteria answer.pair t.1)

pub answer_line_again : (criteria : Criteria) (answer : Answer) → IsModel criteria → HasForm criteria (answered answer)
    → read_answer (length criteria.levels) (claim_line (answered answer)) ≡ Some answer
answer_line_again criteria answer m h =
    let s = is_small criteria m in
    answer_again (length criteria.levels) answer s.some s.most (pair_read criteria answer.pair h)

pub elimination_line_takes : (criteria : Criteria) (line : List ℕ) (e : Elimination) → IsModel criteria
    → read_elimination (length criteria.levels) (increments criteria.levels) line ≡ Some e → AreCites e.combination.answers
    → (line ≡ claim_line (eliminated e)) × HasForm criteria (eliminated e)
elimination_line_takes criteria line e m spelled cites =
    let s = is_small criteria m in
    let t = elimination_takes (length criteria.levels) (increments criteria.levels) line e s.some s.most s.some_increments s.most_increments spelled in
    (t.0, elimination_form criteria e t.1 cites)

pub elimination_line_again : (criteria : Criteria) (e : Elimination) → IsModel criteria → HasForm criteria (eliminated e)
    → read_elimination (length criteria.levels) (increments criteria.levels) (claim_line (eliminated e)) ≡ Some e
elimination_line_again criteria e m h =
    let s = is_small criteria m in
    elimination_again (length criteria.levels) (increments criteria.levels) e s.some s.most s.some_increments s.most_increments (elimination_read criteria e h)

pub weights_len : (criteria : Criteria) (line : List ℕ) (e : Elimination) → IsModel criteria
    → read_elimination (length criteria.levels) (increments criteria.levels) line ≡ Some e
    → length e.combination.increments ≡ increments criteria.levels
weights_len criteria line e m spelled =
    let s = is_small criteria m in
    (elimination_takes (length criteria.levels) (increments criteria.levels) line e s.some s.most s.some_increments s.most_increments spelled).1.combination.weights.len

pub scale_fits : (criteria : Criteria) (line : List ℕ) (e : Elimination) → IsModel criteria
    → read_elimination (length criteria.levels) (increments criteria.levels) line ≡ Some e → IsCertificate e.combination.scale
scale_fits criteria line e m spelled =
    let s = is_small criteria m in
    (elimination_takes (length criteria.levels) (increments criteria.levels) line e s.some s.most s.some_increments s.most_increments spelled).1.combination.scale

-- ---- one more line

pub no_claim : (criteria : Criteria) (claims : List Claim) (line : List ℕ) → IsModel criteria → read_answer (length criteria.levels) line ≡ None
    → Reads None (read_elimination (length criteria.levels) (increments criteria.levels) line) → line ≢ end_line
    → StopsAt (begun (of_claims criteria claims)) line (stops.Wrong Form)
no_claim criteria claims line m no_answer no_elimination no_end = (no_end, none)
  where
    none : (claim : Claim) → HasForm criteria claim → line ≢ claim_line claim
    none (answered answer) form spelled =
        let e : read_answer (length criteria.levels) line ≡ Some answer = rw spelled (answer_line_again criteria answer m form) in
        absurd cc
    none (eliminated e) form spelled =
        no_elimination e (rw spelled (elimination_line_again criteria e m form)) form.combination.cites

fails_claim : (part : Part) (criteria : Criteria) (claims : List Claim) (line : List ℕ) (claim : Claim) → HasForm criteria claim
    → line ≡ claim_line claim → FailsAs criteria claims claim part → Fails (begun (of_claims criteria claims)) line part
fails_claim Form criteria claims line claim form spelled h = absurd h
fails_claim part criteria claims line claim form spelled h = (claim, form, spelled, h)

stops_claim : (stop : Stop) (criteria : Criteria) (claims : List Claim) (line : List ℕ) (claim : Claim) → HasForm criteria claim
    → line ≡ claim_line claim → Refuses criteria claims claim stop → StopsAt (begun (of_claims criteria claims)) line stop
stops_claim (stops.Wrong part) criteria claims line claim form spelled h = fails_claim part criteria claims line claim form spelled h
stops_claim stops.NoMemory criteria claims line claim form spelled h = tt

adds_claim : (old new : KeptClaims) (criteria : Criteria) (claims : List Claim) (line : List ℕ) (claim : Claim) → HasForm criteria claim
    → line ≡ claim_line claim → AcceptsClaim new criteria claims claim → AddsClaim new line criteria claims
adds_claim old new criteria claims line claim form spelled h = record {
  claim = claim;
  spelled = spelled;
  right = record { form = form; room = h.room; class = h.class; proof = h.proof };
  kept = h.kept;
}

pub adds_answer : (old new : KeptClaims) (line : List ℕ) (answer : Answer) → IsModel old.model
    → read_answer (length old.model.levels) line ≡ Some answer → (criteria : Criteria) (claims : List Claim) → KeepsClaims old criteria claims
    → AcceptsClaim new criteria claims (answered answer) → AddsClaim new line criteria claims
adds_answer old new line answer m e criteria claims keeps h =
    let t = answer_line_takes criteria line answer (rw keeps.model at m) (rw keeps.model at e) in
    adds_claim old new criteria claims line (answered answer) t.1 t.0 h

pub stops_answer : (old : KeptClaims) (line : List ℕ) (answer : Answer) (stop : Stop) → IsModel old.model
    → read_answer (length old.model.levels) line ≡ Some answer → (criteria : Criteria) (claims : List Claim) → KeepsClaims old criteria claims
    → Refuses criteria claims (answered answer) stop → StopsAt (begun (of_claims criteria claims)) line stop
stops_answer old line answer stop m e criteria claims keeps h =
    let t = answer_line_takes criteria line answer (rw keeps.model at m) (rw keeps.model at e) in
    stops_claim stop criteria claims line (answered answer) t.1 t.0 h

pub adds_elimination : (old new : KeptClaims) (line : List ℕ) (e : Elimination) → IsModel old.model
    → read_elimination (length old.model.levels) (increments old.model.levels) line ≡ Some e → AreCites e.combination.answers
    → (criteria : Criteria) (claims : List Claim) → KeepsClaims old criteria claims → AcceptsClaim new criteria claims (eliminated e)
    → AddsClaim new line criteria claims
adds_elimination old new line e m spelled cites criteria claims keeps h =
    let t = elimination_line_takes criteria line e (rw keeps.model at m) (rw keeps.model at spelled) cites in
    adds_claim old new criteria claims line (eliminated e) t.1 t.0 h

pub stops_elimination : (old : KeptClaims) (line : List ℕ) (e : Elimination) (stop : Stop) → IsModel old.model
    → read_elimination (length old.model.levels) (increments old.model.levels) line ≡ Some e → AreCites e.combination.answers
    → (criteria : Criteria) (claims : List Claim) → KeepsClaims old criteria claims → Refuses criteria claims (eliminated e) stop
    → StopsAt (begun (of_claims criteria claims)) line stop
stops_elimination old line e stop m spelled cites criteria claims keeps h =
    let t = elimination_line_takes criteria line e (rw keeps.model at m) (rw keeps.model at spelled) cites in
    stops_claim stop criteria claims line (eliminated e) t.1 t.0 h

-- ---- what is kept

answers_of-push : (claims : List Claim) (claim : Claim) → answers_of (claims ++ claim ∷ []) ≡ answers_of claims ++ answers_of (claim ∷ [])
answers_of-push [] (answered answer) = refl
answers_of-push [] (eliminated e) = refl
answers_of-push (answered first ∷ claims) claim = ap (λ (xs : List Answer). first ∷ xs) (answers_of-push claims claim)
answers_of-push (eliminated first ∷ claims) claim = answers_of-push claims claim

pub keeps_answer : (old new : KeptClaims) (criteria : Criteria) (claims : List Claim) (answer : Answer) → new.model ≡ old.model
    → new.count ≡ old.count + 1 → new.answers ≡ old.answers ++ answer ∷ [] → KeepsClaims old criteria claims
    → KeepsClaims new criteria (claims ++ answered answer ∷ [])
keeps_answer old new criteria claims answer model count answers h = record {
  model = model ∙ h.model;
  count = omega (arith, count, h.count, length-append claims (answered answer ∷ []));
  answers = answers ∙ rw (h.answers, answers_of-push claims (answered answer)) refl;
}

pub keeps_elimination : (old new : KeptClaims) (criteria : Criteria) (claims : List Claim) (e : Elimination) → new.model ≡ old.model
    → new.count ≡ old.count + 1 → new.answers ≡ old.answers → KeepsClaims old criteria claims → KeepsClaims new criteria (claims ++ eliminated e ∷ [])
keeps_elimination old new criteria claims e model count answers h = record {
  model = model ∙ h.model;
  count = omega (arith, count, h.count, length-append claims (eliminated e ∷ []));
  answers = answers ∙ h.answers ∙ sym (rw (answers_of-push claims (eliminated e)) (append-nil (answers_of claims)));
}

-- ---- judging

pub refuses : (kept : KeptClaims) (claim : Claim) (part : Part)
    → ((claims : List Claim) (other : Claim) → kept.count ≡ length claims → pair_of other ≡ pair_of claim → FailsAs kept.model claims other part)
    → (criteria : Criteria) (claims : List Claim) → KeepsClaims kept criteria claims → FailsAs criteria claims claim part
refuses kept claim part fails criteria claims h = rw h.model at (fails claims claim h.count refl)

pub accepts_answer : (old new : KeptClaims) (answer : Answer) → old.count < MAX_EVENTS → IsClass old.model answer.pair → new.model ≡ old.model
    → new.count ≡ old.count + 1 → new.answers ≡ old.answers ++ answer ∷ [] → (criteria : Criteria) (claims : List Claim)
    → KeepsClaims old criteria claims → AcceptsClaim new criteria claims (answered answer)
accepts_answer old new answer room class model count answers criteria claims h = record {
  room = omega (arith, room, h.count);
  class = rw h.model at class;
  proof = tt;
  kept = keeps_answer old new criteria claims answer model count answers h;
}

pub accepts_elimination : (old new : KeptClaims) (e : Elimination) → old.count < MAX_EVENTS → IsClass old.model e.pair
    → Proves old.model.levels old.answers e.combination e.pair e.verdict → new.model ≡ old.model → new.count ≡ old.count + 1
    → new.answers ≡ old.answers → (criteria : Criteria) (claims : List Claim) → KeepsClaims old criteria claims
    → AcceptsClaim new criteria claims (eliminated e)
accepts_elimination old new e room class proof model count answers criteria claims h = record {
  room = omega (arith, room, h.count);
  class = rw h.model at class;
  proof = rw (h.model, h.answers) at proof;
  kept = keeps_elimination old new criteria claims e model count answers h;
}

fails_by : (flaw : Flaw) (criteria : Criteria) (claims : List Claim) (e : Elimination) → length claims < MAX_EVENTS → IsClass criteria e.pair
    → IsFirstFlaw criteria.levels (answers_of claims) e.combination e.pair e.verdict (Some flaw)
    → FailsAs criteria claims (eliminated e) (part_of (broken.Flaw flaw))
fails_by flaws.Scale criteria claims e room class h = (room, class, (flaws.Scale, refl, h))
fails_by flaws.Increment criteria claims e room class h = (room, class, (flaws.Increment, refl, h))
fails_by flaws.Cite criteria claims e room class h = (room, class, (flaws.Cite, refl, h))
fails_by flaws.Weight criteria claims e room class h = (room, class, (flaws.Weight, refl, h))
fails_by flaws.Sum criteria claims e room class h = (room, class, (flaws.Sum, refl, h))
fails_by flaws.Strict criteria claims e room class h = (room, class, (flaws.Strict, refl, h))

pub flawed : (kept : KeptClaims) (e : Elimination) (flaw : Flaw) (part : Part) → kept.count < MAX_EVENTS → IsClass kept.model e.pair
    → IsFirstFlaw kept.model.levels kept.answers e.combination e.pair e.verdict (Some flaw) → part ≡ part_of (broken.Flaw flaw)
    → (criteria : Criteria) (claims : List Claim) → KeepsClaims kept criteria claims → FailsAs criteria claims (eliminated e) part
flawed kept e flaw part room class h is criteria claims keeps =
    let by_model : IsFirstFlaw criteria.levels kept.answers e.combination e.pair e.verdict (Some flaw) = subst (λ (m : Criteria). IsFirstFlaw m.levels kept.answers e.combination e.pair e.verdict (Some flaw)) keeps.model h in
    let by_answers : IsFirstFlaw criteria.levels (answers_of claims) e.combination e.pair e.verdict (Some flaw) = subst (λ (xs : List Answer). IsFirstFlaw criteria.levels xs e.combination e.pair e.verdict (Some flaw)) keeps.answers by_model in
    rw is (fails_by flaw criteria claims e (omega (arith, room, keeps.count)) (rw keeps.model at class) by_answers)

-- one answer more that fits
pub fits_more : (levels : List ℕ) (old new : List Answer) (answer : Answer) → new ≡ old ++ answer ∷ [] → All (λ a. IsFit levels a.pair) old
    → IsFit levels answer.pair → All (λ a. IsFit levels a.pair) new
fits_more levels old new answer e h fits =
    let P : Answer → Type 0 = λ a. IsFit levels a.pair in
    rw e (All-append P old (answer ∷ []) h (All-cons P answer [] fits (All-nil P)))

pub if_err_weaker : {T E : Type 0} (r : Result T E) (P Q : E → Type 0) → ((e : E) → P e → Q e) → IfErr r P → IfErr r Q
if_err_weaker (Ok x) P Q f h = tt
if_err_weaker (Err e) P Q f h = f e h

pub no_claim_kept : (kept : KeptClaims) (line : List ℕ) → IsModel kept.model → read_answer (length kept.model.levels) line ≡ None
    → Reads None (read_elimination (length kept.model.levels) (increments kept.model.levels) line) → (criteria : Criteria) (claims : List Claim)
    → line ≢ end_line → KeepsClaims kept criteria claims → StopsAt (begun (of_claims criteria claims)) line (stops.Wrong Form)
no_claim_kept kept line m no_answer no_elimination criteria claims no_end keeps =
    no_claim criteria claims line (rw keeps.model at m) (rw keeps.model at no_answer) (rw keeps.model at no_elimination) no_end
