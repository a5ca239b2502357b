-- What a status, and what was written, say of the file; and the status of a valid file.
use Rattle.std.proofs.Common.{◌≡◌, ◌⊎◌, ℕ, ◌<◌, List, ◌∷◌, ◌++◌, length, take, zero, suc, refl, ap, sym, subst, ◌∙◌, arith, inl, inr, length-append, length-take}
use Rattle.std.specs.Prelude.{Option, Some, None, IfSome, Result, Ok, Err, Vec}
use Rattle.std.specs.declared.alloc.Global.{Global}
use Rattle.std.specs.Io.KnownBytes.{append_known}
use Rattle.std.proofs.Math.Seq.{take-length}
use Rattle.std.proofs.lemmas.List.{append_cancel_left}
use Rattle.edges.specs.Faults.{CountsFaults, HasRisen}
use Rattle.edges.specs.Told.{Appends}
use Rattle.result_file.specs.declared.verdicts.Checked.{Checked}
use Rattle.result_file.specs.declared.verdicts.Checked.TheVariants.{Valid, ValidComplete, Invalid, Unfinished, ReadFault, NoMemory}
use Rattle.result_file.specs.Checked.{IsChecked, IsFileOf, IsToldChecked}
use Rattle.result_file.specs.Contents.{Content, of_events, IsCompleteContent}
use Rattle.result_file.specs.Migrated.{BeginsClaims, IsRefused, IsMigrated}
use Rattle.result_file.proofs.CopyLemmas.{result_begins}
use Rattle.result_file.specs.Laws.{IsOnText}
use Rattle.result_file.proofs.OneVerdict.{one_verdict_lem}
use Rattle.result_file.proofs.WorthLaws.{worth}
use Rattle.criteria_model.specs.Criteria.{Criteria}
use Rattle.sample_survey.specs.declared.summary.Summary.{Summary}
use Rattle.sample_survey.specs.Samples.{IsSampleOf}
use Rattle.survey_words.specs.declared.shapes.Shape.{Shape}
use Rattle.survey_server.specs.Command.{Answers, AnswersMigration, ChecksFile, MigratesFile, IsSoundFile, IsSettlingFile, IsWorthAnswer, IsValidFile, IsValidResult, SamplesModel, SaysComplete, Writes, WritesSummary, verdict_line}

-- ---- status 0

sound_valid : (told : Option (List ℕ)) → IsToldChecked told Valid → IsSoundFile told
sound_valid None checked = tt
sound_valid (Some text) checked = (checked.0, checked.1, worth text Valid checked checked.0 checked.1)

sound_complete : (told : Option (List ℕ)) → IsToldChecked told ValidComplete → IsSoundFile told
sound_complete None checked = tt
sound_complete (Some text) checked = (checked.0, checked.1, (worth text ValidComplete checked).0 checked.0 checked.1)

-- a status that is neither that of a refusal nor 4
not_refused : (line : List ℕ) (before now : Option (List ℕ)) (status : ℕ) → Writes line 1 before now status → status ≡ 0 → ⊥
not_refused line before now status writes at_zero = elim writes [ inl done ↦ omega (arith, done.0) | inr failed ↦ omega (arith, failed.0) ]

sound_by : (verdict : Checked) (told before now : Option (List ℕ)) (status : ℕ) → IsToldChecked told verdict → Answers verdict before now status
    → status ≡ 0 → IsSoundFile told
sound_by Valid told before now status checked answered at_zero = sound_valid told checked
sound_by ValidComplete told before now status checked answered at_zero = sound_complete told checked
sound_by (Invalid line part) told before now status checked answered at_zero = absurd (not_refused _ before now status answered at_zero)
sound_by (Unfinished line) told before now status checked answered at_zero = absurd (not_refused _ before now status answered at_zero)
sound_by ReadFault told before now status checked answered at_zero = absurd (omega (arith, answered.0))
sound_by NoMemory told before now status checked answered at_zero = absurd (omega (arith, answered.0))

-- ---- the line `valid complete`

settling : (told : Option (List ℕ)) → IsToldChecked told ValidComplete → IsSettlingFile told
settling None checked = tt
settling (Some text) checked = (checked.0, checked.1, (worth text ValidComplete checked).1 checked.0 checked.1)

-- what was put after a text
put_behind : (before now : Option (List ℕ)) (text full line : List ℕ) → before ≡ Some text → now ≡ Some (text ++ full) → Appends before now line → line ≡ full
put_behind before now text full line was is h =
    let one : IfSome (Some (text ++ full)) (λ whole. append_known before line ≡ Some whole) = subst (λ (o : Option (List ℕ)). IfSome o (λ whole. append_known before line ≡ Some whole)) is h in
    let two : append_known (Some text) line ≡ Some (text ++ full) = subst (λ (o : Option (List ℕ)). append_known o line ≡ Some (text ++ full)) was one in
    let same : text ++ line ≡ text ++ full = cc in
    append_cancel_left text line full same

-- what was written is some first bytes of a line
front_written : (before now : Option (List ℕ)) (line : List ℕ) (wanted status : ℕ) → SaysComplete before now → Writes line wanted before now status
    → (n : ℕ) × (take n line ≡ verdict_line ValidComplete)
front_written before now line wanted status says writes =
    elim writes [
      | inl done ↦ (length line, take-length line ∙ put_behind before now says.0 (verdict_line ValidComplete) line says.1 says.2 done.1)
      | inr failed ↦ (failed.1.0, put_behind before now says.0 (verdict_line ValidComplete) (take failed.1.0 line) says.1 says.2 failed.1.1)
    ]

-- the line `valid` is too short
not_valid : (n : ℕ) → take n (verdict_line Valid) ≡ verdict_line ValidComplete → ⊥
not_valid n e = omega (arith, ap length e, length-take n (verdict_line Valid))

-- a line of a refusal begins with a smaller byte
not_first : (n byte : ℕ) (line : List ℕ) → byte < 118 → take n (byte ∷ line) ≡ verdict_line ValidComplete → ⊥
not_first zero byte line small e = cc
not_first (suc n) byte line small e = let same : byte ≡ 118 = cc in omega arith

nothing_written : (before now : Option (List ℕ)) → now ≡ before → SaysComplete before now → ⊥
nothing_written before now same says =
    let e : Some says.0 ≡ Some (says.0 ++ verdict_line ValidComplete) = sym says.1 ∙ sym same ∙ says.2 in
    let both : says.0 ≡ says.0 ++ verdict_line ValidComplete = cc in
    omega (arith, ap length both, length-append says.0 (verdict_line ValidComplete))

settling_by : (verdict : Checked) (told before now : Option (List ℕ)) (status : ℕ) → IsToldChecked told verdict → Answers verdict before now status
    → SaysComplete before now → IsSettlingFile told
settling_by Valid told before now status checked answered says =
    let f = front_written before now (verdict_line Valid) 0 status says answered in absurd (not_valid f.0 f.1)
settling_by ValidComplete told before now status checked answered says = settling told checked
settling_by (Invalid line part) told before now status checked answered says =
    let f = front_written before now (verdict_line (Invalid line part)) 1 status says answered in
    absurd (not_first f.0 105 _ (omega arith) f.1)
settling_by (Unfinished line) told before now status checked answered says =
    let f = front_written before now (verdict_line (Unfinished line)) 1 status says answered in
    absurd (not_first f.0 117 _ (omega arith) f.1)
settling_by ReadFault told before now status checked answered says = absurd (nothing_written before now answered.1 says)
settling_by NoMemory told before now status checked answered says = absurd (nothing_written before now answered.1 says)

pub worth_of_answer : (told left before now : Option (List ℕ)) (status : ℕ) → ChecksFile told left before now status → IsWorthAnswer told before now status
worth_of_answer told left before now status h = record {
  sound = sound_by h.verdict told before now status h.checked h.answered;
  settling = settling_by h.verdict told before now status h.checked h.answered;
}

-- where nothing was written, a status for want of memory says nothing
pub no_worth : (told now : Option (List ℕ)) → IsWorthAnswer told now now 5
no_worth told now = record {
  sound = λ at_zero. absurd (omega (arith, at_zero));
  settling = λ says. absurd (nothing_written now now refl says);
}

-- ---- a valid file

-- a valid file deserves no other verdict on its text
not_other : (text : List ℕ) (content : Content) (verdict : Checked) → IsFileOf content text → IsChecked text verdict → IsOnText verdict
    → (Valid ≡ verdict → ⊥) → (ValidComplete ≡ verdict → ⊥) → ⊥
not_other text content verdict file checked on_text not_valid not_complete =
    let incomplete : IsCompleteContent content → ⊥ =
    λ complete. not_complete (one_verdict_lem text ValidComplete verdict tt on_text (content, file, complete) checked) in
    not_valid (one_verdict_lem text Valid verdict tt on_text (content, file, incomplete) checked)

done_or_failed : (line : List ℕ) (before now : Option (List ℕ)) (status : ℕ) → Writes line 0 before now status → (status ≡ 4 → ⊥) → (status ≡ 0) ⊎ (status ≡ 5)
done_or_failed line before now status writes not_failed = elim writes [ inl done ↦ inl done.0 | inr failed ↦ absurd (not_failed failed.0) ]

done_by : (verdict : Checked) (text : List ℕ) (content : Content) (before now : Option (List ℕ)) (status : ℕ) → IsFileOf content text → IsChecked text verdict
    → Answers verdict before now status → (status ≡ 3 → ⊥) → (status ≡ 4 → ⊥) → (status ≡ 0) ⊎ (status ≡ 5)
done_by Valid text content before now status file checked answered no_fault not_failed = done_or_failed (verdict_line Valid) before now status answered not_failed
done_by ValidComplete text content before now status file checked answered no_fault not_failed =
    done_or_failed (verdict_line ValidComplete) before now status answered not_failed
done_by (Invalid line part) text content before now status file checked answered no_fault not_failed =
    absurd (not_other text content (Invalid line part) file checked tt (λ e. cc) (λ e. cc))
done_by (Unfinished line) text content before now status file checked answered no_fault not_failed =
    absurd (not_other text content (Unfinished line) file checked tt (λ e. cc) (λ e. cc))
done_by ReadFault text content before now status file checked answered no_fault not_failed = absurd (no_fault answered.0)
done_by NoMemory text content before now status file checked answered no_fault not_failed = inr answered.0

pub done_where_valid : (told left before now : Option (List ℕ)) (status source_faults source_faults_now sink_faults sink_faults_now : ℕ)
    → ChecksFile told left before now status → CountsFaults (status ≡ 3) source_faults source_faults_now → CountsFaults (status ≡ 4) sink_faults sink_faults_now
    → IsValidFile told → (HasRisen source_faults source_faults_now → ⊥) → (HasRisen sink_faults sink_faults_now → ⊥) → (status ≡ 0) ⊎ (status ≡ 5)
done_where_valid told left before now status source_faults source_faults_now sink_faults sink_faults_now h reads writes valid no_read no_write =
    let checked : IsChecked valid.0 h.verdict = subst (λ (t : Option (List ℕ)). IsToldChecked t h.verdict) valid.2 h.checked in
    done_by h.verdict valid.0 valid.1 before now status valid.3 checked h.answered (λ e. no_read (reads.rises e)) (λ e. no_write (writes.rises e))

-- ---- a valid result

-- a valid result isn't refused
not_refused_result : (text : List ℕ) (content : Content) (verdict : Checked) → IsFileOf content text → ¬ BeginsClaims text → IsRefused text verdict
    → (verdict ≡ ReadFault) ⊎ (verdict ≡ NoMemory)
not_refused_result text content Valid file no_claims refused = absurd refused
not_refused_result text content ValidComplete file no_claims refused = absurd refused
not_refused_result text content (Invalid line part) file no_claims refused =
    absurd (not_other text content (Invalid line part) file (refused.1 no_claims) tt (λ e. cc) (λ e. cc))
not_refused_result text content (Unfinished line) file no_claims refused =
    absurd (not_other text content (Unfinished line) file refused.1 tt (λ e. cc) (λ e. cc))
not_refused_result text content ReadFault file no_claims refused = inl refl
not_refused_result text content NoMemory file no_claims refused = inr refl

migrated_by : (outcome : Result (Vec ℕ Global) Checked) (text : List ℕ) (content : Content) (before now : Option (List ℕ)) (status : ℕ) → IsFileOf content text
    → ¬ BeginsClaims text → IsMigrated (Some text) outcome → AnswersMigration outcome before now status → (status ≡ 3 → ⊥) → (status ≡ 4 → ⊥)
    → (status ≡ 0) ⊎ (status ≡ 5)
migrated_by (Ok copy) text content before now status file no_claims migrated answered no_fault not_failed =
    done_or_failed copy.items before now status answered not_failed
migrated_by (Err verdict) text content before now status file no_claims migrated answered no_fault not_failed =
    elim (not_refused_result text content verdict file no_claims migrated) [
      | inl fault ↦ (let silent : Answers ReadFault before now status = subst (λ (v : Checked). Answers v before now status) fault answered in absurd (no_fault silent.0))
      | inr memory ↦ (let silent : Answers NoMemory before now status = subst (λ (v : Checked). Answers v before now status) memory answered in inr silent.0)
    ]

pub done_where_result : (told before now : Option (List ℕ)) (status source_faults source_faults_now sink_faults sink_faults_now : ℕ)
    → MigratesFile told before now status → CountsFaults (status ≡ 3) source_faults source_faults_now → CountsFaults (status ≡ 4) sink_faults sink_faults_now
    → IsValidResult told → (HasRisen source_faults source_faults_now → ⊥) → (HasRisen sink_faults sink_faults_now → ⊥) → (status ≡ 0) ⊎ (status ≡ 5)
done_where_result told before now status source_faults source_faults_now sink_faults sink_faults_now h reads writes valid no_read no_write =
    let migrated : IsMigrated (Some valid.0) h.outcome = subst (λ (t : Option (List ℕ)). IsMigrated t h.outcome) valid.1 h.migrated in
    migrated_by h.outcome valid.0 (of_events valid.2.format valid.2.survey) before now status valid.2.file (result_begins valid.2.format valid.2.survey valid.0 valid.2.file) migrated h.answered
    (λ e. no_read (reads.rises e)) (λ e. no_write (writes.rises e))

-- ---- samples

-- the line of a model's sample was written
pub sampled_by : (seed : ℕ) (shape : Shape) (criteria : Criteria) (summary : Summary) (before now : Option (List ℕ)) (status : ℕ) → IsSampleOf criteria seed summary
    → WritesSummary seed shape summary before now status → SamplesModel seed shape criteria before now status
sampled_by seed shape criteria summary before now status is written = elim written [ inl line ↦ inl (summary, is, line) | inr silent ↦ inr silent ]

-- ---- faults

pub faults_as : (P Q : Type 0) (before now : ℕ) → CountsFaults P before now → (Q → P) → (P → Q) → CountsFaults Q before now
faults_as P Q before now h there back = record { rises = λ q. h.rises (there q); stays = λ other. h.stays (λ p. other (back p)) }
