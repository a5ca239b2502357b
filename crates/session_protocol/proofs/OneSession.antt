-- A text is read by a session in one way.
use Rattle.std.proofs.Common.{◌≡◌, ◌≢◌, ℕ, suc, ◌≤◌, List, [], ◌∷◌, ◌++◌, length, All, Some, refl, ap, sym, subst, ◌∙◌, inl, inr, arith, append_assoc, append-nil, length-append}
use Rattle.std.proofs.lemmas.List.Elements.{All-head}
use Rattle.edges.specs.Line.{HasNoLineEnd, line_end, unlines, first_line, HasLineEnd}
use Rattle.edges.proofs.LineLaws.{first_line-line, first_line-long, HasNoLineEnd-not, HasLineEnd-line}
use Rattle.edges.proofs.SplitLaws.{one_goes_on}
use Rattle.json_forms.specs.Messages.{message_of}
use Rattle.json_forms.specs.declared.messages.Message.TheVariants as message
use Rattle.result_file.specs.declared.limits.TheConstants.{MAX_LINE}
use Rattle.session_protocol.specs.declared.sessions.SessionEnd.{SessionEnd}
use Rattle.session_protocol.specs.declared.sessions.SessionEnd.TheVariants.{Bye, EndOfInput, LineTooLong, Messages, ReadFault, WriteFault, NoMemory}
use Rattle.session_protocol.specs.Sessions.{IsLine, IsOverlong, HasNoBye, EndsWithBye, EndsAfter, EndTakes}
use Rattle.session_protocol.specs.Laws.{LeavesText, IsReadTo, OneSession}

unbroken : (lines : List (List ℕ)) → All IsLine lines → All HasNoLineEnd lines
unbroken lines each = λ k d within. (each k d within).1

among : (lines : List (List ℕ)) (line : List ℕ) (more : List (List ℕ)) → All IsLine (lines ++ line ∷ more) → IsLine line
among [] line more each = All-head IsLine line more each
among (first ∷ lines) line more each = among lines line more (λ k d within. each (suc k) d (omega arith))

-- ---- byes
-- a bye isn't among lines that have none
bye_among : (earlier : List (List ℕ)) (last : List ℕ) (more : List (List ℕ)) → message_of last ≡ Some message.Bye
    → HasNoBye ((earlier ++ last ∷ []) ++ more) → ⊥
bye_among [] last more bye none = All-head (λ l. message_of l ≢ Some message.Bye) last more none bye
bye_among (first ∷ earlier) last more bye none = bye_among earlier last more bye (λ k d within. none (suc k) d (omega arith))

bye_within : (lines more : List (List ℕ)) → EndsWithBye lines → HasNoBye (lines ++ more) → ⊥
bye_within lines more h none =
    bye_among h.earlier h.last more h.bye (subst (λ (l : List (List ℕ)). HasNoBye (l ++ more)) h.whole none)

bye_or_none : (lines : List (List ℕ)) → EndsWithBye lines → HasNoBye lines → ⊥
bye_or_none lines h none = bye_within lines [] h (subst (λ (l : List (List ℕ)). HasNoBye l) (sym (append-nil lines)) none)

-- lines before a last one
front_of : (lines : List (List ℕ)) (line : List ℕ) (more earlier : List (List ℕ)) (last : List ℕ) → lines ++ line ∷ more ≡ earlier ++ last ∷ []
    → (rest : List (List ℕ)) × (earlier ≡ lines ++ rest)
front_of [] line more earlier last same = (earlier, refl)
front_of (first ∷ lines) line more [] last same =
    absurd (omega (arith, ap (λ (l : List (List ℕ)). length l) same, length-append lines (line ∷ more)))
front_of (first ∷ lines) line more (other ∷ earlier) last same =
    let tails : lines ++ line ∷ more ≡ earlier ++ last ∷ [] = cc in
    let heads : other ≡ first = cc in
    let found : (rest : List (List ℕ)) × (earlier ≡ lines ++ rest) = front_of lines line more earlier last tails in
    (found.0, ap (λ (l : List (List ℕ)). other ∷ l) found.1 ∙ ap (λ (l : List ℕ). l ∷ (lines ++ found.0)) heads)

-- no line comes after a bye
after_bye : (lines : List (List ℕ)) (line : List ℕ) (more others : List (List ℕ)) (most : ℕ) (other : SessionEnd) (rest : List ℕ) → EndsWithBye lines
    → others ≡ lines ++ line ∷ more → LeavesText other rest → EndsAfter most other others → ⊥
after_bye lines line more others most Bye rest h is leaves (last, within) =
    let found : (left : List (List ℕ)) × (last.earlier ≡ lines ++ left) = front_of lines line more last.earlier last.last (sym is ∙ last.whole) in
    bye_within lines found.0 h (subst (λ (l : List (List ℕ)). HasNoBye l) found.1 last.no_bye)
after_bye lines line more others most EndOfInput rest h is leaves (none, within) =
    bye_within lines (line ∷ more) h (subst (λ (l : List (List ℕ)). HasNoBye l) is none)
after_bye lines line more others most LineTooLong rest h is leaves (none, within) =
    bye_within lines (line ∷ more) h (subst (λ (l : List (List ℕ)). HasNoBye l) is none)
after_bye lines line more others most Messages rest h is leaves (none, within) =
    bye_within lines (line ∷ more) h (subst (λ (l : List (List ℕ)). HasNoBye l) is none)
after_bye lines line more others most ReadFault rest h is leaves ends = absurd leaves
after_bye lines line more others most WriteFault rest h is leaves ends = absurd leaves
after_bye lines line more others most NoMemory rest h is leaves ends = absurd leaves

-- ---- no line comes after any end
few : (most : ℕ) (end : SessionEnd) (lines : List (List ℕ)) (rest : List ℕ) → LeavesText end rest → EndsAfter most end lines → length lines ≤ most
few most Bye lines rest leaves (last, within) = within
few most EndOfInput lines rest leaves (none, within) = omega arith
few most LineTooLong lines rest leaves (none, within) = omega arith
few most Messages lines rest leaves (none, within) = omega arith
few most ReadFault lines rest leaves ends = absurd leaves
few most WriteFault lines rest leaves ends = absurd leaves
few most NoMemory lines rest leaves ends = absurd leaves

begins_line : (line : List ℕ) (more : List (List ℕ)) (later : List ℕ) → unlines (line ∷ more) ++ later ≡ line ++ line_end ∷ (unlines more ++ later)
begins_line line more later = append_assoc line (line_end ∷ unlines more) later

stops : (one : SessionEnd) (most : ℕ) (other : SessionEnd) (lines : List (List ℕ)) (line : List ℕ) (more others : List (List ℕ)) (taken rest other_rest later : List ℕ)
    → EndTakes one taken → LeavesText one rest → EndsAfter most one lines → IsLine line → LeavesText other other_rest → EndsAfter most other others
    → others ≡ lines ++ line ∷ more → taken ++ rest ≡ unlines (line ∷ more) ++ later → ⊥
stops Bye most other lines line more others taken rest other_rest later takes leaves (last, within) is other_leaves other_ends longer left =
    after_bye lines line more others most other other_rest last longer other_leaves other_ends
stops EndOfInput most other lines line more others taken rest other_rest later takes leaves ends is other_leaves other_ends longer left =
    let text : taken ≡ line ++ line_end ∷ (unlines more ++ later) =
    sym (append-nil taken) ∙ ap (λ (l : List ℕ). taken ++ l) (sym leaves) ∙ left ∙ begins_line line more later in
    HasNoLineEnd-not taken takes.1 (subst (λ (l : List ℕ). HasLineEnd l) (sym text) (HasLineEnd-line line (unlines more ++ later)))
stops LineTooLong most other lines line more others taken rest other_rest later takes leaves ends is other_leaves other_ends longer left =
    let text : rest ++ [] ≡ line ++ line_end ∷ (unlines more ++ later) =
    append-nil rest ∙ ap (λ (l : List ℕ). l ++ rest) (sym takes) ∙ left ∙ begins_line line more later in
    let first : first_line (rest ++ []) ≡ line = ap first_line text ∙ first_line-line line (unlines more ++ later) is.1 in
    omega (arith, is.0, first_line-long rest [] MAX_LINE leaves.0 leaves.1, ap (λ (l : List ℕ). length l) first)
stops Messages most other lines line more others taken rest other_rest later takes leaves (none, all) is other_leaves other_ends longer left =
    omega (arith, few most other others other_rest other_leaves other_ends, ap (λ (l : List (List ℕ)). length l) longer, length-append lines (line ∷ more))
stops ReadFault most other lines line more others taken rest other_rest later takes leaves ends is other_leaves other_ends longer left = absurd leaves
stops WriteFault most other lines line more others taken rest other_rest later takes leaves ends is other_leaves other_ends longer left = absurd leaves
stops NoMemory most other lines line more others taken rest other_rest later takes leaves ends is other_leaves other_ends longer left = absurd leaves

-- ---- after the same lines comes the same end
not_both : (taken rest other_taken other_rest : List ℕ) → IsLine taken → rest ≡ [] → other_taken ≡ [] → IsOverlong other_rest
    → taken ++ rest ≡ other_taken ++ other_rest → ⊥
not_both taken rest other_taken other_rest is none other_none long same =
    let short : taken ≡ other_rest =
    sym (append-nil taken) ∙ ap (λ (l : List ℕ). taken ++ l) (sym none) ∙ same ∙ ap (λ (l : List ℕ). l ++ other_rest) other_none in
    omega (arith, is.0, long.0, ap (λ (l : List ℕ). length l) short)

same_end : (one other : SessionEnd) (most : ℕ) (lines : List (List ℕ)) (taken rest other_taken other_rest : List ℕ) → EndTakes one taken
    → EndTakes other other_taken → LeavesText one rest → LeavesText other other_rest → EndsAfter most one lines → EndsAfter most other lines
    → taken ++ rest ≡ other_taken ++ other_rest → one ≡ other
same_end Bye Bye most lines taken rest other_taken other_rest takes other_takes leaves other_leaves ends other_ends same = refl
same_end Bye EndOfInput most lines taken rest other_taken other_rest takes other_takes leaves other_leaves (bye, within) (none, other_within) same =
    absurd (bye_or_none lines bye none)
same_end Bye LineTooLong most lines taken rest other_taken other_rest takes other_takes leaves other_leaves (bye, within) (none, other_within) same =
    absurd (bye_or_none lines bye none)
same_end Bye Messages most lines taken rest other_taken other_rest takes other_takes leaves other_leaves (bye, within) (none, other_within) same =
    absurd (bye_or_none lines bye none)
same_end EndOfInput Bye most lines taken rest other_taken other_rest takes other_takes leaves other_leaves (none, within) (bye, other_within) same =
    absurd (bye_or_none lines bye none)
same_end LineTooLong Bye most lines taken rest other_taken other_rest takes other_takes leaves other_leaves (none, within) (bye, other_within) same =
    absurd (bye_or_none lines bye none)
same_end Messages Bye most lines taken rest other_taken other_rest takes other_takes leaves other_leaves (none, within) (bye, other_within) same =
    absurd (bye_or_none lines bye none)
same_end EndOfInput EndOfInput most lines taken rest other_taken other_rest takes other_takes leaves other_leaves ends other_ends same = refl
same_end EndOfInput LineTooLong most lines taken rest other_taken other_rest takes other_takes leaves other_leaves ends other_ends same =
    absurd (not_both taken rest other_taken other_rest takes leaves other_takes other_leaves same)
same_end EndOfInput Messages most lines taken rest other_taken other_rest takes other_takes leaves other_leaves ends other_ends same =
    absurd (omega (arith, ends.1, other_ends.1))
same_end LineTooLong EndOfInput most lines taken rest other_taken other_rest takes other_takes leaves other_leaves ends other_ends same =
    absurd (not_both other_taken other_rest taken rest other_takes other_leaves takes leaves (sym same))
same_end LineTooLong LineTooLong most lines taken rest other_taken other_rest takes other_takes leaves other_leaves ends other_ends same = refl
same_end LineTooLong Messages most lines taken rest other_taken other_rest takes other_takes leaves other_leaves ends other_ends same =
    absurd (omega (arith, ends.1, other_ends.1))
same_end Messages EndOfInput most lines taken rest other_taken other_rest takes other_takes leaves other_leaves ends other_ends same =
    absurd (omega (arith, ends.1, other_ends.1))
same_end Messages LineTooLong most lines taken rest other_taken other_rest takes other_takes leaves other_leaves ends other_ends same =
    absurd (omega (arith, ends.1, other_ends.1))
same_end Messages Messages most lines taken rest other_taken other_rest takes other_takes leaves other_leaves ends other_ends same = refl
same_end ReadFault other most lines taken rest other_taken other_rest takes other_takes leaves other_leaves ends other_ends same = absurd leaves
same_end WriteFault other most lines taken rest other_taken other_rest takes other_takes leaves other_leaves ends other_ends same = absurd leaves
same_end NoMemory other most lines taken rest other_taken other_rest takes other_takes leaves other_leaves ends other_ends same = absurd leaves
same_end one ReadFault most lines taken rest other_taken other_rest takes other_takes leaves other_leaves ends other_ends same = absurd other_leaves
same_end one WriteFault most lines taken rest other_taken other_rest takes other_takes leaves other_leaves ends other_ends same = absurd other_leaves
same_end one NoMemory most lines taken rest other_taken other_rest takes other_takes leaves other_leaves ends other_ends same = absurd other_leaves

-- ---- both
joined : (text : List ℕ) (most : ℕ) (one other : SessionEnd) (lines others : List (List ℕ)) (h : IsReadTo text most one lines)
    (k : IsReadTo text most other others) (more : List (List ℕ)) → others ≡ lines ++ more → h.taken ++ h.rest ≡ unlines more ++ (k.taken ++ k.rest)
    → (one ≡ other) × (lines ≡ others)
joined text most one other lines others h k [] longer left =
    let same : others ≡ lines = longer ∙ append-nil lines in (
      same_end one other most lines h.taken h.rest k.taken k.rest h.takes k.takes h.leaves k.leaves h.ends
          (subst (λ (l : List (List ℕ)). EndsAfter most other l) same k.ends) left,
      sym same,
    )
joined text most one other lines others h k (line ∷ more) longer left =
    absurd (stops one most other lines line more others h.taken h.rest k.rest (k.taken ++ k.rest) h.takes h.leaves h.ends
    (among lines line more (subst (λ (l : List (List ℕ)). All IsLine l) longer k.each)) k.leaves k.ends longer left)

pub one_session_lem : OneSession
one_session_lem text most one other lines others h k =
    let first : text ≡ unlines lines ++ (h.taken ++ h.rest) = h.whole ∙ append_assoc (unlines lines) h.taken h.rest in
    let second : text ≡ unlines others ++ (k.taken ++ k.rest) = k.whole ∙ append_assoc (unlines others) k.taken k.rest in
    elim (one_goes_on lines (h.taken ++ h.rest) others (k.taken ++ k.rest) (unbroken lines h.each) (unbroken others k.each) (sym first ∙ second)) [
      | inl goes ↦ joined text most one other lines others h k goes.more goes.longer goes.left
      | inr goes ↦
          let same = joined text most other one others lines k h goes.more goes.longer goes.left in
          (sym same.0, sym same.1)
    ]
