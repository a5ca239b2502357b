use Rattle.std.proofs.Common.{◌≡◌, ℕ, ◌+◌, ◌-◌, min, List, ◌++◌, length, take, drop, ap, sym, ◌∙◌, arith}
use Rattle.std.proofs.Math.Seq.{take-add}
use Rattle.std.proofs.lemmas.List.{length-drop, take_min}
use Rattle.criteria_model.specs.declared.pairs.Answer.{Answer}
use Rattle.answer_rows.specs.Room.{BeginsWith}
use Rattle.answer_rows.proofs.answers.Answers.copy_from.Goals as goal

copied : (front whole : List Answer) (spare : ℕ) → BeginsWith whole front
    → front ++ take (min (length whole - length front) spare) (drop (length front) whole) ≡ take (length front + spare) whole
copied front whole spare begins =
    let rest = drop (length front) whole in
    let fewer : min (length whole - length front) spare ≡ min spare (length rest) = simp length-drop (omega arith) in
    ap (λ k. front ++ take k rest) fewer ∙ ap (λ more. front ++ more) (take_min spare rest)
    ∙ ap (λ xs. xs ++ take spare rest) (sym begins) ∙ sym (take-add (length front) spare whole)

-- src/answers.rt:92:5
pub returns-clause-answers : goal.returns-clause-answers
returns-clause-answers c =
    let mine = c.args.self.now in
    let held : c.len-held.result ≡ length mine.answers = omega (arith, ap (λ list. length list.answers) c.self.view_is) in
    let count : c.len-held.result + c.min-copied.result - c.len-held.result ≡ min (length c.args.other.now.answers - length mine.answers) mine.spare =
    omega (arith, held, c.min-copied.ensures, ap (λ list. length list.answers) c.other.view_is, ap (λ list. list.spare) c.self.view_is) in
    let mine_is : c.self.inside.items.items ≡ mine.answers = ap (λ list. list.answers) c.self.view_is in
    let others_is : c.as_slice-others.result.now ≡ c.args.other.now.answers = c.as_slice-others.ensures.value ∙ ap (λ list. list.answers) c.other.view_is in
    let whole = copied mine.answers c.args.other.now.answers mine.spare c.requires in
    cc
