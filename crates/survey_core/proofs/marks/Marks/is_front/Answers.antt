use Rattle.std.proofs.Common.{◌≡◌, ◌↔◌, ◌-◌, ◌≤◌, List, length, ap, subst, IsTrue, nat_le, ℕ, true, arith}
use Rattle.std.proofs.lemmas.Bool.Decides.{nat_tests}
use Rattle.survey_core.specs.declared.marks.Mark.{Mark}
use Rattle.survey_core.specs.Marked.{Table, AreSettled}
use Rattle.survey_core.proofs.TableLemmas.{front_iff}
use Rattle.survey_core.proofs.marks.Marks.is_front.Goals as goal

to_le : (n m : ℕ) → nat_le n m ≡ true → n ≤ m
to_le n m h = grind (arith, nat_tests)

from_le : (n m : ℕ) → n ≤ m → nat_le n m ≡ true
from_le n m h = grind (arith, nat_tests)

pub returns : goal.returns
returns c =
    let classes : List Mark = c.self.inside.classes.items in
    let n : ℕ = c.args.place - 1 in
    let same : classes ≡ c.args.self.now.classes = ap (λ (t : Table). t.classes) c.self.view_is in
    let both : (n ≤ c.self.inside.settled → AreSettled classes n) × (AreSettled classes n → n ≤ c.self.inside.settled) =
    front_iff classes c.self.inside.settled n c.self.invariant.front c.self.invariant.next (omega (arith, ap (λ (l : List Mark). length l) same)) in
    subst (λ (l : List Mark). IsTrue (nat_le n c.self.inside.settled) ↔ AreSettled l n) same
    ((λ yes_. both.0 (to_le n c.self.inside.settled yes_)), (λ all. from_le n c.self.inside.settled (both.1 all)))
