use Rattle.std.proofs.Common.{◌≡◌, ℕ, List, length, arith, refl, ap, subst, ◌∙◌}
use Rattle.std.specs.Prelude.{Contains}
use Rattle.edges.specs.Ends.{MemSinkView}
use Rattle.edges.proofs.memory_ends.MemSinkSink.put.Goals as goal
use Rattle.edges.proofs.memory_ends.MemSinkSink.put.Goals.{then-named-via-then-named, then-named-via-else-named+then-n-eq0}

-- Where the call is not named, no byte fits.
pub returns-then-named-clause-named : goal.returns-then-named-clause-named
returns-then-named-clause-named c =
    let P : List ℕ → Type 0 = λ fails. Contains fails c.saturating_add-self-inside.result in
    let fails : c.as_slice.result.now ≡ c.args.self.now.fails = c.as_slice.ensures.value ∙ ap (λ (v : MemSinkView). v.fails) c.self.view_is in
    λ not_named. elim c.then-named.branch [
      | then-named-via-then-named w ↦ absurd (not_named (subst P fails (w.if-named.ensures.0 refl)))
      | then-named-via-else-named+then-n-eq0 w ↦ omega (arith, c.min-n.ensures, w.if-n-eq0.true, c.requires, c.self.invariant, ap (λ (v : MemSinkView). v.room) c.self.view_is, ap (λ (v : MemSinkView). length v.bytes) c.self.view_is)
    ]
