use Rattle.std.proofs.Common.{◌≡◌, ◌≢◌, ◌∙◌, ◌<◌, ℕ, ℤ, ◌*ℤ◌, ◌-ℤ◌, List, [], length, get_or, to_z, of_z, ap, subst, arith}
use Rattle.std.proofs.lemmas.List.{get_or_default}
use Rattle.std.specs.Int.{w128}
use Rattle.wide_step.specs.Quotient.{HasQuotient}
use Rattle.row_laws.proofs.Integers.{read_back}
use Rattle.row_laws.specs.Rows.{entry}
use Rattle.fraction_free.specs.Changes.{IsOtherLine, IsPivotLine}
use Rattle.fraction_free.specs.Representation.{CanExchange}
use Rattle.fraction_free.proofs.LineSteps.{lines_left, lines_exchanged}
use Rattle.fraction_free.proofs.lines.exchange_lines.Goals as goal
use Rattle.fraction_free.proofs.lines.exchange_lines.Goals.{then-row-at, else-row-at}

exact_along : (s t : ℤ) (at column row : ℕ) (old : List (List ℤ)) (pivot line : List ℤ) → t ≡ s → pivot ≡ get_or old at [] → line ≡ get_or old row []
    → CanExchange s at column old → row < length old → row ≢ at
    → (place : ℕ) → place < length line → place ≢ column
    → HasQuotient (entry pivot column *ℤ entry line place -ℤ entry line column *ℤ entry pivot place) t
exact_along s t at column row old pivot line i j k h below apart place inside other =
    rw (i, j, k) (h.exact row place below apart (omega (arith, ap length k, h.len row below)) other)

pub exchange-requires-clause-exact : goal.exchange-requires-clause-exact
exchange-requires-clause-exact c =
    let v = c.loop-row.invariant in
    exact_along c.args.scale _ c.args.at c.args.column c.loop-row.row c.args.lines.now c.args.pivot.now _
    (c.of-divisor.ensures ∙ read_back w128 c.args.scale (omega (arith, c.requires.exact.scale_size))) c.requires.pivot
    (get_or_default c.loop-row.lines c.loop-row.row _ [] (omega (arith, v.len)) ∙ v.rest c.loop-row.row (omega arith))
    c.requires.exact (omega (arith, v.len)) c.if-row-at.false

pub loop-row-preserved : goal.loop-row-preserved
loop-row-preserved c =
    let v = c.loop-row.invariant in
    let old = c.args.lines.now in
    let row = c.loop-row.row in
    let line : get_or c.loop-row.lines row c.index-lines-row.result ≡ get_or old row [] = get_or_default c.loop-row.lines row _ [] (omega (arith, v.len)) ∙ v.rest row (omega arith) in
    elim c.if-row-at.branch [
      | then-row-at w ↦
          lines_left (to_z w128 (of_z w128 c.args.scale)) c.args.at c.args.column old c.loop-row.lines c.if-row-at.lines row w.leave.new.self v w.if-row-at.true (omega (arith, v.len)) w.lines-is
          (subst (λ (p : List ℤ). IsPivotLine (to_z w128 (of_z w128 c.args.scale)) c.args.column p w.leave.new.self) (line ∙ ap (λ k. get_or old k []) w.if-row-at.true) w.leave.ensures)
      | else-row-at w ↦
          lines_exchanged (to_z w128 (of_z w128 c.args.scale)) c.args.at c.args.column old c.loop-row.lines c.if-row-at.lines row w.exchange.new.self v w.if-row-at.false (omega (arith, v.len)) w.lines-is
          (subst (λ (p : List ℤ). IsOtherLine (to_z w128 (of_z w128 c.args.scale)) c.args.column p (get_or old row []) w.exchange.new.self) c.requires.pivot
          (subst (λ (p : List ℤ). IsOtherLine (to_z w128 (of_z w128 c.args.scale)) c.args.column c.args.pivot.now p w.exchange.new.self) line
          (subst (λ (s : ℤ). IsOtherLine s c.args.column c.args.pivot.now (get_or c.loop-row.lines row c.index-lines-row.result) w.exchange.new.self) c.of-divisor.ensures w.exchange.ensures)))
    ]
