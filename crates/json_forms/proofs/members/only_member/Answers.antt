use Rattle.std.proofs.Common.{◌∙◌, sym}
use Rattle.serde_json.specs.View.{view}
use Rattle.json_forms.proofs.MemberLemmas.{single-found, single-other}
use Rattle.json_forms.proofs.members.only_member.Goals as goal

pub returns-then-len-ne1 : goal.returns-then-len-ne1
returns-then-len-ne1 c =
    single-other (view c.args.value.now) c.in_ok-members.members.now.entries c.in_ok-members.ensures
    (λ one. c.if-len-ne1.true (c.len.ensures.len ∙ one))

pub returns : goal.returns
returns c =
    single-found (view c.args.value.now) c.in_ok-members.members.now.entries c.in_ok-name.name.now c.in_ok-name.inner.now c.as_str.result.now
    c.in_ok-members.ensures (sym c.len.ensures.len ∙ c.if-len-ne1.false) c.in_ok-name.ensures.first c.as_str.ensures.value
