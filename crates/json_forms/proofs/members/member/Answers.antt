use Rattle.std.proofs.Common.{◌∙◌, sym}
use Rattle.serde_json.specs.View.{view, members_view}
use Rattle.serde_json.proofs.Views.{members_len-members_view}
use Rattle.json_forms.proofs.MemberLemmas.{member_at-found, member_at-other}
use Rattle.json_forms.proofs.members.member.Goals as goal

pub returns-then-len-count : goal.returns-then-len-count
returns-then-len-count c =
    let len = c.len.ensures.len ∙ sym (members_len-members_view c.in_ok-members.members.now.entries) in
    sym (member_at-other c.args.count c.args.name.now (view c.args.value.now) (members_view c.in_ok-members.members.now.entries) c.in_ok-members.ensures
    (λ same. absurd (c.if-len-count.true (len ∙ same))))

pub returns : goal.returns
returns c =
    let len = c.len.ensures.len ∙ sym (members_len-members_view c.in_ok-members.members.now.entries) in
    c.get.ensures ∙ sym (member_at-found c.args.count c.args.name.now (view c.args.value.now) (members_view c.in_ok-members.members.now.entries) c.in_ok-members.ensures
    (sym len ∙ c.if-len-count.false))
