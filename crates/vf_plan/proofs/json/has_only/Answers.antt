use Rattle.std.proofs.Common.{◌∙◌, sym}
use Rattle.vf_plan.specs.Form.{is_key}
use Rattle.vf_plan.proofs.JsonLemmas.{has_only-object, has_only-other, all_keys-members_view}
use Rattle.vf_plan.proofs.json.has_only.Goals as goal

pub returns-in-Some : goal.returns-in-Some
returns-in-Some c =
    c.are_keys.ensures
    ∙ sym (has_only-object c.args.keys _ _ c.in-Some.ensures ∙ all_keys-members_view (is_key c.args.keys) c.in-Some.members.now.entries)

pub returns-in-None : goal.returns-in-None
returns-in-None c = sym (has_only-other c.args.keys _ c.in-None.ensures)
