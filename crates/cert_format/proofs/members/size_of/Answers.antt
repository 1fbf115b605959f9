use Rattle.std.proofs.Common.{◌∙◌, sym, ap, Some, option_map}
use Rattle.serde_json.specs.Events.{members_len}
use Rattle.serde_json.proofs.Views.{members_len-members_view}
use Rattle.cert_format.proofs.members.size_of.Goals as goal

pub returns-in-Some : goal.returns-in-Some
returns-in-Some c =
    let here = rw c.in-Some.is at c.as_object.ensures in
    ap Some (c.len.ensures.len ∙ sym (members_len-members_view c.in-Some.members.now.entries)) ∙ ap (option_map members_len) here
