-- An object's members are counted as its view counts them.
use Rattle.std.proofs.Common.{rules, ◌≡◌, ◌∙◌, ap, sym, Some}
use Rattle.std.specs.Option.{option_map_or}
use Rattle.serde_json.specs.Find.{as_object}
use Rattle.serde_json.specs.Events.{members_len}
use Rattle.serde_json.specs.View.{view, members_view}
use Rattle.serde_json.proofs.Views.{members_len-members_view}
use Rattle.lus_scripts.proofs.form.member_count.Goals as goal

pub returns-in-Some : goal.returns-in-Some
returns-in-Some c =
    let entries = c.in-Some.members.now.entries in
    let is : Some (members_view entries) ≡ as_object (view c.args.value.now) = search rules in
    c.len.ensures.len ∙ sym (members_len-members_view entries) ∙ ap (λ o. option_map_or members_len o 0) is
