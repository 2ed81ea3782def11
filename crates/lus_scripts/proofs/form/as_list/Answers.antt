-- The items of a list of JSON are those that its view lists.
use Rattle.std.proofs.Common.{◌≡◌, ◌∙◌, ap, sym, rules, map, option_map, Some}
use Rattle.serde_json.specs.Find.{as_array}
use Rattle.serde_json.specs.View.{view, items_view}
use Rattle.lus_scripts.specs.Forms.{listed}
use Rattle.lus_scripts.proofs.Lists.{listed-items_of}
use Rattle.lus_scripts.proofs.form.as_list.Goals as goal

pub returns : goal.returns
returns c =
    let items = c.in_ok-items.items.now.items in
    let same : Some (items_view items) ≡ as_array (view c.args.value.now) = search rules in
    ap Some (ap (map view) c.as_slice.ensures.value ∙ sym (listed-items_of (map view items))) ∙ ap (option_map listed) same
