-- A list of lists is a burst, and another list is none.
use Rattle.std.proofs.Common.{rules, ◌≡◌, ◌∙◌, ap, sym, map, List, Bool, true, false, Some, None, if◌then◌else◌}
use Rattle.std.specs.Prelude.{option_and_then}
use Rattle.std.specs.List.{list_all}
use Rattle.std.proofs.lemmas.List.Folds.{list_all-map}
use Rattle.serde_json.specs.Data.{Data}
use Rattle.serde_json.specs.View.{view}
use Rattle.lus_scripts.specs.Forms.{as_list, is_list, burst, burst_of}
use Rattle.lus_scripts.proofs.form.read_burst.Goals as goal

burst_is : (d : Data) (ds : List Data) (b : Bool) → Some ds ≡ as_list d → list_all is_list ds ≡ b → (if b then Some (burst ds) else None) ≡ burst_of d
burst_is d ds b is all =
    ap (λ x. if x then Some (burst ds) else None) (sym all)
    ∙ ap (option_and_then (λ es. if list_all is_list es then Some (burst es) else None)) is

pub returns-then-are_lists : goal.returns-then-are_lists
returns-then-are_lists c =
    let is : Some (map view c.in_ok-rows.rows.now) ≡ as_list (view c.args.value.now) = search rules in
    burst_is (view c.args.value.now) (map view c.in_ok-rows.rows.now) true is
    (list_all-map is_list view c.in_ok-rows.rows.now ∙ sym c.are_lists.ensures ∙ c.if-are_lists.true)

pub returns-else-are_lists : goal.returns-else-are_lists
returns-else-are_lists c =
    let is : Some (map view c.in_ok-rows.rows.now) ≡ as_list (view c.args.value.now) = search rules in
    burst_is (view c.args.value.now) (map view c.in_ok-rows.rows.now) false is
    (list_all-map is_list view c.in_ok-rows.rows.now ∙ sym c.are_lists.ensures ∙ c.if-are_lists.false)
