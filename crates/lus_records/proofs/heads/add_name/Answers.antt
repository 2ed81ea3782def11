-- A name is new exactly where it stands nowhere in the table.
use Rattle.std.proofs.Common.{rules, ◌≡◌, ◌∙◌, ap, sym, string_bytes, not}
use Rattle.std.specs.List.{list_any}
use Rattle.std.specs.Str.{bytes_eq}
use Rattle.lus_scripts.proofs.Lists.{list_any-map}
use Rattle.lus_records.proofs.heads.add_name.Goals as goal

pub returns-clause-new : goal.returns-clause-new
returns-clause-new c =
    let names = c.args.table.now.keys in
    let text : string_bytes c.in_ok-from_str.field-0 ≡ c.args.name.now = search rules in
    c.in_ok-is_new.ensures.added
    ∙ ap not (ap (λ t. list_any (λ n. bytes_eq t (string_bytes n)) names) text ∙ sym (list_any-map (bytes_eq c.args.name.now) string_bytes names))
