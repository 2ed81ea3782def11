-- A name is new exactly where it stands nowhere in the table.
use Rattle.std.proofs.Common.{rules, ◌≡◌, ◌∙◌, ap, sym, string_bytes, true, false, Bool, not, refl}
use Rattle.std.specs.List.{list_any}
use Rattle.std.specs.Str.{bytes_eq}
use Rattle.lus_scripts.proofs.Lists.{list_any-map}
use Rattle.lus_scripts.proofs.names.declare.Goals as goal

when_new : (added stands : Bool) → added ≡ not stands → added ≡ true → stands ≡ false
when_new added true said is = sym is ∙ said
when_new added false said is = refl

when_known : (added stands : Bool) → added ≡ not stands → added ≡ false → stands ≡ true
when_known added true said is = refl
when_known added false said is = sym is ∙ said

pub returns-then-is_new-clause-fresh : goal.returns-then-is_new-clause-fresh
returns-then-is_new-clause-fresh c =
    let names = c.args.table.now.keys in
    let text : string_bytes c.in_ok-from_str.field-0 ≡ c.args.name.now = search rules in
    list_any-map (bytes_eq c.args.name.now) string_bytes names
    ∙ ap (λ t. list_any (λ n. bytes_eq t (string_bytes n)) names) (sym text)
    ∙ when_new _ _ c.in_ok-is_new.ensures.added c.if-is_new.true

pub returns-else-is_new-clause-double : goal.returns-else-is_new-clause-double
returns-else-is_new-clause-double c = λ same.
    let names = c.args.table.now.keys in
    let text : string_bytes c.in_ok-from_str.field-0 ≡ c.args.name.now = search rules in
    list_any-map (bytes_eq c.args.name.now) string_bytes names
    ∙ ap (λ t. list_any (λ n. bytes_eq t (string_bytes n)) names) (sym text)
    ∙ when_known _ _ c.in_ok-is_new.ensures.added c.if-is_new.false
