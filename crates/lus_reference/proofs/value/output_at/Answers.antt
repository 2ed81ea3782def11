-- The output stands behind the inputs of the row.
use Rattle.std.proofs.Common.{◌≡◌, ◌∙◌, [], sym, ap, subst, drop, map, Option, None, IfOk, arith, rules}
use Rattle.std.proofs.lemmas.Grind.{common_steps}
use Rattle.lus_values.specs.Lists.{item}
use Rattle.lus_values.specs.Values.{Value}
use Rattle.lus_values.specs.View.{entry_of}
use Rattle.lus_program.specs.View.{program_seen}
use Rattle.lus_reference.specs.Made.{output_in}
use Rattle.lus_reference.proofs.Drops.{dropped_map}
use Rattle.lus_reference.proofs.value.output_at.Goals as goal

pub returns-in-Some : goal.returns-in-Some
returns-in-Some c =
    let p = program_seen c.args.program.now in
    let n = c.args.place in
    let rows = c.args.rows.now in
    let there : item [] rows c.args.number ≡ c.in-Some.row.now = first_of (search rules, grind (arith, common_steps)) in
    let behind = ap (map entry_of) c.entries_from.ensures ∙ dropped_map entry_of c.inputs_at-inputs.result c.items.result.now in
    let first = c.items.ensures ∙ sym there in
    let whole : item None (map entry_of c.entries_from.result.now) n ≡ output_in p rows c.args.called c.args.number n = ap (λ l. item None l n) behind ∙ (λ j. item None (drop (c.inputs_at-inputs.ensures j) (first j)) n) in
    subst (λ (o : Option Value). IfOk c.entry_at.result (λ v. entry_of v ≡ o)) whole c.entry_at.ensures
