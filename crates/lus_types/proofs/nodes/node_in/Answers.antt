use Rattle.std.proofs.Common.{rules, ◌≡◌}
use Rattle.std.specs.Prelude.{string_bytes}
use Rattle.lus_types.proofs.nodes.node_in.Goals as goal

pub returns-clause-meant : goal.returns-clause-meant
returns-clause-meant c =
    let name : string_bytes c.in_ok-clone.field-0 ≡ string_bytes c.args.source.now.name.text = search rules in
    let variables = c.in_ok-variables.ensures in
    let equations = rw c.deref.ensures.value at c.in_ok-equations.ensures.meant in
    λ i. record { kind = c.args.source.now.kind; name = name i; inputs = variables.inputs i; outputs = variables.outputs i; variables = variables.meant i; equations = equations i }
