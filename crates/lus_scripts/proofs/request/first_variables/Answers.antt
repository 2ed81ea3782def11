-- The inputs are the first variables of the node.
use Rattle.std.proofs.Common.{◌≡◌, length, min, rules}
use Rattle.lus_program.specs.View.{variable_of}
use Rattle.lus_scripts.proofs.RequestLists.{first_mapped}
use Rattle.lus_scripts.proofs.request.first_variables.Goals as goal

pub returns : goal.returns
returns c =
    let n = c.args.node.now.inputs in
    let vs = c.args.node.now.variables.items in
    let least : c.min-inputs.result ≡ min n (length vs) = search rules in
    first_mapped variable_of n _ vs _ least c.deref.ensures.value
