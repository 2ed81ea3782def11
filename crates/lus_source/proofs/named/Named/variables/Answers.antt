use Rattle.std.proofs.Common.{◌∙◌, ap, get_or}
use Rattle.lus_syntax.specs.View.{tree_seen}
use Rattle.lus_syntax.specs.Trees.{Node}
use Rattle.std.proofs.lemmas.List.{get_or-map}
use Rattle.lus_source.specs.Named.{names_in}
use Rattle.lus_source.specs.Tables.{groups, no_node}
use Rattle.lus_source.proofs.named.Named.variables.Goals as goal

pub returns : goal.returns
returns c =
    let nodes = (tree_seen c.args.self.now).nodes in
    let own = λ (f : Node). names_in (groups f) in
    let all = rw c.self.view_is at c.self.invariant.variables_are in
    c.index.ensures ∙ ap (λ vs. get_or vs c.args.node c.index.result.now) all ∙ get_or-map own nodes c.args.node no_node c.index.result.now c.requires
