use Rattle.std.proofs.Common.{◌≡◌, map, drop}
use Rattle.lus_program.specs.View.{node_of}
use Rattle.lus_translation.specs.Firsts.{with_all}
use Rattle.lus_translation.specs.Forms.{flags_of, marked}
use Rattle.lus_translation.specs.Newest.{newest}
use Rattle.lus_translation.proofs.firsts.firsts_of.Given as goal

abbrev pub invariant-loop-equation : goal.invariant-loop-equation
invariant-loop-equation l =
    let f = node_of l.node in
    with_all l.firsts (map newest (marked f (drop l.equation-index l.node.equations.items))) ≡ flags_of f l.node.equations.items
