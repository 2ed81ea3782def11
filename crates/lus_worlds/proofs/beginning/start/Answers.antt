-- The calls of a resolved program are no deeper than it has nodes.
use Rattle.std.proofs.Common.{◌≡◌, ◌∙◌, [], length, sym}
use Rattle.std.proofs.lemmas.List.{length-map}
use Rattle.std.proofs.lemmas.Result.{IfOk-weaker}
use Rattle.lus_program.specs.View.{node_of, program_seen}
use Rattle.lus_worlds.specs.Moments.{KeepsBehind}
use Rattle.lus_worlds.proofs.Depths.{started}
use Rattle.lus_worlds.proofs.beginning.start.Goals as goal

pub returns : goal.returns
returns c =
    let p = program_seen c.args.program.now in
    let f = c.args.number in
    let size : c.len.result ≡ length p.nodes = c.len.ensures ∙ c.args.program.now.nodes.ok.0 ∙ sym (length-map c.args.program.now.nodes.items node_of) in
    IfOk-weaker c.start_within.result _ _ (λ o. started p c.len.result f (λ m. KeepsBehind p m f []) o size) c.start_within.ensures
