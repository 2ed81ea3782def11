-- A node is found among those of the code where it is found in the program.
use Rattle.std.proofs.Common.{◌∙◌, sym, ap, string_bytes}
use Rattle.std.specs.Prelude.{position}
use Rattle.std.specs.Str.{bytes_eq}
use Rattle.lus_program.specs.View.{node_of}
use Rattle.lus_scripts.proofs.Lists.{position-map}
use Rattle.lus_scripts.proofs.known.node_named.Goals as goal

pub returns : goal.returns
returns c =
    c.place_among.ensures ∙ ap (position (λ f. bytes_eq (string_bytes f.name) c.args.name.now)) c.deref.ensures.value
    ∙ sym (position-map (λ f. bytes_eq f.name c.args.name.now) node_of c.args.program.now.nodes.items)
