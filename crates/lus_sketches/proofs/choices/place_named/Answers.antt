-- A variable is found among those of the code where it is found in the node.
use Rattle.std.proofs.Common.{◌∙◌, sym}
use Rattle.std.specs.Str.{bytes_eq}
use Rattle.lus_program.specs.View.{variable_of}
use Rattle.lus_sketches.proofs.Chosen.{position-map}
use Rattle.lus_sketches.proofs.choices.place_named.Goals as goal

pub returns : goal.returns
returns c = c.place_among.ensures ∙ sym (position-map (λ v. bytes_eq v.name c.args.name.now) variable_of c.args.variables.now)
