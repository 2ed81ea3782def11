-- The tree of a vector of parts is that of their list.
use Rattle.std.proofs.Common.{ap, sym, ◌∙◌}
use Rattle.lus_syntax.specs.View.{expression_seen}
use Rattle.lus_syntax.proofs.TreeViews.{seen_structure}
use Rattle.lus_grammar.proofs.trees.structure.Goals as goal

pub returns : goal.returns
returns c = rw (sym c.in_ok-name.ensures.ok) (ap expression_seen c.in_ok-new.ensures.ok ∙ seen_structure c.in_ok-name.name c.args.fields)
