-- The tree of a vector of parts is that of their list.
use Rattle.std.proofs.Common.{ap, ◌∙◌}
use Rattle.lus_syntax.specs.View.{expression_seen}
use Rattle.lus_syntax.proofs.TreeViews.{seen_variadic}
use Rattle.lus_grammar.proofs.trees.variadic.Goals as goal

pub returns : goal.returns
returns c = ap expression_seen c.in_ok-new.ensures.ok ∙ seen_variadic c.args.operator c.args.span c.args.operands
