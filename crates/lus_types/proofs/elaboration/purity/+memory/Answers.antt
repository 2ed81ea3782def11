use Rattle.std.proofs.Common.{rules, arith, ◌∙◌, ap}
use Rattle.std.proofs.lemmas.Grind.{common_steps}
use Rattle.lus_syntax.specs.View.{expression_seen}
use Rattle.lus_syntax.proofs.TreeViews.{seen_call, seen_structure, seen_merge, seen_variadic}
use Rattle.lus_types.proofs.elaboration.purity.+memory.Goals as goal

pub memory-returns-then-calls_function : goal.memory-returns-then-calls_function
memory-returns-then-calls_function t c =
    rw (ap expression_seen c.in-Call.is ∙ seen_call c.in-Call.name c.in-Call.arguments) (search rules)

pub memory-returns-in-Structure : goal.memory-returns-in-Structure
memory-returns-in-Structure t c =
    rw (ap expression_seen c.in-Structure.is ∙ seen_structure c.in-Structure.field-0 c.in-Structure.fields) (search rules)

pub memory-returns-in-Merge : goal.memory-returns-in-Merge
memory-returns-in-Merge t c =
    rw (ap expression_seen c.in-Merge.is ∙ seen_merge c.in-Merge.field-0 c.in-Merge.field-1 c.in-Merge.branches) (search rules)

pub memory-returns-in-Variadic : goal.memory-returns-in-Variadic
memory-returns-in-Variadic t c =
    rw (ap expression_seen c.in-Variadic.is ∙ seen_variadic c.in-Variadic.field-0 c.in-Variadic.field-1 c.in-Variadic.operands) (search rules)

pub memory_in-returns-in-Some : goal.memory_in-returns-in-Some
memory_in-returns-in-Some t c = grind (arith, common_steps)

pub memory_in-loop-part-preserved : goal.memory_in-loop-part-preserved
memory_in-loop-part-preserved t c = grind (arith, common_steps)

pub memory_in-returns : goal.memory_in-returns
memory_in-returns t c = grind (arith, common_steps)
