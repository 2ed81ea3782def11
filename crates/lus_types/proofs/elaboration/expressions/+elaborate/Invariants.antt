use Rattle.std.proofs.Common.{◌≡◌, ◌+◌, ◌*◌, ◌++◌, drop, take, map, length, max}
use Rattle.std.specs.Prelude.{option_map}
use Rattle.lus_syntax.specs.View.{expression_seen, part_seen}
use Rattle.lus_syntax.specs.Trees.{parts_of}
use Rattle.lus_program.specs.View.{expression_of}
use Rattle.lus_source.specs.Heads.{kinds_by}
use Rattle.lus_source.specs.Meaning.{all_meant, meant}
use Rattle.lus_source.specs.ScopeView.{scope_of}
use Rattle.lus_syntax.specs.declared.tree.Expr.{size-Expr}
use Rattle.lus_types.proofs.elaboration.expressions.+elaborate.Given as goal

abbrev pub decreases-elaborate : goal.decreases-elaborate
decreases-elaborate l = 4 * goal.size-elaborate l

abbrev pub decreases-elaborate_infix : goal.decreases-elaborate_infix
decreases-elaborate_infix l = 4 * max (size-Expr l.left.now) (size-Expr l.right.now) + 1

abbrev pub decreases-elaborate_if : goal.decreases-elaborate_if
decreases-elaborate_if l = 4 * max (size-Expr l.condition.now) (max (size-Expr l.left.now) (size-Expr l.right.now)) + 1

abbrev pub decreases-call : goal.decreases-call
decreases-call l = 4 * goal.size-call l + 3

abbrev pub decreases-whole_call : goal.decreases-whole_call
decreases-whole_call l = 4 * goal.size-whole_call l + 2

abbrev pub decreases-variadic : goal.decreases-variadic
decreases-variadic l = 4 * goal.size-variadic l + 2

abbrev pub decreases-merge : goal.decreases-merge
decreases-merge l = 4 * goal.size-merge l + 2

abbrev pub decreases-structure : goal.decreases-structure
decreases-structure l = 4 * goal.size-structure l + 2

abbrev pub decreases-elaborate_all : goal.decreases-elaborate_all
decreases-elaborate_all l = 4 * goal.size-elaborate_all l + 1

abbrev pub invariant-elaborate_all-loop-part : goal.invariant-elaborate_all-loop-part
invariant-elaborate_all-loop-part l = record {
  typed : kinds_by (scope_of l.scope) (all_meant (scope_of l.scope) (parts_of (map part_seen l.parts))) ≡ option_map (λ ks. l.operands.kinds.items ++ ks) (kinds_by (scope_of l.scope) (all_meant (scope_of l.scope) (parts_of (map part_seen (drop l.part-index l.parts)))));
  meant : map expression_of l.operands.exprs.items ≡ map (λ p. meant (scope_of l.scope) (expression_seen p.value)) (take l.part-index l.parts);
  exprs : length l.operands.exprs.items ≡ l.part-index;
  kinds : length l.operands.kinds.items ≡ l.part-index;
}
