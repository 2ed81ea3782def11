-- Nodes of a well-formed tree mean nodes that are resolved.
use Rattle.std.proofs.Common.{arith, sym, subst, ℕ, ◌+◌, ◌<◌, List, [], ◌∷◌, length, map, IsTrue}
use Rattle.std.proofs.Math.ListN.{length-map}
use Rattle.std.proofs.lemmas.Bool.{ltb-true}
use Rattle.std.specs.List.{list_all}
use Rattle.lus_values.specs.Lists.{Each}
use Rattle.lus_values.proofs.Lists.{below_all}
use Rattle.lus_syntax.specs.Trees as tree
use Rattle.lus_syntax.specs.Trees.{Tree}
use Rattle.lus_program.specs.Programs.{calls}
use Rattle.lus_values.proofs.Equalities.{and_left, and_right}
use Rattle.lus_source.specs.Scopes.{Scope}
use Rattle.lus_source.specs.Tables.{groups, scope}
use Rattle.lus_source.specs.Named.{known, has_left, NodeNamed}
use Rattle.lus_source.specs.Refusals.{WellFormed}
use Rattle.lus_source.specs.WellTyped.{NodeTyped}
use Rattle.lus_source.specs.Meaning.{variable_place, meant, equations_meant, node_meant, program_of}
use Rattle.lus_program.specs.Resolved.{AreNumbered, IsDefined, NodeResolved}
use Rattle.lus_program.proofs.Numbering.{calls-numbered, numbered-numbered}
use Rattle.lus_types.proofs.Scoped.{formals_are}
use Rattle.lus_types.proofs.Lefts.{targets_within, is_defined}

equations_numbered : (s : Scope) (n : ℕ) (qs : List tree.Equation) → AreNumbered n (equations_meant s n qs)
equations_numbered s n [] = tt
equations_numbered s n (q ∷ qs) =
    let e = meant s q.right in
    (numbered-numbered e n n, subst (λ k. AreNumbered (n + k) (equations_meant s (n + calls e) qs)) (sym (calls-numbered e n)) (equations_numbered s (n + calls e) qs))

lefts_some : (s : Scope) (n : ℕ) (qs : List tree.Equation) → IsTrue (list_all has_left qs) → Each (λ q. 0 < length q.targets) (equations_meant s n qs)
lefts_some s n [] h = tt
lefts_some s n (q ∷ qs) h =
    let some = ltb-true 0 (length q.left) (and_left (has_left q) (list_all has_left qs) h) in
    let size = length-map q.left (λ (x : tree.Named). variable_place s x.text) in
    (omega (arith, some, size), lefts_some s (n + calls (meant s q.right)) qs (and_right (has_left q) (list_all has_left qs) h))

node_resolved : (p : Tree) (f : tree.Node) → NodeNamed (known p (groups f)) f → NodeTyped p f → NodeResolved (program_of p) (node_meant p f)
node_resolved p f named typed = record {
  formals = formals_are p f;
  variables = typed.variables;
  targets = targets_within p f named;
  defined = below_all (IsDefined (node_meant p f)) (length (node_meant p f).variables) (is_defined p f named);
  lefts = lefts_some (scope p f) 0 f.equations named.left_some;
  equations = typed.equations;
  numbered = equations_numbered (scope p f) 0 f.equations;
}

nodes_resolved : (p : Tree) (fs : List tree.Node) → Each (λ f. NodeNamed (known p (groups f)) f) fs → Each (NodeTyped p) fs → Each (NodeResolved (program_of p)) (map (node_meant p) fs)
nodes_resolved p [] named typed = tt
nodes_resolved p (f ∷ fs) named typed = (node_resolved p f named.0 typed.0, nodes_resolved p fs named.1 typed.1)

pub meant_nodes_resolved : (p : Tree) → WellFormed p → Each (NodeResolved (program_of p)) (program_of p).nodes
meant_nodes_resolved p formed = nodes_resolved p p.nodes formed.named.each formed.typed.nodes
