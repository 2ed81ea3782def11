-- What the scope of a node says of types is alike to what the node and its program mean.
use Rattle.std.proofs.Common.{arith, ◌≡◌, ◌∙◌, refl, sym, ap, ap₂, ℕ, suc, ◌+◌, ◌≤◌, List, [], ◌∷◌, ◌++◌, length, map, length-append}
use Rattle.std.proofs.Math.ListN.{length-map}
use Rattle.std.proofs.lemmas.Grind.{flat_map-append}
use Rattle.std.proofs.lemmas.List.{map-append}
use Rattle.std.proofs.lemmas.Simd.{map-map}
use Rattle.std.specs.Prelude.{flat_map, option_map}
use Rattle.lus_syntax.specs.Lexemes.{Text}
use Rattle.lus_syntax.specs.Trees as tree
use Rattle.lus_syntax.specs.Trees.{Group, Named, Tree}
use Rattle.lus_program.specs.declared.types.Kind.{Kind}
use Rattle.lus_program.specs.Programs.{Variable, Node}
use Rattle.lus_source.specs.Heads.{of_kind, head_of, heads, head}
use Rattle.lus_source.specs.Scopes.{Scope, Signature}
use Rattle.lus_source.specs.Tables.{numbered_from, placed_from, each_of, group_kinds, groups, kind_named, signature, scope}
use Rattle.lus_source.specs.Meaning.{test_meant, variables_of, node_meant, program_of}
use Rattle.lus_program.proofs.Alike.{AreAlike, taken_and_given}
use Rattle.lus_types.proofs.Meant.{HasKinds, inputs_are, outputs_are, head_has}

abbrev kinds_of : List Variable → List Kind
kinds_of vs = map (λ v. v.kind) vs

module _ {f : Node} {is os ls : List Kind} (has : HasKinds f is os ls) where
  both_are : taken_and_given f ≡ (is, os)
  both_are = λ i. (inputs_are has i, outputs_are has i)

  formals_fit : f.inputs + f.outputs ≤ length f.variables
  formals_fit =
      let all = sym (length-map f.variables (λ v. v.kind)) ∙ ap length has.variables in
      omega (arith, all, has.inputs, has.outputs, length-append is (os ++ ls), length-append os ls)

placed_kinds : (n : ℕ) (xs : List (Text × Kind)) → kinds_of (map (λ e. of_kind e.1.kind) (placed_from n xs)) ≡ map (λ e. e.1) xs
placed_kinds n [] = refl
placed_kinds n (x ∷ xs) = ap (λ ks. x.1 ∷ ks) (placed_kinds (suc n) xs)

-- what is said of each variable of groups
said_of_each : {X Y : Type 0} (said : X → Y) (thing : Group → Named → X) (gs : List Group) → map said (flat_map (λ g. map (thing g) g.names) gs) ≡ flat_map (λ g. map (λ n. said (thing g n)) g.names) gs
said_of_each said thing [] = refl
said_of_each said thing (g ∷ gs) = map-append said (map (thing g) g.names) (flat_map (λ h. map (thing h) h.names) gs) ∙ ap₂ ◌++◌ (map-map said (thing g) g.names) (said_of_each said thing gs)

abbrev pub variable_meant : Tree → Scope → Group → Named → Variable
variable_meant p s g n = record { name = n.text; kind = kind_named p g.type_name; test = option_map (test_meant s) g.test }

module _ (p : Tree) where
  -- the types of the variables that groups declare
  abbrev kinds_declared : List Group → List Kind
  kinds_declared gs = map (λ e. e.1) (group_kinds p gs)

  variable_kinds : (s : Scope) (gs : List Group) → kinds_of (flat_map (variables_of p s) gs) ≡ kinds_declared gs
  variable_kinds s gs =
      said_of_each (λ (v : Variable). v.kind) (variable_meant p s) gs
      ∙ sym (said_of_each (λ (e : Text × Kind). e.1) (λ g n. (n.text, kind_named p g.type_name)) gs)

  kinds_apart : (gs hs : List Group) → kinds_declared (gs ++ hs) ≡ kinds_declared gs ++ kinds_declared hs
  kinds_apart gs hs = ap (map (λ e. e.1)) (flat_map-append (λ g. each_of g.names (kind_named p g.type_name)) gs hs) ∙ map-append (λ e. e.1) (group_kinds p gs) (group_kinds p hs)

  module _ (f : tree.Node) where
    node_has : HasKinds (node_meant p f) (kinds_declared f.inputs) (kinds_declared f.outputs) (kinds_declared f.locals)
    node_has = record {
      inputs = sym (length-map (group_kinds p f.inputs) (λ e. e.1));
      outputs = sym (length-map (group_kinds p f.outputs) (λ e. e.1));
      variables = variable_kinds (scope p f) (groups f) ∙ kinds_apart f.inputs (f.outputs ++ f.locals) ∙ ap (λ ks. kinds_declared f.inputs ++ ks) (kinds_apart f.outputs f.locals);
    }

    pub formals_are : (node_meant p f).inputs + (node_meant p f).outputs ≤ length (node_meant p f).variables
    formals_are = formals_fit node_has

  nodes_alike : (n : ℕ) (fs : List tree.Node)
      → map taken_and_given (map (λ (e : Text × Signature). head_of e.1) (map (λ (e : tree.Node × ℕ). (e.0.name.text, signature p e.0 e.1)) (numbered_from n fs))) ≡ map taken_and_given (map (node_meant p) fs)
  nodes_alike n [] = refl
  nodes_alike n (f ∷ fs) = ap₂ ◌∷◌ (both_are (head_has (signature p f n)) ∙ sym (both_are (node_has f))) (nodes_alike (suc n) fs)

  pub scope_alike : (f : tree.Node) → AreAlike (heads (scope p f)) (program_of p) (head (scope p f)) (node_meant p f)
  scope_alike f = record {
    types = refl;
    nodes = nodes_alike 0 p.nodes;
    variables = placed_kinds 0 (group_kinds p (groups f)) ∙ sym (variable_kinds (scope p f) (groups f));
  }
