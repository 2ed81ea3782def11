-- What is typed by what the names in a node's text stand for is typed as its node and its program are meant, and the other way round.
use Rattle.std.proofs.Common.{◌≡◌, ◌↔◌, ◌∙◌, ◌&&◌, refl, sym, ap, subst, ℕ, ◌+◌, Bool, List, [], ◌∷◌, Option, Some, None, map, flat_map, IsTrue}
use Rattle.std.proofs.lemmas.List.Folds.{list_all-append}
use Rattle.std.specs.Prelude.{option_map}
use Rattle.std.specs.List.{list_all}
use Rattle.lus_syntax.specs.Trees as tree
use Rattle.lus_syntax.specs.Trees.{Group, Tree}
use Rattle.lus_values.specs.Lists.{Each}
use Rattle.lus_values.proofs.Equalities.{and_left, and_right, and_true}
use Rattle.lus_values.specs.declared.test.Test.{Test}
use Rattle.lus_program.specs.Programs.{Node, calls}
use Rattle.lus_source.specs.Heads.{heads, head}
use Rattle.lus_source.specs.Scopes.{Scope}
use Rattle.lus_source.specs.Tables.{groups, scope}
use Rattle.lus_source.specs.Meaning.{meant, targets_meant, equations_meant, node_meant, program_of}
use Rattle.lus_source.specs.WellTyped.{NodeTyped}
use Rattle.lus_program.specs.Resolved.{kind_of_variable, test_fits, VariableFits, EquationFits}
use Rattle.lus_program.proofs.Alike.{equations_alike, variables_alike}
use Rattle.lus_program.proofs.Numbering.{given-numbered}
use Rattle.lus_types.specs.Wholes.{EquationTyped}
use Rattle.lus_types.specs.ByScope.{variables_in, maybe_fits, group_fits, IsTypedIn}
use Rattle.lus_types.proofs.Scoped.{scope_alike}
use Rattle.lus_types.proofs.TablesMeant.{variables_are}

-- tests of each

tell_each : {X : Type 0} (test : X → Bool) (P : X → Type 0) → ((x : X) → IsTrue (test x) ↔ P x) → (xs : List X) → IsTrue (list_all test xs) ↔ Each P xs
tell_each test P tell [] = (λ h. tt, λ h. refl)
tell_each test P tell (x ∷ xs) =
    let rest = tell_each test P tell xs in
    (λ h. ((tell x).0 (and_left (test x) (list_all test xs) h), rest.0 (and_right (test x) (list_all test xs) h)), λ h. and_true (test x) (list_all test xs) ((tell x).1 h.0) (rest.1 h.1))

all_in_groups : {X : Type 0} (test : X → Bool) (things : Group → List X) (gs : List Group) → list_all (λ g. list_all test (things g)) gs ≡ list_all test (flat_map things gs)
all_in_groups test things [] = refl
all_in_groups test things (g ∷ gs) = ap (λ b. list_all test (things g) && b) (all_in_groups test things gs) ∙ sym (list_all-append test (things g) (flat_map things gs))

module _ (s : Scope) where
  abbrev MaybeFits : Option Test → Type 0
  MaybeFits o = elim o [ None ↦ Unit {0} | Some t ↦ IsTrue (test_fits (heads s) (head s) t) ]

  test_tells : (o : Option Test) → IsTrue (maybe_fits s o) ↔ MaybeFits o
  test_tells None = (λ h. tt, λ h. refl)
  test_tells (Some t) = (λ h. h, λ h. h)

  groups_tell : (gs : List Group) → IsTrue (list_all (group_fits s) gs) ↔ Each (VariableFits (heads s) (head s)) (flat_map (variables_in s) gs)
  groups_tell gs = rw (all_in_groups (λ v. maybe_fits s v.test) (variables_in s) gs) (tell_each (λ v. maybe_fits s v.test) (VariableFits (heads s) (head s)) (λ v. test_tells v.test) (flat_map (variables_in s) gs))

  -- equations, whose calls are numbered
  equations_fit : (n : ℕ) (qs : List tree.Equation) → Each (EquationFits (heads s) (head s)) (equations_meant s n qs) ≡ Each (EquationTyped s) qs
  equations_fit n [] = refl
  equations_fit n (q ∷ qs) = λ i.
      (option_map (map Some) (given-numbered (heads s) (head s) (meant s q.right) n i) ≡ Some (map (kind_of_variable (heads s) (head s)) (targets_meant s q.left))) × equations_fit (n + calls (meant s q.right)) qs i

module _ (p : Tree) (f : tree.Node) where
  abbrev s : Scope
  s = scope p f

  abbrev g : Node
  g = node_meant p f

  variables_typed : Each (VariableFits (heads s) (head s)) (flat_map (variables_in s) (groups f)) ≡ Each (VariableFits (program_of p) g) g.variables
  variables_typed = λ i. Each (variables_alike (heads s) (program_of p) (head s) g (scope_alike p f) i) (variables_are p f (groups f) i)

  equations_typed : Each (EquationTyped s) f.equations ≡ Each (EquationFits (program_of p) g) g.equations
  equations_typed = sym (equations_fit s 0 f.equations) ∙ (λ i. Each (equations_alike (heads s) (program_of p) (head s) g (scope_alike p f) i) g.equations)

  pub node_typed : IsTypedIn s f → NodeTyped p f
  node_typed h = record {
    variables = subst (λ (X : Type 0). X) variables_typed ((groups_tell s (groups f)).0 h.tests);
    equations = subst (λ (X : Type 0). X) equations_typed h.equations;
    memory = h.memory;
  }

  pub typed_node : NodeTyped p f → IsTypedIn s f
  typed_node h = record {
    tests = (groups_tell s (groups f)).1 (subst (λ (X : Type 0). X) (sym variables_typed) h.variables);
    equations = subst (λ (X : Type 0). X) (sym equations_typed) h.equations;
    memory = h.memory;
  }
