-- Calls are numbered alike in the equations of the code and in those that are meant.
use Rattle.std.proofs.Common.{◌≡◌, ◌∙◌, refl, ap, ap₂, ℕ, ◌+◌, List, [], ◌∷◌, map}
use Rattle.lus_syntax.specs.Trees as tree
use Rattle.lus_program.specs.declared.node.Equation.{Equation as StoredEquation}
use Rattle.lus_program.specs.Programs.{calls, numbered, Equation}
use Rattle.lus_program.specs.View.{expression_of, equations_from}
use Rattle.lus_source.specs.Scopes.{Scope}
use Rattle.lus_source.specs.Meaning.{equations_meant, meant, targets_meant}

abbrev pub unnumbered : StoredEquation → Equation
unnumbered q = record { targets = q.targets.items; right = expression_of q.right }

abbrev pub unnumbered_meant : Scope → tree.Equation → Equation
unnumbered_meant s q = record { targets = targets_meant s q.left; right = meant s q.right }

pub equations_are_meant : (s : Scope) (n : ℕ) (stored : List StoredEquation) (qs : List tree.Equation) → map unnumbered stored ≡ map (unnumbered_meant s) qs → equations_from n stored ≡ equations_meant s n qs
equations_are_meant s n [] [] e = refl
equations_are_meant s n [] (q ∷ qs) e = cc
equations_are_meant s n (r ∷ stored) [] e = cc
equations_are_meant s n (r ∷ stored) (q ∷ qs) e =
    let first : unnumbered r ≡ unnumbered_meant s q = cc in
    let rest : map unnumbered stored ≡ map (unnumbered_meant s) qs = cc in
    ap₂ ◌∷◌ (ap (λ (x : Equation). let y : Equation = record { targets = x.targets; right = numbered n x.right } in y) first)
    (ap (λ (x : Equation). equations_from (n + calls x.right) stored) first ∙ equations_are_meant s (n + calls (meant s q.right)) stored qs rest)
