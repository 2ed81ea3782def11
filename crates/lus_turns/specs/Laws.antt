-- The class that is made of a node belongs to it.
use Rattle.std.specs.Prelude.{◌≡◌, List}
use Rattle.lus_program.specs.declared.node.Equation.{Equation as StoredEquation}
use Rattle.lus_program.specs.Programs.{Node, Program}
use Rattle.lus_program.specs.View.{equations_from}
use Rattle.lus_classes.specs.ClassesOf.{IsClassOf}
use Rattle.lus_translation.specs.Forms.{Turn, class_form, numbers_form}
use Rattle.lus_normal_form.specs.Ready.{IsReady, IsDefined}
use Rattle.lus_translation.specs.Orders.{AreTurns}

-- the class whose equations have turns in a causal order belongs to the node
abbrev pub ClassesBelong : Type 0
ClassesBelong =
    (p : Program) (f : Node) → IsReady p f → IsDefined p f → (qs : List StoredEquation) → f.equations ≡ equations_from 0 qs → (ts : List Turn) → AreTurns p f ts
    → IsClassOf p f (class_form p f qs (numbers_form 0 qs) ts)
