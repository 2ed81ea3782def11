-- What an object has behind its first brace, and the spelling of a node.
use Rattle.std.proofs.Common.{◌≡◌, ◌≢◌, ◌==◌, ◌∙◌, ◌++◌, ℕ, Bool, true, false, cond, ap, refl, sym, List, [], ◌∷◌, drop, codes, true-eqb}
use Rattle.lus_values.specs.Names.{Names, Text}
use Rattle.lus_program.specs.Programs.{Program, Variable, node_at}
use Rattle.lus_hosting.specs.LiveSpecs.MachineSpecs.Constructors.{names_of}
use Rattle.lus_hosting.specs.LiveSpecs.MachineSpecs.Formals.{outputs_of}
use Rattle.lus_many.specs.Objects.{json_spelling, members_of, node_spelling}

-- a brace was found in front
pub behind_brace : (object members : Text) (n : ℕ) → object ≡ codes "{" ++ drop n object → members ≡ drop n object → members ≡ members_of object
behind_brace object members n begins rest = rest ∙ sym (ap members_of begins)

-- none is there
pub no_brace : (object : Text) → ((rest : Text) → object ≢ codes "{" ++ rest) → object ≡ members_of object
no_brace [] none = refl
no_brace (b ∷ bs) none = go (b == 123) refl
  where
    go : (is : Bool) → (b == 123) ≡ is → b ∷ bs ≡ cond is bs (b ∷ bs)
    go true is = absurd (none bs (ap (λ x. x ∷ bs) (true-eqb b 123 (sym is))))
    go false is = refl

-- the program, its names and the outputs of the node as the code has them
pub spelled_so : (p q : Program) (names : Names) (f : ℕ) (outputs : List Variable) → q ≡ p → names ≡ names_of p → outputs ≡ outputs_of (node_at p f)
    → json_spelling q names outputs ≡ node_spelling p f
spelled_so p q names f outputs same named those =
    ap (λ r. json_spelling r names outputs) same ∙ ap (λ ns. json_spelling p ns outputs) named ∙ ap (λ os. json_spelling p (names_of p) os) those
