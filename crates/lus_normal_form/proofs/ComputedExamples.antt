-- The normal form of a small node.
use Rattle.std.proofs.Common.{◌≡◌, [], ◌∷◌, refl}
use Rattle.lus_values.specs.declared.operator.Op.TheVariants as ops
use Rattle.lus_values.specs.declared.operator.Operator.TheVariants as operators
use Rattle.lus_values.specs.Values.{nil}
use Rattle.lus_program.specs.Programs.{Expression, literal, variable, operate, pre, call, none, more}
use Rattle.lus_normal_form.specs.Forms.{normal_equations}

abbrev sum : Expression → Expression → Expression
sum a b = operate (operators.Compute ops.Add) (more a (more b none))

abbrev f : Expression
f = call 0 0 (more (variable 0) none)

abbrev g : Expression
g = call 1 1 (more (variable 1) none)

-- of `x2 = pre (nil + f(x0)) + g(x1)`, x3 being the first new variable: f comes before g
in_order : normal_equations 3 (record { targets = 2 ∷ []; right = sum (pre (sum (literal nil) f)) g } ∷ [])
    ≡ record { targets = 2 ∷ []; right = sum (pre (variable 3)) (variable 5) }
    ∷ record { targets = 3 ∷ []; right = sum (literal nil) (variable 4) }
    ∷ record { targets = 4 ∷ []; right = f }
    ∷ record { targets = 5 ∷ []; right = g }
    ∷ []
in_order = refl
