-- Small nodes at instants at which something in their text is at fault.
use Rattle.std.proofs.Common.{ℕ, true, false, [], ◌∷◌, None, refl, rules, arith}
use Rattle.lus_values.specs.declared.operator.Op.TheVariants.{Divide}
use Rattle.lus_values.specs.declared.operator.Operator.TheVariants.{Compute}
use Rattle.lus_program.specs.Programs.{Expression, variable, operate, pre, call, Node, Program}
use Rattle.lus_streams.specs.Clocks.{at}
use Rattle.lus_streams.specs.Streams.{Instant, instant, nobody, also, World, Streams}
use Rattle.lus_streams.proofs.Examples.{plain, equation, node, program, one, two, number, some, truth, at_base, divided_early, divided_by_past, divided_by_past_at, nil_divides_without_fault}
use Rattle.lus_attempts.specs.Attempts.{Tries, FaultAt}
use Rattle.lus_attempts.proofs.WithoutFault.{faults_end}

-- 10 div x
abbrev tenth : ℕ → Expression
tenth x = operate (Compute Divide) (two (number 10) (variable x))

-- y = (10 div x) when c, at x = 0 and c = false: y is absent, and the operand of `when` is at fault
abbrev divided_early_at : Instant
divided_early_at = at_base (some 0 ∷ truth false ∷ None ∷ [])

absent_tenth : Tries (program (divided_early ∷ [])) 0 (some 0 ∷ truth false ∷ []) divided_early_at []
absent_tenth = search rules

absent_tenth_faults : FaultAt (program (divided_early ∷ [])) [] (at [] (tenth 0)) 0 divided_early_at []
absent_tenth_faults = ((1, omega arith, refl), (refl, refl))

-- y = 10 div x, called by z = y(x), at x = 0: the fault stands in the called node, and z has no value
abbrev divided : Node
divided = node 1 1 (plain ∷ plain ∷ []) (equation 1 (tenth 0) ∷ [])

abbrev divided_by_call : Node
divided_by_call = node 1 1 (plain ∷ plain ∷ []) (equation 1 (call 0 0 (one (variable 0))) ∷ [])

abbrev both : Program
both = program (divided ∷ divided_by_call ∷ [])

abbrev divided_by_call_at : Instant
divided_by_call_at = instant true (some 0 ∷ None ∷ []) (also (at_base (some 0 ∷ None ∷ [])) nobody)

called_tenth : Tries both 1 (some 0 ∷ []) divided_by_call_at []
called_tenth = search rules

called_tenth_faults : FaultAt both (0 ∷ []) (at [] (tenth 0)) 1 divided_by_call_at []
called_tenth_faults = (record { node = 0; number = 0; args = one (variable 0); base = [] }, (0, omega arith, refl), refl, ((0, omega arith, refl), (refl, refl)))

-- z = copied(10 div x) of a node that copies, at x = 0: the argument is at fault, and the called node's input is absent
abbrev copied : Node
copied = node 1 1 (plain ∷ plain ∷ []) (equation 1 (variable 0) ∷ [])

abbrev divided_argument : Node
divided_argument = node 1 1 (plain ∷ plain ∷ []) (equation 1 (call 0 0 (one (tenth 0))) ∷ [])

abbrev with_argument : Program
with_argument = program (copied ∷ divided_argument ∷ [])

abbrev divided_argument_at : Instant
divided_argument_at = instant true (some 0 ∷ None ∷ []) (also (at_base (None ∷ None ∷ [])) nobody)

argument_tenth : Tries with_argument 1 (some 0 ∷ []) divided_argument_at []
argument_tenth = search rules

argument_tenth_faults : FaultAt with_argument [] (at [] (tenth 0)) 1 divided_argument_at []
argument_tenth_faults = ((1, omega arith, refl), (refl, refl))

-- y = 1 -> 10 div pre x, after x = 0: no streams go on
abbrev divided_by_past_fault : Instant
divided_by_past_fault = at_base (some 0 ∷ None ∷ [])

past_division_ends : (w : World) → Streams (program (divided_by_past ∷ [])) 0 ((some 0 ∷ []) ∷ (some 0 ∷ []) ∷ []) w → ⊥
past_division_ends =
    let p = program (divided_by_past ∷ []) in
    let division : Expression = operate (Compute Divide) (two (number 10) (pre (variable 0))) in
    faults_end p ((1 ∷ 0 ∷ [], search rules), tt) (search rules) 0 ((some 0 ∷ []) ∷ []) (divided_by_past_at 0 1 ∷ []) (some 0 ∷ []) divided_by_past_fault [] (at [] division)
    nil_divides_without_fault (search rules) ((2, omega arith, refl), (refl, refl))
