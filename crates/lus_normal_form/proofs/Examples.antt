-- A program and its normal form: what the relation asks of both is met, and so they have the same worlds.
use Rattle.std.proofs.Common.{◌≡◌, ℕ, zero, suc, ◌<◌, List, [], ◌∷◌, None, Contains, refl, rules, inl, inr, arith}
use Rattle.lus_values.specs.declared.operator.Op.TheVariants.{Add, Divide}
use Rattle.lus_values.specs.declared.operator.Operator.TheVariants.{Compute}
use Rattle.lus_program.specs.declared.types.Kind.TheVariants.{Bool as BoolKind}
use Rattle.lus_program.specs.Programs.{Expression, variable, operate, pre, arrow, when, merge, call, Operands, Variable, Node, Program, empty_node}
use Rattle.lus_streams.specs.Clocks.{Part, at}
use Rattle.lus_streams.specs.OnClock.{ProgramOnClocks}
use Rattle.lus_streams.specs.Order.{HasOrder}
use Rattle.lus_streams.specs.Streams.{Streams}
use Rattle.lus_streams.proofs.Examples.{plain, equation, node, program, one, two, number, some, at_base}
use Rattle.lus_graph.specs.Ways.{used, Leads, step, then}
use Rattle.lus_program.specs.Resolved.{NodeResolved, program_uses, Resolved}
use Rattle.lus_normal_form.specs.Named.{AreNamed}
use Rattle.lus_normal_form.specs.NormalNodes.{node_memories, node_firsts, IsNormalNode, IsNormalOf, IsSimpleNode}
use Rattle.lus_normal_form.specs.Laws.{KeepsWorlds}
use Rattle.lus_normal_form.proofs.KeepsWorlds.{normal_keeps_worlds}
use Rattle.lus_normal_form.proofs.NormalOnClocks.{normal_is_on_clocks}
use Rattle.lus_normal_form.proofs.Orders.{normal_has_order}
use Rattle.lus_normal_form.proofs.ResolvedNamed.{resolved_are_named}
use Rattle.lus_normal_form.proofs.Simple.{normal_is_simple}

abbrev sum : Expression
sum = operate (Compute Add) (two (variable 1) (variable 0))

-- y = 0 -> pre (y + x)
abbrev summed : Node
summed = node 1 1 (plain ∷ plain ∷ []) (equation 1 (arrow (number 0) (pre sum)) ∷ [])

-- y = 0 -> pre s; s = y + x
abbrev normal_summed : Node
normal_summed = node 1 1 (plain ∷ plain ∷ plain ∷ []) (equation 1 (arrow (number 0) (pre (variable 2))) ∷ equation 2 sum ∷ [])

abbrev choice : Variable
choice = record { name = []; kind = BoolKind; test = None }

abbrev quotient : Expression
quotient = operate (Compute Divide) (two (number 10) (variable 1))

abbrev branches : Expression → Operands
branches a = two (when (record { variable = 0; constructor = 0 }) (variable 1)) (when (record { variable = 0; constructor = 1 }) a)

-- y = 1 + summed(10 div x); z = merge b (false -> x when not b) (true -> (10 div x) when b)
abbrev divided : Node
divided = node 2 1 (choice ∷ plain ∷ plain ∷ plain ∷ []) (
    equation 2 (operate (Compute Add) (two (number 1) (call 0 0 (one quotient))))
    ∷ equation 3 (merge 0 (branches quotient))
    ∷ []
    )

-- y = 1 + u; z = merge b (false -> x when not b) (true -> w when b); v = 10 div x; w = 10 div x; u = summed(v)
abbrev normal_divided : Node
normal_divided = node 2 1 (choice ∷ plain ∷ plain ∷ plain ∷ plain ∷ plain ∷ plain ∷ []) (
    equation 2 (operate (Compute Add) (two (number 1) (variable 4)))
    ∷ equation 3 (merge 0 (branches (variable 6)))
    ∷ equation 5 quotient
    ∷ equation 6 quotient
    ∷ equation 4 (call 0 0 (one (variable 5)))
    ∷ []
    )

abbrev source : Program
source = program (summed ∷ divided ∷ [])

abbrev normal : Program
normal = program (normal_summed ∷ normal_divided ∷ [])

abbrev new_parts : ℕ → List Part
new_parts zero = at [] sum ∷ []
new_parts (suc zero) = at [] (call 0 0 (one quotient)) ∷ at [] quotient ∷ at [] quotient ∷ []
new_parts (suc (suc n)) = []

-- the source is resolved and on clocks, so it is named

summed_resolved : NodeResolved source summed
summed_resolved = search rules

divided_resolved : NodeResolved source divided
divided_resolved = search rules

-- a node calls only those before it
calls_before : (f g : ℕ) → Contains (used (program_uses source) f) g → g < f
calls_before zero g h = let lt = h.1 in let wrong : ⊥ = omega (arith, lt) in absurd wrong
calls_before (suc zero) g (zero, lt, e) = omega (arith, e)
calls_before (suc zero) g (suc n, lt, e) = let wrong : ⊥ = omega (arith, lt) in absurd wrong
calls_before (suc (suc n)) g h = let lt = h.1 in let wrong : ⊥ = omega (arith, lt) in absurd wrong

leads_before : (f g : ℕ) → Leads (program_uses source) f g → g < f
leads_before f g (step called) = calls_before f g called
leads_before f g (then {y = h} called way) = let first = calls_before f h called in let later = leads_before h g way in omega (arith, first, later)

source_resolved : Resolved source
source_resolved = record {
  nodes = (summed_resolved, (divided_resolved, tt));
  loopless = λ f way. let before = leads_before f f way in let wrong : ⊥ = omega (arith, before) in wrong;
}

source_clocks : ProgramOnClocks source
source_clocks = search rules

source_named : AreNamed source
source_named = resolved_are_named source source_resolved source_clocks

-- each node has its normal form

summed_normal : IsNormalNode source normal summed normal_summed (new_parts 0)
summed_normal = record {
  inputs = refl;
  outputs = refl;
  width = refl;
  clocks = (refl, (refl, tt));
  definitions = ((_, refl, (_, _, refl, refl, (_, refl, (2, refl, inl (refl, refl))))), (refl, tt));
  new_definitions = ((refl, (_, refl, (_, refl, (_, _, refl, refl, (_, _, refl, refl, refl))))), tt);
  within = ((at [] (arrow (number 0) (pre sum)) ∷ at [] (number 0) ∷ at [] (pre sum) ∷ [], [], refl), tt);
  calls = refl;
  equations = search rules;
  same_memories = refl;
  same_firsts = refl;
}

divided_normal : IsNormalNode source normal divided normal_divided (new_parts 1)
divided_normal = record {
  inputs = refl;
  outputs = refl;
  width = refl;
  clocks = (refl, (refl, (refl, (refl, tt))));
  definitions = (
    (_, refl, (_, refl, (_, _, refl, (_, refl, refl), (_, _, refl, (_, refl, (6, refl, inr (inr (inl (refl, refl))))), refl)))),
    ((_, refl, (_, refl, (_, _, refl, refl, (_, _, refl, (4, refl, inl (refl, refl)), refl)))), (refl, (refl, tt))),
  );
  new_definitions = (
    (refl, (_, refl, (_, refl, (((omega arith, refl), tt), (_, _, refl, (5, refl, inr (inl (refl, refl))), refl))))),
    ((refl, (_, refl, (_, refl, (_, _, refl, refl, (_, _, refl, refl, refl))))), ((refl, (_, refl, (_, refl, (_, _, refl, refl, (_, _, refl, refl, refl))))), tt)),
  );
  within = (
    (at [] (operate (Compute Add) (two (number 1) (call 0 0 (one quotient)))) ∷ at [] (number 1) ∷ [], _, refl),
    (
      (at [] (operate (Compute Add) (two (number 1) (call 0 0 (one quotient)))) ∷ at [] (number 1) ∷ at [] (call 0 0 (one quotient)) ∷ [], _, refl),
      ((at [] (operate (Compute Add) (two (number 1) (call 0 0 (one quotient)))) ∷ at [] (number 1) ∷ at [] (call 0 0 (one quotient)) ∷ [], _, refl), tt),
    ),
  );
  calls = (_, _, refl, (((omega arith, refl), tt), (_, _, refl, (5, refl, inr (inl (refl, refl))), refl)), refl);
  equations = search rules;
  same_memories = refl;
  same_firsts = refl;
}

none_normal : IsNormalNode source normal empty_node empty_node []
none_normal = record { inputs = refl; outputs = refl; width = refl; clocks = tt; definitions = tt; new_definitions = tt; within = tt; calls = refl; equations = tt; same_memories = refl; same_firsts = refl }

all_normal : IsNormalOf source normal new_parts
all_normal zero = summed_normal
all_normal (suc zero) = divided_normal
all_normal (suc (suc n)) = none_normal

normal_keeps_source : KeepsWorlds source normal
normal_keeps_source = normal_keeps_worlds source normal new_parts source_named all_normal

-- of summed, for 3 and then 5

normal_sums : Streams normal 0 ((some 5 ∷ []) ∷ (some 3 ∷ []) ∷ []) (at_base (some 5 ∷ some 3 ∷ some 8 ∷ []) ∷ at_base (some 3 ∷ some 0 ∷ some 3 ∷ []) ∷ [])
normal_sums = search rules

source_sums : Streams source 0 ((some 5 ∷ []) ∷ (some 3 ∷ []) ∷ []) (at_base (some 5 ∷ some 3 ∷ []) ∷ at_base (some 3 ∷ some 0 ∷ []) ∷ [])
source_sums = normal_keeps_source.streams_from 0 ((some 5 ∷ []) ∷ (some 3 ∷ []) ∷ []) (at_base (some 5 ∷ some 3 ∷ some 8 ∷ []) ∷ at_base (some 3 ∷ some 0 ∷ some 3 ∷ []) ∷ []) normal_sums

-- b, x, y and z in an order
divided_order : HasOrder divided
divided_order = (3 ∷ 2 ∷ 1 ∷ 0 ∷ [], search rules)

normal_divided_order : HasOrder normal_divided
normal_divided_order = normal_has_order source normal new_parts source_named all_normal 1 source_clocks.1.0 divided_order

summed_wants : (node_memories normal_summed ≡ 1) × (node_firsts normal_summed ≡ 1)
summed_wants = (refl, refl)

normal_clocks : ProgramOnClocks normal
normal_clocks = normal_is_on_clocks source normal new_parts source_resolved source_clocks all_normal

normal_divided_simple : IsSimpleNode normal_divided
normal_divided_simple = normal_is_simple source normal divided normal_divided (new_parts 1) divided_normal

-- nodes that are no normal forms: an operand of `pre` and a call stand where they stood

summed_not_simple : IsSimpleNode summed → ⊥
summed_not_simple h = h.0.1

untaken_operand : IsNormalNode source source summed summed [] → ⊥
untaken_operand h = h.definitions.0.2.4.2.2

untaken_call : IsNormalNode source source divided divided [] → ⊥
untaken_call h = h.definitions.1.0.2.2.4.3.2

-- y = 0 -> pre s; s, y = y + x: a new variable doesn't stand alone on the left
abbrev doubly_summed : Node
doubly_summed = node 1 1 (plain ∷ plain ∷ plain ∷ []) (equation 1 (arrow (number 0) (pre (variable 2))) ∷ record { targets = 2 ∷ 1 ∷ []; right = sum } ∷ [])

left_with_another : IsNormalNode source normal summed doubly_summed (new_parts 0) → ⊥
left_with_another h = let left = h.new_definitions.0.1.1 in cc
