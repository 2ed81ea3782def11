-- Small nodes, and streams that are theirs.
use Rattle.std.proofs.Common.{◌≡◌, ℕ, Bool, true, false, ℤ, pos, negsuc, List, [], ◌∷◌, Option, Some, None, rules, true≢false, arith}
use Rattle.lus_values.specs.declared.operator.Op.TheVariants.{Add, Divide}
use Rattle.lus_values.specs.declared.operator.Operator.TheVariants.{Compute, If, Structure, Field}
use Rattle.lus_values.specs.Values.{Value, bool, int, enum, struct, end, field, Row}
use Rattle.lus_syntax.specs.declared.tree.NodeKind.TheVariants as node_kinds
use Rattle.lus_program.specs.declared.types.Kind.TheVariants.{Int as IntKind}
use Rattle.lus_program.specs.Programs.{Expression, literal, variable, operate, pre, arrow, fby, when, merge, call, Operands, none, more, Variable, Equation, Node, Program}
use Rattle.lus_streams.specs.Streams.{Instant, instant, nobody, also, Streams}

abbrev pub plain : Variable
plain = record { name = []; kind = IntKind; test = None }

-- a variable declared with a test
abbrev pub tested : ℕ → ℕ → Variable
tested x c = record { name = []; kind = IntKind; test = Some (record { variable = x; constructor = c }) }

abbrev pub equation : ℕ → Expression → Equation
equation x e = record { targets = x ∷ []; right = e }

abbrev pub node : ℕ → ℕ → List Variable → List Equation → Node
node inputs outputs vs qs = record { kind = node_kinds.Node; name = []; inputs = inputs; outputs = outputs; variables = vs; equations = qs }

abbrev pub program : List Node → Program
program nodes = record { types = []; nodes = nodes }

abbrev pub one : Expression → Operands
one a = more a none

abbrev pub two : Expression → Expression → Operands
two a b = more a (one b)

abbrev pub number : ℕ → Expression
number n = literal (int (pos n))

abbrev pub whole : ℤ → Option Value
whole z = Some (int z)

abbrev pub some : ℕ → Option Value
some n = whole (pos n)

abbrev pub truth : Bool → Option Value
truth b = Some (bool b)

-- an instant at which the base is present, of a node without calls
abbrev pub at_base : Row → Instant
at_base row = instant true row nobody

-- 0 -> pre x + 1
abbrev pub count : ℕ → Expression
count x = arrow (number 0) (operate (Compute Add) (two (pre (variable x)) (number 1)))

-- n = 0 -> pre n + 1
abbrev pub counter : Node
counter = node 0 1 (plain ∷ []) (equation 0 (count 0) ∷ [])

abbrev pub counted : ℕ → Instant
counted n = at_base (some n ∷ [])

counter_counts : Streams (program (counter ∷ [])) 0 ([] ∷ [] ∷ [] ∷ []) (counted 2 ∷ counted 1 ∷ counted 0 ∷ [])
counter_counts = search rules

-- a wrong output is no stream
counter_skips_none : Streams (program (counter ∷ [])) 0 ([] ∷ [] ∷ []) (counted 2 ∷ counted 0 ∷ []) → ⊥
counter_skips_none h = two_one ((h.satisfied).0.0.variables.0)
  where
    two_one : some 2 ≡ some 1 → ⊥
    two_one e = grind arith

-- c = if r then 0 else (0 -> pre c + 1): both branches are computed at each instant
abbrev pub restarted : Node
restarted = node 1 1 (plain ∷ plain ∷ []) (equation 1 (operate If (more (variable 0) (two (number 0) (count 1)))) ∷ [])

abbrev restarted_at : Bool → ℕ → Instant
restarted_at r c = at_base (truth r ∷ some c ∷ [])

if_stops_no_memory : Streams (program (restarted ∷ [])) 0 ((truth false ∷ []) ∷ (truth true ∷ []) ∷ (truth false ∷ []) ∷ (truth false ∷ []) ∷ []) (restarted_at false 1 ∷ restarted_at true 0 ∷ restarted_at false 1 ∷ restarted_at false 0 ∷ [])
if_stops_no_memory = search rules

-- y = x + (0 -> pre y)
abbrev pub summed : Node
summed = node 1 1 (plain ∷ plain ∷ []) (equation 1 (operate (Compute Add) (two (variable 0) (arrow (number 0) (pre (variable 1))))) ∷ [])

abbrev pub summed_at : ℤ → ℤ → Instant
summed_at x y = at_base (whole x ∷ whole y ∷ [])

pub sum_at_limit : Streams (program (summed ∷ [])) 0 ((some 9223372036854775807 ∷ []) ∷ []) (summed_at (pos 9223372036854775807) (pos 9223372036854775807) ∷ [])
sum_at_limit = search rules

sum_below_limit : Streams (program (summed ∷ [])) 0 ((whole (negsuc 0) ∷ []) ∷ (some 9223372036854775807 ∷ []) ∷ []) (summed_at (negsuc 0) (pos 9223372036854775806) ∷ summed_at (pos 9223372036854775807) (pos 9223372036854775807) ∷ [])
sum_below_limit = search rules

-- s = x when c; y = 0 -> pre s: `pre` looks back to the last instant at which c held
abbrev pub sampled : Node
sampled =
    node 2 1 (plain ∷ plain ∷ tested 0 1 ∷ tested 0 1 ∷ [])
    (equation 3 (when (record { variable = 0; constructor = 1 }) (variable 1)) ∷ equation 2 (arrow (number 0) (pre (variable 3))) ∷ [])

abbrev sampled_at : Bool → ℕ → Option Value → Option Value → Instant
sampled_at c x y s = at_base (truth c ∷ some x ∷ y ∷ s ∷ [])

pre_skips_absent_instants : Streams (program (sampled ∷ [])) 0 ((truth true ∷ some 3 ∷ []) ∷ (truth false ∷ some 2 ∷ []) ∷ (truth true ∷ some 1 ∷ []) ∷ [])
    (sampled_at true 3 (some 1) (some 3) ∷ sampled_at false 2 None None ∷ sampled_at true 1 (some 0) (some 1) ∷ [])
pre_skips_absent_instants = search rules

-- y = counter(), on c: the called node stands still where its clock is absent
abbrev pub counted_on : Node
counted_on = node 1 1 (plain ∷ tested 0 1 ∷ []) (equation 1 (call 0 0 none) ∷ [])

abbrev counted_on_at : Bool → Option Value → Instant
counted_on_at c y = instant true (truth c ∷ y ∷ []) (also (instant c (y ∷ []) nobody) nobody)

called_node_stands_still : Streams (program (counter ∷ counted_on ∷ [])) 1 ((truth true ∷ []) ∷ (truth false ∷ []) ∷ (truth true ∷ []) ∷ [])
    (counted_on_at true (some 1) ∷ counted_on_at false None ∷ counted_on_at true (some 0) ∷ [])
called_node_stands_still = search rules

-- y = merge k (A -> a) (B -> b)
abbrev pub merged : Node
merged = node 3 1 (plain ∷ tested 0 0 ∷ tested 0 1 ∷ plain ∷ []) (equation 3 (merge 0 (two (variable 1) (variable 2))) ∷ [])

abbrev merged_at : ℕ → Option Value → Option Value → ℕ → Instant
merged_at k a b y = at_base (Some (enum 0 k) ∷ a ∷ b ∷ some y ∷ [])

merge_takes_its_branch : Streams (program (merged ∷ [])) 0 ((Some (enum 0 1) ∷ None ∷ some 2 ∷ []) ∷ (Some (enum 0 0) ∷ some 1 ∷ None ∷ []) ∷ []) (merged_at 1 None (some 2) 2 ∷ merged_at 0 (some 1) None 1 ∷ [])
merge_takes_its_branch = search rules

-- an input that is present where its clock is absent is in no stream
merge_refuses_presence : Streams (program (merged ∷ [])) 0 ((Some (enum 0 1) ∷ some 1 ∷ some 2 ∷ []) ∷ []) (merged_at 1 (some 1) (some 2) 2 ∷ []) → ⊥
merge_refuses_presence h = true≢false ((h.satisfied).0.0.variables.1.1.0)

-- y = 10 div (x when c)
abbrev pub divided_late : Node
divided_late =
    node 2 1 (plain ∷ plain ∷ tested 1 1 ∷ [])
    (equation 2 (operate (Compute Divide) (two (number 10) (when (record { variable = 1; constructor = 1 }) (variable 0)))) ∷ [])

sampled_zero_is_not_divided : Streams (program (divided_late ∷ [])) 0 ((whole (negsuc 2) ∷ truth true ∷ []) ∷ (some 0 ∷ truth false ∷ []) ∷ [])
    (at_base (whole (negsuc 2) ∷ truth true ∷ whole (negsuc 2) ∷ []) ∷ at_base (some 0 ∷ truth false ∷ None ∷ []) ∷ [])
sampled_zero_is_not_divided = search rules

-- y = (10 div x) when c
abbrev pub divided_early : Node
divided_early =
    node 2 1 (plain ∷ plain ∷ tested 1 1 ∷ [])
    (equation 2 (when (record { variable = 1; constructor = 1 }) (operate (Compute Divide) (two (number 10) (variable 0)))) ∷ [])

-- y = 1 -> 10 div pre x
abbrev pub divided_by_past : Node
divided_by_past = node 1 1 (plain ∷ plain ∷ []) (equation 1 (arrow (number 1) (operate (Compute Divide) (two (number 10) (pre (variable 0))))) ∷ [])

abbrev pub divided_by_past_at : ℕ → ℕ → Instant
divided_by_past_at x y = at_base (some x ∷ some y ∷ [])

pub nil_divides_without_fault : Streams (program (divided_by_past ∷ [])) 0 ((some 0 ∷ []) ∷ []) (divided_by_past_at 0 1 ∷ [])
nil_divides_without_fault = search rules

-- b = p { y = a.x; x = a.y }; s = a.x + a.y, the fields in declared order
abbrev pub swapped : Node
swapped =
    node 1 2 (plain ∷ plain ∷ plain ∷ [])
    (equation 1 (operate (Structure 0) (two (operate (Field 1) (one (variable 0))) (operate (Field 0) (one (variable 0)))))
    ∷ equation 2 (operate (Compute Add) (two (operate (Field 0) (one (variable 0))) (operate (Field 1) (one (variable 0)))))
    ∷ [])

abbrev pair : ℕ → ℕ → Option Value
pair x y = Some (struct (field (int (pos x)) (field (int (pos y)) end)))

fields_are_swapped : Streams (program (swapped ∷ [])) 0 ((pair 1 2 ∷ []) ∷ []) (at_base (pair 1 2 ∷ pair 2 1 ∷ some 3 ∷ []) ∷ [])
fields_are_swapped = search rules

-- y = (-1) fby x
abbrev pub delayed : Node
delayed = node 1 1 (plain ∷ plain ∷ []) (equation 1 (fby (literal (int (negsuc 0))) (variable 0)) ∷ [])

fby_delays : Streams (program (delayed ∷ [])) 0 ((some 5 ∷ []) ∷ (some 4 ∷ []) ∷ []) (at_base (some 5 ∷ some 4 ∷ []) ∷ at_base (some 4 ∷ whole (negsuc 0) ∷ []) ∷ [])
fby_delays = search rules
