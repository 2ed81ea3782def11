-- What the value of an expression rests on at one instant: beside the past, the entries that it needs, and its calls outside of `pre`.
use Rattle.std.specs.Prelude.{◌≡◌, ℕ, List, [], ◌∷◌, ◌++◌}
use Rattle.lus_values.specs.Lists.{Each}
use Rattle.lus_program.specs.Programs.{Expression, literal, variable, operate, pre, arrow, when, merge, call, Operands, none, more, Node, Program}
use Rattle.lus_streams.specs.Clocks.{Clock}
use Rattle.lus_streams.specs.Order.{needs, needs_all, clock_variables}
use Rattle.lus_streams.specs.Streams.{Instant, World, is_present, entry, called_instant, is_on, value, inputs_given}

-- the calls of an expression outside of the operand of each `pre`, by their numbers
abbrev mutual
  pub calls_now : Expression → List ℕ
  calls_now (literal v) = []
  calls_now (variable x) = []
  calls_now (operate o es) = all_calls_now es
  calls_now (pre a) = []
  calls_now (arrow a b) = calls_now a ++ calls_now b
  calls_now (when t a) = calls_now a
  calls_now (merge x bs) = all_calls_now bs
  calls_now (call g c args) = c ∷ all_calls_now args

  pub all_calls_now : Operands → List ℕ
  all_calls_now none = []
  all_calls_now (more e es) = calls_now e ++ all_calls_now es

-- two instants have one base, the same entries of these variables, and the same instants of these calls
pub record Agree (now other : Instant) (xs cs : List ℕ) : Type 0 where
  pub base : is_present now ≡ is_present other
  pub entries : Each (λ x. entry now x ≡ entry other x) xs
  pub called : Each (λ c. called_instant c now ≡ called_instant c other) cs

-- instants that agree on what is needed have the same clocks, values and inputs of calls
pub record AgreeOnNeeds (p : Program) (now other : Instant) (past : World) : Type 0 where
  pub clocks : (k : Clock) → Agree now other (clock_variables k) [] → is_on k now ≡ is_on k other
  pub values : (e : Expression) (k : Clock) → Agree now other (needs e) (calls_now e) → value p e k now past ≡ value p e k other past
  pub given : (g : Node) (args : Operands) (base : Clock) → Agree now other (needs_all args) (all_calls_now args) → Agree now other (clock_variables base) []
      → inputs_given p args g args base 0 now past ≡ inputs_given p args g args base 0 other past

abbrev pub NeedsSuffice : Type 0
NeedsSuffice = (p : Program) (now other : Instant) (past : World) → AgreeOnNeeds p now other past
