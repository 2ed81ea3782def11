-- Faults, and their causes: an operation that has no value, though its operands all have.
use Rattle.std.specs.Prelude.{◌≡◌, ◌<◌, ℕ, Bool, List, [], map, length, Option, Some, None, MatchOption}
use Rattle.std.specs.Option.{option_map}
use Rattle.lus_values.specs.Lists.{item, Each}
use Rattle.lus_values.specs.Operators.{apply}
use Rattle.lus_values.specs.Values.{Value, nil, Row}
use Rattle.lus_values.specs.View.{value_of}
use Rattle.lus_values.specs.declared.operator.Operator.{Operator}
use Rattle.lus_program.specs.Programs.{Expression, literal, operate, Operands, Program}
use Rattle.lus_streams.specs.Clocks.{Part, at}
use Rattle.lus_streams.specs.Streams.{Instant, World, values, HasValue}
use Rattle.lus_attempts.specs.Attempts.{IsAtFault}
use Rattle.lus_reference.specs.declared.cause.AtFault.{AtFault}
use Rattle.lus_reference.specs.declared.cause.Operation.{Operation as StoredOperation}
use Rattle.lus_reference.specs.Made.{gathered}
use Rattle.lus_reference.specs.Kept.{StandsAt}

-- an operator and the values of its operands
abbrev pub Operation : Type 0
Operation = Operator × List Value

abbrev pub operation_in : StoredOperation → Operation
operation_in f = (f.operator, map value_of f.operands.items)

-- the operation that an expression is, where its operands all have values
abbrev pub operation_on : Expression → (operands : Row) → Option Operation
operation_on (operate o es) vs = option_map (λ ws. (o, ws)) (gathered vs)
operation_on _ vs = None

-- an expression at this place is this fault, with these values of its operands
abbrev pub IsFaultBy : Expression → (operands : Row) → ℕ → AtFault → Type 0
IsFaultBy e vs i f = (f.place ≡ i) × (option_map operation_in f.operation ≡ operation_on e vs)

-- a part is this operation: its operands have these values, and on them the operator has none
abbrev pub IsCause : Program → Operation → Part → Instant → World → Type 0
IsCause p f (at k e) now past = (es : Operands) × (e ≡ operate f.0 es) × (values p es k now past ≡ Some f.1) × (apply f.0 f.1 ≡ None)

-- at each such instant the part at its place is at fault, and is its operation, if it has one; or no part is at fault
module _ (p : Program) (present : Bool) (row : Row) (rows : List Row) (es : List Part) (kept : Row) where
  pub record IsFaultAt (f : AtFault) : Type 0 where
    pub within : f.place < length es
    pub faults : (now : Instant) (past : World) → StandsAt p present row rows es kept now past → IsAtFault p (item (at [] (literal nil)) es f.place) now past
    pub is : MatchOption (option_map operation_in f.operation) (Unit {0}) (λ o. (now : Instant) (past : World) → StandsAt p present row rows es kept now past → IsCause p o (item (at [] (literal nil)) es f.place) now past)

  abbrev pub IsFaultOf : Option AtFault → Type 0
  IsFaultOf o = MatchOption o ((now : Instant) (past : World) → StandsAt p present row rows es kept now past → Each (λ e. HasValue p e now past) es) IsFaultAt
