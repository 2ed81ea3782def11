-- The plain data of values as the code holds them.
use Rattle.std.specs.Prelude.{Option, Some, None}
use Rattle.lus_values.specs.declared.value.Value.{Value as StoredValue, Bool, Int, Enum, Struct', Nil, Row_of-Value, end_of-Value, more_of-Value}
use Rattle.lus_values.specs.Values.{Value, bool, int, enum, struct, nil, Fields, end, field}

abbrev mutual
  pub value_of : StoredValue → Value
  value_of (Bool b) = bool b
  value_of (Int z) = int z
  value_of (Enum t c) = enum t c
  value_of (Struct' shape all) = struct (fields_in all)
  value_of Nil = nil

  pub fields_in : {m : _} → Row_of-Value m → Fields
  fields_in end_of-Value = end
  fields_in (more_of-Value v rest) = field (value_of v) (fields_in rest)

abbrev pub entry_of : Option StoredValue → Option Value
entry_of None = None
entry_of (Some v) = Some (value_of v)
