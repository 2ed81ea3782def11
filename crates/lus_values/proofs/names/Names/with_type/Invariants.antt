use Rattle.std.proofs.Common.{◌≡◌, map, take}
use Rattle.std.specs.Prelude.{string_bytes}
use Rattle.indexmap.specs.IndexMap.{get_by_text}
use Rattle.lus_values.specs.Names.{Text, numbers_of}
use Rattle.lus_values.proofs.Places.{found_before}
use Rattle.lus_values.proofs.names.Names.with_type.Given as goal

abbrev pub invariant-loop-constructor : goal.invariant-loop-constructor
invariant-loop-constructor l = record {
  copied : map string_bytes l.names.items ≡ map string_bytes (take l.constructor l.constructors);
  found : (text : Text) → get_by_text l.numbers text ≡ found_before (numbers_of (map (λ names. map string_bytes names.items) l.types.items) text) l.enumeration l.constructors l.constructor text;
}
