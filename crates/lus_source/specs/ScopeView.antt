-- What the code holds of a scope, as tables, and what a fault tells.
use Rattle.std.specs.Prelude.{◌≡◌, Bool, true, false, List, [], Result, MatchResult, Vec, map}
use Rattle.std.specs.declared.alloc.Global.{Global}
use Rattle.std.specs.List.{zip}
use Rattle.lus_syntax.specs.declared.refusal.RefusalNumber.{RefusalNumber}
use Rattle.lus_syntax.specs.declared.refusal.RefusalNumber.TheVariants as numbers
use Rattle.lus_values.specs.View.{value_of}
use Rattle.lus_program.specs.declared.types.Kind.{Kind}
use Rattle.lus_program.specs.View.{declared_of}
use Rattle.lus_source.specs.declared.fault.Fault.{Fault}
use Rattle.lus_source.specs.declared.fault.Fault.TheVariants as faults
use Rattle.lus_source.specs.declared.scope.Scope.{Scope as StoredScope}
use Rattle.lus_source.specs.declared.scope.Tables.{Tables as StoredTables}
use Rattle.lus_source.specs.declared.entries.Signature.{Signature as StoredSignature}
use Rattle.lus_source.specs.Scopes.{Scope, Signature}
use Rattle.lus_source.specs.Tables.{placed}

-- a fault at a place comes only where the fact holds
abbrev pub Faulty : Type 0 → Fault → Type 0
Faulty fact faults.Memory = Unit {0}
Faulty fact (faults.At place cause) = fact

-- what is given shows that the fact holds, and a fault at a place that it doesn't
abbrev pub Judged : {T : Type 0} → Result T Fault → Type 0 → Type 0
Judged result fact = MatchResult result (λ _. fact) (Faulty (fact → ⊥))

-- what is given shows that the test comes out true, and a fault at a place that it comes out false
abbrev pub Tested : {T : Type 0} → Result T Fault → Bool → Type 0
Tested result test = MatchResult result (λ _. test ≡ true) (Faulty (test ≡ false))

-- the number of a fault in a pass that refuses by this one
abbrev pub number_of : RefusalNumber → Fault → RefusalNumber
number_of n faults.Memory = numbers.Memory
number_of n (faults.At place cause) = n

abbrev pub signature_of : StoredSignature → Signature
signature_of g = record { place = g.place; kind = g.kind; inputs = g.inputs.items; outputs = g.outputs.items }

-- each name with what stands at its place; no variables
abbrev pub tables_seen : StoredTables → Scope
tables_seen t = record {
  variables = [];
  constants = zip t.names.now.constants (map value_of t.constants.items);
  constructors = zip t.names.now.constructors t.constructors.items;
  types = zip t.names.now.types t.types.items;
  declared = map declared_of t.declared.items;
  nodes = zip t.names.now.nodes (map signature_of t.nodes.items);
}

-- the types of each node's variables
abbrev pub kinds_seen : List (Vec Kind Global) → List (List Kind)
kinds_seen all = map (λ kinds. kinds.items) all

-- with a node's variables
abbrev pub scope_of : StoredScope → Scope
scope_of s = record (tables_seen s.tables.now) { variables = placed (zip s.variables.now s.variable_kinds.now) }
