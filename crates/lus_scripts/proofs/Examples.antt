-- Scripts of small JSON values, worked by computation, with a value for each refusal.
use Rattle.std.proofs.Common.{◌≡◌, ℕ, true, false, [], ◌∷◌, Some, None, Ok, Err, codes, refl}
use Rattle.serde_json.specs.Data.{Data, null, boolean, number, string, array, object, unsigned, no_items, item, no_members, member}
use Rattle.lus_values.specs.Names.{Text, Names}
use Rattle.lus_values.specs.Values.{enum}
use Rattle.lus_syntax.specs.declared.tree.NodeKind.TheVariants as node_kinds
use Rattle.lus_program.specs.declared.types.Kind.TheVariants.{Int, Enum}
use Rattle.lus_program.specs.Programs.{enumeration, Program}
use Rattle.lus_requests.specs.declared.request.Request.TheVariants.{Step, Reset, Save, Restore}
use Rattle.lus_scripts.specs.Scripts.{scripts_of, instance_of, value_of_json}
use Rattle.lus_scripts.specs.declared.refusal.ScriptRefusal.TheVariants.{Form, Unknown, Double}

-- type e = enum { A, B }; node g(k: e; a: int) returns (y: int)
abbrev names : Names
names = (codes "A" ∷ codes "B" ∷ []) ∷ []

abbrev program : Program
program = record {
  types = enumeration (codes "A" ∷ codes "B" ∷ []) ∷ [];
  nodes = record {
    kind = node_kinds.Node;
    name = codes "g";
    inputs = 2;
    outputs = 1;
    variables = record { name = codes "k"; kind = Enum 0; test = None } ∷ record { name = codes "a"; kind = Int; test = None } ∷ record { name = codes "y"; kind = Int; test = None } ∷ [];
    equations = [];
  } ∷ [];
}

abbrev one : Data → Data
one d = array (item d no_items)

-- an object of two members
abbrev two : Text → Data → Text → Data → Data
two a d b e = object (member a d (member b e no_members))

abbrev instance : Text → Text → Data
instance name node = two (codes "name") (string name) (codes "node") (string node)

abbrev caller : Text → Data → Data
caller name calls = two (codes "calls") calls (codes "name") (string name)

abbrev whole : Data → Data → Data
whole instances callers = two (codes "callers") callers (codes "instances") instances

abbrev asked : Text → Data → Data
asked key d = two (codes "on") (string (codes "k")) key d

abbrev some : ℕ → Data
some n = number (unsigned n)

abbrev calls : Data
calls =
    array (item (asked (codes "step") (array (item (string (codes "B")) (item null no_items))))
    (item (asked (codes "reset") (boolean true))
    (item (asked (codes "save") (some 8))
    (item (asked (codes "restore") (some 3)) no_items))))

-- an absent item is null, a constructor its name; a slot that there isn't is read all the same
calls_are_read : scripts_of program names (whole (one (instance (codes "k") (codes "g"))) (one (caller (codes "a") calls)))
    ≡ Ok (record {
      instances = record { name = codes "k"; node = codes "g"; place = 0 } ∷ [];
      callers = codes "a" ∷ [];
      calls = (record { on = 0; request = Step (Some (enum 0 1) ∷ None ∷ []) }
          ∷ record { on = 0; request = Reset }
          ∷ record { on = 0; request = Save 8 }
          ∷ record { on = 0; request = Restore 3 }
          ∷ []) ∷ [];
    })
unfolding instance_of value_of_json
calls_are_read = refl

nothing_is_asked : scripts_of program names (whole (array no_items) (array no_items)) ≡ Ok (record { instances = []; callers = []; calls = [] })
nothing_is_asked = refl

-- no members at all
no_scripts : scripts_of program names (object no_members) ≡ Err Form
no_scripts = refl

-- a reset that is false
no_reset : scripts_of program names (whole (one (instance (codes "k") (codes "g"))) (one (caller (codes "a") (one (asked (codes "reset") (boolean false)))))) ≡ Err Form
no_reset = refl

-- a name that is no constructor's
no_constructor : scripts_of program names (whole (one (instance (codes "k") (codes "g"))) (one (caller (codes "a") (one (asked (codes "step") (one (string (codes "C")))))))) ≡ Err Form
unfolding instance_of value_of_json
no_constructor = refl

no_node : scripts_of program names (whole (one (instance (codes "k") (codes "zz"))) (array no_items)) ≡ Err Unknown
unfolding instance_of
no_node = refl

-- a call on an instance that isn't there
no_instance : scripts_of program names (whole (one (instance (codes "j") (codes "g"))) (one (caller (codes "a") (one (asked (codes "reset") (boolean true)))))) ≡ Err Unknown
unfolding instance_of
no_instance = refl

two_callers : scripts_of program names (whole (array no_items) (array (item (caller (codes "a") (array no_items)) (item (caller (codes "a") (array no_items)) no_items)))) ≡ Err Double
two_callers = refl

two_alike : scripts_of program names (whole (array (item (instance (codes "k") (codes "g")) (item (instance (codes "k") (codes "g")) no_items))) (array no_items)) ≡ Err Double
two_alike = refl
