-- The scripts that a JSON value is for a program, by rules of this program: its names are looked up, and the values of its steps are read.
use Rattle.std.specs.Prelude.{◌==◌, ◌&&◌, ◌+◌, ◌<◌, ℕ, suc, Bool, true, false, not, List, [], ◌∷◌, map, length, take, nat_le, nat_lt, position, slice_get}
use Rattle.std.specs.Prelude.{Option, Some, None, is_some, option_map, option_and_then, if◌then◌else◌, Result, Ok, Err}
use Rattle.std.specs.List.{list_all, list_any}
use Rattle.std.specs.Str.{bytes_eq}
use Rattle.serde_json.specs.Data.{Data, null, boolean, number, string, array, object, Members}
use Rattle.serde_json.specs.Events.{members_len}
use Rattle.serde_json.specs.Find.{as_i64, as_null, get_member}
use Rattle.lus_syntax.specs.Limits.{most_nesting}
use Rattle.lus_values.specs.Lists.{Each}
use Rattle.lus_values.specs.Names.{Text, Names, numbers_of}
use Rattle.lus_values.specs.Values.{Value, bool, int, enum, struct, fields_of, Row}
use Rattle.lus_program.specs.declared.types.Kind.{Kind}
use Rattle.lus_program.specs.declared.types.Kind.TheVariants.{Struct}
use Rattle.lus_program.specs.Programs.{Declared, alias, enumeration, structure, Field, Node, Program}
use Rattle.lus_requests.specs.declared.request.Request.{Request}
use Rattle.lus_requests.specs.declared.request.Request.TheVariants.{Step, Reset, Save, Restore, Burst}
use Rattle.lus_scripts.specs.Limits.{most_callers, most_calls, most_instances}
use Rattle.lus_scripts.specs.Forms.{both, each, as_list, Ask, step, reset, save, restore, burst, CallForm, InstanceForm, CallerForm, Form, form_of}
use Rattle.lus_scripts.specs.declared.refusal.ScriptRefusal.{ScriptRefusal}
use Rattle.lus_scripts.specs.declared.refusal.ScriptRefusal.TheVariants.{Form as NotTheForm, Unknown, Double, Limit}
use Rattle.lus_requests.specs.declared.call.Call.{Call}
use Rattle.lus_requests.specs.declared.call.Caller.{Caller}

-- ---- names

abbrev pub stands_in : List Text → Text → Bool
stands_in names t = list_any (bytes_eq t) names

-- none stands twice
abbrev pub all_distinct : List Text → Bool
all_distinct [] = true
all_distinct (t ∷ ts) = not (stands_in ts t) && all_distinct ts

abbrev pub place_of : List Text → Text → Option ℕ
place_of names t = position (bytes_eq t) names

-- the place of the first node of this name
abbrev pub node_named : Program → Text → Option ℕ
node_named p t = position (λ f. bytes_eq f.name t) p.nodes

abbrev pub instance_names : Form → List Text
instance_names f = map (λ i. i.name) f.instances

abbrev pub caller_names : Form → List Text
caller_names f = map (λ c. c.name) f.callers

-- ---- values

-- a number, a truth value, or the name of a constructor
abbrev pub scalar : Names → Data → Option Value
scalar names null = None
scalar names (boolean b) = Some (bool b)
scalar names (number n) = option_map int (as_i64 n)
scalar names (string t) = option_map (λ c. enum c.0 c.1) (numbers_of names t)
scalar names (array ds) = None
scalar names (object ms) = None

abbrev pub fields_in : Option Declared → Option (List Field)
fields_in (Some (structure fields)) = Some fields
fields_in (Some (enumeration names)) = None
fields_in (Some (alias k)) = None
fields_in None = None

-- the fields of a structure type
abbrev pub fields_at : Program → Option Kind → Option (List Field)
fields_at p (Some (Struct t)) = fields_in (slice_get p.types t)
fields_at p _ = None

-- the value of an object with exactly these fields, each read by its type: it has as many members as there are fields
abbrev pub fields_value : (Option Kind → Data → Option Value) → Members → List Field → Option Value
fields_value read ms fields =
    if members_len ms == length fields
    then option_map (λ vs. struct (fields_of vs)) (each (λ f. option_and_then (read (Some f.kind)) (get_member f.name ms)) fields)
    else None

-- likewise, where objects nest at most this many levels
abbrev pub value_at : ℕ → Program → Names → Option Kind → Data → Option Value
value_at (suc levels) p names kind (object ms) = option_and_then (fields_value (value_at levels p names) ms) (fields_at p kind)
value_at levels p names kind d = scalar names d

-- ---- requests

-- the value of JSON at the place of a type
unfoldable pub value_of_json : Program → Names → Option Kind → Data → Option Value
value_of_json p names kind d = value_at most_nesting p names kind d

-- an item of a step: null is absent
abbrev pub item_of_json : Program → Names → Option Kind → Data → Option (Option Value)
item_of_json p names kind d = if is_some (as_null d) then Some None else option_map Some (value_of_json p names kind d)

-- the type of a node's nth input
abbrev pub input_kind : Option Node → ℕ → Option Kind
input_kind None n = None
input_kind (Some f) n = option_map (λ v. v.kind) (slice_get (take f.inputs f.variables) n)

-- the items of a step from the nth input on
abbrev pub row_from : Program → Names → Option Node → ℕ → List Data → Option Row
row_from p names f n [] = Some []
row_from p names f n (d ∷ ds) = option_map (λ q. q.0 ∷ q.1) (both (item_of_json p names (input_kind f n) d) (row_from p names f (n + 1) ds))

-- the row that a list is
abbrev pub listed_row : Program → Names → Option Node → Data → Option Row
listed_row p names f d = option_and_then (row_from p names f 0) (as_list d)

-- what calls are read by: a program, the names of its constructors, and the names and the nodes' places of the instances
pub record Scope : Type 0 where
  pub program : Program
  pub names : Names
  pub instances : List Text
  pub nodes : List ℕ

-- the node of the instance at this place
abbrev pub node_on : Scope → ℕ → Option Node
node_on s on = option_and_then (slice_get s.program.nodes) (slice_get s.nodes on)

abbrev pub request_of : Scope → Option Node → Ask → Option Request
request_of s f (step items) = option_map Step (row_from s.program s.names f 0 items)
request_of s f reset = Some Reset
request_of s f (save slot) = Some (Save slot)
request_of s f (restore slot) = Some (Restore slot)
request_of s f (burst rows) = option_map Burst (each (listed_row s.program s.names f) rows)

abbrev pub call_of : Scope → CallForm → Option Call
call_of s c =
    option_and_then (λ on. option_map (λ r. record { on = on; request = r }) (request_of s (node_on s on) c.ask))
    (place_of s.instances c.on)

abbrev pub calls_of : Scope → CallerForm → Option (List Call)
calls_of s c = each (call_of s) c.calls

-- ---- scripts

-- an instance of a node, with the node's name as written and its place in the program
pub record Instance : Type 0 where
  pub name : Text
  pub node : Text
  pub place : ℕ

unfoldable pub instance_of : Program → InstanceForm → Option Instance
instance_of p i = option_map (λ k. record { name = i.name; node = i.node; place = k }) (node_named p i.node)

-- instances, the names of callers, and the calls of each caller, in order
pub record Scripts : Type 0 where
  pub instances : List Instance
  pub callers : List Text
  pub calls : List (List Call)

abbrev pub demand : {A : Type 0} → Bool → ScriptRefusal → Result A ScriptRefusal → Result A ScriptRefusal
demand true refusal r = r
demand false refusal r = Err refusal

-- no more instances, callers and calls of a caller than there may be
abbrev pub within_limits : Form → Bool
within_limits f = nat_le (length f.instances) most_instances
    && (nat_le (length f.callers) most_callers && list_all (λ c. nat_le (length c.calls) most_calls) f.callers)

-- each call is on an instance
abbrev pub calls_known : List Text → List CallerForm → Bool
calls_known names = list_all (λ c. list_all (λ call. is_some (place_of names call.on)) c.calls)

abbrev pub scope_of : Program → Names → Form → List Instance → Scope
scope_of p names f instances =
    record { program = p; names = names; instances = instance_names f; nodes = map (λ i. i.place) instances }

abbrev pub with_calls : Form → List Instance → Option (List (List Call)) → Result Scripts ScriptRefusal
with_calls f instances None = Err NotTheForm
with_calls f instances (Some calls) = Ok (record { instances = instances; callers = caller_names f; calls = calls })

abbrev pub with_instances : Program → Names → Form → Option (List Instance) → Result Scripts ScriptRefusal
with_instances p names f None = Err Unknown
with_instances p names f (Some instances) =
    demand (calls_known (instance_names f) f.callers) Unknown
    (with_calls f instances (each (calls_of (scope_of p names f instances)) f.callers))

abbrev pub with_table : Program → Names → Form → Result Scripts ScriptRefusal
with_table p names f = with_instances p names f (each (instance_of p) f.instances)

-- the checks after the form, in their order
abbrev pub scripts_of_form : Program → Names → Form → Result Scripts ScriptRefusal
scripts_of_form p names f =
    demand (within_limits f) Limit
    (demand (all_distinct (instance_names f)) Double
    (demand (all_distinct (caller_names f)) Double
    (with_table p names f)))

-- each instance's node is the program's
abbrev pub HaveNodes : Program → List Instance → Type 0
HaveNodes p instances = Each (λ i. i.place < length p.nodes) instances

-- each call is on one of n instances
abbrev pub are_on : ℕ → List Caller → Bool
are_on n = list_all (λ c. list_all (λ call. nat_lt call.on n) c.calls.items)

-- no caller has more calls than it may
abbrev pub have_few_calls : List Caller → Bool
have_few_calls = list_all (λ c. nat_le (length c.calls.items) most_calls)

-- ---- scripts of a JSON value

abbrev pub scripts_of_option : Program → Names → Option Form → Result Scripts ScriptRefusal
scripts_of_option p names None = Err NotTheForm
scripts_of_option p names (Some f) = scripts_of_form p names f

-- the scripts that a JSON value is
abbrev pub scripts_of : Program → Names → Data → Result Scripts ScriptRefusal
scripts_of p names d = scripts_of_option p names (form_of d)
