-- One request to a node, in a form of this program, as a JSON value says it by itself: `[18, 19, 22]`, `{"reset": true}`,
-- `{"inputs": {"low": 19}}`.
use Rattle.std.specs.Prelude.{◌==◌, ◌&&◌, Bool, List, [], take, Option, Some, None, is_some, option_map, option_and_then, codes, if◌then◌else◌}
use Rattle.std.specs.List.{count_by}
use Rattle.serde_json.specs.Data.{Data}
use Rattle.serde_json.specs.Find.{as_object, get}
use Rattle.serde_json.specs.Read.{read}
use Rattle.lus_values.specs.Names.{Text, Names}
use Rattle.lus_values.specs.Values.{Value, Row}
use Rattle.lus_program.specs.Programs.{Node, Program, Variable}
use Rattle.lus_requests.specs.declared.request.Request.{Request}
use Rattle.lus_requests.specs.declared.request.Request.TheVariants.{Step}
use Rattle.lus_scripts.specs.Forms.{Ask, step, ask_of, as_list, each, members_count}
use Rattle.lus_scripts.specs.Scripts.{Scope, item_of_json, request_of}

-- a list is the inputs of a step, and an object a call without the name of its instance
abbrev pub asked_by : Option (List Data) → Data → Option Ask
asked_by (Some items) d = Some (step items)
asked_by None d = if members_count d == 1 then ask_of d else None

abbrev pub asked_alone : Data → Option Ask
asked_alone d = asked_by (as_list d) d

-- ---- inputs by their names

-- the object in `{"inputs": object}`
abbrev pub inputs_in : Data → Option Data
inputs_in d = if members_count d == 1 then get (codes "inputs") d else None

abbrev pub inputs_of : Option Node → List Variable
inputs_of None = []
inputs_of (Some f) = take f.inputs f.variables

abbrev pub is_given : Data → Variable → Bool
is_given given v = is_some (get v.name given)

-- it is an object, and each of its keys an input's name: as many inputs are given as it has members
abbrev pub names_inputs : List Variable → Data → Bool
names_inputs inputs given = is_some (as_object given) && (members_count given == count_by (is_given given) inputs)

-- an input that isn't named is absent
abbrev pub item_at : (Data → Option (Option Value)) → Option Data → Option (Option Value)
item_at read None = Some None
item_at read (Some d) = read d

abbrev pub named_item : Program → Names → Data → Variable → Option (Option Value)
named_item p names given v = item_at (item_of_json p names (Some v.kind)) (get v.name given)

abbrev pub named_row : Program → Names → List Variable → Data → Option Row
named_row p names inputs given = if names_inputs inputs given then each (named_item p names given) inputs else None

-- ---- requests

-- no instance has a name
abbrev pub alone : Program → Names → Scope
alone p names = record { program = p; names = names; instances = []; nodes = [] }

abbrev pub request_by : Program → Names → Option Node → Option Data → Data → Option Request
request_by p names f (Some given) d = option_map Step (named_row p names (inputs_of f) given)
request_by p names f None d = option_and_then (request_of (alone p names) f) (asked_alone d)

-- the request to a node that a value says
abbrev pub request_alone : Program → Names → Option Node → Data → Option Request
request_alone p names f d = request_by p names f (inputs_in d) d

-- the request that a text says
unfoldable pub request_in : Program → Names → Option Node → Text → Option Request
request_in p names f text = option_and_then (request_alone p names f) (read text)
