-- The form of scripts, a format of this program: what a JSON value says before its names are looked up and the values of its steps
-- are read. JSON is what `serde_json` reads: an object has each key once, with the last value that the text gives it.
use Rattle.std.specs.Prelude.{◌==◌, ◌&&◌, ◌||◌, ℕ, Bool, false, List, [], ◌∷◌, length, nat_le, codes}
use Rattle.std.specs.Prelude.{Option, Some, None, is_some, option_map, option_and_then, unwrap_or, if◌then◌else◌}
use Rattle.std.specs.List.{list_all}
use Rattle.std.specs.Option.{option_map_or}
use Rattle.serde_json.specs.Data.{Data, Items, no_items, item}
use Rattle.serde_json.specs.Events.{members_len}
use Rattle.lus_values.specs.Names.{Text}
use Rattle.lus_scripts.specs.Limits.{most_name_bytes}
use Rattle.serde_json.specs.Find.{get, as_str, as_array, as_object, as_bool, as_number, as_u64}

abbrev pub both : {A B : Type 0} → Option A → Option B → Option (A × B)
both None b = None
both (Some a) None = None
both (Some a) (Some b) = Some (a, b)

-- what f gives for each item, where it gives something for all of them
abbrev pub each : {A B : Type 0} → (A → Option B) → List A → Option (List B)
each f [] = Some []
each f (x ∷ xs) = option_map (λ p. p.0 ∷ p.1) (both (f x) (each f xs))

-- ---- values of JSON

abbrev pub listed : Items → List Data
listed no_items = []
listed (item d ds) = d ∷ listed ds

abbrev pub as_list : Data → Option (List Data)
as_list d = option_map listed (as_array d)

abbrev pub members_count : Data → ℕ
members_count d = option_map_or members_len (as_object d) 0

-- the values of an object with exactly these two keys: it has two members, and they are at these
abbrev pub two_members : Text → Text → Data → Option (Data × Data)
two_members a b d = if members_count d == 2 then both (get a d) (get b d) else None

-- ---- names

-- an ASCII letter or `_`
abbrev pub is_letter : ℕ → Bool
is_letter b = (nat_le 65 b && nat_le b 90) || ((nat_le 97 b && nat_le b 122) || b == 95)

abbrev pub is_name_byte : ℕ → Bool
is_name_byte b = is_letter b || (nat_le 48 b && nat_le b 57)

abbrev pub starts_with_letter : Text → Bool
starts_with_letter [] = false
starts_with_letter (b ∷ bs) = is_letter b

-- a letter, and then letters and digits, of no more bytes than a name may have
abbrev pub is_name : Text → Bool
is_name t = starts_with_letter t && (list_all is_name_byte t && nat_le (length t) most_name_bytes)

abbrev pub name_of : Data → Option Text
name_of d = option_and_then (λ t. if is_name t then Some t else None) (as_str d)

-- ---- calls

-- what a call asks of its instance
pub data Ask : Type 0 where
  step : List Data → Ask
  reset : Ask
  save : ℕ → Ask
  restore : ℕ → Ask
  burst : List Data → Ask

abbrev pub slot_of : Data → Option ℕ
slot_of d = option_and_then as_u64 (as_number d)

abbrev pub reset_of : Data → Option Ask
reset_of d = if unwrap_or (as_bool d) false then Some reset else None

abbrev pub is_list : Data → Bool
is_list d = is_some (as_list d)

-- a list of lists
abbrev pub burst_of : Data → Option Ask
burst_of d = option_and_then (λ ds. if list_all is_list ds then Some (burst ds) else None) (as_list d)

-- by the first of the keys that is there
abbrev pub ask_among : (step reset save restore burst : Option Data) → Option Ask
ask_among (Some d) r s t b = option_map step (as_list d)
ask_among None (Some d) s t b = reset_of d
ask_among None None (Some d) t b = option_map save (slot_of d)
ask_among None None None (Some d) b = option_map restore (slot_of d)
ask_among None None None None b = option_and_then burst_of b

abbrev pub ask_of : Data → Option Ask
ask_of d = ask_among (get (codes "step") d) (get (codes "reset") d) (get (codes "save") d) (get (codes "restore") d) (get (codes "burst") d)

pub record CallForm : Type 0 where
  pub on : Text
  pub ask : Ask

abbrev pub call_form : Data → Option CallForm
call_form d =
    if members_count d == 2
    then option_map (λ p. record { on = p.0; ask = p.1 }) (both (option_and_then as_str (get (codes "on") d)) (ask_of d))
    else None

-- ---- instances and callers

pub record InstanceForm : Type 0 where
  pub name : Text
  pub node : Text

abbrev pub instance_form : Data → Option InstanceForm
instance_form d =
    option_map (λ p. record { name = p.0; node = p.1 })
    (option_and_then (λ p. both (name_of p.0) (as_str p.1)) (two_members (codes "name") (codes "node") d))

pub record CallerForm : Type 0 where
  pub name : Text
  pub calls : List CallForm

abbrev pub calls_form : Data → Option (List CallForm)
calls_form d = option_and_then (each call_form) (as_list d)

abbrev pub caller_form : Data → Option CallerForm
caller_form d =
    option_map (λ p. record { name = p.0; calls = p.1 })
    (option_and_then (λ p. both (name_of p.0) (calls_form p.1)) (two_members (codes "name") (codes "calls") d))

pub record Form : Type 0 where
  pub instances : List InstanceForm
  pub callers : List CallerForm

abbrev pub instances_form : Data → Option (List InstanceForm)
instances_form d = option_and_then (each instance_form) (as_list d)

abbrev pub callers_form : Data → Option (List CallerForm)
callers_form d = option_and_then (each caller_form) (as_list d)

abbrev pub form_of : Data → Option Form
form_of d =
    option_map (λ p. record { instances = p.0; callers = p.1 })
    (option_and_then (λ p. both (instances_form p.0) (callers_form p.1)) (two_members (codes "instances") (codes "callers") d))
