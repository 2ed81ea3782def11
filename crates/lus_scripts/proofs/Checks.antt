-- The checks of scripts after their form, one by one.
use Rattle.std.proofs.Common.{◌≡◌, ◌∙◌, ap, ap₂, sym, refl, List, [], ◌∷◌, map, Bool, true, false, ◌&&◌, Option, Some, None, is_some, Result, Ok, Err, ◌⊎◌, inl, inr}
use Rattle.std.specs.List.{list_all}
use Rattle.lus_values.specs.Names.{Text, Names}
use Rattle.lus_program.specs.Programs.{Program}
use Rattle.lus_requests.specs.declared.call.Call.{Call}
use Rattle.lus_scripts.specs.Forms.{Form, each, form_of}
use Rattle.serde_json.specs.Data.{Data}
use Rattle.lus_scripts.specs.Scripts.{Instance, all_distinct, caller_names, calls_of, calls_known, demand, instance_names, instance_of, place_of, scope_of, scripts_of, scripts_of_form, scripts_of_option, with_calls, with_instances, with_table, within_limits}
use Rattle.lus_scripts.specs.View.{call_seen, caller_seen}
use Rattle.lus_scripts.specs.declared.form.CallForm.{CallForm}
use Rattle.lus_scripts.specs.declared.form.CallerForm.{CallerForm}
use Rattle.lus_scripts.specs.declared.refusal.ScriptRefusal.{ScriptRefusal}
use Rattle.lus_scripts.specs.declared.refusal.ScriptRefusal.TheVariants as refusal

known_call : (ns : List Text) (cs : List CallForm) → list_all (λ c. is_some (place_of ns c.on.now)) cs ≡ list_all (λ c. is_some (place_of ns c.on)) (map call_seen cs)
known_call ns [] = refl
known_call ns (c ∷ cs) = ap (λ b. is_some (place_of ns c.on.now) && b) (known_call ns cs)

-- whether the calls are known, asked of the forms as the code holds them
pub calls_known-seen : (ns : List Text) (cs : List CallerForm)
    → list_all (λ c. list_all (λ call. is_some (place_of ns call.on.now)) c.calls.items) cs ≡ calls_known ns (map caller_seen cs)
calls_known-seen ns [] = refl
calls_known-seen ns (c ∷ cs) = ap₂ (λ a b. a && b) (known_call ns c.calls.items) (calls_known-seen ns cs)

module _ (p : Program) (names : Names) (f : Form) where
  pub double_instances : within_limits f ≡ true → all_distinct (instance_names f) ≡ false → scripts_of_form p names f ≡ Err refusal.Double
  double_instances within double = rw (within, double) refl

  pub double_callers : within_limits f ≡ true → all_distinct (instance_names f) ≡ true → all_distinct (caller_names f) ≡ false
      → scripts_of_form p names f ≡ Err refusal.Double
  double_callers within instances double = rw (within, instances, double) refl

  pub past_names : within_limits f ≡ true → all_distinct (instance_names f) ≡ true → all_distinct (caller_names f) ≡ true
      → scripts_of_form p names f ≡ with_table p names f
  past_names within instances callers = rw (within, instances, callers) refl

  pub unknown_node : each (instance_of p) f.instances ≡ None → with_table p names f ≡ Err refusal.Unknown
  unknown_node none = rw none refl

  pub unknown_instance : (instances : List Instance) → each (instance_of p) f.instances ≡ Some instances → calls_known (instance_names f) f.callers ≡ false
      → with_table p names f ≡ Err refusal.Unknown
  unknown_instance instances all unknown = rw (all, unknown) refl

  pub other_values : (instances : List Instance) → each (instance_of p) f.instances ≡ Some instances → calls_known (instance_names f) f.callers ≡ true
      → each (calls_of (scope_of p names f instances)) f.callers ≡ None → with_table p names f ≡ Err refusal.Form
  other_values instances all known none = rw (all, known, none) refl

  pub all_read : (instances : List Instance) (calls : List (List Call)) → each (instance_of p) f.instances ≡ Some instances
      → calls_known (instance_names f) f.callers ≡ true → each (calls_of (scope_of p names f instances)) f.callers ≡ Some calls
      → with_table p names f ≡ Ok (record { instances = instances; callers = caller_names f; calls = calls })
  all_read instances calls all known read = rw (all, known, read) refl

-- a refusal by one check is that of the whole, or out of memory
pub refused_by : {A : Type 0} (whole : Result A ScriptRefusal) (by e : ScriptRefusal) → (e ≡ by) ⊎ (e ≡ refusal.Memory) → (e ≡ by → whole ≡ Err by)
    → (e ≡ refusal.Memory) ⊎ (whole ≡ Err e)
refused_by whole by e (inl same) is = inr (is same ∙ ap (λ r. Err r) (sym same))
refused_by whole by e (inr memory) is = inl memory

-- ---- a refusal of a JSON value isn't that it is none

demanded : {A : Type 0} (b : Bool) (x : ScriptRefusal) (r : Result A ScriptRefusal) → (x ≡ refusal.Json → ⊥) → (r ≡ Err refusal.Json → ⊥)
    → demand b x r ≡ Err refusal.Json → ⊥
demanded true x r other never same = never same
demanded false x r other never same = other (cc)

never_calls : (f : Form) (instances : List Instance) (calls : Option (List (List Call))) → with_calls f instances calls ≡ Err refusal.Json → ⊥
never_calls f instances None same = cc
never_calls f instances (Some calls) same = cc

never_instances : (p : Program) (names : Names) (f : Form) (instances : Option (List Instance)) → with_instances p names f instances ≡ Err refusal.Json → ⊥
never_instances p names f None same = cc
never_instances p names f (Some instances) same =
    demanded (calls_known (instance_names f) f.callers) refusal.Unknown _ (λ e. cc)
    (never_calls f instances (each (calls_of (scope_of p names f instances)) f.callers)) same

never_form : (p : Program) (names : Names) (f : Form) → scripts_of_form p names f ≡ Err refusal.Json → ⊥
never_form p names f same =
    demanded (within_limits f) refusal.Limit _ (λ e. cc)
    (demanded (all_distinct (instance_names f)) refusal.Double _ (λ e. cc)
    (demanded (all_distinct (caller_names f)) refusal.Double _ (λ e. cc)
    (never_instances p names f (each (instance_of p) f.instances)))) same

never_option : (p : Program) (names : Names) (form : Option Form) → scripts_of_option p names form ≡ Err refusal.Json → ⊥
never_option p names None same = cc
never_option p names (Some f) same = never_form p names f same

pub never_json : (p : Program) (names : Names) (d : Data) → scripts_of p names d ≡ Err refusal.Json → ⊥
never_json p names d same = never_option p names (form_of d) same
