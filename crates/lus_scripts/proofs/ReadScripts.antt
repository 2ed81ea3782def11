-- What scripts that are read keep: their instances are of nodes of the program, their calls are on their instances, and there
-- are no more callers and calls than in their form.
use Rattle.std.proofs.Common.{◌≡◌, ◌∙◌, refl, sym, ap, ap₂, subst, ℕ, ◌&&◌, ◌<◌, ◌≤◌, List, [], ◌∷◌, length, map, Bool, true, false, nat_le, nat_lt, Option, Some, None, Result, Ok, option_map, arith}
use Rattle.std.specs.Prelude.{option_and_then}
use Rattle.std.specs.List.{list_all}
use Rattle.std.proofs.lemmas.Grind.{common_steps}
use Rattle.std.proofs.lemmas.List.{length-map}
use Rattle.std.proofs.lemmas.List.Folds.{list_all-map}
use Rattle.std.proofs.lemmas.List.Quantifiers.{position-Some}
use Rattle.std.specs.Str.{bytes_eq}
use Rattle.serde_json.specs.Data.{Data}
use Rattle.lus_values.specs.Names.{Text, Names}
use Rattle.lus_requests.specs.declared.request.Request.{Request}
use Rattle.lus_program.specs.Programs.{Program, empty_node}
use Rattle.lus_requests.specs.declared.call.Call.{Call}
use Rattle.lus_requests.specs.declared.call.Caller.{Caller}
use Rattle.lus_scripts.specs.View.{calls_kept, instance_kept}
use Rattle.lus_scripts.specs.declared.scripts.Instance.{Instance as StoredInstance}
use Rattle.lus_scripts.specs.Limits.{most_callers, most_calls, most_instances}
use Rattle.lus_scripts.specs.Forms.{CallForm, CallerForm, Form, InstanceForm, both, each, form_of}
use Rattle.lus_scripts.specs.Scripts.{HaveNodes, are_on, have_few_calls, Instance, Scope, Scripts, all_distinct, call_of, caller_names, calls_known, calls_of, demand, instance_names, instance_of, node_named, node_on, place_of, request_of, scope_of, scripts_of, scripts_of_form, scripts_of_option, with_calls, with_instances, within_limits}
use Rattle.lus_scripts.specs.declared.refusal.ScriptRefusal.{ScriptRefusal}
use Rattle.lus_scripts.specs.declared.refusal.ScriptRefusal.TheVariants as refusal

-- ---- what f gives for each item

record Given {A B : Type 0} (f : A → Option B) (x : A) (xs : List A) (ys : List B) : Type 0 where
  first : B
  rest : List B
  gives : f x ≡ Some first
  further : each f xs ≡ Some rest
  are : ys ≡ first ∷ rest

given : {A B : Type 0} (f : A → Option B) (x : A) (xs : List A) (ys : List B) → each f (x ∷ xs) ≡ Some ys → Given f x xs ys
given {A = A} {B = B} f x xs ys same = go (f x) (each f xs) refl refl same
  where
    go : (a : Option B) (b : Option (List B)) → f x ≡ a → each f xs ≡ b → option_map (λ p. p.0 ∷ p.1) (both a b) ≡ Some ys → Given f x xs ys
    go None b e d h = absurd (cc)
    go (Some y) None e d h = absurd (cc)
    go (Some y) (Some zs) e d h = record { first = y; rest = zs; gives = e; further = d; are = cc }

pub each_length : {A B : Type 0} (f : A → Option B) (xs : List A) (ys : List B) → each f xs ≡ Some ys → length ys ≡ length xs
each_length f [] ys same = let none : ys ≡ [] = cc in ap length none
each_length f (x ∷ xs) ys same =
    let g = given f x xs ys same in
    let rest : length g.rest ≡ length xs = each_length f xs g.rest g.further in
    let size : length ys ≡ length (g.first ∷ g.rest) = ap length g.are in
    grind (arith, common_steps)

pub parts : (a b : Bool) → (a && b) ≡ true → (a ≡ true) × (b ≡ true)
parts true b both = (refl, both)
parts false b both = absurd (cc)

-- ---- calls

below_test : (m n : ℕ) → m < n → nat_lt m n ≡ true
below_test m n h = grind (arith, common_steps)

module _ (s : Scope) where
  on_one : (c : CallForm) (call : Call) → call_of s c ≡ Some call → nat_lt call.on (length s.instances) ≡ true
  on_one c call same = go (place_of s.instances c.on) refl same
    where
      asked : (on : ℕ) (r : Option Request) → place_of s.instances c.on ≡ Some on
          → option_map (λ q. record { on = on; request = q }) r ≡ Some call → nat_lt call.on (length s.instances) ≡ true
      asked on None e h = absurd (cc)
      asked on (Some r) e h =
          let there : on < length s.instances = (position-Some (bytes_eq c.on) s.instances on [] e).0 in
          let same : record { on = on; request = r } ≡ call = cc in
          subst (λ (x : Call). nat_lt x.on (length s.instances) ≡ true) same (below_test on (length s.instances) there)

      go : (on : Option ℕ) → place_of s.instances c.on ≡ on
          → option_and_then (λ n. option_map (λ q. record { on = n; request = q }) (request_of s (node_on s n) c.ask)) on ≡ Some call
          → nat_lt call.on (length s.instances) ≡ true
      go None e h = absurd (cc)
      go (Some on) e h = asked on (request_of s (node_on s on) c.ask) e h

  all_on : (cs : List CallForm) (calls : List Call) → each (call_of s) cs ≡ Some calls → list_all (λ c. nat_lt c.on (length s.instances)) calls ≡ true
  all_on [] calls same = let none : [] ≡ calls = cc in subst (λ (x : List Call). list_all (λ c. nat_lt c.on (length s.instances)) x ≡ true) none refl
  all_on (c ∷ cs) calls same =
      let g = given (call_of s) c cs calls same in
      let made : list_all (λ x. nat_lt x.on (length s.instances)) (g.first ∷ g.rest) ≡ true = rw (on_one c g.first g.gives) (all_on cs g.rest g.further) in
      subst (λ (x : List Call). list_all (λ y. nat_lt y.on (length s.instances)) x ≡ true) (sym g.are) made

  -- each call that is read is on an instance
  pub calls_on : (cs : List CallerForm) (calls : List (List Call)) → each (calls_of s) cs ≡ Some calls
      → list_all (list_all (λ c. nat_lt c.on (length s.instances))) calls ≡ true
  calls_on [] calls same = let none : [] ≡ calls = cc in subst (λ (x : List (List Call)). list_all (list_all (λ c. nat_lt c.on (length s.instances))) x ≡ true) none refl
  calls_on (c ∷ cs) calls same =
      let g = given (calls_of s) c cs calls same in
      let made : list_all (list_all (λ x. nat_lt x.on (length s.instances))) (g.first ∷ g.rest) ≡ true =
      rw (all_on c.calls g.first g.gives) (calls_on cs g.rest g.further) in
      subst (λ (x : List (List Call)). list_all (list_all (λ y. nat_lt y.on (length s.instances))) x ≡ true) (sym g.are) made

  -- a caller has as many calls as its form
  pub few_read : (cs : List CallerForm) (calls : List (List Call)) → list_all (λ c. nat_le (length c.calls) most_calls) cs ≡ true → each (calls_of s) cs ≡ Some calls
      → list_all (λ c. nat_le (length c) most_calls) calls ≡ true
  few_read [] calls few same = let none : [] ≡ calls = cc in subst (λ (x : List (List Call)). list_all (λ c. nat_le (length c) most_calls) x ≡ true) none refl
  few_read (c ∷ cs) calls few same =
      let g = given (calls_of s) c cs calls same in
      let both = parts (nat_le (length c.calls) most_calls) (list_all (λ x. nat_le (length x.calls) most_calls) cs) few in
      let first : nat_le (length g.first) most_calls ≡ true = ap (λ n. nat_le n most_calls) (each_length (call_of s) c.calls g.first g.gives) ∙ both.0 in
      let made : list_all (λ x. nat_le (length x) most_calls) (g.first ∷ g.rest) ≡ true = rw first (few_read cs g.rest both.1 g.further) in
      subst (λ (x : List (List Call)). list_all (λ y. nat_le (length y) most_calls) x ≡ true) (sym g.are) made

pub limits : (f : Form) → within_limits f ≡ true → (nat_le (length f.callers) most_callers ≡ true) × (list_all (λ c. nat_le (length c.calls) most_calls) f.callers ≡ true)
limits f within =
    let outer = parts (nat_le (length f.instances) most_instances) (nat_le (length f.callers) most_callers && list_all (λ c. nat_le (length c.calls) most_calls) f.callers) within in
    parts (nat_le (length f.callers) most_callers) (list_all (λ c. nat_le (length c.calls) most_calls) f.callers) outer.1

-- ---- instances

module _ (p : Program) where
  of_node : (i : InstanceForm) (kept : Instance) → instance_of p i ≡ Some kept → kept.place < length p.nodes
  unfolding instance_of
  of_node i kept same = go (node_named p i.node) refl same
    where
      go : (place : Option ℕ) → node_named p i.node ≡ place → option_map (λ k. record { name = i.name; node = i.node; place = k }) place ≡ Some kept → kept.place < length p.nodes
      go None e h = absurd (cc)
      go (Some k) e h =
          let there : k < length p.nodes = (position-Some (λ f. bytes_eq f.name i.node) p.nodes k empty_node e).0 in
          let same : record { name = i.name; node = i.node; place = k } ≡ kept = cc in
          subst (λ (x : Instance). x.place < length p.nodes) same there

  pub nodes_known : (is : List InstanceForm) (kept : List Instance) → each (instance_of p) is ≡ Some kept → HaveNodes p kept
  nodes_known [] kept same = let none : [] ≡ kept = cc in subst (HaveNodes p) none tt
  nodes_known (i ∷ is) kept same =
      let g = given (instance_of p) i is kept same in
      let made : HaveNodes p (g.first ∷ g.rest) = (of_node i g.first g.gives, nodes_known is g.rest g.further) in
      subst (HaveNodes p) (sym g.are) made

-- ---- scripts

demanded_ok : {A : Type 0} (b : Bool) (e : ScriptRefusal) (r : Result A ScriptRefusal) (a : A) → demand b e r ≡ Ok a → r ≡ Ok a
demanded_ok true e r a same = same
demanded_ok false e r a same = absurd (cc)

module _ (p : Program) (names : Names) (s : Scripts) where
  with_those : (f : Form) (instances : List Instance) (calls : Option (List (List Call))) → HaveNodes p instances → with_calls f instances calls ≡ Ok s
      → HaveNodes p s.instances
  with_those f instances None known same = absurd (cc)
  with_those f instances (Some calls) known same =
      let made : record { instances = instances; callers = caller_names f; calls = calls } ≡ s = cc in
      subst (λ (x : Scripts). HaveNodes p x.instances) made known

  of_instances : (f : Form) (instances : Option (List Instance)) → each (instance_of p) f.instances ≡ instances → with_instances p names f instances ≡ Ok s
      → HaveNodes p s.instances
  of_instances f None e same = absurd (cc)
  of_instances f (Some instances) e same =
      with_those f instances (each (calls_of (scope_of p names f instances)) f.callers) (nodes_known p f.instances instances e)
      (demanded_ok (calls_known (instance_names f) f.callers) refusal.Unknown _ s same)

  of_form : (f : Form) → scripts_of_form p names f ≡ Ok s → HaveNodes p s.instances
  of_form f same =
      let within = demanded_ok (within_limits f) refusal.Limit _ s same in
      let instances = demanded_ok (all_distinct (instance_names f)) refusal.Double _ s within in
      let callers = demanded_ok (all_distinct (caller_names f)) refusal.Double _ s instances in
      of_instances f (each (instance_of p) f.instances) refl callers

  of_option : (f : Option Form) → scripts_of_option p names f ≡ Ok s → HaveNodes p s.instances
  of_option None same = absurd (cc)
  of_option (Some f) same = of_form f same

  -- the instances of scripts are of nodes of the program
  pub instances_known : (d : Data) → scripts_of p names d ≡ Ok s → HaveNodes p s.instances
  instances_known d same = of_option (form_of d) same

-- ---- what is kept of scripts

places : (is : List StoredInstance) → map (λ i. i.id.0) is ≡ map (λ i. i.place) (map instance_kept is)
places [] = refl
places (i ∷ is) = ap (λ ns. i.id.0 ∷ ns) (places is)

pub same_scope : (p : Program) (names : Names) (f : Form) (keys : List Text) (is kept : List StoredInstance) → keys ≡ instance_names f → is ≡ kept
    → record { program = p; names = names; instances = keys; nodes = map (λ i. i.id.0) is } ≡ scope_of p names f (map instance_kept kept)
same_scope p names f keys is kept same are =
    let nodes : map (λ i. i.id.0) is ≡ map (λ i. i.place) (map instance_kept kept) = places is ∙ ap (λ (x : List StoredInstance). map (λ i. i.place) (map instance_kept x)) are in
    let made : List Text → List ℕ → Scope = λ ks ns. record { program = p; names = names; instances = ks; nodes = ns } in
    ap₂ made same nodes

module _ (p : Program) (names : Names) (f : Form) (is : List StoredInstance) (callers : List Caller)
    (instances : each (instance_of p) f.instances ≡ Some (map instance_kept is))
    (calls : each (calls_of (scope_of p names f (map instance_kept is))) f.callers ≡ Some (map calls_kept callers)) where
  pub kept_known : are_on (length is) callers ≡ true
  kept_known =
      let size : length (instance_names f) ≡ length is =
      length-map f.instances (λ i. i.name) ∙ sym (each_length (instance_of p) f.instances (map instance_kept is) instances) ∙ length-map is instance_kept in
      let on = calls_on (scope_of p names f (map instance_kept is)) f.callers (map calls_kept callers) calls in
      subst (λ n. list_all (λ c. list_all (λ call. nat_lt call.on n) c.calls.items) callers ≡ true) size
      (sym (list_all-map (list_all (λ call. nat_lt call.on (length (instance_names f)))) calls_kept callers) ∙ on)

  pub kept_count : length callers ≡ length f.callers
  kept_count = sym (length-map callers calls_kept) ∙ each_length (calls_of (scope_of p names f (map instance_kept is))) f.callers (map calls_kept callers) calls

  pub kept_few : within_limits f ≡ true → length callers ≤ most_callers
  kept_few within = let few = (limits f within).0 in let same = kept_count in grind (arith, common_steps)

  pub kept_few_calls : within_limits f ≡ true → have_few_calls callers ≡ true
  kept_few_calls within =
      sym (list_all-map (λ (c : List Call). nat_le (length c) most_calls) calls_kept callers)
      ∙ few_read (scope_of p names f (map instance_kept is)) f.callers (map calls_kept callers) (limits f within).1 calls
