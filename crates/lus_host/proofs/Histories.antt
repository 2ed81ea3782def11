-- What a run tells of journals and callers, in the words of scripts.
use Rattle.std.proofs.Common.{◌≡◌, ◌∙◌, refl, sym, ℕ, ◌<◌, ◌≤◌, ◌^◌, List, [], ◌∷◌, length, map, Bool, true, not, nat_le, nat_lt, Option, Some, None, is_some, Result, Ok, Err, IfOk, arith}
use Rattle.std.specs.List.{All, AllZip, list_all}
use Rattle.std.proofs.lemmas.Grind.{common_steps}
use Rattle.std.proofs.lemmas.List.{get_or-map, length-map}
use Rattle.std.proofs.lemmas.List.Elements.{All-cons, All-nil, All-head, All-tail}
use Rattle.std.proofs.lemmas.List.Folds.{list_all-map}
use Rattle.lus_values.specs.Lists.{Each, item}
use Rattle.lus_syntax.specs.declared.tree.NodeId.{NodeId}
use Rattle.lus_program.specs.Programs.{Program}
use Rattle.lus_requests.specs.declared.request.Entry.{Entry}
use Rattle.lus_callers.specs.HistorySpecs.Histories.{History}
use Rattle.lus_callers.specs.MachineSpecs.declared.error.CallError.{CallError}
use Rattle.lus_callers.specs.SharedSpecs.declared.shared.Journal.{Journal}
use Rattle.lus_callers.specs.Served.{AllCounted, AllServed, IsHistoryOf}
use Rattle.lus_requests.specs.declared.call.Call.{Call}
use Rattle.lus_requests.specs.declared.call.Caller.{Caller}
use Rattle.lus_host.specs.Runs.{AreHistories, IsServed}
use Rattle.lus_scripts.specs.Limits.{most_calls}
use Rattle.lus_scripts.specs.Scripts.{Scripts, are_on, have_few_calls}
use Rattle.lus_scripts.specs.View.{instance_kept}
use Rattle.lus_scripts.specs.declared.scripts.Instance.{Instance}
use Rattle.lus_scripts.proofs.ReadScripts.{parts}

pub all_ok : {X E : Type 0} (r : Result X E) {P Q R S : X → Type 0} → IfOk r P → IfOk r Q → IfOk r R → ((x : X) → P x → Q x → R x → S x) → IfOk r S
all_ok (Ok x) p q r f = f x p q r
all_ok (Err e) p q r f = tt

pub ok_then : {X E : Type 0} (r : Result X E) {P Q : X → Type 0} → IfOk r P → ((x : X) → P x → Q x) → IfOk r Q
ok_then (Ok x) p f = f x p
ok_then (Err e) p f = tt

-- ---- what a run requires

tested_below : (m n : ℕ) → nat_lt m n ≡ true → m < n
tested_below m n h = grind (arith, common_steps)

tested_within : (m : ℕ) → nat_le m most_calls ≡ true → m ≤ most_calls
tested_within m h = grind (arith, common_steps)

all_below : (n : ℕ) (cs : List Call) → list_all (λ c. nat_lt c.on n) cs ≡ true → All (λ c. c.on < n) cs
all_below n [] h = All-nil (λ c. c.on < n)
all_below n (c ∷ cs) h =
    let both = parts (nat_lt c.on n) (list_all (λ x. nat_lt x.on n) cs) h in
    All-cons (λ x. x.on < n) c cs (tested_below c.on n both.0) (all_below n cs both.1)

pub known_calls : (n : ℕ) (callers : List Caller) → are_on n callers ≡ true → All (λ v. All (λ c. c.on < n) v.calls.items) callers
known_calls n [] h = All-nil (λ v. All (λ c. c.on < n) v.calls.items)
known_calls n (v ∷ vs) h =
    let both = parts (list_all (λ c. nat_lt c.on n) v.calls.items) (are_on n vs) h in
    All-cons (λ x. All (λ c. c.on < n) x.calls.items) v vs (all_below n v.calls.items both.0) (known_calls n vs both.1)

few_of : (m : ℕ) → m ≤ most_calls → m < 2 ^ 32
few_of m h = omega arith

pub few_calls : (callers : List Caller) → have_few_calls callers ≡ true → All (λ v. length v.calls.items < 2 ^ 32) callers
few_calls [] h = All-nil (λ v. length v.calls.items < 2 ^ 32)
few_calls (v ∷ vs) h =
    let both = parts (nat_le (length v.calls.items) most_calls) (have_few_calls vs) h in
    All-cons (λ x. length x.calls.items < 2 ^ 32) v vs (few_of (length v.calls.items) (tested_within (length v.calls.items) both.0)) (few_calls vs both.1)

pub known_nodes : (n : ℕ) (is : List Instance) → Each (λ i. i.place < n) (map instance_kept is) → All (λ f. f.0 < n) (map (λ i. i.id) is)
known_nodes n [] h = All-nil (λ (f : NodeId). f.0 < n)
known_nodes n (i ∷ is) h = All-cons (λ (f : NodeId). f.0 < n) i.id (map (λ x. x.id) is) h.0 (known_nodes n is h.1)

pub kept_nodes : (n : ℕ) (is : List Instance) → All (λ i. i.id.0 < n) is → Each (λ i. i.place < n) (map instance_kept is)
kept_nodes n [] h = tt
kept_nodes n (i ∷ is) h = (All-head (λ (x : Instance). x.id.0 < n) i is h, kept_nodes n is (All-tail (λ (x : Instance). x.id.0 < n) i is h))

pub stored_nodes : (n : ℕ) (is : List Instance) → Each (λ i. i.place < n) (map instance_kept is) → All (λ i. i.id.0 < n) is
stored_nodes n [] h = All-nil (λ (x : Instance). x.id.0 < n)
stored_nodes n (i ∷ is) h = All-cons (λ (x : Instance). x.id.0 < n) i is h.0 (stored_nodes n is h.1)

-- ---- what it ensures

pub legal_of : (p : Program) (is : List Instance) (js : List Journal) → AllZip (λ f j. IsHistoryOf p f.0 j.entries.items) (map (λ i. i.id) is) js
    → AllZip (λ i h. History p i.place h) (map instance_kept is) (map (λ j. j.entries.items) js)
legal_of p [] [] h = tt
legal_of p [] (j ∷ js) h = h
legal_of p (i ∷ is) [] h = h
legal_of p (i ∷ is) (j ∷ js) h = (h.0.legal, legal_of p is js h.1)

abbrev pub is_none : Option CallError → Bool
is_none w = not (is_some w)

none_of : (w : Option CallError) → is_none w ≡ true → w ≡ None
none_of None h = refl
none_of (Some e) h = absurd (cc)

is_none_of : (w : Option CallError) → w ≡ None → is_none w ≡ true
is_none_of None h = refl
is_none_of (Some e) h = absurd (cc)

module _ (p : Program) (s : Scripts) (wants : List (Option CallError)) (shares : List (List ℕ)) (histories : List (List Entry))
    (n : ℕ) (counted : AllCounted n shares histories) (all : AllServed true s.calls wants shares histories) where
  served_by : (c : ℕ) → c < length s.calls → IsServed (item [] s.calls c) c histories (item [] shares c) (item true (map is_none wants) c)
  served_by c within =
      let by = all.each c within in
      let there : c < length wants = omega (arith, all.wanted) in
      let same : item true (map is_none wants) c ≡ is_none (item None wants c) = get_or-map is_none wants c None true there in
      record {
        front = by.front;
        within = by.within;
        is_whole = (λ h. by.whole.0 (none_of (item None wants c) (sym same ∙ h)), λ h. same ∙ is_none_of (item None wants c) (by.whole.1 h));
        made = by.entered refl;
        share = by.counted;
      }

  pub histories_are : AllZip (λ i h. History p i.place h) s.instances histories → AreHistories p s (list_all (λ w. not (is_some w)) wants) histories
  histories_are legal = record {
    legal = legal;
    whole = map is_none wants;
    count = length-map wants is_none ∙ all.wanted;
    shares = shares;
    shared = all.shared;
    served = served_by;
    entries = λ i within. (counted.each i (omega (arith, within, counted.count))).counted;
    all = sym (list_all-map (λ w. w) is_none wants);
  }
