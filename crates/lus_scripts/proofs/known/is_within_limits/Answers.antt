-- The limits are tested on the code's lists, and meant of the forms that they stand for.
use Rattle.std.proofs.Common.{rules, ◌≡◌, ◌∙◌, ap, sym, ◌≤◌, length, map, nat_le, Bool, true, arith, ap₂, refl, List, [], ◌∷◌, ◌&&◌}
use Rattle.std.specs.List.{list_all}
use Rattle.std.proofs.lemmas.Grind.{common_steps}
use Rattle.std.proofs.lemmas.List.{length-map}
use Rattle.lus_scripts.specs.Forms.{Form}
use Rattle.lus_scripts.specs.Limits.{most_callers, most_calls, most_instances}
use Rattle.lus_scripts.specs.Scripts.{within_limits}
use Rattle.lus_scripts.specs.View.{call_seen, caller_seen, form_seen}
use Rattle.lus_scripts.specs.declared.form.CallerForm.{CallerForm}
use Rattle.lus_scripts.proofs.known.is_within_limits.Goals as goal

kept : (f : Form) (few : Bool) → length f.instances ≤ most_instances → length f.callers ≤ most_callers
    → few ≡ list_all (λ c. nat_le (length c.calls) most_calls) f.callers → few ≡ within_limits f
kept f few instances callers same =
    let first : nat_le (length f.instances) most_instances ≡ true = grind (arith, common_steps) in
    let second : nat_le (length f.callers) most_callers ≡ true = grind (arith, common_steps) in
    rw (first, second) same

few_seen : (cs : List CallerForm) → list_all (λ c. nat_le (length c.calls.items) most_calls) cs ≡ list_all (λ c. nat_le (length c.calls) most_calls) (map caller_seen cs)
few_seen [] = refl
few_seen (c ∷ cs) = ap₂ (λ n b. nat_le n most_calls && b) (sym (length-map c.calls.items call_seen)) (few_seen cs)

pub returns-then-len-le-MOST_CALLERS : goal.returns-then-len-le-MOST_CALLERS
returns-then-len-le-MOST_CALLERS c =
    let f = form_seen c.args.form.now in
    kept f c.have_few_calls.result
    (simp length-map (search rules))
    (simp length-map (search rules))
    (c.have_few_calls.ensures ∙ ap (list_all (λ x. nat_le (length x.calls.items) most_calls)) c.deref.ensures.value ∙ few_seen c.args.form.now.callers.items)
