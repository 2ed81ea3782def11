-- Scripts are those of their form, or refused by the first check that fails; and they keep to what their ghost fields say.
use Rattle.std.proofs.Common.{◌≡◌, ◌∙◌, ap, sym, length, map, string_bytes, Ok, Err, inr}
use Rattle.lus_program.specs.View.{program_seen}
use Rattle.lus_scripts.specs.Forms.{each}
use Rattle.lus_scripts.specs.Scripts.{Scope, calls_of, calls_known, caller_names, instance_names, with_table}
use Rattle.lus_scripts.specs.View.{calls_kept, form_seen, instance_kept}
use Rattle.lus_scripts.specs.declared.refusal.ScriptRefusal.TheVariants.{Form}
use Rattle.std.proofs.lemmas.List.{length-map}
use Rattle.lus_scripts.proofs.Checks.{all_read, calls_known-seen, other_values, refused_by, unknown_instance}
use Rattle.lus_scripts.proofs.ReadScripts.{kept_count, kept_few, kept_few_calls, kept_known, same_scope}
use Rattle.lus_scripts.proofs.reading.with_table.Goals as goal

pub returns-then-not-are_calls_known-clause-refused : goal.returns-then-not-are_calls_known-clause-refused
returns-then-not-are_calls_known-clause-refused c =
    let f = form_seen c.args.form.now in
    let known : c.are_calls_known.result ≡ calls_known (instance_names f) f.callers =
    c.are_calls_known.ensures ∙ calls_known-seen (map string_bytes c.args.table.now.keys) c.args.form.now.callers.items
    ∙ ap (λ ns. calls_known ns f.callers) c.requires.table in
    inr (unknown_instance (program_seen c.args.program.now) c.args.names.now f (map instance_kept c.in-Ok.instances.items) c.in-Ok.ensures.ok
    (sym known ∙ c.if-not-are_calls_known.true))

pub invariant_of-result : goal.invariant_of-result
invariant_of-result c =
    let p = program_seen c.args.program.now in
    let names = c.args.names.now in
    let f = form_seen c.args.form.now in
    let is = c.in-Ok.instances.items in
    let callers = c.in-Ok-read_callers.callers.items in
    let scope = same_scope p names f (map string_bytes c.args.table.now.keys) c.deref.result.now is c.requires.table c.deref.ensures.value in
    let calls = ap (λ (s : Scope). each (calls_of s) f.callers) (sym scope) ∙ c.in-Ok-read_callers.ensures.ok in
    let texts : map string_bytes c.in_ok-names-in-Ok-read_callers.names.items ≡ caller_names f =
    c.in_ok-names-in-Ok-read_callers.ensures ∙ ap (map (λ n. n.now)) c.deref-in-Ok-read_callers.ensures.value ∙ c.in_ok-caller_names-in-Ok-read_callers.ensures in
    record {
      known = kept_known p names f is callers c.in-Ok.ensures.ok calls;
      named = sym (length-map c.in_ok-names-in-Ok-read_callers.names.items string_bytes) ∙ ap length texts ∙ length-map f.callers (λ x. x.name) ∙ sym (kept_count p names f is callers c.in-Ok.ensures.ok calls);
      few = kept_few p names f is callers c.in-Ok.ensures.ok calls c.requires.limits;
      few_calls = kept_few_calls p names f is callers c.in-Ok.ensures.ok calls c.requires.limits;
    }

pub returns-in_ok-names-in-Ok-read_callers-clause-ok : goal.returns-in_ok-names-in-Ok-read_callers-clause-ok
returns-in_ok-names-in-Ok-read_callers-clause-ok c =
    let p = program_seen c.args.program.now in
    let names = c.args.names.now in
    let f = form_seen c.args.form.now in
    let known : c.are_calls_known.result ≡ calls_known (instance_names f) f.callers =
    c.are_calls_known.ensures ∙ calls_known-seen (map string_bytes c.args.table.now.keys) c.args.form.now.callers.items
    ∙ ap (λ ns. calls_known ns f.callers) c.requires.table in
    let scope = same_scope p names f (map string_bytes c.args.table.now.keys) c.deref.result.now c.in-Ok.instances.items c.requires.table c.deref.ensures.value in
    let calls = ap (λ (s : Scope). each (calls_of s) f.callers) (sym scope) ∙ c.in-Ok-read_callers.ensures.ok in
    let kept = map calls_kept c.in-Ok-read_callers.callers.items in
    let texts : map string_bytes c.in_ok-names-in-Ok-read_callers.names.items ≡ caller_names f =
    c.in_ok-names-in-Ok-read_callers.ensures ∙ ap (map (λ n. n.now)) c.deref-in-Ok-read_callers.ensures.value ∙ c.in_ok-caller_names-in-Ok-read_callers.ensures in
    all_read p names f (map instance_kept c.in-Ok.instances.items) kept c.in-Ok.ensures.ok (sym known ∙ c.if-not-are_calls_known.false) calls
    ∙ ap (λ ns. Ok (record { instances = map instance_kept c.in-Ok.instances.items; callers = ns; calls = kept })) (sym texts)

pub returns-in-Err-read_callers-clause-refused : goal.returns-in-Err-read_callers-clause-refused
returns-in-Err-read_callers-clause-refused c =
    let p = program_seen c.args.program.now in
    let names = c.args.names.now in
    let f = form_seen c.args.form.now in
    let known : c.are_calls_known.result ≡ calls_known (instance_names f) f.callers =
    c.are_calls_known.ensures ∙ calls_known-seen (map string_bytes c.args.table.now.keys) c.args.form.now.callers.items
    ∙ ap (λ ns. calls_known ns f.callers) c.requires.table in
    let scope = same_scope p names f (map string_bytes c.args.table.now.keys) c.deref.result.now c.in-Ok.instances.items c.requires.table c.deref.ensures.value in
    refused_by (with_table p names f) Form c.in-Err-read_callers.refusal c.in-Err-read_callers.ensures.errors
    (λ same. other_values p names f (map instance_kept c.in-Ok.instances.items) c.in-Ok.ensures.ok (sym known ∙ c.if-not-are_calls_known.false)
    (ap (λ (s : Scope). each (calls_of s) f.callers) (sym scope) ∙ c.in-Err-read_callers.ensures.form (ap (λ e. Err e) same)))
