-- The first variables' names.
use Rattle.std.proofs.Common.{◌≡◌, ◌∙◌, ◌+◌, ap, map, subst, sym, take}
use Rattle.std.specs.List.{take-map}
use Rattle.lus_program.specs.View.{variable_of}
use Rattle.lus_traces.specs.Traces.{name_of}
use Rattle.lus_sketches.specs.Paths.{Chosen, all_from, chosen_seen}
use Rattle.lus_sketches.specs.Signals.{formal_names}
use Rattle.lus_sketches.proofs.Chosen.{all_names}
use Rattle.lus_sketches.proofs.signals.formals.Goals as goal

pub returns : goal.returns
returns c =
    let f = c.in-Some.found.now in
    let n = f.inputs + f.outputs in
    let every : map chosen_seen c.in_ok-every.every.items ≡ all_from 0 (map variable_of f.variables.items) =
    c.in_ok-every.ensures ∙ ap (λ l. all_from 0 (map variable_of l)) c.deref.ensures.value in
    let names : map name_of c.in_ok-signals.signals.items ≡ map (λ v. v.name) (map variable_of f.variables.items) =
    c.in_ok-signals.ensures ∙ ap (λ l. map (λ (o : Chosen). o.0) (map chosen_seen l)) c.deref-2.ensures.value ∙ ap (map (λ (o : Chosen). o.0)) every
    ∙ all_names 0 (map variable_of f.variables.items) in
    subst (λ g. map name_of c.truncate.new.self.items ≡ formal_names g) c.in-Some.ensures
    (ap (map name_of) c.truncate.ensures.items ∙ sym (take-map name_of n c.in_ok-signals.signals.items) ∙ ap (take n) names)
