-- The entry of a variable is what stands at its place.
use Rattle.std.proofs.Common.{◌∙◌, ap, sym, option_map}
use Rattle.std.specs.Prelude.{slice_get}
use Rattle.std.specs.Option.{option_and_then}
use Rattle.lus_source.proofs.Lookups.{at_place, variable_at}
use Rattle.lus_source.proofs.scope.Scope.variable.Goals as goal

pub returns-in-Some-copied : goal.returns-in-Some-copied
returns-in-Some-copied c =
    let s = c.args.self.now in
    let i = c.in-Some.place in
    ap (option_map (at_place i)) (sym c.in-Some-copied.is ∙ c.copied.ensures ∙ c.at.ensures)
    ∙ ap (option_and_then (λ j. option_map (at_place j) (slice_get s.variable_kinds.now j))) (sym c.in-Some.is ∙ c.place.ensures) ∙ variable_at s.variables.now s.variable_kinds.now c.args.name.now

pub returns-in-None-copied : goal.returns-in-None-copied
returns-in-None-copied c =
    let s = c.args.self.now in
    let i = c.in-Some.place in
    ap (option_map (at_place i)) (sym c.in-None-copied.is ∙ c.copied.ensures ∙ c.at.ensures)
    ∙ ap (option_and_then (λ j. option_map (at_place j) (slice_get s.variable_kinds.now j))) (sym c.in-Some.is ∙ c.place.ensures) ∙ variable_at s.variables.now s.variable_kinds.now c.args.name.now

pub returns-in-None : goal.returns-in-None
returns-in-None c =
    let s = c.args.self.now in
    ap (option_and_then (λ j. option_map (at_place j) (slice_get s.variable_kinds.now j))) (sym c.in-None.is ∙ c.place.ensures) ∙ variable_at s.variables.now s.variable_kinds.now c.args.name.now
