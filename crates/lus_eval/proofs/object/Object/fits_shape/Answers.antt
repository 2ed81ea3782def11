use Rattle.std.proofs.Common.{◌≡◌, ◌∙◌, sym, ap, subst, map, take, length, ◌≤◌, arith}
use Rattle.std.proofs.lemmas.List.{take-map, length-map, length-take-le}
use Rattle.lus_program.specs.declared.types.Kind.{Kind}
use Rattle.lus_program.specs.Programs.{Variable, node_at}
use Rattle.lus_program.specs.View.{node_of, program_seen, variable_of}
use Rattle.lus_program.specs.Resolved.{input_kinds}
use Rattle.lus_code.specs.SimulationSpecs.Fitting.{has_shape, row_fits}
use Rattle.lus_code.proofs.SimulationProofs.Lived.{HasFormals, formals_at}
use Rattle.lus_code.specs.Codes.{program_of}
use Rattle.lus_eval.specs.Objects.{Kept, kept_by, IsObjectOf}
use Rattle.lus_eval.proofs.KeptRows.{source_node}
use Rattle.lus_eval.proofs.object.Object.fits_shape.Goals as goal

abbrev kind_in : Variable → Kind
kind_in v = v.kind

pub slice_bounds-variables-end : goal.slice_bounds-variables-end
slice_bounds-variables-end c =
    let code = c.args.code.now in
    let shaped = subst (IsObjectOf code) (sym c.self.view_is) c.requires in
    let o = kept_by c.self.inside.instance in
    let n = c.index-node.result.now in
    let vs = c.deref.result.now in
    let node = source_node code o shaped c.classes-classes.ensures.correct c.program-program.result.now c.program-program.ensures.same n c.index-node.ensures in
    let formals = subst HasFormals node (formals_at (program_of code) c.classes-classes.ensures.correct.checked.resolved o.node) in
    let long : length vs ≡ length (map variable_of n.variables.items) = ap length c.deref.ensures.value ∙ sym (length-map n.variables.items variable_of) in
    let within : n.inputs ≤ length vs = omega (arith, formals, long) in
    sym (length-take-le n.inputs vs within)

pub returns : goal.returns
returns c =
    let code = c.args.code.now in
    let shaped = subst (IsObjectOf code) (sym c.self.view_is) c.requires in
    let o = kept_by c.self.inside.instance in
    let node = source_node code o shaped c.classes-classes.ensures.correct c.program-program.result.now c.program-program.ensures.same c.index-node.result.now c.index-node.ensures in
    let p = program_of code in
    let i = c.args.inputs.now in
    let n = c.index-node.result.now in
    let variables : map kind_in (map variable_of (take n.inputs c.deref.result.now)) ≡ input_kinds (node_of n) =
    ap (λ vs. map kind_in (map variable_of (take n.inputs vs))) c.deref.ensures.value ∙ ap (map kind_in) (sym (take-map variable_of n.inputs n.variables.items)) in
    let declared : input_kinds (node_of n) ≡ input_kinds (node_at p o.node) = ap input_kinds (sym node) in
    c.row_fits.ensures
    ∙ (λ j. row_fits (program_seen (c.program-program.ensures.same j)) ((variables ∙ declared) j) (c.items.ensures j))
    ∙ ap (λ (k : Kept). has_shape p k.node i) c.self.view_is
