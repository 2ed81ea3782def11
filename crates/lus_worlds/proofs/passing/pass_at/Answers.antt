-- The base of the call and the values of its arguments.
use Rattle.std.proofs.Common.{◌≡◌, ◌∙◌, suc, map, sym, ap, subst}
use Rattle.lus_values.specs.View.{entry_of}
use Rattle.lus_program.specs.Programs.{node_at}
use Rattle.lus_program.specs.View.{operands_of, program_seen}
use Rattle.lus_streams.specs.Clocks.{base_of}
use Rattle.lus_streams.specs.Streams.{instant, is_on, nobody}
use Rattle.lus_parts.specs.Parts.{part_of}
use Rattle.lus_reference.specs.Given.{ArePassedAt}
use Rattle.lus_reference.proofs.Parts.{on_is}
use Rattle.lus_worlds.proofs.passing.pass_at.Goals as goal

pub returns : goal.returns
returns c =
    let p = program_seen c.args.program.now in
    let b = c.args.present in
    let row = map entry_of c.args.row.now in
    let rows = c.args.rows.now in
    let g = c.args.called in
    let es = operands_of c.args.arguments.now in
    let base = base_of (node_at p g) c.args.part.now.clock.items in
    let base_is : c.in_ok-base.base.items ≡ base = c.in_ok-base.ensures ∙ ap (base_of (node_at p g)) c.deref.ensures.value in
    let passed : ArePassedAt p b row rows g es base (map part_of c.args.parts.now) c.args.behind (map entry_of c.args.kept.now) (map entry_of c.in_ok-inputs.inputs.items) =
    subst (λ k. ArePassedAt p b row rows g es k (map part_of c.args.parts.now) c.args.behind (map entry_of c.args.kept.now) (map entry_of c.in_ok-inputs.inputs.items)) (c.deref-3.ensures.value ∙ base_is) c.in_ok-inputs.ensures in
    λ now past eb er called keeps. (
      c.is_on-on.ensures ∙ ap (λ k. is_on k (instant b row nobody)) (c.deref-2.ensures.value ∙ base_is) ∙ (λ j. is_on base (instant (sym eb j) (sym er j) nobody)) ∙ sym (on_is base now),
      passed now past (suc c.args.part.now.number) keeps.0.0 eb er keeps.0.1 called keeps.1,
    )
