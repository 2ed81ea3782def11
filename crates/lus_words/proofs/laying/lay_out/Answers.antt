use Rattle.std.proofs.Common.{arith, ◌≤◌, ◌+◌}
use Rattle.std.proofs.lemmas.List.{length-map}
use Rattle.lus_program.specs.View.{declared_of, program_seen}
use Rattle.lus_words.specs.Depths.{depth}
use Rattle.lus_words.proofs.Existing.{types_have_layouts}
use Rattle.lus_words.proofs.Laid.{none_of}
use Rattle.lus_words.proofs.Shallow.{layouts_are_shallow}
use Rattle.lus_words.proofs.laying.lay_out.Goals as goal

-- each type has a layout, and it is found so deep
pub unreachable-requires : goal.unreachable-requires
unreachable-requires c =
    let program = c.program-program.result.now in
    let p = program_seen program in
    let found = types_have_layouts p c.program-program.ensures.types c.args.kind in
    let shallow = layouts_are_shallow p c.program-program.ensures.types c.args.kind found.0 found.1 in
    let few : depth found.0 ≤ c.len.result + 1 = omega (arith, shallow, c.len.ensures, program.types.ok.0, length-map program.types.items declared_of) in
    none_of p c.args.kind (c.len.result + 1) c.in_ok-found.field-0 c.in-None.is c.in_ok-found.ensures found.0 found.1 few
