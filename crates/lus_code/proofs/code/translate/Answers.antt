use Rattle.std.proofs.Common.{◌≡◌, ◌≤◌, ◌∙◌, sym, subst, arith}
use Rattle.lus_graph.specs.Ways.{IsOrder}
use Rattle.lus_program.specs.Programs.{node_at}
use Rattle.lus_program.specs.Resolved.{program_uses}
use Rattle.lus_program.specs.View.{program_seen}
use Rattle.lus_normal_form.specs.Parts.{node_taken}
use Rattle.lus_normal.proofs.Narrow.{normal_variables_few}
use Rattle.lus_syntax.specs.Limits.{most_cells}
use Rattle.lus_streams.proofs.Lists.{each_item}
use Rattle.lus_cells.specs.Cells.{AreStateCells, HaveLeaves}
use Rattle.lus_order.specs.OrderedPrograms.{OrderedProgram}
use Rattle.lus_classes.specs.View.{classes_of}
use Rattle.lus_simulation.specs.Codes.{AreCodeOf}
use Rattle.lus_simulation.specs.Nesting.{depth_of}
use Rattle.lus_simulation.proofs.FittingRows.{rows_that_fit}
use Rattle.lus_simulation.proofs.Lived.{faults_follow, starts_lived, steps_follow}
use Rattle.lus_simulation.proofs.Nested.{calls_nested}
use Rattle.lus_code.specs.Correct.{IsCorrect}
use Rattle.lus_code.proofs.NormalForms.{kept_to, lefts_one}
use Rattle.lus_code.proofs.code.translate.Goals as goal

pub classes_of_nodes-requires-clause-source : goal.classes_of_nodes-requires-clause-source
classes_of_nodes-requires-clause-source c =
    let p = c.args.normal.source.program in
    let given : c.sound_of-sound.result.now ≡ p = c.sound_of-sound.ensures.same in
    record {
      source = program_seen p;
      new_parts = λ g. node_taken (program_seen p) (node_at (program_seen p) g);
      checked = c.sound_of-sound.ensures.checked;
      normal = c.program.ensures.normal;
      size = c.program.ensures.size;
      ordered = subst (λ z. IsOrder (program_uses (program_seen z)) c.nodes.result.now) given c.nodes.ensures;
    }

pub classes_of_nodes-requires-clause-small : goal.classes_of_nodes-requires-clause-small
classes_of_nodes-requires-clause-small c =
    let p = c.args.normal.source.program in
    let q = c.program.result.now in
    let cells = c.in_ok-cells.cells.items in
    let sound = c.sound_of-sound.ensures in
    let counted = subst (λ z. AreStateCells (program_seen z) cells) sound.same c.in_ok-cells.ensures.ok in
    let leaves = subst (λ z. HaveLeaves (program_seen z)) sound.same c.in_ok-cells.ensures.leaves in
    let resolved = sound.checked.resolved in
    record {
      nodes = (let size = c.program.ensures.size in let most = sound.limited.nodes in omega (arith, size, most));
      variables = λ g. let most = normal_variables_few (program_seen p) (program_seen q) sound.limited sound.few c.program.ensures.normal g in omega (arith, most);
      counts = cells;
      kept = kept_to p q c.program.ensures.normal cells resolved leaves counted;
      few = λ g. each_item (λ n. n ≤ most_cells) 0 cells (omega arith) counted.few g;
      lefts = lefts_one p q resolved c.program.ensures.made;
    }

correct : (c : goal.After-into_source-source) → IsCorrect (record { source = c.into_source-source.result; classes = c.in_ok-coded.coded.classes.items; emitted = c.in_ok-coded.coded.emitted.items; cells = c.in_ok-cells.cells.items })
correct c =
    let p = c.args.normal.source.program in
    let q = c.program.result.now in
    let cells = c.in_ok-cells.cells.items in
    let sound = c.sound_of-sound.ensures in
    let counted = subst (λ z. AreStateCells (program_seen z) cells) sound.same c.in_ok-cells.ensures.ok in
    let leaves = subst (λ z. HaveLeaves (program_seen z)) sound.same c.in_ok-cells.ensures.leaves in
    let coded = c.in_ok-coded.coded in
    let made = c.in_ok-coded.ensures in
    let classes = classes_of coded.classes.items in
    let checked = sound.checked in
    let code : AreCodeOf (program_seen p) (program_seen q) classes = record {
      new_parts = λ g. node_taken (program_seen p) (node_at (program_seen p) g);
      normal = c.program.ensures.normal;
      belong = made.belong;
    } in
    let nested = calls_nested (program_seen p) (program_seen q) classes checked code in
    subst (λ (s : OrderedProgram). IsCorrect (record { source = s; classes = coded.classes.items; emitted = coded.emitted.items; cells = cells })) (sym c.into_source-source.ensures) (record {
      checked = checked;
      size = made.size ∙ c.program.ensures.size;
      belong = (program_seen q, code);
      ready = made.ready;
      passing = made.passing;
      nested = nested;
      many = made.many;
      framed = made.framed;
      code = made.code;
      counted = counted;
      within = made.within cells (kept_to p q c.program.ensures.normal cells checked.resolved leaves counted);
      starts = λ f. (starts_lived (program_seen p) (program_seen q) classes code).of_fresh (depth_of (program_seen p)) f (nested f);
      gives = λ s after f i r shape presence. steps_follow (program_seen p) classes checked s after f i r ((rows_that_fit (program_seen p) checked).fits f i shape presence);
      faults = faults_follow (program_seen p) classes checked;
    })

pub invariant_of-result : goal.invariant_of-result
invariant_of-result c = correct c

pub returns-clause-correct : goal.returns-clause-correct
returns-clause-correct c = correct c
