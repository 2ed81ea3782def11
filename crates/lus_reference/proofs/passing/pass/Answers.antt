-- The values of the arguments, which are the first of the parts.
use Rattle.std.proofs.Common.{◌≡◌, drop, ◌∙◌, take, map, sym, ap, subst, arith}
use Rattle.std.proofs.lemmas.Result.{IfOk-weaker}
use Rattle.lus_values.specs.View.{entry_of}
use Rattle.lus_program.specs.Parts.{parts_all as count}
use Rattle.lus_program.specs.Programs.{all_numbered, node_at}
use Rattle.lus_program.specs.View.{operands_of, program_seen}
use Rattle.lus_streams.specs.Clocks.{formal_clock}
use Rattle.lus_parts.specs.Parts.{part_of}
use Rattle.lus_parts.proofs.Operands.{formal_numbered}
use Rattle.lus_reference.specs.Given.{ArePassedAt, passed}
use Rattle.lus_reference.specs.Made.{AreValues}
use Rattle.lus_reference.proofs.Given.{arguments_are, passed_are}
use Rattle.lus_reference.proofs.passing.pass.Goals as goal

pub returns : goal.returns
returns c =
    let p = program_seen c.args.program.now in
    let b = c.args.present in
    let row = map entry_of c.args.row.now in
    let rows = c.args.rows.now in
    let args = operands_of c.args.arguments.now in
    let g = node_at p c.args.called in
    let base = c.args.base.now in
    let m = c.args.place in
    let es = map part_of c.args.parts.now in
    let kept = map entry_of c.args.kept.now in
    let vs = map entry_of c.deref.result.now in
    let size : c.in_ok-size.size.parts ≡ count args = let k = c.in_ok-size.ensures.parts in omega (arith, k) in
    let values : AreValues p row rows (take (count args) (drop m es)) (drop m kept) vs =
    subst (λ l. AreValues p row rows (take (count args) (drop m es)) (drop m kept) (map entry_of l)) (sym c.deref.ensures.value)
    (subst (λ n. AreValues p row rows (take n (drop m es)) (drop m kept) (map entry_of c.in_ok-values.values.items)) size c.in_ok-values.ensures) in
    IfOk-weaker c.pass_values.result (λ ws. map entry_of ws.items ≡ passed b row (formal_clock g args base) 0 vs)
    (λ ws. ArePassedAt p b row rows c.args.called args base es m kept (map entry_of ws.items))
    (λ ws same now past n rest eb er there called keeps.
    let xs = all_numbered n args in
    let clocks = formal_clock g xs base in
    same
    ∙ (λ j. passed (sym eb j) (sym er j) (formal_numbered g args n base j) 0 vs)
    ∙ ap (passed _ _ clocks 0) (arguments_are p now past rows args n clocks es m kept vs rest there called keeps (subst (λ r. AreValues p r rows (take (count args) (drop m es)) (drop m kept) vs) (sym er) values))
    ∙ passed_are p now past xs g xs base 0)
    c.pass_values.ensures
