-- By what was read.
use Rattle.std.proofs.Common.{subst, string_bytes}
use Rattle.std.proofs.lemmas.Result.{IfOk-weaker}
use Rattle.std.specs.Arc.{arc_value}
use Rattle.lus_lines.specs.Lines.{HasReadWhole}
use Rattle.lus_live_instance.specs.MachineSpecs.CodeSpecs.Codes.{program_of}
use Rattle.lus_hosting.specs.Audits.{IsFound}
use Rattle.lus_hosting.proofs.FoundLaws.{line_left, tail_left}
use Rattle.lus_hosting.proofs.auditing.read_found.Goals as goal

pub returns-in-Line-clause-found : goal.returns-in-Line-clause-found
returns-in-Line-clause-found g c = λ log keeps.
    (let p = program_of (arc_value c.args.host.program.now) in
    let read = subst (λ r. HasReadWhole r c.read_whole_line.new.line.items (g.S.Source.left c.args.source.now) (g.S.Source.left c.read_whole_line.new.source)) c.in-Line.is c.in_ok-read_whole_line.ensures in
    IfOk-weaker c.audit_line.result _ _
    (λ found is. line_left p c.args.host.node.0 log (g.S.Source.left c.args.source.now) (g.S.Source.left c.read_whole_line.new.source) c.read_whole_line.new.line.items (string_bytes c.audit_line.new.right) c.audit_line.new.instances found read.0 read.1
    (subst (λ t. IsFound found p c.args.host.node.0 log t (string_bytes c.audit_line.new.right) c.audit_line.new.instances) c.deref.ensures.value is))
    (c.audit_line.ensures.found log keeps))

pub returns-in-Unfinished-clause-found : goal.returns-in-Unfinished-clause-found
returns-in-Unfinished-clause-found g c = λ log keeps.
    (let p = program_of (arc_value c.args.host.program.now) in
    let read = subst (λ r. HasReadWhole r c.read_whole_line.new.line.items (g.S.Source.left c.args.source.now) (g.S.Source.left c.read_whole_line.new.source)) c.in-Unfinished.is c.in_ok-read_whole_line.ensures in
    tail_left p c.args.host.node.0 log (g.S.Source.left c.args.source.now) (g.S.Source.left c.read_whole_line.new.source) c.read_whole_line.new.line.items (string_bytes c.args.right.now) c.args.instances.now read.0 read.1 keeps)

pub returns-in-End-clause-found : goal.returns-in-End-clause-found
returns-in-End-clause-found g c = λ log keeps.
    (subst (λ r. HasReadWhole r c.read_whole_line.new.line.items (g.S.Source.left c.args.source.now) (g.S.Source.left c.read_whole_line.new.source)) c.in-End.is c.in_ok-read_whole_line.ensures, keeps)
