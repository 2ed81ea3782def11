-- By the words of the line.
use Rattle.std.proofs.Common.{◌∙◌, ◌++◌, ap, sym, subst, Some, arith, string_bytes}
use Rattle.std.specs.Arc.{arc_value}
use Rattle.std.proofs.lemmas.Result.{IfOk-weaker}
use Rattle.std.proofs.lemmas.Str.{encode_ascii}
use Rattle.std.proofs.lemmas.Str.Pattern.{strip_suffix_char}
use Rattle.lus_live_instance.specs.MachineSpecs.CodeSpecs.Codes.{program_of}
use Rattle.lus_live_instance.specs.MachineSpecs.Constructors.{names_of}
use Rattle.lus_hosting.specs.Audits.{IsFound}
use Rattle.lus_hosting.specs.declared.words.Words.TheVariants as words
use Rattle.lus_hosting.proofs.FoundLaws.{entry_line, no_feed, no_text}
use Rattle.lus_hosting.proofs.WordLaws.{call_no_line}
use Rattle.lus_hosting.proofs.auditing.audit_line.Goals as goal

pub returns-in_default-clause-found : goal.returns-in_default-clause-found
returns-in_default-clause-found c = λ log keeps. no_text (names_of (program_of (arc_value c.args.host.program.now))) log c.args.line.now c.in_default.ensures.cases.0

pub returns-in_default-strip_suffix-clause-found : goal.returns-in_default-strip_suffix-clause-found
returns-in_default-strip_suffix-clause-found c = λ log keeps.
    no_feed (names_of (program_of (arc_value c.args.host.program.now))) log c.args.line.now
    (λ front is. c.in_default-strip_suffix.ensures.cases front (c.in-Ok.ensures.cases.0 ∙ is ∙ ap (λ t. front ++ t) (sym (encode_ascii 10 (omega arith)))))

pub returns-in-Entry-clause-found : goal.returns-in-Entry-clause-found
returns-in-Entry-clause-found c = λ log keeps.
    (let p = program_of (arc_value c.args.host.program.now) in
    let feed = sym c.in-Ok.ensures.cases.0 ∙ strip_suffix_char 10 c.in-Ok.text.now (Some c.in-Some.text) c.in-Some.ensures.cases (omega arith) in
    let read = c.in-Entry.ensures.read in
    let kind = c.in-Entry.ensures.behind c.in-Entry.instance.now c.in-Entry.entry.now read.2 read.1 in
    let same = entry_line c.args.line.now c.in-Some.text.now c.in-Entry.instance.now c.in-Entry.entry.now feed read.1 in
    IfOk-weaker c.audit_entry.result _ _
    (λ found is. subst (λ t. IsFound found p c.args.host.node.0 log t (string_bytes c.audit_entry.new.right) c.audit_entry.new.instances) same is)
    (c.audit_entry.ensures.found log read.2 kind keeps))

pub returns-in-Note-clause-found : goal.returns-in-Note-clause-found
returns-in-Note-clause-found c = λ log keeps.
    (let feed = sym c.in-Ok.ensures.cases.0 ∙ strip_suffix_char 10 c.in-Ok.text.now (Some c.in-Some.text) c.in-Some.ensures.cases (omega arith) in
    (c.in-Some.text.now, feed, c.in-Note.ensures.read.1, keeps))

pub returns-in-Call-clause-found : goal.returns-in-Call-clause-found
returns-in-Call-clause-found c = λ log keeps.
    (let feed = sym c.in-Ok.ensures.cases.0 ∙ strip_suffix_char 10 c.in-Ok.text.now (Some c.in-Some.text) c.in-Some.ensures.cases (omega arith) in
    call_no_line (names_of (program_of (arc_value c.args.host.program.now))) log c.in-Some.text.now c.args.line.now (words.Call c.in-Call.field-0 c.in-Call.field-1 c.in-Call.field-2) tt c.in-Call.ensures.behind feed)

pub returns-in-Short-clause-found : goal.returns-in-Short-clause-found
returns-in-Short-clause-found c = λ log keeps.
    (let feed = sym c.in-Ok.ensures.cases.0 ∙ strip_suffix_char 10 c.in-Ok.text.now (Some c.in-Some.text) c.in-Some.ensures.cases (omega arith) in
    call_no_line (names_of (program_of (arc_value c.args.host.program.now))) log c.in-Some.text.now c.args.line.now (words.Short c.in-Short.field-0) tt c.in-Short.ensures.behind feed)

pub returns-in-Nameless-clause-found : goal.returns-in-Nameless-clause-found
returns-in-Nameless-clause-found c = λ log keeps.
    (let feed = sym c.in-Ok.ensures.cases.0 ∙ strip_suffix_char 10 c.in-Ok.text.now (Some c.in-Some.text) c.in-Some.ensures.cases (omega arith) in
    call_no_line (names_of (program_of (arc_value c.args.host.program.now))) log c.in-Some.text.now c.args.line.now words.Nameless tt c.in-Nameless.ensures.behind feed)

pub returns-in-Word-clause-found : goal.returns-in-Word-clause-found
returns-in-Word-clause-found c = λ log keeps.
    (let feed = sym c.in-Ok.ensures.cases.0 ∙ strip_suffix_char 10 c.in-Ok.text.now (Some c.in-Some.text) c.in-Some.ensures.cases (omega arith) in
    call_no_line (names_of (program_of (arc_value c.args.host.program.now))) log c.in-Some.text.now c.args.line.now words.Word tt c.in-Word.ensures.behind feed)
