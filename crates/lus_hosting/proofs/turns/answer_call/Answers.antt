-- A call was made, or the line is denied.
use Rattle.std.proofs.Common.{inr, subst, sym}
use Rattle.std.specs.Arc.{arc_value}
use Rattle.std.proofs.lemmas.Result.{IfOk-weaker}
use Rattle.lus_lines.specs.Lines.{IsPlain}
use Rattle.lus_sessions.specs.Calls.{IsCallTo}
use Rattle.lus_live_instance.specs.MachineSpecs.CodeSpecs.Codes.{program_of}
use Rattle.lus_live_instance.specs.MachineSpecs.Constructors.{names_of}
use Rattle.lus_hosting.proofs.AnswerLaws.{answered_call, answered_denied, no_call_line, spelled_words}
use Rattle.lus_hosting.proofs.turns.answer_call.Goals as goal

pub returns-in_ok-reason-in-None : goal.returns-in_ok-reason-in-None
returns-in_ok-reason-in-None g c = λ reads log line utf8 words all keeps.
    (let p = program_of (arc_value c.args.host.program.now) in
    let named = spelled_words reads line c.args.words.0.now c.args.words.1.now c.args.words.2.now words in
    IfOk-weaker c.deny.result _ _
    (λ kind denied. answered_denied _ _ _ _ _ log line _ _ _ kind _ _ _
    (inr (no_call_line reads _ _ line _ _ _ all (subst (IsCallTo p (names_of p) c.args.host.node.0 c.args.words.2.now) c.in-None.is c.in_ok-request.ensures)))
    named.0 named.1 (subst IsPlain (sym c.as_str.ensures.value) c.in_ok-reason-in-None.ensures) denied keeps)
    c.deny.ensures)

pub returns-in_ok-tell_entry-in-Some : goal.returns-in_ok-tell_entry-in-Some
returns-in_ok-tell_entry-in-Some g c = λ reads log line utf8 words all keeps.
    (let p = program_of (arc_value c.args.host.program.now) in
    answered_call reads p c.args.host.node.0 _ _ log line _ _ c.call_on.new.instances c.args.words.0.now c.args.words.1.now c.args.words.2.now c.in-Some.request _ _
    utf8 words (subst (IsCallTo p (names_of p) c.args.host.node.0 c.args.words.2.now) c.in-Some.is c.in_ok-request.ensures)
    (c.in_ok-number-in-Some.ensures log keeps) c.in_ok-tell_entry-in-Some.ensures.logged c.in_ok-tell_entry-in-Some.ensures.told)
