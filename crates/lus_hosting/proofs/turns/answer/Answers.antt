-- By what the words of the line are.
use Rattle.std.proofs.Common.{inr, refl, subst}
use Rattle.std.proofs.lemmas.Result.{IfOk-weaker}
use Rattle.lus_hosting.specs.Turns.{IsNote, ReadsWords, reads_seen}
use Rattle.lus_hosting.specs.declared.words.Words.TheVariants as words
use Rattle.lus_hosting.proofs.AnswerLaws.{answered_denied, answered_note, dash_word}
use Rattle.lus_hosting.proofs.turns.answer.Goals as goal

pub returns-in_default : goal.returns-in_default
returns-in_default g c = λ log keeps.
    IfOk-weaker c.deny.result _ _
    (λ kind denied. answered_denied _ _ _ _ _ log c.args.line.now _ _ _ kind _ _ _ (inr (λ l is. c.in_default.ensures.cases.0 is.characters)) dash_word dash_word
    refl denied keeps)
    c.deny.ensures

pub returns-in-Note : goal.returns-in-Note
returns-in-Note g c = λ log keeps.
    answered_note _ _ _ _ _ log c.args.line.now _ _ _ (c.in-Note.ensures.read.0, subst IsNote c.in-Ok.ensures.cases.0 c.in-Note.ensures.read.1)
    c.clear.ensures.0 c.clear.ensures.1 keeps

pub returns-in-Short : goal.returns-in-Short
returns-in-Short g c = λ log keeps.
    (let reads = subst (λ bytes. ReadsWords (reads_seen c.args.lines) bytes (words.Short c.in-Short.instance)) c.in-Ok.ensures.cases.0 c.in-Short.ensures.complete in
    IfOk-weaker c.deny-in-Short.result _ _
    (λ kind denied. answered_denied _ _ _ _ _ log c.args.line.now _ _ _ kind _ _ _
    (inr (λ l is. reads l.instance l.said.caller is.call is.spelled)) c.in-Short.ensures.read dash_word c.lacking.ensures denied keeps)
    c.deny-in-Short.ensures)

pub returns-in-Word : goal.returns-in-Word
returns-in-Word g c = λ log keeps.
    (let reads = subst (λ bytes. ReadsWords (reads_seen c.args.lines) bytes words.Word) c.in-Ok.ensures.cases.0 c.in-Word.ensures.complete in
    IfOk-weaker c.deny-in-Word.result _ _
    (λ kind denied. answered_denied _ _ _ _ _ log c.args.line.now _ _ _ kind _ _ _
    (inr (λ l is. reads l.instance l.said.caller is.call is.spelled)) dash_word dash_word c.lacking-in-Word.ensures denied keeps)
    c.deny-in-Word.ensures)

pub returns-in-Nameless : goal.returns-in-Nameless
returns-in-Nameless g c = λ log keeps.
    (let reads = subst (λ bytes. ReadsWords (reads_seen c.args.lines) bytes words.Nameless) c.in-Ok.ensures.cases.0 c.in-Nameless.ensures.complete in
    IfOk-weaker c.deny-in-Nameless.result _ _
    (λ kind denied. answered_denied _ _ _ _ _ log c.args.line.now _ _ _ kind _ _ _
    (inr (λ l is. reads l.instance l.said.caller is.call is.spelled)) dash_word dash_word refl denied keeps)
    c.deny-in-Nameless.ensures)
