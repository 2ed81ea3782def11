-- By what `split_once` says: a blank ends the first word, and perhaps another the second.
use Rattle.std.proofs.Common.{◌∙◌, sym}
use Rattle.lus_hosting.proofs.CallLaws.{call_back, call_read, caller_named, caller_seen, caller_split, instance_named, line_parts, unbroken_no_call}
use Rattle.lus_hosting.proofs.words.call_words.Goals as goal

pub returns-in_default-clause-complete : goal.returns-in_default-clause-complete
returns-in_default-clause-complete c = λ i n k so.
    absurd (unbroken_no_call (caller_seen c.args.caller) c.args.line.now c.in_default.ensures.cases i n k so)

pub returns-then-not-is_named-clause-complete : goal.returns-then-not-is_named-clause-complete
returns-then-not-is_named-clause-complete c = λ i n k so.
    absurd (instance_named (caller_seen c.args.caller) c.args.line.now c.in-Some.instance c.in-Some.text c.in-Some.ensures.cases i n k so
    (sym c.is_named.ensures ∙ c.if-not-is_named.true))

pub returns-then-not-is_named-2-clause-complete : goal.returns-then-not-is_named-2-clause-complete
returns-then-not-is_named-2-clause-complete c = λ i n k so.
    absurd (caller_named (caller_seen c.args.caller) c.args.line.now c.in-Some.instance c.in-Some.text c.in-Some.ensures.cases i n k so
    c.in-Some-split_call.caller c.in-Some-split_call.call c.in-Some-split_call.ensures (sym c.is_named-in-Some-split_call.ensures ∙ c.if-not-is_named-2.true))

pub returns-else-not-is_named-2-clause-read : goal.returns-else-not-is_named-2-clause-read
returns-else-not-is_named-2-clause-read c =
    call_read (caller_seen c.args.caller) c.args.line.now c.in-Some.instance c.in-Some.text c.in-Some-split_call.caller c.in-Some-split_call.call
    (line_parts (caller_seen c.args.caller) c.args.line.now c.in-Some.instance c.in-Some.text c.in-Some.ensures.cases).0
    (sym c.is_named.ensures ∙ c.if-not-is_named.false) (sym c.is_named-in-Some-split_call.ensures ∙ c.if-not-is_named-2.false) c.in-Some-split_call.ensures

pub returns-else-not-is_named-2-clause-complete : goal.returns-else-not-is_named-2-clause-complete
returns-else-not-is_named-2-clause-complete c = λ i n k so.
    call_back (caller_seen c.args.caller) c.args.line.now c.in-Some.instance c.in-Some.text c.in-Some.ensures.cases i n k so
    c.in-Some-split_call.caller c.in-Some-split_call.call c.in-Some-split_call.ensures

pub returns-in-None-clause-read : goal.returns-in-None-clause-read
returns-in-None-clause-read c =
    (line_parts (caller_seen c.args.caller) c.args.line.now c.in-Some.instance c.in-Some.text c.in-Some.ensures.cases).1

pub returns-in-None-clause-complete : goal.returns-in-None-clause-complete
returns-in-None-clause-complete c = λ i n k so.
    absurd (caller_split (caller_seen c.args.caller) c.args.line.now c.in-Some.instance c.in-Some.text c.in-Some.ensures.cases i n k so c.in-None.ensures)
