-- By what `split_once` says: a blank ends the first word, and another the second.
use Rattle.std.proofs.Common.{◌≡◌, ◌∙◌, ap, sym, ◌∷◌, ◌++◌, None, Some, arith}
use Rattle.std.proofs.lemmas.Str.Pattern.{split_after, split_parts}
use Rattle.lus_hosting.specs.Logs.{behind_of}
use Rattle.lus_hosting.specs.declared.words.Behind.{Behind}
use Rattle.lus_hosting.specs.declared.words.Behind.TheVariants as behind
use Rattle.lus_hosting.proofs.words.words_of.Goals as goal

entry_call : (b : Behind) → b ≡ behind.Entry → b ≡ behind.Call → ⊥
entry_call b is other = absurd (cc)

note_call : (b : Behind) → b ≡ behind.Note → b ≡ behind.Call → ⊥
note_call b is other = absurd (cc)

pub returns-in_default-clause-complete : goal.returns-in_default-clause-complete
returns-in_default-clause-complete c = λ instance caller call so.
    absurd (split_after 32 c.args.line.now instance (caller ++ 32 ∷ call) None c.in_default.ensures.cases (omega arith) so.0 so.1)

pub returns-in_default-clause-behind : goal.returns-in_default-clause-behind
returns-in_default-clause-behind c = λ instance text a is.
    absurd (split_after 32 c.args.line.now instance text None c.in_default.ensures.cases (omega arith) is a)

pub returns-in-Entry-clause-behind : goal.returns-in-Entry-clause-behind
returns-in-Entry-clause-behind c = λ instance text a is.
    (let parts = split_after 32 c.args.line.now instance text (Some (c.in-Some.instance, c.in-Some.text)) c.in-Some.ensures.cases (omega arith) is a in
    ap behind_of (sym parts.1 ∙ sym c.as_bytes.ensures.value) ∙ sym c.behind_of.ensures ∙ c.in-Entry.is)

pub returns-in-Note-clause-behind : goal.returns-in-Note-clause-behind
returns-in-Note-clause-behind c = λ instance text a is.
    (let parts = split_after 32 c.args.line.now instance text (Some (c.in-Some.instance, c.in-Some.text)) c.in-Some.ensures.cases (omega arith) is a in
    ap behind_of (sym parts.1 ∙ sym c.as_bytes.ensures.value) ∙ sym c.behind_of.ensures ∙ c.in-Note.is)

pub returns-in-Some-split_once-clause-behind : goal.returns-in-Some-split_once-clause-behind
returns-in-Some-split_once-clause-behind c = λ instance text a is.
    (let parts = split_after 32 c.args.line.now instance text (Some (c.in-Some.instance, c.in-Some.text)) c.in-Some.ensures.cases (omega arith) is a in
    ap behind_of (sym parts.1 ∙ sym c.as_bytes.ensures.value) ∙ sym c.behind_of.ensures ∙ c.in-Call.is)

pub returns-in-None-clause-behind : goal.returns-in-None-clause-behind
returns-in-None-clause-behind c = λ instance text a is.
    (let parts = split_after 32 c.args.line.now instance text (Some (c.in-Some.instance, c.in-Some.text)) c.in-Some.ensures.cases (omega arith) is a in
    ap behind_of (sym parts.1 ∙ sym c.as_bytes.ensures.value) ∙ sym c.behind_of.ensures ∙ c.in-Call.is)

pub returns-in-Entry-clause-read : goal.returns-in-Entry-clause-read
returns-in-Entry-clause-read c =
    let parts = split_parts 32 c.args.line.now (Some (c.in-Some.instance, c.in-Some.text)) c.in-Some.ensures.cases (omega arith) in
    (tt, parts.0, parts.1)

pub returns-in-Entry-clause-complete : goal.returns-in-Entry-clause-complete
returns-in-Entry-clause-complete c = λ instance caller call so.
    (let parts = split_after 32 c.args.line.now instance (caller ++ 32 ∷ call) (Some (c.in-Some.instance, c.in-Some.text)) c.in-Some.ensures.cases (omega arith) so.0 so.1 in
    entry_call (behind_of (caller ++ 32 ∷ call))
    (ap behind_of (sym parts.1 ∙ sym c.as_bytes.ensures.value) ∙ sym c.behind_of.ensures ∙ c.in-Entry.is) so.3)

pub returns-in-Note-clause-read : goal.returns-in-Note-clause-read
returns-in-Note-clause-read c =
    let parts = split_parts 32 c.args.line.now (Some (c.in-Some.instance, c.in-Some.text)) c.in-Some.ensures.cases (omega arith) in (
      tt,
      record {
        instance = c.in-Some.instance.now;
        rest = c.in-Some.text.now;
        spelled = parts.0;
        word = parts.1;
        kind = ap behind_of (sym c.as_bytes.ensures.value) ∙ sym c.behind_of.ensures ∙ c.in-Note.is;
      },
    )

pub returns-in-Note-clause-complete : goal.returns-in-Note-clause-complete
returns-in-Note-clause-complete c = λ instance caller call so.
    (let parts = split_after 32 c.args.line.now instance (caller ++ 32 ∷ call) (Some (c.in-Some.instance, c.in-Some.text)) c.in-Some.ensures.cases (omega arith) so.0 so.1 in
    note_call (behind_of (caller ++ 32 ∷ call))
    (ap behind_of (sym parts.1 ∙ sym c.as_bytes.ensures.value) ∙ sym c.behind_of.ensures ∙ c.in-Note.is) so.3)

pub returns-in-Some-split_once-clause-read : goal.returns-in-Some-split_once-clause-read
returns-in-Some-split_once-clause-read c =
    let parts = split_parts 32 c.args.line.now (Some (c.in-Some.instance, c.in-Some.text)) c.in-Some.ensures.cases (omega arith) in
    let behind = split_parts 32 c.in-Some.text.now (Some (c.in-Some-split_once.caller, c.in-Some-split_once.call)) c.in-Some-split_once.ensures.cases (omega arith) in (
      parts.0 ∙ ap (λ t. c.in-Some.instance.now ++ 32 ∷ t) behind.0,
      parts.1,
      behind.1,
      ap behind_of (sym behind.0 ∙ sym c.as_bytes.ensures.value) ∙ sym c.behind_of.ensures ∙ c.in-Call.is,
    )

pub returns-in-Some-split_once-clause-complete : goal.returns-in-Some-split_once-clause-complete
returns-in-Some-split_once-clause-complete c = λ instance caller call so.
    (let parts = split_after 32 c.args.line.now instance (caller ++ 32 ∷ call) (Some (c.in-Some.instance, c.in-Some.text)) c.in-Some.ensures.cases (omega arith) so.0 so.1 in
    let behind = split_after 32 c.in-Some.text.now caller call (Some (c.in-Some-split_once.caller, c.in-Some-split_once.call)) c.in-Some-split_once.ensures.cases (omega arith) parts.1 so.2 in
    (parts.0, behind.0, behind.1))

pub returns-in-None-clause-read : goal.returns-in-None-clause-read
returns-in-None-clause-read c =
    (split_parts 32 c.args.line.now (Some (c.in-Some.instance, c.in-Some.text)) c.in-Some.ensures.cases (omega arith)).1

pub returns-in-None-clause-complete : goal.returns-in-None-clause-complete
returns-in-None-clause-complete c = λ instance caller call so.
    (let parts = split_after 32 c.args.line.now instance (caller ++ 32 ∷ call) (Some (c.in-Some.instance, c.in-Some.text)) c.in-Some.ensures.cases (omega arith) so.0 so.1 in
    absurd (split_after 32 c.in-Some.text.now caller call None c.in-None.ensures.cases (omega arith) parts.1 so.2))
