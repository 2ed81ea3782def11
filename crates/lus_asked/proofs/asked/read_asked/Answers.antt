-- What a line spells is read.
use Rattle.std.proofs.Common.{◌≡◌, ◌∙◌, sym, subst, rules, Some, None}
use Rattle.std.specs.Prelude.{IsUtf8}
use Rattle.lus_asked.specs.Reading.{asked_at}
use Rattle.lus_asked.proofs.Requests.{both_read, none_read}
use Rattle.lus_asked.proofs.asked.read_asked.Goals as goal

pub returns-in_default : goal.returns-in_default
returns-in_default c = record {
  complete = λ caller n r given is spelled text.
      (let none : None ≡ asked_at c.args.names.now c.args.line.now = search rules in
      none_read c.args.names.now caller n r c.args.line.now given is spelled text none);
}

pub returns-in-Ok : goal.returns-in-Ok
returns-in-Ok c = record {
  complete = λ caller n r given is spelled text.
      (let some : Some (c.in-Some.caller.now, c.in-Some.request) ≡ asked_at c.args.names.now c.args.line.now = search rules in
      let both = both_read c.args.names.now caller n r c.args.line.now given c.in-Some.caller.now c.in-Some.request is spelled text some in
      (c.in-Ok.ensures.cases.0 ∙ both.0, both.1));
}

pub returns-in-Err : goal.returns-in-Err
returns-in-Err c = record {
  complete = λ caller n r given is spelled text.
      (let some : Some (c.in-Some.caller.now, c.in-Some.request) ≡ asked_at c.args.names.now c.args.line.now = search rules in
      let both = both_read c.args.names.now caller n r c.args.line.now given c.in-Some.caller.now c.in-Some.request is spelled text some in
      c.in-Err.ensures.cases.0 (subst IsUtf8 (sym both.0) is.characters));
}
