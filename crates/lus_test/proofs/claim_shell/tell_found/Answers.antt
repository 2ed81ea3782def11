-- The table of a run in which the claim fails is written.
use Rattle.std.proofs.Common.{◌∙◌, ap, map, subst}
use Rattle.csv.specs.Records.{fields_of}
use Rattle.lus_devices.specs.Devices.{with_text}
use Rattle.lus_test.specs.Failing.{failing_table}
use Rattle.lus_test.specs.Trials.{IsTrialOf, names_in}
use Rattle.lus_test.proofs.claim_shell.tell_found.Goals as goal

pub returns : goal.returns
returns g c =
    let s = c.args.subject.now in
    let t = c.in-Ok.shrunk.trial in
    record {
      node = s.node.0;
      place = s.claim;
      named = c.requires.named;
      names = names_in s;
      rows = map fields_of t.rows.items;
      steps = t.steps.items;
      replies = t.replies.items;
      last = c.in-Ok.shrunk.row;
      trial = subst (IsTrialOf s (map fields_of t.rows.items) t.steps.items t.replies.items) c.in-Ok.ensures.broken c.in-Ok.ensures.trial;
      written = c.in_ok-write_text.ensures
          ∙ ap (with_text _)
          (c.deref-2.ensures.value
          ∙ c.in_ok-table.ensures
          ∙ ap (λ rows. failing_table (names_in s) c.args.wanted.claim.now c.in-Ok.shrunk.row (map fields_of rows)) c.deref.ensures.value);
    }
