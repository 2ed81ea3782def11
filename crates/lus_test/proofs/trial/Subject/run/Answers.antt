-- The head, the steps, the run and where the claim fails in it.
use Rattle.std.proofs.Common.{◌∙◌, ap, ap₂, map, subst}
use Rattle.csv.specs.Records.{fields_of}
use Rattle.lus_scripts.specs.Forms.{each}
use Rattle.lus_test.specs.Claims.{broken_from}
use Rattle.lus_test.specs.Tables.{IsRun, step_under}
use Rattle.lus_test.specs.Tests.{told_of}
use Rattle.lus_test.specs.Trials.{program_in}
use Rattle.lus_test.proofs.trial.Subject.run.Goals as goal

pub returns-clause-trial : goal.returns-clause-trial
returns-clause-trial c =
    let s = c.args.self.now in
    let p = program_in s in
    let f = s.node.0 in
    record {
      headed = c.requires.headed;
      asked = c.in_ok-steps.ensures ∙ ap₂ (λ head rows. each (step_under p f head) (map fields_of rows)) c.requires.same c.deref.ensures.value;
      run = subst (λ steps. IsRun p f steps c.in_ok-replies.replies.items) c.deref-2.ensures.value c.in_ok-replies.ensures;
      found = c.in_ok-broken.ensures
          ∙ ap (λ told. broken_from 0 told s.claim c.deref-3.result.now) c.outputs_of-outputs.ensures
          ∙ ap (broken_from 0 (told_of p f) s.claim) c.deref-3.ensures.value;
    }
