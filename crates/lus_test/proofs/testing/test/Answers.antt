-- The head, the steps, the run and what is found of it.
use Rattle.std.proofs.Common.{rules, ◌≡◌, ◌∙◌, ap, map, string_bytes, subst}
use Rattle.std.specs.Arc.{arc_value}
use Rattle.csv.specs.Records.{fields_of}
use Rattle.lus_live_instance.specs.MachineSpecs.CodeSpecs.Codes.{program_of}
use Rattle.lus_scripts.specs.Forms.{each}
use Rattle.lus_scripts.specs.Scripts.{place_of}
use Rattle.lus_test.specs.Findings.{finding_from}
use Rattle.lus_test.specs.Tables.{IsRun, output_columns, step_under}
use Rattle.lus_test.specs.Tests.{told_of}
use Rattle.lus_test.proofs.testing.test.Goals as goal

pub returns : goal.returns
returns c =
    let p = program_of (arc_value c.args.program.now) in
    let f = c.args.node.0 in
    let names = fields_of c.args.first.now in
    let rows = map fields_of c.args.rows.now in
    let columns : map string_bytes c.in_ok-columns.columns.items ≡ output_columns p f = search rules in
    let places : c.deref-5.result.now ≡ map (place_of (output_columns p f)) names =
    c.deref-5.ensures.value ∙ c.in_ok-places.ensures
    ∙ ap (λ cols. map (place_of cols) names) (ap (map string_bytes) c.deref-4.ensures.value ∙ columns) in
    record {
      headed = c.in_ok-head.ensures.head;
      steps = c.in_ok-steps.steps.items;
      asked = c.in_ok-steps.ensures ∙ ap (λ head. each (step_under p f head) rows) c.in_ok-head.ensures.same;
      run = subst (λ steps. IsRun p f steps c.in_ok-replies.replies.items) c.deref.ensures.value c.in_ok-replies.ensures;
      found = c.in_ok-finding.ensures
          ∙ ap (λ told. finding_from 0 told c.deref-5.result.now rows c.deref-6.result.now) c.outputs_of-outputs.ensures
          ∙ ap (λ ps. finding_from 0 (told_of p f) ps rows c.deref-6.result.now) places
          ∙ ap (λ rs. finding_from 0 (told_of p f) (map (place_of (output_columns p f)) names) rows rs) c.deref-6.ensures.value;
    }
