-- The names are those of the head that was found, which has the columns of all inputs.
use Rattle.std.proofs.Common.{rules, ◌≡◌, ◌∙◌, ap, ap₂, sym, map, Some, string_bytes}
use Rattle.std.specs.Arc.{arc_value}
use Rattle.std.proofs.lemmas.Result.{IfOk-weaker}
use Rattle.csv.specs.Records.{fields_of}
use Rattle.lus_live_instance.specs.MachineSpecs.CodeSpecs.Codes.{program_of}
use Rattle.lus_records.specs.Heads.{head_of}
use Rattle.lus_test.specs.Tables.{columns_of, has_all, input_columns}
use Rattle.lus_test.proofs.Heads.{by_both, head_names}
use Rattle.lus_test.proofs.table.read_head.Goals as goal

pub returns-clause-same : goal.returns-clause-same
returns-clause-same c =
    let p = program_of (arc_value c.args.program.now) in
    let columns : map string_bytes c.deref-3.result.now ≡ columns_of p c.args.node.0 = ap (map string_bytes) c.deref-3.ensures.value ∙ c.in_ok-columns.ensures in
    let names : map (λ t. t.now) c.deref-4.result.now ≡ fields_of c.args.first.now = ap (map (λ t. t.now)) c.deref-4.ensures.value ∙ c.in_ok-names.ensures in
    let is : Some (map string_bytes c.in_ok-head.head.keys) ≡ head_of (columns_of p c.args.node.0) (fields_of c.args.first.now) =
    c.in_ok-head.ensures ∙ ap₂ head_of columns names in
    let same : map string_bytes c.in_ok-head.head.keys ≡ fields_of c.args.first.now = head_names (columns_of p c.args.node.0) (fields_of c.args.first.now) _ is in
    IfOk-weaker c.complete_head.result _ _ (λ h e. ap (λ s. map string_bytes s.keys) e ∙ same) c.complete_head.ensures.same

pub returns-clause-head : goal.returns-clause-head
returns-clause-head c =
    let p = program_of (arc_value c.args.program.now) in
    let columns : map string_bytes c.deref-3.result.now ≡ columns_of p c.args.node.0 = ap (map string_bytes) c.deref-3.ensures.value ∙ c.in_ok-columns.ensures in
    let names : map (λ t. t.now) c.deref-4.result.now ≡ fields_of c.args.first.now = ap (map (λ t. t.now)) c.deref-4.ensures.value ∙ c.in_ok-names.ensures in
    let is : Some (map string_bytes c.in_ok-head.head.keys) ≡ head_of (columns_of p c.args.node.0) (fields_of c.args.first.now) =
    c.in_ok-head.ensures ∙ ap₂ head_of columns names in
    let same : map string_bytes c.in_ok-head.head.keys ≡ fields_of c.args.first.now = head_names (columns_of p c.args.node.0) (fields_of c.args.first.now) _ is in
    let inputs : map string_bytes c.deref-5.result.now ≡ input_columns p c.args.node.0 = search rules in
    by_both c.complete_head.result _ _ _
    (λ h e all. record {
      known = ap Some (sym same) ∙ is;
      complete = sym (ap₂ has_all (ap (λ s. map string_bytes s.keys) e ∙ same) inputs) ∙ all;
    })
    c.complete_head.ensures.same c.complete_head.ensures.all
