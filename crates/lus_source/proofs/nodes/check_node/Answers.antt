-- The table has the node's own variables alone, and the parts make up the rule.
use Rattle.std.proofs.Common.{arith, ◌≡◌, ◌≤◌, ◌∙◌, ap, length, sym}
use Rattle.std.specs.Prelude.{string_bytes}
use Rattle.std.proofs.lemmas.List.{length-map}
use Rattle.lus_syntax.specs.View.{node_seen}
use Rattle.lus_source.specs.Named.{names_in}
use Rattle.lus_source.specs.Tables.{groups}
use Rattle.lus_source.specs.NameView.{known_seen, texts}
use Rattle.lus_source.proofs.Faults.{passed_on}
use Rattle.lus_source.proofs.AppendedNames.{from_empty, new_from_empty}
use Rattle.lus_source.proofs.NodeParts.{lefts_named, part_unknown, parts_named}
use Rattle.lus_source.proofs.Placing.{length-for_each}
use Rattle.lus_source.proofs.nodes.check_node.Goals as goal

pub returns-in_err-refuse-clause-named : goal.returns-in_err-refuse-clause-named
returns-in_err-refuse-clause-named c =
    let f = node_seen c.args.node.now in
    let own = from_empty (texts c.args.names.now.variables.keys) (names_in (groups f)) (texts c.declare_variables.new.table.keys) c.requires.empty c.in_ok-declare_variables.ensures.kept in
    passed_on _ (part_unknown (known_seen c.args.names.now) (texts c.declare_variables.new.table.keys) f c.unknown_in_node.result own c.unknown_in_node.ensures) c.from_residual-in_err-refuse.result c.in_err-refuse.field-0.0 c.from_residual-in_err-refuse.ensures.1 c.in_err-refuse.ensures

pub new-variables-requires : goal.new-variables-requires
new-variables-requires c =
    let gs = groups (node_seen c.args.node.now) in
    let keys = c.declare_variables.new.table.keys in
    let own : texts keys ≡ names_in gs = from_empty (texts c.args.names.now.variables.keys) (names_in gs) (texts keys) c.requires.empty c.in_ok-declare_variables.ensures.kept in
    let few : length keys ≤ 4294967295 = omega (arith, c.requires.few, sym (length-map keys string_bytes) ∙ ap length own ∙ length-for_each (λ g n. n.text) gs) in
    record { few = rw c.replace.ensures.value few }

pub returns-in_err-check_lefts-clause-named : goal.returns-in_err-check_lefts-clause-named
returns-in_err-check_lefts-clause-named c =
    let gs = groups (node_seen c.args.node.now) in
    let distinct = new_from_empty (texts c.args.names.now.variables.keys) (names_in gs) c.requires.empty c.in_ok-declare_variables.ensures.new in
    let r = c.from_residual-in_err-check_lefts in
    passed_on _ (λ wrong named. wrong distinct (lefts_named named)) r.result c.in_err-check_lefts.field-0.0 r.ensures.1 c.in_err-check_lefts.ensures.refused

pub returns-clause-named : goal.returns-clause-named
returns-clause-named c =
    let f = node_seen c.args.node.now in
    let before = texts c.args.names.now.variables.keys in
    let all = texts c.declare_variables.new.table.keys in
    let own = from_empty before (names_in (groups f)) all c.requires.empty c.in_ok-declare_variables.ensures.kept in
    let distinct = new_from_empty before (names_in (groups f)) c.requires.empty c.in_ok-declare_variables.ensures.new in
    parts_named (known_seen c.args.names.now) all f c.unknown_in_node.result own c.unknown_in_node.ensures distinct c.in_ok-refuse.ensures c.in_ok-check_lefts.ensures.named

pub returns-clause-variables : goal.returns-clause-variables
returns-clause-variables c =
    let gs = groups (node_seen c.args.node.now) in
    let keys = c.declare_variables.new.table.keys in
    let own : texts keys ≡ names_in gs = from_empty (texts c.args.names.now.variables.keys) (names_in gs) (texts keys) c.requires.empty c.in_ok-declare_variables.ensures.kept in
    (rw c.replace.ensures.value at c.new-variables.ensures) ∙ own

pub returns-clause-kept : goal.returns-clause-kept
returns-clause-kept c =
    let empty = ap texts c.clear.ensures.empty ∙ sym c.requires.empty in
    ap (λ vs. record (known_seen c.args.names.now) { variables = vs }) empty
