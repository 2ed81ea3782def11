-- By what was replayed.
use Rattle.std.proofs.Common.{◌∙◌, ◌++◌, ◌∷◌, [], ap, string_bytes, subst}
use Rattle.std.specs.Arc.{arc_value}
use Rattle.lus_live_instance.specs.MachineSpecs.CodeSpecs.Codes.{program_of}
use Rattle.lus_hosting.specs.Hosts.{HasReplayedOn}
use Rattle.lus_hosting.proofs.FoundLaws.{found_none, found_right, found_wrong}
use Rattle.lus_hosting.proofs.auditing.audit_entry.Goals as goal

pub returns-in-Right-clause-found : goal.returns-in-Right-clause-found
returns-in-Right-clause-found c = λ log word kind keeps.
    (let p = program_of (arc_value c.args.host.program.now) in
    let has = subst (λ v. HasReplayedOn p c.args.host.node.0 log c.args.instance.now (c.args.entry.now ++ 10 ∷ []) (string_bytes c.replay_on.new.right) v c.replay_on.new.instances)
    c.in-Right.is (c.in-Ok.ensures log keeps) in
    found_right p c.args.host.node.0 log c.args.instance.now c.args.entry.now word c.replay_on.new.instances (string_bytes c.args.right.now) (string_bytes c.replay_on.new.right) has)

pub returns-in-Wrong-clause-found : goal.returns-in-Wrong-clause-found
returns-in-Wrong-clause-found c = λ log word kind keeps.
    (let p = program_of (arc_value c.args.host.program.now) in
    let has = subst (λ v. HasReplayedOn p c.args.host.node.0 log c.args.instance.now (c.args.entry.now ++ 10 ∷ []) (string_bytes c.replay_on.new.right) v c.replay_on.new.instances)
    c.in-Wrong.is (c.in-Ok.ensures log keeps) in
    found_wrong p c.args.host.node.0 log c.args.instance.now c.args.entry.now word c.replay_on.new.instances (string_bytes c.spell_behind.new.right) (string_bytes c.replay_on.new.right) has
    (c.in_ok-spell_behind-in-Wrong.ensures ∙ ap (λ t. c.args.instance.now ++ 32 ∷ t) c.deref.ensures))

pub returns-clause-found : goal.returns-clause-found
returns-clause-found c = λ log word kind keeps.
    (let p = program_of (arc_value c.args.host.program.now) in
    let has = subst (λ v. HasReplayedOn p c.args.host.node.0 log c.args.instance.now (c.args.entry.now ++ 10 ∷ []) (string_bytes c.replay_on.new.right) v c.replay_on.new.instances)
    c.in-NoEntry.is (c.in-Ok.ensures log keeps) in
    found_none p c.args.host.node.0 log c.args.instance.now c.args.entry.now word c.replay_on.new.instances (string_bytes c.args.right.now) (string_bytes c.replay_on.new.right) has kind)
