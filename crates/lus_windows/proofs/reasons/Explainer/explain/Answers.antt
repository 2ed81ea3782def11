-- The entry is followed behind its reason.
use Rattle.std.proofs.Common.{string_bytes, refl}
use Rattle.std.proofs.lemmas.Result.{on_ok_weaker}
use Rattle.lus_program.specs.View.{program_seen}
use Rattle.lus_windows.specs.declared.reasons.Explainer.{Explainer}
use Rattle.lus_windows.proofs.Noted.{explained}
use Rattle.lus_windows.proofs.reasons.Explainer.explain.Goals as goal

pub returns : goal.returns
returns c =
    let p = program_seen c.args.program.now in
    let old = c.args.self.now in
    let new : Explainer = record { instance = old.instance; window = c.follow.new.self; picked = c.follow.new.picked } in
    on_ok_weaker c.follow.result
    (λ follow f instance h n. explained p f c.args.names.now instance c.args.line h old new (string_bytes c.args.text.now) (string_bytes c.push_entry.new.text) n
    c.args.request.now c.args.reply.now c.requires.clocks refl c.in_ok-push_entry.ensures (follow f h n))
    c.follow.ensures.followed
