-- A past is followed by the one behind the entry, and the picked entries are of its instants.
use Rattle.std.proofs.Common.{IsTrue, map, refl, sym, subst}
use Rattle.std.proofs.lemmas.Result.{on_ok_weaker}
use Rattle.lus_program.specs.View.{program_seen}
use Rattle.lus_history.specs.Pasts.{after}
use Rattle.lus_windows.specs.declared.window.Window.{Window}
use Rattle.lus_windows.specs.Picks.{GoesOn}
use Rattle.lus_windows.specs.Windows.{KeepsPast, has_slot}
use Rattle.lus_windows.proofs.Following.{appends, follows, goes_forth}
use Rattle.lus_windows.proofs.window.Window.follow.Goals as goal

pub returns-in-Done-clause-followed : goal.returns-in-Done-clause-followed
returns-in-Done-clause-followed c =
    let p = program_seen c.args.program.now in
    let old = c.args.self.now in
    let new = c.follow_done.new.self in
    let r = c.args.request.now in
    let a = c.args.reply.now in
    on_ok_weaker c.follow_done.result
    (λ goes f h n. follows p f old new r a (λ sure past slots k. subst (λ b. KeepsPast sure p f (after past r b) new) (sym c.in-Done.is) (goes sure f past (λ t. subst (λ b. IsTrue (has_slot r b)) c.in-Done.is (slots t)) k)) h n) c.follow_done.ensures

pub returns : goal.returns
returns c =
    let p = program_seen c.args.program.now in
    let old = c.args.self.now in
    let new : Window = record old { reached = c.go_through.new.reached } in
    let r = c.args.request.now in
    let a = c.args.reply.now in
    let rows = c.accepted_rows.result.now in
    let picks = c.args.picks.now in
    let before = c.args.picked.now.items in
    let later = c.go_through.new.picked.items in
    let went = on_ok_weaker c.go_through.result (subst (λ os. GoesOn p old.node (map (λ order. order.items) os) rows picks old.reached c.go_through.new.reached before later) c.deref.ensures.value) c.go_through.ensures in
    record {
      followed = on_ok_weaker c.go_through.result
          (λ goes f h n. follows p f old new r a (λ sure past slots k. goes_forth p old new r a rows c.accepted_rows.ensures picks before later goes c.requires.clocks sure f refl refl refl c.in_default.not-Done past k) h n)
          went;
      picked = on_ok_weaker c.go_through.result (λ goes. appends p old new r a rows c.accepted_rows.ensures picks before later goes c.requires.clocks) went;
    }
