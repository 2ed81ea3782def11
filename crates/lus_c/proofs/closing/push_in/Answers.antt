use Rattle.std.proofs.Common.{sym, subst, refl, IsTrue}
use Rattle.lus_foreign.specs.declared.content.Content.{Content as ContentType}
use Rattle.lus_c.specs.Owed.{ContentTells}
use Rattle.lus_foreign.proofs.Gathers.{belongs}
use Rattle.lus_c.proofs.closing.push_in.Goals as goal

pub push-requires : goal.push-requires
push-requires c = belongs c.args.seats.now c.in-Seat.seat (c.is_mate.ensures (subst IsTrue (sym c.if-not-is_mate.false) refl))
    (subst (λ (t : ContentType). ContentTells c.args.seats.now t) c.in-Seat.is c.requires)
