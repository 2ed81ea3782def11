use Rattle.std.proofs.Common.{◌∙◌, get_or, map, refl, ap}
use Rattle.lus_orders.proofs.Lists.{got}
use Rattle.lus_emission.specs.Calls.{seen_argument}
use Rattle.lus_emission.proofs.calls.call_at.Goals as goal

pub returns : goal.returns
returns c =
    let es = c.args.emitted.now in
    let q = c.args.call.now in
    let d = get_or es q.node c.index-emitted-call.result in
    record {
      node = refl;
      base = refl;
      arguments = c.in_ok-arguments.ensures ∙ ap (map seen_argument) c.deref.ensures.value;
      stands = record { called = d; found = got es q.node d c.requires (ap (get_or es q.node) c.index-emitted-call.is); begins = refl; long = refl };
    }
