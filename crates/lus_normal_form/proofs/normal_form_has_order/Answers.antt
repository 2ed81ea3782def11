-- A normal form has an order where its source has.
use Rattle.lus_normal_form.proofs.Orders.{normal_has_order}
use Rattle.lus_normal_form.proofs.normal_form_has_order.Goals as goal

pub returns : goal.returns
returns c = normal_has_order
