use Rattle.lus_orders.proofs.Stores.{stores_store}
use Rattle.lus_orders.proofs.laws.stores_store.Goals as goal

pub returns : goal.returns
returns c = stores_store
