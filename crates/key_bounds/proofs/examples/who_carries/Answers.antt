use Rattle.key_bounds.proofs.SmallShops.{keyless_carriers, shop_carriers, trade_carriers, undeclared_carriers, worker_carriers}
use Rattle.key_bounds.proofs.examples.who_carries.Goals as goal

pub returns-clause-declared : goal.returns-clause-declared
returns-clause-declared c = shop_carriers

pub returns-clause-undeclared : goal.returns-clause-undeclared
returns-clause-undeclared c = undeclared_carriers

pub returns-clause-no_key : goal.returns-clause-no_key
returns-clause-no_key c = keyless_carriers

pub returns-clause-to_its_own_table : goal.returns-clause-to_its_own_table
returns-clause-to_its_own_table c = worker_carriers

pub returns-clause-twice : goal.returns-clause-twice
returns-clause-twice c = trade_carriers
