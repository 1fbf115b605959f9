use Rattle.std.proofs.Common.{◌≡◌, None, length}
use Rattle.dc_network.specs.DcNetworks.{dc_network}
use Rattle.factor_maker.specs.Columns.{AreColumns}
use Rattle.factor_maker.proofs.shifting.exact_columns.Given as goal

abbrev pub invariant-loop-bus : goal.invariant-loop-bus
invariant-loop-bus l = record {
  count : length l.columns ≡ l.bus;
  are : AreColumns (dc_network l.network l.reactances None) l.network.reference l.places l.columns;
}
