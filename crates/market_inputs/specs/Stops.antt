-- Why the work ends before its end.
use Rattle.std.specs.Prelude.{Result, Ok, Err}
use Rattle.case_text.specs.declared.CaseFault.{CaseFault}
use Rattle.case_text.specs.declared.CaseFault.TheVariants as case
use Rattle.case_text.specs.declared.costs.CostsFault.{CostsFault}
use Rattle.case_text.specs.declared.costs.CostsFault.TheVariants as costs
use Rattle.net_case.specs.declared.live_parts.NetFault.{NetFault}
use Rattle.net_case.specs.declared.live_parts.NetFault.TheVariants as net
use Rattle.net_paths.specs.declared.connection.PathStop.{PathStop}
use Rattle.net_paths.specs.declared.connection.PathStop.TheVariants as path
use Rattle.factor_tables.specs.declared.table_fault.TableFault.{TableFault}
use Rattle.factor_tables.specs.declared.table_fault.TableFault.TheVariants as table
use Rattle.outage_list.specs.declared.listing.OutageFault.{OutageFault}
use Rattle.outage_list.specs.declared.listing.OutageFault.TheVariants as outage
use Rattle.outage_list.specs.declared.unit_fault.UnitOutageFault.{UnitOutageFault}
use Rattle.outage_list.specs.declared.unit_fault.UnitOutageFault.TheVariants as unit_outage
use Rattle.offer_book.specs.declared.offer_table.OfferFault.{OfferFault}
use Rattle.offer_book.specs.declared.offer_table.OfferFault.TheVariants as offer
use Rattle.offer_book.specs.declared.reserve_reading.ReserveFault.{ReserveFault}
use Rattle.offer_book.specs.declared.reserve_reading.ReserveFault.TheVariants as reserve
use Rattle.rights_test.specs.declared.right_parts.RightsFault.{RightsFault}
use Rattle.rights_test.specs.declared.right_parts.RightsFault.TheVariants as rights
use Rattle.edit_table.specs.declared.StepFault.{StepFault}
use Rattle.edit_table.specs.declared.StepFault.TheVariants as step
use Rattle.cert_format.specs.declared.certificate.CertFault.{CertFault}
use Rattle.cert_format.specs.declared.certificate.CertFault.TheVariants as certificate
use Rattle.refusal_text.specs.declared.refusals.Input.{Input}
use Rattle.refusal_text.specs.declared.refusals.Refusal.{Refusal}
use Rattle.refusal_text.specs.declared.refusals.Refusal.TheVariants as refusal
use Rattle.market_inputs.specs.declared.stops.InputStop.{InputStop}
use Rattle.market_inputs.specs.declared.stops.InputStop.TheVariants as stop

-- what holds of what is made or refused; want of memory may come at any time
abbrev pub IsToldAs : {A : Type 0} → (Result A Refusal → Type 0) → Result A InputStop → Type 0
IsToldAs holds (Ok x) = holds (Ok x)
IsToldAs holds (Err (stop.Refused r)) = holds (Err r)
IsToldAs holds (Err stop.Memory) = Unit {0}

-- ---- a fault of each kind as a stop
abbrev pub case_stop : CaseFault → InputStop
case_stop case.Memory = stop.Memory
case_stop f = stop.Refused (refusal.Case f)

abbrev pub costs_stop : CostsFault → InputStop
costs_stop (costs.Text case.Memory) = stop.Memory
costs_stop f = stop.Refused (refusal.Costs f)

abbrev pub net_stop : NetFault → InputStop
net_stop net.Memory = stop.Memory
net_stop f = stop.Refused (refusal.Network f)

abbrev pub split_stop : PathStop → InputStop
split_stop (path.Split bus) = stop.Refused (refusal.Split bus)
split_stop path.Memory = stop.Memory

abbrev pub table_stop_of : Input → TableFault → InputStop
table_stop_of file table.Memory = stop.Memory
table_stop_of file f = stop.Refused (refusal.Table file f)

abbrev pub outage_stop : OutageFault → InputStop
outage_stop outage.Memory = stop.Memory
outage_stop f = stop.Refused (refusal.Outages f)

abbrev pub unit_outage_stop : UnitOutageFault → InputStop
unit_outage_stop unit_outage.Memory = stop.Memory
unit_outage_stop f = stop.Refused (refusal.UnitOutages f)

abbrev pub offer_stop : OfferFault → InputStop
offer_stop offer.Memory = stop.Memory
offer_stop f = stop.Refused (refusal.Offers f)

abbrev pub reserve_stop : ReserveFault → InputStop
reserve_stop reserve.Memory = stop.Memory
reserve_stop f = stop.Refused (refusal.Reserves f)

abbrev pub rights_stop : RightsFault → InputStop
rights_stop rights.Memory = stop.Memory
rights_stop f = stop.Refused (refusal.Rights f)

abbrev pub step_stop : StepFault → InputStop
step_stop step.Memory = stop.Memory
step_stop f = stop.Refused (refusal.Edits f)

abbrev pub certificate_stop : CertFault → InputStop
certificate_stop (certificate.Key key) = stop.Refused (refusal.Certificate key)
certificate_stop certificate.Memory = stop.Memory
