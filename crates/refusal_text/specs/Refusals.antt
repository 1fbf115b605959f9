-- Why a file is refused, and the line that says so.
use Rattle.std.specs.Prelude.{ℕ, List, [], ◌++◌, codes, decimal}
use Rattle.std.specs.List.{flat_map}
use Rattle.scaled_decimal.specs.declared.DecimalFault.TheVariants as decimal_fault
use Rattle.line_text.specs.Decimals.{decimal_text}
use Rattle.case_text.specs.declared.Field.{Field}
use Rattle.case_text.specs.declared.Field.TheVariants as field
use Rattle.case_text.specs.declared.CaseFault.{CaseFault}
use Rattle.case_text.specs.declared.CaseFault.TheVariants as case_fault
use Rattle.record_reading.specs.declared.FrameFault.{FrameFault}
use Rattle.record_reading.specs.declared.FrameFault.TheVariants as frame_fault
use Rattle.record_reading.specs.declared.Why.{Why}
use Rattle.record_reading.specs.declared.Why.TheVariants as why
use Rattle.net_case.specs.declared.live_parts.NetFault.{NetFault}
use Rattle.net_case.specs.declared.live_parts.NetFault.TheVariants as net_fault
use Rattle.factor_tables.specs.declared.table_fault.TableFault.{TableFault}
use Rattle.factor_tables.specs.declared.table_fault.TableFault.TheVariants as table_fault
use Rattle.factor_tables.specs.declared.covering.Uncovered.{Uncovered}
use Rattle.factor_tables.specs.declared.covering.Uncovered.TheVariants as uncovered
use Rattle.outage_list.specs.declared.listing.OutageFault.{OutageFault}
use Rattle.outage_list.specs.declared.listing.OutageFault.TheVariants as outage_fault
use Rattle.outage_list.specs.declared.unit_fault.UnitOutageFault.{UnitOutageFault}
use Rattle.outage_list.specs.declared.unit_fault.UnitOutageFault.TheVariants as unit_outage_fault
use Rattle.offer_book.specs.declared.offer_table.OfferFault.{OfferFault}
use Rattle.offer_book.specs.declared.offer_table.OfferFault.TheVariants as offer_fault
use Rattle.offer_book.specs.declared.reserve_reading.ReserveFault.{ReserveFault}
use Rattle.offer_book.specs.declared.reserve_reading.ReserveFault.TheVariants as reserve_fault
use Rattle.rights_test.specs.declared.right_parts.RightsFault.{RightsFault}
use Rattle.rights_test.specs.declared.right_parts.RightsFault.TheVariants as rights_fault
use Rattle.edit_table.specs.declared.StepFault.{StepFault}
use Rattle.edit_table.specs.declared.StepFault.TheVariants as step_fault
use Rattle.cert_format.specs.declared.certificate.Key.{Key}
use Rattle.cert_format.specs.declared.certificate.Key.TheVariants as key
use Rattle.case_text.specs.declared.costs.CostsFault.{CostsFault}
use Rattle.case_text.specs.declared.costs.CostsFault.TheVariants as costs_fault
use Rattle.cost_reading.specs.declared.RowFault.{RowFault}
use Rattle.cost_reading.specs.declared.RowFault.TheVariants as row_fault
use Rattle.cost_reading.specs.declared.CostFault.{CostFault}
use Rattle.cost_reading.specs.declared.CostFault.TheVariants as cost_fault
use Rattle.unit_offers.specs.declared.stops.OfferStop.{OfferStop}
use Rattle.unit_offers.specs.declared.stops.OfferStop.TheVariants as offer_stop
use Rattle.refusal_text.specs.declared.refusals.FactorFault.{FactorFault}
use Rattle.refusal_text.specs.declared.refusals.FactorFault.TheVariants as factor_fault
use Rattle.refusal_text.specs.declared.refusals.Input.{Input}
use Rattle.refusal_text.specs.declared.refusals.Input.TheVariants as input
use Rattle.refusal_text.specs.declared.refusals.Refusal.{Refusal}
use Rattle.refusal_text.specs.declared.refusals.Refusal.TheVariants as refusal
use Rattle.market_data.specs.Scales.{share_places}

abbrev pub field_name : Field → List ℕ
field_name field.Version = codes "version"
field_name field.BaseMva = codes "baseMVA"
field_name field.Bus = codes "bus"
field_name field.Gen = codes "gen"
field_name field.Branch = codes "branch"

abbrev pub why_name : Why → List ℕ
why_name (why.Decimal decimal_fault.BadNumber) = codes "BadNumber"
why_name (why.Decimal decimal_fault.NotFinite) = codes "NotFinite"
why_name (why.Decimal decimal_fault.TooFine) = codes "TooFine"
why_name (why.Decimal decimal_fault.OutOfRange) = codes "OutOfRange"
why_name why.Bounds = codes "Bounds"

-- a fault by its name, and where it is; want of memory is none
unfoldable pub case_words : CaseFault → List ℕ
case_words (case_fault.Code line) = codes "Code line " ++ decimal line
case_words (case_fault.BadToken place) = codes "BadToken at " ++ decimal place
case_words case_fault.VersionOne = codes "VersionOne"
case_words (case_fault.Twice f) = codes "Twice " ++ field_name f
case_words (case_fault.Ragged f row) = codes "Ragged " ++ field_name f ++ codes " row " ++ decimal row
case_words (case_fault.Narrow f) = codes "Narrow " ++ field_name f
case_words case_fault.NoVersion = codes "NoVersion"
case_words (case_fault.Missing f) = codes "Missing " ++ field_name f
case_words case_fault.Memory = []

unfoldable pub net_words : NetFault → List ℕ
net_words (net_fault.TooMany f count) = codes "TooMany " ++ field_name f ++ codes " count " ++ decimal count
net_words (net_fault.Cell f row col w) = codes "Cell " ++ field_name f ++ codes " row " ++ decimal row ++ codes " col " ++ decimal col ++ codes " " ++ why_name w
net_words (net_fault.BusTwice row) = codes "BusTwice row " ++ decimal row
net_words (net_fault.NoBus f row) = codes "NoBus " ++ field_name f ++ codes " row " ++ decimal row
net_words (net_fault.SameEnds row) = codes "SameEnds row " ++ decimal row
net_words net_fault.NoReference = codes "NoReference"
net_words (net_fault.MinAboveMax unit) = codes "MinAboveMax " ++ codes "unit " ++ decimal unit
net_words net_fault.Memory = []

-- what every table may have wrong
unfoldable pub frame_words : FrameFault → List ℕ
frame_words frame_fault.Header = codes "Header"
frame_words (frame_fault.Width line) = codes "Width" ++ codes " line " ++ decimal line
frame_words (frame_fault.TooMany count) = codes "TooMany count " ++ decimal count
frame_words (frame_fault.Cell line col w) = codes "Cell line " ++ decimal line ++ codes " col " ++ decimal col ++ codes " " ++ why_name w

unfoldable pub offer_words : OfferFault → List ℕ
offer_words (offer_fault.Frame f) = frame_words f
offer_words (offer_fault.Side line) = codes "Side" ++ codes " line " ++ decimal line
offer_words (offer_fault.NoUnit line) = codes "NoUnit" ++ codes " line " ++ decimal line
offer_words (offer_fault.Negative line) = codes "Negative" ++ codes " line " ++ decimal line
offer_words (offer_fault.OutOfOrder line) = codes "OutOfOrder" ++ codes " line " ++ decimal line
offer_words (offer_fault.OverCapacity line) = codes "OverCapacity" ++ codes " line " ++ decimal line
offer_words offer_fault.Memory = []

unfoldable pub reserve_words : ReserveFault → List ℕ
reserve_words (reserve_fault.Frame f) = frame_words f
reserve_words (reserve_fault.Word line) = codes "Word" ++ codes " line " ++ decimal line
reserve_words (reserve_fault.NoUnit line) = codes "NoUnit" ++ codes " line " ++ decimal line
reserve_words (reserve_fault.Negative line) = codes "Negative" ++ codes " line " ++ decimal line
reserve_words (reserve_fault.Twice line) = codes "Twice" ++ codes " line " ++ decimal line
reserve_words reserve_fault.Memory = []

unfoldable pub rights_words : RightsFault → List ℕ
rights_words (rights_fault.Frame f) = frame_words f
rights_words (rights_fault.NoBus line) = codes "NoBus" ++ codes " line " ++ decimal line
rights_words (rights_fault.Negative line) = codes "Negative" ++ codes " line " ++ decimal line
rights_words rights_fault.Memory = []

unfoldable pub step_words : StepFault → List ℕ
step_words (step_fault.Frame f) = frame_words f
step_words (step_fault.Word line) = codes "Word" ++ codes " line " ++ decimal line
step_words step_fault.Memory = []

unfoldable pub table_words : TableFault → List ℕ
table_words (table_fault.Frame f) = frame_words f
table_words (table_fault.NoBranch line) = codes "NoBranch" ++ codes " line " ++ decimal line
table_words (table_fault.NoBus line) = codes "NoBus" ++ codes " line " ++ decimal line
table_words (table_fault.DeadBranch line) = codes "DeadBranch" ++ codes " line " ++ decimal line
table_words (table_fault.DeadBus line) = codes "DeadBus" ++ codes " line " ++ decimal line
table_words (table_fault.Twice line) = codes "Twice" ++ codes " line " ++ decimal line
table_words (table_fault.Kind line) = codes "Kind" ++ codes " line " ++ decimal line
table_words (table_fault.NoLimit line) = codes "NoLimit" ++ codes " line " ++ decimal line
table_words (table_fault.Penalty line) = codes "Penalty" ++ codes " line " ++ decimal line
table_words (table_fault.NoOffset branch) = codes "NoOffset branch " ++ decimal branch
table_words table_fault.Memory = []

-- the numbers of the buses on a side, each behind a blank
abbrev pub side_text : List ℕ → List ℕ
side_text side = flat_map (λ bus. codes " " ++ decimal bus) side

unfoldable pub outage_words : OutageFault → List ℕ
outage_words (outage_fault.NoBranch line) = codes "NoBranch" ++ codes " line " ++ decimal line
outage_words (outage_fault.DeadBranch line) = codes "DeadBranch" ++ codes " line " ++ decimal line
outage_words (outage_fault.Twice line) = codes "Twice" ++ codes " line " ++ decimal line
outage_words (outage_fault.Islands branch side) = codes "Islands branch " ++ decimal branch ++ codes " side" ++ side_text side
outage_words outage_fault.Memory = []

-- a sum of shares is a decimal, of at most six places
unfoldable pub unit_outage_words : UnitOutageFault → List ℕ
unit_outage_words (unit_outage_fault.Frame f) = frame_words f
unit_outage_words (unit_outage_fault.NoUnit line) = codes "NoUnit" ++ codes " line " ++ decimal line
unit_outage_words (unit_outage_fault.DeadUnit line) = codes "DeadUnit" ++ codes " line " ++ decimal line
unit_outage_words (unit_outage_fault.SameUnit line) = codes "SameUnit" ++ codes " line " ++ decimal line
unit_outage_words (unit_outage_fault.Share line) = codes "Share" ++ codes " line " ++ decimal line
unit_outage_words (unit_outage_fault.Twice line) = codes "Twice" ++ codes " line " ++ decimal line
unit_outage_words (unit_outage_fault.ShareSum unit sum) = codes "ShareSum unit " ++ decimal unit ++ codes " sum " ++ decimal_text share_places sum
unit_outage_words unit_outage_fault.Memory = []

-- what the two tables of factors lack
unfoldable pub lack_words : Uncovered → List ℕ
lack_words (uncovered.NoShift branch) = codes "NoShift branch " ++ decimal branch
lack_words (uncovered.NoLoss branch) = codes "NoLoss branch " ++ decimal branch

-- what is against making tables of factors
unfoldable pub factor_words : FactorFault → List ℕ
factor_words (factor_fault.TooMany count) = codes "TooMany count " ++ decimal count
factor_words (factor_fault.NotPositive branch) = codes "NotPositive branch " ++ decimal branch

-- what is wrong with the rows of costs
unfoldable pub costs_words : CostsFault → List ℕ
costs_words (costs_fault.Text f) = case_words f
costs_words costs_fault.Twice = codes "Twice gencost"
costs_words (costs_fault.Ragged row) = codes "Ragged gencost row " ++ decimal row

-- with one of them
unfoldable pub row_cost_words : RowFault → List ℕ
row_cost_words (row_fault.Cell col w) = codes "Cell col " ++ decimal col ++ codes " " ++ why_name w
row_cost_words row_fault.Model = codes "Model"
row_cost_words row_fault.Count = codes "Count"
row_cost_words row_fault.Degree = codes "Degree"

unfoldable pub cost_words : CostFault → List ℕ
cost_words (cost_fault.Row f) = row_cost_words f
cost_words cost_fault.Outputs = codes "Outputs"
cost_words cost_fault.Slopes = codes "Slopes"
cost_words cost_fault.Memory = []

-- what is against making offers of costs
unfoldable pub unoffered_words : OfferStop → List ℕ
unoffered_words (offer_stop.TooFew rows) = codes "TooFew gencost rows " ++ decimal rows
unoffered_words (offer_stop.Cost unit f) = codes "Cost unit " ++ decimal unit ++ codes " " ++ cost_words f
unoffered_words (offer_stop.Price unit) = codes "Price unit " ++ decimal unit
unoffered_words offer_stop.TooMany = codes "TooMany blocks"
unoffered_words offer_stop.Memory = []

-- the first part of a certificate's text that is at fault
abbrev pub key_name : Key → List ℕ
key_name key.Json = codes "json"
key_name key.Version = codes "version"
key_name key.Kind = codes "kind"
key_name key.Energy = codes "energy"
key_name key.Blocks = codes "blocks"
key_name key.Limits = codes "limits"
key_name key.Places = codes "places"
key_name key.Reserve = codes "reserve"
key_name key.Extra = codes "extra"

abbrev pub input_name : Input → List ℕ
input_name input.Case = codes "case "
input_name input.Ptdf = codes "ptdf "
input_name input.Lodf = codes "lodf "
input_name input.Contingencies = codes "contingencies "
input_name input.UnitOutages = codes "unit-outages "
input_name input.Offers = codes "offers "
input_name input.Reserves = codes "reserves "
input_name input.Offsets = codes "offsets "
input_name input.Penalties = codes "penalties "
input_name input.Rights = codes "rights "
input_name input.Edits = codes "edits "
input_name input.Certificate = codes "certificate "

-- which file it is
abbrev pub file_name : Refusal → List ℕ
file_name (refusal.TooLong i) = input_name i
file_name (refusal.Case f) = codes "case "
file_name (refusal.Network f) = codes "case "
file_name (refusal.Split bus) = codes "case "
file_name (refusal.Table i f) = input_name i
file_name (refusal.Outages f) = codes "contingencies "
file_name (refusal.UnitOutages f) = codes "unit-outages "
file_name (refusal.Uncovered lack) = codes "factors "
file_name (refusal.Factors f) = codes "factors "
file_name (refusal.Costs f) = codes "case "
file_name refusal.NoCosts = codes "case "
file_name (refusal.Unoffered why) = codes "case "
file_name (refusal.Offers f) = codes "offers "
file_name (refusal.Reserves f) = codes "reserves "
file_name (refusal.Rights f) = codes "rights "
file_name (refusal.Edits f) = codes "edits "
file_name (refusal.Certificate k) = codes "certificate "

-- its fault; of a file that is too long, the most bytes of a file
unfoldable pub fault_words : Refusal → List ℕ
fault_words (refusal.TooLong i) = codes "TooLong limit 33554432"
fault_words (refusal.Case f) = case_words f
fault_words (refusal.Network f) = net_words f
fault_words (refusal.Split bus) = codes "Split bus " ++ decimal bus
fault_words (refusal.Table i f) = table_words f
fault_words (refusal.Outages f) = outage_words f
fault_words (refusal.UnitOutages f) = unit_outage_words f
fault_words (refusal.Uncovered lack) = lack_words lack
fault_words (refusal.Factors f) = factor_words f
fault_words (refusal.Costs f) = costs_words f
fault_words refusal.NoCosts = codes "Missing gencost"
fault_words (refusal.Unoffered why) = unoffered_words why
fault_words (refusal.Offers f) = offer_words f
fault_words (refusal.Reserves f) = reserve_words f
fault_words (refusal.Rights f) = rights_words f
fault_words (refusal.Edits f) = step_words f
fault_words (refusal.Certificate k) = codes "Key " ++ key_name k

-- which file it is, and its fault
unfoldable pub refusal_words : Refusal → List ℕ
refusal_words r = file_name r ++ fault_words r

-- the line that refuses a file
unfoldable pub refusal_line : Refusal → List ℕ
refusal_line r = codes "refused " ++ refusal_words r ++ codes "\n"
