-- What is kept while bus rows are read.
use Rattle.std.specs.Prelude.{◌≡◌, ◌<◌, true, Ok, List, length, All, IfSome, IsSome}
use Rattle.market_data.specs.Participants.{IsBus}
use Rattle.record_reading.specs.Records.{Record}
use Rattle.net_case.specs.Networks.{AreBusRows, IsBusNumber}
use Rattle.net_case.specs.NetworkReading.{bus_rows, live_buses, places_from, reference_of}
use Rattle.net_case.specs.declared.bus_rows.BusRow.{BusRow}
use Rattle.net_case.specs.declared.bus_rows.BusRows.{BusRows}
use Rattle.net_case.specs.declared.bus_rows.LiveBuses.{LiveBuses}

-- a row of which the reference is live, and the live bus has its number
pub record IsBusRow (row : BusRow) : Type 0 where
  pub number : IsBusNumber row.number
  pub reference : row.is_reference ≡ true → IsSome row.live
  pub bus : IfSome row.live IsBus
  pub same : IfSome row.live (λ bus. bus.number ≡ row.number)

pub record AreRead (rows : BusRows) : Type 0 where
  pub buses : All IsBus rows.buses
  pub places : AreBusRows rows.buses rows.places.entries
  pub reference : IfSome rows.reference (λ place. place < length rows.buses)

pub record AreLive (rows : LiveBuses) : Type 0 where
  pub buses : All IsBus rows.buses
  pub places : AreBusRows rows.buses rows.places.entries
  pub reference : rows.reference < length rows.buses

-- what is kept is that of these bus rows
pub record Keeps (done : List BusRow) (rows : BusRows) : Type 0 where
  pub buses : rows.buses ≡ live_buses done
  pub places : rows.places.entries ≡ places_from 0 done
  pub reference : rows.reference ≡ reference_of done

-- what is kept is that of all bus rows of a matrix
pub record HoldBusRows (matrix : List Record) (rows : LiveBuses) : Type 0 where
  pub done : List BusRow
  pub read : bus_rows matrix ≡ Ok (record { rows = done; reference = rows.reference })
  pub buses : rows.buses ≡ live_buses done
  pub places : rows.places.entries ≡ places_from 0 done
