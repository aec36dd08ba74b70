-- What is counted of all arrivals.
use Rattle.std.specs.Prelude.{ℕ, List, ◌==◌, filter}
use Rattle.pictures.specs.declared.arrivals.Arrival.{Arrival}
use Rattle.pictures.specs.declared.arrivals.Flow.{Flow}
use Rattle.pictures.specs.declared.arrivals.Flow.TheVariants.{DownlinkCommands, UplinkCommands, DownlinkData, UplinkData}
use Rattle.pictures.specs.declared.rows.Rows.{Rows}
use Rattle.pictures.specs.Tallies.{tally_of}

abbrev pub number_of : Flow → ℕ
number_of DownlinkCommands = 0
number_of UplinkCommands = 1
number_of DownlinkData = 2
number_of UplinkData = 3

-- the arrivals of a flow
abbrev pub of_flow : Flow → List Arrival → List Arrival
of_flow flow came = filter (λ a. number_of a.flow == number_of flow) came

-- what is counted of all flows
unfoldable pub rows_of : List Arrival → Rows
rows_of came = record {
  downlink_commands = tally_of (of_flow DownlinkCommands came);
  uplink_commands = tally_of (of_flow UplinkCommands came);
  downlink_data = tally_of (of_flow DownlinkData came);
  uplink_data = tally_of (of_flow UplinkData came);
}
