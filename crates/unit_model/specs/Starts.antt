-- A symbol and its start, and what is told of it.
use Rattle.std.specs.Prelude.{ℕ, List, map, filter, reverse}
use Rattle.fh_base.specs.declared.values.Slot.{Slot}
use Rattle.fh_base.specs.Air.{air_of}
use Rattle.air_source.specs.declared.events.AirCell.{AirCell}
use Rattle.air_source.specs.declared.events.Side.{Side}
use Rattle.window_config.specs.declared.endpoints.EndpointConfig.{EndpointConfig}
use Rattle.unit_model.specs.Claims.{cell_at}
use Rattle.fh_base.specs.Lists.{each, in_order}
use Rattle.unit_model.specs.Radiated.{Known, report_of}
use Rattle.unit_model.specs.Uplink.{is_before, job_of, sends_in}
use Rattle.unit_model.specs.declared.allocations.Allocation.{Allocation}
use Rattle.unit_model.specs.declared.jobs.UplinkJob.{UplinkJob}
use Rattle.unit_model.specs.declared.symbol_start.SymbolStart.{SymbolStart}
use Rattle.air_source.specs.Units.{is_down}

abbrev pub start_at : ℕ → EndpointConfig → Slot → ℕ → SymbolStart
start_at ep e slot symbol = record {
  ep = ep;
  endpoint = e;
  start = record { 0 = air_of e.numerology slot symbol };
  slot = slot;
  symbol = symbol;
}

-- what is told of such a symbol: its cells, where these are claims and blocks, and its uplink messages
abbrev pub cell_told : Side → Known → SymbolStart → ℕ → List AirCell
cell_told side k m prb =
    report_of side m.endpoint (cell_at m.ep (is_down side) m.slot m.symbol prb) m.start.0 (k.claims (cell_at m.ep (is_down side) m.slot m.symbol prb))
    (k.blocks (cell_at m.ep (is_down side) m.slot m.symbol prb))

abbrev pub cells_at : Side → Known → SymbolStart → List AirCell
cells_at side k m = each 0 m.endpoint.prbs (cell_told side k m)

abbrev pub jobs_at : List Allocation → SymbolStart → List UplinkJob
jobs_at accepted m =
    map (job_of m.ep m.start.0 m.slot m.symbol) (in_order is_before (filter (sends_in m.ep m.slot m.symbol) (reverse accepted)))
