-- The uplink messages that the radio unit is to send: one for each symbol of each accepted uplink section (this project's profile).
use Rattle.std.specs.Prelude.{ℕ, ℤ, pos, ◌+ℤ◌, ◌==◌, Bool, ◌&&◌, ◌||◌, nat_lt, List, map, filter, reverse}
use Rattle.fh_base.specs.declared.values.Slot.{Slot}
use Rattle.fh_base.specs.Air.{air_of}
use Rattle.window_config.specs.declared.endpoints.EndpointConfig.{EndpointConfig}
use Rattle.unit_model.specs.Claims.{same_slot, is_from}
use Rattle.unit_model.specs.Commands.{is_uplink}
use Rattle.fh_base.specs.Lists.{in_order}
use Rattle.unit_model.specs.Radiated.{first_clock}
use Rattle.unit_model.specs.Sweeps.{sweep}
use Rattle.unit_model.specs.declared.allocations.Allocation.{Allocation}
use Rattle.unit_model.specs.declared.jobs.UplinkJob.{UplinkJob}

-- an uplink section that covers a symbol
abbrev pub sends_in : ℕ → Slot → ℕ → Allocation → Bool
sends_in ep slot symbol a =
    is_uplink a && ((a.ep == ep) && (same_slot a.slot slot && is_from a.symbol a.num_symbol symbol))

-- the order of the messages of one symbol: by startPrbc, numPrbc, sectionId and filterIndex, as the commands carried them;
-- those that tie are in the order in which they were accepted
abbrev pub is_before : Allocation → Allocation → Bool
is_before a b =
    nat_lt a.start_prb b.start_prb || ((a.start_prb == b.start_prb)
    && (nat_lt a.num_prb b.num_prb || ((a.num_prb == b.num_prb)
    && (nat_lt a.section b.section || ((a.section == b.section) && nat_lt a.filter b.filter)))))

abbrev pub job_of : ℕ → ℤ → Slot → ℕ → Allocation → UplinkJob
job_of ep start slot symbol a = record {
  ep = ep;
  s = record { 0 = start };
  slot = slot;
  symbol = symbol;
  filter = a.filter;
  section = a.section;
  start_prb = a.start_prb;
  num_prb = a.num_prb;
}

-- the messages of a symbol, where these were accepted, the newest first
unfoldable pub symbol_jobs : List Allocation → ℕ → EndpointConfig → Slot → ℕ → List UplinkJob
symbol_jobs accepted ep e slot symbol =
    map (job_of ep (air_of e.numerology slot symbol) slot symbol) (in_order is_before (filter (sends_in ep slot symbol) (reverse accepted)))

-- those of all symbols that start by a time, that time included, in the order of time, endpoint, slot and symbol
unfoldable pub jobs : List EndpointConfig → List Allocation → ℤ → List UplinkJob
jobs es accepted to = sweep (symbol_jobs accepted) es first_clock (to +ℤ pos 1)
