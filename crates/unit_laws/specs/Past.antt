-- An arrival changes nothing whose moment has passed: at the radio unit a command's arrival, at both units the last arrival of a message
-- of data.
use Rattle.std.specs.Prelude.{◌≡◌, ℕ, ℤ, ◌<◌, ◌≤◌, ◌+ℤ◌, ◌≤ℤ◌, ◌<ℤ◌, List, ◌∷◌, All}
use Rattle.fh_base.specs.Air.{air_of}
use Rattle.fh_base.specs.declared.values.Slot.{Slot}
use Rattle.unit_model.specs.Terms.{Side, Ru, Du, is_down}
use Rattle.window_config.specs.Limits.{IsWithinLimits}
use Rattle.window_config.specs.declared.delays.Delays.{Delays}
use Rattle.window_config.specs.declared.endpoints.EndpointConfig.{EndpointConfig}
use Rattle.unit_model.specs.Blocks.{block_at, timely}
use Rattle.unit_model.specs.Claims.{cell_at, claim_at}
use Rattle.unit_model.specs.Commands.{accepted}
use Rattle.unit_model.specs.Meetings.{Arrival, commands, meetings}
use Rattle.unit_model.specs.Proper.{IsAt, IsProperCommand, IsProperData}
use Rattle.unit_model.specs.Radiated.{Known, known_of, symbol_report, wait_of}
use Rattle.unit_model.specs.Uplink.{symbol_jobs}
use Rattle.unit_model.specs.declared.allocations.Allocation.{Allocation}
use Rattle.unit_model.specs.declared.cells.Cell.{Cell}
use Rattle.unit_model.specs.declared.decoded.ControlSection.{ControlSection}
use Rattle.unit_model.specs.declared.decoded.UserSection.{UserSection}

-- The symbols of a section start no earlier than that of its header: the maintained symbol number does not go back.
abbrev pub IsInOrder : ControlSection → Type 0
IsInOrder c = c.head.start_symbol ≤ c.section.symbol

-- All sections that a unit reads are so.
abbrev pub CommandsAreInOrder : Type 0
CommandsAreInOrder = (side : Side) (es : List EndpointConfig) (arrivals : List Arrival) → All IsInOrder (commands (meetings side es arrivals))

-- the elements of symbols that start by a command's arrival are claimed as before
abbrev pub CommandLeavesPast : Type 0
CommandLeavesPast =
    (es : List EndpointConfig) (d : Delays) (c : ControlSection) (earlier : List ControlSection) (e : EndpointConfig) (cell : Cell) (re : ℕ)
    → IsWithinLimits d → IsProperCommand es c → IsInOrder c → IsAt es cell.ep e → air_of e.numerology cell.slot cell.symbol ≤ℤ c.at.0
    → claim_at (accepted d (c ∷ earlier)) cell re ≡ claim_at (accepted d earlier) cell re

-- the moment of a symbol that starts then is past when data are received: it starts by then at the radio unit; at the distributed unit,
-- whose arrivals of a tick precede its cells, its wait is over
abbrev pub IsPast : Side → Delays → ℤ → ℤ → Type 0
IsPast Ru d start at = start ≤ℤ at
IsPast Du d start at = (start +ℤ wait_of Du d) <ℤ at

-- the cells whose moment is past when the last of data arrive have the blocks that they had
abbrev pub DataLeavePast : Type 0
DataLeavePast =
    (side : Side) (es : List EndpointConfig) (d : Delays) (x : UserSection) (earlier : List UserSection) (e : EndpointConfig) (cell : Cell)
    → IsWithinLimits d → IsProperData es x → IsAt es cell.ep e → IsPast side d (air_of e.numerology cell.slot cell.symbol) x.last.0
    → block_at (timely side d (x ∷ earlier)) cell ≡ block_at (timely side d earlier) cell

-- the report of a symbol rests on the claims and the blocks of its cells alone
abbrev pub ReportIsOfItsCells : Type 0
ReportIsOfItsCells =
    (side : Side) (k m : Known) (ep : ℕ) (e : EndpointConfig) (slot : Slot) (symbol : ℕ)
    → ((prb re : ℕ) → prb < e.prbs → re < 12
    → k.claims (cell_at ep (is_down side) slot symbol prb) re ≡ m.claims (cell_at ep (is_down side) slot symbol prb) re)
    → ((prb : ℕ) → prb < e.prbs → k.blocks (cell_at ep (is_down side) slot symbol prb) ≡ m.blocks (cell_at ep (is_down side) slot symbol prb))
    → symbol_report side k ep e slot symbol ≡ symbol_report side m ep e slot symbol

-- so what is reported of a symbol that starts by then is as before, and so are the messages that are sent of it
abbrev pub CommandLeavesReports : Type 0
CommandLeavesReports =
    (side : Side) (es : List EndpointConfig) (d : Delays) (c : ControlSection) (earlier : List ControlSection) (given : List UserSection)
    (ep : ℕ) (e : EndpointConfig) (slot : Slot) (symbol : ℕ)
    → IsWithinLimits d → IsProperCommand es c → IsInOrder c → IsAt es ep e → air_of e.numerology slot symbol ≤ℤ c.at.0
    → symbol_report side (known_of (accepted d (c ∷ earlier)) given) ep e slot symbol ≡ symbol_report side (known_of (accepted d earlier) given) ep e slot symbol

abbrev pub DataLeaveReports : Type 0
DataLeaveReports =
    (side : Side) (es : List EndpointConfig) (d : Delays) (x : UserSection) (earlier : List UserSection) (claimed : List Allocation)
    (ep : ℕ) (e : EndpointConfig) (slot : Slot) (symbol : ℕ)
    → IsWithinLimits d → IsProperData es x → IsAt es ep e → IsPast side d (air_of e.numerology slot symbol) x.last.0
    → symbol_report side (known_of claimed (timely side d (x ∷ earlier))) ep e slot symbol ≡ symbol_report side (known_of claimed (timely side d earlier)) ep e slot symbol

abbrev pub CommandLeavesJobs : Type 0
CommandLeavesJobs =
    (es : List EndpointConfig) (d : Delays) (c : ControlSection) (earlier : List ControlSection) (ep : ℕ) (e : EndpointConfig) (slot : Slot) (symbol : ℕ)
    → IsWithinLimits d → IsProperCommand es c → IsInOrder c → IsAt es ep e → air_of e.numerology slot symbol ≤ℤ c.at.0
    → symbol_jobs (accepted d (c ∷ earlier)) ep e slot symbol ≡ symbol_jobs (accepted d earlier) ep e slot symbol
