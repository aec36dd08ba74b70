-- What the plain program keeps, and the arrivals that it stands for.
use Rattle.std.specs.Prelude.{◌≡◌, ℕ, ◌+◌, List, [], ◌∷◌, All, reverse, length}
use Rattle.unit_model.specs.Terms.{Side, Config}
use Rattle.ecpri_fragments.specs.Assemblies.{StandsFor, endpoints_of, hold_of as assembly_hold}
use Rattle.ecpri_fragments.specs.Generations.{Fragment}
use Rattle.fault_counters.specs.declared.kinds.Counter.{Counter}
use Rattle.fault_counters.specs.Counts.{capped, times, count_of}
use Rattle.unit_model.specs.Blocks.{timely, data_verdicts}
use Rattle.unit_model.specs.Commands.{accepted, command_verdicts}
use Rattle.unit_model.specs.Counts.{commands_counted, data_counted, counted_of}
use Rattle.unit_model.specs.Decoding.{data_sections}
use Rattle.unit_model.specs.Meetings.{Arrival, Meeting, commands, fragments}
use Rattle.unit_model.specs.Proper.{IsProperAllocation, IsProperData, IsTime}
use Rattle.unit_model.specs.Reports.{hold_of}
use Rattle.unit_model.specs.declared.decoded.ControlSection.{ControlSection}
use Rattle.unit_model.specs.declared.decoded.UserSection.{UserSection}
use Rattle.plain_units.specs.declared.plain.Plain.{Plain}
use Rattle.plain_units.specs.declared.report.TimedFrame.{TimedFrame}

-- It stands for these fragments, sections of commands and sections of data, the newest first, and has counted so much beside
-- the verdicts on the sections.
pub record PlainHolds (u : Plain) (side : Side) (c : Config) (counted : Counter → ℕ) (fs : List Fragment) (cs : List ControlSection) (ds : List UserSection) : Type 0 where
  pub fragments : StandsFor u.assembly fs
  pub came : All (λ f. IsTime f.at) fs
  pub endpoints : endpoints_of u.assembly ≡ length c.endpoints
  pub hold : assembly_hold u.assembly ≡ hold_of side c.delays
  pub accepted : u.accepted.items ≡ accepted c.delays cs
  pub commands : u.command_verdicts ≡ reverse (command_verdicts c.delays cs)
  pub timely : u.timely.items ≡ timely side c.delays ds
  pub user : u.data_verdicts ≡ reverse (data_verdicts side c.delays ds)
  pub counts : (k : Counter) → count_of u.counters k ≡ capped (counted k
      + (times (commands_counted (command_verdicts c.delays cs)) k + times (data_counted (data_verdicts side c.delays ds)) k))
  pub allocations : All (IsProperAllocation c.endpoints) u.accepted.items
  pub sections : All (IsProperData c.endpoints) u.timely.items

-- it stands for some of them, whatever they are
pub record PlainHoldsSome (u : Plain) (side : Side) (c : Config) : Type 0 where
  pub counted : Counter → ℕ
  pub fragments : List Fragment
  pub commands : List ControlSection
  pub sections : List UserSection
  pub holds : PlainHolds u side c counted fragments commands sections

-- it stands for these frames and these of their messages
abbrev pub PlainStands : Plain → Side → Config → List Arrival → List Meeting → Type 0
PlainStands u side c arrivals ms =
    PlainHolds u side c (counted_of side (hold_of side c.delays) arrivals ms) (fragments ms) (commands ms) (data_sections side (hold_of side c.delays) ms)

-- it stands for some frames: it was made for this side and this configuration
pub record PlainStandsForSome (u : Plain) (side : Side) (c : Config) : Type 0 where
  pub arrivals : List Arrival
  pub meetings : List Meeting
  pub stands : PlainStands u side c arrivals meetings

-- frames in the order of their times, as arrivals with the newest first
abbrev pub arrival_of : TimedFrame → Arrival
arrival_of f = record { at = f.at.0; frame = f.frame }

unfoldable pub arrivals_after : List Arrival → List TimedFrame → List Arrival
arrivals_after earlier [] = earlier
arrivals_after earlier (f ∷ fs) = arrivals_after (arrival_of f ∷ earlier) fs

abbrev pub arrivals_of : List TimedFrame → List Arrival
arrivals_of fs = arrivals_after [] fs
