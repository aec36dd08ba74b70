-- A message that is refused as it is received, a fragment that is not stored and a section that is refused change nothing but counters
-- (this project's profile). A message of data that is complete and then refused is none of these: its fragments keep their places.
use Rattle.std.specs.Prelude.{◌≡◌, ◌≢◌, ℤ, List, ◌∷◌, ◌++◌}
use Rattle.air_source.specs.declared.events.Side.{Side}
use Rattle.ecpri_fragments.specs.Generations.{is_first}
use Rattle.ecpri_fragments.specs.Verdicts.{Rests, verdict_on}
use Rattle.window_config.specs.declared.config.Config.{Config}
use Rattle.unit_model.specs.Blocks.{block_at, data_verdict, timely}
use Rattle.unit_model.specs.Commands.{accepted, command_verdict}
use Rattle.unit_model.specs.Decoding.{data_sections}
use Rattle.unit_model.specs.Meetings.{Arrival, Meeting, Ignored, Commands, Piece, commands, fragments}
use Rattle.unit_model.specs.Reports.{commands_of, data_of, hold_of, met, timely_of}
use Rattle.unit_model.specs.declared.cells.Cell.{Cell}
use Rattle.unit_model.specs.declared.decoded.ControlSection.{ControlSection}
use Rattle.unit_model.specs.declared.decoded.UserSection.{UserSection}
use Rattle.unit_model.specs.declared.verdicts.CommandVerdict.TheVariants.{Accepted}
use Rattle.unit_model.specs.declared.verdicts.DataVerdict.TheVariants.{Taken}

-- a message that is refused as it is received, after these earlier ones: it is counted and no more, or it is a fragment that is stored
-- nowhere and begins no generation
abbrev pub IsRefusedMessage : ℤ → Meeting → List Meeting → Type 0
IsRefusedMessage hold (Ignored k) earlier = Unit {0}
IsRefusedMessage hold (Commands cs) earlier = ⊥
IsRefusedMessage hold (Piece e f) earlier = Rests (verdict_on hold f (fragments earlier)) (is_first hold f (fragments earlier))

-- what is refused among some arrivals at a unit, after the earlier ones and before the later ones
pub record RefusedChangesNothing (side : Side) (c : Config) (arrivals : List Arrival) : Type 0 where
  -- a message: without it the same sections are decoded, of commands and of data
  pub message_rests :
      (later : List Meeting) (m : Meeting) (earlier : List Meeting) → met side c arrivals ≡ later ++ m ∷ earlier
      → IsRefusedMessage (hold_of side c.delays) m earlier
      → (commands (later ++ earlier) ≡ commands_of side c arrivals)
      × (data_sections side (hold_of side c.delays) (later ++ earlier) ≡ data_of side c arrivals)
  -- a section of a command that is not accepted: without it the same is accepted, so each claim and each uplink message stays
  pub command_rests :
      (later : List ControlSection) (x : ControlSection) (earlier : List ControlSection) → commands_of side c arrivals ≡ later ++ x ∷ earlier
      → command_verdict c.delays (accepted c.delays earlier) x ≢ Accepted
      → accepted c.delays (later ++ earlier) ≡ accepted c.delays (commands_of side c arrivals)
  -- a section of data that is not taken: without it each cell has the same block
  pub data_rests :
      (later : List UserSection) (x : UserSection) (earlier : List UserSection) → data_of side c arrivals ≡ later ++ x ∷ earlier
      → data_verdict side c.delays (timely side c.delays earlier) x ≢ Taken
      → (cell : Cell) → block_at (timely side c.delays (later ++ earlier)) cell ≡ block_at (timely_of side c arrivals) cell

-- at each unit, in every configuration, whatever arrives
abbrev pub EachRefusedChangesNothing : Type 0
EachRefusedChangesNothing = (side : Side) (c : Config) (arrivals : List Arrival) → RefusedChangesNothing side c arrivals
