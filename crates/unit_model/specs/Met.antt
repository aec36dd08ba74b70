-- A complete message with its tests after it, as the definitions see it.
use Rattle.std.specs.Prelude.{ℕ, ℤ, List, ◌<◌}
use Rattle.fh_base.specs.Numbering.{shape_of}
use Rattle.cplane_sections.specs.declared.values.CHead.{CHead}
use Rattle.cplane_sections.specs.Message.{Admits, MessageFits, sections_in}
use Rattle.cplane_sections.specs.Tests.{IsHeadOf}
use Rattle.window_config.specs.declared.endpoints.EndpointConfig.{EndpointConfig}
use Rattle.unit_model.specs.Meetings.{Meeting, Ignored, Commands, Piece, commands_with, fragment_with}
use Rattle.unit_model.specs.Proper.{IsAt}
use Rattle.unit_model.specs.declared.meeting.Met.{Met}
use Rattle.unit_model.specs.declared.meeting.Met.TheVariants as met

abbrev pub meeting_of : ℤ → Met → Meeting
meeting_of at (met.Ignored c) = Ignored c
meeting_of at (met.Command ep e head bytes) = Commands (commands_with ep e at head (sections_in head bytes.now))
meeting_of at (met.Piece ep e seq bytes) = Piece e (fragment_with ep at seq bytes.now)

-- these bytes were read as a command with this header
pub record IsRead (e : EndpointConfig) (head : CHead) (bytes : List ℕ) : Type 0 where
  pub is_head : IsHeadOf head bytes
  pub admits : Admits (shape_of e.numerology) head (sections_in head bytes)
  pub fits : MessageFits head (sections_in head bytes)

-- what the tests give beside: the endpoint is one of these, a command was read, and a subsequence has 7 bits
abbrev pub IsTested : List EndpointConfig → Met → Type 0
IsTested es (met.Ignored c) = Unit {0}
IsTested es (met.Command ep e head bytes) = IsAt es ep e × IsRead e head bytes.now
IsTested es (met.Piece ep e seq bytes) = IsAt es ep e × (seq.sub < 128)
