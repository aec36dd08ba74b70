-- What a unit counts, each as often as it happens; the order in these lists tells nothing (this project's profile).
use Rattle.std.specs.Prelude.{◌≡◌, ℕ, ℤ, ◌+◌, List, [], ◌∷◌, ◌++◌, map, Option, Some, None}
use Rattle.air_source.specs.declared.events.AirCell.{AirCell}
use Rattle.air_source.specs.declared.events.Side.{Side}
use Rattle.bfp_codec.specs.declared.samples.Wide.{Wide}
use Rattle.ecpri_fragments.specs.declared.verdict.Verdict.{Verdict}
use Rattle.ecpri_fragments.specs.declared.verdict.Verdict.TheVariants as fragment
use Rattle.ecpri_fragments.specs.Generations.{Fragment}
use Rattle.ecpri_fragments.specs.Verdicts.{verdict_on}
use Rattle.ecpri_frames.specs.declared.refusals.PduRefusal.{PduRefusal}
use Rattle.ecpri_frames.specs.Messages.{pdu}
use Rattle.fault_counters.specs.declared.kinds.Counter.{Counter}
use Rattle.fault_counters.specs.declared.kinds.Counter.TheVariants as counter
use Rattle.fault_counters.specs.Counts.{capped, times, count_of}
use Rattle.unit_model.specs.Decoding.{Decoded, Refused, Backwards, Sections, data_now}
use Rattle.unit_model.specs.Meetings.{Arrival, Meeting, Ignored, Commands, Piece, fragments}
use Rattle.unit_model.specs.declared.verdicts.CommandVerdict.{CommandVerdict}
use Rattle.unit_model.specs.declared.verdicts.CommandVerdict.TheVariants as control
use Rattle.unit_model.specs.declared.verdicts.DataVerdict.{DataVerdict}
use Rattle.unit_model.specs.declared.verdicts.DataVerdict.TheVariants as user

abbrev pub command_counter : CommandVerdict → Counter
command_counter control.Mismatch = counter.CMismatch
command_counter control.Late = counter.CLate
command_counter control.Early = counter.CEarly
command_counter control.Range = counter.CRange
command_counter control.Repeat = counter.CRepeat
command_counter control.Overlap = counter.COverlap
command_counter control.Full = counter.CFull
command_counter control.Accepted = counter.CAccepted

abbrev pub data_counter : DataVerdict → Counter
data_counter user.Late = counter.ULate
data_counter user.Early = counter.UEarly
data_counter user.Repeat = counter.URepeat
data_counter user.Taken = counter.UTaken

abbrev pub fragment_counter : Verdict → Counter
fragment_counter fragment.Stored = counter.FStored
fragment_counter fragment.Whole = counter.FWhole
fragment_counter fragment.Repeat = counter.FRepeat
fragment_counter fragment.Stray = counter.FStray
fragment_counter fragment.TooLong = counter.FLong

-- a whole message of data that is no section to the unit
abbrev pub decoded_counted : Option Decoded → List Counter
decoded_counted None = []
decoded_counted (Some Refused) = counter.URefused ∷ []
decoded_counted (Some Backwards) = counter.WrongWay ∷ []
decoded_counted (Some (Sections ds)) = []

-- a fragment after these, and what the message says that it makes complete, if it does
abbrev pub piece_counted : ℤ → Fragment → List Fragment → Option Decoded → List Counter
piece_counted hold f earlier told = decoded_counted told ++ fragment_counter (verdict_on hold f earlier) ∷ []

-- what is counted of a message beside its sections
abbrev pub meeting_counted : Side → ℤ → Meeting → List Meeting → List Counter
meeting_counted side hold (Ignored c) earlier = c ∷ counter.Messages ∷ []
meeting_counted side hold (Commands cs) earlier = counter.Messages ∷ []
meeting_counted side hold (Piece e f) earlier =
    piece_counted hold f (fragments earlier) (data_now side hold e f (fragments earlier)) ++ counter.Messages ∷ []

unfoldable pub messages_counted : Side → ℤ → List Meeting → List Counter
messages_counted side hold [] = []
messages_counted side hold (m ∷ earlier) = meeting_counted side hold m earlier ++ messages_counted side hold earlier

abbrev pub refusal_counted : Option PduRefusal → List Counter
refusal_counted None = []
refusal_counted (Some r) = counter.FramesRefused ∷ []

unfoldable pub frames_counted : List Arrival → List Counter
frames_counted [] = []
frames_counted (a ∷ earlier) = refusal_counted (pdu a.frame).refusal ++ counter.Frames ∷ frames_counted earlier

-- a cell that was reported, with samples or as missing
abbrev pub block_counter : Option (List Wide) → Counter
block_counter None = counter.Missing
block_counter (Some samples) = counter.Cells

abbrev pub cells_counted : List AirCell → List Counter
cells_counted cells = map (λ c. block_counter c.block) cells

-- sections by their verdicts
abbrev pub commands_counted : List CommandVerdict → List Counter
commands_counted vs = map command_counter vs

abbrev pub data_counted : List DataVerdict → List Counter
data_counted vs = map data_counter vs

-- each counter is at the number of what was counted, at most the greatest u64
abbrev pub StandAt : List ℕ → List Counter → Type 0
StandAt counts counted = (c : Counter) → count_of counts c ≡ capped (times counted c)

-- so often is a counter counted of frames and of their messages, beside the sections
abbrev pub counted_of : Side → ℤ → List Arrival → List Meeting → Counter → ℕ
counted_of side hold arrivals ms k = times (frames_counted arrivals) k + times (messages_counted side hold ms) k
