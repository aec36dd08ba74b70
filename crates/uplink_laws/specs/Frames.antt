-- What the frames that are sent for a plan hold: the fragments' bytes by message, and what compression leaves of each cell.
use Rattle.std.specs.Prelude.{[], List}
use Rattle.std.specs.List.{slice_get}
use Rattle.std.specs.Option.{option_map_or}
use Rattle.bfp_codec.specs.Shrunk.{shrunk}
use Rattle.window_config.specs.declared.config.Config.{Config}
use Rattle.plan_model.specs.declared.lines.PlannedLine.{PlannedLine}
use Rattle.frame_bytes.specs.Cuts.{piece_at}
use Rattle.schedule_laws.specs.Data.{Blocks}
use Rattle.schedule_laws.specs.Flows.{messages_at}
use Rattle.schedule_laws.specs.Premise.{Texts}
use Rattle.sent_frames.specs.Messages.{Source, message_bytes}

-- the bytes of each fragment, by endpoint, message and subsequence
abbrev pub texts_of : Config → List PlannedLine → Source → Texts
texts_of c ps source ep j sub = option_map_or (λ n. piece_at c.fragment (message_bytes source n.message) sub) (slice_get (messages_at c ps ep) j) []

-- what the endpoint's compression leaves of each cell's block
abbrev pub blocks_of : Config → Source → Blocks
blocks_of c source cell = option_map_or (λ e. shrunk e.format.method (source cell)) (slice_get c.endpoints cell.ep) []
