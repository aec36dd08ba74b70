-- What the code holds, as the definitions have it.
use Rattle.std.specs.Prelude.{Option, Some, None, Result, Ok, Err}
use Rattle.pcap_frames.specs.declared.interfaces.Choice.{Choice}
use Rattle.pcap_frames.specs.declared.pcapng_refusals.BlockWhy.{BlockWhy}
use Rattle.pcap_frames.specs.declared.pcapng_values.Block.{Block}
use Rattle.pcap_frames.specs.declared.pcapng_values.Content.{Content}
use Rattle.pcap_frames.specs.declared.pcapng_values.Content.TheVariants as content
use Rattle.pcap_frames.specs.declared.packet.Packet.{Packet}
use Rattle.pcap_frames.specs.Interfaces.{Chosen}
use Rattle.pcap_frames.specs.PcapngPackets.{Seen}
use Rattle.pcap_frames.specs.Blocks.{Block as Read, Held, begins, adds, shows, nothing}

abbrev pub chosen_as : Choice → Chosen
chosen_as c = record { code = c.code; value = c.value.now }

abbrev pub option_as : Result (Option Choice) BlockWhy → Result (Option Chosen) BlockWhy
option_as (Ok (Some c)) = Ok (Some (chosen_as c))
option_as (Ok None) = Ok None
option_as (Err w) = Err w

abbrev pub seen_as : Packet → Seen
seen_as p = record { time = p.time; packet = p.bytes.now }

abbrev pub seen_or_refused : Result Packet BlockWhy → Result Seen BlockWhy
seen_or_refused (Ok p) = Ok (seen_as p)
seen_or_refused (Err w) = Err w

abbrev pub held_as : Content → Held
held_as (content.Section little) = begins little
held_as (content.Interface i) = adds i
held_as (content.Packet p) = shows (seen_as p)
held_as content.Other = nothing

abbrev pub held_or_refused : Result Content BlockWhy → Result Held BlockWhy
held_or_refused (Ok c) = Ok (held_as c)
held_or_refused (Err w) = Err w

abbrev pub block_as : Block → Read
block_as b = record { size = b.size; held = held_as b.content }

abbrev pub block_or_refused : Result Block BlockWhy → Result Read BlockWhy
block_or_refused (Ok b) = Ok (block_as b)
block_or_refused (Err w) = Err w
