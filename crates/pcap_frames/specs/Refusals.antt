-- The reasons for which a capture file is refused.
use Rattle.std.specs.Prelude.{ℕ, List, codes}
use Rattle.pcap_frames.specs.declared.refusals.PcapWhy.{PcapWhy}
use Rattle.pcap_frames.specs.declared.refusals.PcapWhy.TheVariants.{Magic, Cut, OldPacket, NoInterface, LinkType, LongFrame, TimeRange}
use Rattle.pcap_frames.specs.declared.refusals.PcapWhy.TheVariants as why
use Rattle.pcap_frames.specs.declared.pcapng_refusals.BlockWhy.{BlockWhy}
use Rattle.pcap_frames.specs.declared.pcapng_refusals.BlockWhy.TheVariants as block

-- the name under which a reason is printed
abbrev pub name_of : PcapWhy → List ℕ
name_of Magic = codes "Magic"
name_of Cut = codes "Cut"
name_of OldPacket = codes "OldPacket"
name_of why.Option = codes "Option"
name_of NoInterface = codes "NoInterface"
name_of LinkType = codes "LinkType"
name_of LongFrame = codes "LongFrame"
name_of TimeRange = codes "TimeRange"

-- the reason for which a block is refused
abbrev pub why_of : BlockWhy → PcapWhy
why_of block.Cut = Cut
why_of block.Magic = Magic
why_of block.OldPacket = OldPacket
why_of block.Option = why.Option
why_of block.NoInterface = NoInterface
why_of block.LinkType = LinkType
