-- What the code holds, as the definitions have it.
use Rattle.std.specs.Prelude.{List, [], Option, Some, None, Result, Ok, Err}
use Rattle.pcap_frames.specs.declared.opening.Opening.{Opening}
use Rattle.pcap_frames.specs.declared.refusals.PcapRefusal.{PcapRefusal}
use Rattle.pcap_frames.specs.declared.refusals.PcapWhy.{PcapWhy}
use Rattle.pcap_frames.specs.declared.values.Layout.{Layout}
use Rattle.pcap_frames.specs.declared.values.Layout.TheVariants.{Records, Blocks}
use Rattle.pcap_frames.specs.declared.values.Record.{Record}
use Rattle.pcap_frames.specs.declared.wanted.Wanted.{Wanted}
use Rattle.pcap_frames.specs.Files.{Recorded}
use Rattle.pcap_frames.specs.Parts.{Reading, records, blocks, Opened}
use Rattle.pcap_frames.specs.Wanted.{Wanted as Known}
use Rattle.pcap_frames.specs.declared.pcapng_values.Block.{Block}
use Rattle.pcap_frames.specs.declared.pcapng_values.Interface.{Interface}
use Rattle.pcap_frames.specs.Blocks.{Block as Part}
use Rattle.pcap_frames.specs.Values.{block_as}

abbrev pub record_as : Record → Recorded
record_as r = record { seconds = r.seconds; fraction = r.fraction; packet = r.bytes.now }

abbrev pub record_or_none : Option Record → Option Recorded
record_or_none None = None
record_or_none (Some r) = Some (record_as r)

-- a layout, and the interfaces of the section
abbrev pub reading_as : Layout → List Interface → Reading
reading_as (Records format) interfaces = records format
reading_as (Blocks little) interfaces = blocks little interfaces

abbrev pub part_or_refused : Result Block PcapWhy → Result Part PcapWhy
part_or_refused (Ok b) = Ok (block_as b)
part_or_refused (Err w) = Err w

abbrev pub opened_as : Opening → Opened
opened_as o = record { reading = reading_as o.layout []; place = o.place }

abbrev pub opened_or_refused : Result Opening PcapRefusal → Result Opened PcapRefusal
opened_or_refused (Ok o) = Ok (opened_as o)
opened_or_refused (Err r) = Err r

abbrev pub wanted_as : Wanted → Known
wanted_as w = record { side = w.side; time = w.time; frame = w.frame.now }

abbrev pub wanted_or_none : Option Wanted → Option Known
wanted_or_none None = None
wanted_or_none (Some w) = Some (wanted_as w)
