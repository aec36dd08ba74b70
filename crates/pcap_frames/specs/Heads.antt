-- What the tests of a file answer.
use Rattle.std.specs.Prelude.{◌≡◌, ℕ, List, Result, Ok, Err}
use Rattle.pcap_frames.specs.declared.heads.PcapHead.{PcapHead}
use Rattle.pcap_frames.specs.declared.refusals.PcapFault.{PcapFault}
use Rattle.pcap_frames.specs.declared.refusals.PcapFault.TheVariants.{Refused, NoMemory}
use Rattle.pcap_frames.specs.declared.values.Whose.{Whose}
use Rattle.pcap_frames.specs.Parts.{interfaces_of}
use Rattle.pcap_frames.specs.Wanted.{wanted_frames, first_time}
use Rattle.pcap_frames.specs.Checked.{checked}

-- the head of a file: the time of its first frame that is wanted, and its interfaces
pub record IsHead (whose : Whose) (bytes : List ℕ) (head : PcapHead) : Type 0 where
  pub first : head.first ≡ first_time (wanted_frames whose bytes)
  pub interfaces : head.interfaces.items ≡ interfaces_of bytes

-- the refusal of the definition, or want of memory
abbrev pub IsFault : Whose → List ℕ → ℕ → PcapFault → Type 0
IsFault whose bytes start (Refused refusal) = checked whose bytes start ≡ Err refusal
IsFault whose bytes start NoMemory = Unit {0}

-- a file is accepted with its head, or refused exactly as it is by the definition, or memory is wanting
abbrev pub Answers : Whose → List ℕ → ℕ → Result PcapHead PcapFault → Type 0
Answers whose bytes start (Ok head) = (checked whose bytes start ≡ Ok tt) × IsHead whose bytes head
Answers whose bytes start (Err fault) = IsFault whose bytes start fault
