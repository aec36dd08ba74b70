-- A second pass over a file.
use Rattle.std.specs.Prelude.{◌≡◌, ◌≤◌, ℕ, List, [], ◌∷◌, ◌++◌, length, take, drop, Option, Some, None, Result}
use Rattle.pcap_frames.specs.declared.refusals.PcapWhy.{PcapWhy}
use Rattle.pcap_frames.specs.declared.values.Whose.{Whose}
use Rattle.pcap_frames.specs.declared.walks.Walk.{Walk}
use Rattle.pcap_frames.specs.declared.walks.Step.{Step}
use Rattle.pcap_frames.specs.Parts.{Reading, after, parts_from, added, interfaces_in, interfaces_of}
use Rattle.pcap_frames.specs.Packets.{reading_as}
use Rattle.pcap_frames.specs.Wanted.{wanted_of, one_before, wanted_from, wanted_frames}
use Rattle.pcap_frames.specs.declared.pcapng_values.Interface.{Interface}
use Rattle.pcap_frames.specs.Blocks.{Block, Held, begins, adds, shows, nothing}
use Rattle.pcap_frames.specs.Values.{held_as}

-- how what is left is read, and the parts that are left
abbrev pub reading_of : Walk → Reading
reading_of w = reading_as w.layout (take w.count w.interfaces.now)

abbrev pub left_in : Walk → List (Result Block PcapWhy)
left_in w = parts_from (reading_of w) 0 w.rest.now

-- the interfaces that are not yet the section's
abbrev pub later_in : Walk → List Interface
later_in w = drop w.count w.interfaces.now

-- a walk that has the interfaces of what is left
pub record IsWalk (w : Walk) : Type 0 where
  pub within : w.count ≤ length w.interfaces.now
  pub later : later_in w ≡ interfaces_in (left_in w)

-- an interface that a part adds is the next of those
abbrev pub Expects : Walk → Held → Type 0
Expects w (begins little) = Unit {0}
Expects w (adds i) = (more : List Interface) × (later_in w ≡ i ∷ more)
Expects w (shows seen) = Unit {0}
Expects w nothing = Unit {0}

-- what is left after a part
pub record IsBehind (w : Walk) (held : Held) (size : ℕ) (behind : Walk) : Type 0 where
  pub rest : behind.rest.now ≡ drop size w.rest.now
  pub reading : reading_of behind ≡ after (reading_of w) held
  pub within : behind.count ≤ length behind.interfaces.now
  pub later : later_in w ≡ added held ++ later_in behind

-- the next part
pub record IsStep (w : Walk) (s : Step) : Type 0 where
  pub wanted : (whose : Whose) → wanted_from whose (left_in w) ≡ one_before (wanted_of whose (held_as s.content)) (wanted_from whose (left_in s.behind))
  pub walk : IsWalk s.behind

-- the next part, or none where no frame is left
abbrev pub Steps : Walk → Option Step → Type 0
Steps w None = (whose : Whose) → wanted_from whose (left_in w) ≡ []
Steps w (Some s) = IsStep w s

-- the walk over a file with these interfaces
pub record IsBegun (bytes : List ℕ) (interfaces : List Interface) (w : Walk) : Type 0 where
  pub wanted : (whose : Whose) → wanted_from whose (left_in w) ≡ wanted_frames whose bytes
  pub parts : interfaces_in (left_in w) ≡ interfaces_of bytes
  pub later : later_in w ≡ interfaces
  pub within : w.count ≤ length w.interfaces.now
