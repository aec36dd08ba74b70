-- What a file's parts show decides its frames and its refusal.
use Rattle.std.proofs.Common.{◌≡◌, ℕ, ◌+◌, List, [], ◌∷◌, ◌++◌, Option, Some, None, Result, Ok, Err, refl, ap, ◌∙◌}
use Rattle.std.specs.List.{AllByRecursion}
use Rattle.pcap_frames.specs.declared.refusals.PcapRefusal.{PcapRefusal}
use Rattle.pcap_frames.specs.declared.refusals.PcapWhy.{PcapWhy}
use Rattle.pcap_frames.specs.declared.values.Whose.{Whose}
use Rattle.pcap_frames.specs.Parts.{Opened, opened, parts_of}
use Rattle.pcap_frames.specs.Wanted.{Wanted, wanted_in, wanted_of, one_before, wanted_from, first_time}
use Rattle.pcap_frames.specs.Checked.{frame_fault, fault_of, fault_at, passed_by, size_of, tested, checked_by, checked}
use Rattle.pcap_frames.specs.Blocks.{Block, Held, begins, adds, shows, nothing}
use Rattle.pcap_frames.specs.PcapngPackets.{Seen}
use Rattle.pcap_laws.specs.Shown.{shown, packets_in, IsPart, IsFileBy, IsFile}
use Rattle.pcap_laws.specs.Laws.{reason_of}

-- the frames of packets
unfoldable pub wanted_seen : Whose → List Seen → List Wanted
wanted_seen whose [] = []
wanted_seen whose (seen ∷ rest) = one_before (wanted_in whose seen) (wanted_seen whose rest)

by_held : (whose : Whose) (held : Held) (rest : List Seen) → one_before (wanted_of whose held) (wanted_seen whose rest) ≡ wanted_seen whose (shown held ++ rest)
unfolding wanted_seen
by_held whose (begins little) rest = refl
by_held whose (adds i) rest = refl
by_held whose (shows seen) rest = refl
by_held whose nothing rest = refl

pub wanted_shown : (whose : Whose) (parts : List (Result Block PcapWhy)) → wanted_from whose parts ≡ wanted_seen whose (packets_in parts)
unfolding wanted_from packets_in wanted_seen
wanted_shown whose [] = refl
wanted_shown whose (Err why ∷ rest) = wanted_shown whose rest
wanted_shown whose (Ok b ∷ rest) = ap (one_before (wanted_of whose b.held)) (wanted_shown whose rest) ∙ by_held whose b.held (packets_in rest)

-- the first fault of frames
abbrev pub or_later : Option PcapWhy → Option PcapWhy → Option PcapWhy
or_later None later = later
or_later (Some why) later = Some why

unfoldable pub faults : ℕ → ℕ → List Wanted → Option PcapWhy
faults first start [] = None
faults first start (w ∷ rest) = or_later (frame_fault first start w) (faults first start rest)

by_wanted : (first start : ℕ) (w : Option Wanted) (rest : List Wanted) → or_later (fault_of first start w) (faults first start rest) ≡ faults first start (one_before w rest)
unfolding faults
by_wanted first start None rest = refl
by_wanted first start (Some w) rest = refl

passed_reason : (fault : Option PcapWhy) (place : ℕ) (behind : Result (Unit {0}) PcapRefusal) → reason_of (passed_by fault place behind) ≡ or_later fault (reason_of behind)
passed_reason None place behind = refl
passed_reason (Some why) place behind = refl

-- where no part is refused, the reason is the first fault of the frames
tested_reason : (whose : Whose) (first start place : ℕ) (parts : List (Result Block PcapWhy)) → AllByRecursion IsPart parts
    → reason_of (tested whose first start place parts) ≡ faults first start (wanted_from whose parts)
unfolding tested wanted_from faults
tested_reason whose first start place [] h = refl
tested_reason whose first start place (Err why ∷ rest) h = absurd h.0
tested_reason whose first start place (Ok b ∷ rest) h =
    let w = wanted_of whose b.held in
    passed_reason (fault_of first start w) place (tested whose first start (place + b.size) rest)
    ∙ ap (or_later (fault_of first start w)) (tested_reason whose first start (place + b.size) rest h.1)
    ∙ by_wanted first start w (wanted_from whose rest)

pub reason_is : (whose : Whose) (start : ℕ) (bytes : List ℕ) (o : Opened) → opened bytes ≡ Ok o → AllByRecursion IsPart (parts_of o bytes)
    → reason_of (checked whose bytes start) ≡ faults (first_time (wanted_from whose (parts_of o bytes))) start (wanted_from whose (parts_of o bytes))
reason_is whose start bytes o e h =
    ap (λ r. reason_of (checked_by whose start bytes r)) e ∙ tested_reason whose (first_time (wanted_from whose (parts_of o bytes))) start o.place (parts_of o bytes) h

-- ---- what is accepted has no part that is refused

not_refused : (whose : Whose) (first start place : ℕ) (part : Result Block PcapWhy) (behind : Result (Unit {0}) PcapRefusal)
    → passed_by (fault_at whose first start part) place behind ≡ Ok tt → IsPart part
not_refused whose first start place (Ok b) behind e = tt
not_refused whose first start place (Err why) behind e = absurd cc

passed_behind : (fault : Option PcapWhy) (place : ℕ) (behind : Result (Unit {0}) PcapRefusal) → passed_by fault place behind ≡ Ok tt → behind ≡ Ok tt
passed_behind None place behind e = e
passed_behind (Some why) place behind e = absurd cc

all_passed : (whose : Whose) (first start place : ℕ) (parts : List (Result Block PcapWhy)) → tested whose first start place parts ≡ Ok tt → AllByRecursion IsPart parts
unfolding tested
all_passed whose first start place [] e = tt
all_passed whose first start place (part ∷ rest) e =
    let behind = tested whose first start (place + size_of part) rest in (
      not_refused whose first start place part behind e,
      all_passed whose first start (place + size_of part) rest (passed_behind (fault_at whose first start part) place behind e),
    )

accepted_by : (whose : Whose) (bytes : List ℕ) (start : ℕ) (o : Result Opened PcapRefusal) → checked_by whose start bytes o ≡ Ok tt → IsFileBy o bytes
accepted_by whose bytes start (Err refusal) e = absurd cc
accepted_by whose bytes start (Ok o) e = all_passed whose (first_time (wanted_from whose (parts_of o bytes))) start o.place (parts_of o bytes) e

pub accepted : (whose : Whose) (bytes : List ℕ) (start : ℕ) → checked whose bytes start ≡ Ok tt → IsFile bytes
accepted whose bytes start e = accepted_by whose bytes start (opened bytes) e
