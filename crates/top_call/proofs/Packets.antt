-- A pcap file that was not accepted.
use Rattle.std.proofs.Common.{◌≡◌, ℕ, List, [], Option, Result, Err, refl, sym, subst}
use Rattle.fh_base.specs.KnownLaws.{append_nothing}
use Rattle.fh_base.proofs.Progress.{front_none}
use Rattle.pcap_frames.specs.Checked.{checked as pcap_checked}
use Rattle.pcap_frames.specs.Heads.{Answers, IsFault}
use Rattle.pcap_frames.specs.declared.heads.PcapHead.{PcapHead}
use Rattle.pcap_frames.specs.declared.refusals.PcapFault.{PcapFault}
use Rattle.pcap_frames.specs.declared.refusals.PcapFault.TheVariants as pcap
use Rattle.pcap_frames.specs.declared.values.Whose.{Whose}
use Rattle.top_call.specs.declared.status.Status.{Status}
use Rattle.top_call.specs.declared.status.Status.TheVariants.{BadPcap}
use Rattle.top_call.specs.Answers.{of_pcap}
use Rattle.top_call.specs.Endings.{pcap_status}
use Rattle.top_call.specs.Run.{Performs}
use Rattle.top_call.proofs.Documents.{wanting}

unaccepted : (text : List ℕ) (whose : Whose) (bytes : List ℕ) (start : ℕ) (fault : PcapFault) (written : Option (List ℕ)) (faults : ℕ) → IsFault whose bytes start fault
    → Performs (of_pcap text (pcap_checked whose bytes start)) written written faults faults (pcap_status fault)
unaccepted text whose bytes start (pcap.Refused r) written faults is =
    subst (λ c. Performs (of_pcap text c) written written faults faults (BadPcap r)) (sym is)
    (record { front = front_none written []; whole = λ _. sym (append_nothing written); part = λ stopped. absurd stopped; answers = refl; faults = refl })
unaccepted text whose bytes start pcap.NoMemory written faults is = wanting (of_pcap text (pcap_checked whose bytes start)) written faults

pub unaccepted_as : (text : List ℕ) (whose : Whose) (bytes : List ℕ) (start : ℕ) (result : Result PcapHead PcapFault) (fault : PcapFault) (status : Status) (written : Option (List ℕ)) (faults : ℕ)
    → result ≡ Err fault → status ≡ pcap_status fault → Answers whose bytes start result → Performs (of_pcap text (pcap_checked whose bytes start)) written written faults faults status
unaccepted_as text whose bytes start result fault status written faults is status_is answers =
    subst (Performs (of_pcap text (pcap_checked whose bytes start)) written written faults faults) (sym status_is)
    (unaccepted text whose bytes start fault written faults (subst (Answers whose bytes start) is answers))
