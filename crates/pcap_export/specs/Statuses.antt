-- What a status ends the process with, and the line that it writes (this project's profile).
use Rattle.std.specs.Prelude.{ℕ, List, [], ◌++◌, codes, decimal}
use Rattle.pcap_export.specs.declared.refusals.ExportRefusal.{ExportRefusal}
use Rattle.pcap_export.specs.declared.status.Status.{Status}
use Rattle.pcap_export.specs.declared.status.Status.TheVariants.{Done, BadWords, BadCapture, ReadFault, WriteFault, NoMemory, TooLong}
use Rattle.pcap_export.specs.Refusals.{name_of}

-- the exit status
abbrev pub code_of : Status → ℕ
code_of Done = 0
code_of BadWords = 2
code_of (BadCapture refusal) = 4
code_of ReadFault = 5
code_of WriteFault = 6
code_of NoMemory = 7
code_of TooLong = 8

-- the line of a capture that is refused, with the byte where its record begins
abbrev pub capture_line : ExportRefusal → List ℕ
capture_line r = codes "capture_pcap: capture at " ++ decimal r.place ++ codes ": " ++ name_of r.why ++ codes "\n"

-- the line on standard error
abbrev pub line_of : Status → List ℕ
line_of Done = []
line_of BadWords = codes "capture_pcap: bad words\n"
line_of (BadCapture refusal) = capture_line refusal
line_of ReadFault = codes "capture_pcap: read fault\n"
line_of WriteFault = codes "capture_pcap: write fault\n"
line_of NoMemory = codes "capture_pcap: no memory\n"
line_of TooLong = codes "capture_pcap: input too long\n"
