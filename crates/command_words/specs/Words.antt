-- The words of the command line (this project's profile).
use Rattle.std.specs.Prelude.{ℕ, ◌+◌, ◌≤◌, nat_le, List, [], ◌∷◌, length, true, false, ◌&&◌, Option, None, Some, if◌then◌else◌, codes, option_map, Result, Ok, Err}
use Rattle.std.specs.Str.{bytes_eq}
use Rattle.hex.specs.Hex.{decode_sized}
use Rattle.hex.specs.declared.error.FromHexError.{FromHexError}
use Rattle.air_source.specs.declared.events.Side.{Side}
use Rattle.air_source.specs.declared.events.Side.TheVariants.{Ru, Du}
use Rattle.fh_base.specs.Numbers.{number_in}
use Rattle.command_words.specs.declared.commands.Command.{Command}
use Rattle.command_words.specs.declared.commands.Command.TheVariants.{Replay, Summary, Capture, Show, Explain, Sent, Windows, Fit, Generate, Trial, Shared, Idle, DrawGrid, DrawWindows, Pcap, PcapCapture}
use Rattle.pcap_frames.specs.declared.values.Whose.{Whose}
use Rattle.pcap_frames.specs.declared.values.Whose.TheVariants.{All, Port}
use Rattle.fh_base.specs.declared.nanoseconds.TheConstants.{LAST_TIME}

-- the command that one word is
abbrev pub bare_command : List ℕ → Option Command
bare_command word =
    if bytes_eq word (codes "replay") then Some Replay
    else (if bytes_eq word (codes "summary") then Some Summary
    else (if bytes_eq word (codes "capture") then Some Capture
    else (if bytes_eq word (codes "show") then Some (Show false)
    else (if bytes_eq word (codes "explain") then Some (Explain false)
    else (if bytes_eq word (codes "sent") then Some Sent
    else (if bytes_eq word (codes "windows") then Some Windows
    else (if bytes_eq word (codes "fit") then Some Fit
    else None)))))))

-- the command that two words are
abbrev pub command_with_one : List ℕ → List ℕ → Option Command
command_with_one word second =
    if bytes_eq word (codes "show") && bytes_eq second (codes "--json") then Some (Show true)
    else (if bytes_eq word (codes "explain") && bytes_eq second (codes "--faults") then Some (Explain true)
    else (if bytes_eq word (codes "draw") && bytes_eq second (codes "windows") then Some DrawWindows
    else None))

-- a seed: 1 to 10 digits, below 2^32
abbrev pub seed_in : List ℕ → Option ℕ
seed_in word = number_in 10 0 4294967295 word

-- a number of slots: 1 to 3 digits, from 1 to 400
abbrev pub slots_in : List ℕ → Option ℕ
slots_in word = number_in 3 1 400 word

-- a number of decimal digits, however many, from low to high
abbrev pub plain_in : ℕ → ℕ → List ℕ → Option ℕ
plain_in low high word = number_in (length word) low high word

-- how many units share a cell
abbrev pub count_in : List ℕ → Option ℕ
count_in word = plain_in 2 8 word

-- how much further away each unit is than the one before it, in nanoseconds
abbrev pub step_in : List ℕ → Option ℕ
step_in word = plain_in 0 1000000 word

-- a frame
abbrev pub frame_in : List ℕ → Option ℕ
frame_in word = plain_in 1 99999 word

-- how many symbols a span has at least
abbrev pub least_in : List ℕ → Option ℕ
least_in word = plain_in 1 9999 word

-- the way of frames, by the unit that they go to
abbrev pub way_in : List ℕ → Option Side
way_in word = if bytes_eq word (codes "dl") then Some Ru else (if bytes_eq word (codes "ul") then Some Du else None)

-- a MAC address: exactly twelve hexadecimal digits, of either case
abbrev pub bytes_in : Result (List ℕ) FromHexError → Option (List ℕ)
bytes_in (Ok bytes) = Some bytes
bytes_in (Err why) = None

abbrev pub address_in : List ℕ → Option (List ℕ)
address_in word = bytes_in (decode_sized word 6)

-- whose frames of a file are wanted: all, with their way, or those to and from an address
abbrev pub whose_by : Option Side → Option (List ℕ) → Option Whose
whose_by (Some side) address = Some (All side)
whose_by None address = option_map Port address

abbrev pub whose_in : List ℕ → Option Whose
whose_in word = whose_by (way_in word) (address_in word)

-- the time of a file's first frame: 1 to 13 digits, at most 10^12 ns
abbrev pub start_in : List ℕ → Option ℕ
start_in word = number_in 13 0 LAST_TIME word

-- what is made of two that are there
abbrev pub with_both : {A B : Type 0} → (A → B → Command) → Option A → Option B → Option Command
with_both make None second = None
with_both make (Some first) None = None
with_both make (Some first) (Some second) = Some (make first second)

-- the command that three words are
abbrev pub command_with_two : List ℕ → List ℕ → List ℕ → Option Command
command_with_two word first second =
    if bytes_eq word (codes "generate") then with_both Generate (seed_in first) (slots_in second)
    else (if bytes_eq word (codes "trial") then with_both Trial (seed_in first) (slots_in second)
    else (if bytes_eq word (codes "shared") then with_both Shared (count_in first) (step_in second)
    else (if bytes_eq word (codes "pcap") then with_both Pcap (whose_in first) (start_in second)
    else (if bytes_eq word (codes "pcap-capture") then with_both PcapCapture (whose_in first) (start_in second)
    else None))))

-- what is asked of the frames from one to another, ten at most
abbrev pub with_frames : Option ℕ → Option ℕ → Option ℕ → Option Command
with_frames (Some first) (Some last) (Some min) = if nat_le first last && nat_le last (first + 9) then Some (Idle first last min) else None
with_frames first last min = None

-- the command that four words are
abbrev pub command_with_three : List ℕ → List ℕ → List ℕ → List ℕ → Option Command
command_with_three word first second third =
    if bytes_eq word (codes "idle") then with_frames (frame_in first) (frame_in second) (least_in third) else None

-- the first subframe of a grid
abbrev pub subframe_in : List ℕ → Option ℕ
subframe_in word = plain_in 0 9 word

-- how many subframes it has
abbrev pub subframes_in : List ℕ → Option ℕ
subframes_in word = plain_in 1 10 word

-- a picture of the grid from this subframe on
abbrev pub with_grid : Option ℕ → Option ℕ → Option ℕ → Option Command
with_grid (Some frame) (Some subframe) (Some count) = Some (DrawGrid frame subframe count)
with_grid frame subframe count = None

-- the command that five words are
abbrev pub command_with_four : List ℕ → List ℕ → List ℕ → List ℕ → List ℕ → Option Command
command_with_four word first second third fourth =
    if bytes_eq word (codes "draw") && bytes_eq first (codes "grid") then with_grid (plain_in 0 99999 second) (subframe_in third) (subframes_in fourth) else None

-- the command that the words are
abbrev pub command_of : List (List ℕ) → Option Command
command_of (word ∷ []) = bare_command word
command_of (word ∷ second ∷ []) = command_with_one word second
command_of (word ∷ first ∷ second ∷ []) = command_with_two word first second
command_of (word ∷ first ∷ second ∷ third ∷ []) = command_with_three word first second third
command_of (word ∷ first ∷ second ∷ third ∷ fourth ∷ []) = command_with_four word first second third fourth
command_of words = None

-- the numbers of a command are within their limits
abbrev pub IsProper : Command → Type 0
IsProper (Generate seed slots) = (1 ≤ slots) × (slots ≤ 400)
IsProper (Trial seed slots) = (1 ≤ slots) × (slots ≤ 400)
IsProper (Shared count step) = (2 ≤ count) × (count ≤ 8) × (step ≤ 1000000)
IsProper (Idle first last min) = (1 ≤ first) × (first ≤ last) × (last ≤ first + 9) × (last ≤ 99999) × (1 ≤ min) × (min ≤ 9999)
IsProper (DrawGrid frame subframe count) = (frame ≤ 99999) × (subframe ≤ 9) × (1 ≤ count) × (count ≤ 10)
IsProper (Pcap whose start) = start ≤ LAST_TIME
IsProper (PcapCapture whose start) = start ≤ LAST_TIME
IsProper command = Unit {0}
