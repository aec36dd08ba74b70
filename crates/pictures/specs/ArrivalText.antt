-- The windows and the arrivals of a text that `explain` wrote, or its first line that fails.
use Rattle.std.specs.Prelude.{◌≡◌, ℕ, ◌+◌, ◌≤◌, List, [], ◌∷◌, ◌++◌, length, Bool, true, false, ◌||◌, ◌==◌, nat_le, if◌then◌else◌, Option, Some, None, IfSome, Result, Ok, Err, codes}
use Rattle.std.specs.List.{slice_split}
use Rattle.std.specs.Option.{option_to_list}
use Rattle.std.specs.Str.{bytes_eq}
use Rattle.fh_base.specs.Numbers.{word_at}
use Rattle.line_words.specs.Words.{words_of, is_text, without_last_feed}
use Rattle.pictures.specs.Refusals.{head_line, is_end, or_line, going_on}
use Rattle.pictures.specs.declared.faults.DrawFault.{DrawFault}
use Rattle.pictures.specs.declared.faults.DrawFault.TheVariants as draw
use Rattle.pictures.specs.declared.faults.TextWhy.{TextWhy}
use Rattle.pictures.specs.declared.faults.TextWhy.TheVariants as why
use Rattle.pictures.specs.declared.arrivals.Arrival.{Arrival}
use Rattle.pictures.specs.declared.arrivals.Flow.{Flow}
use Rattle.pictures.specs.declared.arrivals.Flow.TheVariants.{DownlinkCommands, UplinkCommands, DownlinkData, UplinkData}
use Rattle.pictures.specs.declared.forms.Command.{Command}
use Rattle.pictures.specs.declared.forms.Way.{Way}
use Rattle.pictures.specs.declared.forms.Way.TheVariants.{Down, Up}
use Rattle.pictures.specs.declared.arrival_reading.Gathered.{Gathered}
use Rattle.pictures.specs.declared.arrival_reading.Reading.{Reading}
use Rattle.pictures.specs.declared.windows.Windows.{Windows}
use Rattle.pictures.specs.Arrivals.{arrival_of}
use Rattle.pictures.specs.Forms.{way_in, command_in, data_in}
use Rattle.pictures.specs.Rows.{rows_of}
use Rattle.pictures.specs.Windows.{no_windows, window_in, with_window}

-- before the first line
abbrev pub start : Reading
start = record { windows = no_windows; way = None; ended = false }

abbrev pub frame_line : Reading → List (List ℕ) → Result Reading TextWhy
frame_line r ws = or_line (way_in ws) (λ way. Ok (record r { way = Some way }))

abbrev pub command_flow : Bool → Flow
command_flow uplink = if uplink then UplinkCommands else DownlinkCommands

abbrev pub is_down : Option Way → Bool
is_down None = false
is_down (Some Down) = true
is_down (Some Up) = false

-- one whose type does not fit its endpoint is left out
abbrev pub command_arrival : Reading → Command → Option Arrival
command_arrival r c = if c.mismatch then None else Some (arrival_of r.windows (command_flow c.uplink) c.margins)

-- a section of a command is in a frame of the downlink
abbrev pub command_line : Reading → List (List ℕ) → Result (Option Arrival) TextWhy
command_line r ws = if is_down r.way then or_line (command_in ws) (λ c. Ok (command_arrival r c)) else Err why.Line

abbrev pub data_flow : Way → Flow
data_flow Down = DownlinkData
data_flow Up = UplinkData

-- a section of data is in a frame, and goes its way
abbrev pub data_line : Reading → List (List ℕ) → Result (Option Arrival) TextWhy
data_line r ws = or_line r.way (λ way. or_line (data_in ws) (λ m. Ok (Some (arrival_of r.windows (data_flow way) m))))

-- no arrival where a line does not fail
abbrev pub silent : Result (Unit {0}) TextWhy → Result (Option Arrival) TextWhy
silent (Ok u) = Ok None
silent (Err w) = Err w

-- what was read, and no arrival
abbrev pub unheard : Result Reading TextWhy → Result (Reading × Option Arrival) TextWhy
unheard (Ok r) = Ok (r, None)
unheard (Err w) = Err w

-- an arrival changes nothing of what was read
abbrev pub heard : Reading → Result (Option Arrival) TextWhy → Result (Reading × Option Arrival) TextWhy
heard r (Ok a) = Ok (r, a)
heard r (Err w) = Err w

-- windows are in lines 2 to 9 alone; all other lines are passed over
abbrev pub used_line : Reading → List (List ℕ) → Result (Reading × Option Arrival) TextWhy
used_line r ws =
    if bytes_eq (word_at ws 0) (codes "window") then Err why.Line
    else (if bytes_eq (word_at ws 0) (codes "frame") then unheard (frame_line r ws)
    else (if bytes_eq (word_at ws 0) (codes "c") then heard r (command_line r ws)
    else (if bytes_eq (word_at ws 0) (codes "u") then heard r (data_line r ws)
    else Ok (r, None))))

-- no line is after the end
abbrev pub later_line : Reading → List (List ℕ) → Result (Reading × Option Arrival) TextWhy
later_line r ws =
    if r.ended then Err why.End
    else (if is_end ws then Ok (record r { ended = true }, None) else used_line r ws)

abbrev pub window_line : Reading → ℕ → List (List ℕ) → Result Reading TextWhy
window_line r n ws = or_line (window_in n ws) (λ w. Ok (record r { windows = with_window n w r.windows }))

abbrev pub words_line : Reading → ℕ → List (List ℕ) → Result (Reading × Option Arrival) TextWhy
words_line r n ws =
    if n == 1 then heard r (silent (head_line ws))
    else (if nat_le n 9 then unheard (window_line r n ws) else later_line r ws)

-- the words that a line after the windows begins with which is not passed over
abbrev pub is_used : List ℕ → Bool
is_used w = bytes_eq w (codes "frame") || bytes_eq w (codes "c") || bytes_eq w (codes "u") || bytes_eq w (codes "window") || bytes_eq w (codes "end")

-- the line with the number n, where the lines before it say r
unfoldable pub line_of : Reading → ℕ → List ℕ → Result (Reading × Option Arrival) TextWhy
line_of r n line = if is_text line then words_line r n (words_of line) else Err why.NotText

-- at the end; n is the number of the line after the last
abbrev pub at_end : ℕ → Reading → List Arrival → Result (Windows × List Arrival) (ℕ × TextWhy)
at_end n r came = if r.ended then Ok (r.windows, came) else Err (n, why.End)

-- the lines from the number n on, where the lines before it say r and tell of the arrivals `as`
abbrev pub read_from : ℕ → Reading → List Arrival → List (List ℕ) → Result (Windows × List Arrival) (ℕ × TextWhy)
read_from n r came [] = at_end n r came
read_from n r came (line ∷ lines) = going_on (line_of r n line) (λ next. read_from (n + 1) next.0 (came ++ option_to_list next.1) lines) (λ w. Err (n, w))

-- the windows and the arrivals of a text, in the order of their lines, or its first line that fails and why
abbrev pub arrivals_of : List ℕ → Result (Windows × List Arrival) (ℕ × TextWhy)
arrivals_of text = if length text == 0 then Err (1, why.Head) else read_from 1 start [] (slice_split (λ b. b == 10) (without_last_feed text))

-- what was read became the wanted one, or the wanted reason was given
abbrev pub Refuses : Result Reading TextWhy → Result (Unit {0}) TextWhy → Reading → Type 0
Refuses wanted (Ok u) new = wanted ≡ Ok new
Refuses wanted (Err w) new = wanted ≡ Err w

-- the same, with the wanted arrival
abbrev pub Hears : Result (Reading × Option Arrival) TextWhy → Result (Option Arrival) TextWhy → Reading → Type 0
Hears wanted (Ok a) new = wanted ≡ Ok (new, a)
Hears wanted (Err w) new = wanted ≡ Err w

-- an arrival is in a column
pub record HasPlace (a : Arrival) : Type 0 where
  pub first : a.first ≤ 1040
  pub last : IfSome a.last (λ column. column ≤ 1040)

-- the windows are the wanted ones, and the wanted arrivals are counted; or the wanted line is refused; or memory ran out
abbrev pub Gathers : Result (Windows × List Arrival) (ℕ × TextWhy) → Result Gathered DrawFault → Type 0
Gathers wanted (Ok g) = (came : List Arrival) × (wanted ≡ Ok (g.windows, came)) × (g.rows ≡ rows_of came)
Gathers wanted (Err (draw.Refused line w)) = wanted ≡ Err (line, w)
Gathers wanted (Err draw.WriteFault) = ⊥
Gathers wanted (Err draw.NoMemory) = Unit {0}
