-- The picture of windows, and of what arrived in them, of a text that `explain` wrote.
use Rattle.std.specs.Prelude.{◌≤◌, ℕ, pos, List, ◌++◌, length, Result, Ok, Err, codes, true, false}
use Rattle.pictures.specs.Rows.{rows_of}
use Rattle.pictures.specs.ArrivalText.{arrivals_of}
use Rattle.pictures.specs.declared.arrivals.Arrival.{Arrival}
use Rattle.pictures.specs.declared.rows.Rows.{Rows}
use Rattle.pictures.specs.declared.windows.Windows.{Windows}
use Rattle.pictures.specs.declared.faults.TextWhy.{TextWhy}
use Rattle.pictures.specs.Elements.{down_text, text_text}
use Rattle.pictures.specs.Opening.{opening_text, closing_text}
use Rattle.pictures.specs.declared.texts.Anchor.TheVariants.{Start, Middle}
use Rattle.pictures.specs.Axis.{place_of, ticks_text}
use Rattle.pictures.specs.WindowRows.{row_text}

-- what a bar counts
unfoldable pub counts_note : List ℕ
counts_note =
    text_text 214 40 true Start
    (codes "Nanoseconds before (-) and after the start of the symbol. A bar counts arrivals, of the first and of the last fragment of each section:")

-- what the colours are
unfoldable pub colours_note : List ℕ
colours_note = text_text 214 54 true Start (codes "blue on time, orange late, yellow early. The outermost bars hold all that is farther out.")

-- size, style, title, what is said of the picture, and the axis
unfoldable pub head_text : Windows → List ℕ
head_text ws = opening_text 1284 652 (codes "Windows, and what arrived in them") ++ counts_note ++ colours_note ++ ticks_text ws

-- commands go to the radio unit alone
unfoldable pub commands_text : Windows → Rows → List ℕ
commands_text ws rows =
    row_text ws 84 (codes "downlink commands") (record { sent = ws.t1a_cp_dl; awaited = ws.t2a_cp_dl; after = false }) rows.downlink_commands
    ++ row_text ws 216 (codes "uplink commands") (record { sent = ws.t1a_cp_ul; awaited = ws.t2a_cp_ul; after = false }) rows.uplink_commands

-- data go both ways
unfoldable pub data_text : Windows → Rows → List ℕ
data_text ws rows =
    row_text ws 348 (codes "downlink data") (record { sent = ws.t1a_up; awaited = ws.t2a_up; after = false }) rows.downlink_data
    ++ row_text ws 480 (codes "uplink data") (record { sent = ws.ta3; awaited = ws.ta4; after = true }) rows.uplink_data

-- the line of the symbol's start, and its name
unfoldable pub zero_text : ℕ → List ℕ
zero_text x = down_text (codes "zero") x 76 546 ++ text_text x 640 false Middle (codes "start of the symbol")

-- where the symbol starts
abbrev pub start_of : Windows → ℕ
start_of ws = place_of ws (pos 0)

unfoldable pub foot_text : Windows → List ℕ
foot_text ws = zero_text (start_of ws) ++ closing_text

unfoldable pub windows_picture : Windows → Rows → List ℕ
windows_picture ws rows = head_text ws ++ commands_text ws rows ++ data_text ws rows ++ foot_text ws

-- each row has at most 1,041 columns
pub record HasColumns (rows : Rows) : Type 0 where
  pub downlink_commands : length rows.downlink_commands.columns ≤ 1041
  pub uplink_commands : length rows.uplink_commands.columns ≤ 1041
  pub downlink_data : length rows.downlink_data.columns ≤ 1041
  pub uplink_data : length rows.uplink_data.columns ≤ 1041

abbrev pub picture_for : Result (Windows × List Arrival) (ℕ × TextWhy) → Result (List ℕ) (ℕ × TextWhy)
picture_for (Ok w) = Ok (windows_picture w.0 (rows_of w.1))
picture_for (Err refusal) = Err refusal

-- the picture of a text, or its first line that fails and why
abbrev pub drawn : List ℕ → Result (List ℕ) (ℕ × TextWhy)
drawn text = picture_for (arrivals_of text)
