-- The row of a flow of commands or data.
use Rattle.std.specs.Prelude.{ℕ, ℤ, pos, neg_ℤ, ◌+◌, ◌-◌, List, ◌++◌, max, Bool, true, false, if◌then◌else◌, codes}
use Rattle.fh_base.specs.Words.{spaced_text}
use Rattle.pictures.specs.Tallies.{Tally}
use Rattle.pictures.specs.declared.windows.Window.{Window}
use Rattle.pictures.specs.declared.windows.Windows.{Windows}
use Rattle.pictures.specs.Elements.{across_text, rect_text, text_text}
use Rattle.pictures.specs.declared.texts.Anchor.TheVariants.{End}
use Rattle.pictures.specs.Axis.{place_of}
use Rattle.pictures.specs.Bars.{bars_text}
use Rattle.pictures.specs.Labels.{sections_text, since_text, until_text}
use Rattle.pictures.specs.declared.window_rows.Shown.{Shown}

-- a window before the symbol lies from -MAX to -MIN, one after it from MIN to MAX
abbrev pub first_of : Window → Bool → ℤ
first_of w after = if after then pos w.min else neg_ℤ (pos w.max)

abbrev pub last_of : Window → Bool → ℤ
last_of w after = if after then pos w.max else neg_ℤ (pos w.min)

abbrev pub sent_name : Bool → List ℕ
sent_name after = if after then codes "sent in Ta3" else codes "sent in T1a"

abbrev pub awaited_name : Bool → List ℕ
awaited_name after = if after then codes "awaited in Ta4" else codes "awaited in T2a"

-- a window: its name and its ends, and its place
unfoldable pub window_text : Windows → ℕ → List ℕ → Window → Bool → List ℕ
window_text ws y name w after =
    text_text 204 (y + 11) true End (name ++ spaced_text w.min ++ codes " to" ++ spaced_text w.max)
    ++ rect_text (codes "win") (record { x = place_of ws (first_of w after); y = y; width = max (place_of ws (last_of w after) - place_of ws (first_of w after)) 1; height = 14 })

-- name, windows, base line, bars, and what arrived
unfoldable pub row_text : Windows → ℕ → List ℕ → Shown → Tally → List ℕ
row_text ws y name shown t =
    text_text 204 (y + 14) false End name
    ++ window_text ws (y + 23) (sent_name shown.after) shown.sent shown.after
    ++ window_text ws (y + 43) (awaited_name shown.after) shown.awaited shown.after
    ++ across_text (codes "slot") 214 (y + 122) 1040
    ++ bars_text (y + 122) t.columns
    ++ sections_text (y + 88) t.sections
    ++ since_text (y + 103) t.since
    ++ until_text (y + 118) t.until
