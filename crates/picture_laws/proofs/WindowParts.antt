-- The picture of windows is made of parts, each in its panel.
use Rattle.std.proofs.Common.{◌≡◌, ℕ, ◌+◌, ◌-◌, ◌<◌, ◌≤◌, List, [], ◌∷◌, ◌++◌, Bool, true, false, ◌==◌, ℤ, length, refl, sym, ap, ◌∙◌, arith, append_assoc, codes}
use Rattle.std.specs.Prelude.{Option, Some, None, max, slice_index_or, if◌then◌else◌}
use Rattle.std.specs.Fmt.{signed_decimal}
use Rattle.std.proofs.lemmas.Bool.Decides.{nat_tests}
use Rattle.pictures.specs.Elements.{rect_text}
use Rattle.pictures.specs.Opening.{closing_text, opening_text}
use Rattle.pictures.specs.declared.rects.Area.{Area}
use Rattle.pictures.specs.declared.texts.Anchor.TheVariants.{Start, Middle, End}
use Rattle.pictures.specs.Counts.{no_counts}
use Rattle.pictures.specs.Tallies.{Tally}
use Rattle.pictures.specs.Windows.{column_of, far_of, near_of}
use Rattle.pictures.specs.declared.arrivals.Kind.{Kind}
use Rattle.pictures.specs.declared.arrivals.Kind.TheVariants.{OnTime, Late, Early}
use Rattle.pictures.specs.declared.rows.Rows.{Rows}
use Rattle.pictures.specs.declared.tallies.Counts.{Counts}
use Rattle.pictures.specs.declared.windows.Window.{Window as Range}
use Rattle.pictures.specs.declared.windows.Windows.{Windows}
use Rattle.pictures.specs.Axis.{after_of, before_of, nth_tick, place_of, tick_text, ticks_text, time_of}
use Rattle.pictures.specs.Bars.{bar_text, bars_text, column_text, height_of, most_of, nth_column, sum_of}
use Rattle.pictures.specs.Labels.{count_part, counts_text, least_text, or_nothing, sections_text}
use Rattle.pictures.specs.WindowPicture.{HasColumns, colours_note, commands_text, counts_note, data_text, foot_text, head_text, start_of, windows_picture, zero_text}
use Rattle.pictures.specs.WindowRows.{awaited_name, first_of, last_of, row_text, sent_name, window_text}
use Rattle.picture_laws.specs.Parts.{Across, Bar, Down, HasPanels, IsMadeOf, IsMere, IsWithin, Panel, Part, Window, Words, bar_name, page, part_text, row_panel, whole}
use Rattle.picture_laws.proofs.Bars.{heights_most, sum_most}
use Rattle.picture_laws.proofs.Parts.{◌⊗◌, ◌⊙◌, each_made, made_none, made_one, mere, mere_if, number_mere, signed_mere, spaced_mere}
use Rattle.picture_laws.proofs.PlainWindows.{Shown}
use Rattle.picture_laws.proofs.Scales.{at_most}

-- ---- where times are

column_most : (ws : Windows) (ns : ℤ) → column_of ws ns ≤ 1040
unfolding column_of far_of
column_most ws ns = at_most _ _ 1040 (omega arith)

place_low : (ws : Windows) (ns : ℤ) → 214 ≤ place_of ws ns
place_low ws ns = omega arith

place_high : (ws : Windows) (ns : ℤ) → place_of ws ns ≤ 1254
place_high ws ns = omega (arith, column_most ws ns)

-- ---- the axis

point : (p : Panel) (x y : ℕ) → p.left ≤ x → x + 1 ≤ p.right → p.top ≤ y → y + 1 ≤ p.bottom → IsWithin p x y 1 1
point p x y left right top bottom = record { wide = omega arith; high = omega arith; left = left; right = right; top = top; bottom = bottom }

tick_made : (ws : Windows) (ns : ℤ) → IsMadeOf whole (tick_text ws ns)
unfolding tick_text
tick_made ws ns =
    let low : 214 ≤ place_of ws ns = place_low ws ns in
    let high : place_of ws ns ≤ 1254 = place_high ws ns in
    made_one whole (Down (codes "slot") (place_of ws ns) 76 546) (record { wide = omega arith; high = omega arith; left = omega arith; right = omega (arith, high); top = omega arith; bottom = omega arith }, mere refl)
    ⊗ made_one whole (Words (place_of ws ns) 72 true Middle (signed_decimal ns)) (point page (place_of ws ns) 72 (omega arith) (omega (arith, high)) (omega arith) (omega arith), signed_mere ns)

ticks_made : (ws : Windows) → IsMadeOf whole (ticks_text ws)
unfolding ticks_text
ticks_made ws = each_made whole (nth_tick ws) (before_of ws + after_of ws + 1) (λ k lt. tick_made ws (time_of ws k))

-- ---- bars

bar_made : (y : ℕ) (kind : Kind) (x top height : ℕ) → 213 ≤ x → x + 3 ≤ 1256 → y + 57 ≤ top → top + height ≤ y + 122
    → IsMadeOf (row_panel y) (bar_text (bar_name kind) x top height)
bar_made y kind x top height left right high low = go (height == 0) refl
  where
    go : (t : Bool) → (height == 0) ≡ t
        → IsMadeOf (row_panel y) (if t then [] else rect_text (bar_name kind) (let a : Area = record { x = x; y = top; width = 3; height = height } in a))
    go true is = made_none (row_panel y)
    go false is =
        let some : 1 ≤ height = grind (arith, nat_tests) in
        made_one (row_panel y) (Bar kind (record { x = x; y = top; width = 3; height = height }))
        (record { wide = omega arith; high = some; left = left; right = right; top = high; bottom = low })

column_made : (y most column : ℕ) (c : Counts) → column ≤ 1040 → sum_of c ≤ most → IsMadeOf (row_panel y) (column_text (y + 122) most column c)
unfolding column_text
column_made y most column c within few =
    let a = height_of c.on_time most in
    let b = height_of c.late most in
    let d = height_of c.early most in
    let all : a + b + d ≤ 60 = heights_most c.on_time c.late c.early most few in
    bars a b d all
  where
    bars : (a b d : ℕ) → a + b + d ≤ 60 → IsMadeOf (row_panel y) (bar_text (codes "ok") (213 + column) ((y + 122) - a) a
        ++ bar_text (codes "late") (213 + column) ((y + 122) - a - b) b ++ bar_text (codes "early") (213 + column) ((y + 122) - a - b - d) d)
    bars a b d all =
        bar_made y OnTime (213 + column) ((y + 122) - a) a (omega arith) (omega arith) (omega arith) (omega arith)
        ⊗ bar_made y Late (213 + column) ((y + 122) - a - b) b (omega arith) (omega arith) (omega arith) (omega arith)
        ⊗ bar_made y Early (213 + column) ((y + 122) - a - b - d) d (omega arith) (omega arith) (omega arith) (omega arith)

bars_made : (y : ℕ) (columns : List Counts) → length columns ≤ 1041 → IsMadeOf (row_panel y) (bars_text (y + 122) columns)
unfolding bars_text
bars_made y columns few =
    each_made (row_panel y) (nth_column (y + 122) columns) (length columns)
    (λ k lt. column_made y (most_of columns) k (slice_index_or columns k no_counts) (omega arith) (sum_most columns k lt))

-- ---- texts beside a row

-- the panel of all but the windows and the bars
beside_made : (y x at : ℕ) (grey : Bool) (t : List ℕ) → x ≤ 204 → y ≤ at → at + 1 ≤ y + 132 → IsMere t → IsMadeOf (row_panel y) (part_text (Words x at grey End t))
beside_made y x at grey t left top bottom is =
    made_one (row_panel y) (Words x at grey End t)
    (point (row_panel y (Words x at grey End t)) x at (omega arith) (omega arith) top bottom, is)

part_mere : (before : List ℕ) (n : ℕ) (name : List ℕ) → IsMere before → IsMere name → IsMere (count_part before n name)
part_mere before n name p q =
    mere_if (n == 0) before _ p (mere_if (length before == 0) before (before ++ codes ", ") p (p ⊙ mere {text = codes ", "} refl) ⊙ number_mere n ⊙ q)

counts_mere : (c : Counts) → IsMere (counts_text c)
unfolding counts_text
counts_mere c =
    let t = count_part (count_part (count_part [] c.on_time (codes " on time")) c.late (codes " late")) c.early (codes " early") in
    mere_if (length t == 0) (codes "nothing arrived") t (mere refl)
    (part_mere _ c.early (codes " early") (part_mere _ c.late (codes " late") (part_mere [] c.on_time (codes " on time") (mere refl) (mere refl)) (mere refl)) (mere refl))

sections_made : (y : ℕ) (c : Counts) → IsMadeOf (row_panel y) (sections_text (y + 88) c)
unfolding sections_text
sections_made y c = beside_made y 204 (y + 88) false (counts_text c) (omega arith) (omega arith) (omega arith) (counts_mere c)

least_made : (y at : ℕ) (margin : Option ℤ) (what : List ℕ) → y ≤ at → at + 1 ≤ y + 132 → IsMere what → IsMadeOf (row_panel y) (least_text at margin what)
least_made y at None what top bottom is = made_none (row_panel y)
least_made y at (Some ns) what top bottom is =
    beside_made y 204 at true (codes "least " ++ signed_decimal ns ++ what) (omega arith) top bottom (mere {text = codes "least "} refl ⊙ signed_mere ns ⊙ is)

-- ---- windows

window_made : (y at : ℕ) (ws : Windows) (name : List ℕ) (w : Range) (after : Bool) → y + 23 ≤ at → at + 14 ≤ y + 57 → IsMere name
    → IsMadeOf (row_panel y) (window_text ws at name w after)
unfolding window_text
window_made y at ws name w after top bottom is =
    let from = place_of ws (first_of w after) in
    let to = place_of ws (last_of w after) in
    let low : 214 ≤ from = place_low ws (first_of w after) in
    let before : from ≤ 1254 = place_high ws (first_of w after) in
    let high : to ≤ 1254 = place_high ws (last_of w after) in
    beside_made y 204 (at + 11) true _ (omega arith) (omega arith) (omega arith) (is ⊙ spaced_mere w.min ⊙ mere {text = codes " to"} refl ⊙ spaced_mere w.max)
    ⊗ made_one (row_panel y) (Window (record { x = from; y = at; width = max (to - from) 1; height = 14 }))
    (record { wide = wide (to - from); high = omega arith; left = low; right = right from to before high; top = top; bottom = bottom })
  where
    wide : (n : ℕ) → 1 ≤ max n 1
    wide n = omega arith

    right : (from to : ℕ) → from ≤ 1254 → to ≤ 1254 → from + max (to - from) 1 ≤ 1255
    right from to p q = omega arith

-- ---- rows

row_made : (ws : Windows) (y : ℕ) (name : List ℕ) (shown : Shown) (t : Tally) → IsMere name → length t.columns ≤ 1041 → IsMadeOf (row_panel y) (row_text ws y name shown t)
unfolding row_text
row_made ws y name shown t is few =
    beside_made y 204 (y + 14) false name (omega arith) (omega arith) (omega arith) is
    ⊗ window_made y (y + 23) ws (sent_name shown.after) shown.sent shown.after (omega arith) (omega arith) (mere_if shown.after _ _ (mere refl) (mere refl))
    ⊗ window_made y (y + 43) ws (awaited_name shown.after) shown.awaited shown.after (omega arith) (omega arith) (mere_if shown.after _ _ (mere refl) (mere refl))
    ⊗ made_one (row_panel y) (Across (codes "slot") 214 (y + 122) 1040)
    (record { wide = omega arith; high = omega arith; left = omega arith; right = omega arith; top = omega arith; bottom = omega arith }, mere refl)
    ⊗ bars_made y t.columns few
    ⊗ sections_made y t.sections
    ⊗ least_made y (y + 103) t.since (codes " ns after opening") (omega arith) (omega arith) (mere refl)
    ⊗ least_made y (y + 118) t.until (codes " ns before closing") (omega arith) (omega arith) (mere refl)

-- ---- the picture

note_made : (y : ℕ) (t : List ℕ) → y + 1 ≤ 652 → IsMere t → IsMadeOf whole (part_text (Words 214 y true Start t))
note_made y t low is = made_one whole (Words 214 y true Start t) (point page 214 y (omega arith) (omega arith) (omega arith) low, is)

counts_note_made : IsMadeOf whole counts_note
unfolding counts_note
counts_note_made = note_made 40 _ (omega arith) (mere refl)

colours_note_made : IsMadeOf whole colours_note
unfolding colours_note
colours_note_made = note_made 54 _ (omega arith) (mere refl)

zero_made : (ws : Windows) → IsMadeOf whole (zero_text (start_of ws))
unfolding zero_text
zero_made ws =
    let high : start_of ws ≤ 1254 = place_high ws _ in
    made_one whole (Down (codes "zero") (start_of ws) 76 546) (record { wide = omega arith; high = omega arith; left = omega arith; right = omega (arith, high); top = omega arith; bottom = omega arith }, mere refl)
    ⊗ made_one whole (Words (start_of ws) 640 false Middle (codes "start of the symbol")) (point page (start_of ws) 640 (omega arith) (omega (arith, high)) (omega arith) (omega arith), mere refl)

-- the pieces of a text, however they are put together
together : (opening a b axis one two three four zero closing : List ℕ)
    → (opening ++ a ++ b ++ axis) ++ (one ++ two) ++ (three ++ four) ++ (zero ++ closing)
    ≡ opening ++ (a ++ b ++ axis) ++ one ++ two ++ three ++ four ++ zero ++ closing
together opening a b axis one two three four zero closing = simp (append_assoc) refl

pub windows_made : (ws : Windows) (rows : Rows) → HasColumns rows → HasPanels (windows_picture ws rows)
unfolding windows_picture head_text commands_text data_text foot_text
windows_made ws rows few = record {
  axis = counts_note ++ colours_note ++ ticks_text ws;
  downlink_commands = _;
  uplink_commands = _;
  downlink_data = _;
  uplink_data = _;
  start = zero_text (start_of ws);
  is = together (opening_text 1284 652 (codes "Windows, and what arrived in them")) counts_note colours_note (ticks_text ws) _ _ _ _ (zero_text (start_of ws)) closing_text;
  on_axis = counts_note_made ⊗ colours_note_made ⊗ ticks_made ws;
  in_downlink_commands = row_made ws 84 (codes "downlink commands") (record { sent = ws.t1a_cp_dl; awaited = ws.t2a_cp_dl; after = false }) rows.downlink_commands (mere refl) few.downlink_commands;
  in_uplink_commands = row_made ws 216 (codes "uplink commands") (record { sent = ws.t1a_cp_ul; awaited = ws.t2a_cp_ul; after = false }) rows.uplink_commands (mere refl) few.uplink_commands;
  in_downlink_data = row_made ws 348 (codes "downlink data") (record { sent = ws.t1a_up; awaited = ws.t2a_up; after = false }) rows.downlink_data (mere refl) few.downlink_data;
  in_uplink_data = row_made ws 480 (codes "uplink data") (record { sent = ws.ta3; awaited = ws.ta4; after = true }) rows.uplink_data (mere refl) few.uplink_data;
  at_start = zero_made ws;
}
