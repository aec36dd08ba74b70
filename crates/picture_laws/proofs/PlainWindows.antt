-- The picture of windows is of line feeds and printable ASCII.
use Rattle.std.proofs.Common.{ℕ, ◌+◌, ◌-◌, List, [], ◌++◌, Bool, true, false, ◌==◌, ℤ, length, refl, codes}
use Rattle.std.specs.Prelude.{Option, Some, None, max, slice_index_or}
use Rattle.picture_laws.specs.Plain.{IsPlain}
use Rattle.picture_laws.proofs.PlainTexts.{lit, ◌⊕◌, across_plain, closing_plain, down_plain, each_plain, number_plain, opening_plain, plain_if, rect_plain, signed_plain, spaced_plain, text_plain}
use Rattle.pictures.specs.declared.texts.Anchor.TheVariants.{Start, Middle, End}
use Rattle.pictures.specs.Counts.{no_counts}
use Rattle.pictures.specs.Tallies.{Tally}
use Rattle.pictures.specs.declared.rows.Rows.{Rows}
use Rattle.pictures.specs.declared.tallies.Counts.{Counts}
use Rattle.pictures.specs.declared.windows.Window.{Window}
use Rattle.pictures.specs.declared.windows.Windows.{Windows}
use Rattle.pictures.specs.Axis.{after_of, before_of, nth_tick, place_of, tick_text, ticks_text, time_of}
use Rattle.pictures.specs.Bars.{bar_text, bars_text, column_text, height_of, most_of, nth_column}
use Rattle.pictures.specs.Labels.{count_part, counts_text, least_text, or_nothing, sections_text}
use Rattle.pictures.specs.WindowPicture.{colours_note, commands_text, counts_note, data_text, foot_text, head_text, start_of, windows_picture, zero_text}
use Rattle.pictures.specs.WindowRows.{awaited_name, first_of, last_of, row_text, sent_name, window_text}

-- the windows of a row, whose type has no name here
abbrev fourth_of : {A B C D E F : Type 0} → (A → B → C → D → E → F) → Type 0
fourth_of {D = D} f = D

abbrev pub Shown : Type 0
Shown = fourth_of row_text

tick_plain : (ws : Windows) (ns : ℤ) → IsPlain (tick_text ws ns)
unfolding tick_text
tick_plain ws ns = down_plain (codes "slot") (place_of ws ns) 76 546 (lit refl) ⊕ text_plain (place_of ws ns) 72 true Middle _ (signed_plain ns)

ticks_plain : (ws : Windows) → IsPlain (ticks_text ws)
unfolding ticks_text
ticks_plain ws = each_plain (nth_tick ws) (before_of ws + after_of ws + 1) (λ k. tick_plain ws (time_of ws k))

bar_plain : (class : List ℕ) (x top height : ℕ) → IsPlain class → IsPlain (bar_text class x top height)
bar_plain class x top height p = plain_if (height == 0) [] _ (lit refl) (rect_plain class (record { x = x; y = top; width = 3; height = height }) p)

column_plain : (base most column : ℕ) (c : Counts) → IsPlain (column_text base most column c)
unfolding column_text
column_plain base most column c =
    bar_plain (codes "ok") (213 + column) (base - height_of c.on_time most) (height_of c.on_time most) (lit refl)
    ⊕ bar_plain (codes "late") (213 + column) (base - height_of c.on_time most - height_of c.late most) (height_of c.late most) (lit refl)
    ⊕ bar_plain (codes "early") (213 + column) (base - height_of c.on_time most - height_of c.late most - height_of c.early most) (height_of c.early most) (lit refl)

bars_plain : (base : ℕ) (columns : List Counts) → IsPlain (bars_text base columns)
unfolding bars_text
bars_plain base columns = each_plain (nth_column base columns) (length columns) (λ k. column_plain base (most_of columns) k (slice_index_or columns k no_counts))

part_plain : (before : List ℕ) (n : ℕ) (name : List ℕ) → IsPlain before → IsPlain name → IsPlain (count_part before n name)
part_plain before n name p q =
    plain_if (n == 0) before _ p (plain_if (length before == 0) before (before ++ codes ", ") p (p ⊕ lit {text = codes ", "} refl) ⊕ number_plain n ⊕ q)

nothing_plain : (t : List ℕ) → IsPlain t → IsPlain (or_nothing t)
nothing_plain t p = plain_if (length t == 0) (codes "nothing arrived") t (lit refl) p

counts_plain : (c : Counts) → IsPlain (counts_text c)
unfolding counts_text
counts_plain c =
    nothing_plain _ (part_plain _ c.early (codes " early") (part_plain _ c.late (codes " late") (part_plain [] c.on_time (codes " on time") (lit refl) (lit refl)) (lit refl)) (lit refl))

sections_plain : (y : ℕ) (c : Counts) → IsPlain (sections_text y c)
unfolding sections_text
sections_plain y c = text_plain 204 y false End _ (counts_plain c)

least_plain : (y : ℕ) (margin : Option ℤ) (what : List ℕ) → IsPlain what → IsPlain (least_text y margin what)
least_plain y None what p = lit refl
least_plain y (Some ns) what p = text_plain 204 y true End _ (lit {text = codes "least "} refl ⊕ signed_plain ns ⊕ p)

sent_plain : (after : Bool) → IsPlain (sent_name after)
sent_plain after = plain_if after _ _ (lit refl) (lit refl)

awaited_plain : (after : Bool) → IsPlain (awaited_name after)
awaited_plain after = plain_if after _ _ (lit refl) (lit refl)

window_plain : (ws : Windows) (y : ℕ) (name : List ℕ) (w : Window) (after : Bool) → IsPlain name → IsPlain (window_text ws y name w after)
unfolding window_text
window_plain ws y name w after p =
    text_plain 204 (y + 11) true End _ (p ⊕ spaced_plain w.min ⊕ lit {text = codes " to"} refl ⊕ spaced_plain w.max)
    ⊕ rect_plain (codes "win") (record { x = place_of ws (first_of w after); y = y; width = max (place_of ws (last_of w after) - place_of ws (first_of w after)) 1; height = 14 }) (lit refl)

row_plain : (ws : Windows) (y : ℕ) (name : List ℕ) (shown : Shown) (t : Tally) → IsPlain name → IsPlain (row_text ws y name shown t)
unfolding row_text
row_plain ws y name shown t p =
    text_plain 204 (y + 14) false End name p
    ⊕ window_plain ws (y + 23) (sent_name shown.after) shown.sent shown.after (sent_plain shown.after)
    ⊕ window_plain ws (y + 43) (awaited_name shown.after) shown.awaited shown.after (awaited_plain shown.after)
    ⊕ across_plain (codes "slot") 214 (y + 122) 1040 (lit refl)
    ⊕ bars_plain (y + 122) t.columns
    ⊕ sections_plain (y + 88) t.sections
    ⊕ least_plain (y + 103) t.since (codes " ns after opening") (lit refl)
    ⊕ least_plain (y + 118) t.until (codes " ns before closing") (lit refl)

counts_note_plain : IsPlain counts_note
unfolding counts_note
counts_note_plain = text_plain 214 40 true Start _ (lit refl)

colours_note_plain : IsPlain colours_note
unfolding colours_note
colours_note_plain = text_plain 214 54 true Start _ (lit refl)

head_plain : (ws : Windows) → IsPlain (head_text ws)
unfolding head_text
head_plain ws = opening_plain 1284 652 (codes "Windows, and what arrived in them") (lit refl) ⊕ counts_note_plain ⊕ colours_note_plain ⊕ ticks_plain ws

commands_plain : (ws : Windows) (rows : Rows) → IsPlain (commands_text ws rows)
unfolding commands_text
commands_plain ws rows =
    row_plain ws 84 (codes "downlink commands") (record { sent = ws.t1a_cp_dl; awaited = ws.t2a_cp_dl; after = false }) rows.downlink_commands (lit refl)
    ⊕ row_plain ws 216 (codes "uplink commands") (record { sent = ws.t1a_cp_ul; awaited = ws.t2a_cp_ul; after = false }) rows.uplink_commands (lit refl)

data_plain : (ws : Windows) (rows : Rows) → IsPlain (data_text ws rows)
unfolding data_text
data_plain ws rows =
    row_plain ws 348 (codes "downlink data") (record { sent = ws.t1a_up; awaited = ws.t2a_up; after = false }) rows.downlink_data (lit refl)
    ⊕ row_plain ws 480 (codes "uplink data") (record { sent = ws.ta3; awaited = ws.ta4; after = true }) rows.uplink_data (lit refl)

zero_plain : (x : ℕ) → IsPlain (zero_text x)
unfolding zero_text
zero_plain x = down_plain (codes "zero") x 76 546 (lit refl) ⊕ text_plain x 640 false Middle (codes "start of the symbol") (lit refl)

foot_plain : (ws : Windows) → IsPlain (foot_text ws)
unfolding foot_text
foot_plain ws = zero_plain (start_of ws) ⊕ closing_plain

pub windows_plain : (ws : Windows) (rows : Rows) → IsPlain (windows_picture ws rows)
unfolding windows_picture
windows_plain ws rows = head_plain ws ⊕ commands_plain ws rows ⊕ data_plain ws rows ⊕ foot_plain ws
