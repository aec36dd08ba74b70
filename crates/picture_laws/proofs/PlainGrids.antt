-- The picture of a resource grid is of line feeds and printable ASCII.
use Rattle.std.proofs.Common.{◌≡◌, ℕ, ◌+◌, ◌*◌, ◌/◌, ◌%◌, List, [], ◌∷◌, Bool, true, false, ◌&&◌, ◌==◌, cond, nat_le, nat_lt, length, refl, codes}
use Rattle.std.specs.Prelude.{Option, Some, None, filter}
use Rattle.std.specs.List.{flat_map, onto_first, slice_split}
use Rattle.fh_base.specs.Numbering.{code_of, slots_of}
use Rattle.fh_base.specs.declared.nanoseconds.TheConstants.{NANOSECOND}
use Rattle.fh_base.specs.declared.symbols.TheConstants.{SUBFRAME}
use Rattle.fh_base.proofs.Orders.{left_true, right_true}
use Rattle.line_words.specs.Words.{is_text, words_of}
use Rattle.pictures.specs.Cells.{cell_of}
use Rattle.pictures.specs.Classes.{class_name}
use Rattle.pictures.specs.declared.cells.Cell.{Cell}
use Rattle.pictures.specs.declared.cells.Look.{Look}
use Rattle.pictures.specs.declared.cells.Look.TheVariants.{Shown, Missing, Why}
use Rattle.pictures.specs.declared.classes.Class.{Class}
use Rattle.pictures.specs.declared.classes.Class.TheVariants.{Late, Early, Unfinished, Other, Refused, Repeated, Command, NoData}
use Rattle.pictures.specs.declared.endpoints.Endpoint.{Endpoint}
use Rattle.pictures.specs.declared.rects.Area.{Area}
use Rattle.pictures.specs.declared.texts.Anchor.TheVariants.{Start, End}
use Rattle.pictures.specs.Areas.{area_of}
use Rattle.pictures.specs.Bands.{band_text, bands_text, block_text, column_text, columns_text, entry_text, first_text, foot_text, from_text, head_text, hint_text, label_text, legend_text, lines_text, note_text, scs_name, second_text, slot_name, slot_text, slots_text, span_title, third_text, title_text}
use Rattle.pictures.specs.Frames.{slot_begin}
use Rattle.pictures.specs.Looks.{line_text, looks_text, shown_name, title_of, cells_text as drawn_of}
use Rattle.pictures.specs.Picture.{cells_text, grid_picture}
use Rattle.pictures.specs.Sizes.{block_of, height_of, legend_of, step_of}
use Rattle.pictures.specs.Spans.{begin_of, is_in, x_after}
use Rattle.pictures.specs.declared.spans.Span.{Span}
use Rattle.picture_laws.specs.Plain.{IsPlain, is_plain_byte}
use Rattle.picture_laws.specs.Laws.{parts_of}
use Rattle.picture_laws.proofs.PlainTexts.{lit, ◌⊕◌, byte_plain, closing_plain, down_plain, each_plain, hatched_plain, number_plain, opening_plain, plain_cons, plain_if, rect_plain, text_plain, titled_plain}

-- ---- what is before the cells and after them

scs_plain : (e : Endpoint) → IsPlain (scs_name e)
scs_plain e =
    plain_if (code_of e.numerology == 0) _ _ (lit refl)
    (plain_if (code_of e.numerology == 1) _ _ (lit refl)
    (plain_if (code_of e.numerology == 2) _ _ (lit refl)
    (plain_if (code_of e.numerology == 3) _ _ (lit refl)
    (plain_if (code_of e.numerology == 4) _ _ (lit refl)
    (plain_if (code_of e.numerology == 12) _ _ (lit refl) (lit refl))))))

slot_plain : (s : Span) (e : Endpoint) (y subframe slot : ℕ) → IsPlain (slot_text s e y subframe slot)
unfolding slot_text
slot_plain s e y subframe slot =
    down_plain (slot_name slot) (x_after s (subframe * SUBFRAME + slot_begin e.numerology slot)) y (height_of e) (plain_if (slot == 0) _ _ (lit refl) (lit refl))

slots_plain : (s : Span) (e : Endpoint) (y subframe : ℕ) → IsPlain (slots_text s e y subframe)
unfolding slots_text
slots_plain s e y subframe = each_plain (slot_text s e y subframe) (slots_of e.numerology) (slot_plain s e y subframe)

lines_plain : (s : Span) (e : Endpoint) (y : ℕ) → IsPlain (lines_text s e y)
unfolding lines_text
lines_plain s e y = each_plain (slots_text s e y) s.count (slots_plain s e y)

label_plain : (e : Endpoint) (y : ℕ) (up : Bool) → IsPlain e.id → IsPlain (label_text e y up)
unfolding label_text
label_plain e y up p = text_plain 110 (y + 12) false End _ (p ⊕ plain_if up (codes " ul") (codes " dl") (lit refl) (lit refl))

note_plain : (e : Endpoint) (y : ℕ) → IsPlain (note_text e y)
unfolding note_text
note_plain e y = text_plain 110 (y + 25) true End _ (number_plain e.prbs ⊕ lit {text = codes " PRB, "} refl ⊕ scs_plain e ⊕ lit {text = codes " kHz"} refl)

band_plain : (s : Span) (e : Endpoint) (y : ℕ) (up : Bool) → IsPlain e.id → IsPlain (band_text s e y up)
unfolding band_text
band_plain s e y up p =
    rect_plain (codes "panel") (record { x = 118; y = y; width = 1120; height = height_of e }) (lit refl) ⊕ lines_plain s e y ⊕ label_plain e y up p ⊕ note_plain e y

block_plain : (s : Span) (e : Endpoint) (y : ℕ) → IsPlain e.id → IsPlain (block_text s e y)
unfolding block_text
block_plain s e y p = band_plain s e y false p ⊕ band_plain s e (y + step_of e) true p

-- their ids are
abbrev pub AreNamed : List Endpoint → Type 0
AreNamed [] = Unit {0}
AreNamed (e ∷ es) = IsPlain e.id × AreNamed es

bands_plain : (s : Span) (y : ℕ) (es : List Endpoint) → AreNamed es → IsPlain (bands_text s y es)
unfolding bands_text
bands_plain s y [] p = lit refl
bands_plain s y (e ∷ es) p = block_plain s e y p.0 ⊕ bands_plain s (y + block_of e) es p.1

span_plain : (s : Span) → IsPlain (span_title s)
unfolding span_title
span_plain s =
    lit {text = codes "Resource grid: frame "} refl ⊕ number_plain s.frame ⊕ lit {text = codes ", subframe "} refl ⊕ number_plain s.subframe ⊕ lit {text = codes ", "} refl ⊕ number_plain s.count
    ⊕ plain_if (s.count == 1) (codes " subframe") (codes " subframes") (lit refl) (lit refl)

from_plain : (s : Span) → IsPlain (from_text s)
unfolding from_text
from_plain s =
    text_plain 118 40 true Start _
    (lit {text = codes "from "} refl ⊕ number_plain (begin_of s / NANOSECOND)
    ⊕ lit {text = codes " ns on, a column for each subframe (FRAME.SUBFRAME); PRB 0 at the bottom of each band; hatched: no command was accepted, so nothing was to radiate"} refl)

column_plain : (s : Span) (k : ℕ) → IsPlain (column_text s k)
unfolding column_text
column_plain s k =
    text_plain (x_after s (k * SUBFRAME)) 56 true Start _ (number_plain (s.frame + (s.subframe + k) / 10) ⊕ lit {text = codes "."} refl ⊕ number_plain ((s.subframe + k) % 10))

columns_plain : (s : Span) → IsPlain (columns_text s)
unfolding columns_text
columns_plain s = each_plain (column_text s) s.count (column_plain s)

title_plain : (s : Span) (legend : ℕ) → IsPlain (title_text s legend)
unfolding title_text
title_plain s legend = opening_plain 1260 (legend + 54) (span_title s) (span_plain s)

head_plain : (s : Span) (es : List Endpoint) → AreNamed es → IsPlain (head_text s es)
unfolding head_text
head_plain s es p = title_plain s (legend_of es) ⊕ from_plain s ⊕ columns_plain s ⊕ bands_plain s 62 es p

entry_plain : (x y : ℕ) (class name : List ℕ) → IsPlain class → IsPlain name → IsPlain (entry_text x y class name)
unfolding entry_text
entry_plain x y class name p q = rect_plain class (record { x = x; y = y; width = 12; height = 12 }) p ⊕ text_plain (x + 17) (y + 10) false Start name q

first_plain : (y : ℕ) → IsPlain (first_text y)
unfolding first_text
first_plain y =
    entry_plain 10 y (codes "shown-dl") (codes "radiates") (lit refl) (lit refl)
    ⊕ entry_plain 98 y (codes "shown-ul") (codes "taken in") (lit refl) (lit refl)
    ⊕ entry_plain 186 y (codes "late") (codes "late") (lit refl) (lit refl)
    ⊕ entry_plain 246 y (codes "early") (codes "early") (lit refl) (lit refl)
    ⊕ entry_plain 313 y (codes "unfinished") (codes "fragment missing") (lit refl) (lit refl)

second_plain : (y : ℕ) → IsPlain (second_text y)
unfolding second_text
second_plain y =
    entry_plain 457 y (codes "other") (codes "another section id") (lit refl) (lit refl)
    ⊕ entry_plain 615 y (codes "refused") (codes "refused or wrong way") (lit refl) (lit refl)
    ⊕ entry_plain 787 y (codes "repeated") (codes "sequence id repeated") (lit refl) (lit refl)

third_plain : (y : ℕ) → IsPlain (third_text y)
unfolding third_text
third_plain y =
    entry_plain 959 y (codes "command") (codes "command not accepted") (lit refl) (lit refl) ⊕ entry_plain 1131 y (codes "nodata") (codes "nothing came") (lit refl) (lit refl)

legend_plain : (y : ℕ) → IsPlain (legend_text y)
unfolding legend_text
legend_plain y = first_plain y ⊕ second_plain y ⊕ third_plain y

hint_plain : (y : ℕ) → IsPlain (hint_text y)
unfolding hint_text
hint_plain y = text_plain 118 (y + 34) true Start _ (lit refl)

foot_plain : (es : List Endpoint) → IsPlain (foot_text es)
unfolding foot_text
foot_plain es = legend_plain (legend_of es) ⊕ hint_plain (legend_of es) ⊕ closing_plain

-- ---- what a line draws

-- each of these texts is
abbrev pub AllPlain : List (List ℕ) → Type 0
AllPlain [] = Unit {0}
AllPlain (w ∷ ws) = IsPlain w × AllPlain ws

first_in : (x : ℕ) (parts : List (List ℕ)) → is_plain_byte x ≡ true → AllPlain parts → AllPlain (onto_first x parts)
first_in x [] e p = (plain_cons x [] e (lit refl), tt)
first_in x (part ∷ parts) e p = (plain_cons x part e p.0, p.1)

split_plain : (cut : ℕ → Bool) (line : List ℕ) → is_text line ≡ true → AllPlain (slice_split cut line)
split_plain cut [] e = (lit refl, tt)
split_plain cut (x ∷ xs) e = go (cut x) (split_plain cut xs (right_true (nat_le 32 x && nat_le x 126) (is_text xs) e))
  where
    go : (t : Bool) → AllPlain (slice_split cut xs) → AllPlain (cond t ([] ∷ slice_split cut xs) (onto_first x (slice_split cut xs)))
    go true rest = (lit refl, rest)
    go false rest = first_in x (slice_split cut xs) (byte_plain x (left_true (nat_le 32 x && nat_le x 126) (is_text xs) e)) rest

filter_plain : (test : List ℕ → Bool) (ws : List (List ℕ)) → AllPlain ws → AllPlain (filter test ws)
filter_plain test [] p = tt
filter_plain test (w ∷ ws) p = go (test w) (filter_plain test ws p.1)
  where
    go : (t : Bool) → AllPlain (filter test ws) → AllPlain (cond t (w ∷ filter test ws) (filter test ws))
    go true rest = (p.0, rest)
    go false rest = rest

words_plain : (line : List ℕ) → is_text line ≡ true → AllPlain (words_of line)
words_plain line e = filter_plain (λ w. nat_lt 0 (length w)) (slice_split (λ b. b == 32) line) (split_plain (λ b. b == 32) line e)

behind_plain : (ws : List (List ℕ)) → AllPlain ws → IsPlain (flat_map (λ w. 32 ∷ w) ws)
behind_plain [] p = lit refl
behind_plain (w ∷ ws) p = plain_cons 32 w refl p.0 ⊕ behind_plain ws p.1

words_title : (ws : List (List ℕ)) → AllPlain ws → IsPlain (title_of ws)
unfolding title_of
words_title [] p = lit refl
words_title (a ∷ []) p = lit refl
words_title (a ∷ b ∷ ws) p = p.1.0 ⊕ behind_plain ws p.1.1

class_plain : (class : Class) → IsPlain (class_name class)
class_plain Late = lit refl
class_plain Early = lit refl
class_plain Unfinished = lit refl
class_plain Other = lit refl
class_plain Refused = lit refl
class_plain Repeated = lit refl
class_plain Command = lit refl
class_plain NoData = lit refl

looks_plain : (look : Look) (up : Bool) (a : Area) (ws : List (List ℕ)) → AllPlain ws → IsPlain (looks_text look up a ws)
looks_plain Shown up a ws p = rect_plain (shown_name up) a (plain_if up _ _ (lit refl) (lit refl))
looks_plain Missing up a ws p = lit refl
looks_plain (Why class silent) up a ws p =
    titled_plain (class_name class) a (title_of ws) (class_plain class) (words_title ws p) ⊕ plain_if silent _ [] (hatched_plain a) (lit refl)

pub line_plain : (s : Span) (es : List Endpoint) (line : List ℕ) → is_text line ≡ true → IsPlain (line_text s es line)
unfolding line_text
line_plain s es line e = go (cell_of es (words_of line))
  where
    go : (o : Option Cell) → IsPlain (drawn_of s es o (words_of line))
    go None = lit refl
    go (Some c) = plain_if (is_in s c.at) _ [] (looks_plain c.look c.up (area_of s es c) (words_of line) (words_plain line e)) (lit refl)

-- each line of these is text
abbrev pub AreText : List (List ℕ) → Type 0
AreText [] = Unit {0}
AreText (line ∷ lines) = (is_text line ≡ true) × AreText lines

drawn_plain : (s : Span) (es : List Endpoint) (lines : List (List ℕ)) → AreText lines → IsPlain (flat_map (line_text s es) lines)
drawn_plain s es [] p = lit refl
drawn_plain s es (line ∷ lines) p = line_plain s es line p.0 ⊕ drawn_plain s es lines p.1

pub grid_plain : (s : Span) (es : List Endpoint) (text : List ℕ) → AreNamed es → AreText (parts_of text) → IsPlain (grid_picture s es text)
unfolding grid_picture cells_text
grid_plain s es text named lines = head_plain s es named ⊕ drawn_plain s es (parts_of text) lines ⊕ foot_plain es
