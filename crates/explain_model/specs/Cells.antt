-- The cells in the order of events, and the runs that they form (this project's profile).
use Rattle.std.specs.Prelude.{◌≡◌, ℕ, ◌+◌, ◌==◌, Bool, true, false, ◌&&◌, ◌||◌, if◌then◌else◌, List, [], ◌∷◌, ◌++◌, length, Option, Some, None}
use Rattle.std.specs.List.{flat_map}
use Rattle.std.specs.Ordering.{int_eq}
use Rattle.bfp_codec.specs.declared.samples.Wide.{Wide}
use Rattle.air_source.specs.Units.{same_side}
use Rattle.air_source.specs.declared.events.AirCell.{AirCell}
use Rattle.air_source.specs.declared.events.Event.{Event}
use Rattle.window_config.specs.declared.config.Config.{Config}
use Rattle.unit_model.specs.Claims.{same_slot}
use Rattle.unit_model.specs.Judgements.{Judgement}
use Rattle.explain_model.specs.declared.places.PrbRun.{PrbRun}
use Rattle.explain_model.specs.declared.values.CellWord.{CellWord}
use Rattle.explain_model.specs.declared.values.CellWord.TheVariants.{Shown, Missing}
use Rattle.explain_model.specs.declared.values.ExplainLine.{ExplainLine}
use Rattle.explain_model.specs.declared.values.ExplainLine.TheVariants as line
use Rattle.explain_model.specs.Judged.{gives_block, judged_before}
use Rattle.explain_model.specs.Pieces.{closed_pieces, open_piece, pieces}
use Rattle.explain_model.specs.Sections.{story_lines}
use Rattle.explain_model.specs.Stories.{Story, Told, Came, Cell, Delay, Count, stories_in, told, told_of}

-- these are the front of those
pub record IsFrontOf (front all : List ExplainLine) : Type 0 where
  pub back : List ExplainLine
  pub is : all ≡ front ++ back

-- ---- the word of a cell

-- one of these is on a section of data on time that covers the cell
unfoldable pub some_gives : List Judgement → AirCell → Bool
some_gives [] a = false
some_gives (j ∷ js) a = gives_block j a.id a.slot a.symbol a.prb || some_gives js a

-- the first arrival at the cell's unit that made such a section whole; 0 where there is none
unfoldable pub giver_in : List Story → AirCell → ℕ
giver_in [] a = 0
giver_in (s ∷ later) a = if same_side s.side a.side && some_gives s.judged a then s.number else giver_in later a

abbrev pub word_by : List Told → AirCell → Option (List Wide) → CellWord
word_by earlier a (Some samples) = Shown (giver_in (stories_in earlier) a)
word_by earlier a None = Missing

-- of a cell, where all this was told before
abbrev pub word_of : List Told → AirCell → CellWord
word_of earlier a = word_by earlier a a.block

-- ---- entries: the lines of an event, but of a cell the cell and its word

pub data Entry : Type 0 where
  Lines : List ExplainLine → Entry
  Of : AirCell → CellWord → Entry

-- the counters are after the last event
abbrev pub entry_of : Config → List Told → Told → Entry
entry_of c earlier (Came s) = Lines (story_lines c (judged_before s.side earlier) s)
entry_of c earlier (Cell a) = Of a (word_of earlier a)
entry_of c earlier (Delay at side id value) = Lines (line.Delay (record { 0 = at }) side id value ∷ [])
entry_of c earlier (Count side counter value) = Lines []

unfoldable pub entries_after : Config → List Told → List Told → List Entry
entries_after c earlier [] = []
entries_after c earlier (t ∷ ts) = entry_of c earlier t ∷ entries_after c (earlier ++ t ∷ []) ts

abbrev pub entries : Config → List Event → List Entry
entries c events = entries_after c [] (told c events)

-- ---- runs

abbrev pub same_word : CellWord → CellWord → Bool
same_word (Shown a) (Shown b) = a == b
same_word (Shown a) Missing = false
same_word Missing (Shown b) = false
same_word Missing Missing = true

-- cells that follow one another, with what they have in common
pub record CellRun : Type 0 where
  pub run : PrbRun
  pub mask : ℕ
  pub word : CellWord

-- so many cells from this one on
abbrev pub run_from : AirCell → CellWord → ℕ → CellRun
run_from a w count = record {
  run = record {
    side = a.side;
    at = a.at;
    place = record { id = a.id; slot = a.slot; symbol = a.symbol };
    prb = a.prb;
    num = count;
    section = a.section;
  };
  mask = a.mask;
  word = w;
}

-- in all but the PRB
abbrev pub same_symbol : AirCell → AirCell → Bool
same_symbol a b =
    same_side a.side b.side && (int_eq a.at.0 b.at.0 && ((a.id == b.id) && (same_slot a.slot b.slot
    && ((a.symbol == b.symbol) && ((a.section == b.section) && (a.mask == b.mask))))))

-- the second is the cell after the first in a run
abbrev pub runs_on : Entry → Entry → Bool
runs_on (Of a v) (Of b w) = same_symbol a b && (same_word v w && (a.prb + 1 == b.prb))
runs_on (Of a v) (Lines ls) = false
runs_on (Lines ls) (Of b w) = false
runs_on (Lines ks) (Lines ls) = false

abbrev pub runs : Config → List Event → List (List Entry)
runs c events = pieces runs_on (entries c events)

-- a cell is the next one of a run: it has all that the cells have in common, and its PRB is the one after the last
abbrev pub is_of_run : CellRun → AirCell → Bool
is_of_run r a =
    same_side r.run.side a.side && (int_eq r.run.at.0 a.at.0 && ((r.run.place.id == a.id) && (same_slot r.run.place.slot a.slot
    && ((r.run.place.symbol == a.symbol) && ((r.run.section == a.section) && (r.mask == a.mask))))))

abbrev pub extends : CellRun → AirCell → CellWord → Bool
extends r a w = is_of_run r a && (same_word r.word w && (r.run.prb + r.run.num == a.prb))

-- the run that a piece of cells forms
abbrev pub run_of : List Entry → Option CellRun
run_of [] = None
run_of (Lines ls ∷ rest) = None
run_of (Of a w ∷ rest) = Some (run_from a w (length (Of a w ∷ rest)))

abbrev pub run_lines : Option CellRun → List ExplainLine
run_lines None = []
run_lines (Some r) = line.Cells r.run r.mask r.word ∷ []

-- the lines of a piece where it is no run: it is one entry
abbrev pub settled_lines : List Entry → List ExplainLine
settled_lines [] = []
settled_lines (Lines ls ∷ rest) = ls
settled_lines (Of a w ∷ rest) = []

abbrev pub piece_lines : List Entry → List ExplainLine
piece_lines p = settled_lines p ++ run_lines (run_of p)

-- the lines of entries
unfoldable pub lines_in : List Entry → List ExplainLine
lines_in es = flat_map piece_lines (pieces runs_on es)

-- the lines of all events
abbrev pub event_lines : Config → List Event → List ExplainLine
event_lines c events = lines_in (entries c events)

-- ---- as events follow

-- the lines that no further entry changes
unfoldable pub closed_in : List Entry → List ExplainLine
closed_in es = flat_map piece_lines (closed_pieces (pieces runs_on es)) ++ settled_lines (open_piece (pieces runs_on es))

-- the run that a further cell may make longer
unfoldable pub open_in : List Entry → Option CellRun
open_in es = run_of (open_piece (pieces runs_on es))

abbrev pub closed_lines : Config → List Event → List ExplainLine
closed_lines c events = closed_in (entries c events)

abbrev pub open_run : Config → List Event → Option CellRun
open_run c events = open_in (entries c events)

-- what a cell makes of the run before it: its lines, where the cell is not the next one of it, and the run that it is in
abbrev pub closing_by : Bool → CellRun → List ExplainLine
closing_by goes r = if goes then [] else run_lines (Some r)

abbrev pub closing : Option CellRun → AirCell → CellWord → List ExplainLine
closing None a w = []
closing (Some r) a w = closing_by (extends r a w) r

abbrev pub longer : CellRun → CellRun
longer r = record { run = record r.run { num = r.run.num + 1 }; mask = r.mask; word = r.word }

abbrev pub run_with : Option CellRun → AirCell → CellWord → CellRun
run_with None a w = run_from a w 1
run_with (Some r) a w = if extends r a w then longer r else run_from a w 1

-- ---- laws

pub record LinesGoOn : Type 0 where
  -- one more event adds its entry
  pub one_entry : (c : Config) (events : List Event) (e : Event) → entries c (events ++ e ∷ []) ≡ entries c events ++ entry_of c (told c events) (told_of c events e) ∷ []
  -- all lines are the closed ones and those of the open run
  pub all : (es : List Entry) → lines_in es ≡ closed_in es ++ run_lines (open_in es)
  -- an entry that is no cell closes the run, and has its lines after it
  pub on_lines : (es : List Entry) (ls : List ExplainLine) → closed_in (es ++ Lines ls ∷ []) ≡ closed_in es ++ (run_lines (open_in es) ++ ls)
  pub no_run : (es : List Entry) (ls : List ExplainLine) → open_in (es ++ Lines ls ∷ []) ≡ None
  -- a cell goes on with the run, or closes it and begins another
  pub on_cell : (es : List Entry) (a : AirCell) (w : CellWord) → closed_in (es ++ Of a w ∷ []) ≡ closed_in es ++ closing (open_in es) a w
  pub one_run : (es : List Entry) (a : AirCell) (w : CellWord) → open_in (es ++ Of a w ∷ []) ≡ Some (run_with (open_in es) a w)
  -- what no further entry changes stays in front, whatever entries follow
  pub stays : (es more : List Entry) → IsFrontOf (closed_in es) (closed_in (es ++ more))
