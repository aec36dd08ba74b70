-- What is kept of one event more.
use Rattle.std.proofs.Common.{◌≡◌, ℕ, suc, ◌+◌, ℤ, Bool, true, false, List, [], ◌∷◌, ◌++◌, Some, None, refl, ap, ◌∙◌, arith, append-nil, true≢false}
use Rattle.air_source.specs.declared.events.AirCell.{AirCell}
use Rattle.air_source.specs.declared.events.Event.{Event}
use Rattle.air_source.specs.declared.events.Event.TheVariants as event
use Rattle.air_source.specs.declared.events.Side.{Side}
use Rattle.explain_model.specs.Subjects.{added, added_by}
use Rattle.explain_model.specs.declared.values.ExplainLine.{ExplainLine}
use Rattle.explain_model.proofs.GrowLemmas.{entry_one, lines_go_on}
use Rattle.explain_model.proofs.StoryLemmas.{one, stories_both}
use Rattle.explain_model.specs.Cells.{Entry, Lines, Of, closed_in, closed_lines, entries, entries_after, entry_of, open_in, open_run, run_with, word_of}
use Rattle.explain_model.specs.Pieces.{pieces}
use Rattle.explain_model.specs.Stories.{Story, Came, Cell, Delay, arrival_count, arrival_with, stories, stories_in, story, told, told_after, told_of}
use Rattle.fh_base.specs.declared.values.Ticks.{Ticks}
use Rattle.unit_model.specs.Heard.{arrivals_heard}
use Rattle.window_config.specs.declared.config.Config.{Config}

-- ---- lines

-- by an entry
closed_by : (es : List Entry) (x : Entry) → closed_in (es ++ x ∷ []) ≡ closed_in es ++ added_by (open_in es) x
closed_by es (Lines ls) = lines_go_on.on_lines es ls
closed_by es (Of a w) = lines_go_on.on_cell es a w

-- one more event adds its lines to those that no further event changes
pub closed_more : (c : Config) (events : List Event) (e : Event) → closed_lines c (events ++ e ∷ []) ≡ closed_lines c events ++ added c events e
closed_more c events e = ap closed_in (entry_one c events e) ∙ closed_by (entries c events) (entry_of c (told c events) (told_of c events e))

pub cell_run : (c : Config) (events : List Event) (a : AirCell) → open_run c (events ++ event.Cell a ∷ []) ≡ Some (run_with (open_run c events) a (word_of (told c events) a))
cell_run c events a = ap open_in (entry_one c events (event.Cell a)) ∙ lines_go_on.one_run (entries c events) a (word_of (told c events) a)

pub no_run : (c : Config) (events : List Event) (e : Event) (ls : List ExplainLine) → entry_of c (told c events) (told_of c events e) ≡ Lines ls → open_run c (events ++ e ∷ []) ≡ None
no_run c events e ls is =
    ap open_in (entry_one c events e) ∙ ap (λ (x : Entry). open_in (entries c events ++ x ∷ [])) is ∙ lines_go_on.no_run (entries c events) ls

-- ---- arrivals

abbrev is_arrival : Event → Bool
is_arrival (event.Arrival side at frame) = true
is_arrival _ = false

-- what is told of an arrival after these events
abbrev pub story_after : Config → List Event → Side → Ticks → List ℕ → Story
story_after c events side at frame = story c (suc (arrival_count events)) side (arrivals_heard side [] events) (arrival_with at.0 frame)

pub count_both : (xs ys : List Event) → arrival_count (xs ++ ys) ≡ arrival_count xs + arrival_count ys
unfolding arrival_count
count_both [] ys = omega arith
count_both (event.Arrival side at frame ∷ xs) ys = omega (arith, count_both xs ys)
count_both (event.Cell a ∷ xs) ys = count_both xs ys
count_both (event.Delay at side id value ∷ xs) ys = count_both xs ys
count_both (event.Count side counter value ∷ xs) ys = count_both xs ys

pub stories_more : (c : Config) (events : List Event) (e : Event) → stories c (events ++ e ∷ []) ≡ stories c events ++ stories_in (told_of c events e ∷ [])
stories_more c events e = ap stories_in (one c events e) ∙ stories_both (told c events) (told_of c events e ∷ [])

no_cell : (a : AirCell) → stories_in (Cell a ∷ []) ≡ []
unfolding stories_in
no_cell a = refl

no_delay : (at : ℤ) (side : Side) (id : ℕ) (value : ℤ) → stories_in (Delay at side id value ∷ []) ≡ []
unfolding stories_in
no_delay at side id value = refl

one_came : (s : Story) → stories_in (Came s ∷ []) ≡ s ∷ []
unfolding stories_in
one_came s = refl

-- of a cell, of a delay and of an arrival
pub cell_stories : (c : Config) (events : List Event) (a : AirCell) → stories c (events ++ event.Cell a ∷ []) ≡ stories c events
cell_stories c events a = stories_more c events (event.Cell a) ∙ ap (λ (l : List Story). stories c events ++ l) (no_cell a) ∙ append-nil (stories c events)

pub delay_stories : (c : Config) (events : List Event) (at : Ticks) (side : Side) (id : ℕ) (value : ℤ) → stories c (events ++ event.Delay at side id value ∷ []) ≡ stories c events
delay_stories c events at side id value =
    stories_more c events (event.Delay at side id value) ∙ ap (λ (l : List Story). stories c events ++ l) (no_delay at.0 side id value) ∙ append-nil (stories c events)

pub arrival_stories : (c : Config) (events : List Event) (side : Side) (at : Ticks) (frame : List ℕ)
    → stories c (events ++ event.Arrival side at frame ∷ []) ≡ stories c events ++ story_after c events side at frame ∷ []
arrival_stories c events side at frame =
    stories_more c events (event.Arrival side at frame) ∙ ap (λ (l : List Story). stories c events ++ l) (one_came (story_after c events side at frame))

no_count : (e : Event) → is_arrival e ≡ false → arrival_count (e ∷ []) ≡ 0
unfolding arrival_count
no_count (event.Arrival side at frame) h = absurd (true≢false h)
no_count (event.Cell a) h = refl
no_count (event.Delay at side id value) h = refl
no_count (event.Count side counter value) h = refl

one_count : (side : Side) (at : Ticks) (frame : List ℕ) → arrival_count (event.Arrival side at frame ∷ []) ≡ 1
unfolding arrival_count
one_count side at frame = refl

pub count_none : (events : List Event) (e : Event) → is_arrival e ≡ false → arrival_count (events ++ e ∷ []) ≡ arrival_count events
count_none events e h = omega (arith, count_both events (e ∷ []), no_count e h)

pub count_one : (events : List Event) (side : Side) (at : Ticks) (frame : List ℕ) → arrival_count (events ++ event.Arrival side at frame ∷ []) ≡ suc (arrival_count events)
count_one events side at frame = omega (arith, count_both events (event.Arrival side at frame ∷ []), one_count side at frame)

-- ---- before the first event

pub none_counted : arrival_count [] ≡ 0
unfolding arrival_count
none_counted = refl

pub no_stories : (c : Config) → stories c [] ≡ []
unfolding told_after stories_in
no_stories c = refl

pub none_closed : (c : Config) → closed_lines c [] ≡ []
unfolding told_after entries_after pieces closed_in
none_closed c = refl

pub none_open : (c : Config) → open_run c [] ≡ None
unfolding told_after entries_after pieces open_in
none_open c = refl
