-- The summary by a state is that of the complete list of events, where counters are last.
use Rattle.std.proofs.Common.{◌≡◌, ℕ, ℤ, Bool, false, cond, List, [], ◌∷◌, ◌++◌, refl, sym, ap, ◌∙◌, append_assoc, append-nil, map}
use Rattle.std.specs.List.{fold, AllByRecursion}
use Rattle.std.proofs.lemmas.Grind.{flat_map-append}
use Rattle.std.proofs.lemmas.List.Concat.{flat_map-cons}
use Rattle.circular_buffer.specs.Buffer.{keep_last}
use Rattle.air_source.specs.declared.events.Event.{Event}
use Rattle.air_source.specs.declared.events.Event.TheVariants.{Cell, Delay, Arrival, Count}
use Rattle.air_source.specs.declared.events.Side.{Side}
use Rattle.air_source.specs.declared.events.Side.TheVariants.{Ru, Du}
use Rattle.air_source.specs.Moves.{state_after, given_by}
use Rattle.air_source.specs.MovesLaws.{state_after-append, given_by-append}
use Rattle.air_source.specs.UnitLines.{count_text}
use Rattle.report_airs.specs.Results.{delays_text}
use Rattle.report_airs.specs.Summary.{cell_in, cells_in, cells_text, result_in, results_in, measured_text, count_in, counts_text, end_text, whole_summary}
use Rattle.report_airs.specs.SumStates.{SumState}
use Rattle.report_airs.specs.States.{sum_start, sum_next, sum_gives, sum_ends, closing_text, delay_lines, after_closing, run_line, ended_by, after_cell, one_more}
use Rattle.report_airs.proofs.Cut.{lines_by, lines_are}
use Rattle.report_airs.proofs.Kept.{kept}
use Rattle.air_source.specs.declared.events.AirCell.{AirCell}

-- an event before the counters, and a counter
abbrev pub IsEarlier : Event → Type 0
IsEarlier (Cell c) = Unit {0}
IsEarlier (Delay at side id value) = Unit {0}
IsEarlier (Arrival side at frame) = Unit {0}
IsEarlier (Count side counter value) = ⊥

abbrev pub IsCount : Event → Type 0
IsCount (Cell c) = ⊥
IsCount (Delay at side id value) = ⊥
IsCount (Arrival side at frame) = ⊥
IsCount (Count side counter value) = Unit {0}

-- the counters are after all other events
pub record CountsLast (events : List Event) : Type 0 where
  pub before : List Event
  pub counts : List Event
  pub is : events ≡ before ++ counts
  pub earlier : AllByRecursion IsEarlier before
  pub last : AllByRecursion IsCount counts

-- the bytes and the state of events, from a state
abbrev bytes_from : SumState → List Event → List ℕ
bytes_from s events = given_by sum_next sum_gives s events

abbrev after : SumState → List Event → SumState
after s events = state_after sum_next s events

-- ---- the counters

counters : (s : SumState) (counts : List Event) → AllByRecursion IsCount counts → bytes_from s counts ++ closing_text (after s counts) ≡ closing_text s ++ counts_text counts
counters s [] h = sym (append-nil (closing_text s))
counters s (Cell c ∷ counts) h = absurd h.0
counters s (Delay at side id value ∷ counts) h = absurd h.0
counters s (Arrival side at frame ∷ counts) h = absurd h.0
counters s (Count side counter value ∷ counts) h =
    let line = count_text side counter value in
    let t = after_closing s in
    append_assoc (closing_text s ++ line) (bytes_from t counts) (closing_text (after t counts))
    ∙ ap (λ bytes. (closing_text s ++ line) ++ bytes) (counters t counts h.1)
    ∙ append_assoc (closing_text s) line (counts_text counts)
    ∙ ap (λ bytes. closing_text s ++ bytes) (sym (flat_map-cons count_in (Count side counter value) counts))

-- ---- the events before them

-- the lines of the cells, and that of the run that is open at the end
cells_first : (s : SumState) (events : List Event) → AllByRecursion IsEarlier events → bytes_from s events ++ run_line (after s events).run ≡ lines_by s.run (cells_in events)
unfolding lines_by
cells_first s [] h = refl
cells_first s (Cell c ∷ events) h =
    append_assoc (run_line (ended_by s c)) (bytes_from (after_cell s c) events) (run_line (after (after_cell s c) events).run)
    ∙ ap (λ bytes. run_line (ended_by s c) ++ bytes) (cells_first (after_cell s c) events h.1)
    ∙ ap (lines_by s.run) (sym (flat_map-cons cell_in (Cell c) events))
cells_first s (Delay at Du id value ∷ events) h = cells_first (sum_next s (Delay at Du id value)) events h.1 ∙ ap (lines_by s.run) (sym (flat_map-cons cell_in (Delay at Du id value) events))
cells_first s (Delay at Ru id value ∷ events) h = cells_first (sum_next s (Delay at Ru id value)) events h.1 ∙ ap (lines_by s.run) (sym (flat_map-cons cell_in (Delay at Ru id value) events))
cells_first s (Arrival side at frame ∷ events) h = cells_first s events h.1 ∙ ap (lines_by s.run) (sym (flat_map-cons cell_in (Arrival side at frame) events))
cells_first s (Count side counter value ∷ events) h = absurd h.0

-- the lines of the delays stay unwritten
untold : (s : SumState) (events : List Event) → AllByRecursion IsEarlier events → (after s events).told ≡ s.told
untold s [] h = refl
untold s (Cell c ∷ events) h = untold (after_cell s c) events h.1
untold s (Delay at Du id value ∷ events) h = untold (sum_next s (Delay at Du id value)) events h.1
untold s (Delay at Ru id value ∷ events) h = untold (sum_next s (Delay at Ru id value)) events h.1
untold s (Arrival side at frame ∷ events) h = untold s events h.1
untold s (Count side counter value ∷ events) h = absurd h.0

-- the results of each unit are given one by one
du_results : (s : SumState) (events : List Event) → AllByRecursion IsEarlier events → (after s events).du ≡ fold one_more s.du (results_in Du events)
du_results s [] h = refl
du_results s (Cell c ∷ events) h = du_results (after_cell s c) events h.1 ∙ ap (fold one_more s.du) (sym (flat_map-cons (result_in Du) (Cell c) events))
du_results s (Delay at Du id value ∷ events) h = du_results (sum_next s (Delay at Du id value)) events h.1 ∙ ap (fold one_more s.du) (sym (flat_map-cons (result_in Du) (Delay at Du id value) events))
du_results s (Delay at Ru id value ∷ events) h = du_results (sum_next s (Delay at Ru id value)) events h.1 ∙ ap (fold one_more s.du) (sym (flat_map-cons (result_in Du) (Delay at Ru id value) events))
du_results s (Arrival side at frame ∷ events) h = du_results s events h.1 ∙ ap (fold one_more s.du) (sym (flat_map-cons (result_in Du) (Arrival side at frame) events))
du_results s (Count side counter value ∷ events) h = absurd h.0

ru_results : (s : SumState) (events : List Event) → AllByRecursion IsEarlier events → (after s events).ru ≡ fold one_more s.ru (results_in Ru events)
ru_results s [] h = refl
ru_results s (Cell c ∷ events) h = ru_results (after_cell s c) events h.1 ∙ ap (fold one_more s.ru) (sym (flat_map-cons (result_in Ru) (Cell c) events))
ru_results s (Delay at Du id value ∷ events) h = ru_results (sum_next s (Delay at Du id value)) events h.1 ∙ ap (fold one_more s.ru) (sym (flat_map-cons (result_in Ru) (Delay at Du id value) events))
ru_results s (Delay at Ru id value ∷ events) h = ru_results (sum_next s (Delay at Ru id value)) events h.1 ∙ ap (fold one_more s.ru) (sym (flat_map-cons (result_in Ru) (Delay at Ru id value) events))
ru_results s (Arrival side at frame ∷ events) h = ru_results s events h.1 ∙ ap (fold one_more s.ru) (sym (flat_map-cons (result_in Ru) (Arrival side at frame) events))
ru_results s (Count side counter value ∷ events) h = absurd h.0

-- the lines of the delays, where they are not written yet
delays_are : (s : SumState) (b : Bool) (du ru : List ℤ) → s.told ≡ b → s.du ≡ du → s.ru ≡ ru → delay_lines s ≡ cond b [] (delays_text Du du ++ delays_text Ru ru)
delays_are s b du ru told is as_is =
    ap (λ v. cond v [] (delays_text Du s.du ++ delays_text Ru s.ru)) told
    ∙ ap (λ zs. cond b [] (delays_text Du zs ++ delays_text Ru s.ru)) is
    ∙ ap (λ zs. cond b [] (delays_text Du du ++ delays_text Ru zs)) as_is

measured : (events : List Event) → AllByRecursion IsEarlier events → delay_lines (after sum_start events) ≡ measured_text events
measured events h =
    delays_are (after sum_start events) false (keep_last 16 (results_in Du events)) (keep_last 16 (results_in Ru events)) (untold sum_start events h)
    (du_results sum_start events h ∙ kept (results_in Du events)) (ru_results sum_start events h ∙ kept (results_in Ru events))

-- all that is written before the counters
earlier : (events : List Event) → AllByRecursion IsEarlier events → bytes_from sum_start events ++ closing_text (after sum_start events) ≡ cells_text (cells_in events) ++ measured_text events
earlier events h =
    let s = after sum_start events in
    sym (append_assoc (bytes_from sum_start events) (run_line s.run) (delay_lines s))
    ∙ ap (λ bytes. bytes ++ delay_lines s) (cells_first sum_start events h ∙ lines_are (cells_in events))
    ∙ ap (λ bytes. cells_text (cells_in events) ++ bytes) (measured events h)

-- ---- what counters add to none of the lists, and earlier events to no counters

no_cells : (counts : List Event) → AllByRecursion IsCount counts → cells_in counts ≡ []
no_cells [] h = refl
no_cells (Cell c ∷ counts) h = absurd h.0
no_cells (Delay at side id value ∷ counts) h = absurd h.0
no_cells (Arrival side at frame ∷ counts) h = absurd h.0
no_cells (Count side counter value ∷ counts) h = flat_map-cons cell_in (Count side counter value) counts ∙ no_cells counts h.1

no_results : (unit : Side) (counts : List Event) → AllByRecursion IsCount counts → results_in unit counts ≡ []
no_results unit [] h = refl
no_results unit (Cell c ∷ counts) h = absurd h.0
no_results unit (Delay at side id value ∷ counts) h = absurd h.0
no_results unit (Arrival side at frame ∷ counts) h = absurd h.0
no_results unit (Count side counter value ∷ counts) h = flat_map-cons (result_in unit) (Count side counter value) counts ∙ no_results unit counts h.1

no_counts : (events : List Event) → AllByRecursion IsEarlier events → counts_text events ≡ []
no_counts [] h = refl
no_counts (Cell c ∷ events) h = flat_map-cons count_in (Cell c) events ∙ no_counts events h.1
no_counts (Delay at side id value ∷ events) h = flat_map-cons count_in (Delay at side id value) events ∙ no_counts events h.1
no_counts (Arrival side at frame ∷ events) h = flat_map-cons count_in (Arrival side at frame) events ∙ no_counts events h.1
no_counts (Count side counter value ∷ events) h = absurd h.0

cells_are : (before counts : List Event) → AllByRecursion IsCount counts → cells_in (before ++ counts) ≡ cells_in before
cells_are before counts h = flat_map-append cell_in before counts ∙ ap (λ cs. cells_in before ++ cs) (no_cells counts h) ∙ append-nil (cells_in before)

results_are : (unit : Side) (before counts : List Event) → AllByRecursion IsCount counts → results_in unit (before ++ counts) ≡ results_in unit before
results_are unit before counts h = flat_map-append (result_in unit) before counts ∙ ap (λ zs. results_in unit before ++ zs) (no_results unit counts h) ∙ append-nil (results_in unit before)

counts_are : (before counts : List Event) → AllByRecursion IsEarlier before → counts_text (before ++ counts) ≡ counts_text counts
counts_are before counts h = flat_map-append count_in before counts ∙ ap (λ bytes. bytes ++ counts_text counts) (no_counts before h)

measured_are : (before counts : List Event) → AllByRecursion IsCount counts → measured_text (before ++ counts) ≡ measured_text before
measured_are before counts h =
    ap (λ zs. delays_text Du (keep_last 16 zs) ++ delays_text Ru (keep_last 16 (results_in Ru (before ++ counts)))) (results_are Du before counts h)
    ∙ ap (λ zs. delays_text Du (keep_last 16 (results_in Du before)) ++ delays_text Ru (keep_last 16 zs)) (results_are Ru before counts h)

-- the parts of the summary of both
parts : (before counts : List Event) → AllByRecursion IsEarlier before → AllByRecursion IsCount counts
    → whole_summary (before ++ counts) ≡ cells_text (cells_in before) ++ measured_text before ++ counts_text counts ++ end_text
unfolding whole_summary
parts before counts h k =
    ap (λ cs. cells_text cs ++ measured_text (before ++ counts) ++ counts_text (before ++ counts) ++ end_text) (cells_are before counts k)
    ∙ ap (λ m. cells_text (cells_in before) ++ m ++ counts_text (before ++ counts) ++ end_text) (measured_are before counts k)
    ∙ ap (λ n. cells_text (cells_in before) ++ measured_text before ++ n ++ end_text) (counts_are before counts h)

-- the text by a state of both
by_state : (before counts : List Event) → AllByRecursion IsEarlier before → AllByRecursion IsCount counts
    → bytes_from sum_start (before ++ counts) ++ sum_ends (after sum_start (before ++ counts)) ≡ cells_text (cells_in before) ++ measured_text before ++ counts_text counts ++ end_text
by_state before counts h k =
    let s = after sum_start before in
    let t = after s counts in
    let first = bytes_from sum_start before in
    let second = bytes_from s counts in
    ap (λ bytes. bytes ++ sum_ends (after sum_start (before ++ counts))) (sym (given_by-append sum_next sum_gives sum_start before counts))
    ∙ ap (λ u. (first ++ second) ++ sum_ends u) (sym (state_after-append sum_next sum_start before counts))
    ∙ sym (append_assoc (first ++ second) (closing_text t) end_text)
    ∙ ap (λ bytes. bytes ++ end_text) (append_assoc first second (closing_text t))
    ∙ ap (λ bytes. (first ++ bytes) ++ end_text) (counters s counts k)
    ∙ ap (λ bytes. bytes ++ end_text) (sym (append_assoc first (closing_text s) (counts_text counts)))
    ∙ ap (λ bytes. (bytes ++ counts_text counts) ++ end_text) (earlier before h)

-- the law: where counters are last, both are one text
pub summary_is : (events : List Event) → CountsLast events → given_by sum_next sum_gives sum_start events ++ sum_ends (state_after sum_next sum_start events) ≡ whole_summary events
summary_is events l =
    ap (λ es. bytes_from sum_start es ++ sum_ends (after sum_start es)) l.is
    ∙ by_state l.before l.counts l.earlier l.last
    ∙ sym (parts l.before l.counts l.earlier l.last)
    ∙ ap whole_summary (sym l.is)

-- cells tell no counter
pub cells_earlier : (cells : List AirCell) → AllByRecursion IsEarlier (map Cell cells)
cells_earlier [] = tt
cells_earlier (c ∷ cells) = (tt, cells_earlier cells)
