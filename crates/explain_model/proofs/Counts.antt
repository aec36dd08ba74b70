-- A counter adds nothing to the lines but its own.
use Rattle.std.proofs.Common.{◌≡◌, ℕ, Bool, true, false, ◌||◌, List, [], ◌∷◌, ◌++◌, filter, length, refl, sym, ap, ap₂, ◌∙◌, append_assoc, append-nil, true≢false}
use Rattle.std.proofs.lemmas.Bool.{and_parts}
use Rattle.std.specs.List.{flat_map}
use Rattle.std.proofs.lemmas.List.Elements.{filter-append}
use Rattle.std.proofs.lemmas.List.Concat.{flat_map-append}
use Rattle.air_source.specs.declared.events.Event.{Event}
use Rattle.air_source.specs.declared.events.Event.TheVariants as event
use Rattle.air_source.specs.declared.events.Side.{Side}
use Rattle.air_source.specs.declared.events.Side.TheVariants.{Ru, Du}
use Rattle.explain_model.specs.Subjects.{are_counts, counts_last, has_count, is_count, Subject, reason_lines}
use Rattle.explain_model.specs.declared.values.ExplainLine.{ExplainLine}
use Rattle.explain_model.proofs.GrowLemmas.{entry_one, lines_go_on}
use Rattle.explain_model.proofs.StoryLemmas.{one, stories_both}
use Rattle.explain_model.specs.Cells.{Lines, closed_in, entries, event_lines, lines_in, open_in, run_lines}
use Rattle.explain_model.specs.Margins.{dated, dated_in, margin_lines, margins_at}
use Rattle.explain_model.specs.Stories.{Story, Count, stories, stories_in, told}
use Rattle.explain_model.specs.Text.{Reasoned, count_line, count_lines, is_shown, shown_by, shown_count}
use Rattle.explain_model.specs.Missing.{missing_cells, missing_lines}
use Rattle.explain_model.specs.SilentReasons.{kept_of}
use Rattle.explain_model.specs.Seen.{Seen, seen, seen_of}
use Rattle.explain_model.specs.Silent.{silent_lines_of, silent_symbols}
use Rattle.explain_model.specs.Sums.{sums_of}
use Rattle.explain_model.specs.Unused.{unused_lines_of, unused_symbols}
use Rattle.fault_counters.specs.declared.kinds.Counter.{Counter}
use Rattle.plan_model.specs.Lines.{planned}
use Rattle.window_config.specs.declared.config.Config.{Config}
use Rattle.window_config.specs.declared.endpoints.EndpointConfig.{EndpointConfig}
use Rattle.fh_base.proofs.Orders.{neither as or_parts}

-- ---- the lines after the last event, by what they look at

abbrev reasoned_by : Subject → List Story → List Seen → Reasoned
reasoned_by s ss cells =
    let all = kept_of s.config ss in
    let missing = missing_cells s.config all cells in
    let silent = silent_symbols all.commanded cells s.numbers (planned s.config.endpoints s.plan) in
    record {
      whys = missing_lines missing ++ (silent_lines_of silent ++ unused_lines_of (unused_symbols s.config.endpoints all.given cells));
      sums = sums_of missing silent;
    }

abbrev sum_line_by : Reasoned → Side → (Side → ℕ → ℕ) → EndpointConfig → List ExplainLine
sum_line_by r side shown e = shown_by side e.id (shown side e.id) ++ r.sums side e

abbrev sums_by : Config → Reasoned → (Side → ℕ → ℕ) → List ExplainLine
sums_by c r shown = flat_map (sum_line_by r Ru shown) c.endpoints ++ flat_map (sum_line_by r Du shown) c.endpoints

abbrev margins_by : Config → List Story → List ExplainLine
margins_by c ss = margins_at Ru c.endpoints (flat_map (dated_in Ru c.delays) ss) ++ margins_at Du c.endpoints (flat_map (dated_in Du c.delays) ss)

abbrev last_by : Subject → List Story → List Seen → (Side → ℕ → ℕ) → List ExplainLine
last_by s ss cells shown = (reasoned_by s ss cells).whys ++ (margins_by s.config ss ++ sums_by s.config (reasoned_by s ss cells) shown)

last_is : (s : Subject) (events : List Event) → reason_lines s events ≡ last_by s (stories s.config events) (seen events) (λ side id. shown_count side id events)
unfolding margin_lines dated
last_is s events = refl

-- ---- one counter more

pub seen_both : (xs ys : List Event) → seen (xs ++ ys) ≡ seen xs ++ seen ys
unfolding seen
seen_both [] ys = refl
seen_both (event.Cell a ∷ xs) ys = ap (λ (l : List Seen). seen_of a ∷ l) (seen_both xs ys)
seen_both (event.Arrival side at frame ∷ xs) ys = seen_both xs ys
seen_both (event.Delay at side id value ∷ xs) ys = seen_both xs ys
seen_both (event.Count side counter value ∷ xs) ys = seen_both xs ys

module _ (c : Config) (events : List Event) (side : Side) (k : Counter) (value : ℕ) where
  abbrev x : Event
  x = event.Count side k value

  no_story : stories_in (Count side k value ∷ []) ≡ []
  unfolding stories_in
  no_story = refl

  no_seen : seen (x ∷ []) ≡ []
  unfolding seen
  no_seen = refl

  same_stories : stories c (events ++ x ∷ []) ≡ stories c events
  same_stories =
      ap stories_in (one c events x) ∙ stories_both (told c events) (Count side k value ∷ [])
      ∙ ap (λ (l : List Story). stories c events ++ l) no_story ∙ append-nil (stories c events)

  same_seen : seen (events ++ x ∷ []) ≡ seen events
  same_seen = seen_both events (x ∷ []) ∙ ap (λ (l : List Seen). seen events ++ l) no_seen ∙ append-nil (seen events)

  same_shown : (of : Side) (id : ℕ) → shown_count of id (events ++ x ∷ []) ≡ shown_count of id events
  unfolding shown_count
  same_shown of id = ap length (filter-append (is_shown of id) events (x ∷ []) ∙ append-nil (filter (is_shown of id) events))

  same_lines : event_lines c (events ++ x ∷ []) ≡ event_lines c events
  same_lines =
      let es = entries c events in
      ap lines_in (entry_one c events x)
      ∙ lines_go_on.all (es ++ Lines [] ∷ [])
      ∙ ap₂ (λ (a b : List ExplainLine). a ++ b) (lines_go_on.on_lines es []) (ap run_lines (lines_go_on.no_run es []))
      ∙ append-nil (closed_in es ++ (run_lines (open_in es) ++ []))
      ∙ ap (λ (l : List ExplainLine). closed_in es ++ l) (append-nil (run_lines (open_in es)))
      ∙ sym (lines_go_on.all es)

same_last : (s : Subject) (events : List Event) (side : Side) (k : Counter) (value : ℕ) → reason_lines s (events ++ event.Count side k value ∷ []) ≡ reason_lines s events
same_last s events side k value =
    last_is s (events ++ event.Count side k value ∷ [])
    ∙ (λ i. last_by s (same_stories s.config events side k value i) (same_seen s.config events side k value i) (λ of id. same_shown s.config events side k value of id i))
    ∙ sym (last_is s events)

-- ---- counters more

pub lines_stay : (c : Config) (xs ys : List Event) → are_counts ys ≡ true → event_lines c (xs ++ ys) ≡ event_lines c xs
lines_stay c xs [] h = ap (event_lines c) (append-nil xs)
lines_stay c xs (event.Count side k value ∷ ys) h =
    ap (event_lines c) (sym (append_assoc xs (event.Count side k value ∷ []) ys))
    ∙ lines_stay c (xs ++ event.Count side k value ∷ []) ys h ∙ same_lines c xs side k value
lines_stay c xs (event.Cell a ∷ ys) h = absurd (true≢false (sym h))
lines_stay c xs (event.Arrival side at frame ∷ ys) h = absurd (true≢false (sym h))
lines_stay c xs (event.Delay at side id value ∷ ys) h = absurd (true≢false (sym h))

pub last_stay : (s : Subject) (xs ys : List Event) → are_counts ys ≡ true → reason_lines s (xs ++ ys) ≡ reason_lines s xs
last_stay s xs [] h = ap (reason_lines s) (append-nil xs)
last_stay s xs (event.Count side k value ∷ ys) h =
    ap (reason_lines s) (sym (append_assoc xs (event.Count side k value ∷ []) ys))
    ∙ last_stay s (xs ++ event.Count side k value ∷ []) ys h ∙ same_last s xs side k value
last_stay s xs (event.Cell a ∷ ys) h = absurd (true≢false (sym h))
last_stay s xs (event.Arrival side at frame ∷ ys) h = absurd (true≢false (sym h))
last_stay s xs (event.Delay at side id value ∷ ys) h = absurd (true≢false (sym h))

-- ---- counters are last

all_behind : (xs : List Event) (e : Event) (ys : List Event) → are_counts (xs ++ e ∷ ys) ≡ true → are_counts ys ≡ true
all_behind [] e ys h = (and_parts (is_count e) (are_counts ys) h).1
all_behind (x ∷ xs) e ys h = all_behind xs e ys (and_parts (is_count x) (are_counts (xs ++ e ∷ ys)) h).1

all_at : (xs : List Event) (e : Event) (ys : List Event) → are_counts (xs ++ e ∷ ys) ≡ true → is_count e ≡ true
all_at [] e ys h = (and_parts (is_count e) (are_counts ys) h).0
all_at (x ∷ xs) e ys h = all_at xs e ys (and_parts (is_count x) (are_counts (xs ++ e ∷ ys)) h).1

some_by : (b : Bool) {c : Bool} → c ≡ true → (b || c) ≡ true
some_by true h = refl
some_by false h = h

-- after a counter there are counters alone
pub behind_count : (xs : List Event) (e : Event) (ys : List Event) → counts_last (xs ++ e ∷ ys) ≡ true → is_count e ≡ true → are_counts ys ≡ true
unfolding counts_last
behind_count [] e ys h is = rw is at h
behind_count (event.Count side k value ∷ xs) e ys h is = all_behind xs e ys h
behind_count (event.Cell a ∷ xs) e ys h is = behind_count xs e ys h is
behind_count (event.Arrival side at frame ∷ xs) e ys h is = behind_count xs e ys h is
behind_count (event.Delay at side id value ∷ xs) e ys h is = behind_count xs e ys h is

-- where there is one before it, an event is a counter, and what follows too
pub behind_some : (xs : List Event) (e : Event) (ys : List Event) → counts_last (xs ++ e ∷ ys) ≡ true → has_count xs ≡ true → (is_count e ≡ true) × (are_counts ys ≡ true)
unfolding counts_last
behind_some [] e ys h some = absurd (true≢false (sym some))
behind_some (event.Count side k value ∷ xs) e ys h some = (all_at xs e ys h, all_behind xs e ys h)
behind_some (event.Cell a ∷ xs) e ys h some = behind_some xs e ys h some
behind_some (event.Arrival side at frame ∷ xs) e ys h some = behind_some xs e ys h some
behind_some (event.Delay at side id value ∷ xs) e ys h some = behind_some xs e ys h some

-- ---- their lines

pub no_count_lines : (events : List Event) → has_count events ≡ false → count_lines events ≡ []
no_count_lines [] h = refl
no_count_lines (event.Count side k value ∷ es) h = absurd (true≢false h)
no_count_lines (event.Cell a ∷ es) h = no_count_lines es h
no_count_lines (event.Arrival side at frame ∷ es) h = no_count_lines es h
no_count_lines (event.Delay at side id value ∷ es) h = no_count_lines es h

pub count_lines_both : (xs ys : List Event) → count_lines (xs ++ ys) ≡ count_lines xs ++ count_lines ys
count_lines_both xs ys = flat_map-append count_line xs ys

pub no_count_more : (xs : List Event) (e : Event) → has_count xs ≡ false → is_count e ≡ false → has_count (xs ++ e ∷ []) ≡ false
no_count_more [] e h is = rw is refl
no_count_more (x ∷ xs) e h is = rw ((or_parts (is_count x) (has_count xs) h).0) (no_count_more xs e ((or_parts (is_count x) (has_count xs) h).1) is)

pub some_more : (xs : List Event) (side : Side) (k : Counter) (value : ℕ) → has_count (xs ++ event.Count side k value ∷ []) ≡ true
some_more [] side k value = refl
some_more (x ∷ xs) side k value = some_by (is_count x) (some_more xs side k value)
