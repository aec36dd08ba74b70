-- The counters of verdicts and cells add up.
use Rattle.std.proofs.Common.{◌≡◌, ℕ, ℤ, pos, zero, suc, ◌+ℤ◌, ◌+◌, ◌<◌, ◌^◌, Bool, true, false, List, [], ◌∷◌, ◌++◌, length, get_or, refl, sym, ap, ◌∙◌, subst, arith}
use Rattle.std.specs.Prelude.{◌==◌, if◌then◌else◌, map, All, Contains, Option, Some, None}
use Rattle.std.specs.Int.{int_gap}
use Rattle.std.specs.List.{flat_map}
use Rattle.std.proofs.lemmas.List.Elements.{All-nil, All-cons, All-append, Contains-append_left, Contains-append_right}
use Rattle.bfp_codec.specs.declared.samples.Wide.{Wide}
use Rattle.air_source.specs.declared.events.AirCell.{AirCell}
use Rattle.air_source.specs.declared.events.Event.{Event}
use Rattle.air_source.specs.declared.events.Event.TheVariants as event
use Rattle.air_source.specs.declared.events.Side.{Side}
use Rattle.air_source.specs.declared.events.Side.TheVariants.{Ru, Du}
use Rattle.fault_counters.specs.Counts.{capped, times}
use Rattle.fault_counters.specs.Names.{all_counters}
use Rattle.fault_counters.specs.declared.kinds.Counter.{Counter}
use Rattle.fault_counters.specs.declared.kinds.Counter.TheVariants as counter
use Rattle.window_config.specs.declared.config.Config.{Config}
use Rattle.window_config.specs.declared.delays.Delays.{Delays}
use Rattle.unit_model.specs.Blocks.{data_verdicts}
use Rattle.unit_model.specs.Commands.{command_verdicts}
use Rattle.unit_model.specs.Counts.{block_counter, cells_counted, commands_counted, data_counted, frames_counted, messages_counted}
use Rattle.unit_model.specs.Meetings.{Arrival}
use Rattle.unit_model.specs.Radiated.{first_clock}
use Rattle.unit_model.specs.Reports.{commands_of, data_of, hold_of, met}
use Rattle.unit_model.specs.declared.decoded.ControlSection.{ControlSection}
use Rattle.unit_model.specs.declared.decoded.UserSection.{UserSection}
use Rattle.unit_model.specs.declared.verdicts.CommandVerdict.{CommandVerdict}
use Rattle.unit_model.specs.declared.verdicts.CommandVerdict.TheVariants as control
use Rattle.unit_model.specs.declared.verdicts.DataVerdict.{DataVerdict}
use Rattle.unit_model.specs.declared.verdicts.DataVerdict.TheVariants as user
use Rattle.unit_laws.specs.Totals.{commands_total, data_total}
use Rattle.unit_laws.proofs.DifferLemmas.{all_kept}
use Rattle.unit_model.proofs.SweepLemmas.{each_tick_related}
use Rattle.unit_laws.proofs.TotalLemmas.{commands_add_up, data_add_up}
use Rattle.replay_laws.specs.Events.{additions_of, arrivals_at, cells_reported_at, count_event, count_events, events, events_at, events_between, number_of}
use Rattle.unit_model.specs.Events.{arrivals_told}
use Rattle.replay_laws.specs.Moments.{all_arrivals, end_of_time, landing_at}
use Rattle.replay_laws.specs.Traffic.{Traffic, landings_at, reported_at}
use Rattle.unit_model.specs.declared.results.DelayResult.{DelayResult}
use Rattle.unit_model.proofs.ToldLemmas.{told_all}
use Rattle.replay_laws.specs.Sums.{IsNumber, SumsAddUp, TellsNumber, UnitAddsUp, cells_total}
use Rattle.replay_laws.proofs.BesideLemmas.{IsBeside, cells-append, commands-append, data-append, frames_beside, meetings_beside, messages_beside}
use Rattle.replay_laws.proofs.OnceLemmas.{cells_are_reported}
use Rattle.fh_base.proofs.Orders.{not_none}

-- ---- each section has one verdict

verdict_each : (d : Delays) (cs : List ControlSection) → length (command_verdicts d cs) ≡ length cs
unfolding command_verdicts
verdict_each d [] = refl
verdict_each d (c ∷ earlier) = omega (arith, verdict_each d earlier)

data_verdict_each : (side : Side) (d : Delays) (ds : List UserSection) → length (data_verdicts side d ds) ≡ length ds
unfolding data_verdicts
data_verdict_each side d [] = refl
data_verdict_each side d (x ∷ earlier) = omega (arith, data_verdict_each side d earlier)

-- ---- verdicts of one kind are beside those of the other, and beside the cells

-- how often the counters of one kind are counted, and no others
record IsOf (cs : List Counter) (commands sections cells : ℕ) : Type 0 where
  commands_are : commands_total cs ≡ commands
  sections_are : data_total cs ≡ sections
  cells_are : cells_total cs ≡ cells

no_sections : (vs : List CommandVerdict) → data_total (commands_counted vs) ≡ 0
no_sections [] = refl
no_sections (control.Mismatch ∷ vs) = omega (arith, no_sections vs)
no_sections (control.Late ∷ vs) = omega (arith, no_sections vs)
no_sections (control.Early ∷ vs) = omega (arith, no_sections vs)
no_sections (control.Range ∷ vs) = omega (arith, no_sections vs)
no_sections (control.Repeat ∷ vs) = omega (arith, no_sections vs)
no_sections (control.Overlap ∷ vs) = omega (arith, no_sections vs)
no_sections (control.Full ∷ vs) = omega (arith, no_sections vs)
no_sections (control.Accepted ∷ vs) = omega (arith, no_sections vs)

no_cells : (vs : List CommandVerdict) → cells_total (commands_counted vs) ≡ 0
no_cells [] = refl
no_cells (control.Mismatch ∷ vs) = omega (arith, no_cells vs)
no_cells (control.Late ∷ vs) = omega (arith, no_cells vs)
no_cells (control.Early ∷ vs) = omega (arith, no_cells vs)
no_cells (control.Range ∷ vs) = omega (arith, no_cells vs)
no_cells (control.Repeat ∷ vs) = omega (arith, no_cells vs)
no_cells (control.Overlap ∷ vs) = omega (arith, no_cells vs)
no_cells (control.Full ∷ vs) = omega (arith, no_cells vs)
no_cells (control.Accepted ∷ vs) = omega (arith, no_cells vs)

no_commands : (vs : List DataVerdict) → commands_total (data_counted vs) ≡ 0
no_commands [] = refl
no_commands (user.Late ∷ vs) = omega (arith, no_commands vs)
no_commands (user.Early ∷ vs) = omega (arith, no_commands vs)
no_commands (user.Repeat ∷ vs) = omega (arith, no_commands vs)
no_commands (user.Taken ∷ vs) = omega (arith, no_commands vs)

no_cells_of_data : (vs : List DataVerdict) → cells_total (data_counted vs) ≡ 0
no_cells_of_data [] = refl
no_cells_of_data (user.Late ∷ vs) = omega (arith, no_cells_of_data vs)
no_cells_of_data (user.Early ∷ vs) = omega (arith, no_cells_of_data vs)
no_cells_of_data (user.Repeat ∷ vs) = omega (arith, no_cells_of_data vs)
no_cells_of_data (user.Taken ∷ vs) = omega (arith, no_cells_of_data vs)

-- one more cell
cell_more : (o : Option (List Wide)) (cs : List Counter) (n : ℕ) → IsOf cs 0 0 n → IsOf (block_counter o ∷ cs) 0 0 (n + 1)
cell_more None cs n is = record {
  commands_are = omega (arith, is.commands_are);
  sections_are = omega (arith, is.sections_are);
  cells_are = omega (arith, is.cells_are);
}
cell_more (Some samples) cs n is = record {
  commands_are = omega (arith, is.commands_are);
  sections_are = omega (arith, is.sections_are);
  cells_are = omega (arith, is.cells_are);
}

cells_alone : (cells : List AirCell) → IsOf (cells_counted cells) 0 0 (length cells)
cells_alone [] = record { commands_are = refl; sections_are = refl; cells_are = refl }
cells_alone (a ∷ rest) =
    let size : length rest + 1 ≡ length (a ∷ rest) = omega arith in
    subst (λ (n : ℕ). IsOf (cells_counted (a ∷ rest)) 0 0 n) size (cell_more a.block (cells_counted rest) (length rest) (cells_alone rest))

beside_all : (cs : List Counter) → IsBeside cs → IsOf cs 0 0 0
beside_all cs is = record { commands_are = is.commands; sections_are = is.sections; cells_are = is.cells }

joins : (a b whole x y : ℕ) → whole ≡ a + b → a ≡ x → b ≡ y → whole ≡ x + y
joins a b whole x y e p q = omega (arith, e, p, q)

both : (xs ys : List Counter) (a b c d e f : ℕ) → IsOf xs a b c → IsOf ys d e f → IsOf (xs ++ ys) (a + d) (b + e) (c + f)
both xs ys a b c d e f p q = record {
  commands_are = joins (commands_total xs) (commands_total ys) (commands_total (xs ++ ys)) a d (commands-append xs ys) p.commands_are q.commands_are;
  sections_are = joins (data_total xs) (data_total ys) (data_total (xs ++ ys)) b e (data-append xs ys) p.sections_are q.sections_are;
  cells_are = joins (cells_total xs) (cells_total ys) (cells_total (xs ++ ys)) c f (cells-append xs ys) p.cells_are q.cells_are;
}

-- ---- all that was counted

five : (frames messages commands sections cells : List Counter) (n m k : ℕ) → IsOf frames 0 0 0 → IsOf messages 0 0 0 → IsOf commands n 0 0 → IsOf sections 0 m 0
    → IsOf cells 0 0 k → IsOf ((frames ++ (messages ++ (commands ++ sections))) ++ cells) n m k
five frames messages commands sections cells n m k f g h i j =
    let all =
    both (frames ++ (messages ++ (commands ++ sections))) cells (0 + (0 + (n + 0))) (0 + (0 + (0 + m))) (0 + (0 + (0 + 0))) 0 0 k
    (both frames (messages ++ (commands ++ sections)) 0 0 0 (0 + (n + 0)) (0 + (0 + m)) (0 + (0 + 0)) f
    (both messages (commands ++ sections) 0 0 0 (n + 0) (0 + m) (0 + 0) g (both commands sections n 0 0 0 m 0 h i))) j in
    record {
      commands_are = omega (arith, all.commands_are);
      sections_are = omega (arith, all.sections_are);
      cells_are = omega (arith, all.cells_are);
    }

counted_is : (side : Side) (c : Config) (arrivals : List Arrival) (cells : List AirCell)
    → IsOf
    ((frames_counted arrivals ++ (messages_counted side (hold_of side c.delays) (met side c arrivals)
    ++ (commands_counted (command_verdicts c.delays (commands_of side c arrivals)) ++ data_counted (data_verdicts side c.delays (data_of side c arrivals))))) ++ cells_counted cells)
    (length (commands_of side c arrivals)) (length (data_of side c arrivals)) (length cells)
counted_is side c arrivals cells =
    let commands = commands_of side c arrivals in
    let sections = data_of side c arrivals in
    let vs = command_verdicts c.delays commands in
    let us = data_verdicts side c.delays sections in
    five (frames_counted arrivals) (messages_counted side (hold_of side c.delays) (met side c arrivals)) (commands_counted vs) (data_counted us) (cells_counted cells)
    (length commands) (length sections) (length cells) (beside_all _ (frames_beside arrivals))
    (beside_all _ (messages_beside side (hold_of side c.delays) (met side c arrivals) (meetings_beside side c.endpoints arrivals)))
    (record { commands_are = commands_add_up vs ∙ verdict_each c.delays commands; sections_are = no_sections vs; cells_are = no_cells vs })
    (record { commands_are = no_commands us; sections_are = data_add_up us ∙ data_verdict_each side c.delays sections; cells_are = no_cells_of_data us })
    (cells_alone cells)

-- ---- the events of the counters

capped_small : (n : ℕ) → n < 2 ^ 64 → capped n ≡ n
capped_small n h = omega (arith, h)

capped_is_number : (n value : ℕ) → value ≡ capped n → IsNumber n value
capped_is_number n value e = record { value_is = e; exact = λ small. e ∙ capped_small n small }

module _ (counted : Side → Counter → List Counter) where
  abbrev Tells : Event → Type 0
  Tells = TellsNumber counted

  cells_tell_none : (cs : List AirCell) → All Tells (map event.Cell cs)
  cells_tell_none [] = All-nil Tells
  cells_tell_none (a ∷ rest) = All-cons Tells (event.Cell a) (map event.Cell rest) tt (cells_tell_none rest)

  arrivals_tell_none : (side : Side) (results : List (List DelayResult)) (xs : List Arrival) → All Tells (arrivals_told side results xs)
  arrivals_tell_none side results xs = told_all Tells side (λ a. tt) (λ at r. tt) results xs

  one_tells : (side : Side) (k : Counter) (n : ℕ) (b : Bool) → IsNumber (times (counted side k) k) n → All Tells (if b then [] else event.Count side k n ∷ [])
  one_tells side k n true is = All-nil Tells
  one_tells side k n false is = All-cons Tells (event.Count side k n) [] is (All-nil Tells)

  counts_tell : (side : Side) (f : Counter → ℕ) (ks : List Counter) → ((k : Counter) → f k ≡ capped (times (counted side k) k)) → All Tells (flat_map (λ k. count_event side (f k) k) ks)
  counts_tell side f [] is = All-nil Tells
  counts_tell side f (k ∷ ks) is =
      All-append Tells (count_event side (f k) k) (flat_map (λ j. count_event side (f j) j) ks)
      (one_tells side k (f k) (f k == 0) (capped_is_number (times (counted side k) k) (f k) (is k))) (counts_tell side f ks is)

  tick_tells : (c : Config) (t : Traffic) (tick : ℤ) → All Tells (events_at c t tick)
  unfolding events_at
  tick_tells c t tick =
      let ru = map event.Cell (cells_reported_at Ru c t tick) in
      let came = arrivals_at Ru t tick in
      let taken = arrivals_at Du t tick in
      let du = map event.Cell (cells_reported_at Du c t tick) in
      All-append Tells ru (came ++ (taken ++ du)) (cells_tell_none (cells_reported_at Ru c t tick))
      (All-append Tells came (taken ++ du) (arrivals_tell_none Ru (t.results Ru tick) (landing_at t.at_ru tick))
      (All-append Tells taken du (arrivals_tell_none Du (t.results Du tick) (landing_at t.at_du tick)) (cells_tell_none (cells_reported_at Du c t tick))))

  ticks_tell : (c : Config) (t : Traffic) (from end : ℤ) → All Tells (events_between c t from end)
  ticks_tell c t from end =
      each_tick_related (λ xs ys. All Tells xs) (all_kept Tells) from (int_gap from end) (events_at c t) (events_at c t)
      (λ tick low high. tick_tells c t tick)

number_is : (side : Side) (c : Config) (t : Traffic) (k : Counter) → number_of side c t k ≡ capped (times (additions_of side c t k) k)
unfolding number_of
number_is side c t k = refl

unit_told : (side : Side) (c : Config) (t : Traffic) → All (TellsNumber (λ s. additions_of s c t)) (count_events side c t)
unfolding count_events
unit_told side c t = counts_tell (λ s. additions_of s c t) side (number_of side c t) all_counters (number_is side c t)

all_told : (c : Config) (t : Traffic) → All (TellsNumber (λ side. additions_of side c t)) (events c t)
unfolding events
all_told c t =
    let Tells = TellsNumber (λ side. additions_of side c t) in
    All-append Tells (events_between c t first_clock (end_of_time +ℤ pos 1)) (count_events Ru c t ++ count_events Du c t)
    (ticks_tell (λ side. additions_of side c t) c t first_clock (end_of_time +ℤ pos 1))
    (All-append Tells (count_events Ru c t) (count_events Du c t) (unit_told Ru c t) (unit_told Du c t))

-- ---- none is left out

listed : (k : Counter) → Contains all_counters k
listed counter.Frames = (0, omega arith, refl)
listed counter.FramesRefused = (1, omega arith, refl)
listed counter.Messages = (2, omega arith, refl)
listed counter.OtherType = (3, omega arith, refl)
listed counter.Delay = (4, omega arith, refl)
listed counter.Short = (5, omega arith, refl)
listed counter.UnknownEndpoint = (6, omega arith, refl)
listed counter.WrongWay = (7, omega arith, refl)
listed counter.CRefused = (8, omega arith, refl)
listed counter.CMismatch = (9, omega arith, refl)
listed counter.CLate = (10, omega arith, refl)
listed counter.CEarly = (11, omega arith, refl)
listed counter.CRange = (12, omega arith, refl)
listed counter.CRepeat = (13, omega arith, refl)
listed counter.COverlap = (14, omega arith, refl)
listed counter.CFull = (15, omega arith, refl)
listed counter.CAccepted = (16, omega arith, refl)
listed counter.FStored = (17, omega arith, refl)
listed counter.FWhole = (18, omega arith, refl)
listed counter.FRepeat = (19, omega arith, refl)
listed counter.FStray = (20, omega arith, refl)
listed counter.FLong = (21, omega arith, refl)
listed counter.URefused = (22, omega arith, refl)
listed counter.ULate = (23, omega arith, refl)
listed counter.UEarly = (24, omega arith, refl)
listed counter.URepeat = (25, omega arith, refl)
listed counter.UTaken = (26, omega arith, refl)
listed counter.Cells = (27, omega arith, refl)
listed counter.Missing = (28, omega arith, refl)
listed counter.DelayShort = (29, omega arith, refl)
listed counter.DelayUnknown = (30, omega arith, refl)
listed counter.DelayRepeat = (31, omega arith, refl)
listed counter.DelayResult = (32, omega arith, refl)

count_there : (side : Side) (n : ℕ) (k : Counter) → 0 < n → Contains (count_event side n k) (event.Count side k n)
count_there side n k h =
    subst (λ (b : Bool). Contains (let es : List Event = if b then [] else event.Count side k n ∷ [] in es) (event.Count side k n)) (sym (not_none n h)) (0, omega arith, refl)

counts_there : (side : Side) (f : Counter → ℕ) (ks : List Counter) (i : ℕ) (k : Counter) → i < length ks → get_or ks i k ≡ k → 0 < f k
    → Contains (flat_map (λ j. count_event side (f j) j) ks) (event.Count side k (f k))
counts_there side f [] i k low is some = absurd (omega (arith, low))
counts_there side f (j ∷ js) zero k low is some =
    Contains-append_left (count_event side (f j) j) (flat_map (λ l. count_event side (f l) l) js) (event.Count side k (f k))
    (subst (λ (l : Counter). Contains (count_event side (f l) l) (event.Count side k (f k))) (sym is) (count_there side (f k) k some))
counts_there side f (j ∷ js) (suc i) k low is some =
    Contains-append_right (count_event side (f j) j) (flat_map (λ l. count_event side (f l) l) js) (event.Count side k (f k))
    (counts_there side f js i k (omega (arith, low)) is some)

capped_some : (n : ℕ) → 0 < n → 0 < capped n
capped_some n h = omega (arith, h)

unit_left : (side : Side) (c : Config) (t : Traffic) (k : Counter) → 0 < times (additions_of side c t k) k
    → Contains (count_events side c t) (event.Count side k (capped (times (additions_of side c t k) k)))
unfolding count_events
unit_left side c t k some =
    let place = listed k in
    subst (λ (m : ℕ). Contains (flat_map (λ j. count_event side (number_of side c t j) j) all_counters) (event.Count side k m)) (number_is side c t k)
    (counts_there side (number_of side c t) all_counters place.0 k place.1 place.2
    (subst (λ (m : ℕ). 0 < m) (sym (number_is side c t k)) (capped_some (times (additions_of side c t k) k) some)))

of_unit : (side : Side) (c : Config) (t : Traffic) (x : Event) → Contains (count_events side c t) x → Contains (count_events Ru c t ++ count_events Du c t) x
of_unit Ru c t x h = Contains-append_left (count_events Ru c t) (count_events Du c t) x h
of_unit Du c t x h = Contains-append_right (count_events Ru c t) (count_events Du c t) x h

none_left : (side : Side) (c : Config) (t : Traffic) (k : Counter) → 0 < times (additions_of side c t k) k
    → Contains (events c t) (event.Count side k (capped (times (additions_of side c t k) k)))
unfolding events
none_left side c t k some =
    let x = event.Count side k (capped (times (additions_of side c t k) k)) in
    Contains-append_right (events_between c t first_clock (end_of_time +ℤ pos 1)) (count_events Ru c t ++ count_events Du c t) x
    (of_unit side c t x (unit_left side c t k some))

unit_adds_up : (side : Side) (c : Config) (t : Traffic) → UnitAddsUp side c t
unit_adds_up side c t =
    let arrivals = all_arrivals (landings_at side t) in
    let all = counted_is side c arrivals (reported_at side c t.planned arrivals end_of_time) in
    record {
      commands = all.commands_are;
      sections = all.sections_are;
      cells = all.cells_are ∙ ap length (sym (cells_are_reported side c t));
    }

pub sums_add_up : SumsAddUp
sums_add_up c t = record { sums = λ side. unit_adds_up side c t; told = all_told c t; none_left = λ side. none_left side c t }
