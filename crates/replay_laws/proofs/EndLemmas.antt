-- Nothing follows the end of time.
use Rattle.std.proofs.Common.{◌≡◌, ℕ, zero, suc, ℤ, pos, ◌+ℤ◌, ◌-ℤ◌, ◌*ℤ◌, ◌≤ℤ◌, ◌<ℤ◌, Bool, List, [], ◌∷◌, ◌++◌, length, drop, refl, sym, ap, ◌∙◌, subst, arith, append-nil}
use Rattle.std.specs.Prelude.{All, None, Some, false, if◌then◌else◌}
use Rattle.std.specs.Ordering.{int_eq}
use Rattle.std.proofs.Math.Seq.{drop-length}
use Rattle.std.proofs.lemmas.Bool.{and_left, and_right}
use Rattle.std.proofs.lemmas.Int.{by_lt_z, ints}
use Rattle.std.proofs.lemmas.List.Elements.{All-head, All-tail, All-weaker}
use Rattle.air_source.specs.declared.events.AirCell.{AirCell}
use Rattle.air_source.specs.declared.events.Side.{Side}
use Rattle.air_source.specs.declared.events.Side.TheVariants.{Ru, Du}
use Rattle.fh_base.proofs.Euclid.{frame_floor}
use Rattle.fh_base.proofs.Orders.{not_eq, up_to, weak}
use Rattle.fh_base.specs.declared.frames.TheConstants.{FRAME}
use Rattle.window_config.specs.Configs.{IsConfig}
use Rattle.window_config.specs.Limits.{IsWithinLimits}
use Rattle.window_config.specs.declared.delays.Delays.{Delays}
use Rattle.window_config.specs.declared.config.Config.{Config}
use Rattle.window_config.specs.declared.plan.TheConstants.{LAST_FRAME}
use Rattle.unit_laws.proofs.HistoryTicks.{last_of_next}
use Rattle.unit_laws.proofs.AheadLemmas.{unclaimed_reports_nothing}
use Rattle.unit_laws.proofs.DueLemmas.{all_is_due, due_begins, due_in_pieces, filter_nothing}
use Rattle.unit_laws.proofs.EndLemmas.{cells_end, jobs_end}
use Rattle.unit_laws.proofs.SentLemmas.{jobs_begin}
use Rattle.unit_model.proofs.SweepLemmas.{sweep-append, tick-nothing}
use Rattle.unit_model.proofs.SweepLaws.{sweep_quiet as sweep-nothing}
use Rattle.unit_model.specs.Claims.{cell_at, claim_at, claim_of, covers, in_mask, names, same_slot}
use Rattle.unit_model.specs.Meetings.{Arrival}
use Rattle.unit_model.specs.Radiated.{Known, first_clock, reported, symbol_report, wait_of}
use Rattle.unit_model.specs.Reports.{accepted_of, du_known}
use Rattle.unit_model.specs.Standing.{AreInTime, due}
use Rattle.unit_model.specs.Sweeps.{at_tick, frame_of_tick, sweep}
use Rattle.unit_model.specs.Times.{end_of_time, last_landing}
use Rattle.unit_model.specs.Uplink.{jobs}
use Rattle.unit_model.specs.declared.allocations.Allocation.{Allocation}
use Rattle.unit_model.specs.declared.cells.Cell.{Cell}
use Rattle.unit_model.specs.declared.jobs.UplinkJob.{UplinkJob}
use Rattle.replay_laws.proofs.CameLemmas.{arrivals_in_time, calm_adds_nothing}
use Rattle.replay_laws.specs.Ending.{AreInPlan, NoCellIsLeft, NoMessageIsLeft, PlannedCellsEnd}
use Rattle.replay_laws.specs.Moments.{all_arrivals, arrivals_before}
use Rattle.replay_laws.specs.Passing.{AreLandings, IsCalm}
use Rattle.replay_laws.specs.Traffic.{known_at, reported_at}
use Rattle.unit_laws.proofs.HistoryLists.{front_empty as front_none}

-- ---- what lands, lands a second before the end

pub lands_by_end : (landings : List Arrival) → AreLandings landings → All (λ a. a.at ≤ℤ end_of_time) landings
lands_by_end landings are =
    All-weaker (λ (a : Arrival). a.at ≤ℤ last_landing) (λ (a : Arrival). a.at ≤ℤ end_of_time) (λ a early. earlier a.at early) landings are.ended
  where
    earlier : (t : ℤ) → t ≤ℤ last_landing → t ≤ℤ end_of_time
    earlier t early = omega (arith, ints)

calm_end : (landings : List Arrival) → AreLandings landings → IsCalm landings (last_landing +ℤ pos 1) (end_of_time +ℤ pos 1)
calm_end landings are tick low high =
    filter_nothing (λ (a : Arrival). int_eq a.at tick) landings
    (All-weaker (λ (a : Arrival). a.at ≤ℤ last_landing) (λ (a : Arrival). int_eq a.at tick ≡ false) (λ a early. not_eq a.at tick (λ same. too_early a.at tick early low same)) landings are.ended)
  where
    too_early : (at t : ℤ) → at ≤ℤ last_landing → (last_landing +ℤ pos 1) ≤ℤ t → at ≡ t → ⊥
    too_early at t early late same = omega (arith, ints)

last_begun : first_clock ≤ℤ (last_landing +ℤ pos 1)
last_begun = omega (arith, ints)

last_order : (last_landing +ℤ pos 1) ≤ℤ (end_of_time +ℤ pos 1)
last_order = omega (arith, ints)

pub all_in_time : (landings : List Arrival) → AreLandings landings → AreInTime last_landing (all_arrivals landings)
all_in_time landings are =
    let same : all_arrivals landings ≡ arrivals_before landings (last_landing +ℤ pos 1) =
    calm_adds_nothing landings (last_landing +ℤ pos 1) (end_of_time +ℤ pos 1) last_begun last_order (calm_end landings are) in
    subst (AreInTime last_landing) (sym same)
    (subst (λ (t : ℤ). AreInTime t (arrivals_before landings (last_landing +ℤ pos 1))) (last_of_next last_landing)
    (arrivals_in_time landings (last_landing +ℤ pos 1) are).0)

-- ---- a slot of a frame that no plan names

not_named : (a : Allocation) (cell : Cell) (re : ℕ) → a.slot.frame ≤ℤ pos LAST_FRAME → pos LAST_FRAME <ℤ cell.slot.frame → names a cell re ≡ false
not_named a cell re early late =
    let apart : int_eq a.slot.frame cell.slot.frame ≡ false = not_eq a.slot.frame cell.slot.frame (λ same. differ a.slot.frame cell.slot.frame early late same) in
    let slots : same_slot a.slot cell.slot ≡ false = and_left (int_eq a.slot.frame cell.slot.frame) _ apart in
    and_left (covers a cell) (in_mask a.mask re) (and_right _ _ (and_right _ _ (and_left (same_slot a.slot cell.slot) _ slots)))
  where
    differ : (x y : ℤ) → x ≤ℤ pos LAST_FRAME → pos LAST_FRAME <ℤ y → x ≡ y → ⊥
    differ x y early late same = omega (arith, ints, early, late, same)

unclaimed : (planned : List Allocation) (cell : Cell) (re : ℕ) → AreInPlan planned → pos LAST_FRAME <ℤ cell.slot.frame → claim_at planned cell re ≡ None
unfolding claim_at
unclaimed [] cell re in_plan late = refl
unclaimed (a ∷ planned) cell re in_plan late =
    let P = λ (x : Allocation). x.slot.frame ≤ℤ pos LAST_FRAME in
    ap (λ (b : Bool). if b then Some (claim_of a) else claim_at planned cell re) (not_named a cell re (All-head P a planned in_plan) late)
    ∙ unclaimed planned cell re (All-tail P a planned in_plan) late

-- what is gone over near the end of time is of such a frame
late_frame : (tick q frame : ℤ) → (end_of_time -ℤ pos 6144000000) ≤ℤ tick → tick <ℤ (q *ℤ FRAME +ℤ FRAME) → (q -ℤ pos 5) ≤ℤ frame → pos LAST_FRAME <ℤ frame
late_frame tick q frame late in_frame swept = omega (arith, ints)

no_planned_cells : (c : Config) (planned : List Allocation) (arrivals : List Arrival) (tick : ℤ) → AreInPlan planned → (end_of_time -ℤ pos 6144000000) ≤ℤ tick
    → at_tick (symbol_report Du (du_known c planned arrivals)) c.endpoints tick ≡ []
no_planned_cells c planned arrivals tick in_plan late =
    tick-nothing (symbol_report Du (du_known c planned arrivals)) c.endpoints tick (λ ep e slot symbol swept.
    unclaimed_reports_nothing Du (du_known c planned arrivals) ep e slot symbol (λ prb re.
    unclaimed planned (cell_at ep false slot symbol prb) re in_plan (late_frame tick (frame_of_tick tick) slot.frame late (frame_floor tick).1 swept.frame_low)))

wait_most : (d : Delays) → IsWithinLimits d → wait_of Du d ≤ℤ pos 6144000000
wait_most d limits = let high = limits.ta4.high in omega (arith, ints, high)

swept_late : (wait tick : ℤ) → wait ≤ℤ pos 6144000000 → ((end_of_time -ℤ wait) +ℤ pos 1) ≤ℤ tick → (end_of_time -ℤ pos 6144000000) ≤ℤ tick
swept_late wait tick few late = omega (arith, ints, few, late)

swept_from : (wait : ℤ) → (first_clock -ℤ wait) ≤ℤ ((end_of_time -ℤ wait) +ℤ pos 1)
swept_from wait = omega (arith, ints)

pub planned_cells_end : PlannedCellsEnd
unfolding reported
planned_cells_end c planned arrivals to limits in_plan order =
    let g = symbol_report Du (du_known c planned arrivals) in
    let es = c.endpoints in
    let w = wait_of Du c.delays in
    let from = first_clock -ℤ w in
    let mid = (end_of_time -ℤ w) +ℤ pos 1 in
    let end = (to -ℤ w) +ℤ pos 1 in
    sweep-append g es from mid end (swept_from w) (up_to end_of_time to w order)
    ∙ ap (λ (xs : List AirCell). sweep g es from mid ++ xs)
    (sweep-nothing g es mid end (λ tick low high. no_planned_cells c planned arrivals tick in_plan (swept_late w tick (wait_most c.delays limits) low)))
    ∙ append-nil (sweep g es from mid)

-- ---- nothing is left

pub no_cell_after_all : (side : Side) (c : Config) (k : Known) (to : ℤ) → IsConfig c
    → due side c.delays c.endpoints k (reported side c.delays c.endpoints k to) to ≡ []
no_cell_after_all side c k to config =
    let all = reported side c.delays c.endpoints k to in
    due_in_pieces side c.delays c.endpoints k [] all [] to config.endpoints.differ (all_is_due side c.delays c.endpoints k to ∙ sym (append-nil all))

cells_end_at : (side : Side) (c : Config) (planned : List Allocation) (landings : List Arrival) (to : ℤ) → IsConfig c → AreInPlan planned → AreLandings landings → end_of_time ≤ℤ to
    → reported_at side c planned (all_arrivals landings) to ≡ reported_at side c planned (all_arrivals landings) end_of_time
cells_end_at Ru c planned landings to config in_plan are order = cells_end c (all_arrivals landings) to config.delays (all_in_time landings are) order
cells_end_at Du c planned landings to config in_plan are order = planned_cells_end c planned (all_arrivals landings) to config.delays in_plan order

pub no_cell_is_left : NoCellIsLeft
no_cell_is_left side c planned landings to config in_plan are =
    let d = c.delays in
    let es = c.endpoints in
    let k = known_at side c planned (all_arrivals landings) in
    let all = reported side d es k end_of_time in
    by_lt_z to end_of_time
    (λ early.
    let begins = due_begins side d es k all to end_of_time (weak to end_of_time early) in
    front_none (due side d es k all to) begins.0 (sym begins.1 ∙ no_cell_after_all side c k end_of_time config))
    (λ late.
    subst (λ (heard : List AirCell). due side d es k heard to ≡ []) (cells_end_at side c planned landings to config in_plan are late)
    (no_cell_after_all side c k to config))

drop_nothing : {A : Type 0} (n : ℕ) → drop n (let none : List A = [] in none) ≡ []
drop_nothing zero = refl
drop_nothing (suc n) = refl

drop_all : {A : Type 0} (xs ys : List A) → drop (length (xs ++ ys)) xs ≡ []
drop_all [] ys = drop_nothing (length ys)
drop_all (x ∷ xs) ys = drop_all xs ys

pub no_message_is_left : NoMessageIsLeft
no_message_is_left c landings to config are =
    let accepted = accepted_of c (all_arrivals landings) in
    let asked = jobs c.endpoints accepted to in
    by_lt_z to end_of_time
    (λ early.
    let begins = jobs_begin c.endpoints accepted to end_of_time (weak to end_of_time early) in
    ap (λ (js : List UplinkJob). drop (length js) asked) begins.1 ∙ drop_all asked begins.0)
    (λ late.
    ap (λ (js : List UplinkJob). drop (length js) asked) (sym (jobs_end c (all_arrivals landings) to config.delays (all_in_time landings are) late)) ∙ drop-length asked)
