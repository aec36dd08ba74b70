-- At the next moment a unit's cells are due, and all cells before it were reported.
use Rattle.std.proofs.Common.{◌≡◌, ℤ, pos, ◌+ℤ◌, ◌-ℤ◌, ◌≤ℤ◌, List, [], ◌++◌, refl, sym, ap, ap₂, ◌∙◌, arith}
use Rattle.std.proofs.lemmas.Int.{ints}
use Rattle.std.proofs.lemmas.List.{append-nil, append_cancel_left}
use Rattle.std.specs.Int.Signed.{≤ℤ_refl}
use Rattle.air_source.specs.declared.events.AirCell.{AirCell}
use Rattle.air_source.specs.declared.events.Side.{Side}
use Rattle.air_source.specs.declared.events.Side.TheVariants.{Ru, Du}
use Rattle.window_config.specs.Configs.{IsConfig}
use Rattle.window_config.specs.declared.config.Config.{Config}
use Rattle.window_config.specs.declared.delays.Delays.{Delays}
use Rattle.window_config.specs.declared.endpoints.EndpointConfig.{EndpointConfig}
use Rattle.unit_model.specs.Meetings.{Arrival}
use Rattle.unit_model.specs.Radiated.{Known, first_clock, reported, symbol_report, wait_of}
use Rattle.unit_model.specs.Standing.{due, past_of}
use Rattle.unit_model.specs.Sweeps.{at_tick, sweep}
use Rattle.unit_laws.proofs.DueLemmas.{all_is_due, due_in_pieces}
use Rattle.unit_model.proofs.SweepLemmas.{sweep-append}
use Rattle.unit_laws.proofs.HistoryTicks.{last_is_earlier, last_reached}
use Rattle.replay_laws.specs.Events.{cells_reported_at}
use Rattle.replay_laws.specs.Moments.{all_arrivals, arrivals_before, end_of_time}
use Rattle.replay_laws.specs.Passing.{AreLandings, DueAtMoment, IsNextMoment, ReportedAtMoment, ReportedBeforeMoment, seen_at, seen_before}
use Rattle.replay_laws.specs.Traffic.{Traffic, known_at, landings_at, reported_at}
use Rattle.replay_laws.proofs.CameLemmas.{calm_adds_nothing}
use Rattle.replay_laws.proofs.SettledLemmas.{reported_settled}
use Rattle.replay_laws.proofs.TickLemmas.{sweep_alone}
use Rattle.fh_base.proofs.Orders.{next_later as next_most, at_most, next_order, next_is_later}

-- ---- what is reported, in pieces

pub mid_is : (t wait : ℤ) → ((t -ℤ pos 1) -ℤ wait) +ℤ pos 1 ≡ t -ℤ wait
mid_is t wait = omega (arith, ints)

mid_low : (first now wait : ℤ) → first ≤ℤ now → (first -ℤ wait) ≤ℤ (((now -ℤ pos 1) -ℤ wait) +ℤ pos 1)
mid_low first now wait h = omega (arith, ints)

mid_high : (now to wait : ℤ) → now ≤ℤ (to +ℤ pos 1) → (((now -ℤ pos 1) -ℤ wait) +ℤ pos 1) ≤ℤ ((to -ℤ wait) +ℤ pos 1)
mid_high now to wait h = omega (arith, ints)

-- before a tick, and from it on
reported_parts : (side : Side) (d : Delays) (es : List EndpointConfig) (k : Known) (now to : ℤ) → first_clock ≤ℤ now → now ≤ℤ (to +ℤ pos 1)
    → reported side d es k to ≡ reported side d es k (now -ℤ pos 1) ++ sweep (symbol_report side k) es (now -ℤ wait_of side d) ((to -ℤ wait_of side d) +ℤ pos 1)
unfolding reported
reported_parts side d es k now to begun order =
    let g = symbol_report side k in
    let w = wait_of side d in
    let from = first_clock -ℤ w in
    let mid = ((now -ℤ pos 1) -ℤ w) +ℤ pos 1 in
    let end = (to -ℤ w) +ℤ pos 1 in
    sweep-append g es from mid end (mid_low first_clock now w begun) (mid_high now to w order)
    ∙ ap (λ (t : ℤ). sweep g es from mid ++ sweep g es t end) (mid_is now w)

-- up to a tick: before it, and at it
reported_at_tick : (side : Side) (d : Delays) (es : List EndpointConfig) (k : Known) (t : ℤ) → first_clock ≤ℤ t
    → reported side d es k t ≡ reported side d es k (t -ℤ pos 1) ++ at_tick (symbol_report side k) es (t -ℤ wait_of side d)
reported_at_tick side d es k t begun =
    reported_parts side d es k t t begun (next_is_later t)
    ∙ ap (λ (xs : List AirCell). reported side d es k (t -ℤ pos 1) ++ xs) (sweep_alone (symbol_report side k) es (t -ℤ wait_of side d))

-- where all before `now` was heard, the rest is due
due_rest : (side : Side) (c : Config) (k : Known) (now to : ℤ) → IsConfig c → first_clock ≤ℤ now → now ≤ℤ (to +ℤ pos 1)
    → due side c.delays c.endpoints k (reported side c.delays c.endpoints k (now -ℤ pos 1)) to
    ≡ sweep (symbol_report side k) c.endpoints (now -ℤ wait_of side c.delays) ((to -ℤ wait_of side c.delays) +ℤ pos 1)
due_rest side c k now to config begun order =
    let es = c.endpoints in
    let d = c.delays in
    due_in_pieces side d es k [] (reported side d es k (now -ℤ pos 1))
    (sweep (symbol_report side k) es (now -ℤ wait_of side d) ((to -ℤ wait_of side d) +ℤ pos 1)) to config.endpoints.differ
    (all_is_due side d es k to ∙ reported_parts side d es k now to begun order)

same_parts : (xs ys zs ws : List AirCell) → xs ≡ zs → xs ++ ys ≡ zs ++ ws → ys ≡ ws
same_parts xs ys zs ws front all = append_cancel_left xs ys ws (all ∙ ap (λ (us : List AirCell). us ++ ws) (sym front))

-- ---- what a unit has seen at a tick

last_most : (t : ℤ) → t ≤ℤ ((t +ℤ pos 1) -ℤ pos 1)
last_most t = omega (arith, ints)

pub seen_later : (side : Side) (t : ℤ) → t ≤ℤ seen_before side t
seen_later Ru t = ≤ℤ_refl t
seen_later Du t = next_is_later t

seen_past : (side : Side) (t : ℤ) → t ≤ℤ past_of side (seen_before side t)
seen_past Ru t = ≤ℤ_refl t
seen_past Du t = last_most t

pub seen_by : (side : Side) (t end : ℤ) → t ≤ℤ end → seen_before side t ≤ℤ (end +ℤ pos 1)
seen_by Ru t end h = next_most t end h
seen_by Du t end h = next_order t end h

last_past : (side : Side) (t : ℤ) → (t -ℤ pos 1) ≤ℤ past_of side t
last_past Ru t = last_is_earlier t
last_past Du t = ≤ℤ_refl (t -ℤ pos 1)

-- ---- the cells of a tick

no_wait : (t : ℤ) → t ≡ t -ℤ pos 0
no_wait t = omega (arith, ints)

-- they go by the starts of their symbols
pub by_start : (side : Side) (c : Config) (x : Traffic) (tick : ℤ)
    → cells_reported_at side c x tick
    ≡ at_tick (symbol_report side (known_at side c x.planned (all_arrivals (landings_at side x)))) c.endpoints (tick -ℤ wait_of side c.delays)
by_start Ru c x tick = ap (λ (s : ℤ). at_tick (symbol_report Ru (known_at Ru c x.planned (all_arrivals x.at_ru))) c.endpoints s) (no_wait tick)
by_start Du c x tick = refl

-- they are those by what the unit has seen then
pub cells_settled : (side : Side) (c : Config) (x : Traffic) (t : ℤ) → IsConfig c → AreLandings (landings_at side x) → first_clock ≤ℤ t → t ≤ℤ end_of_time
    → cells_reported_at side c x t ≡ at_tick (symbol_report side (known_at side c x.planned (seen_at side (landings_at side x) t))) c.endpoints (t -ℤ wait_of side c.delays)
cells_settled side c x t config are begun ended =
    let landings = landings_at side x in
    let all = known_at side c x.planned (all_arrivals landings) in
    let seen = known_at side c x.planned (seen_at side landings t) in
    let es = c.endpoints in
    let d = c.delays in
    let w = wait_of side d in
    let last = t -ℤ pos 1 in
    let then = seen_before side t in
    let end = end_of_time +ℤ pos 1 in
    let order = seen_by side t end_of_time ended in
    let from = at_most first_clock t then begun (seen_later side t) in
    let past = seen_past side t in
    let before : reported side d es all last ≡ reported side d es seen last =
    reported_settled side c x.planned landings last then end config are from (at_most last t (past_of side then) (last_is_earlier t) past) order in
    let up_to : reported side d es all t ≡ reported side d es seen t = reported_settled side c x.planned landings t then end config are from past order in
    by_start side c x t
    ∙ same_parts (reported side d es all last) (at_tick (symbol_report side all) es (t -ℤ w)) (reported side d es seen last) (at_tick (symbol_report side seen) es (t -ℤ w)) before
    (sym (reported_at_tick side d es all t begun) ∙ up_to ∙ reported_at_tick side d es seen t begun)

-- ---- at the next moment

module _ (side : Side) (c : Config) (x : Traffic) (now tick : ℤ) (next : IsNextMoment c x now tick) where
  abbrev landings : List Arrival
  landings = landings_at side x

  abbrev es : List EndpointConfig
  es = c.endpoints

  abbrev d : Delays
  d = c.delays

  abbrev w : ℤ
  w = wait_of side d

  -- by what was received before now, and by what is seen at the tick
  abbrev old : Known
  old = known_at side c x.planned (arrivals_before landings now)

  abbrev new : Known
  new = known_at side c x.planned (seen_at side landings tick)

  are : AreLandings landings
  are = (next.units side).landings_are

  tick_begun : first_clock ≤ℤ tick
  tick_begun = at_most first_clock now tick next.begun next.order

  reached : now ≤ℤ ((tick -ℤ pos 1) +ℤ pos 1)
  reached = last_reached now tick next.order

  pub calm_before : arrivals_before landings tick ≡ arrivals_before landings now
  calm_before = calm_adds_nothing landings now tick next.begun next.order (next.units side).calm

  pub quiet_before : sweep (symbol_report side old) es (now -ℤ w) (tick -ℤ w) ≡ []
  quiet_before =
      ap (λ (t : ℤ). sweep (symbol_report side old) es (now -ℤ w) t) (sym (mid_is tick w))
      ∙ sym (due_rest side c old now (tick -ℤ pos 1) next.config next.begun reached) ∙ (next.units side).quiet

  -- nothing is reported between
  old_waits : reported side d es old (tick -ℤ pos 1) ≡ reported side d es old (now -ℤ pos 1)
  old_waits =
      let earlier = reported side d es old (now -ℤ pos 1) in
      reported_parts side d es old now (tick -ℤ pos 1) next.begun reached
      ∙ ap (λ (t : ℤ). earlier ++ sweep (symbol_report side old) es (now -ℤ w) t) (mid_is tick w)
      ∙ ap (λ (xs : List AirCell). earlier ++ xs) quiet_before
      ∙ append-nil earlier

  -- and what is seen at the tick changes nothing of it
  same_then : reported side d es new (now -ℤ pos 1) ≡ reported side d es old (now -ℤ pos 1)
  same_then =
      reported_settled side c x.planned landings (now -ℤ pos 1) now (seen_before side tick) next.config are next.begun (last_past side now)
      (at_most now tick (seen_before side tick) next.order (seen_later side tick))

  same_until : reported side d es new (tick -ℤ pos 1) ≡ reported side d es old (tick -ℤ pos 1)
  same_until =
      reported_settled side c x.planned landings (tick -ℤ pos 1) tick (seen_before side tick) next.config are tick_begun (last_past side tick) (seen_later side tick)
      ∙ ap (λ (xs : List Arrival). reported_at side c x.planned xs (tick -ℤ pos 1)) calm_before

  new_waits : reported side d es new (now -ℤ pos 1) ≡ reported side d es new (tick -ℤ pos 1)
  new_waits = same_then ∙ sym old_waits ∙ sym same_until

  rest_is : sweep (symbol_report side new) es (now -ℤ w) ((tick -ℤ w) +ℤ pos 1) ≡ at_tick (symbol_report side new) es (tick -ℤ w)
  rest_is =
      same_parts (reported side d es new (now -ℤ pos 1)) _ (reported side d es new (tick -ℤ pos 1)) _ new_waits
      (sym (reported_parts side d es new now tick next.begun (next_most now tick next.order)) ∙ reported_at_tick side d es new tick tick_begun)

  due_then : tick ≤ℤ end_of_time → due side d es new (reported side d es old (now -ℤ pos 1)) tick ≡ cells_reported_at side c x tick
  due_then ended =
      ap (λ (heard : List AirCell). due side d es new heard tick) (sym same_then)
      ∙ due_rest side c new now tick next.config next.begun (next_most now tick next.order)
      ∙ rest_is ∙ sym (cells_settled side c x tick next.config are tick_begun ended)

  reported_then : tick ≤ℤ end_of_time
      → reported side d es old (now -ℤ pos 1) ++ cells_reported_at side c x tick ≡ reported_at side c x.planned (arrivals_before landings (tick +ℤ pos 1)) tick
  reported_then ended =
      ap₂ ◌++◌ (sym old_waits ∙ sym same_until) (cells_settled side c x tick next.config are tick_begun ended)
      ∙ sym (reported_at_tick side d es new tick tick_begun)
      ∙ sym (reported_settled side c x.planned landings tick (seen_before side tick) (tick +ℤ pos 1) next.config are
      (at_most first_clock tick (seen_before side tick) tick_begun (seen_later side tick)) (seen_past side tick) (seen_by side tick tick (≤ℤ_refl tick)))

  reported_until : reported side d es old (now -ℤ pos 1) ≡ reported_at side c x.planned (arrivals_before landings tick) (tick -ℤ pos 1)
  reported_until = sym old_waits ∙ ap (λ (xs : List Arrival). reported_at side c x.planned xs (tick -ℤ pos 1)) (sym calm_before)

pub due_at_moment : DueAtMoment
due_at_moment side c x now tick next ended = due_then side c x now tick next ended

pub reported_at_moment : ReportedAtMoment
reported_at_moment side c x now tick next ended = reported_then side c x now tick next ended

pub reported_before_moment : ReportedBeforeMoment
reported_before_moment side c x now tick next = reported_until side c x now tick next
