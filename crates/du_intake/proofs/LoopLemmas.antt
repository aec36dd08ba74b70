-- The report of cell after cell, and the calls above it.
use Rattle.std.proofs.Common.{◌≡◌, ℕ, ℤ, pos, neg_ℤ, ◌^◌, ◌+◌, ◌-◌, ◌<◌, ◌≤◌, ◌+ℤ◌, ◌-ℤ◌, ◌≤ℤ◌, ◌<ℤ◌, List, [], ◌∷◌, ◌++◌, length, map, Option, Some, None, refl, sym, ap, ◌∙◌, subst, arith, append-nil, append_assoc}
use Rattle.std.specs.Prelude.{IfSome}
use Rattle.std.proofs.lemmas.List.{map-append}
use Rattle.std.proofs.lemmas.Option.{MatchOption-at_some}
use Rattle.std.specs.Int.Signed.{≤ℤ_refl}
use Rattle.air_source.specs.declared.events.AirCell.{AirCell}
use Rattle.air_source.specs.declared.events.Event.{Event}
use Rattle.air_source.specs.declared.events.Event.TheVariants.{Cell as Reported}
use Rattle.air_source.specs.declared.events.Side.TheVariants.{Du}
use Rattle.window_config.specs.declared.config.Config.{Config}
use Rattle.unit_model.specs.Counts.{cells_counted}
use Rattle.unit_model.specs.Proper.{IsTime}
use Rattle.unit_model.specs.Reports.{du_known}
use Rattle.unit_model.specs.Standing.{History, at_clock, heard}
use Rattle.unit_model.specs.declared.allocations.Allocation.{Allocation}
use Rattle.unit_model.specs.declared.symbol_start.SymbolStart.{SymbolStart}
use Rattle.unit_laws.proofs.DueLemmas.{due_begins}
use Rattle.unit_memory.specs.declared.memory.UnitMemory.{UnitMemory}
use Rattle.unit_memory.proofs.HoldLemmas.{holds_later}
use Rattle.fh_base.specs.declared.values.Ticks.{Ticks}
use Rattle.unit_laws.proofs.HistoryTicks.{last_is_earlier}
use Rattle.unit_laws.proofs.HistoryLists.{front_empty}
use Rattle.slot_rings.proofs.SeenLemmas.{if_some}
use Rattle.unit_laws.proofs.UnitLemmas.{heard_more, heard_none}
use Rattle.du_intake.specs.Calls.{IntakeStandsFor, cursor_in, next_in}
use Rattle.du_intake.specs.Closing.{Closes, ClosesSome, ComesLater, IntakeGoesOn, HasClaimed, IsClaimedFrom, IsNextDue, IntakeStandsForSome, StaysAt, IntakeStopsAtDue, IntakeToldAll, at_prb, symbols_left}
use Rattle.du_intake.specs.Cursors.{CellCursor, HasStillLeft, IsNamed}
use Rattle.du_intake.specs.Units.{IntakeKeeps, intake_due_of}
use Rattle.du_intake.specs.declared.plan.UplinkPlan.{UplinkPlan}
use Rattle.du_intake.specs.declared.unit.Intake.{Intake}
use Rattle.du_intake.proofs.CloseLemmas.{closes_claimed, closes_over, closing, closing_some, left_over, not_late, over_unit, standing, stays_both, stays_claimed, stays_next}
use Rattle.du_intake.proofs.DueLemmas.{none_before, none_due, start_bounds, wait_bounds}
use Rattle.du_intake.proofs.ListLemmas.{some_same}
use Rattle.du_intake.proofs.NextLemmas.{symbol_below}
use Rattle.du_intake.proofs.UnitLemmas.{stands}
use Rattle.fh_base.proofs.Orders.{at_most}

-- ---- the moment of the next cell

pub moment_is : (u : Intake) (m : SymbolStart) (t : ℤ) → ClosesSome u → next_in u ≡ Some m
    → (neg_ℤ (pos (2 ^ 60)) ≤ℤ m.start.0 → m.start.0 ≤ℤ pos (2 ^ 60) → pos 0 ≤ℤ u.wait.0 → u.wait.0 ≤ℤ pos (2 ^ 60) → t ≡ m.start.0 +ℤ u.wait.0)
    → t ≡ m.start.0 +ℤ u.wait.0
moment_is u m t some is sum =
    let all = some.closes in
    let c = some.config in
    let k = all.kept in
    let limits = k.holds.config.delays in
    let w = wait_bounds c.delays.ta4.max (at_most (pos 0) c.delays.ta4.min c.delays.ta4.max limits.ta4.low limits.ta4.order) limits.ta4.high in
    let starts = start_bounds c some.planned u.memory u.clock.0 (cursor_in u) some.history k m (MatchOption-at_some (Unit {0}) (IsNamed some.planned) m is k.named) is in
    sum starts.0 starts.1 (subst (λ (x : ℤ). pos 0 ≤ℤ x) (sym all.wait_is) w.0) (subst (λ (x : ℤ). x ≤ℤ pos (2 ^ 60)) (sym all.wait_is) w.1)

pub comes_later : (u : Intake) (m : SymbolStart) (to t : ℤ) → (next_in u) ≡ Some m → t ≡ m.start.0 +ℤ u.wait.0 → to <ℤ t → ComesLater u to
comes_later u m to t is moment early x at =
    subst (λ (y : SymbolStart). to <ℤ (y.start.0 +ℤ u.wait.0)) (some_same (next_in u) m x is at) (subst (λ (s : ℤ). to <ℤ s) moment early)

pub next_due_is : (u : Intake) (m : SymbolStart) (to t : ℤ) → (next_in u) ≡ Some m → t ≡ m.start.0 +ℤ u.wait.0 → t ≤ℤ to → IsNextDue u to m
next_due_is u m to t is moment by = record { next = is; by = subst (λ (s : ℤ). s ≤ℤ to) moment by }

-- ---- one after the other

pub record IsClosing {A : Type 0} (grew : A → List Event → A → Type 0) (same : A → A → Type 0) (faults : A → ℕ) (to : ℤ) (start now : Intake) (before air : A) : Type 0 where
  pub goes : (c : Config) (planned : List Allocation) (h : History) → IntakeStandsFor c planned start h → IntakeGoesOn grew c planned h to now before air
  pub some : ClosesSome now
  pub clock : now.clock ≡ start.clock
  pub same_air : same before air
  pub still : faults air ≡ faults before

pub closing_starts : {A : Type 0} (grew : A → List Event → A → Type 0) (same : A → A → Type 0) (faults : A → ℕ) (to : ℤ) (u : Intake) (air : A)
    → ((a : A) → grew a [] a) → ((a : A) → same a a) → IntakeStandsForSome u → IsClosing grew same faults to u u air air
closing_starts grew same faults to u air empty unchanged some = record {
  goes = λ c planned h all. record {
    told = [];
    is = ap (λ (x : History). intake_due_of c planned x to) (sym (heard_none h));
    closes = subst (Closes c planned u) (sym (heard_none h)) (closing c planned u h all);
    left = λ m is late. MatchOption-at_some (Unit {0}) (HasStillLeft planned u.place.prb) m is all.left;
    heard_is = empty air;
  };
  some = closing_some u some;
  clock = refl;
  same_air = unchanged air;
  still = refl;
}

pub goes_then : {A : Type 0} (grew : A → List Event → A → Type 0) → ((a b d : A) (xs ys : List Event) → grew a xs b → grew b ys d → grew a (xs ++ ys) d)
    → (to : ℤ) (middle new : Intake) (before air after : A) (c : Config) (planned : List Allocation) (h : History) → (one : IntakeGoesOn grew c planned h to middle before air)
    → IntakeGoesOn grew c planned (heard h one.told) to new air after → IntakeGoesOn grew c planned h to new before after
goes_then grew more to middle new before air after c planned h one two = record {
  told = one.told ++ two.told;
  is =
      one.is ∙ ap (λ (xs : List AirCell). one.told ++ xs) (two.is ∙ ap (λ (x : History). two.told ++ intake_due_of c planned x to) (heard_more h one.told two.told))
      ∙ sym (append_assoc one.told two.told (intake_due_of c planned (heard h (one.told ++ two.told)) to));
  closes = subst (Closes c planned new) (heard_more h one.told two.told) two.closes;
  left = two.left;
  heard_is =
      subst (λ (xs : List Event). grew before xs after) (sym (map-append (λ x. Reported x) one.told two.told))
      (more before air after (map Reported one.told) (map Reported two.told) one.heard_is two.heard_is);
}

pub stops_then : {A : Type 0} (grew : A → List Event → A → Type 0) (stopped : A → Event → A → Type 0)
    → ((a b d : A) (xs ys : List Event) → grew a xs b → grew b ys d → grew a (xs ++ ys) d)
    → (to : ℤ) (middle new : Intake) (before air after : A) (c : Config) (planned : List Allocation) (h : History) → (one : IntakeGoesOn grew c planned h to middle before air)
    → IntakeStopsAtDue grew stopped c planned (heard h one.told) to new air after → IntakeStopsAtDue grew stopped c planned h to new before after
stops_then grew stopped more to middle new before air after c planned h one two = record {
  told = one.told ++ two.told;
  cell = two.cell;
  rest = two.rest;
  is = one.is ∙ ap (λ (xs : List AirCell). one.told ++ xs) two.is ∙ sym (append_assoc one.told two.told (two.cell ∷ two.rest));
  stands = subst (IntakeStandsFor c planned new) (heard_more h one.told two.told) two.stands;
  middle = two.middle;
  heard_is =
      subst (λ (xs : List Event). grew before xs two.middle) (sym (map-append (λ x. Reported x) one.told two.told))
      (more before air two.middle (map Reported one.told) (map Reported two.told) one.heard_is two.heard_is);
  stop = two.stop;
}

pub closing_goes : {A : Type 0} (grew : A → List Event → A → Type 0) (same : A → A → Type 0) (faults : A → ℕ) (to : ℤ) (start now new : Intake) (before air after : A) (m : SymbolStart)
    → ((a b d : A) (xs ys : List Event) → grew a xs b → grew b ys d → grew a (xs ++ ys) d) → ((a b d : A) → same a b → same b d → same a d)
    → IsClosing grew same faults to start now before air → IsNextDue now to m
    → ((c : Config) (planned : List Allocation) (h : History) (t : ℤ) → Closes c planned now h → (m.start.0 +ℤ now.wait.0) ≤ℤ t → IntakeGoesOn grew c planned h t new air after)
    → new.clock ≡ now.clock → same air after → faults after ≡ faults air → IsClosing grew same faults to start new before after
closing_goes grew same faults to start now new before air after m more same_more r next told clock same_then still = record {
  goes = λ c planned h all.
      let one = r.goes c planned h all in
      goes_then grew more to now new before air after c planned h one (told c planned (heard h one.told) to one.closes next.by);
  some =
      let s = r.some in
      let g = told s.config s.planned s.history to s.closes next.by in
      record { config = s.config; planned = s.planned; history = heard s.history g.told; closes = g.closes };
  clock = clock ∙ r.clock;
  same_air = same_more before air after r.same_air same_then;
  still = still ∙ r.still;
}

-- ---- nothing more is due

left_now : (planned : List Allocation) (u : Intake) (to : ℤ) → ((m : SymbolStart) → (next_in u) ≡ Some m → to <ℤ (m.start.0 +ℤ u.wait.0) → HasStillLeft planned u.place.prb m)
    → ComesLater u to → IfSome (next_in u) (HasStillLeft planned u.place.prb)
left_now planned u to left later = if_some (next_in u) {P = HasStillLeft planned u.place.prb} (λ m is. left m is (later m is))

none_left : (c : Config) (planned : List Allocation) (u : Intake) (h : History) (to : ℤ) → Closes c planned u h → ComesLater u to → (o : Option SymbolStart) → (next_in u) ≡ o
    → intake_due_of c planned h to ≡ []
none_left c planned u h to all later None is = none_due c planned u.memory u.clock.0 (cursor_in u) h all.kept is to
none_left c planned u h to all later (Some m) is =
    none_before c planned u.memory u.clock.0 (cursor_in u) h all.kept m is (MatchOption-at_some (Unit {0}) (IsNamed planned) m is all.kept.named) to
    (subst (λ (w : ℤ). to <ℤ (m.start.0 +ℤ w)) all.wait_is (later m is))

pub told_over : {A : Type 0} (grew : A → List Event → A → Type 0) (to : ℤ) (u : Intake) (before air : A) (c : Config) (planned : List Allocation) (h : History)
    → IntakeGoesOn grew c planned h to u before air → ComesLater u to → IntakeToldAll grew c planned h to u before air
told_over grew to u before air c planned h one later =
    let over = none_left c planned u (heard h one.told) to one.closes later (next_in u) refl in
    let all : one.told ≡ intake_due_of c planned h to = sym (one.is ∙ ap (λ (xs : List AirCell). one.told ++ xs) over ∙ append-nil one.told) in
    record {
      stands = subst (λ (xs : List AirCell). IntakeStandsFor c planned u (heard h xs)) all (standing c planned u (heard h one.told) one.closes (left_now planned u to one.left later));
      over = subst (λ (xs : List AirCell). intake_due_of c planned (heard h xs) to ≡ []) all over;
      heard_is = subst (λ (xs : List AirCell). grew before (map Reported xs) air) all one.heard_is;
    }

-- ---- the clock goes on

pub stands_later : (c : Config) (planned : List Allocation) (m : UnitMemory) (clock : ℤ) (cursor : CellCursor) (h : History) (to : ℤ)
    → (all : IntakeKeeps c planned m clock cursor h) → clock ≤ℤ to → IsTime to → intake_due_of c planned h to ≡ [] → IntakeKeeps c planned m to cursor (at_clock h to)
stands_later c planned m clock cursor h to k order time none =
    let after : h.clock ≤ℤ to = subst (λ (t : ℤ). t ≤ℤ to) k.clock_is order in
    let b = due_begins Du c.delays c.endpoints (du_known c planned h.arrivals) h.reported (to -ℤ pos 1) to (last_is_earlier to) in
    record {
      holds = holds_later Du c h.clock to m h.arrivals (cells_counted h.reported) after k.holds;
      clock_is = refl;
      time = time;
      begun = at_most _ h.clock to k.begun after;
      past = front_empty (intake_due_of c planned h (to -ℤ pos 1)) b.0 (sym b.1 ∙ none);
      told = k.told;
      differ = k.differ;
      owed = k.owed;
      given = k.given;
      plan = k.plan;
      reports = k.reports;
      named = k.named;
    }

-- the unit at a later clock
abbrev pub at_time : Intake → ℤ → Intake
at_time u to = record { memory = u.memory; clock = record { 0 = to }; plan = u.plan; row = u.row; place = u.place; wait = u.wait }

pub stands_at : {A : Type 0} (grew : A → List Event → A → Type 0) (c : Config) (planned : List Allocation) (u : Intake) (clock : ℤ) (h : History) (to : ℤ) (before air : A)
    → IntakeToldAll grew c planned h to u before air → u.clock.0 ≡ clock → clock ≤ℤ to → IsTime to → IntakeStandsFor c planned (at_time u to) (at_clock (heard h (intake_due_of c planned h to)) to)
stands_at grew c planned u clock h to before air all same order time =
    let s = all.stands in
    stands c planned u.memory to (cursor_in u) (at_clock (heard h (intake_due_of c planned h to)) to)
    (stands_later c planned u.memory u.clock.0 (cursor_in u) (heard h (intake_due_of c planned h to)) to s.kept (subst (λ (t : ℤ). t ≤ℤ to) (sym same) order) time all.over)
    u.plan (length u.row.items) u.wait.0 s.plan_is s.room_is s.wait_is s.left

-- ---- cell by cell

-- the cells of a symbol are reported up to a PRB
pub record IsReporting {A : Type 0} (grew : A → List Event → A → Type 0) (same : A → A → Type 0) (faults : A → ℕ) (m : SymbolStart) (start now : Intake) (prb : ℕ) (before air : A) : Type 0 where
  pub goes : (c : Config) (planned : List Allocation) (h : History) (to : ℤ) → Closes c planned start h → (m.start.0 +ℤ start.wait.0) ≤ℤ to
      → IntakeGoesOn grew c planned h to (at_prb now prb) before air
  pub some : ClosesSome (at_prb now prb)
  pub next : next_in now ≡ Some m
  pub stays : StaysAt start now
  pub reports : HasClaimed now
  pub same_air : same before air
  pub still : faults air ≡ faults before

pub reporting_starts : {A : Type 0} (grew : A → List Event → A → Type 0) (same : A → A → Type 0) (faults : A → ℕ) (m : SymbolStart) (u : Intake) (air : A)
    → ((a : A) → grew a [] a) → ((a : A) → same a a) → ClosesSome u → (next_in u) ≡ Some m → HasClaimed u → IsReporting grew same faults m u u u.place.prb air air
reporting_starts grew same faults m u air empty unchanged some next was_claimed = record {
  goes = λ c planned h to all order. record {
    told = [];
    is = ap (λ (x : History). intake_due_of c planned x to) (sym (heard_none h));
    closes = subst (Closes c planned u) (sym (heard_none h)) all;
    left = not_late c planned u h m u.place.prb all next to u.place.prb order;
    heard_is = empty air;
  };
  some = some;
  next = next;
  stays = record { endpoints = refl; clock = refl; plan = refl; row = refl; symbol = refl; wait = refl };
  reports = was_claimed;
  same_air = unchanged air;
  still = refl;
}

pub same_wait : (old new : Intake) → StaysAt old new → (m : SymbolStart) (to : ℤ) → (m.start.0 +ℤ old.wait.0) ≤ℤ to → (m.start.0 +ℤ new.wait.0) ≤ℤ to
same_wait old new stays m to order = subst (λ (w : Ticks). (m.start.0 +ℤ w.0) ≤ℤ to) (sym stays.wait) order

pub reporting_goes : {A : Type 0} (grew : A → List Event → A → Type 0) (same : A → A → Type 0) (faults : A → ℕ) (m : SymbolStart) (start now new : Intake) (prb : ℕ) (before air after : A)
    → ((a b d : A) (xs ys : List Event) → grew a xs b → grew b ys d → grew a (xs ++ ys) d) → ((a b d : A) → same a b → same b d → same a d)
    → IsReporting grew same faults m start now prb before air
    → ((c : Config) (planned : List Allocation) (h : History) (t : ℤ) → Closes c planned (at_prb now prb) h → (m.start.0 +ℤ now.wait.0) ≤ℤ t
    → IntakeGoesOn grew c planned h t (at_prb new (prb + 1)) air after)
    → StaysAt now new → same air after → faults after ≡ faults air → IsReporting grew same faults m start new (prb + 1) before after
reporting_goes grew same faults m start now new prb before air after more same_more r told stays same_then still = record {
  goes = λ c planned h to all order.
      let one = r.goes c planned h to all order in
      goes_then grew more to (at_prb now prb) (at_prb new (prb + 1)) before air after c planned h one
      (told c planned (heard h one.told) to one.closes (same_wait start now r.stays m to order));
  some =
      let s = r.some in
      let g = told s.config s.planned s.history (m.start.0 +ℤ now.wait.0) s.closes (≤ℤ_refl (m.start.0 +ℤ now.wait.0)) in
      record { config = s.config; planned = s.planned; history = heard s.history g.told; closes = g.closes };
  next = stays_next now new stays ∙ r.next;
  stays = stays_both start now new r.stays stays;
  reports = stays_claimed now new stays r.reports;
  same_air = same_more before air after r.same_air same_then;
  still = still ∙ r.still;
}

-- and the symbol is done
pub symbol_goes : {A : Type 0} (grew : A → List Event → A → Type 0) (same : A → A → Type 0) (faults : A → ℕ) (m : SymbolStart) (start now : Intake) (prb : ℕ) (before air : A)
    → IsReporting grew same faults m start now prb before air → m.endpoint.prbs ≤ prb
    → (c : Config) (planned : List Allocation) (h : History) (to : ℤ) → Closes c planned start h → (m.start.0 +ℤ start.wait.0) ≤ℤ to → IntakeGoesOn grew c planned h to (over_unit now) before air
symbol_goes grew same faults m start now prb before air r over c planned h to all order =
    let one = r.goes c planned h to all order in
    record {
      told = one.told;
      is = one.is;
      closes = closes_over c planned now (heard h one.told) m prb one.closes r.next over;
      left = λ f at late. left_over c planned now (heard h one.told) m prb one.closes r.next f at;
      heard_is = one.heard_is;
    }

-- the unit whose row was written, at the place of the one before
pub claimed_some : (old new : Intake) → IsClaimedFrom old new → length new.row.items ≡ length old.row.items → ClosesSome old → ClosesSome new
claimed_some old new is same some = record {
  config = some.config;
  planned = some.planned;
  history = some.history;
  closes = closes_claimed some.config some.planned old new some.history is same some.closes;
}

pub claimed_next : (old new : Intake) (m : SymbolStart) → IsClaimedFrom old new → next_in old ≡ Some m → next_in new ≡ Some m
claimed_next old new m is next = ap (λ (u : Intake). next_in u) is ∙ next

pub claimed_wait : (old new : Intake) (m : SymbolStart) (to : ℤ) → IsClaimedFrom old new → (m.start.0 +ℤ old.wait.0) ≤ℤ to → (m.start.0 +ℤ new.wait.0) ≤ℤ to
claimed_wait old new m to is order = subst (λ (u : Intake). (m.start.0 +ℤ u.wait.0) ≤ℤ to) (sym is) order

-- ---- fewer symbols are left

pub symbols_fall : (now new : Intake) (to : ℤ) (m : SymbolStart) → IsNextDue now to m → new.plan ≡ now.plan → new.place.symbol ≡ now.place.symbol + 1 → symbols_left new < symbols_left now
symbols_fall now new to m due plan place =
    let below = symbol_below now.memory.endpoints.items now.plan now.place.symbol m due.next in
    subst (λ (p : UplinkPlan). length p.symbols.items - new.place.symbol < symbols_left now) (sym plan)
    (subst (λ (k : ℕ). length now.plan.symbols.items - k < symbols_left now) (sym place) (less (length now.plan.symbols.items) now.place.symbol below))
  where
    less : (n k : ℕ) → k < n → n - (k + 1) < n - k
    less n k h = omega (arith, h)
