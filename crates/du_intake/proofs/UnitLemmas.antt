-- The intake stands for its history when it is made, and after each arrival.
use Rattle.std.proofs.Common.{◌≡◌, ℕ, ℤ, pos, ◌≤◌, ◌-ℤ◌, ◌≤ℤ◌, List, [], ◌∷◌, ◌++◌, refl, sym, ap, ◌∙◌, subst, arith}
use Rattle.std.specs.Prelude.{All, false, not, nat_lt, IfSome, Option, Some, None}
use Rattle.std.proofs.lemmas.Bool.Decides.{nat_tests}
use Rattle.std.proofs.lemmas.List.Elements.{All-nil, All-cons, All-weaker}
use Rattle.std.specs.Int.Signed.{≤ℤ_refl}
use Rattle.air_source.specs.declared.events.Side.TheVariants.{Du}
use Rattle.window_config.specs.declared.config.Config.{Config}
use Rattle.fault_counters.specs.declared.kinds.Counter.{Counter}
use Rattle.unit_model.specs.Counts.{cells_counted}
use Rattle.unit_model.specs.Meetings.{Arrival}
use Rattle.unit_model.specs.Proper.{IsProperData, IsTime}
use Rattle.unit_model.specs.Radiated.{first_clock, wait_of}
use Rattle.unit_model.specs.Reports.{data_of, du_known, timely_of}
use Rattle.unit_model.specs.Standing.{History, IsOwed, arrived, at_clock, nothing_yet}
use Rattle.unit_model.specs.declared.allocations.Allocation.{Allocation}
use Rattle.unit_model.proofs.BlockLemmas.{all_timely}
use Rattle.unit_laws.proofs.HistoryLemmas.{data_are_proper}
use Rattle.unit_cells.specs.Told.{IsTold}
use Rattle.unit_cells.proofs.ToldLemmas.{told_whole}
use Rattle.unit_laws.specs.Arriving.{IsNextArrival}
use Rattle.unit_laws.proofs.ArrivingLemmas.{arrival_leaves_due}
use Rattle.unit_memory.specs.Memory.{Holds, HoldsSome, arrival_at}
use Rattle.unit_memory.specs.declared.memory.UnitMemory.{UnitMemory}
use Rattle.unit_memory.proofs.HoldLemmas.{holds_later}
use Rattle.unit_model.specs.Order.{comes_before}
use Rattle.unit_model.specs.Starts.{start_at}
use Rattle.unit_model.specs.declared.symbol_start.SymbolStart.{SymbolStart}
use Rattle.window_config.specs.declared.endpoints.EndpointConfig.{EndpointConfig}
use Rattle.du_intake.specs.Cursors.{ArePlanned, CellCursor, HasStillLeft, IsNamed, IsNextPlannedSymbol, is_behind}
use Rattle.du_intake.specs.Symbols.{IsListed, symbol_at}
use Rattle.du_intake.specs.Units.{IntakeKeeps, IntakeStands, cursor_by, intake_due_of}
use Rattle.du_intake.specs.declared.plan.Place.{Place}
use Rattle.du_intake.specs.declared.plan.UplinkPlan.{UplinkPlan}
use Rattle.du_intake.proofs.DueLemmas.{own_not_behind}
use Rattle.du_intake.proofs.NextLemmas.{first_symbol}
use Rattle.du_intake.proofs.UsedLemmas.{named_left, used_named}
use Rattle.unit_symbols.specs.Searches.{IsNotBefore}
use Rattle.fh_base.proofs.Orders.{at_most}
use Rattle.unit_laws.proofs.BeginLemmas.{nothing_past}
use Rattle.unit_model.proofs.SlotLemmas.{first_time}
use Rattle.fh_base.specs.declared.carrier.TheConstants.{CARRIER_PRBS}
use Rattle.unit_laws.proofs.UnitLemmas.{whole_data}

-- ---- what it answers

module _ (c : Config) (planned : List Allocation) (m : UnitMemory) (clock : ℤ) (cursor : CellCursor) (h : History) (k : IntakeKeeps c planned m clock cursor h) where
  pub all_told : All IsTold (timely_of Du c h.arrivals)
  all_told =
      All-weaker (IsProperData c.endpoints) IsTold (whole_data c.endpoints) (timely_of Du c h.arrivals)
      (all_timely (IsProperData c.endpoints) Du c.delays (data_of Du c h.arrivals) (data_are_proper Du c h.clock h.arrivals k.holds.came k.holds.times))

  pub stands : (plan : UplinkPlan) (room : ℕ) (wait : ℤ) → IsListed c planned plan → CARRIER_PRBS ≤ room → wait ≡ wait_of Du c.delays → IfSome cursor.next (HasStillLeft planned cursor.prb)
      → IntakeStands c planned m clock wait plan room cursor h
  stands plan room wait listed most waits left = record {
    answers = record {
      kept = record {
        clock = k.clock_is;
        came = k.holds.came;
        counts = k.holds.counts;
        fragments = k.holds.fragments;
        hold = k.holds.hold;
        blocks = λ e cell is down live. k.holds.keeps.blocks e cell is down live ∙ told_whole (timely_of Du c h.arrivals) cell all_told;
        past = k.past;
        told = k.told;
        history = record { differ = k.differ; owed = k.owed; later = []; given = sym (ap (λ js. js ++ []) k.given) };
      };
      claims = λ e cell re is down few. listed.claims cell re down;
    };
    kept = k;
    wait_is = waits;
    left = left;
    plan_is = listed;
    room_is = most;
  }

-- ---- a unit that was made

pub found_behind : (x : SymbolStart) (prb : ℕ) (next : Option SymbolStart) → IsNotBefore x next → is_behind next 0 x prb ≡ false
found_behind x prb None h = absurd h
found_behind x prb (Some f) h = own_not_behind (comes_before x f) (not (comes_before f x)) (nat_lt prb 0) h (grind (arith, nat_tests))

left_made : (c : Config) (planned : List Allocation) (next : Option SymbolStart) → ArePlanned c planned → IfSome next (IsNamed planned) → IfSome next (HasStillLeft planned 0)
left_made c planned None plan named = tt
left_made c planned (Some m) plan named = named_left c planned m plan named

pub stands_made : (c : Config) (planned : List Allocation) (plan : UplinkPlan) (room : ℕ) (m : UnitMemory) (wait : ℤ) → ArePlanned c planned
    → ((clock : ℤ) → Holds Du c clock m [] []) → IsListed c planned plan → CARRIER_PRBS ≤ room → wait ≡ wait_of Du c.delays
    → IntakeStands c planned m first_clock wait plan room (cursor_by m plan (record { symbol = 0; prb = 0 })) nothing_yet
stands_made c planned plan room m wait plans holds listed most waits =
    let next : Option SymbolStart = symbol_at m.endpoints.items plan 0 in
    let first : IsNextPlannedSymbol planned None next =
    subst (λ (es : List EndpointConfig). IsNextPlannedSymbol planned None (symbol_at es plan 0)) (sym (holds first_clock).endpoints) (first_symbol c planned plan listed) in
    stands c planned m first_clock (cursor_by m plan (record { symbol = 0; prb = 0 })) nothing_yet (record {
      holds = holds first_clock;
      clock_is = refl;
      time = first_time;
      begun = ≤ℤ_refl first_clock;
      past = nothing_past c (du_known c planned []);
      told = λ e cell is down heard. cc;
      differ = tt;
      owed = All-nil (IsOwed Du c (du_known c planned []));
      given = refl;
      plan = plans;
      reports = λ e cell is down used.
          sym (found_behind (start_at cell.ep e cell.slot cell.symbol) cell.prb next
          (first.first (start_at cell.ep e cell.slot cell.symbol) (used_named c planned e cell plans is.endpoint used) refl));
      named = first.named;
    }) plan room wait listed most waits (left_made c planned next plans first.named)

-- ---- an arrival

module _ (c : Config) (planned : List Allocation) (m : UnitMemory) (clock wait at : ℤ) (plan : UplinkPlan) (room : ℕ) (place : Place) (h : History)
    (all : IntakeStands c planned m clock wait plan room (cursor_by m plan place) h) (order : clock ≤ℤ at) (time : IsTime at) (none : intake_due_of c planned h (at -ℤ pos 1) ≡ []) where
  abbrev cursor : CellCursor
  cursor = cursor_by m plan place

  abbrev k : IntakeKeeps c planned m clock cursor h
  k = all.kept

  after : h.clock ≤ℤ at
  after = subst (λ (t : ℤ). t ≤ℤ at) k.clock_is order

  pub holds_at : Holds Du c at m h.arrivals (cells_counted h.reported)
  holds_at = holds_later Du c h.clock at m h.arrivals (cells_counted h.reported) after k.holds

  pub holds_some : HoldsSome at m
  holds_some = record { side = Du; config = c; arrivals = h.arrivals; beside = cells_counted h.reported; holds = holds_at }

  is_next : (frame : List ℕ) → IsNextArrival c (arrival_at at frame) h.arrivals
  is_next frame = record {
    limits = k.holds.config.delays;
    came = holds_at.came;
    times = All-cons (λ (x : Arrival). IsTime x.at) (arrival_at at frame) h.arrivals time k.holds.times;
  }

  pub stands_delivered : (m2 : UnitMemory) (frame : List ℕ)
      → ((arrivals : List Arrival) (beside : List Counter) → Holds Du c at m arrivals beside → Holds Du c at m2 (arrival_at at frame ∷ arrivals) beside)
      → IntakeStands c planned m2 at wait plan room (cursor_by m2 plan place) (arrived (at_clock h at) frame)
  stands_delivered m2 frame holds =
      let same : cursor ≡ cursor_by m2 plan place =
      ap (λ (es : List EndpointConfig). (let r : CellCursor = record { next = symbol_at es plan place.symbol; prb = place.prb } in r))
      (k.holds.endpoints ∙ sym (holds h.arrivals (cells_counted h.reported) holds_at).endpoints) in
      subst (λ (x : CellCursor). IntakeStands c planned m2 at wait plan room x (arrived (at_clock h at) frame)) same
      (stands c planned m2 at cursor (arrived (at_clock h at) frame) (record {
        holds = holds h.arrivals (cells_counted h.reported) holds_at;
        clock_is = refl;
        time = time;
        begun = at_most first_clock h.clock at k.begun after;
        past =
            arrival_leaves_due Du c planned (arrival_at at frame) h.arrivals h.reported (at -ℤ pos 1) (is_next frame) (≤ℤ_refl (at -ℤ pos 1)) ∙ none;
        told = k.told;
        differ = k.differ;
        owed = All-weaker (IsOwed Du c (du_known c planned h.arrivals)) (IsOwed Du c (du_known c planned (arrival_at at frame ∷ h.arrivals)))
            (λ x o. record {
              endpoint = o.endpoint;
              cell = o.cell;
              is_cell = o.is_cell;
              down = o.down;
              of_cell = o.of_cell;
              starts = o.starts;
              used = o.used;
            }) h.reported k.owed;
        given = k.given;
        plan = k.plan;
        reports = k.reports;
        named = k.named;
      }) plan room wait all.plan_is all.room_is all.wait_is all.left)
