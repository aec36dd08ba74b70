-- An arrival changes nothing whose moment has passed.
use Rattle.std.proofs.Common.{◌≡◌, ℕ, ℤ, pos, ◌-ℤ◌, ◌+ℤ◌, ◌*ℤ◌, ◌≤ℤ◌, ◌<ℤ◌, Bool, true, false, List, [], ◌∷◌, ◌++◌, inl, inr, refl, ap, ◌∙◌, arith}
use Rattle.std.specs.Prelude.{◌==◌, map, filter, reverse, cond}
use Rattle.std.proofs.lemmas.Bool.{and_parts, eqb-true}
use Rattle.std.proofs.lemmas.Int.{ints}
use Rattle.std.proofs.lemmas.List.{append-nil, reverse-append}
use Rattle.std.proofs.lemmas.List.Elements.{filter-append}
use Rattle.fh_base.specs.Air.{air_of}
use Rattle.fh_base.specs.declared.values.Slot.{Slot}
use Rattle.fh_base.proofs.Order.{symbols_in_order}
use Rattle.unit_model.specs.Terms.{Side, Ru, Du, is_down}
use Rattle.window_config.specs.Limits.{IsWithinLimits}
use Rattle.window_config.specs.Windows.{command_window_of, data_window_of}
use Rattle.window_config.specs.declared.delays.Delays.{Delays}
use Rattle.window_config.specs.declared.endpoints.EndpointConfig.{EndpointConfig}
use Rattle.window_config.specs.declared.verdicts.Class.TheVariants as class
use Rattle.window_config.proofs.Timing.{class_on_time, class_up_on_time}
use Rattle.unit_model.specs.Blocks.{data_class, data_slot, data_start}
use Rattle.unit_model.specs.Claims.{cell_at, covers, in_mask, is_from, same_slot}
use Rattle.unit_model.specs.Commands.{accepted, allocation_of, command_class, command_slot, command_start, is_uplink}
use Rattle.fh_base.specs.Lists.{in_order}
use Rattle.unit_model.specs.Proper.{IsAt}
use Rattle.unit_model.specs.Radiated.{wait_of}
use Rattle.unit_model.specs.Uplink.{is_before, job_of, sends_in, symbol_jobs}
use Rattle.unit_model.specs.declared.allocations.Allocation.{Allocation}
use Rattle.unit_model.specs.declared.decoded.ControlSection.{ControlSection}
use Rattle.unit_model.specs.declared.decoded.UserSection.{UserSection}
use Rattle.unit_laws.specs.Past.{IsInOrder, IsPast, CommandLeavesPast, DataLeavePast, CommandLeavesReports, DataLeaveReports, CommandLeavesJobs}
use Rattle.unit_laws.proofs.AcceptanceLemmas.{accepted_is_acceptable}
use Rattle.unit_laws.proofs.CellLemmas.{data_covers_is}
use Rattle.unit_laws.proofs.ChangeLemmas.{accepted_more, either_way, only_accepted, only_timely}
use Rattle.unit_laws.proofs.FarLemmas.{endpoints_equal}
use Rattle.unit_laws.proofs.ReportLemmas.{report_of_cells}
use Rattle.unit_model.proofs.ClaimLemmas.{same_slot_is as slots_equal, starts_before as from_first, covers_is}
use Rattle.fh_base.specs.declared.nanoseconds.TheConstants.{NANOSECOND}

later : (least s at : ℤ) → pos 1 ≤ℤ least → (least *ℤ pos NANOSECOND) ≤ℤ (s -ℤ at) → at <ℤ s
later least s at some h = omega (arith, ints)

sum_some : (a b : ℤ) → pos 1 ≤ℤ a → pos 0 ≤ℤ b → pos 1 ≤ℤ (a +ℤ b)
sum_some a b h k = omega (arith, ints)

beyond : (at s t u : ℤ) → at <ℤ s → s ≤ℤ t → t ≤ℤ u → at <ℤ u
beyond at s t u a b c = omega (arith, ints)

-- each window has a minimum of 1 ns or more
window_some : (d : Delays) (down : Bool) → IsWithinLimits d → pos 1 ≤ℤ (command_window_of d down).min
window_some d true limits = sum_some d.t2a_up.min d.advance limits.t2a_up.low limits.advance.low
window_some d false limits = limits.t2a_cp_ul.low

-- so what is on time is before its symbol
pub command_before : (d : Delays) (c : ControlSection) → IsWithinLimits d → command_class d c ≡ class.OnTime → c.at.0 <ℤ command_start c
command_before d c limits h =
    let is = (class_on_time c.at.0 c.at.0 (command_start c) (command_window_of d c.head.down)).0 h in
    later (command_window_of d c.head.down).min (command_start c) c.at.0 (window_some d c.head.down limits) is.soon_enough

pub data_before : (d : Delays) (x : UserSection) → IsWithinLimits d → data_class Ru d x ≡ class.OnTime → x.last.0 <ℤ data_start x
data_before d x limits h =
    let is = (class_on_time x.first.0 x.last.0 (data_start x) (data_window_of d)).0 h in
    later d.t2a_up.min (data_start x) x.last.0 limits.t2a_up.low is.soon_enough

-- the symbols of an accepted section start after it was received
pub section_before : (d : Delays) (c : ControlSection) (symbol : ℕ) → IsWithinLimits d → IsInOrder c → command_class d c ≡ class.OnTime
    → is_from c.section.symbol c.section.num_symbol symbol ≡ true → c.at.0 <ℤ air_of c.endpoint.numerology (command_slot c) symbol
section_before d c symbol limits order on_time within =
    let n = c.endpoint.numerology in
    beyond c.at.0 (command_start c) (air_of n (command_slot c) c.section.symbol) (air_of n (command_slot c) symbol) (command_before d c limits on_time)
    (symbols_in_order n (command_slot c) c.head.start_symbol c.section.symbol order)
    (symbols_in_order n (command_slot c) c.section.symbol symbol (from_first c.section.symbol c.section.num_symbol symbol within))

-- the same time, told of the endpoint with this index
same_time : (es : List EndpointConfig) (i j : ℕ) (e f : EndpointConfig) (s t : Slot) (x y : ℕ) → IsAt es i e → IsAt es j f → i ≡ j → s ≡ t → x ≡ y
    → air_of e.numerology s x ≡ air_of f.numerology t y
same_time es i j e f s t x y at_i at_j ep slot symbol =
    ap (λ (z : EndpointConfig). air_of z.numerology s x) (endpoints_equal es i j e f at_i at_j ep)
    ∙ ap (λ (z : Slot). air_of f.numerology z x) slot ∙ ap (air_of f.numerology t) symbol

not_past : (at s t : ℤ) → at <ℤ s → s ≡ t → t ≤ℤ at → ⊥
not_past at s t a b c = omega (arith, ints)

pub command_leaves_past : CommandLeavesPast
command_leaves_past es d c earlier e cell re limits proper order at past = elim (only_accepted d c earlier cell re) [
  | inl same ↦ same
  | inr is ↦
      let a = allocation_of c in
      let where_is = covers_is a cell (and_parts (covers a cell) (in_mask a.mask re) is.1).0 in
      let on_time = (accepted_is_acceptable d (accepted d earlier) c is.0).on_time in
      absurd (not_past c.at.0 (air_of c.endpoint.numerology (command_slot c) cell.symbol) (air_of e.numerology cell.slot cell.symbol)
      (section_before d c cell.symbol limits order on_time where_is.symbol)
      (same_time es c.ep cell.ep c.endpoint e (command_slot c) cell.slot cell.symbol cell.symbol proper.endpoint at where_is.ep where_is.slot refl) past)
]

waited : (last start window at : ℤ) → (last -ℤ start) ≤ℤ window → start ≡ at → (at +ℤ window) <ℤ last → ⊥
waited last start window at a b c = omega (arith, ints)

-- so data that are on time are of no moment that is past
never_past : (side : Side) (d : Delays) (x : UserSection) (start : ℤ) → IsWithinLimits d → data_class side d x ≡ class.OnTime → data_start x ≡ start → IsPast side d start x.last.0 → ⊥
never_past Ru d x start limits h same past = not_past x.last.0 (data_start x) start (data_before d x limits h) same past
never_past Du d x start limits h same past =
    let is = (class_up_on_time x.first.0 x.last.0 (data_start x) d.ta4).0 h in
    waited x.last.0 (data_start x) (wait_of Du d) start is.soon_enough same past

pub data_leave_past : DataLeavePast
data_leave_past side es d x earlier e cell limits proper at past = elim (only_timely side d x earlier cell) [
  | inl same ↦ same
  | inr is ↦
      let where_is = data_covers_is x cell is.1 in
      absurd (never_past side d x (air_of e.numerology cell.slot cell.symbol) limits is.0
      (same_time es x.ep cell.ep x.endpoint e (data_slot x) cell.slot x.section.symbol cell.symbol proper.endpoint at where_is.ep where_is.slot where_is.symbol) past)
]

pub command_leaves_reports : CommandLeavesReports
command_leaves_reports side es d c earlier given ep e slot symbol limits proper order at past =
    report_of_cells side _ _ ep e slot symbol
    (λ prb re prb_below below. command_leaves_past es d c earlier e (cell_at ep (is_down side) slot symbol prb) re limits proper order at past)
    (λ prb below. refl)

pub data_leave_reports : DataLeaveReports
data_leave_reports side es d x earlier claimed ep e slot symbol limits proper at past =
    report_of_cells side _ _ ep e slot symbol
    (λ prb re prb_below below. refl)
    (λ prb below. data_leave_past side es d x earlier e (cell_at ep (is_down side) slot symbol prb) limits proper at past)

-- ---- the messages of a symbol

-- one more allocation that sends nothing in a symbol
pub jobs_same : (a : Allocation) (earlier : List Allocation) (ep : ℕ) (e : EndpointConfig) (slot : Slot) (symbol : ℕ) → sends_in ep slot symbol a ≡ false
    → symbol_jobs (a ∷ earlier) ep e slot symbol ≡ symbol_jobs earlier ep e slot symbol
unfolding symbol_jobs
jobs_same a earlier ep e slot symbol h =
    let p = sends_in ep slot symbol in
    let one : filter p (a ∷ []) ≡ [] = ap (λ (b : Bool). cond b (a ∷ []) (let none : List Allocation = [] in none)) h in
    let all : filter p (reverse (a ∷ earlier)) ≡ filter p (reverse earlier) =
    ap (filter p) (reverse-append (a ∷ []) earlier) ∙ filter-append p (reverse earlier) (a ∷ [])
    ∙ ap (λ (xs : List Allocation). filter p (reverse earlier) ++ xs) one ∙ append-nil (filter p (reverse earlier)) in
    ap (λ (xs : List Allocation). map (job_of ep (air_of e.numerology slot symbol) slot symbol) (in_order is_before xs)) all

-- what it is to send in a symbol
pub record Sends (ep : ℕ) (slot : Slot) (symbol : ℕ) (a : Allocation) : Type 0 where
  pub ep_is : a.ep ≡ ep
  pub slot_is : a.slot ≡ slot
  pub symbol_is : is_from a.symbol a.num_symbol symbol ≡ true

pub sends_is : (ep : ℕ) (slot : Slot) (symbol : ℕ) (a : Allocation) → sends_in ep slot symbol a ≡ true → Sends ep slot symbol a
sends_is ep slot symbol a h =
    let one = and_parts (is_uplink a) _ h in
    let two = and_parts (a.ep == ep) _ one.1 in
    let three = and_parts (same_slot a.slot slot) (is_from a.symbol a.num_symbol symbol) two.1 in
    record { ep_is = eqb-true a.ep ep two.0; slot_is = slots_equal a.slot slot three.0; symbol_is = three.1 }

pub command_leaves_jobs : CommandLeavesJobs
command_leaves_jobs es d c earlier ep e slot symbol limits proper order at past = elim (accepted_more d c earlier) [
  | inl same ↦ ap (λ (xs : List Allocation). symbol_jobs xs ep e slot symbol) same
  | inr is ↦ elim (either_way (sends_in ep slot symbol (allocation_of c))) [
    | inl other ↦ ap (λ (xs : List Allocation). symbol_jobs xs ep e slot symbol) is.1 ∙ jobs_same (allocation_of c) (accepted d earlier) ep e slot symbol other
    | inr own ↦
        let where_is = sends_is ep slot symbol (allocation_of c) own in
        let on_time = (accepted_is_acceptable d (accepted d earlier) c is.0).on_time in
        absurd (not_past c.at.0 (air_of c.endpoint.numerology (command_slot c) symbol) (air_of e.numerology slot symbol)
        (section_before d c symbol limits order on_time where_is.symbol_is)
        (same_time es c.ep ep c.endpoint e (command_slot c) slot symbol symbol proper.endpoint at where_is.ep_is where_is.slot_is refl) past)
  ]
]
