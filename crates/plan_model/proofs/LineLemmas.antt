-- What is known of the lines of a valid plan, and of their parts.
use Rattle.std.proofs.Common.{◌≡◌, ℕ, ℤ, pos, ◌+◌, ◌<◌, ◌≤◌, ◌+ℤ◌, ◌*ℤ◌, ◌≤ℤ◌, ◌<ℤ◌, Bool, true, false, not, ◌&&◌, ◌==◌, nat_le, nat_lt, List, [], map, ap, sym, ◌∙◌, subst, arith}
use Rattle.std.specs.Prelude.{All}
use Rattle.std.proofs.lemmas.Bool.{and_parts, or_parts, eqb-true, leb-false, ltb-false}
use Rattle.std.proofs.lemmas.Int.{ints}
use Rattle.fh_base.specs.Air.{air_of}
use Rattle.fh_base.specs.Carrier.{is_outside}
use Rattle.fh_base.specs.Numbering.{slots_of, symbols_of}
use Rattle.fh_base.specs.declared.values.Slot.{Slot}
use Rattle.window_config.specs.Configs.{IsConfig}
use Rattle.window_config.specs.Endpoints.{IsEndpoint}
use Rattle.window_config.specs.Plans.{IsPlanLine}
use Rattle.window_config.specs.declared.config.Config.{Config}
use Rattle.window_config.specs.declared.endpoints.EndpointConfig.{EndpointConfig}
use Rattle.window_config.specs.declared.plan.PlanLine.{PlanLine}
use Rattle.unit_model.specs.Claims.{same_slot}
use Rattle.unit_model.specs.Commands.{uplink_in}
use Rattle.unit_model.specs.Proper.{IsAt}
use Rattle.unit_model.specs.declared.allocations.Allocation.{Allocation}
use Rattle.unit_model.proofs.ReachLaws.{symbol_soon}
use Rattle.plan_model.specs.Lines.{line_allocation, planned}
use Rattle.plan_model.specs.Streams.{has_part}
use Rattle.plan_model.specs.Valid.{IsValid}
use Rattle.plan_model.specs.Validity.{clash, IsProper}
use Rattle.plan_model.specs.declared.lines.PlannedLine.{PlannedLine}
use Rattle.plan_model.specs.declared.streams.Stream.{Stream}
use Rattle.plan_model.specs.declared.streams.Stream.TheVariants.{DownCommands, UpCommands, DownData, UpData}
use Rattle.plan_model.proofs.SizeLemmas.{some_prbs}
use Rattle.plan_model.proofs.AcceptedLemmas.{AreAllowed}
use Rattle.plan_model.proofs.ScheduleClashLemmas.{own_clash}
use Rattle.plan_model.proofs.SweptLists.{numerology_short}
use Rattle.plan_model.proofs.PlanLemmas.{few_uplink, in_range, line_of, one_line, valid_tested}
use Rattle.plan_model.proofs.SentLemmas.{IsSentStream}
use Rattle.fh_base.specs.declared.frames.TheConstants.{FRAME}
use Rattle.window_config.specs.declared.plan.TheConstants.{LAST_FRAME}
use Rattle.unit_model.specs.declared.uplink.TheConstants.{SLOT_SECTIONS}
use Rattle.unit_model.proofs.ClaimLemmas.{same_slot_is as slots_equal}
use Rattle.fh_base.proofs.Orders.{not_zero}
use Rattle.fh_base.specs.Members.{IsIn}
use Rattle.fh_base.proofs.MadeLists.{of_map, in_all, at_in}

-- ---- a line

pub record IsGoodLine (es : List EndpointConfig) (p : PlannedLine) : Type 0 where
  pub at : IsAt es p.ep p.endpoint
  pub endpoint : IsEndpoint p.endpoint
  pub fits : IsPlanLine p.line
  pub slot : p.line.slot.slot < slots_of p.endpoint.numerology
  pub some : 0 < p.line.count
  pub within : p.line.symbol + p.line.count ≤ symbols_of p.endpoint.numerology
  pub prbs : is_outside p.endpoint.prbs p.line.start_prb p.line.num_prb ≡ false
  pub mask : 0 < p.line.mask

pub line_good : (c : Config) (lines : List PlanLine) → IsConfig c → All IsPlanLine lines → IsValid c lines → (p : PlannedLine) → IsIn p (planned c.endpoints lines)
    → IsGoodLine c.endpoints p
line_good c lines config fit valid p m =
    let l = line_of c.endpoints 0 lines p m in
    let out = in_range [] (planned c.endpoints lines) p (valid_tested c lines valid) m in
    let one = or_parts (nat_le (slots_of p.endpoint.numerology) p.line.slot.slot) _ out in
    let two = or_parts (p.line.count == 0) _ one.1 in
    let three = or_parts (nat_lt (symbols_of p.endpoint.numerology) (p.line.symbol + p.line.count)) _ two.1 in
    let four = or_parts (is_outside p.endpoint.prbs p.line.start_prb p.line.num_prb) (p.line.mask == 0) three.1 in
    record {
      at = l.at;
      endpoint = in_all IsEndpoint p.endpoint c.endpoints config.endpoints.each (at_in p.ep p.endpoint c.endpoints l.at);
      fits = in_all IsPlanLine p.line lines fit l.there;
      slot = leb-false (slots_of p.endpoint.numerology) p.line.slot.slot one.0;
      some = not_zero p.line.count two.0;
      within = ltb-false (symbols_of p.endpoint.numerology) (p.line.symbol + p.line.count) three.0;
      prbs = four.0;
      mask = not_zero p.line.mask four.1;
    }

pub line_proper : (es : List EndpointConfig) (p : PlannedLine) → IsGoodLine es p → IsProper (line_allocation p)
line_proper es p g = record { symbols = g.some; prbs = some_prbs p.endpoint.prbs p.line.num_prb g.endpoint.some; mask = g.mask; twelve = g.fits.mask }

-- ---- all lines

module _ (c : Config) (lines : List PlanLine) (config : IsConfig c) (fit : All IsPlanLine lines) (valid : IsValid c lines) where
  abbrev ps : List PlannedLine
  ps = planned c.endpoints lines

  pub good : (p : PlannedLine) → IsIn p (planned c.endpoints lines) → IsGoodLine c.endpoints p
  good p m = line_good c lines config fit valid p m

  pub are_one : (p q : PlannedLine) → IsIn p (planned c.endpoints lines) → IsIn q (planned c.endpoints lines) → clash (line_allocation p) (line_allocation q) ≡ true → p ≡ q
  are_one p q m n h = one_line [] ps p q (valid_tested c lines valid) m n h

  pub are_same : (p q : PlannedLine) → IsIn p (planned c.endpoints lines) → IsIn q (planned c.endpoints lines) → line_allocation p ≡ line_allocation q → p ≡ q
  are_same p q m n e =
      are_one p q m n (ap (λ (a : Allocation). clash (line_allocation p) a) (sym e) ∙ own_clash (line_allocation p) (line_proper c.endpoints p (good p m)))

  few : (ep : ℕ) (slot : Slot) → uplink_in ep slot (map line_allocation ps) ≤ SLOT_SECTIONS
  few ep slot = let h = few_uplink ep slot [] ps (valid_tested c lines valid) (omega arith) in omega (arith, h)

  pub allowed : AreAllowed (map line_allocation (planned c.endpoints lines))
  allowed = record {
    clear = λ a b m n h.
        (let p = of_map line_allocation a ps m in
        let q = of_map line_allocation b ps n in
        let both : clash (line_allocation p.0) (line_allocation q.0) ≡ true = ap (λ (x : Allocation). clash x (line_allocation q.0)) (sym p.2) ∙ ap (λ (x : Allocation). clash a x) (sym q.2) ∙ h in
        p.2 ∙ ap (λ (x : PlannedLine). line_allocation x) (are_one p.0 q.0 p.1 q.1 both) ∙ sym q.2);
    proper = λ a m. (let p = of_map line_allocation a ps m in subst IsProper (sym p.2) (line_proper c.endpoints p.0 (good p.0 p.1)));
    inside = λ a m. (let p = of_map line_allocation a ps m in subst (λ (x : Allocation). is_outside x.endpoint.prbs x.start_prb x.num_prb ≡ false) (sym p.2) (good p.0 p.1).prbs);
    few = few;
  }

-- ---- a part

-- its line is one of the endpoint, and its symbol is one of the line's slot
pub record IsLinePart (p : PlannedLine) (ep : ℕ) (slot : Slot) : Type 0 where
  pub ep_is : p.ep ≡ ep
  pub slot_is : p.line.slot ≡ slot

part_by : (p : PlannedLine) (ep : ℕ) (slot : Slot) (a b c : Bool) → (a && ((p.ep == ep) && (same_slot p.line.slot slot && b))) ≡ true → IsLinePart p ep slot
part_by p ep slot a b c h =
    let one = and_parts a _ h in
    let two = and_parts (p.ep == ep) _ one.1 in
    let three = and_parts (same_slot p.line.slot slot) b two.1 in
    record { ep_is = eqb-true p.ep ep two.0; slot_is = slots_equal p.line.slot slot three.0 }

pub part_line : (stream : Stream) → IsSentStream stream → (p : PlannedLine) (ep : ℕ) (slot : Slot) (symbol : ℕ) → has_part stream ep slot symbol (line_allocation p) ≡ true → IsLinePart p ep slot
part_line DownCommands s p ep slot symbol h = part_by p ep slot (line_allocation p).down (p.line.symbol == symbol) true h
part_line UpCommands s p ep slot symbol h = part_by p ep slot (not (line_allocation p).down) (p.line.symbol == symbol) true h
part_line DownData s p ep slot symbol h = part_by p ep slot ((line_allocation p).down && not (line_allocation p).idle) _ true h
part_line UpData s p ep slot symbol h = absurd s

-- ---- its start

times : (f s : ℤ) → pos 1 ≤ℤ f → f ≤ℤ pos LAST_FRAME → (f *ℤ FRAME) ≤ℤ s → s <ℤ (f *ℤ FRAME +ℤ pos 76800000000)
    → (FRAME ≤ℤ s) × (s ≤ℤ pos 1536100000000000)
times f s a b low high = (omega (arith, ints, a, low), omega (arith, ints, b, high))

-- a symbol of a line's slot starts in the first 1,001 s, no earlier than frame 1
pub start_in_time : (es : List EndpointConfig) (p : PlannedLine) (symbol : ℕ) → IsGoodLine es p → symbol < symbols_of p.endpoint.numerology
    → (FRAME ≤ℤ air_of p.endpoint.numerology p.line.slot symbol) × (air_of p.endpoint.numerology p.line.slot symbol ≤ℤ pos 1536100000000000)
start_in_time es p symbol g h =
    let soon = symbol_soon p.endpoint.numerology p.line.slot symbol (numerology_short p.endpoint.numerology) (record { subframe = g.fits.subframe; slot = g.slot }) h in
    times p.line.slot.frame (air_of p.endpoint.numerology p.line.slot symbol) g.fits.frame_low g.fits.frame_high soon.0 soon.1
