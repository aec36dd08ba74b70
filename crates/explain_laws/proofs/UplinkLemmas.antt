-- Each element of a plan's `ul` line is in use in a cell that the distributed unit reported.
use Rattle.std.proofs.Common.{◌≡◌, ℕ, ℤ, pos, ◌+◌, ◌<◌, ◌≤◌, ◌+ℤ◌, ◌-ℤ◌, ◌*ℤ◌, ◌≤ℤ◌, ◌<ℤ◌, Bool, true, false, List, refl, sym, ap, ◌∙◌, subst, arith}
use Rattle.std.specs.Prelude.{filter, not, ◌==◌}
use Rattle.std.proofs.lemmas.Bool.{and_from, eq-eqb}
use Rattle.std.proofs.lemmas.Int.{ints}
use Rattle.fh_base.specs.Air.{air_of}
use Rattle.fh_base.specs.Numbering.{symbols_of}
use Rattle.fh_base.specs.declared.nanoseconds.TheConstants.{NANOSECOND}
use Rattle.air_source.specs.declared.events.Side.TheVariants.{Du}
use Rattle.unit_model.specs.Claims.{cell_at, cell_of, covers, in_mask, same_slot, claim_at}
use Rattle.unit_model.specs.Radiated.{is_used}
use Rattle.unit_model.specs.Times.{end_of_time}
use Rattle.unit_model.specs.declared.allocations.Allocation.{Allocation}
use Rattle.unit_model.specs.declared.cells.Cell.{Cell}
use Rattle.unit_model.proofs.ClaimLemmas.{from_within, slot_self, way_self, within_carrier}
use Rattle.plan_model.specs.Lines.{is_down_kind, is_idle_kind, is_up_line, line_allocation, planned, uplink_allocations}
use Rattle.plan_model.proofs.LineLemmas.{line_good, start_in_time}
use Rattle.uplink_laws.proofs.BlockLemmas.{not_down}
use Rattle.uplink_laws.proofs.JobLemmas.{of_uplink}
use Rattle.document_traffic.proofs.LineLemmas.{lines_fit}
use Rattle.window_config.specs.declared.delays.TheConstants.{MOST_DELAY}
use Rattle.window_config.specs.declared.plan.PlanKind.{PlanKind}
use Rattle.window_config.specs.declared.plan.PlanKind.TheVariants as kind
use Rattle.explain_laws.specs.Uplink.{PlannedUplinkIsHeard}
use Rattle.explain_laws.proofs.UsedLemmas.{heard, named_is_used}
use Rattle.fh_base.specs.Members.{IsIn}
use Rattle.fh_base.proofs.MemberLemmas.{in_filter}
use Rattle.fh_base.proofs.MadeLists.{in_map}
use Rattle.uplink_laws.proofs.SingleLemmas.{after_clock}
use Rattle.fh_base.proofs.Orders.{not_negative}

before_end : (s ns : ℤ) → s ≤ℤ pos 1536100000000000 → ns ≤ℤ pos MOST_DELAY → s <ℤ ((end_of_time -ℤ ns *ℤ pos NANOSECOND) +ℤ pos 1)
before_end s ns h k = omega (arith, ints, h, k)

under : (s m n : ℕ) → s < m → m ≤ n → s < n
under s m n k l = omega (arith, k, l)

idle_not : (k : PlanKind) → not (is_down_kind k) ≡ true → is_idle_kind k ≡ false
idle_not kind.Down h = absurd cc
idle_not kind.Up h = refl
idle_not kind.Idle h = absurd cc

pub planned_uplink_is_heard : PlannedUplinkIsHeard
planned_uplink_is_heard d t doc valid plan p symbol prb re m uplink symbol_is prb_is small named =
    let c = d.config in
    let ps = planned c.endpoints d.plan in
    let a = line_allocation p in
    let kind = not_down p.line.kind uplink in
    let g = line_good c d.plan doc.config (lines_fit d.plan doc.plan) valid p m in
    let symbol_below = under symbol (p.line.symbol + p.line.count) (symbols_of p.endpoint.numerology) (from_within p.line.symbol p.line.count symbol symbol_is) g.within in
    let prb_below = within_carrier p.endpoint.prbs p.line.start_prb p.line.num_prb prb g.prbs prb_is in
    let time = start_in_time c.endpoints p symbol g symbol_below in
    let s = air_of p.endpoint.numerology p.line.slot symbol in
    let ta4 = doc.config.delays.ta4 in
    let covered : covers a (cell_of a symbol prb) ≡ true =
    and_from (p.ep == p.ep) _ (eq-eqb p.ep p.ep refl)
    (and_from _ _ (way_self a.down) (and_from (same_slot p.line.slot p.line.slot) _ (slot_self p.line.slot) (and_from _ _ symbol_is prb_is))) in
    let there : IsIn a (uplink_allocations ps) = in_map line_allocation p (filter is_up_line ps) (in_filter is_up_line p ps m uplink) in
    let busy = λ (b : Allocation) (n : IsIn b (uplink_allocations ps)).
    let q = of_uplink ps b n in ap (λ (x : Allocation). x.idle) q.3 ∙ idle_not q.0.line.kind q.2 in
    let used : is_used (claim_at (uplink_allocations ps) (cell_of a symbol prb) re) ≡ true =
    named_is_used (uplink_allocations ps) (cell_of a symbol prb) re busy a there (and_from (covers a (cell_of a symbol prb)) (in_mask p.line.mask re) covered named) in
    let way : cell_of a symbol prb ≡ cell_at p.ep false p.line.slot symbol prb = ap (λ (b : Bool). cell_at p.ep b p.line.slot symbol prb) kind.0 in
    let used_here : is_used (claim_at t.planned (cell_at p.ep false p.line.slot symbol prb) re) ≡ true =
    subst (λ (xs : List Allocation). is_used (claim_at xs (cell_at p.ep false p.line.slot symbol prb) re) ≡ true) (sym plan)
    (subst (λ (x : Cell). is_used (claim_at (uplink_allocations ps) x re) ≡ true) way used) in
    heard Du c t p.ep p.endpoint p.line.slot symbol prb g.at (record { subframe = g.fits.subframe; slot = g.slot }) symbol_below prb_below
    (after_clock s c.delays.ta4.max time.0 (not_negative c.delays.ta4.min c.delays.ta4.max ta4.low ta4.order)) (before_end s c.delays.ta4.max time.1 ta4.high)
    re small used_here
