-- What it is for a line to be in the ranges of its endpoint.
use Rattle.std.proofs.Common.{◌≡◌, ◌+◌, ◌<◌, ◌≤◌, Bool, true, false, ◌||◌, ◌==◌, nat_lt, nat_le, refl, arith, ℕ, if◌then◌else◌, List, Option, Some, None}
use Rattle.std.proofs.lemmas.Int.{ints}
use Rattle.std.proofs.lemmas.Bool.{or_parts, leb-false, ltb-false}
use Rattle.fh_base.specs.Carrier.{is_outside}
use Rattle.fh_base.specs.Numbering.{slots_of, symbols_of}
use Rattle.window_config.specs.Endpoints.{IsEndpoint}
use Rattle.window_config.specs.Plans.{IsPlanLine}
use Rattle.unit_model.specs.Proper.{IsSlot}
use Rattle.plan_model.specs.Streams.{section_size}
use Rattle.plan_model.specs.Validity.{is_out_of_range}
use Rattle.plan_model.specs.declared.lines.PlannedLine.{PlannedLine}
use Rattle.plan_model.proofs.SizeLemmas.{section_few}
use Rattle.fh_base.proofs.Orders.{not_zero}
use Rattle.window_config.specs.declared.endpoints.EndpointConfig.{EndpointConfig}
use Rattle.unit_model.specs.Claims.{repeats, overlaps}
use Rattle.unit_model.specs.Commands.{is_full, timely_verdict}
use Rattle.unit_model.specs.declared.allocations.Allocation.{Allocation}
use Rattle.unit_model.specs.declared.verdicts.CommandVerdict.{CommandVerdict}
use Rattle.unit_model.specs.declared.verdicts.CommandVerdict.TheVariants as verdict
use Rattle.plan_model.specs.Lines.{line_allocation}
use Rattle.plan_model.specs.declared.refusals.PlanWhy.{PlanWhy}
use Rattle.plan_model.specs.declared.refusals.PlanWhy.TheVariants.{Overlap, TooManySections}
use Rattle.schedule_laws.specs.SlotOrder.{IsEndpointLine}
use Rattle.schedule_laws.specs.SlotTests.{why_in, why_judged}

pub record Inside (p : PlannedLine) : Type 0 where
  pub slot : p.line.slot.slot < slots_of p.endpoint.numerology
  pub some : 0 < p.line.count
  pub within : p.line.symbol + p.line.count ≤ symbols_of p.endpoint.numerology
  pub prbs : is_outside p.endpoint.prbs p.line.start_prb p.line.num_prb ≡ false
  pub mask : 0 < p.line.mask

inside_parts : (a b c d : Bool) → (let x : Bool = a || (b || (c || d)) in x) ≡ false → (a ≡ false) × (b ≡ false) × (c ≡ false) × (d ≡ false)
inside_parts true b c d h = cc
inside_parts false true c d h = cc
inside_parts false false true d h = cc
inside_parts false false false true h = cc
inside_parts false false false false h = (refl, refl, refl, refl)

pub inside_is : (p : PlannedLine) → is_out_of_range p.endpoint p.line ≡ false → Inside p
inside_is p h =
    let q = inside_parts (nat_le (slots_of p.endpoint.numerology) p.line.slot.slot) (p.line.count == 0) (nat_lt (symbols_of p.endpoint.numerology) (p.line.symbol + p.line.count)) _ h in
    let r = or_parts (is_outside p.endpoint.prbs p.line.start_prb p.line.num_prb) (p.line.mask == 0) q.3 in
    record {
      slot = leb-false (slots_of p.endpoint.numerology) p.line.slot.slot q.0;
      some = not_zero p.line.count q.1;
      within = ltb-false (symbols_of p.endpoint.numerology) (p.line.symbol + p.line.count) q.2;
      prbs = r.0;
      mask = not_zero p.line.mask r.1;
    }

pub slot_inside : (p : PlannedLine) → IsPlanLine p.line → is_out_of_range p.endpoint p.line ≡ false → IsSlot p.endpoint.numerology p.line.slot
slot_inside p ranges inside =
    let i = inside_is p inside in
    let l = ranges.frame_low in
    let h = ranges.frame_high in
    record { low = omega (arith, ints); high = omega (arith, ints); subframe = ranges.subframe; slot_is = i.slot }

-- ---- the bytes of a section

pub size_small : (p : PlannedLine) → IsEndpoint p.endpoint → is_out_of_range p.endpoint p.line ≡ false → section_size p.endpoint p.line.num_prb ≤ 13383
size_small p is inside = section_few p.endpoint p.line.start_prb p.line.num_prb is.width is.most (inside_is p inside).prbs

-- ---- a line of an endpoint

pub slot_of_line : (e : EndpointConfig) (ep : ℕ) (p : PlannedLine) → IsEndpointLine e ep p → IsSlot p.endpoint.numerology p.line.slot
slot_of_line e ep p is = slot_inside p is.ranges is.inside

-- the reason by the verdict
pub why_known : (earlier : List Allocation) (p : PlannedLine) → is_out_of_range p.endpoint p.line ≡ false
    → why_judged earlier (line_allocation p) ≡ why_in (timely_verdict earlier (line_allocation p))
why_known earlier p inside = go (is_outside p.endpoint.prbs p.line.start_prb p.line.num_prb) (repeats earlier (line_allocation p)) (overlaps earlier (line_allocation p)) (is_full earlier (line_allocation p)) (inside_is p inside).prbs
  where
    go : (x r o f : Bool) → x ≡ false
        → (let w : Option PlanWhy = if r then Some Overlap else (if o then Some Overlap else (if f then Some TooManySections else None)) in w)
        ≡ why_in (let v : CommandVerdict = if x then verdict.Range else (if r then verdict.Repeat else (if o then verdict.Overlap else (if f then verdict.Full else verdict.Accepted))) in v)
    go true r o f h = cc
    go false true o f h = refl
    go false false true f h = refl
    go false false false true h = refl
    go false false false false h = refl
