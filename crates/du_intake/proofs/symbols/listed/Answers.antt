-- Slot after slot.
use Rattle.std.proofs.Common.{arith, get_or}
use Rattle.du_intake.proofs.ListingLemmas.{blank, boundary_more, endpoint_at, endpoint_below, listed_more, slot_of}
use Rattle.du_intake.proofs.symbols.listed.Goals as goal

pub offset_bounds-endpoints-head : goal.offset_bounds-endpoints-head
offset_bounds-endpoints-head c =
    let below = endpoint_below c.args.endpoints.now c.args.lines.now c.loop-first.first blank c.requires.lines c.loop-first-test.true in
    let few = c.requires.few in omega (arith, below, few)

pub bounds-endpoints-head : goal.bounds-endpoints-head
bounds-endpoints-head c = endpoint_below c.args.endpoints.now c.args.lines.now c.loop-first.first blank c.requires.lines c.loop-first-test.true

pub put_slot-requires-clause-slot : goal.put_slot-requires-clause-slot
put_slot-requires-clause-slot c =
    slot_of c.args.endpoints.now c.args.lines.now c.loop-first.first blank c.index-endpoints-head.result c.requires.lines c.loop-first-test.true
    (endpoint_at c.args.endpoints.now (get_or c.args.lines.now c.loop-first.first blank).ep c.index-endpoints-head.result
    (endpoint_below c.args.endpoints.now c.args.lines.now c.loop-first.first blank c.requires.lines c.loop-first-test.true) c.index-endpoints-head.is)

pub loop-first-preserved : goal.loop-first-preserved
loop-first-preserved c = record {
  within = c.slot_end-end.ensures.within;
  symbols =
      listed_more c.args.endpoints.now c.args.lines.now c.loop-first.first c.slot_end-end.result blank c.index-endpoints-head.result c.loop-first.symbols.items c.put_slot.new.symbols.items
      c.requires.order c.requires.lines c.slot_end-end.ensures
      (endpoint_at c.args.endpoints.now (get_or c.args.lines.now c.loop-first.first blank).ep c.index-endpoints-head.result
      (endpoint_below c.args.endpoints.now c.args.lines.now c.loop-first.first blank c.requires.lines c.loop-first-test.true) c.index-endpoints-head.is)
      c.loop-first.invariant.boundary c.loop-first.invariant.symbols c.in_ok-put_slot.ensures;
  boundary = boundary_more c.args.lines.now c.loop-first.first c.slot_end-end.result blank c.requires.order c.slot_end-end.ensures c.loop-first.invariant.boundary;
}
