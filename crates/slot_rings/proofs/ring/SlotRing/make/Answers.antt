use Rattle.slot_rings.specs.Rings.{RingValue}
use Rattle.slot_rings.proofs.FreshLemmas.{fresh_size, fresh_ring, fresh_flags, fresh_sections, fresh_starts, fresh_empty}
use Rattle.slot_rings.proofs.ring.SlotRing.make.Goals as goal

pub invariant_of-result : goal.invariant_of-result
invariant_of-result c =
    let r : RingValue = record { endpoint = c.args.endpoint; places = c.in_ok-places.places.items } in
    let fresh = c.in_ok-places.ensures in (
      fresh_ring r c.args.slots fresh c.requires.some c.requires.few c.requires.prbs_some c.requires.prbs_few,
      fresh_flags r c.args.slots c.in_ok-pending.pending fresh c.in_ok-pending.ensures,
      fresh_sections r c.args.slots fresh,
      fresh_starts r c.args.slots c.in_ok-starts.starts fresh c.in_ok-starts.ensures,
    )

pub returns-clause-size : goal.returns-clause-size
returns-clause-size c = fresh_size (record { endpoint = c.args.endpoint; places = c.in_ok-places.places.items }) c.args.slots c.in_ok-places.ensures

pub returns-clause-empty : goal.returns-clause-empty
returns-clause-empty c = fresh_empty (record { endpoint = c.args.endpoint; places = c.in_ok-places.places.items }) c.args.slots c.in_ok-places.ensures
