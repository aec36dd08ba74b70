use Rattle.slot_rings.proofs.RingLemmas.{opened_has, opened_claims, opened_blocks, opened_all_reported, opened_uplinks, opened_parted}
use Rattle.slot_rings.proofs.ring.SlotRing.open.Goals as goal

pub returns-clause-has : goal.returns-clause-has
returns-clause-has c = opened_has c.args.self.now c.open_place.new.self c.args.slot c.open_place.ensures.ring c.open_place.ensures.only c.open_place.ensures.opened

pub returns-clause-claims : goal.returns-clause-claims
returns-clause-claims c = opened_claims c.args.self.now c.open_place.new.self c.args.slot c.open_place.ensures.ring c.open_place.ensures.only c.open_place.ensures.opened

pub returns-clause-blocks : goal.returns-clause-blocks
returns-clause-blocks c = opened_blocks c.args.self.now c.open_place.new.self c.args.slot c.open_place.ensures.ring c.open_place.ensures.only c.open_place.ensures.opened

pub returns-clause-reported : goal.returns-clause-reported
returns-clause-reported c = opened_all_reported c.args.self.now c.open_place.new.self c.args.slot c.open_place.ensures.ring c.open_place.ensures.only c.open_place.ensures.opened

pub returns-clause-uplink : goal.returns-clause-uplink
returns-clause-uplink c = opened_uplinks c.args.self.now c.open_place.new.self c.args.slot c.open_place.ensures.ring c.open_place.ensures.only c.open_place.ensures.opened

pub returns-clause-parted : goal.returns-clause-parted
returns-clause-parted c = opened_parted c.args.self.now c.open_place.new.self c.args.slot c.open_place.ensures.ring c.open_place.ensures.only c.open_place.ensures.opened
