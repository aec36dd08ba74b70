use Rattle.std.proofs.Common.{rules, subst}
use Rattle.frame_ways.proofs.Within.{HasTimes, copies_within}
use Rattle.frame_ways.proofs.deliveries.FrameDeliveries.copies.Goals as goal

pub returns-in-Some-clause-within : goal.returns-in-Some-clause-within
returns-in-Some-clause-within c = λ transits all. subst (HasTimes c.args.class) (search rules) (copies_within c.args.self.now.document transits all c.args.self.now.side c.args.class c.args.k)

pub returns-in-None-clause-within : goal.returns-in-None-clause-within
returns-in-None-clause-within c = λ transits all. subst (HasTimes c.args.class) (search rules) (copies_within c.args.self.now.document transits all c.args.self.now.side c.args.class c.args.k)
