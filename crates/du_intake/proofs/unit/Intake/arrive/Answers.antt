use Rattle.std.proofs.Common.{length}
use Rattle.air_source.specs.declared.events.Side.TheVariants.{Du}
use Rattle.du_intake.proofs.UnitLemmas.{holds_at, holds_some, stands_delivered}
use Rattle.du_intake.proofs.unit.Intake.arrive.Goals as goal

pub arrive_told-requires-clause-unit : goal.arrive_told-requires-clause-unit
arrive_told-requires-clause-unit g c =
    let u = c.args.self.now in
    let some = c.requires.unit in
    holds_some some.config some.planned u.memory u.clock.0 u.wait.0 c.args.at.0 u.plan (length u.row.items) u.place some.history some.stands c.requires.order c.requires.time some.reported

pub returns-clause-stands : goal.returns-clause-stands
returns-clause-stands g c k planned h all none =
    let u = c.args.self.now in
    stands_delivered k planned u.memory u.clock.0 u.wait.0 c.args.at.0 u.plan (length u.row.items) u.place h all c.requires.order c.requires.time none c.arrive_told.new.self c.args.frame.now
    (c.arrive_told.ensures.holds Du k)

pub returns-clause-told : goal.returns-clause-told
returns-clause-told g c k planned h all none =
    let u = c.args.self.now in
    c.arrive_told.ensures.told Du k h.arrivals _
    (holds_at k planned u.memory u.clock.0 u.wait.0 c.args.at.0 u.plan (length u.row.items) u.place h all c.requires.order c.requires.time none)

pub returns-clause-times : goal.returns-clause-times
returns-clause-times g c k planned h all none =
    let u = c.args.self.now in
    let next = c.arrive_told.ensures.holds Du k h.arrivals _
    (holds_at k planned u.memory u.clock.0 u.wait.0 c.args.at.0 u.plan (length u.row.items) u.place h all c.requires.order c.requires.time none) in
    (next.config, next.came, next.times)
