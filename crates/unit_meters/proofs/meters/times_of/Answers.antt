use Rattle.std.proofs.Common.{rules, ◌<◌, ◌∙◌, length, sym, ap, arith}
use Rattle.frame_ways.proofs.RowLemmas.{none_past}
use Rattle.unit_meters.proofs.TimeLemmas.{measure_is, times_next}
use Rattle.unit_meters.proofs.meters.times_of.Goals as goal
use Rattle.unit_meters.proofs.meters.times_of.Goals.{in-Some+in_ok-push, in_default}

pub time_of-requires : goal.time_of-requires
time_of-requires c = measure_is c.args.measures.now c.loop-k.k c.in-Some.measure.now c.requires (sym c.in-Some.ensures)

pub loop-k-preserved : goal.loop-k-preserved
loop-k-preserved c =
    let ms = c.args.measures.now in
    let inside : c.loop-k.k < length ms = omega (arith, c.loop-k-test.true, c.loop-k.auto.k-end, c.len-k-end.ensures) in
    elim c.match-get.branch [
      | in-Some+in_ok-push w ↦
          ap (λ v. v.items) w.times-is
          ∙ times_next ms c.loop-k.k w.in-Some.measure.now w.time_of.result c.loop-k.times.items w.push.new.self.items (sym w.in-Some.ensures) w.time_of.ensures c.loop-k.invariant (search rules)
      | in_default w ↦ absurd (none_past ms c.loop-k.k inside w.in_default.ensures)
    ]
