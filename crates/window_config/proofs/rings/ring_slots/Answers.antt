use Rattle.std.proofs.Common.{◌≡◌, pos, ◌+ℤ◌, ◌<◌, arith}
use Rattle.std.proofs.lemmas.Int.{ints}
use Rattle.fh_base.specs.Air.{least_slot_of, span_of}
use Rattle.window_config.specs.Windows.{ticks_of_ns}
use Rattle.window_config.proofs.Live.{live_near}
use Rattle.window_config.proofs.rings.ring_slots.Goals as goal

pub returns-clause-apart : goal.returns-clause-apart
returns-clause-apart c = λ clock a b is_a is_b live_a live_b.
    let some : 0 < least_slot_of c.args.n.now = omega (arith, c.least_ticks-least.ensures.value, c.least_ticks-least.ensures.least) in
    let most_is : pos c.live_ticks-most.result ≡ ticks_of_ns c.args.before +ℤ pos (span_of c.args.n.now) +ℤ ticks_of_ns c.args.after = omega (arith, ints, c.live_ticks-most.ensures.value) in
    rw c.least_ticks-least.ensures.value (live_near c.args.n.now c.args.before c.args.after clock a b c.live_ticks-most.result some most_is is_a is_b live_a live_b)
