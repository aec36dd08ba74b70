use Rattle.std.proofs.Common.{◌≡◌, ℤ, pos, ◌+ℤ◌, ◌-ℤ◌, Bool, ap₂, ◌∙◌, arith, to_z, of_z}
use mir.Syntax.{w64}
use Rattle.std.specs.Prelude.{int_lt}
use Rattle.std.proofs.lemmas.Int.{ints}
use Rattle.fh_base.specs.Air.{air_of, span_of}
use Rattle.window_config.specs.Windows.{ticks_of_ns}
use Rattle.window_config.proofs.Live.{live_is}
use Rattle.window_config.proofs.rings.is_live.Goals as goal

-- a test of other numbers that are equal
retold : (r : Bool) (x y p q : ℤ) → r ≡ int_lt x y → x ≡ p → y ≡ q → r ≡ int_lt p q
retold r x y p q e f g = e ∙ ap₂ (λ (a b : ℤ). int_lt a b) f g

pub returns-then-not-is_longer : goal.returns-then-not-is_longer
returns-then-not-is_longer c =
    let n = c.args.n.now in
    let start = air_of n c.args.slot 0 in
    let reach = c.args.reach in
    let clock = c.args.clock.0 in
    live_is n c.args.slot reach.before reach.after clock c.is_longer.result c.is_longer-then-not-is_longer.result c.if-not-is_longer.true
    (retold c.is_longer.result (ticks_of_ns (to_z w64 (of_z w64 reach.before))) (c.air-start.result.0 -ℤ clock) (ticks_of_ns reach.before) (start -ℤ clock)
    c.is_longer.ensures (omega (arith, ints)) (omega (arith, ints, c.air-start.ensures.value)))
    (retold c.is_longer-then-not-is_longer.result (ticks_of_ns (to_z w64 (of_z w64 reach.after))) (clock -ℤ c.end_of-end.result.0) (ticks_of_ns reach.after) (clock -ℤ (start +ℤ pos (span_of n)))
    c.is_longer-then-not-is_longer.ensures (omega (arith, ints)) (omega (arith, ints, c.air-start.ensures.value, c.end_of-end.ensures.value)))
