use Rattle.std.proofs.Common.{◌≡◌, ℤ, true, false, ap, ap₂, arith}
use Rattle.std.proofs.lemmas.Int.{ints, clamps}
use Rattle.window_config.specs.declared.delays.Range.{Range}
use Rattle.window_config.specs.declared.rings.Reach.{Reach}
use Rattle.window_config.specs.Windows.{data_window_of, command_window_of}
use Rattle.window_config.proofs.Live.{live_on_time, live_on_command}
use Rattle.window_config.proofs.rings.ru_reach.Goals as goal

reach : ℤ → ℤ → Reach
reach before after = record { before = before; after = after }

greatest_of : Range → ℤ
greatest_of r = r.max

same_reach : (a b p q : ℤ) → a ≡ p → b ≡ q → reach a b ≡ reach p q
same_reach a b p q e f = ap₂ reach e f

pub returns-clause-value : goal.returns-clause-value
unfolding reach greatest_of
returns-clause-value c =
    let of_data : c.data_window-data.result.max ≡ (data_window_of c.args.d.now).max = ap greatest_of c.data_window-data.ensures.value in
    let down : c.command_window-down.result.max ≡ (command_window_of c.args.d.now true).max = ap greatest_of c.command_window-down.ensures.value in
    let up : c.command_window-up.result.max ≡ (command_window_of c.args.d.now false).max = ap greatest_of c.command_window-up.ensures.value in
    same_reach _ _ _ _ (omega (arith, ints, clamps, of_data, down, up, c.max-2.ensures.value, c.max.ensures.value)) (omega (arith, ints))

pub returns-clause-reach : goal.returns-clause-reach
returns-clause-reach c =
    record {
      before = record {
        low = omega (arith, ints, c.max-2.ensures.self_bound, c.max.ensures.self_bound, c.data_window-data.ensures.window.max.low);
        high = omega (arith, ints, clamps, c.max-2.ensures.value, c.max.ensures.value, c.data_window-data.ensures.window.max.high, c.command_window-down.ensures.window.max.high, c.command_window-up.ensures.window.max.high);
      };
      after = record {
        low = omega (arith, ints, c.requires.ta3.low, c.requires.ta3.order);
        high = omega (arith, ints, c.requires.ta3.high);
      };
    }

pub returns-clause-data_live : goal.returns-clause-data_live
unfolding greatest_of
returns-clause-data_live c = λ n slot symbol first clock below order on_time.
    let of_data : c.data_window-data.result.max ≡ (data_window_of c.args.d.now).max = ap greatest_of c.data_window-data.ensures.value in
    live_on_time n slot symbol first clock (data_window_of c.args.d.now) _ _ below order
    (omega (arith, ints, c.requires.t2a_up.low))
    (omega (arith, ints, of_data, c.max-2.ensures.self_bound, c.max.ensures.self_bound, c.data_window-data.ensures.window.max.low, c.data_window-data.ensures.window.max.high))
    (omega (arith, ints, c.requires.ta3.low, c.requires.ta3.order)) on_time

pub returns-clause-commands_live : goal.returns-clause-commands_live
unfolding greatest_of
returns-clause-commands_live c = λ down n slot symbol first clock below order on_time.
    let of_down : c.command_window-down.result.max ≡ (command_window_of c.args.d.now true).max = ap greatest_of c.command_window-down.ensures.value in
    let of_up : c.command_window-up.result.max ≡ (command_window_of c.args.d.now false).max = ap greatest_of c.command_window-up.ensures.value in
    live_on_command c.args.d.now n slot symbol first clock _ _ down c.requires
    (omega (arith, ints, clamps, of_down, c.max-2.ensures.value, c.max.ensures.value, c.command_window-down.ensures.window.max.high, c.command_window-up.ensures.window.max.high, c.data_window-data.ensures.window.max.high))
    (omega (arith, ints, clamps, of_up, c.max-2.ensures.value, c.max.ensures.value, c.command_window-down.ensures.window.max.high, c.command_window-up.ensures.window.max.high, c.data_window-data.ensures.window.max.high))
    (omega (arith, ints, c.requires.ta3.low, c.requires.ta3.order)) below order on_time
