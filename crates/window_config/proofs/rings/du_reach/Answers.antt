use Rattle.std.proofs.Common.{arith}
use Rattle.std.proofs.lemmas.Int.{ints}
use Rattle.window_config.proofs.Live.{live_on_time_up}
use Rattle.window_config.proofs.rings.du_reach.Goals as goal

pub returns-clause-data_live : goal.returns-clause-data_live
returns-clause-data_live c =
    λ n slot symbol first clock below order on_time.
    live_on_time_up n slot symbol first clock c.args.d.now.ta4 _ below order c.requires.ta4.low (omega (arith, ints)) on_time
