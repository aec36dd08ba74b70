-- The distributed unit begins with nothing.
use Rattle.std.proofs.Common.{◌≡◌, ℤ, pos, ◌+ℤ◌, ◌-ℤ◌, []}
use Rattle.unit_model.specs.Terms.{Du}
use Rattle.window_config.specs.declared.config.Config.{Config}
use Rattle.unit_model.specs.Radiated.{Known, first_clock, wait_of}
use Rattle.unit_model.specs.Standing.{due, past_of, still_reported}
use Rattle.unit_model.proofs.SweepLemmas.{sweep-none}
use Rattle.fh_base.proofs.Orders.{over}

pub nothing_past : (c : Config) (k : Known) → due Du c.delays c.endpoints k [] (past_of Du first_clock) ≡ []
unfolding due
nothing_past c k =
    sweep-none (still_reported Du k []) c.endpoints (first_clock -ℤ wait_of Du c.delays) (((first_clock -ℤ pos 1) -ℤ wait_of Du c.delays) +ℤ pos 1)
    (over first_clock (wait_of Du c.delays))
