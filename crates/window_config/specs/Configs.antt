-- What a configuration may be (this project's profile).
use Rattle.std.specs.Prelude.{◌≤◌}
use Rattle.window_config.specs.declared.config.Config.{Config}
use Rattle.window_config.specs.Limits.{IsTime, IsWithinLimits}
use Rattle.window_config.specs.Endpoints.{AreEndpoints}
use Rattle.window_config.specs.declared.config.TheConstants.{MESSAGE_SECTIONS, MOST_FRAGMENT, LEAST_FRAGMENT}

pub record IsConfig (c : Config) : Type 0 where
  pub delays : IsWithinLimits c.delays
  pub gap : IsTime c.gap
  pub fragment_low : LEAST_FRAGMENT ≤ c.fragment
  pub fragment_high : c.fragment ≤ MOST_FRAGMENT
  pub pack_low : 1 ≤ c.pack
  pub pack_high : c.pack ≤ MESSAGE_SECTIONS
  pub endpoints : AreEndpoints c.endpoints
