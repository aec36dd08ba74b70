-- What an endpoint of a configuration may be (this project's profile).
use Rattle.std.specs.Prelude.{ℕ, ◌≤◌, false, List, All, length, map}
use Rattle.bfp_codec.specs.Layout.{HasWidth}
use Rattle.eaxc_map.specs.Endpoints.{AppearOnce}
use Rattle.window_config.specs.declared.endpoints.EndpointConfig.{EndpointConfig}
use Rattle.fh_base.specs.Numbering.{extended_of}
use Rattle.bfp_codec.specs.declared.methods.Method.TheVariants.{Plain}
use Rattle.fh_base.specs.declared.carrier.TheConstants.{CARRIER_PRBS}

pub record IsEndpoint (e : EndpointConfig) : Type 0 where
  pub some : 1 ≤ e.prbs
  pub most : e.prbs ≤ CARRIER_PRBS
  pub width : HasWidth e.format.method

abbrev pub ids_of : List EndpointConfig → List ℕ
ids_of endpoints = map (λ e. e.id) endpoints

-- each within its limits, and no id twice
pub record AreEndpoints (endpoints : List EndpointConfig) : Type 0 where
  pub each : All IsEndpoint endpoints
  pub few : length endpoints ≤ 16
  pub differ : AppearOnce (ids_of endpoints)

-- what is after the ends of a list
abbrev pub no_endpoint : EndpointConfig
no_endpoint = record { id = 0; numerology = extended_of; prbs = 1; format = record { dynamic = false; method = Plain } }
