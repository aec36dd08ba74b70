-- What is known of the uplink messages that the radio unit gives: they can be sent as they are.
use Rattle.std.specs.Prelude.{◌≡◌, ℤ, ◌<◌, ◌≤ℤ◌, List, false}
use Rattle.fh_base.specs.Air.{air_of}
use Rattle.fh_base.specs.Carrier.{is_outside}
use Rattle.fh_base.specs.Numbering.{symbols_of}
use Rattle.window_config.specs.declared.endpoints.EndpointConfig.{EndpointConfig}
use Rattle.unit_model.specs.Proper.{IsAt, IsSlot}
use Rattle.unit_model.specs.Radiated.{first_clock}
use Rattle.unit_model.specs.declared.jobs.UplinkJob.{UplinkJob}

-- it is one of a symbol of an endpoint, which starts in the unit's time up to this one, and its PRBs are the carrier's
pub record IsProperJob (es : List EndpointConfig) (to : ℤ) (job : UplinkJob) : Type 0 where
  pub endpoint : EndpointConfig
  pub endpoint_is : IsAt es job.ep endpoint
  pub slot : IsSlot endpoint.numerology job.slot
  pub symbol : job.symbol < symbols_of endpoint.numerology
  pub start_prb : job.start_prb < 1024
  pub prbs : is_outside endpoint.prbs job.start_prb job.num_prb ≡ false
  pub starts : job.s.0 ≡ air_of endpoint.numerology job.slot job.symbol
  pub low : first_clock ≤ℤ job.s.0
  pub high : job.s.0 ≤ℤ to
