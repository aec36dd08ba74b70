-- A section of data whose header is read, and whose PRBs are given one by one.
use Rattle.std.specs.Prelude.{◌≡◌, ◌<◌, ◌≤ℤ◌, List, false}
use Rattle.fh_base.specs.Numbering.{slots_of, symbols_of}
use Rattle.bfp_codec.specs.declared.samples.Wide.{Wide}
use Rattle.fh_base.specs.Carrier.{is_outside}
use Rattle.window_config.specs.declared.endpoints.EndpointConfig.{EndpointConfig}
use Rattle.unit_model.specs.Terms.{Side, is_down}
use Rattle.window_config.specs.declared.delays.Delays.{Delays}
use Rattle.unit_model.specs.Blocks.{data_class, with_timely}
use Rattle.unit_model.specs.Proper.{IsAt, IsTime}
use Rattle.unit_model.specs.declared.decoded.UserSection.{UserSection}
use Rattle.unit_model.specs.declared.heading.DataHeading.{DataHeading}

-- the section with these blocks
abbrev pub data_under : DataHeading → List (List Wide) → UserSection
data_under h blocks = record {
  ep = h.ep;
  endpoint = h.endpoint;
  first = h.first;
  last = h.last;
  head = h.head;
  section = h.section;
  blocks = blocks;
}

-- it names a slot and a symbol of its endpoint, and PRBs of the carrier
pub record IsSoundHeading (h : DataHeading) : Type 0 where
  pub first : IsTime h.first.0
  pub last : IsTime h.last.0
  pub subframe : h.head.subframe < 10
  pub slot : h.head.slot < slots_of h.endpoint.numerology
  pub symbol : h.section.symbol < symbols_of h.endpoint.numerology
  pub within : is_outside h.endpoint.prbs h.section.start_prb h.section.num_prb ≡ false

-- and it is one of these endpoints', of the unit's direction, whose first fragment was received no later than its last
pub record IsProperHeading (side : Side) (es : List EndpointConfig) (h : DataHeading) : Type 0 where
  pub endpoint : IsAt es h.ep h.endpoint
  pub sound : IsSoundHeading h
  pub down : h.head.down ≡ is_down side
  pub order : h.first.0 ≤ℤ h.last.0

-- the sections of data on time, with this one where it is on time
abbrev pub with_heading : Side → Delays → DataHeading → List (List Wide) → List UserSection → List UserSection
with_heading side d h blocks ds = with_timely (data_class side d (data_under h blocks)) (data_under h blocks) ds
