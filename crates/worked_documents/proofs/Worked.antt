-- The definitions compute what was worked out by hand.
use Rattle.std.proofs.Common.{refl}
use Rattle.bfp_codec.specs.Layout.{be_bytes}
use Rattle.bfp_codec.specs.Field.{field}
use Rattle.document_traffic.specs.Sending.{delayed_behind}
use Rattle.document_traffic.specs.Measured.{delay_frame}
use Rattle.worked_documents.specs.Measured.{MeasurementIsAsWorked}
use Rattle.worked_documents.specs.Copies.{CopiesAreAsWorked}

pub copies : CopiesAreAsWorked
unfolding delayed_behind
copies = record { lands = refl; lands_up = refl }

pub measurement : MeasurementIsAsWorked
unfolding delayed_behind delay_frame be_bytes field
measurement = record {
  request_made = refl;
  request_lands = refl;
  response_made = refl;
  responses_land = refl;
  known_delay = refl;
  known_counted = refl;
  no_second_delay = refl;
  repeated_counted = refl;
  repeated_makes_none = refl;
}
