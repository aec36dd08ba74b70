-- A message that was decoded, as the definitions see it.
use Rattle.unit_model.specs.Decoding.{Decoded, Refused, Backwards, Sections}
use Rattle.plain_units.specs.declared.decoding.DecodedMessage.{DecodedMessage}
use Rattle.plain_units.specs.declared.decoding.DecodedMessage.TheVariants as found

abbrev pub decoded_of : DecodedMessage → Decoded
decoded_of found.Refused = Refused
decoded_of found.Backwards = Backwards
decoded_of (found.Sections ds) = Sections ds.items
