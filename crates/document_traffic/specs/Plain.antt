-- Documents of which one reads in the text that nothing disturbs their schedule (O-RAN.WG4.CUS, delay management; this project's profile).
use Rattle.std.specs.Prelude.{◌≡◌, ◌≢◌, ℕ, ℤ, ◌≤ℤ◌, [], All, IsSomeAnd}
use Rattle.air_source.specs.declared.events.Side.TheVariants.{Ru, Du}
use Rattle.window_config.specs.Relations.{PassesCheck}
use Rattle.window_config.specs.declared.delays.Delays.{Delays}
use Rattle.window_config.specs.declared.delays.Range.{Range}
use Rattle.fh_document.specs.declared.delivered.TrafficClass.TheVariants.{M}
use Rattle.fh_document.specs.declared.delivered.Delivery.{Delivery}
use Rattle.fh_document.specs.declared.document.Document.{Document}
use Rattle.document_traffic.specs.Undisturbed.{IsUndisturbedBothWays, transport_of}
use Rattle.generated_laws.specs.Documents.{document}

-- a time on the way within the bounds of the transport
pub record IsWithin (bounds : Range) (ns : ℤ) : Type 0 where
  pub from : bounds.min ≤ℤ ns
  pub to : ns ≤ℤ bounds.max

-- a `deliver` line of commands or data has a copy, and each is received within the transport of its way: T12 to the radio unit, T34 to
-- the distributed unit; nothing is asked of one of delay measurement
pub record IsPlainLine (t : Delays) (x : Delivery) : Type 0 where
  pub some : x.class ≢ M → x.copies ≢ []
  pub within : x.class ≢ M → All (IsWithin (transport_of x.side t)) x.copies

-- the windows pass the check, nothing is injected, and the `transit` and `deliver` lines bring each frame within the transport of its way
pub record IsPlain (d : Document) : Type 0 where
  pub check : PassesCheck d.config.delays
  pub alone : d.injections ≡ []
  pub down : IsSomeAnd d.transits.dl (IsWithin (transport_of Ru d.config.delays))
  pub up : IsSomeAnd d.transits.ul (IsWithin (transport_of Du d.config.delays))
  pub lines : All (IsPlainLine d.config.delays) d.deliveries

-- then nothing disturbs its schedule, either way
abbrev pub PlainAreUndisturbed : Type 0
PlainAreUndisturbed = (d : Document) → IsPlain d → IsUndisturbedBothWays d

-- nor that of a generated document, of whatever seed and number of slots
abbrev pub GeneratedAreUndisturbed : Type 0
GeneratedAreUndisturbed = (seed slots : ℕ) → IsUndisturbedBothWays (document seed slots)
