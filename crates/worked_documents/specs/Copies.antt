-- What the radio unit receives of four frames that are sent to it, and of two that are injected, in a document with the lines
--
--     deliver dl c 2
--     deliver dl u 1 50000 300000
--     inject dl 9640000 10000000
--     inject ul 9640000 10020000
use Rattle.std.specs.Prelude.{◌≡◌, ℕ, pos, List, [], ◌∷◌}
use Rattle.air_source.specs.declared.events.Side.TheVariants.{Ru, Du}
use Rattle.delay_laws.specs.Examples.{ns}
use Rattle.document_traffic.specs.Landing.{landing_with}
use Rattle.document_traffic.specs.Sending.{Leaving}
use Rattle.fh_document.specs.declared.delivered.TrafficClass.{TrafficClass}
use Rattle.fh_document.specs.declared.delivered.TrafficClass.TheVariants.{C, U}
use Rattle.fh_document.specs.declared.document.Document.{Document}
use Rattle.worked_documents.specs.Common.{received, usual_document}

abbrev pub document : Document
document = record usual_document {
  deliveries = (record { side = Ru; class = C; k = 2; copies = [] }) ∷ (record { side = Ru; class = U; k = 1; copies = pos 50000 ∷ pos 300000 ∷ [] }) ∷ [];
  injections = (record { side = Ru; at = pos 9640000; frame = 16 ∷ 0 ∷ 0 ∷ 0 ∷ [] }) ∷ (record { side = Du; at = pos 9640000; frame = 16 ∷ 2 ∷ 0 ∷ 0 ∷ [] }) ∷ [];
}

-- a command (eCPRI's type 2) of no bytes, and two data (type 0) of one byte each
abbrev pub command : List ℕ
command = 16 ∷ 2 ∷ 0 ∷ 0 ∷ []

abbrev pub first_data : List ℕ
first_data = 16 ∷ 0 ∷ 0 ∷ 1 ∷ 7 ∷ []

abbrev pub second_data : List ℕ
second_data = 16 ∷ 0 ∷ 0 ∷ 1 ∷ 8 ∷ []

abbrev pub leaving : TrafficClass → ℕ → List ℕ → Leaving
leaving class at frame = record { at = ns at; class = class; frame = frame }

-- Two commands and two frames of data: of its class and way each is number 1 or 2. The second command is lost. The first data is
-- received twice, its second copy later than the second data, which follows it in the list. The frame that is injected there is last,
-- though it is received before the data.
pub record CopiesAreAsWorked : Type 0 where
  pub lands : landing_with document Ru (leaving C 9530000 command ∷ leaving C 9580000 command ∷ leaving U 9655000 first_data ∷ leaving U 9656000 second_data ∷ [])
      ≡ received 9580000 command ∷ received 9705000 first_data ∷ received 9955000 first_data ∷ received 9706000 second_data ∷ received 9640000 (16 ∷ 0 ∷ 0 ∷ 0 ∷ []) ∷ []
  -- what is sent to the distributed unit has numbers of its own, and no line speaks of it
  pub lands_up : landing_with document Du (leaving U 10050000 first_data ∷ leaving U 10051000 second_data ∷ [])
      ≡ received 10100000 first_data ∷ received 10101000 second_data ∷ received 9640000 (16 ∷ 2 ∷ 0 ∷ 0 ∷ []) ∷ []
