-- What is received, and what each meter makes of it, in a document with the lines
--
--     comp 6553600 0 0 2621440
--     measure du 7 one 1000000
--     inject ul 1200000 R
--
-- where R is the Response that the radio unit sends (eCPRI 2.0, section 3.2.4.6). The compensations are 100 ns where the distributed
-- unit sends and 40 ns where the radio unit receives, in units of 2^-16 ns.
use Rattle.std.specs.Prelude.{◌≡◌, ℕ, pos, List, [], ◌∷◌}
use Rattle.air_source.specs.declared.events.Side.TheVariants.{Ru, Du}
use Rattle.delay_laws.specs.Examples.{ns}
use Rattle.delay_measure.specs.declared.steps.Kind.TheVariants.{One}
use Rattle.document_traffic.specs.Landing.{landing_with}
use Rattle.fault_counters.specs.declared.kinds.Counter.TheVariants.{DelayRepeat, DelayResult}
use Rattle.fh_document.specs.declared.document.Document.{Document}
use Rattle.document_traffic.specs.Doings.{Doings, nothing, delay_of_id, taken}
use Rattle.document_traffic.specs.Replayed.{begun, leaving_made, told_frames}
use Rattle.worked_documents.specs.Common.{received, usual_document}

-- 10 05 00 14, 07 00, 0 s and 999,900 ns, 100 ns
abbrev pub request : List ℕ
request = 16 ∷ 5 ∷ 0 ∷ 20 ∷ 7 ∷ 0 ∷ 0 ∷ 0 ∷ 0 ∷ 0 ∷ 0 ∷ 0 ∷ 0 ∷ 15 ∷ 65 ∷ 220 ∷ 0 ∷ 0 ∷ 0 ∷ 0 ∷ 0 ∷ 100 ∷ 0 ∷ 0 ∷ []

-- 10 05 00 14, 07 02, 0 s and 1,050,040 ns, 40 ns
abbrev pub response : List ℕ
response = 16 ∷ 5 ∷ 0 ∷ 20 ∷ 7 ∷ 2 ∷ 0 ∷ 0 ∷ 0 ∷ 0 ∷ 0 ∷ 0 ∷ 0 ∷ 16 ∷ 5 ∷ 184 ∷ 0 ∷ 0 ∷ 0 ∷ 0 ∷ 0 ∷ 40 ∷ 0 ∷ 0 ∷ []

abbrev pub document : Document
document = record usual_document {
  comps = record { du_sending = pos 6553600; du_receiving = pos 0; ru_sending = pos 0; ru_receiving = pos 2621440 };
  injections = (record { side = Du; at = pos 1200000; frame = response }) ∷ [];
  measures = (record { side = Du; id = 7; kind = One; at = pos 1000000 }) ∷ [];
}

-- ---- what each meter has

-- the measurement begins
abbrev pub asked : Doings
asked = begun document Du (ns 1000000) nothing

-- the radio unit receives the Request
abbrev pub answered : Doings
answered = told_frames document Ru (ns 1050000) nothing (received 1050000 request ∷ [])

-- the Request was sent, and its Response is received
abbrev pub known : Doings
known = told_frames document Du (ns 1100000) (taken [] asked) (received 1100000 response ∷ [])

-- it is received once more
abbrev pub repeated : Doings
repeated = told_frames document Du (ns 1200000) known (received 1200000 response ∷ [])

-- The Request has the time less 100 ns. It is received 50,000 ns later; the Response has that time and 40 ns. The delay is 50,000 ns, in
-- units of 2^-16 ns, without either compensation. The second Response gives none.
pub record MeasurementIsAsWorked : Type 0 where
  pub request_made : asked.made ≡ request ∷ []
  pub request_lands : landing_with document Ru (leaving_made (ns 1000000) request ∷ []) ≡ received 1050000 request ∷ []
  pub response_made : answered.made ≡ response ∷ []
  pub responses_land : landing_with document Du (leaving_made (ns 1050000) response ∷ []) ≡ received 1100000 response ∷ received 1200000 response ∷ []
  pub known_delay : known.results ≡ delay_of_id 7 (pos 3276800000) ∷ []
  pub known_counted : known.counted ≡ DelayResult ∷ []
  pub no_second_delay : repeated.results ≡ []
  pub repeated_counted : repeated.counted ≡ DelayRepeat ∷ DelayResult ∷ []
  pub repeated_makes_none : repeated.made ≡ []
