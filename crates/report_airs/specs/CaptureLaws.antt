-- The laws of an air that carries records to a sink.
use Rattle.std.specs.Prelude.{ℕ, List, [], ◌++◌, Option}
use Rattle.std.proofs.Common.{sym, subst}
use Rattle.std.proofs.lemmas.Grind.{flat_map-append}
use Rattle.air_source.specs.declared.events.Event.{Event}
use Rattle.fh_base.specs.CarriedLaws.{carried_none, carried_more}
use Rattle.report_airs.specs.Capture.{event_record, events_records}
use Rattle.report_airs.specs.Recorded.{Recorded}

-- the records of no events are recorded by an unchanged air
pub grew_none : (written : Option (List ℕ)) (owed : List ℕ) → Recorded written owed (events_records []) written owed
grew_none written owed = record { carried = carried_none written owed; owing = λ some. some }

-- recording the bytes of one text and then those of another is recording those of both
pub recorded_more : (a b c : Option (List ℕ)) (o p q : List ℕ) (first second : List ℕ) → Recorded a o first b p → Recorded b p second c q → Recorded a o (first ++ second) c q
recorded_more a b c o p q first second h k = record {
  carried = carried_more a b c o p q first second h.carried k.carried;
  owing = λ some. k.owing (h.owing some);
}

-- and so for the records of one list of events and those of another
pub grew_more : (a b c : Option (List ℕ)) (o p q : List ℕ) (first second : List Event)
    → Recorded a o (events_records first) b p → Recorded b p (events_records second) c q → Recorded a o (events_records (first ++ second)) c q
grew_more a b c o p q first second h k =
    subst (λ (bytes : List ℕ). Recorded a o bytes c q) (sym (flat_map-append event_record first second)) (recorded_more a b c o p q (events_records first) (events_records second) h k)
