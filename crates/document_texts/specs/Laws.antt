-- What the air of a unit heard, and the laws of it.
use Rattle.std.specs.Prelude.{◌≡◌, ℕ, List, [], ◌∷◌, ◌++◌, Option}
use Rattle.std.specs.Borrow.{GName}
use Rattle.std.proofs.Common.{refl, sym, ap, subst, ◌∙◌}
use Rattle.std.proofs.lemmas.Grind.{flat_map-append}
use Rattle.air_source.specs.declared.events.Event.{Event}
use Rattle.fh_base.specs.Owed.{Carried}
use Rattle.fh_base.specs.CarriedLaws.{carried_none, carried_more}
use Rattle.shared_cell.specs.declared.values.Mixed.{Mixed}
use Rattle.document_texts.specs.UnitText.{all_taken, event_taken, unit_event_text, unit_events_text}

-- the lines of the events went on after what was owed, and their cells were added up
pub record Heard (written : Option (List ℕ)) (owed : List ℕ) (mixed : List Mixed) (events : List Event) (now : Option (List ℕ)) (owed_now : List ℕ) (mixed_now : List Mixed) : Type 0 where
  pub carried : Carried written owed (unit_events_text events) now owed_now
  pub taken : mixed_now ≡ all_taken events mixed

-- the cells of one list and then those of another are those of both
pub taken_more : (first second : List Event) (ms : List Mixed) → all_taken (first ++ second) ms ≡ all_taken second (all_taken first ms)
taken_more [] second ms = refl
taken_more (e ∷ first) second ms = taken_more first second (event_taken e ms)

-- an unchanged air heard nothing
pub grew_none : (written : Option (List ℕ)) (owed : List ℕ) (mixed : List Mixed) → Heard written owed mixed [] written owed mixed
grew_none written owed mixed = record { carried = carried_none written owed; taken = refl }

-- hearing one list and then another is hearing both in turn
pub grew_more : (a b c : Option (List ℕ)) (o p q : List ℕ) (k l m : List Mixed) (first second : List Event)
    → Heard a o k first b p l → Heard b p l second c q m → Heard a o k (first ++ second) c q m
grew_more a b c o p q k l m first second h i = record {
  carried = subst (λ (text : List ℕ). Carried a o text c q) (sym (flat_map-append unit_event_text first second)) (carried_more a b c o p q (unit_events_text first) (unit_events_text second) h.carried i.carried);
  taken = i.taken ∙ ap (all_taken second) h.taken ∙ sym (taken_more first second k);
}

-- the same references to the sink and to the mixer
pub record IsSame (s m s_now m_now : GName) : Type 0 where
  pub sink : s_now ≡ s
  pub mixer : m_now ≡ m

pub same_none : (s m : GName) → IsSame s m s m
same_none s m = record { sink = refl; mixer = refl }

pub same_more : (s t u m n o : GName) → IsSame s m t n → IsSame t n u o → IsSame s m u o
same_more s t u m n o h k = record { sink = k.sink ∙ h.sink; mixer = k.mixer ∙ h.mixer }
