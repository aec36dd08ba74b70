-- The laws of an air that carries text to a sink, whatever the text of an event.
use Rattle.std.specs.Prelude.{ℕ, List, [], ◌++◌, Option}
use Rattle.std.specs.List.{flat_map}
use Rattle.std.proofs.Common.{sym, subst}
use Rattle.std.proofs.lemmas.Grind.{flat_map-append}
use Rattle.air_source.specs.declared.events.Event.{Event}
use Rattle.fh_base.specs.Owed.{Carried}
use Rattle.fh_base.specs.CarriedLaws.{carried_none, carried_more}

module _ (text_of : Event → List ℕ) where
  -- the text of no events is carried by an unchanged air
  pub grew_none : (written : Option (List ℕ)) (owed : List ℕ) → Carried written owed (flat_map text_of []) written owed
  grew_none written owed = carried_none written owed

  -- carrying the text of one list and then that of another is carrying that of both
  pub grew_more : (a b c : Option (List ℕ)) (o p q : List ℕ) (first second : List Event)
      → Carried a o (flat_map text_of first) b p → Carried b p (flat_map text_of second) c q → Carried a o (flat_map text_of (first ++ second)) c q
  grew_more a b c o p q first second h k =
      subst (λ (text : List ℕ). Carried a o text c q) (sym (flat_map-append text_of first second)) (carried_more a b c o p q (flat_map text_of first) (flat_map text_of second) h k)
