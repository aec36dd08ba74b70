-- The laws of an air that carries a summary to a sink.
use Rattle.std.specs.Prelude.{ℕ, List, [], ◌++◌, ◌≡◌, Option}
use Rattle.std.proofs.Common.{refl, subst, ap, ◌∙◌}
use Rattle.air_source.specs.declared.events.Event.{Event}
use Rattle.air_source.specs.Moves.{state_after, given_by}
use Rattle.air_source.specs.MovesLaws.{state_after-append, given_by-append}
use Rattle.fh_base.specs.Owed.{Carried}
use Rattle.fh_base.specs.CarriedLaws.{carried_none, carried_more}
use Rattle.report_airs.specs.States.{sum_next, sum_gives}
use Rattle.report_airs.specs.SumStates.{SumState}

-- Over the events the state moved on, and what was owed and the bytes of the events went on.
pub record Heard (state : SumState) (written : Option (List ℕ)) (owed : List ℕ) (events : List Event) (state_now : SumState) (now : Option (List ℕ)) (owed_now : List ℕ) : Type 0 where
  pub moved : state_now ≡ state_after sum_next state events
  pub carried : Carried written owed (given_by sum_next sum_gives state events) now owed_now

-- an unchanged air heard nothing
pub grew_none : (s : SumState) (written : Option (List ℕ)) (owed : List ℕ) → Heard s written owed [] s written owed
grew_none s written owed = record { moved = refl; carried = carried_none written owed }

-- hearing one list and then another is hearing both
pub grew_more : (s t u : SumState) (a b c : Option (List ℕ)) (o p q : List ℕ) (first second : List Event)
    → Heard s a o first t b p → Heard t b p second u c q → Heard s a o (first ++ second) u c q
grew_more s t u a b c o p q first second h k =
    let more = subst (λ (x : SumState). Carried b p (given_by sum_next sum_gives x second) c q) h.moved k.carried in
    record {
      moved = k.moved ∙ ap (λ x. state_after sum_next x second) h.moved ∙ state_after-append sum_next s first second;
      carried = subst (λ (bytes : List ℕ). Carried a o bytes c q) (given_by-append sum_next sum_gives s first second)
          (carried_more a b c o p q (given_by sum_next sum_gives s first) (given_by sum_next sum_gives (state_after sum_next s first) second) h.carried more);
    }
