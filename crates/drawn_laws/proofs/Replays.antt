-- The events of a replay.
use Rattle.std.proofs.Common.{ℤ, pos, ◌+ℤ◌, ◌-ℤ◌, List, sym, subst}
use Rattle.std.specs.Prelude.{All}
use Rattle.air_source.specs.declared.events.Side.{Side}
use Rattle.unit_model.specs.Meetings.{Arrival}
use Rattle.unit_model.specs.Proper.{IsTime}
use Rattle.unit_model.specs.Standing.{AreInTime}
use Rattle.replay_laws.specs.Moments.{all_arrivals, end_of_time}
use Rattle.replay_laws.specs.Traffic.{landings_at}
use Rattle.replay_laws.proofs.CameLemmas.{arrivals_in_time}
use Rattle.explain_laws.proofs.ReplayLemmas.{arrivals_are}
use Rattle.drawn_laws.specs.Replays.{ReplaysAreDrawn}
use Rattle.drawn_laws.proofs.ReplayCells.{events_placed}
use Rattle.replay_laws.proofs.ShownLemmas.{landings_of_side as landings_are}

abbrev last_clock : ℤ
last_clock = (end_of_time +ℤ pos 1) -ℤ pos 1

pub replays_are_drawn : ReplaysAreDrawn
replays_are_drawn c t config ru du short few =
    let proper : (side : Side) → AreInTime last_clock (all_arrivals (landings_at side t)) × All (λ (a : Arrival). IsTime a.at) (all_arrivals (landings_at side t)) =
    λ side. arrivals_in_time (landings_at side t) (end_of_time +ℤ pos 1) (landings_are side t ru du) in
    record {
      clock = last_clock;
      order = λ side. subst (λ (xs : List Arrival). AreInTime last_clock xs) (sym (arrivals_are side c t)) (proper side).0;
      times = λ side. subst (λ (xs : List Arrival). All (λ (a : Arrival). IsTime a.at) xs) (sym (arrivals_are side c t)) (proper side).1;
      few = few;
      cells = events_placed c t config short;
    }
