-- The distributed unit's part of one moment.
use Rattle.std.proofs.Common.{ℤ, pos, ◌+ℤ◌, ◌≤ℤ◌, List, ◌++◌, map, refl, sym, ap, ◌∙◌, subst}
use Rattle.std.specs.Int.Signed.{≤ℤ_refl}
use Rattle.air_source.specs.declared.events.AirCell.{AirCell}
use Rattle.air_source.specs.declared.events.Event.{Event}
use Rattle.air_source.specs.declared.events.Event.TheVariants.{Cell}
use Rattle.air_source.specs.declared.events.Side.TheVariants.{Du}
use Rattle.du_intake.specs.Calls.{IntakeStandsFor}
use Rattle.du_intake.specs.Units.{intake_due_of}
use Rattle.du_intake.specs.declared.unit.Intake.{Intake}
use Rattle.fh_base.proofs.Orders.{next_later}
use Rattle.document_traffic.specs.Replayed.{landings_for, traffic_of}
use Rattle.document_traffic.specs.Laws.{IsReplayable}
use Rattle.fh_document.specs.declared.document.Document.{Document}
use Rattle.replay_laws.specs.Events.{arrivals_at, cells_reported_at}
use Rattle.replay_laws.specs.Moments.{end_of_time, landing_at}
use Rattle.unit_model.specs.Reports.{du_known}
use Rattle.unit_model.specs.Standing.{History, at_clock, heard}
use Rattle.fronthaul_replay.specs.BoxTurns.{intake_events}
use Rattle.fronthaul_replay.specs.IntakeTurns.{AtIntakeTurn, planned_for}
use Rattle.fronthaul_replay.proofs.IntakeStopLemmas.{HasLanded, cells_then}
use Rattle.fronthaul_replay.proofs.IntakeTurnLemmas.{after}
use Rattle.unit_laws.proofs.DueLemmas.{due_once}
use Rattle.unit_moments.specs.Landing.{landed}
use Rattle.unit_moments.proofs.StopLemmas.{Follows}

-- what the intake stands for once all of the tick has landed
abbrev pub landed_then : Document → ℤ → History → History
landed_then d tick h = landed tick h (landing_at (landings_for Du d) tick)

pub has_landed : (d : Document) (tick : ℤ) (u : Intake) → IsReplayable d → (a : AtIntakeTurn d tick u) → tick ≤ℤ end_of_time → HasLanded d tick a.history (landed_then d tick a.history)
has_landed d tick u doc a ended = record { replayable = doc; turn = a.turn; ended = ended; came = refl; told = refl }

-- the air heard the tick's events of this unit
pub heard_all : {A : Type 0} (grew next : A → List Event → A → Type 0)
    (d : Document) (tick : ℤ) (h k : History) (a b e : A) → HasLanded d tick h k → Follows grew next a (arrivals_at Du (traffic_of d) tick) b
    → next b (map Cell (intake_due_of d.config (planned_for d) k tick)) e → grew a (intake_events d tick) e
heard_all grew next d tick h k a b e come follows second =
    follows e (map Cell (cells_reported_at Du d.config (traffic_of d) tick))
    (subst (λ (cs : List AirCell). next b (map Cell cs) e) (cells_then d tick h k come) second)

-- the intake is at the start of the next tick
pub turn_then : (d : Document) (tick : ℤ) (h k : History) (u : Intake) → HasLanded d tick h k
    → IntakeStandsFor d.config (planned_for d) u (at_clock (heard k (intake_due_of d.config (planned_for d) k tick)) tick) → AtIntakeTurn d (tick +ℤ pos 1) u
turn_then d tick h k u l stands =
    let c = d.config in
    let cells = intake_due_of c (planned_for d) k tick in
    let next = at_clock (heard k cells) tick in
    record {
      history = next;
      stands = stands;
      turn = after d tick h next l.replayable l.turn l.ended l.came
          (ap (λ (rs : List AirCell). rs ++ cells) l.told ∙ ap (λ (cs : List AirCell). h.reported ++ cs) (cells_then d tick h k l))
          (due_once Du c.delays c.endpoints (du_known c (planned_for d) k.arrivals) k.reported tick l.replayable.document.config.endpoints.differ);
      clock = subst (λ (t : ℤ). t ≤ℤ (tick +ℤ pos 1)) (sym stands.kept.clock_is) (next_later tick tick (≤ℤ_refl tick));
    }
