-- How both units, their meters and what is still to be received relate to a document at the start of a tick, and when the next moment is
-- (this project's profile).
use Rattle.std.specs.Prelude.{◌≡◌, ℤ, ◌<ℤ◌, ◌≤ℤ◌, pos, ◌+ℤ◌, List, [], Option, Some, None, if◌then◌else◌, int_lt}
use Rattle.air_source.specs.declared.events.Side.TheVariants.{Ru, Du}
use Rattle.air_source.specs.declared.links.LinkFrame.{LinkFrame}
use Rattle.air_source.specs.declared.places.RePlace.{RePlace}
use Rattle.bfp_codec.specs.declared.samples.Wide.{Wide}
use Rattle.du_intake.specs.Units.{intake_due_of as intake_due}
use Rattle.du_intake.specs.declared.unit.Intake.{Intake}
use Rattle.plan_model.specs.Sent.{SentFrame}
use Rattle.fh_document.specs.declared.document.Document.{Document}
use Rattle.frame_ways.specs.Leaving.{Leaving}
use Rattle.document_traffic.specs.Settings.{compensation_of}
use Rattle.fh_base.specs.declared.values.Ticks.{Ticks}
use Rattle.fronthaul_replay.specs.Down.{HasLandedDown, NoneComesDown, WaitsDown}
use Rattle.fronthaul_replay.specs.IntakeTurns.{AtIntakeTurn, planned_for}
use Rattle.fronthaul_replay.specs.Measuring.{HaveBegun, MeasuresWait, begins_for}
use Rattle.fronthaul_replay.specs.BoxTurns.{AtRadioTurn}
use Rattle.fronthaul_replay.specs.Up.{HasLandedUp, NoneComesUp, WaitsUp}
use Rattle.unit_meters.specs.Begins.{Awaits, NoneBeginsTo}
use Rattle.unit_meters.specs.declared.meters.Meters.{Meters}
use Rattle.delay_exchange.specs.Units.{HasDoings}
use Rattle.document_traffic.specs.Replayed.{made_at}
use Rattle.replay_laws.specs.Moments.{end_of_time}
use Rattle.ru_buffers.specs.Calls.{IsQuietTo}
use Rattle.ru_buffers.specs.declared.unit.Ru.{Ru as Unit}
use Rattle.unit_model.specs.Standing.{History}
use Rattle.fronthaul_replay.specs.declared.coming.Coming.{Coming}

-- both units at the start of a tick
pub record AtTurn (d : Document) (now : ℤ) (u : Unit) (i : Intake) : Type 0 where
  pub radio : AtRadioTurn d now u
  pub intake : AtIntakeTurn d now i

-- what is still to be received at both: what has left is on the ways, and what leaves later is with the plan and the radio unit's queue
pub record WaitsInTurn {G : Type 0} (pre : G → RePlace → Type 0) (post : G → RePlace → Wide → Type 0) (d : Document) (now : ℤ) (w : Coming G) : Type 0 where
  pub down : WaitsDown d now w.downlink.plan w.downlink.way
  pub up : WaitsUp pre post d now w.answers.uplink w.answers.outbox.frames w.answers.queue w.answers.way

-- the loop's invariant: both units' meters too, at the start of a tick
pub record AtMoment {G : Type 0} (pre : G → RePlace → Type 0) (post : G → RePlace → Wide → Type 0)
    (d : Document) (now : ℤ) (u : Unit) (i : Intake) (w : Coming G) (m : Meters) : Type 0 where
  pub turn : AtTurn d now u i
  pub waits : WaitsInTurn pre post d now w
  pub measures : MeasuresWait d now m

-- and once the measurements of a tick have begun
pub record TurnHasBegun {G : Type 0} (pre : G → RePlace → Type 0) (post : G → RePlace → Wide → Type 0)
    (d : Document) (tick : ℤ) (u : Unit) (i : Intake) (w : Coming G) (m : Meters) : Type 0 where
  pub turn : AtTurn d tick u i
  pub waits : WaitsInTurn pre post d tick w
  pub begun : HaveBegun d tick m

-- all that is received at a tick has landed at both units: the frames of delay measurement that they made in it have still to be sent
pub record TurnHasLanded {G : Type 0} (pre : G → RePlace → Type 0) (post : G → RePlace → Wide → Type 0)
    (d : Document) (tick : ℤ) (w : Coming G) (m : Meters) : Type 0 where
  pub down : HasLandedDown d tick w.downlink.plan w.downlink.way
  pub up : HasLandedUp pre post d tick w.answers.uplink w.answers.outbox.frames w.answers.queue w.answers.way
  pub begins : Awaits (begins_for d) (tick +ℤ pos 1) m
  pub ru : HasDoings (compensation_of d Ru) (made_at d Ru tick) m.ru
  pub du : HasDoings (compensation_of d Du) (made_at d Du tick) m.du

-- ---- the next moment

-- From a tick on and up to a time nothing is due at either unit, which stand for these histories; of the frames that the plan and the radio
-- unit have still to send none leaves, and of those that were sent down and up none lands; and no measurement begins.
pub record IsStill (d : Document) (now : ℤ) (h k : History) (left : List SentFrame) (down : List Leaving) (queue : List LinkFrame) (up : List Leaving) (to : ℤ) : Type 0 where
  pub quiet : IsQuietTo d.config h to
  pub taken : intake_due d.config (planned_for d) k to ≡ []
  pub calm : NoneComesDown d now left down to
  pub silent : NoneComesUp d now queue up to
  pub begins : NoneBeginsTo (begins_for d) now to

-- the least time at which it is otherwise
pub record IsMoment (d : Document) (now : ℤ) (h k : History) (left : List SentFrame) (down : List Leaving) (queue : List LinkFrame) (up : List Leaving) (tick : ℤ) : Type 0 where
  pub before : (to : ℤ) → to <ℤ tick → IsStill d now h k left down queue up to
  pub at : IsStill d now h k left down queue up tick → ⊥
  pub ended : tick ≤ℤ end_of_time

abbrev pub IsNextTick : Document → ℤ → History → History → List SentFrame → List Leaving → List LinkFrame → List Leaving → Option Ticks → Type 0
IsNextTick d now h k left down queue up None = (to : ℤ) → to ≤ℤ end_of_time → IsStill d now h k left down queue up to
IsNextTick d now h k left down queue up (Some t) = IsMoment d now h k left down queue up t.0

-- a time, if it is not after the end
abbrev pub within_end : Option Ticks → Option Ticks
within_end None = None
within_end (Some t) = if int_lt end_of_time t.0 then None else Some t
