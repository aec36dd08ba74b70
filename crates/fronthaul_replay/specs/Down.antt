-- What is still to be received at the radio unit: what the plan has still to send, and what is on its way (this project's profile).
use Rattle.std.specs.Prelude.{ℤ, pos, ◌+ℤ◌, List, map}
use Rattle.air_source.specs.declared.events.Side.TheVariants.{Ru}
use Rattle.du_scheduler.specs.Plans.{HasToSend}
use Rattle.du_scheduler.specs.declared.plans.Plan.{Plan}
use Rattle.plan_model.specs.Sent.{SentFrame}
use Rattle.frame_ways.specs.Leaving.{Leaving}
use Rattle.frame_sending.specs.Due.{AreSentFrom}
use Rattle.frame_ways.specs.Ways.{IsCalmTo, landings_on}
use Rattle.frame_ways.specs.declared.way.Way.{Way}
use Rattle.document_traffic.specs.Replayed.{leaving_with}
use Rattle.document_traffic.specs.Sending.{leaving_of}
use Rattle.fh_document.specs.declared.document.Document.{Document}
use Rattle.fronthaul_replay.specs.Waiting.{Waits, on_way}

-- all that leaves for the radio unit from a tick on, where the plan has these frames still to send
abbrev pub left_down : Document → List SentFrame → ℤ → List Leaving
left_down d left tick = leaving_with Ru d (map (leaving_of d) left) tick

-- at the start of a tick: the plan has these frames still to send, none for an earlier tick, and all else has gone on its way
pub record WaitsDown (d : Document) (now : ℤ) (p : Plan) (w : Way) : Type 0 where
  pub left : List SentFrame
  pub plan : HasToSend d.config d.plan left p
  pub later : AreSentFrom now left
  pub way : Waits d Ru now (left_down d left now) w

-- all that the plan sends up to a tick went out
pub record HasSentDown (d : Document) (tick : ℤ) (p : Plan) (w : Way) : Type 0 where
  pub left : List SentFrame
  pub plan : HasToSend d.config d.plan left p
  pub later : AreSentFrom (tick +ℤ pos 1) left
  pub way : Waits d Ru tick (left_down d left tick) w

-- all that is received at the unit at a tick has landed: the frames of delay measurement that are made in it have still to be sent
pub record HasLandedDown (d : Document) (tick : ℤ) (p : Plan) (w : Way) : Type 0 where
  pub left : List SentFrame
  pub plan : HasToSend d.config d.plan left p
  pub later : AreSentFrom (tick +ℤ pos 1) left
  pub way : Waits d Ru (tick +ℤ pos 1) (left_down d left tick) w

-- nothing of it leaves up to a time, and nothing that was sent lands from a tick on and up to it
abbrev pub NoneComesDown : Document → ℤ → List SentFrame → List Leaving → ℤ → Type 0
NoneComesDown d now left sent to = AreSentFrom (to +ℤ pos 1) left × IsCalmTo (landings_on (on_way d Ru sent)) now to
