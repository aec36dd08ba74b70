-- What the radio unit answers, and what is still to be received at the distributed unit (this project's profile).
use Rattle.std.specs.Prelude.{◌≡◌, ℤ, pos, ◌+ℤ◌, ◌-ℤ◌, List, [], length, map}
use Rattle.air_source.specs.Answers.{AnswersBy}
use Rattle.air_source.specs.Kept.{IsKept, closure_of}
use Rattle.air_source.specs.declared.events.Side.TheVariants.{Ru, Du}
use Rattle.air_source.specs.declared.links.LinkFrame.{LinkFrame}
use Rattle.air_source.specs.declared.places.RePlace.{RePlace}
use Rattle.bfp_codec.specs.declared.samples.Wide.{Wide}
use Rattle.frame_ways.specs.Leaving.{Leaving}
use Rattle.frame_ways.specs.Ways.{IsCalmTo, landings_on}
use Rattle.frame_ways.specs.declared.way.Way.{Way}
use Rattle.document_traffic.specs.Replayed.{landings_for, leaving_with}
use Rattle.document_traffic.specs.Landing.{antenna_for, leaving_answer}
use Rattle.fh_document.specs.declared.document.Document.{Document}
use Rattle.uplink_laws.specs.Turns.{handed_until, left_from, messages_until}
use Rattle.frame_ways.specs.SendQueues.{IsSilentTo, WaitsFor}
use Rattle.fh_base.specs.Lists.{onto}
use Rattle.uplink_path.specs.Emitting.{AreNumbered, kept_antenna}
use Rattle.uplink_path.specs.declared.uplink.Uplink.{Uplink}
use Rattle.fronthaul_replay.specs.Waiting.{Waits, on_way}

-- ---- the radio unit's frames

-- those that were handed over up to a tick
abbrev pub handed_by : Document → ℤ → List LinkFrame
handed_by d tick = handed_until d.config (antenna_for d) (landings_for Ru d) tick

-- those that leave from a tick on
abbrev pub left_for : Document → ℤ → List LinkFrame
left_for d tick = left_from d.config (antenna_for d) (landings_for Ru d) tick

-- as they leave
abbrev pub answers_left : Document → ℤ → List Leaving
answers_left d tick = map leaving_answer (left_for d tick)

-- all that leaves for the distributed unit from a tick on
abbrev pub left_up : Document → ℤ → List Leaving
left_up d tick = leaving_with Du d (answers_left d tick) tick

-- and once the radio unit's frames of the tick were sent: all of delay measurement, and the later ones
abbrev pub left_at_end : Document → ℤ → List Leaving
left_at_end d tick = leaving_with Du d (answers_left d (tick +ℤ pos 1)) tick

-- ---- what was handed over, and what waits

-- the messages whose symbols start by a time were numbered, and their frames were taken on
pub record HasHanded {G : Type 0} (pre : G → RePlace → Type 0) (post : G → RePlace → Wide → Type 0) (d : Document) (until : ℤ) (u : Uplink G) (link : List LinkFrame) : Type 0 where
  pub kept : IsKept pre post (kept_antenna u)
  pub tone : AnswersBy (post (closure_of (kept_antenna u))) (antenna_for d)
  pub numbered : AreNumbered d.config u (onto [] (messages_until d.config (landings_for Ru d) until))
  pub none_handed : link ≡ []

-- of the frames that were handed over up to a time those that leave from a tick on wait, in the sent order, and all that leave before it
-- have gone on their way
pub record AwaitsFrames (d : Document) (until now : ℤ) (queue : List LinkFrame) (way : Way) : Type 0 where
  pub waiting : WaitsFor (length d.config.endpoints) now (handed_by d until) queue
  pub on_way : Waits d Du now (left_up d now) way

-- at the start of a tick, where the messages whose symbols start before it were handed over
pub record WaitsUp {G : Type 0} (pre : G → RePlace → Type 0) (post : G → RePlace → Wide → Type 0) (d : Document) (now : ℤ) (u : Uplink G) (link queue : List LinkFrame) (way : Way) : Type 0 where
  pub handed : HasHanded pre post d (now -ℤ pos 1) u link
  pub frames : AwaitsFrames d (now -ℤ pos 1) now queue way

-- ---- within a tick

-- the messages of the tick were handed over too
pub record HasAnswered {G : Type 0} (pre : G → RePlace → Type 0) (post : G → RePlace → Wide → Type 0) (d : Document) (tick : ℤ) (u : Uplink G) (link queue : List LinkFrame) (way : Way) : Type 0 where
  pub handed : HasHanded pre post d tick u link
  pub frames : AwaitsFrames d tick tick queue way

-- all that leave in the tick were sent
pub record HasSentUp (d : Document) (tick : ℤ) (queue : List LinkFrame) (way : Way) : Type 0 where
  pub waiting : WaitsFor (length d.config.endpoints) (tick +ℤ pos 1) (handed_by d tick) queue
  pub on_way : Waits d Du tick (left_at_end d tick) way

-- all that is received at the distributed unit at a tick has landed: the frames of delay measurement made in it have still to be sent
pub record HasLandedUp {G : Type 0} (pre : G → RePlace → Type 0) (post : G → RePlace → Wide → Type 0) (d : Document) (tick : ℤ) (u : Uplink G) (link queue : List LinkFrame) (way : Way) : Type 0 where
  pub handed : HasHanded pre post d tick u link
  pub waiting : WaitsFor (length d.config.endpoints) (tick +ℤ pos 1) (handed_by d tick) queue
  pub on_way : Waits d Du (tick +ℤ pos 1) (left_at_end d tick) way

-- none of these frames leaves the radio unit up to a time, and nothing that was sent lands from a tick on and up to it
abbrev pub NoneComesUp : Document → ℤ → List LinkFrame → List Leaving → ℤ → Type 0
NoneComesUp d now queue sent to = IsSilentTo queue to × IsCalmTo (landings_on (on_way d Du sent)) now to
