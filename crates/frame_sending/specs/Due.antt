-- The frames of a plan that leave the distributed unit at one time (this project's profile).
use Rattle.std.specs.Prelude.{◌≡◌, ℤ, pos, ◌+ℤ◌, ◌<◌, ◌≤ℤ◌, ◌^◌, List, ◌++◌, All, length, map}
use Rattle.air_source.specs.Answers.{AnswersBy}
use Rattle.air_source.specs.declared.places.RePlace.{RePlace}
use Rattle.bfp_codec.specs.declared.samples.Wide.{Wide}
use Rattle.du_scheduler.specs.Plans.{HasToSend, plane_of}
use Rattle.du_scheduler.specs.declared.plans.Plan.{Plan}
use Rattle.du_scheduler.specs.declared.plans.Plane.{Plane}
use Rattle.du_scheduler.specs.declared.plans.Plane.TheVariants.{C as OfC, U as OfU}
use Rattle.plan_model.specs.Sent.{SentFrame}
use Rattle.sent_frames.specs.Frames.{sent_bytes}
use Rattle.sent_frames.specs.Sources.{source_of}
use Rattle.frame_ways.specs.Leaving.{Leaving}
use Rattle.fh_document.specs.declared.delivered.TrafficClass.{TrafficClass}
use Rattle.fh_document.specs.declared.delivered.TrafficClass.TheVariants.{C, U}
use Rattle.frame_ways.specs.Ways.{OnWay, StandsFor, having_sent_all}
use Rattle.frame_ways.specs.declared.way.Way.{Way}
use Rattle.window_config.specs.declared.config.Config.{Config}
use Rattle.window_config.specs.declared.plan.PlanLine.{PlanLine}

-- ---- a frame as it leaves

-- the class of the frames of a plane
abbrev pub class_for : Plane → TrafficClass
class_for OfC = C
class_for OfU = U

-- a frame of a plan, with its bytes where the source answers this at each resource element
abbrev pub leaving_by : Config → (RePlace → Wide) → SentFrame → Leaving
leaving_by c answer f = record { at = f.at; class = class_for (plane_of f.stream); frame = sent_bytes c (source_of c.endpoints answer) f }

-- none leaves before a time
abbrev pub AreSentFrom : ℤ → List SentFrame → Type 0
AreSentFrom now fs = All (λ f. now ≤ℤ f.at) fs

-- each is short enough for an air
abbrev pub AreShort : Config → (RePlace → Wide) → List SentFrame → Type 0
AreShort c answer fs = All (λ f. length (leaving_by c answer f).frame < 2 ^ 32) fs

-- ---- the frames of a tick

-- a plan has these frames still to send, each is short, and the samples answer this at each resource element
pub record MaySend (post : RePlace → Wide → Type 0) (c : Config) (lines : List PlanLine) (left : List SentFrame) (answer : RePlace → Wide) (p : Plan) : Type 0 where
  pub answers : AnswersBy post answer
  pub plan : HasToSend c lines left p
  pub short : AreShort c answer left

-- the first frames of a list went out, which leave at a tick, and the plan has the rest still to send, which leave later
pub record HasSentDue (c : Config) (lines : List PlanLine) (left : List SentFrame) (answer : RePlace → Wide) (v : OnWay) (tick : ℤ) (p : Plan) (w : Way) : Type 0 where
  pub gone : List SentFrame
  pub rest : List SentFrame
  pub parts : left ≡ gone ++ rest
  pub at : All (λ f. f.at ≡ tick) gone
  pub later : AreSentFrom (tick +ℤ pos 1) rest
  pub plan : HasToSend c lines rest p
  pub way : StandsFor (having_sent_all v (map (leaving_by c answer) gone)) tick w
