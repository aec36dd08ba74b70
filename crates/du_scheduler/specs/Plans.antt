-- What a plan is: its configuration, its lines, and the frames that it has still to send.
use Rattle.std.specs.Prelude.{◌≡◌, ◌≤◌, All, List, [], ◌∷◌, ◌++◌, length, map, take, Option, Some, None, Result, Ok, Err}
use Rattle.air_source.specs.declared.places.RePlace.{RePlace}
use Rattle.bfp_codec.specs.declared.samples.Wide.{Wide}
use Rattle.window_config.specs.Configs.{IsConfig}
use Rattle.window_config.specs.Plans.{IsPlanLine}
use Rattle.window_config.specs.declared.config.Config.{Config}
use Rattle.window_config.specs.declared.plan.PlanLine.{PlanLine}
use Rattle.plan_model.specs.Lines.{planned}
use Rattle.plan_model.specs.Sent.{SentFrame, sent}
use Rattle.plan_model.specs.Valid.{IsValid, plan_refusal}
use Rattle.plan_model.specs.declared.streams.Stream.{Stream}
use Rattle.plan_model.specs.declared.streams.Stream.TheVariants.{DownCommands, UpCommands, DownData, UpData}
use Rattle.du_scheduler.specs.declared.testing.PlanRefusal.{PlanRefusal}
use Rattle.du_scheduler.specs.declared.testing.PlanRefusal.TheVariants.{At, NoMemory}
use Rattle.du_scheduler.specs.Queues.{IsQueue, StandsFor}
use Rattle.du_scheduler.specs.Runs.{turn_of}
use Rattle.sent_frames.specs.Frames.{sent_bytes}
use Rattle.sent_frames.specs.Sources.{source_of}
use Rattle.du_scheduler.specs.Tables.{IsTable}
use Rattle.du_scheduler.specs.declared.plans.Plan.{Plan}
use Rattle.du_scheduler.specs.declared.plans.Plane.{Plane}
use Rattle.du_scheduler.specs.declared.plans.Plane.TheVariants.{C, U}
use Rattle.du_scheduler.specs.declared.plans.Sent.{Sent}
use Rattle.du_scheduler.specs.declared.plans.Written.{Written}

-- a plan of this configuration with these lines, which has still to send these frames
pub record HasToSend (c : Config) (lines : List PlanLine) (left : List SentFrame) (p : Plan) : Type 0 where
  pub config : IsConfig c
  pub fit : All IsPlanLine lines
  pub valid : IsValid c lines
  pub given : List SentFrame
  pub all : sent c (planned c.endpoints lines) ≡ given ++ left
  pub lines_are : p.lines.items ≡ planned c.endpoints lines
  pub fragment : p.fragment ≡ c.fragment
  pub table : IsTable c (planned c.endpoints lines) p.table
  pub queue : IsQueue p.queue
  pub stands : StandsFor p.queue (map turn_of left)
  pub room : 9008 ≤ length p.room.items

-- a plan that was tested
pub record IsPlan (p : Plan) : Type 0 where
  pub config : Config
  pub lines : List PlanLine
  pub left : List SentFrame
  pub is : HasToSend config lines left p

-- the test gives a plan that has all frames to send, or the first refusal; memory may run out
abbrev pub Checks : Config → List PlanLine → Result Plan PlanRefusal → Type 0
Checks c lines (Ok p) = HasToSend c lines (sent c (planned c.endpoints lines)) p
Checks c lines (Err (At index why)) = plan_refusal c lines ≡ Some (index, why)
Checks c lines (Err NoMemory) = Unit {0}

-- ---- a frame that is given

abbrev pub plane_of : Stream → Plane
plane_of DownCommands = C
plane_of UpCommands = C
plane_of DownData = U
plane_of UpData = U

-- the frame, with its bytes where the source answers this at each resource element
pub record IsSent (c : Config) (answer : RePlace → Wide) (f : SentFrame) (s : Sent) : Type 0 where
  pub at : s.at.0 ≡ f.at
  pub plane : s.plane ≡ plane_of f.stream
  pub ep : s.ep ≡ f.ep
  pub bytes : s.bytes.now ≡ sent_bytes c (source_of c.endpoints answer) f

-- the first frame to follow, or none where none is left
abbrev pub GivesSent : Config → (RePlace → Wide) → List SentFrame → Option Sent → Type 0
GivesSent c answer left None = left ≡ []
GivesSent c answer left (Some s) = (f : SentFrame) × (rest : List SentFrame) × (left ≡ f ∷ rest) × IsSent c answer f s

-- the same of what was written into the room
pub record IsWritten (c : Config) (answer : RePlace → Wide) (f : SentFrame) (w : Written) (p : Plan) : Type 0 where
  pub at : w.at.0 ≡ f.at
  pub plane : w.plane ≡ plane_of f.stream
  pub ep : w.ep ≡ f.ep
  pub bytes : take w.size p.room.items ≡ sent_bytes c (source_of c.endpoints answer) f

abbrev pub Writes : Config → (RePlace → Wide) → List SentFrame → Option Written → Plan → Type 0
Writes c answer left None p = left ≡ []
Writes c answer left (Some w) p = (f : SentFrame) × (rest : List SentFrame) × (left ≡ f ∷ rest) × IsWritten c answer f w p

-- what was written is lent
pub record IsLent (w : Written) (p : Plan) (s : Sent) : Type 0 where
  pub at : s.at ≡ w.at
  pub plane : s.plane ≡ w.plane
  pub ep : s.ep ≡ w.ep
  pub bytes : s.bytes.now ≡ take w.size p.room.items

-- when a frame was given, the others are to follow
abbrev pub LeavesPlan : {X : Type 0} → Plan → Plan → Option X → Type 0
LeavesPlan old new None = (c : Config) (lines : List PlanLine) (left : List SentFrame) → HasToSend c lines left old → (left ≡ []) × HasToSend c lines [] new
LeavesPlan old new (Some x) =
    (c : Config) (lines : List PlanLine) (left : List SentFrame) → HasToSend c lines left old
    → (f : SentFrame) × (rest : List SentFrame) × (left ≡ f ∷ rest) × HasToSend c lines rest new
