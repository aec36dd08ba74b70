-- The premise can be met by any valid plan whose windows pass the check, over however many messages: by each frame once, with the least
-- delay.
use Rattle.std.specs.Prelude.{ℕ, ℤ, ◌+ℤ◌, List, [], All, map}
use Rattle.air_source.specs.declared.events.Side.TheVariants.{Ru}
use Rattle.ecpri_frames.specs.Gathering.{whole_messages}
use Rattle.window_config.specs.Configs.{IsConfig}
use Rattle.window_config.specs.Plans.{IsPlanLine}
use Rattle.window_config.specs.Relations.{PassesCheck}
use Rattle.window_config.specs.Windows.{ticks_of_ns}
use Rattle.window_config.specs.declared.config.Config.{Config}
use Rattle.window_config.specs.declared.plan.PlanLine.{PlanLine}
use Rattle.fh_base.specs.Lists.{onto}
use Rattle.unit_model.specs.Meetings.{Arrival, met_in}
use Rattle.plan_model.specs.Lines.{planned}
use Rattle.plan_model.specs.Sent.{SentFrame, sent}
use Rattle.plan_model.specs.Valid.{IsValid}
use Rattle.plan_model.specs.declared.lines.PlannedLine.{PlannedLine}
use Rattle.schedule_laws.specs.Premise.{AllArrive, IsReadBy, Texts}
use Rattle.fh_base.specs.Members.{IsIn}

-- the bytes of a frame, as it is received then
abbrev pub least_arrival : (SentFrame → List ℕ) → SentFrame → ℤ → Arrival
least_arrival bytes f at = record { at = at; frame = bytes f }

-- whenever a frame with these bytes is received, it is read as what the plan sends by it
abbrev pub AreReadable : Config → List PlannedLine → Texts → (SentFrame → List ℕ) → Type 0
AreReadable c ps text bytes =
    (f : SentFrame) → IsIn f (sent c ps) → (at : ℤ) → IsReadBy f.stream c text f (least_arrival bytes f at) (met_in Ru c.endpoints at (whole_messages (bytes f)))

-- each frame once, T12's minimum after it left, the newest first
abbrev pub with_least_delay : Config → List PlannedLine → (SentFrame → List ℕ) → List Arrival
with_least_delay c ps bytes = onto [] (map (λ f. least_arrival bytes f (f.at +ℤ ticks_of_ns c.delays.t12.min)) (sent c ps))

abbrev pub LeastDelaysArrive : Type 0
LeastDelaysArrive =
    (c : Config) (lines : List PlanLine) (text : Texts) (bytes : SentFrame → List ℕ) → IsConfig c → All IsPlanLine lines → IsValid c lines → PassesCheck c.delays
    → AreReadable c (planned c.endpoints lines) text bytes → AllArrive c lines text (with_least_delay c (planned c.endpoints lines) bytes)
