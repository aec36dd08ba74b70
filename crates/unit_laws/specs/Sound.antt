-- What is known of each judgement.
use Rattle.std.specs.Prelude.{ℕ, ℤ, List}
use Rattle.unit_model.specs.Headings.{IsSoundHeading}
use Rattle.unit_model.specs.Judgements.{Judgement, Met, Commanded, Fragmented, Unread, Turned, Given}
use Rattle.unit_model.specs.Proper.{IsAt, IsProperCommand, IsTime}
use Rattle.window_config.specs.declared.endpoints.EndpointConfig.{EndpointConfig}

-- it is of one of these endpoints, and was received at a time
abbrev pub CameTo : List EndpointConfig → ℕ → EndpointConfig → ℤ → Type 0
CameTo es ep e at = IsAt es ep e × IsTime at

abbrev pub IsSoundJudgement : List EndpointConfig → Judgement → Type 0
IsSoundJudgement es (Met m) = Unit {0}
IsSoundJudgement es (Commanded s v) = IsProperCommand es s
IsSoundJudgement es (Fragmented e f v) = CameTo es f.ep e f.at
IsSoundJudgement es (Unread ep e m why) = CameTo es ep e m.last
IsSoundJudgement es (Turned ep e m) = CameTo es ep e m.last
IsSoundJudgement es (Given h v) = IsAt es h.ep h.endpoint × IsSoundHeading h
