-- The last frame, until its lines are told (this project's profile).
use Rattle.std.specs.Prelude.{Bool, List, Option, None}
use Rattle.explain_heard.specs.declared.heard.Heard.{Heard}
use Rattle.explain_heard.specs.declared.judged.Judged.{Judged}
use Rattle.explain_units.specs.declared.frames.FrameHeard.{FrameHeard}
use Rattle.window_config.specs.declared.delays.Delays.{Delays}
use Rattle.window_config.specs.declared.endpoints.EndpointConfig.{EndpointConfig}

-- the frame whose lines are not told yet; what its unit, which has these endpoints, heard of it where memory was not wanting; and what
-- was judged of the frame whose lines were told last
pub record LastHeard : Type 0 where
  pub frame : Option FrameHeard
  pub endpoints : List EndpointConfig
  pub delays : Delays
  pub heard : List Heard
  pub wanting : Bool
  pub judged : List Judged

-- no lines are left to tell
abbrev pub with_none : LastHeard → LastHeard
with_none l = record l { frame = None }

abbrev pub with_judged : LastHeard → List Judged → LastHeard
with_judged l js = record l { judged = js }
