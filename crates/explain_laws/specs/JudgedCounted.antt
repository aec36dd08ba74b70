-- As what a judgement is counted.
use Rattle.std.specs.Prelude.{◌≡◌, ℤ, ◌+◌, List, [], ◌∷◌, ◌++◌}
use Rattle.ecpri_frames.specs.Messages.{pdu}
use Rattle.fault_counters.specs.Counts.{times}
use Rattle.fault_counters.specs.declared.kinds.Counter.{Counter}
use Rattle.fault_counters.specs.declared.kinds.Counter.TheVariants as counter
use Rattle.air_source.specs.declared.events.Side.{Side}
use Rattle.window_config.specs.declared.config.Config.{Config}
use Rattle.window_config.specs.declared.endpoints.EndpointConfig.{EndpointConfig}
use Rattle.unit_model.specs.Counts.{command_counter, data_counter, fragment_counter, refusal_counted}
use Rattle.unit_model.specs.Meetings.{Arrival, Meeting, Ignored, Commands, Piece, meet}
use Rattle.unit_model.specs.Reports.{arrivals_counted}
use Rattle.unit_model.specs.Judgements.{Judgement, Met, Commanded, Fragmented, Unread, Turned, Given, judgements}

-- what a message that changes nothing is counted as beside
abbrev pub ignored_counted : Meeting → List Counter
ignored_counted (Ignored x) = x ∷ []
ignored_counted (Commands cs) = []
ignored_counted (Piece e f) = []

abbrev pub judgement_counted : Side → List EndpointConfig → ℤ → Judgement → List Counter
judgement_counted side es at (Met m) = ignored_counted (meet side es at m) ++ counter.Messages ∷ []
judgement_counted side es at (Commanded c v) = command_counter v ∷ []
judgement_counted side es at (Fragmented e f v) = fragment_counter v ∷ []
judgement_counted side es at (Unread ep e m why) = counter.URefused ∷ []
judgement_counted side es at (Turned ep e m) = counter.WrongWay ∷ []
judgement_counted side es at (Given h v) = data_counter v ∷ []

abbrev pub judged_counted : Side → List EndpointConfig → ℤ → List Judgement → List Counter
judged_counted side es at [] = []
judged_counted side es at (j ∷ js) = judgement_counted side es at j ++ judged_counted side es at js

abbrev pub JudgementsAreCounted : Type 0
JudgementsAreCounted =
    (side : Side) (c : Config) (earlier : List Arrival) (a : Arrival) (k : Counter)
    → times (arrivals_counted side c (a ∷ earlier)) k
    ≡ times (arrivals_counted side c earlier) k
    + (times (refusal_counted (pdu a.frame).refusal ++ counter.Frames ∷ []) k + times (judged_counted side c.endpoints a.at (judgements side c earlier a)) k)
