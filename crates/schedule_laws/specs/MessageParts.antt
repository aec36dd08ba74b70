-- Where the messages of a stream begin among its parts.
use Rattle.std.specs.Prelude.{ℕ, ◌+◌, List, [], ◌∷◌, length}
use Rattle.window_config.specs.declared.config.Config.{Config}
use Rattle.window_config.specs.declared.endpoints.EndpointConfig.{EndpointConfig}
use Rattle.plan_model.specs.Packs.{Message, packs, parts_of}
use Rattle.plan_model.specs.Streams.{part_fields, most_parts, parts_in}
use Rattle.plan_model.specs.declared.lines.PlannedLine.{PlannedLine}
use Rattle.plan_model.specs.declared.streams.Stream.{Stream}

-- where messages begin among all their parts, the first of them at this place
unfoldable pub first_sections : {P : Type 0} → ℕ → List (Message P) → List ℕ
first_sections place [] = []
first_sections place (m ∷ ms) = place ∷ first_sections (place + length (parts_of m)) ms

-- those of a stream
abbrev pub stream_begins : Config → List PlannedLine → Stream → ℕ → EndpointConfig → List ℕ
stream_begins c lines stream ep e = first_sections 0 (packs part_fields (most_parts c stream) (parts_in lines stream ep e))
