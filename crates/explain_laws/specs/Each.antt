-- Each thing that a unit judges has one line (this project's profile).
use Rattle.std.specs.Prelude.{◌≡◌, ℕ, ℤ, Bool, true, false, not, ⊤, List, [], ◌∷◌, ◌++◌, filter, length}
use Rattle.air_source.specs.declared.events.Event.{Event}
use Rattle.air_source.specs.declared.events.Side.{Side}
use Rattle.window_config.specs.declared.config.Config.{Config}
use Rattle.window_config.specs.declared.endpoints.EndpointConfig.{EndpointConfig}
use Rattle.unit_model.specs.Meetings.{Meeting, Ignored, Commands, Piece, meet}
use Rattle.unit_model.specs.Judgements.{Judgement, Met, Commanded, Fragmented, Unread, Turned, Given}
use Rattle.explain_model.specs.declared.values.ExplainLine.{ExplainLine}
use Rattle.explain_model.specs.declared.values.ExplainLine.TheVariants as line
use Rattle.explain_model.specs.declared.values.WholeAnswer.TheVariants as whole
use Rattle.explain_model.specs.Cells.{event_lines}
use Rattle.explain_model.specs.Sections.{frame_line}
use Rattle.explain_model.specs.Stories.{Story, stories}

-- ---- what has a line of its own

abbrev pub is_piece : Meeting → Bool
is_piece (Ignored k) = false
is_piece (Commands cs) = false
is_piece (Piece e f) = true

-- all that is judged, but a message of data to an endpoint: its line is that of its fragment, which is judged next
abbrev pub has_line : Side → List EndpointConfig → ℤ → Judgement → Bool
has_line side es at (Met m) = not (is_piece (meet side es at m))
has_line side es at (Commanded s v) = true
has_line side es at (Fragmented e f v) = true
has_line side es at (Unread ep e m why) = true
has_line side es at (Turned ep e m) = true
has_line side es at (Given h v) = true

-- ---- the line of a judgement

-- the line is of this arrival, of what was judged, and has the verdict
abbrev pub IsOf : ℕ → Judgement → ExplainLine → Type 0
IsOf n (Met m) (line.Measure number place size) = (number ≡ n) × (place ≡ m.place) × (size ≡ length m.payload)
IsOf n (Met m) (line.Other number place kind size) = (number ≡ n) × (place ≡ m.place) × (kind ≡ m.head.kind) × (size ≡ length m.payload)
IsOf n (Met m) (line.Short number place kind size) = (number ≡ n) × (place ≡ m.place) × (kind ≡ m.head.kind) × (size ≡ length m.payload)
IsOf n (Met m) (line.Unknown message kind) = (message.number ≡ n) × (message.place ≡ m.place) × (kind ≡ m.head.kind)
IsOf n (Met m) (line.Command message said) = (message.number ≡ n) × (message.place ≡ m.place)
IsOf n (Commanded s v) (line.Control k) = (k.number ≡ n) × (k.section ≡ s.section.id) × (k.mask ≡ s.section.mask) × (k.verdict ≡ v)
IsOf n (Fragmented e f v) (line.Fragment message bytes verdict) = (message.number ≡ n) × (message.seq.seq ≡ f.seq) × (message.seq.sub ≡ f.sub) × (bytes ≡ length f.bytes) × (verdict ≡ v)
IsOf n (Unread ep e m why) (line.Whole w) = (w.number ≡ n) × (w.id ≡ e.id) × (w.answer ≡ whole.Refused why)
IsOf n (Turned ep e m) (line.Whole w) = (w.number ≡ n) × (w.id ≡ e.id) × (w.answer ≡ whole.WrongWay)
IsOf n (Given h v) (line.Data d) = (d.number ≡ n) × (d.section ≡ h.section.id) × (d.verdict ≡ v)
IsOf n _ _ = ⊥

-- one line each, in their order
abbrev pub OneEach : ℕ → List Judgement → List ExplainLine → Type 0
OneEach n [] [] = ⊤
OneEach n [] (l ∷ ls) = ⊥
OneEach n (j ∷ js) [] = ⊥
OneEach n (j ∷ js) (l ∷ ls) = IsOf n j l × OneEach n js ls

-- ---- the lines of arrivals

abbrev pub is_arrival_line : ExplainLine → Bool
is_arrival_line (line.Frame number side at bytes refusal) = true
is_arrival_line (line.Measure number place size) = true
is_arrival_line (line.Other number place kind size) = true
is_arrival_line (line.Short number place kind size) = true
is_arrival_line (line.Unknown message kind) = true
is_arrival_line (line.Command message said) = true
is_arrival_line (line.Control s) = true
is_arrival_line (line.Fragment message bytes verdict) = true
is_arrival_line (line.Whole w) = true
is_arrival_line (line.Data s) = true
is_arrival_line _ = false

-- of these lines the first is an arrival's, and after it are these of what was judged of it, and then those
pub record BeginsWith (c : Config) (s : Story) (lines own later : List ExplainLine) : Type 0 where
  pub is : lines ≡ frame_line s ∷ (own ++ later)
  pub each : OneEach s.number (filter (has_line s.side c.endpoints s.arrival.at) s.judged) own

-- these are the lines of these arrivals, one arrival after the other
abbrev pub AreArrivals : Config → List Story → List ExplainLine → Type 0
AreArrivals c [] lines = lines ≡ []
AreArrivals c (s ∷ rest) lines = (own : List ExplainLine) × (later : List ExplainLine) × BeginsWith c s lines own later × AreArrivals c rest later

-- the lines of arrivals among all lines of events
abbrev pub EachHasOneLine : Config → List Event → Type 0
EachHasOneLine c events = AreArrivals c (stories c events) (filter is_arrival_line (event_lines c events))

abbrev pub EachJudgedHasOneLine : Type 0
EachJudgedHasOneLine = (c : Config) (events : List Event) → EachHasOneLine c events
