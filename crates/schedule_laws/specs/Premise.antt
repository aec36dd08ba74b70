-- What arrives at the radio unit where the windows pass the check, nothing is injected, each frame that a valid plan sends has a copy,
-- and each copy's delay lies in T12 (O-RAN.WG4.CUS, delay management). Times are ticks.
use Rattle.std.specs.Prelude.{◌≡◌, ◌==◌, ⊤, ℕ, ℤ, pos, ◌+◌, ◌%◌, ◌+ℤ◌, ◌≤ℤ◌, true, List, [], ◌∷◌, All}
use Rattle.std.specs.Int.{int_rem_euclid}
use Rattle.air_source.specs.declared.events.Side.TheVariants.{Ru}
use Rattle.ecpri_fragments.specs.Generations.{Fragment}
use Rattle.ecpri_frames.specs.Gathering.{whole_messages}
use Rattle.window_config.specs.Configs.{IsConfig}
use Rattle.window_config.specs.Plans.{IsPlanLine}
use Rattle.window_config.specs.Relations.{PassesCheck}
use Rattle.window_config.specs.Windows.{ticks_of_ns}
use Rattle.window_config.specs.declared.config.Config.{Config}
use Rattle.window_config.specs.declared.plan.PlanLine.{PlanLine}
use Rattle.unit_model.specs.Commands.{is_for, is_idle}
use Rattle.unit_model.specs.Meetings.{Arrival, Meeting, Commands, Piece, met_in}
use Rattle.unit_model.specs.declared.decoded.ControlSection.{ControlSection}
use Rattle.plan_model.specs.Lines.{is_down_kind, is_idle_kind as is_idle_line, planned}
use Rattle.plan_model.specs.Sent.{SentFrame, sent}
use Rattle.plan_model.specs.Streams.{frames_in}
use Rattle.plan_model.specs.Valid.{IsValid}
use Rattle.plan_model.specs.declared.lines.PlannedLine.{PlannedLine}
use Rattle.plan_model.specs.declared.streams.Stream.{Stream}
use Rattle.plan_model.specs.declared.streams.Stream.TheVariants.{DownCommands, UpCommands, DownData, UpData}
use Rattle.fh_base.specs.Members.{IsIn}

-- a command that carries what a line plans: a header for the endpoint with the frame's low 8 bits, and one section
-- (O-RAN.WG4.CUS, C-plane messages)
pub record IsCommandFor (p : PlannedLine) (d : ControlSection) : Type 0 where
  pub ep : d.ep ≡ p.ep
  pub endpoint : d.endpoint ≡ p.endpoint
  pub fits : is_for d.head.body d.endpoint.numerology ≡ true
  pub idle : is_idle d.head.body ≡ is_idle_line p.line.kind
  pub down : d.head.down ≡ is_down_kind p.line.kind
  pub filter : d.head.filter ≡ 0
  pub frame_id : pos d.head.frame_id ≡ int_rem_euclid p.line.slot.frame (pos 256)
  pub subframe : d.head.subframe ≡ p.line.slot.subframe
  pub slot : d.head.slot ≡ p.line.slot.slot
  pub start_symbol : d.head.start_symbol ≡ p.line.symbol
  pub symbol : d.section.symbol ≡ p.line.symbol
  pub num_symbol : d.section.num_symbol ≡ p.line.count
  pub start_prb : d.section.start_prb ≡ p.line.start_prb
  pub num_prb : d.section.num_prb ≡ p.line.num_prb
  pub mask : d.section.mask ≡ p.line.mask
  pub id : d.section.id ≡ p.line.section

-- the bytes of each fragment, by endpoint, message and subsequence
abbrev pub Texts : Type 0
Texts = ℕ → ℕ → ℕ → List ℕ

-- a fragment as the frame carries it: the sequence id is the message's number modulo 256 (O-RAN.WG4.CUS, the eCPRI transport header)
abbrev pub fragment_at : Config → Texts → SentFrame → ℤ → Fragment
fragment_at c text f at = record {
  ep = f.ep;
  seq = f.number % 256;
  at = at;
  last = f.sub + 1 == frames_in c f.stream f.message;
  sub = f.sub;
  bytes = text f.ep f.number f.sub;
}

-- the one command that a frame is read as
pub record IsReadAsCommand (f : SentFrame) (a : Arrival) (ms : List Meeting) : Type 0 where
  pub command : ControlSection
  pub is : ms ≡ Commands (command ∷ []) ∷ []
  pub at : command.at.0 ≡ a.at
  pub for_line : IsCommandFor f.message.first.planned command

-- what the radio unit reads in a frame of a stream is what the plan sends by it; uplink data it sends itself, and gets none
abbrev pub IsReadBy : Stream → Config → Texts → SentFrame → Arrival → List Meeting → Type 0
IsReadBy DownCommands c text f a ms = IsReadAsCommand f a ms
IsReadBy UpCommands c text f a ms = IsReadAsCommand f a ms
IsReadBy DownData c text f a ms = ms ≡ Piece f.endpoint (fragment_at c text f a.at) ∷ []
IsReadBy UpData c text f a ms = ⊥

-- a copy of a frame that is received within T12 of its sending time
pub record IsCopyOf (c : Config) (text : Texts) (f : SentFrame) (a : Arrival) : Type 0 where
  pub from : (f.at +ℤ ticks_of_ns c.delays.t12.min) ≤ℤ a.at
  pub to : a.at ≤ℤ (f.at +ℤ ticks_of_ns c.delays.t12.max)
  pub read : IsReadBy f.stream c text f a (met_in Ru c.endpoints a.at (whole_messages a.frame))

-- times do not go back, the newest first
abbrev pub AreInOrder : List Arrival → Type 0
AreInOrder [] = ⊤
AreInOrder (a ∷ earlier) = ((b : Arrival) → IsIn b earlier → b.at ≤ℤ a.at) × AreInOrder earlier

-- A document's configuration and plan, and what was received at its radio unit, the newest first: each arrival is a copy of a frame that
-- is sent, and of each frame that is sent a copy was received.
pub record AllArrive (c : Config) (lines : List PlanLine) (text : Texts) (arrivals : List Arrival) : Type 0 where
  pub config : IsConfig c
  pub lines_fit : All IsPlanLine lines
  pub valid : IsValid c lines
  pub check : PassesCheck c.delays
  pub in_order : AreInOrder arrivals
  pub came : (a : Arrival) → IsIn a arrivals → (f : SentFrame) × IsIn f (sent c (planned c.endpoints lines)) × IsCopyOf c text f a
  pub every : (f : SentFrame) → IsIn f (sent c (planned c.endpoints lines)) → (a : Arrival) × IsIn a arrivals × IsCopyOf c text f a
