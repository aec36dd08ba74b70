-- The message of data that gave a cell its samples: each of its fragments was received, all in one generation, none before the first
-- arrival or after the last, each in the window of the cell's symbol (O-RAN.WG4.CUS for the windows and for the fields of a fragment;
-- the rest is this project's profile).
use Rattle.std.specs.Prelude.{◌≡◌, ℕ, ℤ, ◌+◌, ◌≤◌, ◌≤ℤ◌, true, All, Contains, List, ◌∷◌, ◌++◌, Some, length, slice_get}
use Rattle.bfp_codec.specs.declared.samples.Wide.{Wide}
use Rattle.air_source.specs.declared.events.AirCell.{AirCell}
use Rattle.air_source.specs.declared.events.Side.{Side}
use Rattle.ecpri_fragments.specs.Generations.{Fragment, seen}
use Rattle.ecpri_fragments.specs.Verdicts.{Message, standing_before, whole_now}
use Rattle.window_config.specs.declared.config.Config.{Config}
use Rattle.window_config.specs.declared.endpoints.EndpointConfig.{EndpointConfig}
use Rattle.unit_model.specs.Decoding.{Sections, decode_message}
use Rattle.unit_model.specs.Meetings.{Arrival, Meeting, Piece, fragments}
use Rattle.unit_model.specs.Reports.{hold_of, met}
use Rattle.unit_model.specs.declared.cells.Cell.{Cell}
use Rattle.unit_model.specs.declared.decoded.UserSection.{UserSection}
use Rattle.replay_laws.specs.Events.{events}
use Rattle.unit_model.specs.Heard.{cells_heard}
use Rattle.replay_laws.specs.Moments.{all_arrivals}
use Rattle.replay_laws.specs.Passing.{AreLandings}
use Rattle.replay_laws.specs.Traffic.{Traffic, landings_at}
use Rattle.replay_laws.specs.Shown.{GaveSamples, HaveOneId, IsInWindow}

-- the fragments of the message that f makes whole after these, f first
abbrev pub fragments_gathered : ℤ → Fragment → List Fragment → List Fragment
fragments_gathered hold f earlier = f ∷ standing_before hold f earlier

-- one of them, where a section of that message is `part` and covers a symbol that starts then
pub record IsPieceInTime (side : Side) (c : Config) (arrivals : List Arrival) (f : Fragment) (earlier : List Fragment) (part : UserSection) (start : ℤ) (x : Fragment) : Type 0 where
  pub came : Contains (fragments (met side c arrivals)) x
  pub ep : x.ep ≡ part.ep
  pub seq : x.seq ≡ f.seq
  -- it is f, or was received before f in f's generation
  pub together : Contains (f ∷ seen (hold_of side c.delays) f earlier) x
  pub from : part.first.0 ≤ℤ x.at
  pub to : x.at ≤ℤ part.last.0
  pub in_window : IsInWindow side c.delays x.at x.at start

-- one of these with this subsequence id
pub record HasFragment (fs : List Fragment) (sub : ℕ) : Type 0 where
  pub fragment : Fragment
  pub there : Contains fs fragment
  pub sub_is : fragment.sub ≡ sub

-- one of these that was received then
pub record CameThen (fs : List Fragment) (at : ℤ) : Type 0 where
  pub fragment : Fragment
  pub there : Contains fs fragment
  pub came : fragment.at ≡ at

-- The message of a section of data that covers a symbol that starts then: one fragment made it complete, after the earlier messages and
-- before the later ones. What is stored then are the fragments of the message, each of which is the piece of its subsequence id: there is
-- one of each id from 0 to that of the fragment with E = 1, and none beyond.
pub record IsGathered (side : Side) (c : Config) (arrivals : List Arrival) (part : UserSection) (start : ℤ) : Type 0 where
  pub later : List Meeting
  pub endpoint : EndpointConfig
  pub fragment : Fragment
  pub earlier : List Meeting
  pub came : met side c arrivals ≡ later ++ Piece endpoint fragment ∷ earlier
  -- the message, and its sections
  pub message : Message
  pub whole : whole_now (hold_of side c.delays) fragment (fragments earlier) ≡ Some message
  pub sections : List UserSection
  pub decoded : decode_message side fragment.ep endpoint message ≡ Sections sections
  pub there : Contains sections part
  -- its fragments
  pub end : Fragment
  pub end_there : Contains (fragments_gathered (hold_of side c.delays) fragment (fragments earlier)) end
  pub end_is : end.last ≡ true
  pub count : length message.pieces ≡ end.sub + 1
  pub each_there : (sub : ℕ) → sub ≤ end.sub → HasFragment (fragments_gathered (hold_of side c.delays) fragment (fragments earlier)) sub
  pub pieces_are : All (λ x. slice_get message.pieces x.sub ≡ Some x.bytes) (fragments_gathered (hold_of side c.delays) fragment (fragments earlier))
  pub in_time : All (IsPieceInTime side c arrivals fragment (fragments earlier) part start) (fragments_gathered (hold_of side c.delays) fragment (fragments earlier))
  -- the first arrival is that of one of them, the last that of the fragment that made it whole
  pub first_came : CameThen (fragments_gathered (hold_of side c.delays) fragment (fragments earlier)) part.first.0
  pub last_came : fragment.at ≡ part.last.0

-- so was the message of each section that gave a cell samples, at each unit, in every configuration, for all frames that may be replayed
abbrev pub EachIsGathered : Type 0
EachIsGathered =
    (side : Side) (c : Config) (landings : List Arrival) (ep : ℕ) (a : AirCell) (samples : List Wide) → AreLandings landings
    → (g : GaveSamples side c (all_arrivals landings) ep a samples) → IsGathered side c (all_arrivals landings) g.part a.at.0

-- samples of a cell were given by a section whose message was gathered
pub record GaveGathered (side : Side) (c : Config) (arrivals : List Arrival) (a : AirCell) (samples : List Wide) : Type 0 where
  pub ep : ℕ
  pub gave : GaveSamples side c arrivals ep a samples
  pub gathered_is : IsGathered side c arrivals gave.part a.at.0

-- so it is with each cell of the unit among the events that shows samples
abbrev pub IsShownGathered : Side → Config → Traffic → Type 0
IsShownGathered side c t =
    All (λ a. (samples : List Wide) → a.block ≡ Some samples → GaveGathered side c (all_arrivals (landings_at side t)) a samples) (cells_heard side (events c t))

-- for any plan without overlaps
abbrev pub ShownAreGathered : Type 0
ShownAreGathered =
    (c : Config) (t : Traffic) → AreLandings t.at_ru → AreLandings t.at_du → ((cell : Cell) → HaveOneId t.planned cell)
    → (side : Side) → IsShownGathered side c t
