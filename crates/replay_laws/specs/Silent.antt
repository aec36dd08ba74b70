-- A message of data that becomes complete and says nothing changes no claim, no block and no uplink section, though its fragments keep
-- their places. A message that is only counted begins no generation of fragments (this project's profile).
use Rattle.std.specs.Prelude.{◌≡◌, ℤ, Bool, true, ◌&&◌, if◌then◌else◌, List, [], ◌∷◌, ◌++◌, Option, Some, None}
use Rattle.air_source.specs.declared.events.Side.{Side}
use Rattle.ecpri_fragments.specs.Generations.{Fragment, generations_of, is_of, is_within, start_in}
use Rattle.ecpri_fragments.specs.Verdicts.{verdict_on}
use Rattle.ecpri_fragments.specs.declared.verdict.Verdict.TheVariants.{Repeat, Whole}
use Rattle.fault_counters.specs.declared.kinds.Counter.{Counter}
use Rattle.window_config.specs.declared.config.Config.{Config}
use Rattle.window_config.specs.declared.endpoints.EndpointConfig.{EndpointConfig}
use Rattle.unit_model.specs.Decoding.{Backwards, Decoded, Refused, Sections, data_now, data_sections}
use Rattle.unit_model.specs.Meetings.{Arrival, Meeting, Ignored, Commands, Piece, commands, fragments}
use Rattle.unit_model.specs.Reports.{commands_of, data_of, hold_of, met}
use Rattle.replay_laws.specs.Moments.{all_arrivals}
use Rattle.replay_laws.specs.Passing.{AreLandings}

-- what a fragment told: its message is whole, and is refused, has the other unit's direction, or has no sections
abbrev pub IsSilent : Option Decoded → Type 0
IsSilent None = ⊥
IsSilent (Some Refused) = Unit {0}
IsSilent (Some Backwards) = Unit {0}
IsSilent (Some (Sections [])) = Unit {0}
IsSilent (Some (Sections (d ∷ ds))) = ⊥

-- when the generation began in which f arrived, after these
abbrev pub began : ℤ → Fragment → List Fragment → ℤ
began hold f earlier = start_in hold f.at (generations_of hold f.ep f.seq earlier)

-- whether a later fragment is of f's endpoint and sequence id, and within f's generation
abbrev pub is_with : ℤ → Fragment → List Fragment → Fragment → Bool
is_with hold f earlier g = is_of f.ep f.seq g && is_within hold (began hold f earlier) g.at

-- these messages, but for such fragments
abbrev pub without : (Fragment → Bool) → List Meeting → List Meeting
without those [] = []
without those (Ignored k ∷ ms) = Ignored k ∷ without those ms
without those (Commands cs ∷ ms) = Commands cs ∷ without those ms
without those (Piece e g ∷ ms) = if those g then without those ms else Piece e g ∷ without those ms

-- among some arrivals at a unit, after the earlier messages and before the later ones
pub record SilentChangesNothing (side : Side) (c : Config) (arrivals : List Arrival) : Type 0 where
  -- the fragment that made a message complete that says nothing: without it, and without what is received later within its generation,
  -- the same commands are decoded, so each claim and each uplink section stays, and the same sections of data, so each block stays
  pub silent_rests :
      (later : List Meeting) (e : EndpointConfig) (f : Fragment) (earlier : List Meeting) → met side c arrivals ≡ later ++ Piece e f ∷ earlier
      → IsSilent (data_now side (hold_of side c.delays) e f (fragments earlier))
      → (commands (without (is_with (hold_of side c.delays) f (fragments earlier)) later ++ earlier) ≡ commands_of side c arrivals)
      × (data_sections side (hold_of side c.delays) (without (is_with (hold_of side c.delays) f (fragments earlier)) later ++ earlier) ≡ data_of side c arrivals)
  -- whatever is received later: without that fragment alone the commands are the same, and as it is received no section of data is told
  pub none_told :
      (later : List Meeting) (e : EndpointConfig) (f : Fragment) (earlier : List Meeting) → met side c arrivals ≡ later ++ Piece e f ∷ earlier
      → IsSilent (data_now side (hold_of side c.delays) e f (fragments earlier))
      → (commands (later ++ earlier) ≡ commands_of side c arrivals)
      × (data_sections side (hold_of side c.delays) (Piece e f ∷ earlier) ≡ data_sections side (hold_of side c.delays) earlier)
      × (verdict_on (hold_of side c.delays) f (fragments earlier) ≡ Whole)
  -- the fragments of a message that became complete, whatever it says, keep their places: what is received later within their generation
  -- is a repeat
  pub places_kept :
      (later : List Meeting) (d : EndpointConfig) (g : Fragment) (between : List Meeting) (e : EndpointConfig) (f : Fragment) (earlier : List Meeting)
      → met side c arrivals ≡ later ++ Piece d g ∷ (between ++ Piece e f ∷ earlier)
      → verdict_on (hold_of side c.delays) f (fragments earlier) ≡ Whole → is_with (hold_of side c.delays) f (fragments earlier) g ≡ true
      → verdict_on (hold_of side c.delays) g (fragments (between ++ Piece e f ∷ earlier)) ≡ Repeat
  -- a message that is counted and no more: without it the same fragments were received, so the generations are the same
  pub counted_begins_none :
      (later : List Meeting) (k : Counter) (earlier : List Meeting) → met side c arrivals ≡ later ++ Ignored k ∷ earlier
      → fragments (later ++ earlier) ≡ fragments (met side c arrivals)

-- at each unit, in every configuration, for all frames that may be replayed
abbrev pub EachSilentChangesNothing : Type 0
EachSilentChangesNothing = (side : Side) (c : Config) (landings : List Arrival) → AreLandings landings → SilentChangesNothing side c (all_arrivals landings)
