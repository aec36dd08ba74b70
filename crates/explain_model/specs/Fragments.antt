-- What is kept of fragments: of first fragments that were received under a used sequence id, and of generations that never become complete
-- (eCPRI transport header of O-RAN.WG4.CUS for the fields; the rest is this project's profile).
use Rattle.std.specs.Prelude.{ℕ, ℤ, ◌==◌, Bool, true, false, not, ◌&&◌, if◌then◌else◌, List, [], ◌∷◌, ◌++◌, filter, length, take, Option, Some, None}
use Rattle.std.specs.List.{flat_map}
use Rattle.std.specs.Str.{bytes_eq}
use Rattle.fh_base.specs.declared.values.Slot.{Slot}
use Rattle.ecpri_fragments.specs.Generations.{Fragment, Generation, generations_of, is_of, is_within, joined, with_fragment}
use Rattle.ecpri_fragments.specs.Verdicts.{is_whole, piece_at, standing, standing_before}
use Rattle.ecpri_fragments.specs.declared.verdict.Verdict.{Verdict}
use Rattle.ecpri_fragments.specs.declared.verdict.Verdict.TheVariants.{Stored, Whole, Repeat}
use Rattle.uplane_sections.specs.Header.{head_of}
use Rattle.air_source.specs.Units.{same_side}
use Rattle.air_source.specs.declared.events.Side.{Side}
use Rattle.air_source.specs.declared.events.Side.TheVariants.{Ru, Du}
use Rattle.window_config.specs.declared.config.Config.{Config}
use Rattle.window_config.specs.declared.endpoints.EndpointConfig.{EndpointConfig}
use Rattle.unit_model.specs.Decoding.{has_way}
use Rattle.unit_model.specs.Reports.{hold_of}
use Rattle.unit_model.specs.Judgements.{Judgement, Fragmented}
use Rattle.explain_model.specs.Sections.{symbol_named}
use Rattle.explain_model.specs.Stories.{Story}
use Rattle.explain_model.specs.declared.headers.BeginningRecord.{BeginningRecord}
use Rattle.explain_model.specs.declared.headers.RepeatedRecord.{RepeatedRecord}

-- ---- the fragments that were received at a unit, each with the number of its arrival, its endpoint and what it was

pub record NumberedFragment : Type 0 where
  pub number : ℕ
  pub endpoint : EndpointConfig
  pub fragment : Fragment
  pub verdict : Verdict

abbrev pub fragment_in : ℕ → Judgement → List NumberedFragment
fragment_in number (Fragmented e f v) = record { number = number; endpoint = e; fragment = f; verdict = v } ∷ []
fragment_in number _ = []

abbrev pub fragments_of_story : Story → List NumberedFragment
fragments_of_story s = flat_map (fragment_in s.number) s.judged

-- in the order in which they were received
unfoldable pub unit_fragments : Side → List Story → List NumberedFragment
unit_fragments side stories = flat_map fragments_of_story (filter (λ s. same_side s.side side) stories)

-- ---- a first fragment that tells of a symbol

-- the symbol that it names by the frame nearest to its own arrival, where it is of subsequence 0 and of the unit's direction
abbrev pub first_named : Side → EndpointConfig → Fragment → Option (Slot × ℕ)
first_named side e f =
    if (f.sub == 0) && has_way side (head_of f.bytes) then symbol_named e.numerology f.bytes f.at else None

-- ---- one that was received under a used sequence id

-- the message's header, and the id, symInc and PRBs of its first section: as many bytes as there are, at most eight
abbrev pub first_bytes : List ℕ → List ℕ
first_bytes bytes = take 8 bytes

-- it does not begin as the one that is stored
abbrev pub differs_from : Option (List ℕ) → List ℕ → Bool
differs_from None bytes = false
differs_from (Some stood) bytes = not (bytes_eq (first_bytes stood) (first_bytes bytes))

abbrev pub is_repeat : Verdict → Bool
is_repeat Repeat = true
is_repeat _ = false

-- where these were received before it, the newest first: it is answered Repeat, and another message's first fragment is stored in its
-- generation
unfoldable pub is_of_another : ℤ → List Fragment → NumberedFragment → Bool
is_of_another hold earlier x =
    is_repeat x.verdict && differs_from (piece_at (standing_before hold x.fragment earlier) 0) x.fragment.bytes

abbrev pub repeated_with : Side → NumberedFragment → Option (Slot × ℕ) → List RepeatedRecord
repeated_with side x None = []
repeated_with side x (Some (slot, symbol)) =
    record { side = side; ep = x.fragment.ep; slot = slot; symbol = symbol; seq = x.fragment.seq; number = x.number } ∷ []

abbrev pub repeated_in : Side → ℤ → List Fragment → NumberedFragment → List RepeatedRecord
repeated_in side hold earlier x =
    if is_of_another hold earlier x then repeated_with side x (first_named side x.endpoint x.fragment) else []

-- in the order in which they were received
unfoldable pub repeated_after : Side → ℤ → List Fragment → List NumberedFragment → List RepeatedRecord
repeated_after side hold earlier [] = []
repeated_after side hold earlier (x ∷ later) = repeated_in side hold earlier x ++ repeated_after side hold (x.fragment ∷ earlier) later

abbrev pub unit_repeated : Config → List Story → Side → List RepeatedRecord
unit_repeated c stories side = repeated_after side (hold_of side c.delays) [] (unit_fragments side stories)

-- ---- a generation that never becomes whole

-- it is stored in its generation
abbrev pub has_stood : Verdict → Bool
has_stood Stored = true
has_stood Whole = true
has_stood _ = false

-- the generation with what was received later, up to what begins another of its sequence id
unfoldable pub grown : ℤ → ℕ → ℕ → Generation → List Fragment → Generation
grown hold ep seq g [] = g
grown hold ep seq g (x ∷ later) =
    if is_of ep seq x
    then (if is_within hold g.start x.at then grown hold ep seq (joined x g) later else g)
    else grown hold ep seq g later

-- the last of some generations, where there is one
abbrev pub last_begun : List Generation → Fragment → Generation
last_begun [] f = record { start = f.at; held = [] }
last_begun (g ∷ gs) f = g

-- the generation that a fragment falls in, as it is when the fragment is received
abbrev pub generation_at : ℤ → List Fragment → Fragment → Generation
generation_at hold earlier f = last_begun (with_fragment hold f (generations_of hold f.ep f.seq earlier)) f

abbrev pub fragments_alone : List NumberedFragment → List Fragment
fragments_alone [] = []
fragments_alone (x ∷ xs) = x.fragment ∷ fragments_alone xs

-- what is stored in its generation in the end
unfoldable pub stands_at_last : ℤ → List Fragment → NumberedFragment → List NumberedFragment → List Fragment
stands_at_last hold earlier x later =
    standing (grown hold x.fragment.ep x.fragment.seq (generation_at hold earlier x.fragment) (fragments_alone later)).held

abbrev pub beginning_with : Side → NumberedFragment → List Fragment → Option (Slot × ℕ) → List BeginningRecord
beginning_with side x stood None = []
beginning_with side x stood (Some (slot, symbol)) =
    record { side = side; ep = x.fragment.ep; slot = slot; symbol = symbol; seq = x.fragment.seq; pieces = length stood; number = x.number } ∷ []

-- a fragment that was stored, of a generation in which these are stored in the end
abbrev pub beginning_by : Side → NumberedFragment → List Fragment → List BeginningRecord
beginning_by side x stood =
    if has_stood x.verdict && not (is_whole stood) then beginning_with side x stood (first_named side x.endpoint x.fragment) else []

abbrev pub beginning_in : Side → ℤ → List Fragment → NumberedFragment → List NumberedFragment → List BeginningRecord
beginning_in side hold earlier x later = beginning_by side x (stands_at_last hold earlier x later)

-- in the order in which their first fragments were received
unfoldable pub beginnings_after : Side → ℤ → List Fragment → List NumberedFragment → List BeginningRecord
beginnings_after side hold earlier [] = []
beginnings_after side hold earlier (x ∷ later) = beginning_in side hold earlier x later ++ beginnings_after side hold (x.fragment ∷ earlier) later

abbrev pub unit_beginnings : Config → List Story → Side → List BeginningRecord
unit_beginnings c stories side = beginnings_after side (hold_of side c.delays) [] (unit_fragments side stories)

-- ---- those of both units

unfoldable pub repeated_records : Config → List Story → List RepeatedRecord
repeated_records c stories = unit_repeated c stories Ru ++ unit_repeated c stories Du

unfoldable pub beginning_records : Config → List Story → List BeginningRecord
beginning_records c stories = unit_beginnings c stories Ru ++ unit_beginnings c stories Du
