-- Which explanations have pictures.
use Rattle.std.specs.Prelude.{◌≡◌, ℕ, ℤ, pos, neg_ℤ, ◌+◌, ◌^◌, ◌<◌, ◌≤◌, ◌<ℤ◌, ◌≤ℤ◌, Bool, true, false, ◌&&◌, List, [], ◌∷◌, ◌++◌, length, map, Option, Some, None, is_some, slice_get}
use Rattle.std.specs.List.{All}
use Rattle.air_source.specs.declared.events.Side.{Side}
use Rattle.air_source.specs.declared.events.Side.TheVariants.{Ru, Du}
use Rattle.bfp_codec.specs.Layout.{HasWidth}
use Rattle.eaxc_map.specs.Endpoints.{AppearOnce, index_of}
use Rattle.explain_model.specs.Reasons.{word_of}
use Rattle.explain_model.specs.declared.places.PrbRun.{PrbRun}
use Rattle.explain_model.specs.declared.places.SymbolPlace.{SymbolPlace}
use Rattle.explain_model.specs.declared.places.Timing.{Timing}
use Rattle.explain_model.specs.declared.reasons.Reason.{Reason}
use Rattle.explain_model.specs.declared.reasons.Reason.TheVariants as reason
use Rattle.explain_model.specs.declared.reasons.ReasonWord.{ReasonWord}
use Rattle.explain_model.specs.declared.reasons.ReasonWord.TheVariants as word
use Rattle.explain_model.specs.declared.values.CellWord.{CellWord}
use Rattle.explain_model.specs.declared.values.CellWord.TheVariants as cell
use Rattle.explain_model.specs.declared.values.ControlLine.{ControlLine}
use Rattle.explain_model.specs.declared.values.DataLine.{DataLine}
use Rattle.explain_model.specs.declared.values.ExplainLine.{ExplainLine}
use Rattle.explain_model.specs.declared.values.ExplainLine.TheVariants as line
use Rattle.explain_model.specs.declared.values.WindowName.{WindowName}
use Rattle.explain_model.specs.declared.values.WindowName.TheVariants.{T1aUp, T1aCpDl, T1aCpUl, T2aUp, T2aCpDl, T2aCpUl, Ta3, Ta4}
use Rattle.fh_base.specs.Numbering.{code_of, offsets_of, slots_of, symbols_of}
use Rattle.fh_base.specs.Spacing.{is_normal_code}
use Rattle.window_config.specs.Endpoints.{ids_of}
use Rattle.window_config.specs.declared.delays.Range.{Range}
use Rattle.window_config.specs.declared.endpoints.EndpointConfig.{EndpointConfig}

-- ---- numbers

-- of at most 16 digits
abbrev pub IsShort : ℕ → Type 0
IsShort n = n < 10 ^ 16

-- the same with a sign
pub record IsNear (z : ℤ) : Type 0 where
  pub low : neg_ℤ (pos (10 ^ 16)) <ℤ z
  pub high : z <ℤ pos (10 ^ 16)

-- ---- what is before the events

-- the windows in their order
abbrev pub windows_of : (WindowName → Range) → List ExplainLine
windows_of range = map (λ name. line.Window name (range name)) (T1aUp ∷ T1aCpDl ∷ T1aCpUl ∷ T2aUp ∷ T2aCpDl ∷ T2aCpUl ∷ Ta3 ∷ Ta4 ∷ [])

-- at most 4 ms
pub record IsDrawnWindow (r : Range) : Type 0 where
  pub low : pos 0 ≤ℤ r.min
  pub order : r.min ≤ℤ r.max
  pub high : r.max ≤ℤ pos 4000000

-- offset endpoints alone have 1.25 or 5 kHz
pub record IsDrawnEndpoint (e : EndpointConfig) : Type 0 where
  pub id : e.id < 2 ^ 16
  pub some : 1 ≤ e.prbs
  pub most : e.prbs ≤ 273
  pub width : HasWidth e.format.method
  pub spacing : offsets_of e.numerology ≡ None → is_normal_code (code_of e.numerology) ≡ true

pub record AreDrawnEndpoints (es : List EndpointConfig) : Type 0 where
  pub each : All IsDrawnEndpoint es
  pub few : length es ≤ 16
  pub differ : AppearOnce (ids_of es)

-- ---- lines of the events, and after them

pub record IsDrawnSymbol (p : SymbolPlace) : Type 0 where
  pub frame : IsNear p.slot.frame
  pub subframe : p.slot.subframe ≤ 9
  pub slot : IsShort p.slot.slot
  pub symbol : IsShort p.symbol

pub record IsDrawnTiming (t : Timing) : Type 0 where
  pub since : IsNear t.since
  pub until : IsNear t.until

pub record IsDrawnControl (c : ControlLine) : Type 0 where
  pub number : IsShort c.number
  pub place : IsDrawnSymbol c.place
  pub section : IsShort c.section
  pub prb : IsShort c.prb
  pub num : IsShort c.num
  pub symbols : IsShort c.symbols
  pub timing : IsDrawnTiming c.timing

pub record IsDrawnData (d : DataLine) : Type 0 where
  pub number : IsShort d.number
  pub place : IsDrawnSymbol d.place
  pub section : IsShort d.section
  pub prb : IsShort d.prb
  pub num : IsShort d.num
  pub timing : IsDrawnTiming d.timing

-- cells of one of the endpoints, in its slots and its carrier
pub record IsDrawnRun (es : List EndpointConfig) (r : PrbRun) : Type 0 where
  pub at : IsNear r.at.0
  pub frame : IsNear r.place.slot.frame
  pub subframe : r.place.slot.subframe ≤ 9
  pub section : IsShort r.section
  pub ep : ℕ
  pub named : index_of (ids_of es) r.place.id ≡ Some ep
  pub endpoint : EndpointConfig
  pub is : slice_get es ep ≡ Some endpoint
  pub slot : r.place.slot.slot < slots_of endpoint.numerology
  pub symbol : r.place.symbol < symbols_of endpoint.numerology
  pub some : 1 ≤ r.num
  pub within : r.prb + r.num ≤ endpoint.prbs

abbrev pub IsDrawnWord : CellWord → Type 0
IsDrawnWord (cell.Shown from) = IsShort from
IsDrawnWord cell.Missing = Unit {0}

abbrev pub IsDrawnReason : Reason → Type 0
IsDrawnReason (reason.Other section from) = IsShort section × IsShort from
IsDrawnReason (reason.Late by from) = IsShort by × IsShort from
IsDrawnReason (reason.Early by from) = IsShort by × IsShort from
IsDrawnReason (reason.Refused from) = IsShort from
IsDrawnReason (reason.WrongWay from) = IsShort from
IsDrawnReason (reason.Repeated seq from) = IsShort seq × IsShort from
IsDrawnReason (reason.Unfinished seq pieces from) = IsShort seq × IsShort pieces × IsShort from
IsDrawnReason (reason.CommandMismatch from) = IsShort from
IsDrawnReason (reason.CommandLate by from) = IsShort by × IsShort from
IsDrawnReason (reason.CommandEarly by from) = IsShort by × IsShort from
IsDrawnReason (reason.CommandRange from) = IsShort from
IsDrawnReason (reason.CommandRepeat from) = IsShort from
IsDrawnReason (reason.CommandOverlap from) = IsShort from
IsDrawnReason (reason.CommandFull from) = IsShort from
IsDrawnReason (reason.NoData None) = Unit {0}
IsDrawnReason (reason.NoData (Some from)) = IsShort from
IsDrawnReason reason.NoCommand = Unit {0}

-- silent elements have the reasons of commands
abbrev pub is_silent_word : ReasonWord → Bool
is_silent_word word.CommandMismatch = true
is_silent_word word.CommandLate = true
is_silent_word word.CommandEarly = true
is_silent_word word.CommandRange = true
is_silent_word word.CommandRepeat = true
is_silent_word word.CommandOverlap = true
is_silent_word word.CommandFull = true
is_silent_word word.NoCommand = true
is_silent_word _ = false

-- of a line between the endpoints and the end
abbrev pub IsDrawnLine : List EndpointConfig → ExplainLine → Type 0
IsDrawnLine es (line.Head faults) = ⊥
IsDrawnLine es (line.Window name range) = ⊥
IsDrawnLine es (line.Endpoint e) = ⊥
IsDrawnLine es line.End = ⊥
IsDrawnLine es (line.Frame number side at bytes refusal) = IsShort number
IsDrawnLine es (line.Control c) = IsDrawnControl c
IsDrawnLine es (line.Data d) = IsDrawnData d
IsDrawnLine es (line.Cells run mask said) = IsDrawnRun es run × IsDrawnWord said
IsDrawnLine es (line.WhyMissing run mask why) = IsDrawnRun es run × IsDrawnReason why
IsDrawnLine es (line.WhySilent run mask number why) = IsDrawnRun es run × IsShort number × IsDrawnReason why × (is_silent_word (word_of why) ≡ true)
IsDrawnLine es _ = Unit {0}

-- the way of the last frame
abbrev pub last_way : Option Side → ExplainLine → Option Side
last_way last (line.Frame number side at bytes refusal) = Some side
last_way last _ = last

abbrev pub is_to_radio : Option Side → Bool
is_to_radio None = false
is_to_radio (Some Ru) = true
is_to_radio (Some Du) = false

-- a section is after a frame, that of a command after one to the radio unit
abbrev pub has_frame : Option Side → ExplainLine → Bool
has_frame last (line.Control c) = is_to_radio last
has_frame last (line.Data d) = is_some last
has_frame last _ = true

abbrev pub have_frames : Option Side → List ExplainLine → Bool
have_frames last [] = true
have_frames last (l ∷ ls) = has_frame last l && have_frames (last_way last l) ls

-- ---- an explanation

pub record IsDrawable (lines : List ExplainLine) : Type 0 where
  pub range : WindowName → Range
  pub endpoints : List EndpointConfig
  pub others : List ExplainLine
  pub is : lines ≡ line.Head false ∷ (windows_of range ++ (map line.Endpoint endpoints ++ (others ++ line.End ∷ [])))
  pub windows : (name : WindowName) → IsDrawnWindow (range name)
  pub are_endpoints : AreDrawnEndpoints endpoints
  pub each : All (IsDrawnLine endpoints) others
  pub frames : have_frames None others ≡ true
