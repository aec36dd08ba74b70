-- The lines of an arrival: its frame, and what its unit judges of it.
use Rattle.std.proofs.Common.{ℕ, ◌^◌, ◌<◌, ◌==◌, List, [], ◌∷◌, length, Option, Some, None, refl, ap, arith}
use Rattle.std.specs.Prelude.{◌||◌, not, nat_lt}
use Rattle.std.specs.List.{AllByRecursion}
use Rattle.ecpri_fragments.specs.Sequence.{id_of}
use Rattle.ecpri_frames.specs.Messages.{Message}
use Rattle.ecpri_frames.specs.declared.heads.TheConstants.{IQ_DATA, ONE_WAY_DELAY, REAL_TIME_CONTROL}
use Rattle.air_source.specs.declared.events.Side.{Side}
use Rattle.window_config.specs.Endpoints.{IsEndpoint}
use Rattle.window_config.specs.Limits.{IsWithinLimits}
use Rattle.window_config.specs.declared.config.Config.{Config}
use Rattle.window_config.specs.declared.delays.Delays.{Delays}
use Rattle.window_config.specs.declared.endpoints.EndpointConfig.{EndpointConfig}
use Rattle.unit_model.specs.Commands.{command_slot}
use Rattle.unit_model.specs.Meetings.{find_endpoint}
use Rattle.unit_model.specs.Proper.{IsAt, IsProperCommand}
use Rattle.unit_model.specs.declared.decoded.ControlSection.{ControlSection}
use Rattle.unit_model.specs.declared.verdicts.CommandVerdict.{CommandVerdict}
use Rattle.unit_model.specs.declared.verdicts.DataVerdict.{DataVerdict}
use Rattle.unit_model.specs.Headings.{IsSoundHeading}
use Rattle.unit_model.specs.declared.heading.DataHeading.{DataHeading}
use Rattle.unit_model.specs.Judgements.{Commanded, Fragmented, Given, Judgement, Met, Turned, Unread}
use Rattle.unit_laws.specs.Sound.{IsSoundJudgement}
use Rattle.unit_laws.specs.Widths.{HasControlWidths, HasWidths}
use Rattle.drawn_laws.specs.Drawable.{IsDrawnControl, IsDrawnData, IsDrawnLine, IsShort, is_to_radio}
use Rattle.explain_model.specs.declared.values.ExplainLine.{ExplainLine}
use Rattle.explain_model.specs.Messages.{line_to, message_lines}
use Rattle.explain_model.specs.Sections.{control_line, data_line, judged_lines, judgement_lines, story_lines}
use Rattle.explain_model.specs.Stories.{Story}
use Rattle.explain_model.specs.Timings.{heading_slot}
use Rattle.drawn_laws.proofs.Frames.{IsAfter, after_frames}
use Rattle.drawn_laws.proofs.Good.{AreGood}
use Rattle.drawn_laws.proofs.Lists.{all_at, all_both, all_chosen}
use Rattle.drawn_laws.proofs.Near.{command_slot_in, control_near, data_near, heading_slot_in, slot_near, slots_few, symbols_few}
use Rattle.fh_base.proofs.CommonLemmas.{within_carrier as prbs_within}

-- what is known of a unit's configuration
pub record IsKnown (c : Config) : Type 0 where
  pub limits : IsWithinLimits c.delays
  pub endpoints : AllByRecursion IsEndpoint c.endpoints

-- an arrival with a number that fits, all of whose judgements are sound
pub record IsFineStory (es : List EndpointConfig) (s : Story) : Type 0 where
  pub number : IsShort s.number
  pub sound : AllByRecursion (IsSoundJudgement es) s.judged
  pub widths : AllByRecursion (HasWidths s.side) s.judged

-- ---- a line of a judgement

pub record IsJudgedLine (es : List EndpointConfig) (side : Side) (l : ExplainLine) : Type 0 where
  pub drawn : IsDrawnLine es l
  pub after : IsAfter side l

plain : (es : List EndpointConfig) (side : Side) (l : ExplainLine) → IsDrawnLine es l → IsAfter side l → AllByRecursion (IsJudgedLine es side) (l ∷ [])
plain es side l h k = (record { drawn = h; after = k }, tt)

module _ (es : List EndpointConfig) (side : Side) (number : ℕ) where
  line_judged : (m : Message) (o : Option (ℕ × EndpointConfig)) → AllByRecursion (IsJudgedLine es side) (line_to side number m o)
  line_judged m None = plain es side _ tt (record { frame = refl; way = refl })
  line_judged m (Some found) =
      all_chosen (IsJudgedLine es side) (m.head.kind == REAL_TIME_CONTROL) _ [] (plain es side _ tt (record { frame = refl; way = refl })) tt

  message_judged : (m : Message) → AllByRecursion (IsJudgedLine es side) (message_lines side es number m)
  unfolding message_lines
  message_judged m =
      all_chosen (IsJudgedLine es side) (m.head.kind == ONE_WAY_DELAY) _ _ (plain es side _ tt (record { frame = refl; way = refl }))
      (all_chosen (IsJudgedLine es side) (not (m.head.kind == IQ_DATA || m.head.kind == REAL_TIME_CONTROL)) _ _ (plain es side _ tt (record { frame = refl; way = refl }))
      (all_chosen (IsJudgedLine es side) (nat_lt (length m.payload) 4) _ _ (plain es side _ tt (record { frame = refl; way = refl })) (line_judged m (find_endpoint es (id_of m.payload)))))

-- ---- sections

control_drawn : (es : List EndpointConfig) (d : Delays) (number : ℕ) (before : List Judgement) (s : ControlSection) (v : CommandVerdict) → IsWithinLimits d → IsShort number
    → IsProperCommand es s → HasControlWidths s.section → IsDrawnControl (control_line d number before s v)
unfolding control_line
control_drawn es d number before s v limits small is widths =
    let slot = command_slot_in es s is in
    let sub = slot.subframe in
    let few = slots_few s.endpoint.numerology in
    let one = slot.slot_is in
    let fourteen = symbols_few s.endpoint.numerology in
    let within = is.within in
    let id = widths.id in
    let start = widths.start_prb in
    let num = widths.num_prb in
    let symbols = widths.num_symbol in
    record {
      number = omega (arith, small);
      place = record {
        frame = slot_near s.endpoint.numerology (command_slot s) slot;
        subframe = omega (arith, sub);
        slot = omega (arith, few, one);
        symbol = omega (arith, fourteen, within);
      };
      section = omega (arith, id);
      prb = omega (arith, start);
      num = omega (arith, num);
      symbols = omega (arith, symbols);
      timing = control_near es d s limits is;
    }

data_drawn : (es : List EndpointConfig) (side : Side) (d : Delays) (number : ℕ) (before : List Judgement) (h : DataHeading) (v : DataVerdict) → IsWithinLimits d
    → AllByRecursion IsEndpoint es → IsShort number → IsAt es h.ep h.endpoint → IsSoundHeading h → h.section.id < 2 ^ 12 → IsDrawnData (data_line side d number before h v)
unfolding data_line
data_drawn es side d number before h v limits endpoints small at is id =
    let slot = heading_slot_in h is in
    let sub = slot.subframe in
    let few = slots_few h.endpoint.numerology in
    let one = slot.slot_is in
    let fourteen = symbols_few h.endpoint.numerology in
    let symbol = is.symbol in
    let most = (all_at IsEndpoint es h.ep h.endpoint at endpoints).most in
    let prbs = prbs_within h.endpoint.prbs h.section.start_prb h.section.num_prb is.within in
    record {
      number = omega (arith, small);
      place = record {
        frame = slot_near h.endpoint.numerology (heading_slot h) slot;
        subframe = omega (arith, sub);
        slot = omega (arith, few, one);
        symbol = omega (arith, fourteen, symbol);
      };
      section = omega (arith, id);
      prb = omega (arith, most, prbs);
      num = omega (arith, most, prbs);
      timing = data_near side d h limits is;
    }

-- ---- all of an arrival

module _ (c : Config) (known : IsKnown c) where
  judgement_drawn : (side : Side) (number : ℕ) (before : List Judgement) (j : Judgement) → IsShort number → IsSoundJudgement c.endpoints j → HasWidths side j
      → AllByRecursion (IsJudgedLine c.endpoints side) (judgement_lines c side number before j)
  judgement_drawn side number before (Met m) small h w = message_judged c.endpoints side number m
  judgement_drawn side number before (Commanded s v) small h w =
      plain c.endpoints side _ (control_drawn c.endpoints c.delays number before s v known.limits small h w.0)
      (record { frame = ap (λ (x : Side). is_to_radio (Some x)) w.1; way = refl })
  judgement_drawn side number before (Fragmented e f v) small h w = plain c.endpoints side _ tt (record { frame = refl; way = refl })
  judgement_drawn side number before (Unread ep e m why) small h w = plain c.endpoints side _ tt (record { frame = refl; way = refl })
  judgement_drawn side number before (Turned ep e m) small h w = plain c.endpoints side _ tt (record { frame = refl; way = refl })
  judgement_drawn side number before (Given heading v) small h w =
      plain c.endpoints side _ (data_drawn c.endpoints side c.delays number before heading v known.limits known.endpoints small h.0 h.1 w) (record { frame = refl; way = refl })

  judged_drawn : (side : Side) (number : ℕ) (before js : List Judgement) → IsShort number → AllByRecursion (IsSoundJudgement c.endpoints) js → AllByRecursion (HasWidths side) js
      → AllByRecursion (IsJudgedLine c.endpoints side) (judged_lines c side number before js)
  unfolding judged_lines
  judged_drawn side number before [] small h w = tt
  judged_drawn side number before (j ∷ js) small h w =
      all_both (IsJudgedLine c.endpoints side) (judgement_lines c side number before j) (judged_lines c side number (j ∷ before) js)
      (judgement_drawn side number before j small h.0 w.0) (judged_drawn side number (j ∷ before) js small h.1 w.1)

all_drawn : (es : List EndpointConfig) (side : Side) (ls : List ExplainLine) → AllByRecursion (IsJudgedLine es side) ls → AllByRecursion (IsDrawnLine es) ls
all_drawn es side [] h = tt
all_drawn es side (l ∷ ls) h = (h.0.drawn, all_drawn es side ls h.1)

all_after : (es : List EndpointConfig) (side : Side) (ls : List ExplainLine) → AllByRecursion (IsJudgedLine es side) ls → AllByRecursion (IsAfter side) ls
all_after es side [] h = tt
all_after es side (l ∷ ls) h = (h.0.after, all_after es side ls h.1)

pub story_good : (c : Config) (before : List Judgement) (s : Story) → IsKnown c → IsFineStory c.endpoints s → AreGood c.endpoints (story_lines c before s)
unfolding story_lines
story_good c before s known fine =
    let judged = judged_drawn c known s.side s.number before s.judged fine.number fine.sound fine.widths in
    let ls = judged_lines c s.side s.number before s.judged in
    let small = fine.number in
    record {
      each = (omega (arith, small), all_drawn c.endpoints s.side ls judged);
      frames = λ last. after_frames s.side ls (all_after c.endpoints s.side ls judged);
    }
