-- What a unit judges is fit to have a line.
use Rattle.std.proofs.Common.{◌≡◌, ℕ, ℤ, Bool, true, false, List, [], ◌∷◌, ◌++◌, ◌+◌, ◌≤◌, Option, Some, None, arith, refl}
use Rattle.std.specs.Prelude.{All, if◌then◌else◌}
use Rattle.std.specs.List.{AllByRecursion}
use Rattle.std.proofs.lemmas.List.Elements.{All-cons, All-head, All-nil, All-tail}
use Rattle.air_source.specs.declared.events.Side.{Side}
use Rattle.ecpri_fragments.specs.Pieces.{joined}
use Rattle.ecpri_fragments.specs.Verdicts.{Message as Whole, whole_now}
use Rattle.ecpri_frames.specs.Gathering.{whole_messages}
use Rattle.ecpri_frames.specs.Messages.{Message}
use Rattle.explain_heard.specs.Heard.{all_heard, heard_of}
use Rattle.explain_heard.specs.Judged.{all_judged, judged_of}
use Rattle.explain_heard.specs.Sound.{IsSoundHeard}
use Rattle.explain_units.specs.Fit.{AreFit, IsFit, IsWithin}
use Rattle.fh_base.proofs.CommonLemmas.{within_carrier}
use Rattle.fh_base.specs.Carrier.{count_of, first_of, is_outside}
use Rattle.fh_base.specs.Numbering.{shape_of}
use Rattle.plan_model.proofs.ListLemmas.{endpoint_is}
use Rattle.unit_laws.proofs.SoundLemmas.{are_sound}
use Rattle.unit_laws.specs.Sound.{IsSoundJudgement}
use Rattle.unit_model.specs.Judgements.{Judgement, Met, Commanded, Fragmented, Unread, Turned, Given, heading_of, judged_by, judged_commands, judged_data, judged_decoded, judged_in, judged_meeting, judged_message, judged_now, judged_whole, judgements}
use Rattle.unit_model.proofs.SoundLemmas.{sound_command}
use Rattle.unit_model.specs.Blocks.{data_verdict, timely}
use Rattle.unit_model.specs.Claims.{overlaps, repeats}
use Rattle.unit_model.specs.Commands.{accepted, allocation_of, command_class, command_verdict, is_for, is_full, verdict_in}
use Rattle.unit_model.specs.Decoding.{Decoded, Refused, Backwards, Sections, data_sections, decode_message}
use Rattle.unit_model.specs.Meetings.{Arrival, Meeting, Ignored, Commands, Piece, commands, fragments, meet}
use Rattle.unit_model.specs.Proper.{IsAt, IsProperCommand, IsTime}
use Rattle.unit_model.specs.Reports.{hold_of, met}
use Rattle.unit_model.specs.Standing.{AreInTime}
use Rattle.unit_model.specs.Terms.{URefusal}
use Rattle.unit_model.specs.declared.allocations.Allocation.{Allocation}
use Rattle.unit_model.specs.declared.decoded.ControlSection.{ControlSection}
use Rattle.unit_model.specs.declared.decoded.UserSection.{UserSection}
use Rattle.unit_model.specs.declared.verdicts.CommandVerdict.{CommandVerdict}
use Rattle.unit_model.specs.declared.verdicts.CommandVerdict.TheVariants.{Mismatch, Late, Early, Range, Repeat, Overlap, Full, Accepted}
use Rattle.uplane_sections.specs.Messages.{told}
use Rattle.window_config.specs.Configs.{IsConfig}
use Rattle.window_config.specs.Endpoints.{AreEndpoints}
use Rattle.window_config.specs.declared.config.Config.{Config}
use Rattle.window_config.specs.declared.delays.Delays.{Delays}
use Rattle.window_config.specs.declared.endpoints.EndpointConfig.{EndpointConfig}
use Rattle.window_config.specs.declared.verdicts.Class.{Class}
use Rattle.window_config.specs.declared.verdicts.Class.TheVariants as class

-- a section that overlaps another one does not go past the carrier
abbrev IsInside : CommandVerdict → ControlSection → Type 0
IsInside Mismatch s = Unit {0}
IsInside Late s = Unit {0}
IsInside Early s = Unit {0}
IsInside Range s = Unit {0}
IsInside Repeat s = Unit {0}
IsInside Overlap s = is_outside s.endpoint.prbs s.section.start_prb s.section.num_prb ≡ false
IsInside Full s = Unit {0}
IsInside Accepted s = Unit {0}

abbrev IsWithinJudged : Judgement → Type 0
IsWithinJudged (Met m) = Unit {0}
IsWithinJudged (Commanded s v) = IsInside v s
IsWithinJudged (Fragmented e f v) = Unit {0}
IsWithinJudged (Unread ep e m why) = Unit {0}
IsWithinJudged (Turned ep e m) = Unit {0}
IsWithinJudged (Given h v) = Unit {0}

-- ---- a section that overlaps another one is on its carrier

by_tests : (s : ControlSection) (outside repeated overlapped full : Bool) → is_outside s.endpoint.prbs s.section.start_prb s.section.num_prb ≡ outside
    → IsInside (if outside then Range else (if repeated then Repeat else (if overlapped then Overlap else (if full then Full else Accepted)))) s
by_tests s true repeated overlapped full is = tt
by_tests s false true overlapped full is = tt
by_tests s false false true full is = is
by_tests s false false false true is = tt
by_tests s false false false false is = tt

by_class : (k : Class) (acc : List Allocation) (s : ControlSection) → IsInside (verdict_in k acc (allocation_of s)) s
by_class class.Late acc s = tt
by_class class.Early acc s = tt
by_class class.OnTime acc s =
    by_tests s (is_outside s.endpoint.prbs s.section.start_prb s.section.num_prb) (repeats acc (allocation_of s)) (overlaps acc (allocation_of s)) (is_full acc (allocation_of s)) refl

by_header : (b : Bool) (k : Class) (acc : List Allocation) (s : ControlSection) → IsInside (if b then verdict_in k acc (allocation_of s) else Mismatch) s
by_header true k acc s = by_class k acc s
by_header false k acc s = tt

verdict_within : (d : Delays) (acc : List Allocation) (s : ControlSection) → IsInside (command_verdict d acc s) s
unfolding command_verdict
verdict_within d acc s = by_header (is_for s.head.body s.endpoint.numerology) (command_class d s) acc s

-- ---- so is each that is judged

both_within : (xs ys : List Judgement) → AllByRecursion IsWithinJudged xs → AllByRecursion IsWithinJudged ys → AllByRecursion IsWithinJudged (xs ++ ys)
both_within [] ys h k = k
both_within (x ∷ xs) ys h k = (h.0, both_within xs ys h.1 k)

commands_within : (d : Delays) (earlier cs : List ControlSection) → AllByRecursion IsWithinJudged (judged_commands d earlier cs)
unfolding judged_commands
commands_within d earlier [] = tt
commands_within d earlier (c ∷ cs) = (verdict_within d (accepted d earlier) c, commands_within d (c ∷ earlier) cs)

data_within : (side : Side) (d : Delays) (earlier ss : List UserSection) → AllByRecursion IsWithinJudged (judged_data side d earlier ss)
unfolding judged_data
data_within side d earlier [] = tt
data_within side d earlier (s ∷ ss) =
    both_within (judged_data side d earlier ss) (Given (heading_of s) (data_verdict side d (timely side d (ss ++ earlier)) s) ∷ []) (data_within side d earlier ss) (tt, tt)

decoded_within : (side : Side) (d : Delays) (ep : ℕ) (e : EndpointConfig) (m : Whole) (earlier : List UserSection) (x : Decoded)
    → AllByRecursion IsWithinJudged (judged_decoded side d ep e m earlier x)
decoded_within side d ep e m earlier Refused = tt
decoded_within side d ep e m earlier Backwards = (tt, tt)
decoded_within side d ep e m earlier (Sections ss) = data_within side d earlier ss

read_within : (side : Side) (d : Delays) (ep : ℕ) (e : EndpointConfig) (m : Whole) (earlier : List UserSection) (o : Option URefusal)
    → AllByRecursion IsWithinJudged (judged_by side d ep e m earlier o)
read_within side d ep e m earlier (Some why) = (tt, tt)
read_within side d ep e m earlier None = decoded_within side d ep e m earlier (decode_message side ep e m)

now_within : (side : Side) (d : Delays) (ep : ℕ) (e : EndpointConfig) (earlier : List UserSection) (o : Option Whole) → AllByRecursion IsWithinJudged (judged_now side d ep e earlier o)
unfolding judged_whole
now_within side d ep e earlier None = tt
now_within side d ep e earlier (Some m) = read_within side d ep e m earlier (told e.format e.prbs (shape_of e.numerology) (joined m.pieces)).refusal

meeting_within : (side : Side) (c : Config) (ms : List Meeting) (x : Meeting) → AllByRecursion IsWithinJudged (judged_meeting side c ms x)
meeting_within side c ms (Ignored k) = tt
meeting_within side c ms (Commands cs) = commands_within c.delays (commands ms) cs
meeting_within side c ms (Piece e f) =
    (tt, now_within side c.delays f.ep e (data_sections side (hold_of side c.delays) ms) (whole_now (hold_of side c.delays) f (fragments ms)))

messages_within : (side : Side) (c : Config) (at : ℤ) (ms : List Meeting) (messages : List Message) → AllByRecursion IsWithinJudged (judged_in side c at ms messages)
unfolding judged_in
messages_within side c at ms [] = tt
messages_within side c at ms (m ∷ rest) =
    both_within (judged_message side c at ms m) (judged_in side c at (meet side c.endpoints at m ∷ ms) rest)
    (tt, meeting_within side c ms (meet side c.endpoints at m)) (messages_within side c at (meet side c.endpoints at m ∷ ms) rest)

-- ---- what is made of each is fit

-- the PRBs of an endpoint have numbers of 16 bits
few_prbs : (es : List EndpointConfig) (ep : ℕ) (e : EndpointConfig) (start num : ℕ) → AreEndpoints es → IsAt es ep e → is_outside e.prbs start num ≡ false
    → first_of start num + count_of e.prbs num ≤ 65535
few_prbs es ep e start num are at inside =
    let most : e.prbs ≤ 273 = (endpoint_is es ep e are.each at).most in
    omega (arith, within_carrier e.prbs start num inside, most)

overlap_fit : (es : List EndpointConfig) (s : ControlSection) (v : CommandVerdict) → AreEndpoints es → IsProperCommand es s → IsInside v s → IsWithin v (allocation_of s)
overlap_fit es s Mismatch are h w = tt
overlap_fit es s Late are h w = tt
overlap_fit es s Early are h w = tt
overlap_fit es s Range are h w = tt
overlap_fit es s Repeat are h w = tt
overlap_fit es s Overlap are h w = record {
  sound = record { within = h.within; prbs = w };
  prbs = few_prbs es s.ep s.endpoint s.section.start_prb s.section.num_prb are h.endpoint w;
}
overlap_fit es s Full are h w = tt
overlap_fit es s Accepted are h w = tt

module _ (of : Side) (es fs : List EndpointConfig) (are : AreEndpoints fs) where
  one_sound : (j : Judgement) → IsSoundJudgement fs j → IsSoundHeard (heard_of of es j)
  one_sound (Met m) h = tt
  one_sound (Commanded s v) h = sound_command fs s h
  one_sound (Fragmented e f v) h = tt
  one_sound (Unread ep e m why) h = h.1
  one_sound (Turned ep e m) h = h.1
  one_sound (Given d v) h = h.1

  sounds : (js : List Judgement) → All (IsSoundJudgement fs) js → All IsSoundHeard (all_heard of es js)
  sounds [] h = All-nil IsSoundHeard
  sounds (j ∷ js) h =
      All-cons IsSoundHeard (heard_of of es j) (all_heard of es js) (one_sound j (All-head (IsSoundJudgement fs) j js h)) (sounds js (All-tail (IsSoundJudgement fs) j js h))

  module _ (side : Side) (d : Delays) where
    one_fit : (j : Judgement) → IsSoundJudgement fs j → IsWithinJudged j → IsFit (judged_of side d (heard_of of es j))
    one_fit (Met m) h w = tt
    one_fit (Commanded s v) h w = overlap_fit fs s v are h w
    one_fit (Fragmented e f v) h w = tt
    one_fit (Unread ep e m why) h w = tt
    one_fit (Turned ep e m) h w = tt
    one_fit (Given g v) h w = few_prbs fs g.ep g.endpoint g.section.start_prb g.section.num_prb are h.0 h.1.within

    all_fit : (js : List Judgement) → All (IsSoundJudgement fs) js → AllByRecursion IsWithinJudged js → AllByRecursion IsFit (all_judged side d (all_heard of es js))
    all_fit [] h w = tt
    all_fit (j ∷ js) h w = (one_fit j (All-head (IsSoundJudgement fs) j js h) w.0, all_fit js (All-tail (IsSoundJudgement fs) j js h) w.1)

-- of a frame that arrives in time, whichever unit and endpoints it is heard for
pub judged_fit : (of at_side : Side) (es : List EndpointConfig) (c : Config) (clock : ℤ) (earlier : List Arrival) (a : Arrival)
    → IsConfig c → AreInTime clock (a ∷ earlier) → All (λ a. IsTime a.at) (a ∷ earlier) → AreFit (all_heard of es (judgements at_side c earlier a))
judged_fit of at_side es c clock earlier a config time times =
    let js = judgements at_side c earlier a in
    let sound = are_sound at_side c clock earlier a time times in
    record {
      sound = sounds of es c.endpoints config.endpoints js sound;
      fit = λ side d. all_fit of es c.endpoints config.endpoints side d js sound (messages_within at_side c a.at (met at_side c earlier) (whole_messages a.frame));
    }
