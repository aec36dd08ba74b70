-- The sign of a distance is the class.
use Rattle.std.proofs.Common.{◌≡◌, ℕ, suc, ℤ, pos, negsuc, ◌+ℤ◌, ◌-ℤ◌, Bool, true, false, List, [], ◌∷◌, ◌++◌, length, refl, sym, ap₂, subst, ◌∙◌, arith}
use Rattle.std.proofs.lemmas.Int.{ints}
use Rattle.std.specs.Prelude.{◌==◌, ◌||◌, not, nat_lt, int_lt, ◌<ℤ◌, ◌≤ℤ◌, if◌then◌else◌, ⊤, Option, Some, None}
use Rattle.std.specs.List.{AllByRecursion}
use Rattle.fh_base.proofs.Orders.{under, under_is, not_under, not_under_is}
use Rattle.fh_base.specs.Carrier.{is_outside}
use Rattle.fh_base.specs.Numbering.{shape_of}
use Rattle.ecpri_fragments.specs.Sequence.{id_of}
use Rattle.ecpri_frames.specs.declared.heads.TheConstants.{ONE_WAY_DELAY, REAL_TIME_CONTROL, IQ_DATA}
use Rattle.unit_model.specs.Heard.{arrivals_heard}
use Rattle.ecpri_fragments.specs.Pieces.{joined}
use Rattle.ecpri_fragments.specs.Verdicts.{Message as Whole, whole_now}
use Rattle.ecpri_frames.specs.Gathering.{whole_messages}
use Rattle.ecpri_frames.specs.Messages.{Message}
use Rattle.uplane_sections.specs.Messages.{told as read}
use Rattle.air_source.specs.declared.events.Event.{Event}
use Rattle.air_source.specs.declared.events.Event.TheVariants as event
use Rattle.air_source.specs.declared.events.Side.{Side}
use Rattle.air_source.specs.declared.events.Side.TheVariants.{Ru, Du}
use Rattle.window_config.specs.Classes.{class_of, class_up_of, classified}
use Rattle.window_config.specs.Windows.{command_window_of, ticks_of_ns}
use Rattle.window_config.specs.declared.config.Config.{Config}
use Rattle.window_config.specs.declared.delays.Delays.{Delays}
use Rattle.window_config.specs.declared.delays.Range.{Range}
use Rattle.window_config.specs.declared.endpoints.EndpointConfig.{EndpointConfig}
use Rattle.window_config.specs.declared.verdicts.Class.{Class}
use Rattle.window_config.specs.declared.verdicts.Class.TheVariants.{OnTime, Late, Early}
use Rattle.unit_model.specs.Blocks.{data_class, data_start, data_verdict, data_verdict_in, has_all, timely}
use Rattle.unit_model.specs.Claims.{overlaps, repeats}
use Rattle.unit_model.specs.Commands.{accepted, allocation_of, command_class, command_start, command_verdict, is_for, is_full, verdict_in}
use Rattle.unit_model.specs.Decoding.{Backwards, Decoded, Refused, Sections, data_sections, decode_message}
use Rattle.unit_model.specs.Meetings.{Arrival, Meeting, Ignored, Commands, Piece, commands, find_endpoint, fragments, meet}
use Rattle.unit_model.specs.Reports.{hold_of, met}
use Rattle.unit_model.specs.Terms.{URefusal}
use Rattle.unit_model.specs.declared.allocations.Allocation.{Allocation}
use Rattle.unit_model.specs.declared.decoded.ControlSection.{ControlSection}
use Rattle.unit_model.specs.declared.decoded.UserSection.{UserSection}
use Rattle.unit_model.specs.declared.verdicts.CommandVerdict.TheVariants as control
use Rattle.unit_model.specs.Judgements.{Judgement, Met, Commanded, Fragmented, Unread, Turned, Given, heading_of, judged_by, judged_commands, judged_data, judged_decoded, judged_in, judged_meeting, judged_message, judged_now, judged_whole, judgements}
use Rattle.explain_model.specs.Cells.{entry_of}
use Rattle.explain_model.specs.Judged.{judged_before}
use Rattle.explain_model.specs.Margins.{control_class, data_class_of}
use Rattle.explain_model.specs.Messages.{line_to, message_lines}
use Rattle.explain_model.specs.Sections.{control_line, data_line, judged_lines, judgement_lines, story_lines}
use Rattle.explain_model.specs.Stories.{Told, arrival_count, arrival_with, story, told_of}
use Rattle.explain_model.specs.Timings.{control_timing, data_timing, timing_by, whole_ns, window_at}
use Rattle.explain_laws.specs.Signs.{EachSignIsItsClass, HasSign, IsBySign, class_by}
use Rattle.explain_laws.proofs.LineLemmas.{Holds, of_events}
use Rattle.fh_base.proofs.MemberLemmas.{all_join as all_both}
use Rattle.fh_base.proofs.CommonLemmas.{all_if}

-- ---- whole nanoseconds, rounded down, have the sign of the ticks

sign_kept : (z : ℤ) → int_lt (whole_ns z) (pos 0) ≡ int_lt z (pos 0)
sign_kept (pos n) = not_under_is (whole_ns (pos n)) (pos 0) (omega (arith, ints)) ∙ sym (not_under_is (pos n) (pos 0) (omega (arith, ints)))
sign_kept (negsuc n) = under_is (whole_ns (negsuc n)) (pos 0) (omega (arith, ints)) ∙ sym (under_is (negsuc n) (pos 0) (omega (arith, ints)))

same_order : (a b x y : ℤ) (t : Bool) → int_lt a b ≡ t → (a <ℤ b → x <ℤ y) → (b ≤ℤ a → y ≤ℤ x) → t ≡ int_lt x y
same_order a b x y true is up down = sym (under_is x y (up (under a b is)))
same_order a b x y false is up down = sym (not_under_is x y (down (not_under a b is)))

-- ---- the two ends of a window

late_down : (start m last : ℤ) → int_lt ((start -ℤ m) -ℤ last) (pos 0) ≡ int_lt (start -ℤ last) m
late_down start m last = same_order ((start -ℤ m) -ℤ last) (pos 0) (start -ℤ last) m (int_lt ((start -ℤ m) -ℤ last) (pos 0)) refl (λ h. omega (arith, ints, h)) (λ h. omega (arith, ints, h))

early_down : (start m first : ℤ) → int_lt (first -ℤ (start -ℤ m)) (pos 0) ≡ int_lt m (start -ℤ first)
early_down start m first = same_order (first -ℤ (start -ℤ m)) (pos 0) m (start -ℤ first) (int_lt (first -ℤ (start -ℤ m)) (pos 0)) refl (λ h. omega (arith, ints, h)) (λ h. omega (arith, ints, h))

late_up : (start m last : ℤ) → int_lt ((start +ℤ m) -ℤ last) (pos 0) ≡ int_lt m (last -ℤ start)
late_up start m last = same_order ((start +ℤ m) -ℤ last) (pos 0) m (last -ℤ start) (int_lt ((start +ℤ m) -ℤ last) (pos 0)) refl (λ h. omega (arith, ints, h)) (λ h. omega (arith, ints, h))

early_up : (start m first : ℤ) → int_lt (first -ℤ (start +ℤ m)) (pos 0) ≡ int_lt (first -ℤ start) m
early_up start m first = same_order (first -ℤ (start +ℤ m)) (pos 0) (first -ℤ start) m (int_lt (first -ℤ (start +ℤ m)) (pos 0)) refl (λ h. omega (arith, ints, h)) (λ h. omega (arith, ints, h))

down_class : (window : Range) (first last start : ℤ) → class_of first last start window ≡ class_by (timing_by Ru window first last start)
down_class window first last start =
    ap₂ classified (sym (sign_kept ((start -ℤ ticks_of_ns window.min) -ℤ last) ∙ late_down start (ticks_of_ns window.min) last))
    (sym (sign_kept (first -ℤ (start -ℤ ticks_of_ns window.max)) ∙ early_down start (ticks_of_ns window.max) first))

up_class : (window : Range) (first last start : ℤ) → class_up_of first last start window ≡ class_by (timing_by Du window first last start)
up_class window first last start =
    ap₂ classified (sym (sign_kept ((start +ℤ ticks_of_ns window.max) -ℤ last) ∙ late_up start (ticks_of_ns window.max) last))
    (sym (sign_kept (first -ℤ (start +ℤ ticks_of_ns window.min)) ∙ early_up start (ticks_of_ns window.min) first))

-- ---- a section of a command

timely_in : (outside repeated overlapped full : Bool)
    → control_class (if outside then control.Range else (if repeated then control.Repeat else (if overlapped then control.Overlap else (if full then control.Full else control.Accepted)))) ≡ Some OnTime
timely_in true r o f = refl
timely_in false true o f = refl
timely_in false false true f = refl
timely_in false false false true = refl
timely_in false false false false = refl

class_in : (class : Class) (accepted : List Allocation) (a : Allocation) → control_class (verdict_in class accepted a) ≡ Some class
class_in Late accepted a = refl
class_in Early accepted a = refl
class_in OnTime accepted a = timely_in (is_outside a.endpoint.prbs a.start_prb a.num_prb) (repeats accepted a) (overlaps accepted a) (is_full accepted a)

control_by : (d : Delays) (acc : List Allocation) (s : ControlSection) (fits : Bool)
    → IsBySign (control_class (if fits then verdict_in (command_class d s) acc (allocation_of s) else control.Mismatch)) (control_timing d s)
unfolding control_timing
control_by d acc s true =
    subst (λ (o : Option Class). IsBySign o (timing_by Ru (command_window_of d s.head.down) s.at.0 s.at.0 (command_start s))) (sym (class_in (command_class d s) acc (allocation_of s)))
    (down_class (command_window_of d s.head.down) s.at.0 s.at.0 (command_start s))
control_by d acc s false = tt

control_signed : (d : Delays) (acc : List Allocation) (s : ControlSection) → IsBySign (control_class (command_verdict d acc s)) (control_timing d s)
unfolding command_verdict
control_signed d acc s = control_by d acc s (is_for s.head.body s.endpoint.numerology)

-- ---- a section of data

data_in : (class : Class) (all : Bool) (ds : List UserSection) (s : UserSection) → has_all ds s ≡ all → data_class_of (data_verdict_in class ds s) ≡ class
data_in Late all ds s is = refl
data_in Early all ds s is = refl
data_in OnTime true ds s is = rw is refl
data_in OnTime false ds s is = rw is refl

data_signed : (side : Side) (d : Delays) (ds : List UserSection) (s : UserSection) → data_class_of (data_verdict side d ds s) ≡ class_by (data_timing side d (heading_of s))
unfolding data_verdict data_timing
data_signed Ru d ds s = data_in (data_class Ru d s) (has_all ds s) ds s refl ∙ down_class (window_at Ru d) s.first.0 s.last.0 (data_start s)
data_signed Du d ds s = data_in (data_class Du d s) (has_all ds s) ds s refl ∙ up_class (window_at Du d) s.first.0 s.last.0 (data_start s)

-- ---- what a unit judges

module _ (side : Side) (d : Delays) where
  abbrev Signed : Judgement → Type 0
  Signed (Met m) = ⊤
  Signed (Commanded s v) = IsBySign (control_class v) (control_timing d s)
  Signed (Fragmented e f v) = ⊤
  Signed (Unread ep e m why) = ⊤
  Signed (Turned ep e m) = ⊤
  Signed (Given h v) = data_class_of v ≡ class_by (data_timing side d h)

  of_commands : (earlier cs : List ControlSection) → AllByRecursion Signed (judged_commands d earlier cs)
  unfolding judged_commands
  of_commands earlier [] = tt
  of_commands earlier (s ∷ cs) = (control_signed d (accepted d earlier) s, of_commands (s ∷ earlier) cs)

  of_data : (earlier ss : List UserSection) → AllByRecursion Signed (judged_data side d earlier ss)
  unfolding judged_data
  of_data earlier [] = tt
  of_data earlier (s ∷ ss) = all_both Signed (judged_data side d earlier ss) _ (of_data earlier ss) (data_signed side d (timely side d (ss ++ earlier)) s, tt)

  of_decoded : (ep : ℕ) (e : EndpointConfig) (m : Whole) (earlier : List UserSection) (x : Decoded) → AllByRecursion Signed (judged_decoded side d ep e m earlier x)
  of_decoded ep e m earlier Refused = tt
  of_decoded ep e m earlier Backwards = (tt, tt)
  of_decoded ep e m earlier (Sections ss) = of_data earlier ss

  of_refusal : (ep : ℕ) (e : EndpointConfig) (m : Whole) (earlier : List UserSection) (o : Option URefusal) → AllByRecursion Signed (judged_by side d ep e m earlier o)
  of_refusal ep e m earlier (Some why) = (tt, tt)
  of_refusal ep e m earlier None = of_decoded ep e m earlier (decode_message side ep e m)

  of_whole : (ep : ℕ) (e : EndpointConfig) (m : Whole) (earlier : List UserSection) → AllByRecursion Signed (judged_whole side d ep e m earlier)
  unfolding judged_whole
  of_whole ep e m earlier = of_refusal ep e m earlier (read e.format e.prbs (shape_of e.numerology) (joined m.pieces)).refusal

  of_now : (ep : ℕ) (e : EndpointConfig) (earlier : List UserSection) (o : Option Whole) → AllByRecursion Signed (judged_now side d ep e earlier o)
  of_now ep e earlier None = tt
  of_now ep e earlier (Some m) = of_whole ep e m earlier

module _ (side : Side) (c : Config) where
  of_meeting : (ms : List Meeting) (x : Meeting) → AllByRecursion (Signed side c.delays) (judged_meeting side c ms x)
  of_meeting ms (Ignored k) = tt
  of_meeting ms (Commands cs) = of_commands side c.delays (commands ms) cs
  of_meeting ms (Piece e f) = (tt, of_now side c.delays f.ep e (data_sections side (hold_of side c.delays) ms) (whole_now (hold_of side c.delays) f (fragments ms)))

  of_messages : (at : ℤ) (ms : List Meeting) (messages : List Message) → AllByRecursion (Signed side c.delays) (judged_in side c at ms messages)
  unfolding judged_in
  of_messages at ms [] = tt
  of_messages at ms (m ∷ rest) =
      all_both (Signed side c.delays) (judged_message side c at ms m) _ (tt, of_meeting ms (meet side c.endpoints at m)) (of_messages at (meet side c.endpoints at m ∷ ms) rest)

  -- ---- the lines

  line_to_signed : (number : ℕ) (m : Message) (o : Option (ℕ × EndpointConfig)) → AllByRecursion HasSign (line_to side number m o)
  line_to_signed number m None = (tt, tt)
  line_to_signed number m (Some found) = all_if HasSign (m.head.kind == REAL_TIME_CONTROL) _ [] (tt, tt) tt

  message_signed : (number : ℕ) (m : Message) → AllByRecursion HasSign (message_lines side c.endpoints number m)
  unfolding message_lines
  message_signed number m =
      all_if HasSign (m.head.kind == ONE_WAY_DELAY) _ _ (tt, tt)
      (all_if HasSign (not (m.head.kind == IQ_DATA || m.head.kind == REAL_TIME_CONTROL)) _ _ (tt, tt)
      (all_if HasSign (nat_lt (length m.payload) 4) _ _ (tt, tt) (line_to_signed number m (find_endpoint c.endpoints (id_of m.payload)))))

  of_judgement : (number : ℕ) (before : List Judgement) (j : Judgement) → Signed side c.delays j → AllByRecursion HasSign (judgement_lines c side number before j)
  unfolding control_line data_line
  of_judgement number before (Met m) h = message_signed number m
  of_judgement number before (Commanded s v) h = (h, tt)
  of_judgement number before (Fragmented e f v) h = (tt, tt)
  of_judgement number before (Unread ep e m why) h = (tt, tt)
  of_judgement number before (Turned ep e m) h = (tt, tt)
  of_judgement number before (Given s v) h = (h, tt)

  of_judged : (number : ℕ) (before js : List Judgement) → AllByRecursion (Signed side c.delays) js → AllByRecursion HasSign (judged_lines c side number before js)
  unfolding judged_lines
  of_judged number before [] h = tt
  of_judged number before (j ∷ js) h = all_both HasSign (judgement_lines c side number before j) _ (of_judgement number before j h.0) (of_judged number (j ∷ before) js h.1)

  of_story : (number : ℕ) (before : List Judgement) (earlier : List Arrival) (a : Arrival) → AllByRecursion HasSign (story_lines c before (story c number side earlier a))
  unfolding story_lines
  of_story number before earlier a =
      (tt, of_judged number before (judgements side c earlier a) (of_messages a.at (met side c earlier) (whole_messages a.frame)))

of_event : (c : Config) (earlier : List Told) (before : List Event) (e : Event) → Holds HasSign (λ r. (tt, tt)) (entry_of c earlier (told_of c before e))
of_event c earlier before (event.Arrival side at frame) =
    of_story side c (suc (arrival_count before)) (judged_before side earlier) (arrivals_heard side [] before) (arrival_with at.0 frame)
of_event c earlier before (event.Cell a) = tt
of_event c earlier before (event.Delay at side id value) = (tt, tt)
of_event c earlier before (event.Count side counter value) = tt

pub signs : EachSignIsItsClass
signs c events = of_events HasSign (λ r. (tt, tt)) c (of_event c) events
