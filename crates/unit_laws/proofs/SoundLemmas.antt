-- Each judgement is sound.
use Rattle.std.proofs.Common.{◌≡◌, ℕ, ℤ, Bool, true, false, List, [], ◌∷◌, ◌++◌, Option, Some, None, refl}
use Rattle.std.specs.Prelude.{All, ◌==◌, ◌||◌, not, nat_lt, length, if◌then◌else◌, Result, Ok, Err}
use Rattle.std.proofs.lemmas.List.Elements.{All-nil, All-cons, All-head, All-tail, All-append}
use Rattle.air_source.specs.declared.events.Side.{Side}
use Rattle.air_source.specs.declared.events.Side.TheVariants.{Ru, Du}
use Rattle.cplane_sections.specs.Tests.{checked}
use Rattle.cplane_sections.specs.declared.values.CHead.{CHead}
use Rattle.cplane_sections.specs.declared.values.CRefusal.{CRefusal}
use Rattle.ecpri_fragments.specs.Generations.{Fragment}
use Rattle.ecpri_fragments.specs.Pieces.{joined}
use Rattle.ecpri_fragments.specs.Sequence.{application, id_of, is_fragmented, sequence_of}
use Rattle.ecpri_fragments.specs.Verdicts.{Message as Whole, message, standing_before, verdict_on, whole_now, whole_of}
use Rattle.ecpri_fragments.specs.declared.verdict.Verdict.{Verdict}
use Rattle.ecpri_fragments.specs.declared.verdict.Verdict.TheVariants as fragment
use Rattle.ecpri_frames.specs.Gathering.{whole_messages}
use Rattle.ecpri_frames.specs.Messages.{Message}
use Rattle.ecpri_frames.specs.declared.heads.TheConstants.{IQ_DATA, ONE_WAY_DELAY, REAL_TIME_CONTROL}
use Rattle.fh_base.specs.Numbering.{shape_of}
use Rattle.unit_laws.specs.Sound.{CameTo, IsSoundJudgement}
use Rattle.unit_laws.proofs.HistoryLemmas.{commands_are_proper, data_are_proper}
use Rattle.unit_model.specs.Headings.{IsSoundHeading}
use Rattle.unit_model.specs.Judgements.{Met, Commanded, Fragmented, Unread, Turned, Given, heading_of, judged_by, judged_commands, judged_data, judged_decoded, judged_in, judged_meeting, judged_message, judged_now, judged_whole, judgements}
use Rattle.unit_model.specs.Blocks.{data_verdict, timely}
use Rattle.unit_model.specs.Commands.{accepted, command_verdict}
use Rattle.unit_model.specs.Decoding.{Decoded, Refused, Backwards, Sections, data_now, data_sections, data_told, decode_message, decoded_now, sections_of}
use Rattle.fh_base.specs.Lists.{onto}
use Rattle.unit_model.specs.Meetings.{Arrival, Meeting, Ignored, Commands, Piece, command_read, commands, control_met, find_endpoint, fragment_of, fragments, meet, meetings, met_by, met_in}
use Rattle.unit_model.specs.Proper.{IsAt, IsProperCommand, IsProperData, IsTime}
use Rattle.unit_model.specs.Reports.{hold_of, met}
use Rattle.unit_model.specs.Standing.{AreInTime}
use Rattle.unit_model.specs.Terms.{URefusal}
use Rattle.unit_model.specs.declared.decoded.ControlSection.{ControlSection}
use Rattle.unit_model.specs.declared.decoded.UserSection.{UserSection}
use Rattle.uplane_sections.specs.Messages.{told}
use Rattle.window_config.specs.declared.config.Config.{Config}
use Rattle.window_config.specs.declared.delays.Delays.{Delays}
use Rattle.window_config.specs.declared.endpoints.EndpointConfig.{EndpointConfig}
use Rattle.unit_model.proofs.EndpointLemmas.{found_at}
use Rattle.unit_laws.proofs.AddedLemmas.{in_front as all_left}

-- ---- what holds of each of two lists together

pub all_right : {A : Type 0} (P : A → Type 0) (xs ys : List A) → All P (xs ++ ys) → All P ys
all_right P [] ys h = h
all_right P (x ∷ xs) ys h = all_right P xs ys (All-tail P x (xs ++ ys) h)

all_of_onto : {A : Type 0} (P : A → Type 0) (earlier xs : List A) → All P (onto earlier xs) → All P earlier × All P xs
unfolding onto
all_of_onto P earlier [] h = (h, All-nil P)
all_of_onto P earlier (x ∷ xs) h =
    let both = all_of_onto P (x ∷ earlier) xs h in
    (All-tail P x earlier both.0, All-cons P x xs (All-head P x earlier both.0) both.1)

-- ---- what is known of earlier meetings

module _ (es : List EndpointConfig) (P : ControlSection → Type 0) where
  commands_one : (x : Meeting) (ms : List Meeting) → All P (commands (x ∷ ms)) → All P (commands ms)
  unfolding commands
  commands_one (Ignored k) ms h = h
  commands_one (Commands cs) ms h = (all_of_onto P (commands ms) cs h).0
  commands_one (Piece e f) ms h = h

  commands_before : (ms xs : List Meeting) → All P (commands (onto ms xs)) → All P (commands ms)
  unfolding onto
  commands_before ms [] h = h
  commands_before ms (x ∷ xs) h = commands_one x ms (commands_before (x ∷ ms) xs h)

module _ (side : Side) (hold : ℤ) (P : UserSection → Type 0) where
  data_one : (x : Meeting) (ms : List Meeting) → All P (data_sections side hold (x ∷ ms)) → All P (data_sections side hold ms)
  unfolding data_sections
  data_one (Ignored k) ms h = h
  data_one (Commands cs) ms h = h
  data_one (Piece e f) ms h = all_right P (data_told (data_now side hold e f (fragments ms))) (data_sections side hold ms) h

  data_before : (ms xs : List Meeting) → All P (data_sections side hold (onto ms xs)) → All P (data_sections side hold ms)
  unfolding onto
  data_before ms [] h = h
  data_before ms (x ∷ xs) h = data_one x ms (data_before (x ∷ ms) xs h)

-- ---- what a message is met as

abbrev IsFine : List EndpointConfig → Meeting → Type 0
IsFine es (Ignored k) = Unit {0}
IsFine es (Commands cs) = Unit {0}
IsFine es (Piece e f) = CameTo es f.ep e f.at

choice : (es : List EndpointConfig) (b : Bool) (x y : Meeting) → IsFine es x → IsFine es y → IsFine es (if b then x else y)
choice es true x y h k = h
choice es false x y h k = k

read_fine : (es : List EndpointConfig) (ep : ℕ) (e : EndpointConfig) (at : ℤ) (bytes : List ℕ) (r : Result CHead CRefusal) → IsFine es (command_read ep e at bytes r)
read_fine es ep e at bytes (Err r) = tt
read_fine es ep e at bytes (Ok head) = tt

control_fine : (es : List EndpointConfig) (side : Side) (ep : ℕ) (e : EndpointConfig) (at : ℤ) (payload : List ℕ) → IsFine es (control_met side ep e at payload)
control_fine es Ru ep e at payload =
    choice es (is_fragmented (sequence_of payload)) _ (command_read ep e at (application payload) (checked (shape_of e.numerology) (application payload))) tt
    (read_fine es ep e at (application payload) (checked (shape_of e.numerology) (application payload)))
control_fine es Du ep e at payload = tt

found_fine : (es : List EndpointConfig) (side : Side) (kind : ℕ) (at : ℤ) (payload : List ℕ) (o : Option (ℕ × EndpointConfig)) → IsTime at
    → find_endpoint es (id_of payload) ≡ o → IsFine es (met_by side kind at payload o)
found_fine es side kind at payload None t is = tt
found_fine es side kind at payload (Some (ep, e)) t is =
    choice es (kind == REAL_TIME_CONTROL) (control_met side ep e at payload) (Piece e (fragment_of ep at payload)) (control_fine es side ep e at payload)
    (found_at es (id_of payload) ep e is, t)

meet_fine : (es : List EndpointConfig) (side : Side) (at : ℤ) (m : Message) → IsTime at → IsFine es (meet side es at m)
unfolding meet
meet_fine es side at m t =
    choice es (m.head.kind == ONE_WAY_DELAY) _ _ tt
    (choice es (not (m.head.kind == IQ_DATA || m.head.kind == REAL_TIME_CONTROL)) _ _ tt
    (choice es (nat_lt (length m.payload) 4) _ _ tt
    (found_fine es side m.head.kind at m.payload (find_endpoint es (id_of m.payload)) t refl)))

-- ---- what is judged

module _ (es : List EndpointConfig) where
  commands_judged : (d : Delays) (earlier cs : List ControlSection) → All (IsProperCommand es) cs → All (IsSoundJudgement es) (judged_commands d earlier cs)
  unfolding judged_commands
  commands_judged d earlier [] h = All-nil (IsSoundJudgement es)
  commands_judged d earlier (c ∷ cs) h =
      All-cons (IsSoundJudgement es) (Commanded c (command_verdict d (accepted d earlier) c)) (judged_commands d (c ∷ earlier) cs)
      (All-head (IsProperCommand es) c cs h) (commands_judged d (c ∷ earlier) cs (All-tail (IsProperCommand es) c cs h))

  section_judged : (s : UserSection) → IsProperData es s → IsAt es s.ep s.endpoint × IsSoundHeading (heading_of s)
  section_judged s is = (
    is.endpoint,
    record {
      first = is.first;
      last = is.last;
      subframe = is.subframe;
      slot = is.slot;
      symbol = is.symbol;
      within = is.within;
    },
  )

  data_judged : (side : Side) (d : Delays) (earlier ss : List UserSection) → All (IsProperData es) ss → All (IsSoundJudgement es) (judged_data side d earlier ss)
  unfolding judged_data
  data_judged side d earlier [] h = All-nil (IsSoundJudgement es)
  data_judged side d earlier (s ∷ ss) h =
      let now = Given (heading_of s) (data_verdict side d (timely side d (ss ++ earlier)) s) in
      All-append (IsSoundJudgement es) (judged_data side d earlier ss) (now ∷ []) (data_judged side d earlier ss (All-tail (IsProperData es) s ss h))
      (All-cons (IsSoundJudgement es) now [] (section_judged s (All-head (IsProperData es) s ss h)) (All-nil (IsSoundJudgement es)))

  decoded_judged : (side : Side) (d : Delays) (ep : ℕ) (e : EndpointConfig) (m : Whole) (earlier : List UserSection) (x : Decoded) → CameTo es ep e m.last
      → All (IsProperData es) (sections_of x) → All (IsSoundJudgement es) (judged_decoded side d ep e m earlier x)
  decoded_judged side d ep e m earlier Refused came h = All-nil (IsSoundJudgement es)
  decoded_judged side d ep e m earlier Backwards came h = All-cons (IsSoundJudgement es) (Turned ep e m) [] came (All-nil (IsSoundJudgement es))
  decoded_judged side d ep e m earlier (Sections ss) came h = data_judged side d earlier ss h

  by_judged : (side : Side) (d : Delays) (ep : ℕ) (e : EndpointConfig) (m : Whole) (earlier : List UserSection) (o : Option URefusal) → CameTo es ep e m.last
      → All (IsProperData es) (sections_of (decode_message side ep e m)) → All (IsSoundJudgement es) (judged_by side d ep e m earlier o)
  by_judged side d ep e m earlier (Some why) came h = All-cons (IsSoundJudgement es) (Unread ep e m why) [] came (All-nil (IsSoundJudgement es))
  by_judged side d ep e m earlier None came h = decoded_judged side d ep e m earlier (decode_message side ep e m) came h

  now_judged : (side : Side) (d : Delays) (v : Verdict) (e : EndpointConfig) (f : Fragment) (s : List Fragment) (earlier : List UserSection) → CameTo es f.ep e f.at
      → All (IsProperData es) (data_told (decoded_now side e f (whole_of v f s))) → All (IsSoundJudgement es) (judged_now side d f.ep e earlier (whole_of v f s))
  unfolding judged_whole
  now_judged side d fragment.Stored e f s earlier came h = All-nil (IsSoundJudgement es)
  now_judged side d fragment.Repeat e f s earlier came h = All-nil (IsSoundJudgement es)
  now_judged side d fragment.Stray e f s earlier came h = All-nil (IsSoundJudgement es)
  now_judged side d fragment.TooLong e f s earlier came h = All-nil (IsSoundJudgement es)
  now_judged side d fragment.Whole e f s earlier came h =
      by_judged side d f.ep e (message (f ∷ s)) earlier (told e.format e.prbs (shape_of e.numerology) (joined (message (f ∷ s)).pieces)).refusal came h

module _ (side : Side) (c : Config) where
  meeting_judged : (ms : List Meeting) (x : Meeting) → IsFine c.endpoints x → All (IsProperCommand c.endpoints) (commands (x ∷ ms))
      → All (IsProperData c.endpoints) (data_sections side (hold_of side c.delays) (x ∷ ms)) → All (IsSoundJudgement c.endpoints) (judged_meeting side c ms x)
  unfolding commands data_sections
  meeting_judged ms (Ignored k) fine hc hd = All-nil (IsSoundJudgement c.endpoints)
  meeting_judged ms (Commands cs) fine hc hd =
      commands_judged c.endpoints c.delays (commands ms) cs (all_of_onto (IsProperCommand c.endpoints) (commands ms) cs hc).1
  meeting_judged ms (Piece e f) fine hc hd =
      let hold = hold_of side c.delays in
      let fs = fragments ms in
      All-cons (IsSoundJudgement c.endpoints) (Fragmented e f (verdict_on hold f fs))
      (judged_now side c.delays f.ep e (data_sections side hold ms) (whole_now hold f fs)) fine
      (now_judged c.endpoints side c.delays (verdict_on hold f fs) e f (standing_before hold f fs) (data_sections side hold ms) fine
      (all_left (IsProperData c.endpoints) (data_told (data_now side hold e f fs)) (data_sections side hold ms) hd))

  all_judged : (at : ℤ) (ms : List Meeting) (messages : List Message) → IsTime at
      → All (IsProperCommand c.endpoints) (commands (onto ms (met_in side c.endpoints at messages)))
      → All (IsProperData c.endpoints) (data_sections side (hold_of side c.delays) (onto ms (met_in side c.endpoints at messages)))
      → All (IsSoundJudgement c.endpoints) (judged_in side c at ms messages)
  unfolding judged_in onto
  all_judged at ms [] t hc hd = All-nil (IsSoundJudgement c.endpoints)
  all_judged at ms (m ∷ rest) t hc hd =
      let x = meet side c.endpoints at m in
      let xs = met_in side c.endpoints at rest in
      let hold = hold_of side c.delays in
      All-append (IsSoundJudgement c.endpoints) (judged_message side c at ms m) (judged_in side c at (x ∷ ms) rest)
      (All-cons (IsSoundJudgement c.endpoints) (Met m) (judged_meeting side c ms x) tt
      (meeting_judged ms x (meet_fine c.endpoints side at m t) (commands_before c.endpoints (IsProperCommand c.endpoints) (x ∷ ms) xs hc)
      (data_before side hold (IsProperData c.endpoints) (x ∷ ms) xs hd)))
      (all_judged at (x ∷ ms) rest t hc hd)

-- What is judged of a frame is of the unit's endpoints, and each section names a slot and a symbol of its endpoint.
pub are_sound : (side : Side) (c : Config) (clock : ℤ) (earlier : List Arrival) (a : Arrival) → AreInTime clock (a ∷ earlier) → All (λ (b : Arrival). IsTime b.at) (a ∷ earlier)
    → All (IsSoundJudgement c.endpoints) (judgements side c earlier a)
unfolding meetings
are_sound side c clock earlier a h times =
    all_judged side c a.at (met side c earlier) (whole_messages a.frame) (All-head (λ (a : Arrival). IsTime a.at) a earlier times)
    (commands_are_proper side c clock (a ∷ earlier) h times) (data_are_proper side c clock (a ∷ earlier) h times)
