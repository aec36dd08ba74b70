-- What is judged is what is counted, message by message.
use Rattle.std.proofs.Common.{◌≡◌, ℕ, ℤ, ◌+◌, Bool, true, false, List, [], ◌∷◌, ◌++◌, map, refl, sym, subst, arith}
use Rattle.std.specs.Prelude.{Option, Some, None}
use Rattle.ecpri_fragments.specs.Generations.{Fragment}
use Rattle.ecpri_fragments.specs.Pieces.{joined}
use Rattle.ecpri_fragments.specs.Verdicts.{Message as Whole, verdict_on, whole_now}
use Rattle.ecpri_frames.specs.Gathering.{whole_messages}
use Rattle.ecpri_frames.specs.Messages.{Message, pdu}
use Rattle.fault_counters.specs.Counts.{times}
use Rattle.fault_counters.specs.declared.kinds.Counter.{Counter}
use Rattle.fault_counters.specs.declared.kinds.Counter.TheVariants as counter
use Rattle.fh_base.specs.Numbering.{shape_of}
use Rattle.air_source.specs.declared.events.Side.{Side}
use Rattle.window_config.specs.declared.config.Config.{Config}
use Rattle.window_config.specs.declared.delays.Delays.{Delays}
use Rattle.window_config.specs.declared.endpoints.EndpointConfig.{EndpointConfig}
use Rattle.unit_model.specs.Terms.{URefusal}
use Rattle.uplane_sections.specs.Messages.{told}
use Rattle.uplane_sections.specs.Header.{head_of}
use Rattle.unit_model.specs.Blocks.{data_verdict, data_verdicts, timely}
use Rattle.unit_model.specs.Commands.{command_verdicts}
use Rattle.unit_model.specs.Counts.{commands_counted, data_counted, decoded_counted, fragment_counter, frames_counted, messages_counted, refusal_counted}
use Rattle.unit_model.specs.Decoding.{Backwards, Decoded, Refused, Sections, data_sections, data_told, data_with, decode_message, decoded_now, has_way, sections_of}
use Rattle.fh_base.specs.Lists.{onto}
use Rattle.unit_model.specs.Meetings.{Meeting, Ignored, Commands, Piece, commands, fragments, meet, meetings, met_in}
use Rattle.unit_model.specs.Reports.{hold_of, met}
use Rattle.unit_model.specs.declared.decoded.ControlSection.{ControlSection}
use Rattle.unit_model.specs.declared.decoded.UserSection.{UserSection}
use Rattle.unit_model.proofs.CountLemmas.{times-append}
use Rattle.uplane_messages.proofs.Whole.{message_whole}
use Rattle.unit_model.specs.Judgements.{Judgement, Given, Turned, Unread, heading_of, judged_commands, judged_data, judged_in, judged_meeting, judged_message, judged_now, judged_whole}
use Rattle.unit_memory.proofs.MessageLemmas.{parts_told, says_backwards, says_refused, says_sections}
use Rattle.unit_memory.proofs.ToldLemmas.{judged_refused, judged_sections, judged_turned}
use Rattle.explain_laws.specs.JudgedCounted.{JudgementsAreCounted, ignored_counted, judged_counted, judgement_counted}

module _ (side : Side) (c : Config) (at : ℤ) (k : Counter) where
  abbrev d : Delays
  d = c.delays

  abbrev hold : ℤ
  hold = hold_of side c.delays

  -- how often the counter is counted of judgements
  abbrev judged : List Judgement → ℕ
  judged js = times (judged_counted side c.endpoints at js) k

  abbrev of_commands : List ControlSection → ℕ
  of_commands cs = times (commands_counted (command_verdicts d cs)) k

  abbrev of_data : List UserSection → ℕ
  of_data ds = times (data_counted (data_verdicts side d ds)) k

  judged_both : (xs ys : List Judgement) → judged (xs ++ ys) ≡ judged xs + judged ys
  judged_both [] ys = omega arith
  judged_both (j ∷ xs) ys =
      omega (
        arith,
        judged_both xs ys,
        times-append (judgement_counted side c.endpoints at j) (judged_counted side c.endpoints at (xs ++ ys)) k,
        times-append (judgement_counted side c.endpoints at j) (judged_counted side c.endpoints at xs) k,
      )

  command_sections : (earlier cs : List ControlSection) → of_commands (onto earlier cs) ≡ of_commands earlier + judged (judged_commands d earlier cs)
  unfolding onto judged_commands command_verdicts
  command_sections earlier [] = omega arith
  command_sections earlier (s ∷ cs) = omega (arith, command_sections (s ∷ earlier) cs)

  data_of_message : (ss ds : List UserSection) → of_data (ss ++ ds) ≡ of_data ds + judged (judged_data side d ds ss)
  unfolding judged_data data_verdicts
  data_of_message [] ds = omega arith
  data_of_message (s ∷ ss) ds =
      omega (arith, data_of_message ss ds, judged_both (judged_data side d ds ss) (Given (heading_of s) (data_verdict side d (timely side d (ss ++ ds)) s) ∷ []))

  -- a whole message that says this is judged so
  abbrev IsSo : List UserSection → Decoded → List Judgement → Type 0
  IsSo ds x js = times (decoded_counted (Some x)) k + of_data (sections_of x ++ ds) ≡ of_data ds + judged js

  so_as : (ds : List UserSection) (x y : Decoded) (js ks : List Judgement) → y ≡ x → ks ≡ js → IsSo ds x js → IsSo ds y ks
  so_as ds x y js ks e f h = subst (λ (z : Decoded). IsSo ds z ks) (sym e) (subst (λ (l : List Judgement). IsSo ds x l) (sym f) h)

  module _ (ep : ℕ) (e : EndpointConfig) (m : Whole) (ds : List UserSection) where
    abbrev bytes : List ℕ
    bytes = joined m.pieces

    abbrev read : Option URefusal
    read = (told e.format e.prbs (shape_of e.numerology) bytes).refusal

    by_way : (b : Bool) → has_way side (head_of bytes) ≡ b → read ≡ None → IsSo ds (decode_message side ep e m) (judged_whole side d ep e m ds)
    by_way true way none =
        let whole = message_whole e.format e.prbs (shape_of e.numerology) bytes none in
        let is = says_sections side ep e m.first m.last bytes (shape_of e.numerology) (head_of bytes) refl (sym none) whole way in
        let ss = map (data_with ep e m.first m.last (head_of bytes)) (parts_told side ep e m.first m.last bytes) in
        so_as ds (Sections ss) _ (judged_data side d ds ss) _ is (judged_sections side d ep e m ds ss none is) (omega (arith, data_of_message ss ds))
    by_way false way none =
        let whole = message_whole e.format e.prbs (shape_of e.numerology) bytes none in
        let is = says_backwards side ep e m.first m.last bytes (shape_of e.numerology) (head_of bytes) refl (sym none) whole way in
        so_as ds Backwards _ (Turned ep e m ∷ []) _ is (judged_turned side d ep e m ds none is) (omega arith)

    by_refusal : (o : Option URefusal) → read ≡ o → IsSo ds (decode_message side ep e m) (judged_whole side d ep e m ds)
    by_refusal (Some why) is =
        so_as ds Refused _ (Unread ep e m why ∷ []) _ (says_refused side ep e m.first m.last bytes (shape_of e.numerology) why refl (sym is)) (judged_refused side d ep e m ds why is) (omega arith)
    by_refusal None is = by_way (has_way side (head_of bytes)) refl is

    whole_counted : IsSo ds (decode_message side ep e m) (judged_whole side d ep e m ds)
    whole_counted = by_refusal read refl

  now_counted : (e : EndpointConfig) (f : Fragment) (ds : List UserSection) (o : Option Whole)
      → times (decoded_counted (decoded_now side e f o)) k + of_data (data_told (decoded_now side e f o) ++ ds) ≡ of_data ds + judged (judged_now side d f.ep e ds o)
  now_counted e f ds None = omega arith
  now_counted e f ds (Some m) = whole_counted f.ep e m ds

  -- ---- messages

  abbrev total : List Meeting → ℕ
  total ms = times (messages_counted side hold ms) k + (of_commands (commands ms) + of_data (data_sections side hold ms))

  meeting_counted : (ms : List Meeting) (x : Meeting)
      → total (x ∷ ms) ≡ total ms + (times (ignored_counted x ++ counter.Messages ∷ []) k + judged (judged_meeting side c ms x))
  unfolding messages_counted commands data_sections
  meeting_counted ms (Ignored x) = omega arith
  meeting_counted ms (Commands cs) = omega (arith, command_sections (commands ms) cs)
  meeting_counted ms (Piece e f) =
      let fs = fragments ms in
      let ds = data_sections side hold ms in
      let now = whole_now hold f fs in
      omega (
        arith,
        now_counted e f ds now,
        times-append (decoded_counted (decoded_now side e f now)) (fragment_counter (verdict_on hold f fs) ∷ []) k,
        times-append (decoded_counted (decoded_now side e f now) ++ fragment_counter (verdict_on hold f fs) ∷ []) (counter.Messages ∷ []) k,
        times-append ((decoded_counted (decoded_now side e f now) ++ fragment_counter (verdict_on hold f fs) ∷ []) ++ counter.Messages ∷ []) (messages_counted side hold ms) k,
      )

  messages_are : (ms : List Meeting) (messages : List Message) → total (onto ms (met_in side c.endpoints at messages)) ≡ total ms + judged (judged_in side c at ms messages)
  unfolding onto judged_in
  messages_are ms [] = omega arith
  messages_are ms (m ∷ rest) =
      let x = meet side c.endpoints at m in
      omega (
        arith,
        messages_are (x ∷ ms) rest,
        meeting_counted ms x,
        judged_both (judged_message side c at ms m) (judged_in side c at (x ∷ ms) rest),
        times-append (ignored_counted x ++ counter.Messages ∷ []) (judged_counted side c.endpoints at (judged_meeting side c ms x)) k,
      )

frame_number : (f r rest m c d : List Counter) (k : Counter) → times (f ++ (m ++ (c ++ d))) k ≡ times f k + (times m k + (times c k + times d k))
frame_number f r rest m c d k = omega (arith, times-append f (m ++ (c ++ d)) k, times-append m (c ++ d) k, times-append c d k)

frames_more : (rs earlier : List Counter) (k : Counter) → times (rs ++ counter.Frames ∷ earlier) k ≡ times earlier k + times (rs ++ counter.Frames ∷ []) k
frames_more rs earlier k = omega (arith, times-append rs (counter.Frames ∷ earlier) k, times-append rs (counter.Frames ∷ []) k)

pub are_counted : JudgementsAreCounted
unfolding meetings frames_counted
are_counted side c earlier a k =
    let hold = hold_of side c.delays in
    let before = met side c earlier in
    let now = onto before (met_in side c.endpoints a.at (whole_messages a.frame)) in
    omega (
      arith,
      messages_are side c a.at k before (whole_messages a.frame),
      frame_number (frames_counted earlier) [] [] (messages_counted side hold before) (commands_counted (command_verdicts c.delays (commands before))) (data_counted (data_verdicts side c.delays (data_sections side hold before))) k,
      frame_number (refusal_counted (pdu a.frame).refusal ++ counter.Frames ∷ frames_counted earlier) [] [] (messages_counted side hold now) (commands_counted (command_verdicts c.delays (commands now))) (data_counted (data_verdicts side c.delays (data_sections side hold now))) k,
      frames_more (refusal_counted (pdu a.frame).refusal) (frames_counted earlier) k,
    )
