-- What is judged is what is decoded, message by message.
use Rattle.std.proofs.Common.{◌≡◌, ℕ, ℤ, Bool, true, false, List, [], ◌∷◌, ◌++◌, map, refl, sym, ap, ap₂, ◌∙◌, subst, append_assoc, append-nil}
use Rattle.std.specs.Prelude.{Option, Some, None}
use Rattle.std.specs.List.{flat_map}
use Rattle.std.proofs.lemmas.Grind.{flat_map-append}
use Rattle.ecpri_fragments.specs.Generations.{Fragment}
use Rattle.ecpri_fragments.specs.Pieces.{joined}
use Rattle.ecpri_fragments.specs.Verdicts.{Message as Whole, verdict_on, whole_now}
use Rattle.ecpri_frames.specs.Gathering.{whole_messages}
use Rattle.ecpri_frames.specs.Messages.{Message}
use Rattle.fh_base.specs.Numbering.{shape_of}
use Rattle.air_source.specs.declared.events.Side.{Side}
use Rattle.window_config.specs.declared.config.Config.{Config}
use Rattle.window_config.specs.declared.delays.Delays.{Delays}
use Rattle.window_config.specs.declared.endpoints.EndpointConfig.{EndpointConfig}
use Rattle.unit_model.specs.Terms.{URefusal}
use Rattle.uplane_sections.specs.Messages.{told}
use Rattle.uplane_sections.specs.Header.{head_of}
use Rattle.unit_model.specs.Blocks.{data_verdict, timely}
use Rattle.unit_model.specs.Decoding.{Backwards, Decoded, Refused, Sections, data_sections, data_told, data_with, decode_message, decoded_now, has_way, sections_of}
use Rattle.fh_base.specs.Lists.{onto}
use Rattle.unit_model.specs.Meetings.{Commands, Ignored, Meeting, Piece, commands, fragments, meet, meetings, met_in}
use Rattle.unit_model.specs.Reports.{hold_of, met}
use Rattle.unit_model.specs.declared.decoded.ControlSection.{ControlSection}
use Rattle.unit_model.specs.declared.decoded.UserSection.{UserSection}
use Rattle.uplane_messages.proofs.Whole.{message_whole}
use Rattle.unit_model.specs.Judgements.{Given, Judgement, Turned, Unread, heading_of, judged_commands, judged_data, judged_in, judged_meeting, judged_message, judged_now, judged_whole}
use Rattle.unit_memory.proofs.MessageLemmas.{parts_told, says_backwards, says_refused, says_sections}
use Rattle.unit_memory.proofs.ToldLemmas.{judged_refused, judged_sections, judged_turned}
use Rattle.explain_laws.specs.Decoded.{JudgementsAreDecoded, commanded_in, commanded_sections, fragment_in, given_in, given_sections, judged_fragments, judged_of, undecoded_by, undecoded_in, undecoded_messages, undecoded_now}

-- a list at the end of two
behind : {A : Type 0} (a b d e f : List A) → e ≡ a ++ b → f ≡ e ++ d → f ≡ a ++ (b ++ d)
behind a b d e f p q = q ∙ ap (λ xs. xs ++ d) p ∙ append_assoc a b d

module _ (side : Side) (c : Config) (at : ℤ) where
  abbrev pub d : Delays
  d = c.delays

  abbrev pub hold : ℤ
  hold = hold_of side c.delays

  -- ---- sections of commands

  commands_given : (earlier cs : List ControlSection) → flat_map given_in (judged_commands d earlier cs) ≡ []
  unfolding judged_commands
  commands_given earlier [] = refl
  commands_given earlier (s ∷ cs) = commands_given (s ∷ earlier) cs

  commands_pieces : (earlier cs : List ControlSection) → flat_map fragment_in (judged_commands d earlier cs) ≡ []
  unfolding judged_commands
  commands_pieces earlier [] = refl
  commands_pieces earlier (s ∷ cs) = commands_pieces (s ∷ earlier) cs

  commands_undecoded : (earlier cs : List ControlSection) → flat_map undecoded_in (judged_commands d earlier cs) ≡ []
  unfolding judged_commands
  commands_undecoded earlier [] = refl
  commands_undecoded earlier (s ∷ cs) = commands_undecoded (s ∷ earlier) cs

  commands_commanded : (earlier cs : List ControlSection) → commanded_sections d (onto earlier cs) ≡ commanded_sections d earlier ++ flat_map commanded_in (judged_commands d earlier cs)
  unfolding onto judged_commands commanded_sections
  commands_commanded earlier [] = sym (append-nil _)
  commands_commanded earlier (s ∷ cs) = commands_commanded (s ∷ earlier) cs ∙ append_assoc (commanded_sections d earlier) _ _

  -- ---- sections of data

  data_given : (ss ds : List UserSection) → given_sections side d (ss ++ ds) ≡ given_sections side d ds ++ flat_map given_in (judged_data side d ds ss)
  unfolding judged_data given_sections
  data_given [] ds = sym (append-nil _)
  data_given (s ∷ ss) ds =
      let last : List Judgement = Given (heading_of s) (data_verdict side d (timely side d (ss ++ ds)) s) ∷ [] in
      behind (given_sections side d ds) (flat_map given_in (judged_data side d ds ss)) (flat_map given_in last) _ _ (data_given ss ds) refl
      ∙ ap (λ xs. given_sections side d ds ++ xs) (sym (flat_map-append given_in (judged_data side d ds ss) last))

  module _ {A : Type 0} (of : Judgement → List A) (silent : (s : UserSection) (ds : List UserSection) → of (Given (heading_of s) (data_verdict side d (timely side d ds) s)) ≡ []) where
    data_silent : (ss ds : List UserSection) → flat_map of (judged_data side d ds ss) ≡ []
    unfolding judged_data
    data_silent [] ds = refl
    data_silent (s ∷ ss) ds =
        flat_map-append of (judged_data side d ds ss) _
        ∙ ap₂ ◌++◌ (data_silent ss ds) (append-nil _ ∙ silent s (ss ++ ds))

  -- ---- a whole message

  -- what is judged of it says these sections and that it is not decoded, and nothing of commands and fragments
  record IsJudged (ep : ℕ) (e : EndpointConfig) (m : Whole) (ds : List UserSection) (x : Decoded) (js : List Judgement) : Type 0 where
    given : given_sections side d (sections_of x ++ ds) ≡ given_sections side d ds ++ flat_map given_in js
    undecoded : flat_map undecoded_in js ≡ undecoded_by ep e m x
    commanded : flat_map commanded_in js ≡ []
    pieces : flat_map fragment_in js ≡ []

  judged_as : (ep : ℕ) (e : EndpointConfig) (m : Whole) (ds : List UserSection) (x y : Decoded) (js ks : List Judgement) → y ≡ x → ks ≡ js
      → IsJudged ep e m ds x js → IsJudged ep e m ds y ks
  judged_as ep e m ds x y js ks p q h =
      subst (λ (z : Decoded). IsJudged ep e m ds z ks) (sym p) (subst (λ (l : List Judgement). IsJudged ep e m ds x l) (sym q) h)

  module _ (ep : ℕ) (e : EndpointConfig) (m : Whole) (ds : List UserSection) where
    abbrev bytes : List ℕ
    bytes = joined m.pieces

    abbrev read : Option URefusal
    read = (told e.format e.prbs (shape_of e.numerology) bytes).refusal

    abbrev IsSo : Type 0
    IsSo = IsJudged ep e m ds (decode_message side ep e m) (judged_whole side d ep e m ds)

    sections_so : (ss : List UserSection) → IsJudged ep e m ds (Sections ss) (judged_data side d ds ss)
    sections_so ss = record {
      given = data_given ss ds;
      undecoded = data_silent undecoded_in (λ s xs. refl) ss ds;
      commanded = data_silent commanded_in (λ s xs. refl) ss ds;
      pieces = data_silent fragment_in (λ s xs. refl) ss ds;
    }

    turned_so : IsJudged ep e m ds Backwards (Turned ep e m ∷ [])
    turned_so = record { given = sym (append-nil _); undecoded = refl; commanded = refl; pieces = refl }

    refused_so : (why : URefusal) → IsJudged ep e m ds Refused (Unread ep e m why ∷ [])
    refused_so why = record { given = sym (append-nil _); undecoded = refl; commanded = refl; pieces = refl }

    by_way : (b : Bool) → has_way side (head_of bytes) ≡ b → read ≡ None → IsSo
    by_way true way none =
        let whole = message_whole e.format e.prbs (shape_of e.numerology) bytes none in
        let is = says_sections side ep e m.first m.last bytes (shape_of e.numerology) (head_of bytes) refl (sym none) whole way in
        let ss = map (data_with ep e m.first m.last (head_of bytes)) (parts_told side ep e m.first m.last bytes) in
        judged_as ep e m ds (Sections ss) _ (judged_data side d ds ss) _ is (judged_sections side d ep e m ds ss none is) (sections_so ss)
    by_way false way none =
        let whole = message_whole e.format e.prbs (shape_of e.numerology) bytes none in
        let is = says_backwards side ep e m.first m.last bytes (shape_of e.numerology) (head_of bytes) refl (sym none) whole way in
        judged_as ep e m ds Backwards _ (Turned ep e m ∷ []) _ is (judged_turned side d ep e m ds none is) turned_so

    by_refusal : (o : Option URefusal) → read ≡ o → IsSo
    by_refusal (Some why) is =
        judged_as ep e m ds Refused _ (Unread ep e m why ∷ []) _ (says_refused side ep e m.first m.last bytes (shape_of e.numerology) why refl (sym is)) (judged_refused side d ep e m ds why is) (refused_so why)
    by_refusal None is = by_way (has_way side (head_of bytes)) refl is

    whole_judged : IsSo
    whole_judged = by_refusal read refl

  -- the message that a fragment makes whole, if it does
  pub record NowJudged (e : EndpointConfig) (f : Fragment) (ds : List UserSection) (o : Option Whole) : Type 0 where
    pub given : given_sections side d (data_told (decoded_now side e f o) ++ ds) ≡ given_sections side d ds ++ flat_map given_in (judged_now side d f.ep e ds o)
    pub undecoded : flat_map undecoded_in (judged_now side d f.ep e ds o) ≡ undecoded_now side f.ep e o
    pub commanded : flat_map commanded_in (judged_now side d f.ep e ds o) ≡ []
    pub pieces : flat_map fragment_in (judged_now side d f.ep e ds o) ≡ []

  pub now_judged : (e : EndpointConfig) (f : Fragment) (ds : List UserSection) (o : Option Whole) → NowJudged e f ds o
  now_judged e f ds None = record { given = sym (append-nil _); undecoded = refl; commanded = refl; pieces = refl }
  now_judged e f ds (Some m) =
      let w = whole_judged f.ep e m ds in
      record { given = w.given; undecoded = w.undecoded; commanded = w.commanded; pieces = w.pieces }

  -- ---- messages

  -- what is judged of a message goes on with what was decoded before
  record MeetingJudged (ms : List Meeting) (x : Meeting) (js : List Judgement) : Type 0 where
    given : given_sections side d (data_sections side hold (x ∷ ms)) ≡ given_sections side d (data_sections side hold ms) ++ flat_map given_in js
    commanded : commanded_sections d (commands (x ∷ ms)) ≡ commanded_sections d (commands ms) ++ flat_map commanded_in js
    pieces : judged_fragments hold (x ∷ ms) ≡ judged_fragments hold ms ++ flat_map fragment_in js
    undecoded : undecoded_messages side hold (x ∷ ms) ≡ undecoded_messages side hold ms ++ flat_map undecoded_in js

  nothing_more : {A : Type 0} (xs ys : List A) → ys ≡ [] → xs ≡ xs ++ ys
  nothing_more xs ys is = sym (append-nil xs) ∙ ap (λ zs. xs ++ zs) (sym is)

  meeting_judged : (ms : List Meeting) (x : Meeting) → MeetingJudged ms x (judged_meeting side c ms x)
  unfolding data_sections commands judged_fragments undecoded_messages
  meeting_judged ms (Ignored k) = record { given = sym (append-nil _); commanded = sym (append-nil _); pieces = sym (append-nil _); undecoded = sym (append-nil _) }
  meeting_judged ms (Commands cs) = record {
    given = nothing_more _ _ (commands_given (commands ms) cs);
    commanded = commands_commanded (commands ms) cs;
    pieces = nothing_more _ _ (commands_pieces (commands ms) cs);
    undecoded = nothing_more _ _ (commands_undecoded (commands ms) cs);
  }
  meeting_judged ms (Piece e f) =
      let now = now_judged e f (data_sections side hold ms) (whole_now hold f (fragments ms)) in
      record {
        given = now.given;
        commanded = nothing_more _ _ now.commanded;
        pieces = ap (λ xs. judged_fragments hold ms ++ record { endpoint = e; fragment = f; verdict = verdict_on hold f (fragments ms) } ∷ xs) (sym now.pieces);
        undecoded = ap (λ xs. undecoded_messages side hold ms ++ xs) (sym now.undecoded);
      }

  -- so do those of all messages of a frame
  record FrameJudged (ms all : List Meeting) (js : List Judgement) : Type 0 where
    given : given_sections side d (data_sections side hold all) ≡ given_sections side d (data_sections side hold ms) ++ flat_map given_in js
    commanded : commanded_sections d (commands all) ≡ commanded_sections d (commands ms) ++ flat_map commanded_in js
    pieces : judged_fragments hold all ≡ judged_fragments hold ms ++ flat_map fragment_in js
    undecoded : undecoded_messages side hold all ≡ undecoded_messages side hold ms ++ flat_map undecoded_in js

  both : {A : Type 0} (of : Judgement → List A) (a b x : List A) (js ks : List Judgement) → b ≡ a ++ flat_map of js → x ≡ b ++ flat_map of ks → x ≡ a ++ flat_map of (js ++ ks)
  both of a b x js ks p q = behind a (flat_map of js) (flat_map of ks) b x p q ∙ ap (λ xs. a ++ xs) (sym (flat_map-append of js ks))

  messages_judged : (ms : List Meeting) (messages : List Message) → FrameJudged ms (onto ms (met_in side c.endpoints at messages)) (judged_in side c at ms messages)
  unfolding onto judged_in
  messages_judged ms [] = record { given = sym (append-nil _); commanded = sym (append-nil _); pieces = sym (append-nil _); undecoded = sym (append-nil _) }
  messages_judged ms (m ∷ rest) =
      let x = meet side c.endpoints at m in
      let one = meeting_judged ms x in
      let more = messages_judged (x ∷ ms) rest in
      let js = judged_message side c at ms m in
      let ks = judged_in side c at (x ∷ ms) rest in
      record {
        given = both given_in _ _ _ js ks one.given more.given;
        commanded = both commanded_in _ _ _ js ks one.commanded more.commanded;
        pieces = both fragment_in _ _ _ js ks one.pieces more.pieces;
        undecoded = both undecoded_in _ _ _ js ks one.undecoded more.undecoded;
      }

one_more : {A : Type 0} (of : Judgement → List A) (js ks : List Judgement) (a b : List A) → flat_map of js ≡ a → b ≡ a ++ flat_map of ks → flat_map of (js ++ ks) ≡ b
one_more of js ks a b p q = flat_map-append of js ks ∙ ap (λ xs. xs ++ flat_map of ks) p ∙ sym q

pub are_decoded : JudgementsAreDecoded
unfolding judged_of meetings given_sections commanded_sections judged_fragments undecoded_messages data_sections commands
are_decoded side c [] = record { given = refl; commanded = refl; fragments = refl; undecoded = refl }
are_decoded side c (a ∷ earlier) =
    let before = are_decoded side c earlier in
    let frame = messages_judged side c a.at (met side c earlier) (whole_messages a.frame) in
    let js = judged_of side c earlier in
    let ks = judged_in side c a.at (met side c earlier) (whole_messages a.frame) in
    record {
      given = one_more given_in js ks _ _ before.given frame.given;
      commanded = one_more commanded_in js ks _ _ before.commanded frame.commanded;
      fragments = one_more fragment_in js ks _ _ before.fragments frame.pieces;
      undecoded = one_more undecoded_in js ks _ _ before.undecoded frame.undecoded;
    }
