-- The frames of the classes c and u have no message of delay measurement.
use Rattle.std.proofs.Common.{◌≡◌, ℕ, ◌+◌, ◌*◌, ◌%◌, ◌<◌, ◌^◌, min, Bool, false, if◌then◌else◌, List, [], ◌++◌, length, refl, ap, sym, ◌∙◌, subst, arith}
use Rattle.std.specs.Prelude.{All, ◌==◌}
use Rattle.std.specs.List.{flat_map}
use Rattle.std.specs.Option.{option_to_list}
use Rattle.air_source.specs.declared.events.Side.{Side}
use Rattle.air_source.specs.declared.events.Side.TheVariants.{Ru, Du}
use Rattle.air_source.specs.declared.links.LinkFrame.{LinkFrame}
use Rattle.document_traffic.proofs.AnswerLemmas.{jobs_proper, last_start, sent_is_handed, IsHanded, handed_is}
use Rattle.document_traffic.proofs.CopyLemmas.{delayed_is}
use Rattle.document_traffic.proofs.LineLemmas.{lines_fit}
use Rattle.document_traffic.specs.Landing.{all_delayed, antenna_for, jobs_for, leaving_to, leaving_up}
use Rattle.document_traffic.specs.Laws.{HasWidths}
use Rattle.document_traffic.specs.Sending.{Delayed, Leaving, leaving_down, leaving_of, lines_of, none_sent, sent_for, source_for}
use Rattle.ecpri_fragments.specs.declared.sequence.SeqField.{SeqField}
use Rattle.ecpri_frames.specs.Messages.{Message as FrameMessage}
use Rattle.fh_document.specs.Proper.{IsDocument}
use Rattle.fh_document.specs.declared.document.Document.{Document}
use Rattle.frame_bytes.proofs.CutBytes.{length_cut}
use Rattle.frame_bytes.proofs.Frames.{frame_is_one}
use Rattle.frame_bytes.specs.Commands.{command_of, whole_seq}
use Rattle.frame_bytes.specs.Cuts.{cut, piece_at}
use Rattle.frame_bytes.specs.Transport.{IsTransport, frame_of}
use Rattle.plan_model.specs.Packs.{Message, Numbered, size_of}
use Rattle.plan_model.specs.Sent.{SentFrame}
use Rattle.plan_model.specs.Streams.{Part, frames_in, messages_of as sent_messages, part_fields}
use Rattle.plan_model.specs.Valid.{IsValid}
use Rattle.plan_model.specs.declared.streams.Stream.{Stream}
use Rattle.plan_model.specs.declared.streams.Stream.TheVariants.{DownCommands, UpCommands, DownData, UpData}
use Rattle.plan_model.proofs.SentLemmas.{IsOfMessage, IsSentStream, sent_is}
use Rattle.sent_frames.proofs.MessageFacts.{message_short}
use Rattle.sent_frames.specs.Commands.{command_head, command_section}
use Rattle.sent_frames.specs.Frames.{bytes_in, command_bytes, fragment_bytes, fragment_field}
use Rattle.sent_frames.specs.Messages.{message_bytes}
use Rattle.uplink_laws.proofs.CommandRead.{one_whole}
use Rattle.uplink_laws.proofs.Fragments.{piece_short}
use Rattle.uplink_laws.proofs.SentRead.{command_short, in_size, low_byte}
use Rattle.unit_model.specs.Proper.{IsAt}
use Rattle.unit_model.specs.declared.jobs.UplinkJob.{UplinkJob}
use Rattle.uplink_model.specs.Frames.{uplink_fragment_bytes as answer_bytes, uplink_fragment_field as answer_field, uplink_message_bytes as answer_message}
use Rattle.uplink_model.specs.Messages.{job_fields, uplink_messages_of}
use Rattle.window_config.specs.declared.config.Config.{Config}
use Rattle.window_config.specs.declared.endpoints.EndpointConfig.{EndpointConfig}
use Rattle.plan_model.proofs.SizeLemmas.{few_pieces}
use Rattle.document_traffic.proofs.ShortLemmas.{short_cut}
use Rattle.document_traffic.proofs.MeasuredAnswerLemmas.{messages_short}
use Rattle.document_traffic.specs.Measured.{delay_messages, delays_of, read_as}
use Rattle.ecpri_frames.specs.declared.heads.TheConstants.{ONE_WAY_DELAY}
use Rattle.fh_base.specs.Members.{IsIn}
use Rattle.fh_base.proofs.MemberLemmas.{all_of}
use Rattle.fh_base.proofs.MadeLists.{at_in, in_all, of_map}

-- ---- a frame of another type

no_delays : (kind id : ℕ) (seq : SeqField) (application : List ℕ) → (kind == ONE_WAY_DELAY) ≡ false → IsTransport kind id seq (4 + length application) → delay_messages (frame_of kind id seq application) ≡ []
no_delays kind id seq application other t =
    let frame = frame_of kind id seq application in
    let one = frame_is_one kind id seq application t in
    ap (λ (ms : List FrameMessage). flat_map delays_of ms) (one_whole kind id seq application frame one)
    ∙ ap (λ (b : Bool). (if b then option_to_list (read_as one.payload) else []) ++ []) other

module _ (d : Document) (is : IsDocument d) (valid : IsValid d.config d.plan) (widths : HasWidths d) where
  abbrev c : Config
  c = d.config

  id_fits : (ep : ℕ) (e : EndpointConfig) → IsAt d.config.endpoints ep e → e.id < 2 ^ 16
  id_fits ep e at = in_all (λ (f : EndpointConfig). f.id < 2 ^ 16) e d.config.endpoints widths.ids (at_in ep e d.config.endpoints at)

  -- ---- of the distributed unit

  command_plain : (f : SentFrame) → IsAt d.config.endpoints f.ep f.endpoint → delay_messages (command_bytes f) ≡ []
  command_plain f at =
      let h = command_head f.message.first.planned in
      let s = command_section f.message.first.planned in
      no_delays 2 f.endpoint.id (whole_seq (f.number % 256)) (command_of h s) refl
      (record { kind_fits = omega arith; id_fits = id_fits f.ep f.endpoint at; seq_fits = low_byte f.number; sub_fits = omega arith; size_fits = command_short h s })

  fragment_plain : (f : SentFrame) (n : Numbered Part) → IsAt d.config.endpoints f.ep f.endpoint → IsIn n (sent_messages d.config (lines_of d) DownData f.ep f.endpoint) → f.sub < frames_in d.config DownData n.message
      → delay_messages (fragment_bytes d.config (source_for d) f) ≡ []
  fragment_plain f n at there below =
      let message = message_bytes (source_for d) f.message in
      let piece = piece_at c.fragment message f.sub in
      no_delays 0 f.endpoint.id (fragment_field c f) piece refl
      (record {
        kind_fits = omega arith;
        id_fits = id_fits f.ep f.endpoint at;
        seq_fits = low_byte f.number;
        sub_fits = few_pieces c.fragment (size_of part_fields n.message) f.sub is.config.fragment_low
            (message_short c d.plan is.config (lines_fit d.plan is.plan) valid f.ep f.endpoint n at there) below;
        size_fits = in_size (length piece) c.fragment (piece_short c.fragment message f.sub) is.config.fragment_high;
      })

  sent_plain : (f : SentFrame) (w : IsOfMessage d.config (lines_of d) f) (stream : Stream) → f.stream ≡ stream → delay_messages (bytes_in stream d.config (source_for d) f) ≡ []
  sent_plain f w DownCommands same = command_plain f w.at
  sent_plain f w UpCommands same = command_plain f w.at
  sent_plain f w DownData same =
      fragment_plain f w.n w.at (subst (λ (s : Stream). IsIn w.n (sent_messages d.config (lines_of d) s f.ep f.endpoint)) same w.there)
      (subst (λ (s : Stream). f.sub < frames_in d.config s w.n.message) same w.below)
  sent_plain f w UpData same = absurd (subst IsSentStream same w.is_sent)

  down_plain : (f : Leaving) → IsIn f (leaving_down d) → delay_messages f.frame ≡ []
  down_plain f m =
      let w = of_map (leaving_of d) f (sent_for d) m in
      subst (λ (g : Leaving). delay_messages g.frame ≡ []) (sym w.2) (sent_plain w.0 (sent_is d.config (lines_of d) w.0 w.1) w.0.stream refl)

  -- ---- of the radio unit

  answer_plain : (e : EndpointConfig) (m : Message UplinkJob) (number sub : ℕ) → e.id < 2 ^ 16 → sub < 128 → delay_messages (answer_bytes d.config (antenna_for d) e m number sub) ≡ []
  answer_plain e m number sub id below =
      let bytes = answer_message (antenna_for d) e m in
      let size = size_of (job_fields c.endpoints) m in
      let from = sub * c.fragment in
      let to = min (from + c.fragment) size in
      let piece = cut from to bytes in
      no_delays 0 e.id (answer_field c m number sub) piece refl
      (record {
        kind_fits = omega arith;
        id_fits = id;
        seq_fits = low_byte number;
        sub_fits = below;
        size_fits = in_size (length piece) c.fragment (short_cut (length piece) from c.fragment size (length bytes) (length_cut from to bytes)) is.config.fragment_high;
      })

  handed_plain : (f : LinkFrame) → IsHanded d.config (antenna_for d) (uplink_messages_of d.config (jobs_for d)) f → delay_messages f.frame ≡ []
  handed_plain f p =
      let short = messages_short d.config is.config.endpoints.each last_start (jobs_for d) (jobs_proper d is valid) p.message p.there in
      subst (λ (g : LinkFrame). delay_messages g.frame ≡ []) (sym p.is)
      (answer_plain p.endpoint p.message p.number p.sub (id_fits p.message.first.ep p.endpoint p.at)
      (few_pieces c.fragment (size_of (job_fields c.endpoints) p.message) p.sub is.config.fragment_low short p.below))

  up_plain : (f : Leaving) → IsIn f (leaving_up d) → delay_messages f.frame ≡ []
  up_plain f m =
      let w = sent_is_handed d is valid f m in
      subst (λ (g : Leaving). delay_messages g.frame ≡ []) (sym w.2) (handed_plain w.0 (handed_is d.config (antenna_for d) [] (uplink_messages_of d.config (jobs_for d)) w.0 w.1))

  -- ---- of both

  leaving_plain : (side : Side) (f : Leaving) → IsIn f (leaving_to side d) → delay_messages f.frame ≡ []
  leaving_plain Ru = down_plain
  leaving_plain Du = up_plain

  pub delayed_plain : (side : Side) → All (λ (x : Delayed). delay_messages x.frame.frame ≡ []) (all_delayed side d)
  delayed_plain side =
      all_of (λ (x : Delayed). delay_messages x.frame.frame ≡ []) (all_delayed side d)
      (λ x m. leaving_plain side x.frame (delayed_is d side none_sent (leaving_to side d) x m).there)
