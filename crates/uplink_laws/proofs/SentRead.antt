-- What the frames of a sendable plan are read as.
use Rattle.std.proofs.Common.{◌≡◌, ℕ, ℤ, ◌+◌, ◌%◌, ◌<◌, ◌≤◌, ◌^◌, ◌==◌, inl, Bool, true, false, if◌then◌else◌, List, [], ◌∷◌, length, Option, refl, ap, sym, ◌∙◌, subst, arith, length-append}
use Rattle.std.specs.List.{slice_get}
use Rattle.std.specs.Option.{option_map_or}
use Rattle.std.proofs.lemmas.Nat.{mod_below}
use Rattle.fh_base.specs.Numbering.{shape_of}
use Rattle.air_source.specs.declared.events.Side.TheVariants.{Ru}
use Rattle.cplane_sections.specs.Header.{kind_of, size_of_head}
use Rattle.cplane_sections.specs.Section.{size_of_section}
use Rattle.cplane_sections.specs.Writes.{IsReadAs}
use Rattle.cplane_sections.specs.declared.values.CHead.{CHead}
use Rattle.cplane_sections.specs.declared.values.CSection.{CSection}
use Rattle.ecpri_frames.specs.Gathering.{whole_messages}
use Rattle.fragment_laws.specs.Flow.{size_to}
use Rattle.fragment_laws.specs.Once.{texts}
use Rattle.window_config.specs.declared.config.Config.{Config}
use Rattle.window_config.specs.declared.endpoints.EndpointConfig.{EndpointConfig}
use Rattle.window_config.specs.declared.plan.PlanLine.{PlanLine}
use Rattle.unit_model.specs.Commands.{is_for}
use Rattle.unit_model.specs.Decoding.{decode}
use Rattle.unit_model.specs.Meetings.{Piece, command, met_in}
use Rattle.unit_model.specs.Proper.{IsAt}
use Rattle.plan_model.specs.Lines.{planned}
use Rattle.plan_model.specs.Packs.{Message, Numbered, parts_of, size_of}
use Rattle.plan_model.specs.Sent.{SentFrame}
use Rattle.plan_model.specs.Streams.{Part, frames_in, messages_of, part_fields}
use Rattle.plan_model.specs.declared.lines.PlannedLine.{PlannedLine}
use Rattle.plan_model.specs.declared.streams.Stream.{Stream}
use Rattle.plan_model.specs.declared.streams.Stream.TheVariants.{DownCommands, UpCommands, DownData, UpData}
use Rattle.plan_model.proofs.SizeLemmas.{few_pieces}
use Rattle.frame_bytes.specs.Commands.{command_of, head_fields, section_fields}
use Rattle.frame_bytes.specs.Cuts.{piece_at}
use Rattle.frame_bytes.specs.Spelled.{in_bytes}
use Rattle.frame_bytes.proofs.CommandBack.{command_back}
use Rattle.frame_bytes.proofs.CommandFields.{head_width, section_width}
use Rattle.frame_bytes.proofs.Fields.{length-in_bytes}
use Rattle.schedule_laws.specs.Data.{IsDecoded}
use Rattle.schedule_laws.specs.Flows.{messages_at}
use Rattle.schedule_laws.specs.Least.{AreReadable, least_arrival}
use Rattle.schedule_laws.specs.Premise.{IsReadAsCommand, IsReadBy, fragment_at}
use Rattle.schedule_laws.proofs.FoundLemmas.{found}
use Rattle.plan_model.proofs.PlanLemmas.{line_of}
use Rattle.plan_model.proofs.SentLemmas.{IsOfMessage, IsSentStream, message_part, part_is, sent_is}
use Rattle.sent_frames.specs.Commands.{body_for, command_head, command_section}
use Rattle.sent_frames.specs.Frames.{bytes_in, command_bytes, fragment_bytes, fragment_field, sent_bytes}
use Rattle.uplink_laws.specs.Frames.{blocks_of, texts_of}
use Rattle.sent_frames.specs.Messages.{Source, message_bytes}
use Rattle.uplink_laws.specs.Sent.{IsSendable, SentFramesAreRead, SentMessagesSay}
use Rattle.uplink_laws.proofs.CommandRead.{command_frame_met, fragment_frame_met}
use Rattle.uplink_laws.proofs.Fragments.{fragments_joined, piece_short, size_joined}
use Rattle.uplink_laws.proofs.LineFields.{body_idle, body_is_for, frame_id_is, line_admitted, line_command}
use Rattle.uplink_laws.proofs.MessageSays.{are_sections, is_decoded, sections_read}
use Rattle.sent_frames.proofs.MessageFacts.{IsGoodPart, good_message, good_part, got_message, length_bytes, message_short}
use Rattle.ecpri_fragments.specs.Pieces.{joined, piece_count}
use Rattle.window_config.specs.declared.config.TheConstants.{MOST_FRAGMENT, LEAST_FRAGMENT}
use Rattle.fh_base.specs.Members.{IsIn}
use Rattle.fh_base.proofs.MadeLists.{at_in, in_all}

-- ---- sizes

head_short : (kind : ℕ) → size_of_head kind ≤ 12
head_short kind = go (kind == 1)
  where
    go : (b : Bool) → (let n : ℕ = if b then 8 else 12 in n) ≤ 12
    go true = omega arith
    go false = omega arith

section_short : (kind : ℕ) → size_of_section kind ≤ 12
section_short kind = go (kind == 3)
  where
    go : (b : Bool) → (let n : ℕ = if b then 12 else 8 in n) ≤ 12
    go true = omega arith
    go false = omega arith

few : (n a b m k : ℕ) → n ≡ a + b → a ≡ m → b ≡ k → m ≤ 12 → k ≤ 12 → 4 + n < 2 ^ 16
few n a b m k h p q r s = omega (arith, h, p, q, r, s)

pub command_short : (h : CHead) (s : CSection) → 4 + length (command_of h s) < 2 ^ 16
command_short h s =
    few (length (command_of h s)) (length (in_bytes (head_fields h))) (length (in_bytes (section_fields (kind_of h.body) s))) (size_of_head (kind_of h.body)) (size_of_section (kind_of h.body))
    (length-append (in_bytes (head_fields h)) (in_bytes (section_fields (kind_of h.body) s)))
    (length-in_bytes (size_of_head (kind_of h.body)) (head_fields h) (head_width h))
    (length-in_bytes (size_of_section (kind_of h.body)) (section_fields (kind_of h.body) s) (section_width (kind_of h.body) s))
    (head_short (kind_of h.body)) (section_short (kind_of h.body))

pub in_size : (n f : ℕ) → n ≤ f → f ≤ MOST_FRAGMENT → 4 + n < 2 ^ 16
in_size n f h k = omega (arith, h, k)

pub some_bytes : (f : ℕ) → LEAST_FRAGMENT ≤ f → 0 < f
some_bytes f h = omega (arith, h)

pub low_byte : (n : ℕ) → n % 256 < 2 ^ 8
low_byte n = mod_below n 256 (omega arith)

module _ (c : Config) (lines : List PlanLine) (source : Source) (s : IsSendable c lines source) where
  abbrev ps : List PlannedLine
  ps = planned c.endpoints lines

  id_fits : (ep : ℕ) (e : EndpointConfig) → IsAt c.endpoints ep e → e.id < 2 ^ 16
  id_fits ep e at = in_all (λ (f : EndpointConfig). f.id < 2 ^ 16) e c.endpoints s.ids (at_in ep e c.endpoints at)

  -- numPrb of a part of a message
  part_num : (stream : Stream) → IsSentStream stream → (ep : ℕ) (e : EndpointConfig) (n : Numbered Part) (x : Part) → IsIn n (messages_of c ps stream ep e) → IsIn x (parts_of n.message)
      → x.planned.line.num_prb < 2 ^ 8
  part_num stream is_sent ep e n x m i =
      let part = part_is ps stream is_sent ep e x (message_part c ps stream ep e n x m i) in
      in_all (λ (l : PlanLine). l.num_prb < 2 ^ 8) x.planned.line lines s.num_prbs (line_of c.endpoints 0 lines x.planned part.from).there

  -- ---- commands

  -- a line's command is read as the line's
  command_read : (ep : ℕ) (e : EndpointConfig) (x : Part) → IsGoodPart c ep e x → x.planned.line.num_prb < 2 ^ 8 → IsReadAs (shape_of e.numerology) (command_head x.planned) (command_section x.planned ∷ []) (command_of (command_head x.planned) (command_section x.planned))
  command_read ep e x g num =
      let p = x.planned in
      subst (λ (f : EndpointConfig). IsReadAs (shape_of f.numerology) (command_head p) (command_section p ∷ []) (command_of (command_head p) (command_section p))) g.endpoint_is
      (command_back (shape_of p.endpoint.numerology) (command_head p) (command_section p) (line_command c.endpoints p g.line num) (line_admitted c.endpoints p g.line))

  command_case : (f : SentFrame) (at : ℤ) → IsAt c.endpoints f.ep f.endpoint → IsGoodPart c f.ep f.endpoint f.message.first → f.message.first.planned.line.num_prb < 2 ^ 8
      → IsReadAsCommand f (least_arrival (sent_bytes c source) f at) (met_in Ru c.endpoints at (whole_messages (command_bytes f)))
  command_case f at here g num =
      let p = f.message.first.planned in
      let h = command_head p in
      let section = command_section p in
      record {
        command = command f.ep f.endpoint at h section;
        is = command_frame_met c.endpoints f.ep f.endpoint at (f.number % 256) (command_of h section) h section
            (found c.endpoints f.ep f.endpoint s.config.endpoints.differ here)
            (record { kind_fits = omega arith; id_fits = id_fits f.ep f.endpoint here; seq_fits = low_byte f.number; sub_fits = omega arith; size_fits = command_short h section })
            (command_read f.ep f.endpoint f.message.first g num);
        at = refl;
        for_line = record {
          ep = sym g.ep_is;
          endpoint = sym g.endpoint_is;
          fits = ap (λ (e : EndpointConfig). is_for (body_for p.line.kind p.endpoint) e.numerology) (sym g.endpoint_is) ∙ body_is_for p.line.kind p.endpoint;
          idle = body_idle p.line.kind p.endpoint;
          down = refl;
          filter = refl;
          frame_id = frame_id_is p.line.slot.frame;
          subframe = refl;
          slot = refl;
          start_symbol = refl;
          symbol = refl;
          num_symbol = refl;
          start_prb = refl;
          num_prb = refl;
          mask = refl;
          id = refl;
        };
      }

  -- ---- fragments

  fragment_case : (f : SentFrame) (at : ℤ) (n : Numbered Part) → f.stream ≡ DownData → IsAt c.endpoints f.ep f.endpoint → IsIn n (messages_of c ps DownData f.ep f.endpoint)
      → f.message ≡ n.message → f.number ≡ n.number → f.sub < frames_in c DownData n.message
      → met_in Ru c.endpoints at (whole_messages (fragment_bytes c source f)) ≡ Piece f.endpoint (fragment_at c (texts_of c ps source) f at) ∷ []
  fragment_case f at n is_data here there message number below =
      let piece = piece_at c.fragment (message_bytes source f.message) f.sub in
      let met = fragment_frame_met c.endpoints f.ep f.endpoint at (fragment_field c f) piece
      (found c.endpoints f.ep f.endpoint s.config.endpoints.differ here)
      (record {
        kind_fits = omega arith;
        id_fits = id_fits f.ep f.endpoint here;
        seq_fits = low_byte f.number;
        sub_fits = few_pieces c.fragment (size_of part_fields n.message) f.sub s.config.fragment_low (message_short c lines s.config s.lines_fit s.valid f.ep f.endpoint n here there) below;
        size_fits = in_size (length piece) c.fragment (piece_short c.fragment (message_bytes source f.message) f.sub) s.config.fragment_high;
      }) in
      let same : piece ≡ texts_of c ps source f.ep f.number f.sub =
      ap (λ (m : Message Part). piece_at c.fragment (message_bytes source m) f.sub) message
      ∙ ap (λ (o : Option (Numbered Part)). option_map_or (λ k. piece_at c.fragment (message_bytes source k.message) f.sub) o [])
      (sym (ap (λ j. slice_get (messages_at c ps f.ep) j) number ∙ got_message c lines s.config s.lines_fit s.valid f.ep f.endpoint n here there)) in
      met ∙ ap (λ (bytes : List ℕ). Piece f.endpoint (record { ep = f.ep; seq = f.number % 256; at = at; last = (fragment_field c f).last; sub = f.sub; bytes = bytes }) ∷ []) same

  -- ---- all frames

  first_good : (f : SentFrame) → IsOfMessage c ps f → IsGoodPart c f.ep f.endpoint f.message.first
  first_good f w =
      subst (λ (m : Message Part). IsGoodPart c f.ep f.endpoint m.first) (sym (ap (λ (g : SentFrame). g.message) w.is))
      (good_part c lines s.config s.lines_fit s.valid f.stream w.is_sent f.ep f.endpoint w.n w.n.message.first w.at w.there (inl refl))

  first_num : (f : SentFrame) → IsOfMessage c ps f → f.message.first.planned.line.num_prb < 2 ^ 8
  first_num f w =
      subst (λ (m : Message Part). m.first.planned.line.num_prb < 2 ^ 8) (sym (ap (λ (g : SentFrame). g.message) w.is))
      (part_num f.stream w.is_sent f.ep f.endpoint w.n w.n.message.first w.there (inl refl))

  read_by : (f : SentFrame) (at : ℤ) (w : IsOfMessage c ps f) (stream : Stream) → f.stream ≡ stream
      → IsReadBy stream c (texts_of c ps source) f (least_arrival (sent_bytes c source) f at) (met_in Ru c.endpoints at (whole_messages (bytes_in stream c source f)))
  read_by f at w DownCommands is = command_case f at w.at (first_good f w) (first_num f w)
  read_by f at w UpCommands is = command_case f at w.at (first_good f w) (first_num f w)
  read_by f at w DownData is =
      fragment_case f at w.n is w.at (subst (λ (t : Stream). IsIn w.n (messages_of c ps t f.ep f.endpoint)) is w.there)
      (ap (λ (g : SentFrame). g.message) w.is) (ap (λ (g : SentFrame). g.number) w.is) (subst (λ (t : Stream). f.sub < frames_in c t w.n.message) is w.below)
  read_by f at w UpData is = absurd (subst IsSentStream is w.is_sent)

  pub are_read : AreReadable c (planned c.endpoints lines) (texts_of c (planned c.endpoints lines) source) (sent_bytes c source)
  are_read f m at = read_by f at (sent_is c ps f m) f.stream refl

  -- ---- whole messages

  abbrev bytes_of : Numbered Part → List ℕ
  bytes_of n = message_bytes source n.message

  as_pieces : (ep : ℕ) (e : EndpointConfig) (n : Numbered Part) → IsAt c.endpoints ep e → IsIn n (messages_of c ps DownData ep e)
      → texts (texts_of c ps source ep n.number) (frames_in c DownData n.message) ≡ texts (piece_at c.fragment (bytes_of n)) (piece_count c.fragment (length (bytes_of n)))
  as_pieces ep e n at m =
      ap (λ (o : Option (Numbered Part)). texts (λ sub. option_map_or (λ k. piece_at c.fragment (message_bytes source k.message) sub) o []) (frames_in c DownData n.message)) (got_message c lines s.config s.lines_fit s.valid ep e n at m)
      ∙ ap (λ size. texts (piece_at c.fragment (bytes_of n)) (piece_count c.fragment size)) (sym (length_bytes c ep e source n.message (good_message c lines s.config s.lines_fit s.valid ep e n at m)))

  all_joined : (ep : ℕ) (e : EndpointConfig) (n : Numbered Part) → IsAt c.endpoints ep e → IsIn n (messages_of c ps DownData ep e)
      → joined (texts (texts_of c ps source ep n.number) (frames_in c DownData n.message)) ≡ bytes_of n
  all_joined ep e n at m = ap joined (as_pieces ep e n at m) ∙ fragments_joined c.fragment (bytes_of n) (some_bytes c.fragment s.config.fragment_low)

  pub size_is : (ep : ℕ) (e : EndpointConfig) (n : Numbered Part) → IsAt c.endpoints ep e → IsIn n (messages_of c ps DownData ep e)
      → size_to (texts_of c ps source ep n.number) (frames_in c DownData n.message) ≡ size_of part_fields n.message
  size_is ep e n at m =
      size_joined (texts_of c ps source ep n.number) (frames_in c DownData n.message)
      ∙ ap length (all_joined ep e n at m)
      ∙ length_bytes c ep e source n.message (good_message c lines s.config s.lines_fit s.valid ep e n at m)

  pub decoded_is : (ep : ℕ) (e : EndpointConfig) (n : Numbered Part) (first last : ℤ) → IsAt c.endpoints ep e → IsIn n (messages_of c ps DownData ep e)
      → IsDecoded c (texts_of c (planned c.endpoints lines) source) (blocks_of c source) ep e n first last
  decoded_is ep e n first last at m =
      let good = good_message c lines s.config s.lines_fit s.valid ep e n at m in
      let nums = λ (x : Part) (i : IsIn x (parts_of n.message)). part_num DownData tt ep e n x m i in
      let short = message_short c lines s.config s.lines_fit s.valid ep e n at m in
      let can = s.can ep e at in
      record {
        sections = sections_read c ep e source n.message good nums short can first last;
        is = ap (decode Ru ep e first last) (all_joined ep e n at m) ∙ is_decoded c ep e source n.message good nums short can first last;
        are = are_sections c ep e source n.message good nums short can first last;
      }

pub frames_are_read : SentFramesAreRead
frames_are_read c lines source s = are_read c lines source s

pub messages_say : SentMessagesSay
messages_say c lines source s = record { size = size_is c lines source s; decoded = decoded_is c lines source s }
