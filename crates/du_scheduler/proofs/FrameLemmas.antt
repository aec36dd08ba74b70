-- What is known of a frame that is sent for a valid plan, for its bytes to be written.
use Rattle.std.proofs.Common.{true, false, ◌≡◌, ℕ, ◌+◌, ◌≤◌, ◌<◌, ◌==◌, ◌%◌, ◌*◌, min, inl, inr, List, [], ◌∷◌, get_or, length, map, Some, refl, ap, ap₂, sym, ◌∙◌, subst, arith}
use Rattle.std.specs.Prelude.{All}
use Rattle.std.specs.List.{slice_get, slice_index_or}
use Rattle.std.specs.Option.{option_map_or}
use Rattle.std.proofs.lemmas.Option.{slice_get-get_or}
use Rattle.fh_base.proofs.Order.{symbols_few}
use Rattle.fh_base.specs.Numbering.{symbols_of}
use Rattle.fh_base.specs.declared.values.Slot.{Slot}
use Rattle.air_source.specs.Answers.{block_of}
use Rattle.air_source.specs.declared.places.RePlace.{RePlace}
use Rattle.bfp_codec.specs.declared.samples.Wide.{Wide}
use Rattle.window_config.specs.Configs.{IsConfig}
use Rattle.window_config.specs.Plans.{IsPlanLine}
use Rattle.window_config.specs.declared.config.Config.{Config}
use Rattle.window_config.specs.declared.endpoints.EndpointConfig.{EndpointConfig}
use Rattle.window_config.specs.declared.plan.PlanLine.{PlanLine}
use Rattle.unit_model.specs.Proper.{IsAt}
use Rattle.plan_model.specs.Lines.{planned}
use Rattle.plan_model.specs.Packs.{Message, Numbered, packs, parts_of, size_of}
use Rattle.plan_model.specs.Sent.{SentFrame, sent}
use Rattle.plan_model.specs.Streams.{Part, frames_in, messages_of, part_fields, parts_in}
use Rattle.plan_model.specs.Valid.{IsValid}
use Rattle.plan_model.specs.declared.lines.PlannedLine.{PlannedLine}
use Rattle.plan_model.specs.declared.streams.Stream.{Stream}
use Rattle.plan_model.specs.declared.streams.Stream.TheVariants.{DownCommands, UpCommands, DownData, UpData}
use Rattle.frame_bytes.specs.Messages.{MessageFits, message_size}
use Rattle.plan_model.proofs.SchedulePackLemmas.{message_from, all_few}
use Rattle.plan_model.proofs.SentLemmas.{IsSentStream, message_part, part_is, sent_is}
use Rattle.frame_bytes.specs.Cuts.{piece_frame}
use Rattle.sent_frames.specs.Frames.{bytes_in, command_bytes, fragment_bytes, sent_bytes}
use Rattle.sent_frames.specs.Commands.{command_head, command_section}
use Rattle.frame_bytes.specs.Commands.{command_frame}
use Rattle.window_config.specs.Endpoints.{IsEndpoint}
use Rattle.du_scheduler.specs.declared.turns.Turn.{Turn}
use Rattle.du_scheduler.specs.Turns.{is_command}
use Rattle.du_scheduler.specs.Frames.{IsFrameOf}
use Rattle.du_scheduler.proofs.PartLemmas.{first_within, is_read, no_place}
use Rattle.sent_frames.specs.Messages.{Source, data_head, data_section, message_bytes, message_samples}
use Rattle.sent_frames.specs.Sources.{AreAnswersIn, data_frame, id_at, source_of}
use Rattle.sent_frames.proofs.MessageFacts.{IsGoodMessage, IsGoodPart, good_message, good_part, message_fits, message_short, message_size_is}
use Rattle.du_scheduler.specs.Kept.{placed_line}
use Rattle.du_scheduler.specs.declared.kept.PlacedLine.{PlacedLine}
use Rattle.du_scheduler.specs.Written.{IsData, StandIn, StandsAt, message_sections}
use Rattle.schedule_laws.proofs.PlannedLemmas.{line_place}
use Rattle.window_config.specs.declared.config.TheConstants.{MESSAGE_SECTIONS}
use Rattle.fh_base.specs.declared.symbols.TheConstants.{SLOT_SYMBOLS}
use Rattle.frame_bytes.specs.Headers.{carrier_of}
use Rattle.unit_model.specs.Terms.{piece_count}
use Rattle.fh_base.specs.Members.{IsIn}
use Rattle.fh_base.proofs.MadeLists.{at_in}

stand_in : (ps : List PlannedLine) (xs : List Part) → ((x : Part) → IsIn x xs → slice_get ps x.planned.index ≡ Some x.planned) → StandIn ps xs
stand_in ps [] h = tt
stand_in ps (x ∷ xs) h = (h x (inl refl), stand_in ps xs (λ y i. h y (inr i)))

few_parts : (n k : ℕ) → n ≤ k → k ≤ MESSAGE_SECTIONS → n ≤ MESSAGE_SECTIONS
few_parts n k h l = omega (arith, h, l)

below_all : (a b : ℕ) → a < b → b ≤ SLOT_SYMBOLS → a < SLOT_SYMBOLS
below_all a b h l = omega (arith, h, l)

module _ (c : Config) (lines : List PlanLine) (config : IsConfig c) (fit : All IsPlanLine lines) (valid : IsValid c lines) where
  abbrev ps : List PlannedLine
  ps = planned c.endpoints lines

  -- the parts of a frame's message are in the lines
  pub frame_stands : (f : SentFrame) (parts : List PlacedLine) → IsIn f (sent c ps) → parts ≡ map placed_line (parts_of f.message) → StandsAt ps parts (parts_of f.message)
  frame_stands f parts there are =
      let w = sent_is c ps f there in
      let same : f.message ≡ w.n.message = ap (λ (g : SentFrame). g.message) w.is in
      record {
        are = are;
        stand = subst (λ (m : Message Part). StandIn ps (parts_of m)) (sym same)
            (stand_in ps (parts_of w.n.message) (λ x i.
            line_place c lines valid x.planned (part_is ps f.stream w.is_sent f.ep f.endpoint x (message_part c ps f.stream f.ep f.endpoint w.n x w.there i)).from));
      }

  is_of : (ep : ℕ) (e : EndpointConfig) (n : Numbered Part) → IsIn n (messages_of c ps DownData ep e) → IsIn n.message (packs part_fields c.pack (parts_in ps DownData ep e))
  unfolding messages_of
  is_of ep e n m = message_from part_fields (frames_in c DownData) (packs part_fields c.pack (parts_in ps DownData ep e)) n m

  -- a data message can be written
  message_data : (ep : ℕ) (e : EndpointConfig) (n : Numbered Part) (parts : List PlacedLine) → IsAt c.endpoints ep e → IsIn n (messages_of c ps DownData ep e)
      → StandsAt ps parts (parts_of n.message) → IsData ps parts n.message
  message_data ep e n parts at m stands =
      let g = good_message c lines config fit valid ep e n at m in
      let short = message_short c lines config fit valid ep e n at m in
      let one = g.each n.message.first (inl refl) in
      record {
        at = stands;
        few = few_parts (length (parts_of n.message)) c.pack (all_few part_fields c.pack (parts_in ps DownData ep e) n.message config.pack_low (is_of ep e n m)) config.pack_high;
        symbol = below_all n.message.first.symbol (symbols_of e.numerology) one.symbol (symbols_few e.numerology).1;
        prbs = one.line.endpoint.most;
        fits = subst (λ (d : EndpointConfig). MessageFits (carrier_of d) (data_head n.message.first) (message_sections n.message)) (sym one.endpoint_is) (message_fits c ep e n.message g short);
      }

  -- the samples of each of its sections are the answers in its symbol
  samples_in : (answer : RePlace → Wide) (ep : ℕ) (e : EndpointConfig) (m : Message Part) → IsGoodMessage c ep e m
      → AreAnswersIn m.first.planned m.first.symbol (length (parts_of m)) answer (message_samples (source_of c.endpoints answer) m)
  samples_in answer ep e m g place prb at lt =
      let x = slice_index_or (parts_of m) place m.first in
      let i = at_in place x (parts_of m) (slice_get-get_or (parts_of m) place m.first at) in
      let p = g.each x i in
      let one = g.each m.first (inl refl) in
      let first = m.first.planned in
      let id : id_at c.endpoints x.planned.ep ≡ first.endpoint.id =
      ap (λ o. option_map_or (λ (d : EndpointConfig). d.id) o 0) p.line.at ∙ ap (λ (d : EndpointConfig). d.id) (p.endpoint_is ∙ sym one.endpoint_is) in
      ap (λ k. block_of answer k x.planned.line.slot x.symbol prb) id
      ∙ ap (λ (s : Slot). block_of answer first.endpoint.id s x.symbol prb) (sym (g.slot x i))
      ∙ ap (λ y. block_of answer first.endpoint.id first.line.slot y prb) (sym (g.symbol x i))

  size_here : (ep : ℕ) (e : EndpointConfig) (m : Message Part) → IsGoodMessage c ep e m → message_size (carrier_of m.first.planned.endpoint) (message_sections m) ≡ size_of part_fields m
  size_here ep e m g = ap (λ (d : EndpointConfig). message_size (carrier_of d) (message_sections m)) (g.each m.first (inl refl)).endpoint_is ∙ message_size_is c ep e m g

  -- what is written is the definition's fragment
  fragment_is : (source : Source) (f : SentFrame) → IsGoodMessage c f.ep f.endpoint f.message → f.stream ≡ DownData
      → data_frame f.message.first.planned f.message.first.symbol (message_sections f.message) (record { seq = f.number % 256; sub = f.sub; size = c.fragment }) (message_samples source f.message) ≡ fragment_bytes c source f
  fragment_is source f g is_data =
      let m = f.message in
      let message = message_bytes source m in
      let frames : piece_count c.fragment (message_size (carrier_of m.first.planned.endpoint) (message_sections m)) ≡ frames_in c f.stream m =
      ap (piece_count c.fragment) (size_here f.ep f.endpoint m g) ∙ ap (λ (s : Stream). frames_in c s m) (sym is_data) in
      ap₂ (λ (id : ℕ) (n : ℕ). piece_frame id (record { seq = f.number % 256; last = f.sub + 1 == n; sub = f.sub }) (f.sub * c.fragment) (min (f.sub * c.fragment + c.fragment) (length message)) message)
      (ap (λ (d : EndpointConfig). d.id) (g.each m.first (inl refl)).endpoint_is) frames

  -- the first line of its message
  pub frame_part : (f : SentFrame) → IsIn f (sent c ps) → IsGoodPart c f.ep f.endpoint f.message.first
  frame_part f there =
      let w = sent_is c ps f there in
      subst (λ (m : Message Part). IsGoodPart c f.ep f.endpoint m.first) (sym (ap (λ (g : SentFrame). g.message) w.is))
      (good_part c lines config fit valid f.stream w.is_sent f.ep f.endpoint w.n w.n.message.first w.at w.there (inl refl))

  -- what is known of a frame of data
  pub record IsDataFrame (f : SentFrame) (parts : List PlacedLine) : Type 0 where
    pub good : IsGoodMessage c f.ep f.endpoint f.message
    pub writable : IsData ps parts f.message
    pub few : f.sub < piece_count c.fragment (message_size (carrier_of f.message.first.planned.endpoint) (message_sections f.message))
    pub stream : f.stream ≡ DownData

  pub frame_data : (f : SentFrame) (parts : List PlacedLine) → IsIn f (sent c ps) → parts ≡ map placed_line (parts_of f.message) → f.stream ≡ DownData → IsDataFrame f parts
  frame_data f parts there are is_data =
      let w = sent_is c ps f there in
      let same : f.message ≡ w.n.message = ap (λ (g : SentFrame). g.message) w.is in
      let m = subst (λ (t : Stream). IsIn w.n (messages_of c ps t f.ep f.endpoint)) is_data w.there in
      let good = subst (λ (x : Message Part). IsGoodMessage c f.ep f.endpoint x) (sym same) (good_message c lines config fit valid f.ep f.endpoint w.n w.at m) in
      let stands = frame_stands f parts there are in
      let below = subst (λ (x : Message Part). f.sub < frames_in c f.stream x) (sym same) w.below in
      let frames = ap (λ (s : Stream). frames_in c s f.message) is_data ∙ sym (ap (piece_count c.fragment) (size_here f.ep f.endpoint f.message good)) in
      record {
        good = good;
        writable = subst (λ (x : Message Part). IsData ps parts x) (sym same)
            (message_data f.ep f.endpoint w.n parts w.at m (subst (λ (x : Message Part). StandsAt ps parts (parts_of x)) same stands));
        few = subst (λ k. f.sub < k) frames below;
        stream = is_data;
      }

-- ---- as it is written

low_bytes : (s : Stream) (c : Config) (source : Source) (f : SentFrame) → f.stream ≡ s → is_command s ≡ true → command_bytes f ≡ sent_bytes c source f
low_bytes DownCommands c source f e h = sym (ap (λ (s : Stream). bytes_in s c source f) e)
low_bytes UpCommands c source f e h = sym (ap (λ (s : Stream). bytes_in s c source f) e)
low_bytes DownData c source f e h = cc
low_bytes UpData c source f e h = cc

pub data_stream : (s : Stream) → IsSentStream s → is_command s ≡ false → s ≡ DownData
data_stream DownCommands t h = cc
data_stream UpCommands t h = cc
data_stream DownData t h = refl
data_stream UpData t h = absurd t

module _ (c : Config) (plan : List PlanLine) (f : SentFrame) (lines : List PlannedLine) (parts : List PlacedLine) (turn : Turn) (fragment : ℕ) (h : IsFrameOf c plan f lines parts turn fragment) where
  stands : StandsAt lines parts (parts_of f.message)
  stands = subst (λ (ls : List PlannedLine). StandsAt ls parts (parts_of f.message)) (sym h.lines_are) (frame_stands c plan h.config h.fit h.valid f parts h.there h.parts_are)

  pub within : (get_or parts 0 no_place).line < length lines
  within = first_within lines parts f.message stands

  pub line_is : (p : PlannedLine) → p ≡ get_or lines (get_or parts 0 no_place).line p → p ≡ f.message.first.planned
  line_is p got = (is_read lines parts f.message p (map data_section (parts_of f.message)) stands got refl).line

  pub line_good : (p : PlannedLine) → p ≡ get_or lines (get_or parts 0 no_place).line p → IsPlanLine p.line × IsEndpoint p.endpoint
  line_good p got =
      let g = (frame_part c plan h.config h.fit h.valid f h.there).line in
      let is = line_is p got in
      (subst (λ (q : PlannedLine). IsPlanLine q.line) (sym is) g.fits, subst (λ (q : PlannedLine). IsEndpoint q.endpoint) (sym is) g.endpoint)

  pub command_is : (source : Source) (p : PlannedLine) (frame : List ℕ) → p ≡ get_or lines (get_or parts 0 no_place).line p → is_command turn.stream ≡ true
      → frame ≡ command_frame p.endpoint.id (turn.number % 256) (command_head p) (command_section p) → frame ≡ sent_bytes c source f
  command_is source p frame got low is =
      let part = frame_part c plan h.config h.fit h.valid f h.there in
      let number : turn.number ≡ f.number = ap (λ (t : Turn). t.number) h.turn_is in
      is ∙ ap (λ (q : PlannedLine). command_frame q.endpoint.id (turn.number % 256) (command_head q) (command_section q)) (line_is p got)
      ∙ ap₂ (λ (id n : ℕ). command_frame id (n % 256) (command_head f.message.first.planned) (command_section f.message.first.planned)) (ap (λ (d : EndpointConfig). d.id) part.endpoint_is) number
      ∙ low_bytes f.stream c source f refl (sym (ap (λ (t : Turn). is_command t.stream) h.turn_is) ∙ low)

  is_data : is_command turn.stream ≡ false → IsDataFrame c plan h.config h.fit h.valid f parts
  is_data high =
      frame_data c plan h.config h.fit h.valid f parts h.there h.parts_are
      (data_stream f.stream (sent_is c (planned c.endpoints plan) f h.there).is_sent (sym (ap (λ (t : Turn). is_command t.stream) h.turn_is) ∙ high))

  pub data_here : is_command turn.stream ≡ false → IsData lines parts f.message
  data_here high = subst (λ (ls : List PlannedLine). IsData ls parts f.message) (sym h.lines_are) (is_data high).writable

  pub few_here : is_command turn.stream ≡ false → turn.sub < piece_count fragment (message_size (carrier_of f.message.first.planned.endpoint) (message_sections f.message))
  few_here high =
      subst (λ k. turn.sub < piece_count k (message_size (carrier_of f.message.first.planned.endpoint) (message_sections f.message))) (sym h.fragment_is)
      (subst (λ k. k < piece_count c.fragment (message_size (carrier_of f.message.first.planned.endpoint) (message_sections f.message))) (sym (ap (λ (t : Turn). t.sub) h.turn_is)) (is_data high).few)

  pub data_is : (answer : RePlace → Wide) (frame : List ℕ) → is_command turn.stream ≡ false
      → (AreAnswersIn f.message.first.planned f.message.first.symbol (length (parts_of f.message)) answer (message_samples (source_of c.endpoints answer) f.message)
      → frame ≡ data_frame f.message.first.planned f.message.first.symbol (message_sections f.message) (record { seq = turn.number % 256; sub = turn.sub; size = fragment }) (message_samples (source_of c.endpoints answer) f.message))
      → frame ≡ sent_bytes c (source_of c.endpoints answer) f
  data_is answer frame high written =
      let d = is_data high in
      let m = f.message in
      let source = source_of c.endpoints answer in
      let blocks = message_samples source m in
      written (samples_in c plan h.config h.fit h.valid answer f.ep f.endpoint m d.good)
      ∙ ap (λ (t : Turn). data_frame m.first.planned m.first.symbol (message_sections m) (record { seq = t.number % 256; sub = t.sub; size = fragment }) blocks) h.turn_is
      ∙ ap (λ k. data_frame m.first.planned m.first.symbol (message_sections m) (record { seq = f.number % 256; sub = f.sub; size = k }) blocks) h.fragment_is
      ∙ fragment_is c plan h.config h.fit h.valid source f d.good d.stream
      ∙ sym (ap (λ (s : Stream). bytes_in s c source f) d.stream)
