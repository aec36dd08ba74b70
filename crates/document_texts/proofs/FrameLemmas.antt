-- What is known of a frame that is sent for a document.
use Rattle.std.proofs.Common.{◌≡◌, ℕ, zero, suc, ◌+◌, ◌-◌, ◌*◌, ◌/◌, ◌%◌, ◌<◌, ◌≤◌, min, inl, inr, List, [], ◌∷◌, get_or, length, map, Option, Some, None, refl, ap, ap₂, sym, ◌∙◌, subst, arith, true, false}
use Rattle.std.specs.List.{slice_get}
use Rattle.std.specs.Option.{option_to_list}
use Rattle.std.specs.Prelude.{All, slice_index}
use Rattle.std.proofs.lemmas.Option.{get_or_from_slice_get, same_Some, slice_get_within}
use Rattle.std.proofs.Math.Nat.{div-mul-le_self, mul-le-mul_right}
use Rattle.ecpri_fragments.specs.Pieces.{piece_count}
use Rattle.ecpri_fragments.specs.declared.place.TheConstants.{MESSAGE_BYTES}
use Rattle.ecpri_fragments.specs.declared.sequence.SeqField.{SeqField}
use Rattle.unit_model.specs.Meetings.{find_endpoint}
use Rattle.unit_model.specs.Proper.{IsAt}
use Rattle.window_config.specs.Plans.{IsPlanLine}
use Rattle.window_config.specs.declared.config.Config.{Config}
use Rattle.window_config.specs.declared.endpoints.EndpointConfig.{EndpointConfig}
use Rattle.window_config.specs.declared.plan.PlanLine.{PlanLine}
use Rattle.fh_document.specs.declared.document.Document.{Document}
use Rattle.plan_model.specs.Lines.{planned, planned_at, planned_from, planned_with}
use Rattle.plan_model.specs.Packs.{Message, parts_of, size_of}
use Rattle.plan_model.specs.Sent.{SentFrame}
use Rattle.plan_model.specs.Streams.{Part, frames_in, messages_of, part_fields}
use Rattle.plan_model.specs.declared.lines.PlannedLine.{PlannedLine}
use Rattle.plan_model.specs.declared.streams.Stream.{Stream}
use Rattle.plan_model.specs.declared.streams.Stream.TheVariants.{DownCommands, UpCommands, DownData, UpData}
use Rattle.plan_model.proofs.SentLemmas.{IsOfMessage, IsSentStream, message_part, part_is, sent_is}
use Rattle.du_scheduler.specs.Kept.{placed_line}
use Rattle.du_scheduler.specs.declared.kept.PlacedLine.{PlacedLine}
use Rattle.frame_bytes.specs.Commands.{command_frame}
use Rattle.frame_bytes.specs.Cuts.{cut, piece_frame}
use Rattle.frame_bytes.proofs.CutBytes.{length_cut}
use Rattle.sent_frames.specs.Commands.{command_head, command_section}
use Rattle.sent_frames.specs.Frames.{bytes_in, command_bytes, fragment_field}
use Rattle.sent_frames.specs.Messages.{Source, message_bytes}
use Rattle.sent_frames.proofs.MessageFacts.{IsGoodMessage, IsGoodPart, good_message, good_part, length_bytes, message_short}
use Rattle.du_scheduler.specs.declared.turns.Turn.{Turn}
use Rattle.du_scheduler.specs.Turns.{is_command}
use Rattle.du_scheduler.specs.Runs.{turn_of}
use Rattle.document_traffic.specs.Sending.{class_of, lines_of, source_for}
use Rattle.document_traffic.proofs.LineLemmas.{lines_fit}
use Rattle.fh_document.specs.declared.delivered.TrafficClass.{TrafficClass}
use Rattle.document_texts.specs.Frames.{IsPlaced, IsTurnFor, turn_field}
use Rattle.fh_base.specs.declared.values.Ticks.{Ticks}
use Rattle.document_texts.specs.declared.lines.FrameLine.{FrameLine}
use Rattle.document_texts.specs.Rows.{frame_for, line_for}
use Rattle.fh_base.specs.Members.{IsIn}
use Rattle.fh_base.proofs.MemberLemmas.{in_either, the_one}
use Rattle.document_traffic.proofs.ShortLemmas.{length_frame as length_transport}
use Rattle.du_scheduler.proofs.FrameLemmas.{data_stream}

-- ---- a line at its place

record IsLineAt (lines : List PlanLine) (k : ℕ) (p : PlannedLine) : Type 0 where
  i : ℕ
  index : p.index ≡ k + i
  at : slice_get lines i ≡ Some p.line

line_from : (es : List EndpointConfig) (k : ℕ) (lines : List PlanLine) (p : PlannedLine) → IsIn p (planned_from es k lines) → IsLineAt lines k p
unfolding planned_from
line_from es k [] p m = absurd m
line_from es k (line ∷ lines) p m = elim (in_either p (option_to_list (planned_at es k line)) (planned_from es (k + 1) lines) m) [
  | inl here ↦ first (find_endpoint es line.id) here
  | inr there ↦
      let r = line_from es (k + 1) lines p there in
      let index = r.index in
      record { i = suc r.i; index = omega (arith, index); at = r.at }
]
  where
    first : (o : Option (ℕ × EndpointConfig)) → IsIn p (option_to_list (planned_with k line o)) → IsLineAt (line ∷ lines) k p
    first None i = absurd i
    first (Some found) i =
        let is : p ≡ record { index = k; ep = found.0; endpoint = found.1; line = line } = the_one p _ i in
        record { i = 0; index = ap (λ (q : PlannedLine). q.index) is ∙ omega arith; at = ap (λ (q : PlannedLine). Some q.line) (sym is) }

line_at_index : (es : List EndpointConfig) (lines : List PlanLine) (p : PlannedLine) → IsIn p (planned es lines) → slice_get lines p.index ≡ Some p.line
line_at_index es lines p m =
    let r = line_from es 0 lines p m in
    let index = r.index in
    let here : p.index ≡ r.i = omega (arith, index) in
    ap (λ (i : ℕ). slice_get lines i) here ∙ r.at

-- ---- streams

command_frames : (s : Stream) (c : Config) (m : Message Part) → is_command s ≡ true → frames_in c s m ≡ 1
command_frames DownCommands c m h = refl
command_frames UpCommands c m h = refl
command_frames DownData c m h = cc
command_frames UpData c m h = cc

low_bytes : (s : Stream) (c : Config) (source : Source) (f : SentFrame) → is_command s ≡ true → bytes_in s c source f ≡ command_bytes f
low_bytes DownCommands c source f h = refl
low_bytes UpCommands c source f h = refl
low_bytes DownData c source f h = cc
low_bytes UpData c source f h = cc

-- ---- lengths

cut_long : (n fragment from size : ℕ) → n ≡ 8 + (min (min (from + fragment) size) size - from) → from ≤ size → n ≡ 8 + min fragment (size - from)
cut_long n fragment from size is low = omega (arith, is, low)

piece_long : (id : ℕ) (seq : SeqField) (from fragment size : ℕ) (message : List ℕ) → length message ≡ size → from ≤ size
    → length (piece_frame id seq from (min (from + fragment) (length message)) message) ≡ 8 + min fragment (size - from)
piece_long id seq from fragment size message is low =
    let a = length_transport 0 id seq (cut from (min (from + fragment) (length message)) message) in
    let b = length_cut from (min (from + fragment) (length message)) message in
    let whole = a ∙ ap (λ n. 8 + n) b ∙ ap (λ n. 8 + (min (min (from + fragment) n) n - from)) is in
    cut_long _ fragment from size whole low

-- a piece begins in its message
pub piece_begins : (fragment size sub : ℕ) → 1 ≤ fragment → sub < piece_count fragment size → sub * fragment ≤ size
piece_begins fragment size sub some below =
    let next : sub + 1 ≤ (size + (fragment - 1)) / fragment = omega (arith, below) in
    let pieces : (sub + 1) * fragment ≤ (size + (fragment - 1)) / fragment * fragment = mul-le-mul_right fragment next in
    let all : (size + (fragment - 1)) / fragment * fragment ≤ size + (fragment - 1) = div-mul-le_self (size + (fragment - 1)) fragment in
    omega (arith, pieces, all, some)

-- ---- lines by their parts

abbrev pub planned_of : ℕ → ℕ → EndpointConfig → PlanLine → PlannedLine
planned_of index ep e line = record { index = index; ep = ep; endpoint = e; line = line }

abbrev pub told_of : TrafficClass → ℕ → Ticks → ℕ → PlannedLine → ℕ → ℕ → SeqField → ℕ → FrameLine
told_of class number at id p symbol line field bytes = record {
  class = class;
  number = number;
  at = at;
  id = id;
  slot = p.line.slot;
  symbol = symbol;
  line = line;
  field = field;
  bytes = bytes;
  kind = p.line.kind;
}

module _ (d : Document) (f : SentFrame) (t : Turn) (h : IsTurnFor d f t) where
  abbrev ps : List PlannedLine
  ps = lines_of d

  fits : All IsPlanLine d.plan
  fits = lines_fit d.plan h.document.plan

  of_message : IsOfMessage d.config ps f
  of_message = sent_is d.config ps f h.there

  same_message : f.message ≡ of_message.n.message
  same_message = ap (λ (g : SentFrame). g.message) of_message.is

  pub sent_stream : IsSentStream f.stream
  sent_stream = of_message.is_sent

  pub at : IsAt d.config.endpoints f.ep f.endpoint
  at = of_message.at

  -- the first line of its message
  pub first_part : IsGoodPart d.config f.ep f.endpoint f.message.first
  first_part =
      subst (λ (m : Message Part). IsGoodPart d.config f.ep f.endpoint m.first) (sym same_message)
      (good_part d.config d.plan h.document.config fits h.valid f.stream sent_stream f.ep f.endpoint of_message.n of_message.n.message.first at of_message.there (inl refl))

  from_plan : (x : Part) → IsIn x (parts_of of_message.n.message) → slice_get d.plan x.planned.index ≡ Some x.planned.line
  from_plan x i =
      line_at_index d.config.endpoints d.plan x.planned
      (part_is ps f.stream sent_stream f.ep f.endpoint x (message_part d.config ps f.stream f.ep f.endpoint of_message.n x of_message.there i)).from

  pub first_line : slice_get d.plan f.message.first.planned.index ≡ Some f.message.first.planned.line
  first_line = subst (λ (m : Message Part). slice_get d.plan m.first.planned.index ≡ Some m.first.planned.line) (sym same_message) (from_plan of_message.n.message.first (inl refl))

  pub class_here : class_of t.stream ≡ class_of f.stream
  class_here = ap (λ (u : Turn). class_of u.stream) h.is

  -- ---- commands

  low_stream : is_command t.stream ≡ true → is_command f.stream ≡ true
  low_stream low = sym (ap (λ (u : Turn). is_command u.stream) h.is) ∙ low

  pub command_field : is_command t.stream ≡ true → turn_field t 1 ≡ fragment_field d.config f
  command_field low =
      ap (λ (u : Turn). turn_field u 1) h.is ∙ ap (λ (n : ℕ). turn_field (turn_of f) n) (sym (command_frames f.stream d.config f.message (low_stream low)))

  pub command_long : (p : PlannedLine) (bytes : ℕ) → is_command t.stream ≡ true → p ≡ f.message.first.planned
      → bytes ≡ length (command_frame p.endpoint.id (t.number % 256) (command_head p) (command_section p)) → bytes ≡ length (frame_for d f)
  command_long p bytes low is long =
      long
      ∙ ap (λ (q : PlannedLine). length (command_frame q.endpoint.id (t.number % 256) (command_head q) (command_section q))) is
      ∙ ap₂ (λ (id n : ℕ). length (command_frame id (n % 256) (command_head f.message.first.planned) (command_section f.message.first.planned)))
      (ap (λ (e : EndpointConfig). e.id) first_part.endpoint_is) (ap (λ (u : Turn). u.number) h.is)
      ∙ ap length (sym (low_bytes f.stream d.config (source_for d) f (low_stream low)))

  -- ---- data

  pub is_data : is_command t.stream ≡ false → f.stream ≡ DownData
  is_data high = data_stream f.stream sent_stream (sym (ap (λ (u : Turn). is_command u.stream) h.is) ∙ high)

  pub record IsDataFrame : Type 0 where
    pub stream : f.stream ≡ DownData
    pub good : IsGoodMessage d.config f.ep f.endpoint f.message
    pub short : size_of part_fields f.message ≤ MESSAGE_BYTES
    pub below : t.sub < piece_count d.config.fragment (size_of part_fields f.message)
    pub stand : (x : Part) → IsIn x (parts_of f.message) → slice_get d.plan x.planned.index ≡ Some x.planned.line

  pub data_frame : is_command t.stream ≡ false → IsDataFrame
  data_frame high =
      let data_is = is_data high in
      let m = subst (λ (s : Stream). IsIn of_message.n (messages_of d.config ps s f.ep f.endpoint)) data_is of_message.there in
      let below = subst (λ (x : Message Part). f.sub < frames_in d.config f.stream x) (sym same_message) of_message.below in
      let here = subst (λ (s : Stream). f.sub < frames_in d.config s f.message) data_is below in
      record {
        stream = data_is;
        good = subst (IsGoodMessage d.config f.ep f.endpoint) (sym same_message) (good_message d.config d.plan h.document.config fits h.valid f.ep f.endpoint of_message.n at m);
        short = subst (λ (x : Message Part). size_of part_fields x ≤ MESSAGE_BYTES) (sym same_message) (message_short d.config d.plan h.document.config fits h.valid f.ep f.endpoint of_message.n at m);
        below = subst (λ (n : ℕ). n < piece_count d.config.fragment (size_of part_fields f.message)) (sym (ap (λ (u : Turn). u.sub) h.is)) here;
        stand = subst (λ (n : Message Part). (x : Part) → IsIn x (parts_of n) → slice_get d.plan x.planned.index ≡ Some x.planned.line) (sym same_message) from_plan;
      }

  pub is_placed : (p : PlannedLine) (parts : List PlacedLine) → is_command t.stream ≡ false → p ≡ f.message.first.planned → parts ≡ map placed_line (parts_of f.message)
      → IsPlaced d.plan p.endpoint parts f.message
  is_placed p parts high is are =
      let data_is = data_frame high in
      let first : p.endpoint ≡ f.endpoint = ap (λ (q : PlannedLine). q.endpoint) is ∙ first_part.endpoint_is in
      record {
        are = are;
        each = λ x i. record { line = data_is.stand x i; endpoint = (data_is.good.each x i).endpoint_is ∙ sym first };
      }

  pub data_field : is_command t.stream ≡ false → turn_field t (piece_count d.config.fragment (size_of part_fields f.message)) ≡ fragment_field d.config f
  data_field high =
      ap (λ (u : Turn). turn_field u (piece_count d.config.fragment (size_of part_fields f.message))) h.is
      ∙ ap (λ (s : Stream). turn_field (turn_of f) (frames_in d.config s f.message)) (sym (is_data high))

  pub data_long : is_command t.stream ≡ false → 8 + min d.config.fragment (size_of part_fields f.message - t.sub * d.config.fragment) ≡ length (frame_for d f)
  data_long high =
      let data_is = data_frame high in
      let c = d.config in
      let source = source_for d in
      let size = size_of part_fields f.message in
      let low = h.document.config.fragment_low in
      let sub : t.sub ≡ f.sub = ap (λ (u : Turn). u.sub) h.is in
      let below = subst (λ (n : ℕ). n < piece_count c.fragment size) sub data_is.below in
      ap (λ (n : ℕ). 8 + min c.fragment (size - n * c.fragment)) sub
      ∙ sym (piece_long f.endpoint.id (fragment_field c f) (f.sub * c.fragment) c.fragment size (message_bytes source f.message)
      (length_bytes c f.ep f.endpoint source f.message data_is.good) (piece_begins c.fragment size f.sub (omega (arith, low)) below))
      ∙ ap length (sym (ap (λ (s : Stream). bytes_in s c source f) data_is.stream))

  -- ---- what is read of it

  pub endpoint_there : (es : List EndpointConfig) → es ≡ d.config.endpoints → t.endpoint < length es
  endpoint_there es is =
      let within = slice_get_within d.config.endpoints f.ep f.endpoint at in
      let ep : t.endpoint ≡ f.ep = ap (λ (u : Turn). u.endpoint) h.is in
      let long = ap length is in
      omega (arith, within, ep, long)

  pub line_there : (first : PlacedLine) → first ≡ placed_line f.message.first → first.line < length d.plan
  line_there first is =
      let within = slice_get_within d.plan f.message.first.planned.index f.message.first.planned.line first_line in
      let place : first.line ≡ f.message.first.planned.index = ap (λ (x : PlacedLine). x.line) is in
      omega (arith, within, place)

  pub planned_is : (first : PlacedLine) (es : List EndpointConfig) (e : EndpointConfig) (line : PlanLine) → first ≡ placed_line f.message.first → es ≡ d.config.endpoints → e ≡ get_or es t.endpoint e
      → slice_get d.plan first.line ≡ Some line → planned_of first.line t.endpoint e line ≡ f.message.first.planned
  planned_is first es e line is es_is got there =
      let p = f.message.first.planned in
      let ep : t.endpoint ≡ f.ep = ap (λ (u : Turn). u.endpoint) h.is in
      let here : slice_get es t.endpoint ≡ Some f.endpoint = ap₂ (λ (xs : List EndpointConfig) (i : ℕ). slice_get xs i) es_is ep ∙ at in
      let of_e : e ≡ p.endpoint = got ∙ get_or_from_slice_get es t.endpoint f.endpoint e here ∙ sym first_part.endpoint_is in
      let place : first.line ≡ p.index = ap (λ (x : PlacedLine). x.line) is in
      let of_line : line ≡ p.line = same_Some line p.line (sym there ∙ ap (slice_get d.plan) place ∙ first_line) in
      ap₂ (λ (i k : ℕ). planned_of i k e line) place (ep ∙ sym first_part.ep_is) ∙ ap₂ (λ (x : EndpointConfig) (l : PlanLine). planned_of p.index p.ep x l) of_e of_line

  -- all that is told
  pub line_is : (class : TrafficClass) (number : ℕ) (p : PlannedLine) (first : PlacedLine) (place : ℕ) (field : SeqField) (bytes : ℕ) → class ≡ class_of t.stream → p ≡ f.message.first.planned
      → first ≡ placed_line f.message.first → place ≡ slice_index d.plan_lines p.index → field ≡ fragment_field d.config f → bytes ≡ length (frame_for d f)
      → told_of class number t.at p.endpoint.id p first.symbol place field bytes ≡ line_for d number f
  line_is class number p first place field bytes class_is p_is first_is place_is field_is bytes_is =
      let q = f.message.first.planned in
      let at_is : t.at ≡ record { 0 = f.at } = ap (λ (u : Turn). u.at) h.is in
      let id_is : q.endpoint.id ≡ f.endpoint.id = ap (λ (e : EndpointConfig). e.id) first_part.endpoint_is in
      let symbol_is : first.symbol ≡ f.message.first.symbol = ap (λ (x : PlacedLine). x.symbol) first_is in
      let line_of : place ≡ slice_index d.plan_lines q.index = place_is ∙ ap (λ (x : PlannedLine). slice_index d.plan_lines x.index) p_is in
      ap₂ (λ (k : TrafficClass) (a : Ticks). told_of k number a p.endpoint.id p first.symbol place field bytes) (class_is ∙ class_here) at_is
      ∙ ap (λ (x : PlannedLine). told_of (class_of f.stream) number (record { 0 = f.at }) x.endpoint.id x first.symbol place field bytes) p_is
      ∙ ap₂ (λ (i y : ℕ). told_of (class_of f.stream) number (record { 0 = f.at }) i q y place field bytes) id_is symbol_is
      ∙ ap (λ (n : ℕ). told_of (class_of f.stream) number (record { 0 = f.at }) f.endpoint.id q f.message.first.symbol n field bytes) line_of
      ∙ ap₂ (λ (x : SeqField) (n : ℕ). told_of (class_of f.stream) number (record { 0 = f.at }) f.endpoint.id q f.message.first.symbol (slice_index d.plan_lines q.index) x n) field_is bytes_is

-- ---- a document's line

-- the number at a place that has none
pub none_there : (xs : List ℕ) (k : ℕ) → slice_get xs k ≡ None → 0 ≡ slice_index xs k
none_there [] k h = refl
none_there (x ∷ xs) zero h = absurd cc
none_there (x ∷ xs) (suc k) h = none_there xs k h
