-- What is sent for a plan: each frame is one of a message of a line, and each message's frames are sent.
use Rattle.std.proofs.Common.{◌≡◌, ℕ, pos, zero, suc, ◌+◌, ◌<◌, ◌+ℤ◌, ◌≤ℤ◌, ◌<ℤ◌, inl, inr, true, List, [], ◌∷◌, ◌++◌, map, refl, ap, sym, subst, arith}
use Rattle.std.specs.Prelude.{filter}
use Rattle.std.specs.Int.{int_gap}
use Rattle.std.specs.Ordering.{int_eq}
use Rattle.std.proofs.lemmas.Bool.Decides.{Decides-int_eq}
use Rattle.fh_base.specs.Air.{air_of}
use Rattle.fh_base.specs.Numbering.{IsSlotOf, symbols_of}
use Rattle.fh_base.specs.declared.values.Slot.{Slot}
use Rattle.window_config.specs.declared.config.Config.{Config}
use Rattle.window_config.specs.declared.endpoints.EndpointConfig.{EndpointConfig}
use Rattle.unit_model.specs.Proper.{IsAt}
use Rattle.unit_model.specs.Radiated.{first_clock}
use Rattle.unit_model.specs.Times.{end_of_time}
use Rattle.plan_model.specs.Lines.{line_allocation}
use Rattle.plan_model.specs.Packs.{Message, Numbered, packs, parts_of}
use Rattle.plan_model.specs.Sent.{SentFrame, endpoint_frames, frame_of, frames_from, message_frames, sent, stream_frames}
use Rattle.plan_model.specs.Streams.{Part, frames_in, has_part, in_stream_order, messages_of, most_parts, part_fields, part_in, parts_in, symbol_parts}
use Rattle.plan_model.specs.declared.lines.PlannedLine.{PlannedLine}
use Rattle.plan_model.specs.declared.streams.Stream.{Stream}
use Rattle.plan_model.specs.declared.streams.Stream.TheVariants.{DownCommands, UpCommands, DownData, UpData}
use Rattle.plan_model.proofs.SweptLists.{in_joined, of_joined, of_symbols, in_symbols}
use Rattle.plan_model.proofs.SchedulePackLemmas.{part_from, has_message, message_from, has_number}
use Rattle.plan_model.proofs.TimeLemmas.{less_gap}
use Rattle.fh_base.specs.Members.{IsIn}
use Rattle.fh_base.proofs.MemberLemmas.{in_left, in_right, in_either, in_filter, of_filter}
use Rattle.fh_base.proofs.MadeLists.{in_map, of_map, in_each, of_each, in_tick, of_tick}
use Rattle.fh_base.proofs.EachLemmas.{gap_parts, gap_is}

-- ---- the streams that the distributed unit sends

abbrev pub IsSentStream : Stream → Type 0
IsSentStream DownCommands = Unit {0}
IsSentStream UpCommands = Unit {0}
IsSentStream DownData = Unit {0}
IsSentStream UpData = ⊥

in_lines_order : (stream : Stream) → IsSentStream stream → (ps : List PlannedLine) → in_stream_order stream ps ≡ ps
in_lines_order DownCommands h ps = refl
in_lines_order UpCommands h ps = refl
in_lines_order DownData h ps = refl
in_lines_order UpData h ps = absurd h

-- ---- parts

-- a part is a line in a symbol in which the line has one
pub record IsPart (ps : List PlannedLine) (stream : Stream) (ep : ℕ) (e : EndpointConfig) (x : Part) : Type 0 where
  pub slot : Slot
  pub from : IsIn x.planned ps
  pub has : has_part stream ep slot x.symbol (line_allocation x.planned) ≡ true
  pub is_slot : IsSlotOf e.numerology slot
  pub is_symbol : x.symbol < symbols_of e.numerology

module _ (ps : List PlannedLine) (stream : Stream) (is_sent : IsSentStream stream) (ep : ℕ) (e : EndpointConfig) where
  pub symbol_part : (slot : Slot) (symbol : ℕ) (x : Part) → IsIn x (symbol_parts stream ps ep slot symbol)
      → IsIn x.planned ps × (has_part stream ep slot symbol (line_allocation x.planned) ≡ true) × (x.symbol ≡ symbol)
  unfolding symbol_parts
  symbol_part slot symbol x m =
      let named = filter (λ (p : PlannedLine). has_part stream ep slot symbol (line_allocation p)) ps in
      let w = of_map (part_in symbol) x (in_stream_order stream named) m in
      let y = of_filter (λ (p : PlannedLine). has_part stream ep slot symbol (line_allocation p)) w.0 ps (subst (λ (qs : List PlannedLine). IsIn w.0 qs) (in_lines_order stream is_sent named) w.1) in (
        subst (λ (z : Part). IsIn z.planned ps) (sym w.2) y.0,
        subst (λ (z : Part). has_part stream ep slot symbol (line_allocation z.planned) ≡ true) (sym w.2) y.1,
        ap (λ (z : Part). z.symbol) w.2,
      )

  part_of_symbol : (slot : Slot) (symbol : ℕ) → IsSlotOf e.numerology slot → symbol < symbols_of e.numerology → (x : Part) → IsIn x (symbol_parts stream ps ep slot symbol)
      → IsPart ps stream ep e x
  part_of_symbol slot symbol is h x m =
      let w = symbol_part slot symbol x m in
      record {
        slot = slot;
        from = w.0;
        has = subst (λ y. has_part stream ep slot y (line_allocation x.planned) ≡ true) (sym w.2) w.1;
        is_slot = is;
        is_symbol = subst (λ y. y < symbols_of e.numerology) (sym w.2) h;
      }

  pub part_is : (x : Part) → IsIn x (parts_in ps stream ep e) → IsPart ps stream ep e x
  unfolding parts_in
  part_is x m = of_symbols (IsPart ps stream ep e) (symbol_parts stream ps ep) e part_of_symbol x m

  pub part_there : (p : PlannedLine) (slot : Slot) (symbol : ℕ) → IsIn p ps → has_part stream ep slot symbol (line_allocation p) ≡ true → IsSlotOf e.numerology slot → symbol < symbols_of e.numerology
      → first_clock ≤ℤ air_of e.numerology slot symbol → air_of e.numerology slot symbol <ℤ (end_of_time +ℤ pos 1) → IsIn (part_in symbol p) (parts_in ps stream ep e)
  unfolding parts_in symbol_parts
  part_there p slot symbol m has is h low high =
      let named = filter (λ (q : PlannedLine). has_part stream ep slot symbol (line_allocation q)) ps in
      let there : IsIn p (in_stream_order stream named) =
      subst (λ (qs : List PlannedLine). IsIn p qs) (sym (in_lines_order stream is_sent named)) (in_filter (λ (q : PlannedLine). has_part stream ep slot symbol (line_allocation q)) p ps m has) in
      in_symbols (symbol_parts stream ps ep) e slot symbol (part_in symbol p) is h low high (in_map (part_in symbol) p (in_stream_order stream named) there)

-- ---- messages

pub message_part : (c : Config) (ps : List PlannedLine) (stream : Stream) (ep : ℕ) (e : EndpointConfig) (n : Numbered Part) (x : Part)
    → IsIn n (messages_of c ps stream ep e) → IsIn x (parts_of n.message) → IsIn x (parts_in ps stream ep e)
unfolding messages_of
message_part c ps stream ep e n x m i =
    part_from part_fields (most_parts c stream) (parts_in ps stream ep e) n.message x
    (message_from part_fields (frames_in c stream) (packs part_fields (most_parts c stream) (parts_in ps stream ep e)) n m) i

pub part_message : (c : Config) (ps : List PlannedLine) (stream : Stream) (ep : ℕ) (e : EndpointConfig) (x : Part) → IsIn x (parts_in ps stream ep e)
    → (n : Numbered Part) × IsIn n (messages_of c ps stream ep e) × IsIn x (parts_of n.message)
unfolding messages_of
part_message c ps stream ep e x m =
    let w = has_message part_fields (most_parts c stream) (parts_in ps stream ep e) x m in
    let n = has_number part_fields (frames_in c stream) (packs part_fields (most_parts c stream) (parts_in ps stream ep e)) w.0 w.1 in
    (n.0, n.1, subst (λ (y : Message Part). IsIn x (parts_of y)) (sym n.2) w.2)

-- ---- frames

-- a frame is one of a message of an endpoint and stream
pub record IsOfMessage (c : Config) (ps : List PlannedLine) (f : SentFrame) : Type 0 where
  pub is_sent : IsSentStream f.stream
  pub at : IsAt c.endpoints f.ep f.endpoint
  pub n : Numbered Part
  pub there : IsIn n (messages_of c ps f.stream f.ep f.endpoint)
  pub below : f.sub < frames_in c f.stream n.message
  pub is : f ≡ frame_of c f.stream f.ep f.endpoint n f.sub

of_stream : (c : Config) (ps : List PlannedLine) (stream : Stream) (ep : ℕ) (e : EndpointConfig) (f : SentFrame) → IsSentStream stream → IsAt c.endpoints ep e
    → IsIn f (stream_frames c ps stream ep e) → IsOfMessage c ps f
of_stream c ps stream ep e f is_sent at m =
    let w = of_joined f (map (message_frames c stream ep e) (messages_of c ps stream ep e)) m in
    let n = of_map (message_frames c stream ep e) w.0 (messages_of c ps stream ep e) w.1 in
    let k = of_each f 0 (frames_in c stream n.0.message) (λ sub. frame_of c stream ep e n.0 sub ∷ []) (subst (λ (xs : List SentFrame). IsIn f xs) n.2 w.2) in
    let is : f ≡ frame_of c stream ep e n.0 k.0 = elim k.3 [ inl x ↦ x | inr t ↦ absurd t ] in
    subst (IsOfMessage c ps) (sym is) (record {
      is_sent = is_sent;
      at = at;
      n = n.0;
      there = n.1;
      below = (let h = k.2 in omega (arith, h));
      is = refl;
    })

of_endpoint_frames : (c : Config) (ps : List PlannedLine) (ep : ℕ) (e : EndpointConfig) (f : SentFrame) → IsAt c.endpoints ep e → IsIn f (endpoint_frames c ps ep e) → IsOfMessage c ps f
of_endpoint_frames c ps ep e f at m = elim (in_either f (stream_frames c ps DownCommands ep e) (stream_frames c ps UpCommands ep e ++ stream_frames c ps DownData ep e) m) [
  | inl a ↦ of_stream c ps DownCommands ep e f tt at a
  | inr r ↦ elim (in_either f (stream_frames c ps UpCommands ep e) (stream_frames c ps DownData ep e) r) [
    | inl a ↦ of_stream c ps UpCommands ep e f tt at a
    | inr b ↦ of_stream c ps DownData ep e f tt at b
  ]
]

of_frames : (c : Config) (ps : List PlannedLine) (start : ℕ) (es : List EndpointConfig) (f : SentFrame)
    → ((i : ℕ) (e : EndpointConfig) → IsAt es i e → IsAt c.endpoints (start + i) e) → IsIn f (frames_from c ps start es) → IsOfMessage c ps f
unfolding frames_from
of_frames c ps start [] f h m = absurd m
of_frames c ps start (e ∷ es) f h m = elim (in_either f (endpoint_frames c ps start e) (frames_from c ps (start + 1) es) m) [
  | inl a ↦ (let here : start + 0 ≡ start = omega arith in of_endpoint_frames c ps start e f (subst (λ k. IsAt c.endpoints k e) here (h 0 e refl)) a)
  | inr r ↦ of_frames c ps (start + 1) es f (λ i g at. (let there : start + suc i ≡ start + 1 + i = omega arith in subst (λ k. IsAt c.endpoints k g) there (h (suc i) g at))) r
]

pub sent_is : (c : Config) (ps : List PlannedLine) (f : SentFrame) → IsIn f (sent c ps) → IsOfMessage c ps f
unfolding sent
sent_is c ps f m =
    let all = frames_from c ps 0 c.endpoints in
    let w = of_tick f first_clock (int_gap first_clock (end_of_time +ℤ pos 1)) (λ t. filter (λ (g : SentFrame). int_eq g.at t) all) m in
    let g = of_filter (λ (g : SentFrame). int_eq g.at w.0) f all w.1 in
    of_frames c ps 0 c.endpoints f (λ i e at. (let here : 0 + i ≡ i = omega arith in subst (λ k. IsAt c.endpoints k e) (sym here) at)) g.0

-- ---- and all are sent

in_stream : (c : Config) (ps : List PlannedLine) (stream : Stream) (ep : ℕ) (e : EndpointConfig) (n : Numbered Part) (sub : ℕ) → IsIn n (messages_of c ps stream ep e)
    → sub < frames_in c stream n.message → IsIn (frame_of c stream ep e n sub) (stream_frames c ps stream ep e)
in_stream c ps stream ep e n sub m h =
    in_joined (frame_of c stream ep e n sub) (message_frames c stream ep e n) (map (message_frames c stream ep e) (messages_of c ps stream ep e))
    (in_map (message_frames c stream ep e) n (messages_of c ps stream ep e) m)
    (in_each (frame_of c stream ep e n sub) 0 (frames_in c stream n.message) sub (λ k. frame_of c stream ep e n k ∷ []) (omega arith) (omega (arith, h)) (inl refl))

in_endpoint : (c : Config) (ps : List PlannedLine) (stream : Stream) (ep : ℕ) (e : EndpointConfig) (f : SentFrame) → IsSentStream stream → IsIn f (stream_frames c ps stream ep e)
    → IsIn f (endpoint_frames c ps ep e)
in_endpoint c ps DownCommands ep e f h m = in_left f (stream_frames c ps DownCommands ep e) (stream_frames c ps UpCommands ep e ++ stream_frames c ps DownData ep e) m
in_endpoint c ps UpCommands ep e f h m =
    in_right f (stream_frames c ps DownCommands ep e) (stream_frames c ps UpCommands ep e ++ stream_frames c ps DownData ep e)
    (in_left f (stream_frames c ps UpCommands ep e) (stream_frames c ps DownData ep e) m)
in_endpoint c ps DownData ep e f h m =
    in_right f (stream_frames c ps DownCommands ep e) (stream_frames c ps UpCommands ep e ++ stream_frames c ps DownData ep e)
    (in_right f (stream_frames c ps UpCommands ep e) (stream_frames c ps DownData ep e) m)
in_endpoint c ps UpData ep e f h m = absurd h

in_frames : (c : Config) (ps : List PlannedLine) (start k : ℕ) (es : List EndpointConfig) (e : EndpointConfig) (f : SentFrame) → IsAt es k e
    → IsIn f (endpoint_frames c ps (start + k) e) → IsIn f (frames_from c ps start es)
unfolding frames_from
in_frames c ps start k [] e f at m = absurd cc
in_frames c ps start zero (g ∷ es) e f at m =
    let same : g ≡ e = cc in
    let here : start + 0 ≡ start = omega arith in
    in_left f (endpoint_frames c ps start g) (frames_from c ps (start + 1) es) (subst (λ (x : EndpointConfig). IsIn f (endpoint_frames c ps start x)) (sym same) (subst (λ i. IsIn f (endpoint_frames c ps i e)) here m))
in_frames c ps start (suc k) (g ∷ es) e f at m =
    let there : start + suc k ≡ start + 1 + k = omega arith in
    in_right f (endpoint_frames c ps start g) (frames_from c ps (start + 1) es) (in_frames c ps (start + 1) k es e f at (subst (λ i. IsIn f (endpoint_frames c ps i e)) there m))

pub is_sent : (c : Config) (ps : List PlannedLine) (stream : Stream) (ep : ℕ) (e : EndpointConfig) (n : Numbered Part) (sub : ℕ) → IsSentStream stream → IsAt c.endpoints ep e
    → IsIn n (messages_of c ps stream ep e) → sub < frames_in c stream n.message
    → first_clock ≤ℤ (frame_of c stream ep e n sub).at → (frame_of c stream ep e n sub).at <ℤ (end_of_time +ℤ pos 1) → IsIn (frame_of c stream ep e n sub) (sent c ps)
unfolding sent
is_sent c ps stream ep e n sub h at m below low high =
    let f = frame_of c stream ep e n sub in
    let all = frames_from c ps 0 c.endpoints in
    let end = end_of_time +ℤ pos 1 in
    let here : 0 + ep ≡ ep = omega arith in
    let there : IsIn f all = in_frames c ps 0 ep c.endpoints e f at
    (subst (λ i. IsIn f (endpoint_frames c ps i e)) (sym here) (in_endpoint c ps stream ep e f h (in_stream c ps stream ep e n sub m below))) in
    in_tick f first_clock (int_gap first_clock end) (int_gap first_clock f.at) (λ t. filter (λ (g : SentFrame). int_eq g.at t) all)
    (less_gap (int_gap first_clock f.at) (int_gap (f.at +ℤ pos 1) end) (int_gap first_clock end) (gap_parts first_clock f.at end low high))
    (subst (λ t. IsIn f (filter (λ (g : SentFrame). int_eq g.at t) all)) (sym (gap_is first_clock f.at low))
    (in_filter (λ (g : SentFrame). int_eq g.at f.at) f all there ((Decides-int_eq f.at f.at).1 refl)))
