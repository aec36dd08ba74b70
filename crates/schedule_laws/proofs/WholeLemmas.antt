-- Each message of a plan is decoded once, on time, as its lines' sections.
use Rattle.std.proofs.Common.{◌≡◌, ℕ, ℤ, pos, ◌+◌, ◌*◌, ◌%◌, ◌<◌, ◌≤◌, ◌+ℤ◌, ◌-ℤ◌, ◌≤ℤ◌, ◌<ℤ◌, min, inl, inr, true, not, ◌&&◌, ◌==◌, List, [], ◌∷◌, ◌++◌, Some, refl, ap, ap₂, sym, ◌∙◌, subst, arith}
use Rattle.std.specs.List.{slice_get}
use Rattle.std.proofs.lemmas.Bool.{and_parts, and_from, eq-eqb, eqb-true}
use Rattle.std.proofs.lemmas.Int.{ints}
use Rattle.fh_base.specs.Air.{air_of}
use Rattle.fh_base.specs.Frame.{absolute_frame}
use Rattle.fh_base.specs.Numbering.{symbols_of}
use Rattle.fh_base.specs.declared.values.Slot.{Slot}
use Rattle.air_source.specs.declared.events.Side.TheVariants.{Ru}
use Rattle.ecpri_fragments.specs.Generations.{Fragment}
use Rattle.ecpri_fragments.specs.Verdicts.{Message as WholeMessage, message, standing_before, verdict_on}
use Rattle.ecpri_fragments.specs.declared.verdict.Verdict.TheVariants.{Whole}
use Rattle.fragment_laws.specs.Apart.{Numbers, number_of, of_message}
use Rattle.fragment_laws.specs.Flow.{Bounds, Flow, IsCopyOf as IsFragmentCopy, IsDelivered, IsSound, numbers_of, sent_at as flow_sent_at}
use Rattle.fragment_laws.specs.Once.{Answered, IsOnceWhole, answered, answers, texts}
use Rattle.fragment_laws.proofs.FlowLemmas.{copy}
use Rattle.fragment_laws.proofs.OnceLemmas.{once_whole}
use Rattle.window_config.specs.Classes.{IsOnTime, class_of}
use Rattle.window_config.specs.Windows.{ticks_of_ns}
use Rattle.window_config.specs.declared.config.Config.{Config}
use Rattle.window_config.specs.declared.endpoints.EndpointConfig.{EndpointConfig}
use Rattle.window_config.specs.declared.plan.PlanLine.{PlanLine}
use Rattle.window_config.specs.declared.verdicts.Class.TheVariants.{OnTime}
use Rattle.window_config.proofs.Timing.{class_on_time}
use Rattle.unit_model.specs.Blocks.{data_class, data_slot, data_start}
use Rattle.unit_model.specs.Claims.{is_from, same_slot}
use Rattle.unit_model.specs.Decoding.{Decoded, data_sections, decode, decode_message, sections_of}
use Rattle.fh_base.specs.Lists.{onto}
use Rattle.unit_model.specs.Meetings.{Arrival, fragments, meetings}
use Rattle.unit_model.specs.Proper.{IsAt}
use Rattle.unit_model.specs.Radiated.{first_clock}
use Rattle.unit_model.specs.Times.{end_of_time}
use Rattle.unit_model.specs.declared.decoded.UserSection.{UserSection}
use Rattle.unit_model.proofs.ReachLaws.{symbol_soon}
use Rattle.unit_laws.proofs.FarLemmas.{endpoints_equal}
use Rattle.plan_model.specs.Departures.{departures_of, sent_at, start_of_part, width_of}
use Rattle.plan_model.specs.Lines.{line_allocation, planned}
use Rattle.plan_model.specs.Packs.{Message, Numbered, packs, parts_of, same_symbol}
use Rattle.plan_model.specs.Sent.{SentFrame, frame_of, sent}
use Rattle.plan_model.specs.Streams.{Part, frames_in, messages_of, part_fields, part_in, parts_in}
use Rattle.plan_model.specs.declared.lines.PlannedLine.{PlannedLine}
use Rattle.plan_model.specs.declared.streams.Stream.{Stream}
use Rattle.plan_model.specs.declared.streams.Stream.TheVariants.{DownData}
use Rattle.schedule_laws.specs.Data.{AreSections, AreWritten, Blocks, IsDataFor, IsDecoded}
use Rattle.schedule_laws.proofs.DataLemmas.{told_in, told_there, told_whole, whole_told}
use Rattle.schedule_laws.specs.Flows.{bounds_of, flow_of}
use Rattle.schedule_laws.specs.Premise.{AllArrive, IsCopyOf, Texts, fragment_at}
use Rattle.schedule_laws.proofs.CommandLemmas.{HasRoom, near_frame, on_time}
use Rattle.schedule_laws.proofs.FlowLemmas.{Here, below_at, here, leaves_at, message_number, pieces_at, sound}
use Rattle.schedule_laws.proofs.FragmentLemmas.{IsAnswer, answers_from, answers_there, falling, heard_piece, piece_read, the_whole, told_piece, whole_in}
use Rattle.plan_model.proofs.LineLemmas.{IsGoodLine, good, part_line, start_in_time}
use Rattle.plan_model.proofs.SweptLists.{numerology_short}
use Rattle.schedule_laws.proofs.OrderLemmas.{one_symbol}
use Rattle.plan_model.proofs.SchedulePackLemmas.{message_from}
use Rattle.plan_model.proofs.SentLemmas.{is_sent, message_part, part_is, part_message, part_there, sent_is}
use Rattle.plan_model.proofs.TimeLemmas.{frame_is, in_end, in_time, wait_most, last_one}
use Rattle.window_config.specs.declared.delays.TheConstants.{MOST_DELAY}
use Rattle.fh_base.proofs.Order.{same_fields as same_slot_fields}
use Rattle.unit_model.proofs.ClaimLemmas.{same_slot_is as slots_equal, slot_self as slot_own, from_within}
use Rattle.ecpri_fragments.specs.Pieces.{joined}
use Rattle.fh_base.specs.Members.{IsIn}
use Rattle.fh_base.proofs.MemberLemmas.{in_right, get_in}
use Rattle.fh_base.proofs.MadeLists.{in_onto, onto_right}
use Rattle.fh_base.proofs.EachLemmas.{gap_is}

-- ---- the sections of a message

section_of : (blocks : Blocks) (first last : ℤ) (xs : List Part) (ds : List UserSection) (d : UserSection) → AreSections blocks first last xs ds → IsIn d ds
    → (x : Part) × IsIn x xs × IsDataFor blocks x d × (d.first.0 ≡ first) × (d.last.0 ≡ last)
section_of blocks first last [] [] d h m = absurd m
section_of blocks first last [] (y ∷ ds) d h m = absurd h
section_of blocks first last (x ∷ xs) [] d h m = absurd m
section_of blocks first last (x ∷ xs) (y ∷ ds) d h m = elim m [
  | inl e ↦ (x, inl refl, subst (IsDataFor blocks x) (sym e) h.0, ap (λ (z : UserSection). z.first.0) e ∙ h.1, ap (λ (z : UserSection). z.last.0) e ∙ h.2)
  | inr t ↦ (let w = section_of blocks first last xs ds d h.3 t in (w.0, inr w.1, w.2, w.3, w.4))
]

part_section : (blocks : Blocks) (first last : ℤ) (xs : List Part) (ds : List UserSection) (x : Part) → AreSections blocks first last xs ds → IsIn x xs
    → (d : UserSection) × IsIn d ds × IsDataFor blocks x d × (d.first.0 ≡ first) × (d.last.0 ≡ last)
part_section blocks first last [] [] x h m = absurd m
part_section blocks first last [] (y ∷ ds) x h m = absurd h
part_section blocks first last (y ∷ xs) [] x h m = absurd h
part_section blocks first last (y ∷ xs) (d ∷ ds) x h m = elim m [
  | inl e ↦ (d, inl refl, subst (λ (z : Part). IsDataFor blocks z d) (sym e) h.0, h.1, h.2)
  | inr t ↦ (let w = part_section blocks first last xs ds x h.3 t in (w.0, inr w.1, w.2, w.3, w.4))
]

the_frame : (n : Numbered Part) (c : Config) (s : Stream) (ep : ℕ) (e : EndpointConfig) (f : SentFrame) (t : Stream) → s ≡ t → f ≡ frame_of c s ep e n f.sub → f.at ≡ sent_at c t n f.sub
the_frame n c s ep e f t q is = ap (λ (g : SentFrame). g.at) is ∙ ap (λ (r : Stream). sent_at c r n f.sub) q

module _ (c : Config) (lines : List PlanLine) (text : Texts) (blocks : Blocks) (arrivals : List Arrival) (h : AllArrive c lines text arrivals) (w : AreWritten c (planned c.endpoints lines) text blocks) where
  abbrev ps : List PlannedLine
  ps = planned c.endpoints lines

  abbrev all : List Fragment
  all = fragments (meetings Ru c.endpoints arrivals)

  abbrev flow : ℕ → Flow
  flow = flow_of c ps text

  abbrev b : Bounds
  b = bounds_of c

  abbrev IsHere : ℕ → ℕ → Type 0
  IsHere ep j = Here c lines h.config h.lines_fit h.valid h.check text ep j

  pub sounds : (ep : ℕ) → IsSound (bounds_of c) (flow_of c (planned c.endpoints lines) text ep)
  sounds ep = sound c lines h.config h.lines_fit h.valid h.check text w.size ep

  -- ---- a part of data

  -- the line and the symbol that it is of
  pub record PartFacts (ep : ℕ) (e : EndpointConfig) (x : Part) : Type 0 where
    pub from : IsIn x.planned ps
    pub line : IsGoodLine c.endpoints x.planned
    pub ep_is : x.planned.ep ≡ ep
    pub endpoint : x.planned.endpoint ≡ e
    pub below : x.symbol < symbols_of x.planned.endpoint.numerology
    pub down : (line_allocation x.planned).down ≡ true
    pub used : not (line_allocation x.planned).idle ≡ true
    pub symbol : is_from x.planned.line.symbol x.planned.line.count x.symbol ≡ true

  part_facts : (ep : ℕ) (e : EndpointConfig) (x : Part) → IsAt c.endpoints ep e → IsIn x (parts_in ps DownData ep e) → PartFacts ep e x
  part_facts ep e x at m =
      let p = part_is ps DownData tt ep e x m in
      let g = good c lines h.config h.lines_fit h.valid x.planned p.from in
      let place = part_line DownData tt x.planned ep p.slot x.symbol p.has in
      let same = endpoints_equal c.endpoints x.planned.ep ep x.planned.endpoint e g.at at place.ep_is in
      let one = and_parts ((line_allocation x.planned).down && not (line_allocation x.planned).idle) _ p.has in
      let kind = and_parts (line_allocation x.planned).down (not (line_allocation x.planned).idle) one.0 in
      let two = and_parts (x.planned.ep == ep) _ one.1 in
      let three = and_parts (same_slot x.planned.line.slot p.slot) (is_from x.planned.line.symbol x.planned.line.count x.symbol) two.1 in
      record {
        from = p.from;
        line = g;
        ep_is = place.ep_is;
        endpoint = same;
        below = subst (λ (f : EndpointConfig). x.symbol < symbols_of f.numerology) (sym same) p.is_symbol;
        down = kind.0;
        used = kind.1;
        symbol = three.1;
      }

  message_facts : (ep j : ℕ) (a : IsHere ep j) (x : Part) → IsIn x (parts_of a.n.message) → PartFacts ep a.e x
  message_facts ep j a x m = part_facts ep a.e x a.at (message_part c ps DownData ep a.e a.n x a.there m)

  -- ---- a frame of data

  record FrameAt (f : SentFrame) : Type 0 where
    j : ℕ
    is_here : IsHere f.ep j
    number : f.number ≡ j
    message_is : f.message ≡ is_here.n.message
    sub : f.sub < frames_in c DownData is_here.n.message
    at : f.at ≡ sent_at c DownData is_here.n f.sub
    endpoint : f.endpoint ≡ is_here.e

  frame_at : (f : SentFrame) → IsIn f (sent c ps) → f.stream ≡ DownData → FrameAt f
  frame_at f m s =
      let o = sent_is c ps f m in
      let there : IsIn o.n (messages_of c ps DownData f.ep f.endpoint) = subst (λ (t : Stream). IsIn o.n (messages_of c ps t f.ep f.endpoint)) s o.there in
      let k = get_in o.n (messages_of c ps DownData f.ep f.endpoint) there in
      let number = message_number c lines h.config h.lines_fit h.valid h.check text f.ep f.endpoint k.0 o.n k.1 in
      let a : IsHere f.ep k.0 = record { e = f.endpoint; at = o.at; n = o.n; got = k.1; there = there; number = number } in
      record {
        j = k.0;
        is_here = a;
        number = ap (λ (g : SentFrame). g.number) o.is ∙ number;
        message_is = ap (λ (g : SentFrame). g.message) o.is;
        sub = subst (λ (t : Stream). f.sub < frames_in c t o.n.message) s o.below;
        at = the_frame o.n c f.stream f.ep f.endpoint f DownData s o.is;
        endpoint = refl;
      }

  -- a copy of it is one of the flow's
  flow_copy : (f : SentFrame) (a : Arrival) (k : FrameAt f) → f.stream ≡ DownData → IsCopyOf c text f a → IsFragmentCopy b (flow f.ep) k.j (fragment_at c text f a.at)
  flow_copy f a k s copied =
      let pieces = pieces_at c lines h.config h.lines_fit h.valid h.check text f.ep k.j k.is_here in
      let leaves = leaves_at c lines h.config h.lines_fit h.valid h.check text f.ep k.j f.sub k.is_here ∙ sym k.at in
      record {
        below = below_at c lines h.config h.lines_fit h.valid h.check text f.ep k.j k.is_here;
        sub = subst (λ n. f.sub < n) (sym pieces) k.sub;
        id = ap (λ n. n % 256) k.number;
        last = ap₂ (λ (t : Stream) (m : Message Part). f.sub + 1 == frames_in c t m) s k.message_is ∙ ap (λ n. f.sub + 1 == n) (sym pieces);
        bytes = ap (λ n. text f.ep n f.sub) k.number;
        from = subst (λ t. (t +ℤ ticks_of_ns c.delays.t12.min) ≤ℤ a.at) (sym leaves) copied.from;
        to = subst (λ t. a.at ≤ℤ (t +ℤ ticks_of_ns c.delays.t12.max)) (sym leaves) copied.to;
      }

  flow_came : (x : Fragment) → IsIn x all → (j : ℕ) × IsFragmentCopy b (flow x.ep) j x
  flow_came x m =
      let y = heard_piece c text (sent c ps) arrivals h.came x m in
      let k = frame_at y.f y.sent_is y.stream in
      (k.j, subst (λ (z : Fragment). IsFragmentCopy b (flow z.ep) k.j z) (sym y.is) (flow_copy y.f y.a k y.stream y.copy))

  -- each is sent in the times that are gone over
  in_clock : (ep j sub : ℕ) (a : IsHere ep j) → (first_clock ≤ℤ sent_at c DownData a.n sub) × (sent_at c DownData a.n sub <ℤ (end_of_time +ℤ pos 1))
  in_clock ep j sub a =
      let x = a.n.message.first in
      let facts = message_facts ep j a x (inl refl) in
      let time = start_in_time c.endpoints x.planned x.symbol facts.line facts.below in
      let window = c.delays.t1a_up in
      let limits = h.config.delays.t1a_up in
      in_time (start_of_part x) window.min window.max (min ((a.n.before + sub) * (departures_of c DownData).gap) (width_of window)) (width_of window) time.0 time.1
      (omega (arith, ints, limits.high)) limits.low limits.order (gap_is (ticks_of_ns window.min) (ticks_of_ns window.max) (in_ns window.min window.max limits.order))
      (wait_most (a.n.before + sub) (departures_of c DownData).gap (width_of window))
    where
      in_ns : (x y : ℤ) → x ≤ℤ y → ticks_of_ns x ≤ℤ ticks_of_ns y
      in_ns x y k = omega (arith, ints, k)

  flow_every : (ep j sub : ℕ) → j < (flow ep).count → sub < (flow ep).pieces j → (x : Fragment) × IsIn x all × (x.ep ≡ ep) × (x.sub ≡ sub) × IsFragmentCopy b (flow ep) j x
  flow_every ep j sub below less =
      let a = here c lines h.config h.lines_fit h.valid h.check text ep j below in
      let pieces = pieces_at c lines h.config h.lines_fit h.valid h.check text ep j a in
      let less_n : sub < frames_in c DownData a.n.message = subst (λ n. sub < n) pieces less in
      let clock = in_clock ep j sub a in
      let f = frame_of c DownData ep a.e a.n sub in
      let there = is_sent c ps DownData ep a.e a.n sub tt a.at a.there less_n clock.0 clock.1 in
      let came = h.every f there in
      let k : FrameAt f = record { j = j; is_here = a; number = a.number; message_is = refl; sub = less_n; at = refl; endpoint = refl } in (
        fragment_at c text f came.0.at,
        told_piece c text (sent c ps) arrivals h.came came.0 a.e (fragment_at c text f came.0.at) came.1 (piece_read c text f came.0 refl came.2),
        refl,
        refl,
        flow_copy f came.0 k refl came.2,
      )

  pub delivered : IsDelivered (bounds_of c) (flow_of c (planned c.endpoints lines) text) (fragments (meetings Ru c.endpoints arrivals))
  delivered = record { falling = falling c text (sent c ps) arrivals h.came h.in_order; came = flow_came; every = flow_every }

  abbrev num : Numbers
  num = numbers_of b flow

  pub whole_once : (ep j : ℕ) → j < (flow ep).count → IsOnceWhole b (flow ep) j (of_message num ep j all) (answers b.hold num ep j all)
  whole_once ep j below = once_whole b flow sounds all delivered ep j below

  -- ---- what a fragment that is Whole says

  -- the message and its sections
  record Says (x : Fragment) (earlier : List Fragment) : Type 0 where
    j : ℕ
    is_here : IsHere x.ep j
    number : number_of num x ≡ j
    first : ℤ
    last : ℤ
    sections : List UserSection
    are : AreSections blocks first last (onto [] (parts_of is_here.n.message)) sections
    is : (e : EndpointConfig) → e ≡ is_here.e → sections_of (decode_message Ru x.ep e (message (x ∷ standing_before b.hold x earlier))) ≡ sections
    first_from : (flow_sent_at (flow x.ep) j 0 +ℤ b.fast) ≤ℤ first
    first_to : first ≤ℤ (flow_sent_at (flow x.ep) j 0 +ℤ b.slow)
    last_from : (k : ℕ) → k + 1 ≡ (flow x.ep).pieces j → (flow_sent_at (flow x.ep) j k +ℤ b.fast) ≤ℤ last
    last_to : (k : ℕ) → k + 1 ≡ (flow x.ep).pieces j → last ≤ℤ (flow_sent_at (flow x.ep) j k +ℤ b.slow)

  decoded_as : (ep j : ℕ) (a : IsHere ep j) (m : WholeMessage) (e : EndpointConfig) (d : IsDecoded c text blocks ep a.e a.n m.first m.last) → m.pieces ≡ texts (text ep j) ((flow ep).pieces j) → e ≡ a.e
      → sections_of (decode_message Ru ep e m) ≡ d.sections
  decoded_as ep j a m e d pieces same =
      let pieces_n : m.pieces ≡ texts (text ep a.n.number) (frames_in c DownData a.n.message) =
      pieces ∙ ap₂ (λ (i k : ℕ). texts (text ep i) k) (sym a.number) (pieces_at c lines h.config h.lines_fit h.valid h.check text ep j a) in
      ap (λ (f : EndpointConfig). sections_of (decode Ru ep f m.first m.last (joined m.pieces))) same
      ∙ ap (λ (ts : List (List ℕ)). sections_of (decode Ru ep a.e m.first m.last (joined ts))) pieces_n
      ∙ ap (λ (r : Decoded). sections_of r) d.is

  says : (later earlier : List Fragment) (x : Fragment) → all ≡ later ++ x ∷ earlier → verdict_on b.hold x earlier ≡ Whole → Says x earlier
  says later earlier x is v =
      let x_in : IsIn x all = subst (λ (xs : List Fragment). IsIn x xs) (sym is) (in_right x later (x ∷ earlier) (inl refl)) in
      let j = number_of num x in
      let copied = copy b flow sounds all delivered x x_in in
      let a = here c lines h.config h.lines_fit h.valid h.check text x.ep j copied.below in
      let once = whole_once x.ep j copied.below in
      let y = answered (standing_before b.hold x earlier) x in
      let there : IsIn y (answers b.hold num x.ep j all) = subst (λ (xs : List Fragment). IsIn y (answers b.hold num x.ep j xs)) (sym is) (answers_there b.hold num later earlier x) in
      let same : y ≡ once.whole = the_whole b (flow x.ep) j (of_message num x.ep j all) (answers b.hold num x.ep j all) once y there v in
      let shows : message (x ∷ standing_before b.hold x earlier) ≡ once.whole.shows = ap (λ (z : Answered). z.shows) same in
      let m = message (x ∷ standing_before b.hold x earlier) in
      let d = w.decoded x.ep a.e a.n m.first m.last a.at a.there in
      record {
        j = j;
        is_here = a;
        number = refl;
        first = m.first;
        last = m.last;
        sections = d.sections;
        are = d.are;
        is = λ e q. decoded_as x.ep j a m e d (ap (λ (z : WholeMessage). z.pieces) shows ∙ once.pieces) q;
        first_from = subst (λ (z : WholeMessage). (flow_sent_at (flow x.ep) j 0 +ℤ b.fast) ≤ℤ z.first) (sym shows) once.first_from;
        first_to = subst (λ (z : WholeMessage). z.first ≤ℤ (flow_sent_at (flow x.ep) j 0 +ℤ b.slow)) (sym shows) once.first_to;
        last_from = λ k q. subst (λ (z : WholeMessage). (flow_sent_at (flow x.ep) j k +ℤ b.fast) ≤ℤ z.last) (sym shows) (once.last_from k q);
        last_to = λ k q. subst (λ (z : WholeMessage). z.last ≤ℤ (flow_sent_at (flow x.ep) j k +ℤ b.slow)) (sym shows) (once.last_to k q);
      }

  -- ---- on time

  room : HasRoom c.delays.t1a_up c.delays.t2a_up c.delays.t12
  room = record { order = h.config.delays.t1a_up.order; most = h.check.up_max; least = h.check.up_min }

  -- a copy of the k-th frame of the message is received on time
  frame_on_time : (ep j k : ℕ) (a : IsHere ep j) (t : ℤ) → (flow_sent_at (flow ep) j k +ℤ b.fast) ≤ℤ t → t ≤ℤ (flow_sent_at (flow ep) j k +ℤ b.slow)
      → IsOnTime t t (start_of_part a.n.message.first) c.delays.t2a_up
  frame_on_time ep j k a t from to =
      let leaves = leaves_at c lines h.config h.lines_fit h.valid h.check text ep j k a in
      on_time c.delays.t1a_up c.delays.t2a_up c.delays.t12 (start_of_part a.n.message.first) t (min ((a.n.before + k) * (departures_of c DownData).gap) (width_of c.delays.t1a_up)) room
      (wait_most (a.n.before + k) (departures_of c DownData).gap (width_of c.delays.t1a_up))
      (subst (λ s. (s +ℤ b.fast) ≤ℤ t) leaves from) (subst (λ s. t ≤ℤ (s +ℤ b.slow)) leaves to)

  one_of : (ep : ℕ) (e : EndpointConfig) (n : Numbered Part) → IsIn n (messages_of c ps DownData ep e) → (x : Part) → IsIn x (parts_of n.message) → same_symbol part_fields n.message.first x ≡ true
  unfolding messages_of
  one_of ep e n there x m =
      let parts = parts_in ps DownData ep e in
      one_symbol part_fields c.pack parts n.message (message_from part_fields (frames_in c DownData) (packs part_fields c.pack parts) n there) x m

  -- all parts of a message start when its first one does
  same_start : (ep j : ℕ) (a : IsHere ep j) (x : Part) → IsIn x (parts_of a.n.message) → start_of_part x ≡ start_of_part a.n.message.first
  same_start ep j a x m =
      let y = a.n.message.first in
      let fx = message_facts ep j a x m in
      let fy = message_facts ep j a y (inl refl) in
      let one = one_of ep a.e a.n a.there x m in
      let parts = and_parts (same_slot y.planned.line.slot x.planned.line.slot) (y.symbol == x.symbol) one in
      ap (λ (e : EndpointConfig). air_of e.numerology x.planned.line.slot x.symbol) (fx.endpoint ∙ sym fy.endpoint)
      ∙ ap₂ (λ (s : Slot) (z : ℕ). air_of y.planned.endpoint.numerology s z) (sym (slots_equal y.planned.line.slot x.planned.line.slot parts.0)) (sym (eqb-true y.symbol x.symbol parts.1))

  -- a section that is on time, of this part
  pub record IsTimely (x : Part) (d : UserSection) : Type 0 where
    pub ep : ℕ
    pub e : EndpointConfig
    pub facts : PartFacts ep e x
    pub carries : IsDataFor blocks x d
    pub slot_is : data_slot d ≡ x.planned.line.slot
    pub class : data_class Ru c.delays d ≡ OnTime

  slot_named : (x : Part) (d : UserSection) → IsDataFor blocks x d → absolute_frame d.head.frame_id d.last.0 ≡ x.planned.line.slot.frame → data_slot d ≡ x.planned.line.slot
  slot_named x d carries f = same_slot_fields (data_slot d) x.planned.line.slot f carries.subframe carries.slot

  start_named : (x : Part) (d : UserSection) → IsDataFor blocks x d → data_slot d ≡ x.planned.line.slot → data_start d ≡ start_of_part x
  start_named x d carries s =
      ap (λ (e : EndpointConfig). air_of e.numerology (data_slot d) d.section.symbol) carries.endpoint
      ∙ ap₂ (λ (t : Slot) (y : ℕ). air_of x.planned.endpoint.numerology t y) s carries.symbol

  timely_section : (x : Fragment) (earlier : List Fragment) (s : Says x earlier) (part : Part) (d : UserSection) → IsIn part (parts_of s.is_here.n.message) → IsDataFor blocks part d
      → d.first.0 ≡ s.first → d.last.0 ≡ s.last → IsTimely part d
  timely_section x earlier s part d part_in_message carries first_is last_is =
      let a = s.is_here in
      let facts = message_facts x.ep s.j a part part_in_message in
      let start = same_start x.ep s.j a part part_in_message in
      let k = last_one ((flow x.ep).pieces s.j) ((sounds x.ep).some s.j (below_at c lines h.config h.lines_fit h.valid h.check text x.ep s.j a)) in
      let first_time = frame_on_time x.ep s.j 0 a s.first s.first_from s.first_to in
      let last_time = frame_on_time x.ep s.j k.0 a s.last (s.last_from k.0 k.1) (s.last_to k.0 k.1) in
      let start_at : start_of_part part ≡ start_of_part a.n.message.first = start in
      let soon_enough = subst (λ t. ticks_of_ns c.delays.t2a_up.min ≤ℤ (t -ℤ s.last)) (sym start) last_time.soon_enough in
      let late_last = subst (λ t. (t -ℤ s.last) ≤ℤ ticks_of_ns c.delays.t2a_up.max) (sym start) last_time.late_enough in
      let late_enough = subst (λ t. (t -ℤ s.first) ≤ℤ ticks_of_ns c.delays.t2a_up.max) (sym start) first_time.late_enough in
      let limits = h.config.delays.t2a_up in
      let g = facts.line in
      let soon = symbol_soon part.planned.endpoint.numerology part.planned.line.slot part.symbol (numerology_short part.planned.endpoint.numerology) (record { subframe = g.fits.subframe; slot = g.slot }) facts.below in
      let near = near_frame part.planned.line.slot.frame (start_of_part part) s.last c.delays.t2a_up.min c.delays.t2a_up.max soon.0 soon.1
      (at_least c.delays.t2a_up.min limits.low) (at_most c.delays.t2a_up.max limits.high) soon_enough late_last in
      let frame : absolute_frame d.head.frame_id s.last ≡ part.planned.line.slot.frame = frame_is d.head.frame_id s.last part.planned.line.slot.frame carries.frame_id near.0 near.1 in
      let slot = slot_named part d carries (ap (λ t. absolute_frame d.head.frame_id t) last_is ∙ frame) in
      let time : IsOnTime s.first s.last (start_of_part part) c.delays.t2a_up = record { soon_enough = soon_enough; late_enough = late_enough } in
      record {
        ep = x.ep;
        e = a.e;
        facts = facts;
        carries = carries;
        slot_is = slot;
        class = ap (λ t. class_of d.first.0 d.last.0 t c.delays.t2a_up) (start_named part d carries slot)
            ∙ ap₂ (λ p q. class_of p q (start_of_part part) c.delays.t2a_up) first_is last_is
            ∙ (class_on_time s.first s.last (start_of_part part) c.delays.t2a_up).1 time;
      }
    where
      at_least : (z : ℤ) → pos 1 ≤ℤ z → pos 0 ≤ℤ z
      at_least z k = omega (arith, ints, k)

      at_most : (z : ℤ) → z ≤ℤ pos MOST_DELAY → z ≤ℤ pos 4000000
      at_most z k = omega (arith, ints, k)

  -- ---- each section, and every part

  abbrev pub ds : List UserSection
  ds = data_sections Ru b.hold (meetings Ru c.endpoints arrivals)

  endpoint_at : (f : SentFrame) → IsIn f (sent c ps) → IsAt c.endpoints f.ep f.endpoint
  endpoint_at f m = (sent_is c ps f m).at

  pub each_timely : (d : UserSection) → IsIn d ds → (x : Part) × IsTimely x d
  each_timely d m =
      let t = told_in c text (sent c ps) b.hold arrivals h.came d m in
      let v = told_whole Ru (verdict_on b.hold t.x t.earlier) t.f.endpoint t.x (standing_before b.hold t.x t.earlier) d t.told in
      let s = says t.later t.earlier t.x t.is v.0 in
      let same = endpoints_equal c.endpoints t.f.ep t.x.ep t.f.endpoint s.is_here.e (endpoint_at t.f t.sent_is) s.is_here.at (sym t.ep_is) in
      let parts = parts_of s.is_here.n.message in
      let got = section_of blocks s.first s.last (onto [] parts) s.sections d s.are (subst (λ (xs : List UserSection). IsIn d xs) (s.is t.f.endpoint same) v.1) in
      let in_message : IsIn got.0 parts = elim (in_onto got.0 [] parts got.1) [ inl none ↦ absurd none | inr i ↦ i ] in
      (got.0, timely_section t.x t.earlier s got.0 d in_message got.2 got.3 got.4)

  some_answer : (ep j : ℕ) → (below : j < (flow ep).count) → IsAnswer b.hold num ep j all (whole_once ep j below).whole
  some_answer ep j below =
      answers_from b.hold num ep j all (whole_once ep j below).whole
      (whole_in b (flow ep) j (of_message num ep j all) (answers b.hold num ep j all) (whole_once ep j below))

  -- each part of a message has its section
  part_sent : (ep j : ℕ) (a : IsHere ep j) (x : Part) → IsIn x (parts_of a.n.message) → (d : UserSection) × IsIn d ds × IsTimely x d
  part_sent ep j a x m =
      let below = below_at c lines h.config h.lines_fit h.valid h.check text ep j a in
      let o = some_answer ep j below in
      let v : verdict_on b.hold o.x o.earlier ≡ Whole = sym (ap (λ (z : Answered). z.was) o.answer) ∙ (whole_once ep j below).was in
      let s = says o.later o.earlier o.x o.is v in
      let ep_is : ep ≡ o.x.ep = sym o.ep_is in
      let j_is : j ≡ s.j = sym o.number ∙ s.number in
      let same_e = endpoints_equal c.endpoints ep o.x.ep a.e s.is_here.e a.at s.is_here.at ep_is in
      let got : slice_get (messages_of c ps DownData o.x.ep s.is_here.e) s.j ≡ Some a.n =
      subst (λ k. slice_get (messages_of c ps DownData o.x.ep s.is_here.e) k ≡ Some a.n) j_is
      (subst (λ (e : EndpointConfig). slice_get (messages_of c ps DownData o.x.ep e) j ≡ Some a.n) same_e
      (subst (λ k. slice_get (messages_of c ps DownData k a.e) j ≡ Some a.n) ep_is a.got)) in
      let same_n : a.n ≡ s.is_here.n = some_same a.n s.is_here.n (sym got ∙ s.is_here.got) in
      let in_message : IsIn x (parts_of s.is_here.n.message) = subst (λ (n : Numbered Part). IsIn x (parts_of n.message)) same_n m in
      let x_there : IsIn x (onto [] (parts_of s.is_here.n.message)) = onto_right x [] (parts_of s.is_here.n.message) in_message in
      let d = part_section blocks s.first s.last (onto [] (parts_of s.is_here.n.message)) s.sections x s.are x_there in
      let d_told = whole_told Ru (verdict_on b.hold o.x o.earlier) s.is_here.e o.x (standing_before b.hold o.x o.earlier) d.0 v (subst (λ (xs : List UserSection). IsIn d.0 xs) (sym (s.is s.is_here.e refl)) d.1) in
      (d.0, told_there c text (sent c ps) b.hold endpoint_at arrivals h.came o.later o.earlier o.x s.is_here.e d.0 s.is_here.at o.is d_told, timely_section o.x o.earlier s x d.0 in_message d.2 d.3 d.4)
    where
      some_same : (m n : Numbered Part) → Some m ≡ Some n → m ≡ n
      some_same m n e = cc

  -- each line that radiates has one in each of its symbols
  line_part : (p : PlannedLine) (symbol : ℕ) → (line_allocation p).down ≡ true → not (line_allocation p).idle ≡ true → is_from p.line.symbol p.line.count symbol ≡ true
      → (((line_allocation p).down && not (line_allocation p).idle) && ((p.ep == p.ep) && (same_slot p.line.slot p.line.slot && is_from p.line.symbol p.line.count symbol))) ≡ true
  line_part p symbol down used within = and_from _ _ (and_from _ _ down used) (and_from _ _ (eq-eqb p.ep p.ep refl) (and_from _ _ (slot_own p.line.slot) within))

  pub line_sent : (p : PlannedLine) (symbol : ℕ) → IsIn p ps → (line_allocation p).down ≡ true → not (line_allocation p).idle ≡ true → is_from p.line.symbol p.line.count symbol ≡ true
      → (d : UserSection) × IsIn d ds × IsTimely (part_in symbol p) d
  line_sent p symbol m down used within =
      let g = good c lines h.config h.lines_fit h.valid p m in
      let high = from_within p.line.symbol p.line.count symbol within in
      let below = under symbol (p.line.symbol + p.line.count) (symbols_of p.endpoint.numerology) high g.within in
      let time = start_in_time c.endpoints p symbol g below in
      let end = in_end (air_of p.endpoint.numerology p.line.slot symbol) time.0 time.1 in
      let x = part_in symbol p in
      let there = part_there ps DownData tt p.ep p.endpoint p p.line.slot symbol m (line_part p symbol down used within) (record { subframe = g.fits.subframe; slot = g.slot }) below end.0 end.1 in
      let n = part_message c ps DownData p.ep p.endpoint x there in
      let k = get_in n.0 (messages_of c ps DownData p.ep p.endpoint) n.1 in
      let a : IsHere p.ep k.0 = record {
        e = p.endpoint;
        at = g.at;
        n = n.0;
        got = k.1;
        there = n.1;
        number = message_number c lines h.config h.lines_fit h.valid h.check text p.ep p.endpoint k.0 n.0 k.1;
      } in
      part_sent p.ep k.0 a x n.2
    where
      under : (s m n : ℕ) → s < m → m ≤ n → s < n
      under s m n k l = omega (arith, k, l)
