-- The parts and messages of a plan's uplink stream.
use Rattle.std.proofs.Common.{◌≡◌, ℕ, pos, ◌+◌, ◌<◌, ◌≤◌, ◌+ℤ◌, ◌≤ℤ◌, ◌<ℤ◌, ◌⊎◌, inl, inr, Bool, true, false, not, ◌==◌, if◌then◌else◌, List, [], ◌∷◌, Some, refl, ap, ap₂, sym, ◌∙◌, subst, arith}
use Rattle.std.specs.Prelude.{All, filter, slice_get}
use Rattle.std.proofs.lemmas.Bool.{and_from, and_parts, eq-eqb, eqb-true}
use Rattle.fh_base.specs.Air.{air_of}
use Rattle.fh_base.specs.Numbering.{IsSlotOf, symbols_of}
use Rattle.fh_base.specs.declared.values.Slot.{Slot}
use Rattle.window_config.specs.Configs.{IsConfig}
use Rattle.window_config.specs.Plans.{IsPlanLine}
use Rattle.window_config.specs.declared.config.Config.{Config}
use Rattle.window_config.specs.declared.endpoints.EndpointConfig.{EndpointConfig}
use Rattle.window_config.specs.declared.plan.PlanLine.{PlanLine}
use Rattle.unit_model.specs.Claims.{is_from, same_slot}
use Rattle.unit_model.specs.Commands.{is_uplink as is_sent_up}
use Rattle.fh_base.specs.Lists.{in_order, put_in}
use Rattle.unit_model.specs.Proper.{IsAt}
use Rattle.unit_model.specs.Radiated.{first_clock}
use Rattle.unit_model.specs.Times.{end_of_time}
use Rattle.unit_model.specs.Uplink.{sends_in}
use Rattle.unit_laws.proofs.FarLemmas.{endpoints_equal}
use Rattle.plan_model.specs.Departures.{start_of_part}
use Rattle.plan_model.specs.Lines.{line_allocation, is_down_kind, is_idle_kind, planned, is_up_line}
use Rattle.plan_model.specs.Packs.{Numbered, packs, parts_of, size_of}
use Rattle.plan_model.specs.Streams.{Part, frames_in, line_before, messages_of, part_fields, part_in, parts_in, symbol_parts}
use Rattle.plan_model.specs.Valid.{IsValid}
use Rattle.plan_model.specs.declared.lines.PlannedLine.{PlannedLine}
use Rattle.plan_model.specs.declared.streams.Stream.TheVariants.{UpData}
use Rattle.schedule_laws.proofs.FlowLemmas.{section_short}
use Rattle.plan_model.proofs.LineLemmas.{IsGoodLine, good, start_in_time}
use Rattle.plan_model.proofs.SweptLists.{in_symbols, of_symbols}
use Rattle.schedule_laws.proofs.OrderLemmas.{all_short, number_is, one_symbol}
use Rattle.plan_model.proofs.SchedulePackLemmas.{message_from}
use Rattle.plan_model.proofs.SentLemmas.{message_part, part_message}
use Rattle.plan_model.proofs.TimeLemmas.{in_end}
use Rattle.sent_frames.proofs.MessageFacts.{IsGoodMessage, IsGoodPart}
use Rattle.uplink_laws.proofs.ListLemmas.{of_order}
use Rattle.unit_model.proofs.ClaimLemmas.{same_slot_is as slots_equal, slot_self as slot_own, from_within}
use Rattle.ecpri_fragments.specs.declared.place.TheConstants.{MESSAGE_BYTES}
use Rattle.uplink_laws.proofs.JobLemmas.{up_sent}
use Rattle.fh_base.specs.Members.{IsIn}
use Rattle.fh_base.proofs.MemberLemmas.{in_filter, of_filter}
use Rattle.fh_base.proofs.MadeLists.{in_map, of_map}

-- ---- in an order

in_put : {X : Type 0} (below : X → X → Bool) (x z : X) (ys : List X) → (z ≡ x) ⊎ IsIn z ys → IsIn z (put_in below x ys)
unfolding put_in
in_put below x z [] m = m
in_put below x z (y ∷ ys) m = go (below y x) (in_put below x z ys)
  where
    go : (b : Bool) → ((z ≡ x) ⊎ IsIn z ys → IsIn z (put_in below x ys)) → IsIn z (if b then y ∷ put_in below x ys else x ∷ y ∷ ys)
    go true rest = elim m [ inl e ↦ inr (rest (inl e)) | inr t ↦ elim t [ inl e ↦ inl e | inr u ↦ inr (rest (inr u)) ] ]
    go false rest = m

into_order : {X : Type 0} (below : X → X → Bool) (z : X) (xs : List X) → IsIn z xs → IsIn z (in_order below xs)
unfolding in_order
into_order below z [] m = m
into_order below z (x ∷ xs) m = in_put below x z (in_order below xs) (elim m [ inl e ↦ inl e | inr t ↦ inr (into_order below z xs t) ])

-- ---- kinds of lines

-- what an uplink line names is sent for
pub line_sent : (p : PlannedLine) → is_up_line p ≡ true → is_sent_up (line_allocation p) ≡ true
line_sent p h = up_sent p.line.kind h

-- ---- parts

-- a part is a line in a symbol in which it is sent for
record Sends (ps : List PlannedLine) (ep : ℕ) (e : EndpointConfig) (x : Part) : Type 0 where
  slot : Slot
  from : IsIn x.planned ps
  sends : sends_in ep slot x.symbol (line_allocation x.planned) ≡ true
  is_symbol : x.symbol < symbols_of e.numerology

-- the line and the symbol that a part is of
pub record PartFacts (es : List EndpointConfig) (ps : List PlannedLine) (ep : ℕ) (e : EndpointConfig) (x : Part) : Type 0 where
  pub from : IsIn x.planned ps
  pub line : IsGoodLine es x.planned
  pub ep_is : x.planned.ep ≡ ep
  pub endpoint : x.planned.endpoint ≡ e
  pub below : x.symbol < symbols_of x.planned.endpoint.numerology
  pub uplink : is_up_line x.planned ≡ true
  pub symbol : is_from x.planned.line.symbol x.planned.line.count x.symbol ≡ true

module _ (ps : List PlannedLine) (ep : ℕ) (e : EndpointConfig) where
  pub symbol_part : (slot : Slot) (symbol : ℕ) (x : Part) → IsIn x (symbol_parts UpData ps ep slot symbol)
      → IsIn x.planned ps × (sends_in ep slot symbol (line_allocation x.planned) ≡ true) × (x.symbol ≡ symbol)
  unfolding symbol_parts
  symbol_part slot symbol x m =
      let test = λ (p : PlannedLine). sends_in ep slot symbol (line_allocation p) in
      let w = of_map (part_in symbol) x (in_order line_before (filter test ps)) m in
      let y = of_filter test w.0 ps (of_order line_before w.0 (filter test ps) w.1) in (
        subst (λ (z : Part). IsIn z.planned ps) (sym w.2) y.0,
        subst (λ (z : Part). sends_in ep slot symbol (line_allocation z.planned) ≡ true) (sym w.2) y.1,
        ap (λ (z : Part). z.symbol) w.2,
      )

  part_of_symbol : (slot : Slot) (symbol : ℕ) → IsSlotOf e.numerology slot → symbol < symbols_of e.numerology → (x : Part) → IsIn x (symbol_parts UpData ps ep slot symbol) → Sends ps ep e x
  part_of_symbol slot symbol is h x m =
      let w = symbol_part slot symbol x m in
      record {
        slot = slot;
        from = w.0;
        sends = subst (λ y. sends_in ep slot y (line_allocation x.planned) ≡ true) (sym w.2) w.1;
        is_symbol = subst (λ y. y < symbols_of e.numerology) (sym w.2) h;
      }

  part_is : (x : Part) → IsIn x (parts_in ps UpData ep e) → Sends ps ep e x
  unfolding parts_in
  part_is x m = of_symbols (Sends ps ep e) (symbol_parts UpData ps ep) e part_of_symbol x m

  part_there : (p : PlannedLine) (slot : Slot) (symbol : ℕ) → IsIn p ps → sends_in ep slot symbol (line_allocation p) ≡ true → IsSlotOf e.numerology slot → symbol < symbols_of e.numerology
      → first_clock ≤ℤ air_of e.numerology slot symbol → air_of e.numerology slot symbol <ℤ (end_of_time +ℤ pos 1) → IsIn (part_in symbol p) (parts_in ps UpData ep e)
  unfolding parts_in symbol_parts
  part_there p slot symbol m has is h low high =
      let test = λ (q : PlannedLine). sends_in ep slot symbol (line_allocation q) in
      in_symbols (symbol_parts UpData ps ep) e slot symbol (part_in symbol p) is h low high
      (in_map (part_in symbol) p (in_order line_before (filter test ps)) (into_order line_before p (filter test ps) (in_filter test p ps m has)))

-- what a test for a symbol says of a line
pub record IsSentIn (p : PlannedLine) (ep : ℕ) (slot : Slot) (symbol : ℕ) : Type 0 where
  pub uplink : is_up_line p ≡ true
  pub ep_is : p.ep ≡ ep
  pub slot_is : p.line.slot ≡ slot
  pub within : is_from p.line.symbol p.line.count symbol ≡ true

pub sent_in : (p : PlannedLine) (ep : ℕ) (slot : Slot) (symbol : ℕ) → sends_in ep slot symbol (line_allocation p) ≡ true → IsSentIn p ep slot symbol
sent_in p ep slot symbol h =
    let one = and_parts (is_sent_up (line_allocation p)) _ h in
    let kind = and_parts (not (is_down_kind p.line.kind)) (not (is_idle_kind p.line.kind)) one.0 in
    let two = and_parts (p.ep == ep) _ one.1 in
    let three = and_parts (same_slot p.line.slot slot) (is_from p.line.symbol p.line.count symbol) two.1 in
    record { uplink = kind.0; ep_is = eqb-true p.ep ep two.0; slot_is = slots_equal p.line.slot slot three.0; within = three.1 }

own_sends : (p : PlannedLine) (symbol : ℕ) → is_up_line p ≡ true → is_from p.line.symbol p.line.count symbol ≡ true → sends_in p.ep p.line.slot symbol (line_allocation p) ≡ true
own_sends p symbol up within = and_from _ _ (line_sent p up) (and_from _ _ (eq-eqb p.ep p.ep refl) (and_from _ _ (slot_own p.line.slot) within))

-- ---- of a valid plan

module _ (c : Config) (lines : List PlanLine) (config : IsConfig c) (fit : All IsPlanLine lines) (valid : IsValid c lines) where
  abbrev ps : List PlannedLine
  ps = planned c.endpoints lines

  pub part_facts : (ep : ℕ) (e : EndpointConfig) (x : Part) → IsAt c.endpoints ep e → IsIn x (parts_in ps UpData ep e) → PartFacts c.endpoints ps ep e x
  part_facts ep e x at m =
      let p = part_is ps ep e x m in
      let g = good c lines config fit valid x.planned p.from in
      let s = sent_in x.planned ep p.slot x.symbol p.sends in
      let same = endpoints_equal c.endpoints x.planned.ep ep x.planned.endpoint e g.at at s.ep_is in
      record {
        from = p.from;
        line = g;
        ep_is = s.ep_is;
        endpoint = same;
        below = subst (λ (f : EndpointConfig). x.symbol < symbols_of f.numerology) (sym same) p.is_symbol;
        uplink = s.uplink;
        symbol = s.within;
      }

  pub message_facts : (ep : ℕ) (e : EndpointConfig) (n : Numbered Part) (x : Part) → IsAt c.endpoints ep e → IsIn n (messages_of c ps UpData ep e) → IsIn x (parts_of n.message)
      → PartFacts c.endpoints ps ep e x
  message_facts ep e n x at there m = part_facts ep e x at (message_part c ps UpData ep e n x there m)

  is_of : (ep : ℕ) (e : EndpointConfig) (n : Numbered Part) → IsIn n (messages_of c ps UpData ep e) → IsIn n.message (packs part_fields c.pack (parts_in ps UpData ep e))
  unfolding messages_of
  is_of ep e n m = message_from part_fields (frames_in c UpData) (packs part_fields c.pack (parts_in ps UpData ep e)) n m

  -- all its parts are the endpoint's, and of one slot and symbol
  pub good_message : (ep : ℕ) (e : EndpointConfig) (n : Numbered Part) → IsAt c.endpoints ep e → IsIn n (messages_of c ps UpData ep e) → IsGoodMessage c ep e n.message
  good_message ep e n at there =
      let one = λ (x : Part) (i : IsIn x (parts_of n.message)). and_parts (same_slot n.message.first.planned.line.slot x.planned.line.slot) (n.message.first.symbol == x.symbol)
      (one_symbol part_fields c.pack (parts_in ps UpData ep e) n.message (is_of ep e n there) x i) in
      record {
        each = λ x i.
            (let f = message_facts ep e n x at there i in
            let g : IsGoodPart c ep e x = record { line = f.line; ep_is = f.ep_is; endpoint_is = f.endpoint; symbol = subst (λ (d : EndpointConfig). x.symbol < symbols_of d.numerology) f.endpoint f.below } in
            g);
        slot = λ x i. slots_equal n.message.first.planned.line.slot x.planned.line.slot (one x i).0;
        symbol = λ x i. eqb-true n.message.first.symbol x.symbol (one x i).1;
      }

  pub message_short : (ep : ℕ) (e : EndpointConfig) (n : Numbered Part) → IsAt c.endpoints ep e → IsIn n (messages_of c ps UpData ep e) → size_of part_fields n.message ≤ MESSAGE_BYTES
  message_short ep e n at m =
      all_short part_fields c.pack (parts_in ps UpData ep e) n.message (λ x i. section_short c.endpoints x (part_facts ep e x at i).line) (is_of ep e n m)

  -- all parts of a message start when its first one does
  pub same_start : (ep : ℕ) (e : EndpointConfig) (n : Numbered Part) (x : Part) → IsAt c.endpoints ep e → IsIn n (messages_of c ps UpData ep e) → IsIn x (parts_of n.message)
      → start_of_part x ≡ start_of_part n.message.first
  same_start ep e n x at there m =
      let y = n.message.first in
      let g = good_message ep e n at there in
      ap (λ (d : EndpointConfig). air_of d.numerology x.planned.line.slot x.symbol) ((g.each x m).endpoint_is ∙ sym (g.each y (inl refl)).endpoint_is)
      ∙ ap₂ (λ (s : Slot) (z : ℕ). air_of y.planned.endpoint.numerology s z) (sym (g.slot x m)) (sym (g.symbol x m))

  pub message_number : (ep : ℕ) (e : EndpointConfig) (k : ℕ) (n : Numbered Part) → slice_get (messages_of c ps UpData ep e) k ≡ Some n → n.number ≡ k
  unfolding messages_of
  message_number ep e k n h = number_is part_fields (frames_in c UpData) (packs part_fields c.pack (parts_in ps UpData ep e)) k n h

  under : (s m n : ℕ) → s < m → m ≤ n → s < n
  under s m n k l = omega (arith, k, l)

  -- an uplink line is in a message in each of its symbols
  pub line_part : (p : PlannedLine) (symbol : ℕ) → IsIn p ps → is_up_line p ≡ true → is_from p.line.symbol p.line.count symbol ≡ true
      → IsAt c.endpoints p.ep p.endpoint × ((n : Numbered Part) × IsIn n (messages_of c ps UpData p.ep p.endpoint) × IsIn (part_in symbol p) (parts_of n.message))
  line_part p symbol m up within =
      let g = good c lines config fit valid p m in
      let high = from_within p.line.symbol p.line.count symbol within in
      let below = under symbol (p.line.symbol + p.line.count) (symbols_of p.endpoint.numerology) high g.within in
      let time = start_in_time c.endpoints p symbol g below in
      let end = in_end (air_of p.endpoint.numerology p.line.slot symbol) time.0 time.1 in
      let there = part_there ps p.ep p.endpoint p p.line.slot symbol m (own_sends p symbol up within) (record { subframe = g.fits.subframe; slot = g.slot }) below end.0 end.1 in
      (g.at, part_message c ps UpData p.ep p.endpoint (part_in symbol p) there)
