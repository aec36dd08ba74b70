-- What is known of the messages of a valid plan and of their parts.
use Rattle.std.proofs.Common.{◌≡◌, ℕ, ◌+◌, ◌<◌, ◌≤◌, ◌^◌, inl, inr, ◌==◌, List, [], ◌∷◌, length, map, Some, refl, ap, ap₂, sym, ◌∙◌, subst, arith}
use Rattle.std.specs.Prelude.{All, sum}
use Rattle.std.proofs.lemmas.List.Elements.{All-cons}
use Rattle.bfp_codec.specs.Layout.{HasWidth}
use Rattle.fh_base.specs.Carrier.{is_outside}
use Rattle.fh_base.proofs.Order.{symbols_few}
use Rattle.std.specs.List.{slice_get}
use Rattle.std.specs.Option.{option_map_or}
use Rattle.std.proofs.lemmas.Bool.{and_parts, eqb-true}
use Rattle.std.proofs.lemmas.List.Sums.{sum_by-cons}
use Rattle.fh_base.specs.Numbering.{symbols_of}
use Rattle.window_config.specs.Configs.{IsConfig}
use Rattle.window_config.specs.Plans.{IsPlanLine}
use Rattle.window_config.specs.declared.config.Config.{Config}
use Rattle.window_config.specs.declared.endpoints.EndpointConfig.{EndpointConfig}
use Rattle.window_config.specs.declared.plan.PlanLine.{PlanLine}
use Rattle.unit_model.specs.Claims.{same_slot}
use Rattle.unit_model.specs.Proper.{IsAt}
use Rattle.unit_laws.proofs.FarLemmas.{endpoints_equal}
use Rattle.plan_model.specs.Lines.{planned}
use Rattle.plan_model.specs.Packs.{Message, Numbered, packs, parts_of, size_of}
use Rattle.plan_model.specs.Streams.{Part, frames_in, messages_of, part_fields, parts_in, section_size as plan_section_size}
use Rattle.plan_model.specs.Valid.{IsValid}
use Rattle.plan_model.specs.declared.lines.PlannedLine.{PlannedLine}
use Rattle.plan_model.specs.declared.streams.Stream.{Stream}
use Rattle.plan_model.specs.declared.streams.Stream.TheVariants.{DownData}
use Rattle.frame_bytes.specs.Messages.{MessageFits, SectionFits, message_size, sections_size}
use Rattle.frame_bytes.proofs.Sections.{length_message}
use Rattle.schedule_laws.specs.Flows.{messages_at}
use Rattle.schedule_laws.proofs.FlowLemmas.{section_short}
use Rattle.plan_model.proofs.LineLemmas.{IsGoodLine, line_good, part_line}
use Rattle.schedule_laws.proofs.OrderLemmas.{all_short, number_is, one_symbol}
use Rattle.plan_model.proofs.SchedulePackLemmas.{message_from}
use Rattle.plan_model.proofs.SentLemmas.{IsSentStream, message_part, part_is}
use Rattle.sent_frames.specs.Messages.{Source, data_head, data_section, message_bytes, message_samples}
use Rattle.fh_base.specs.declared.symbols.TheConstants.{SLOT_SYMBOLS}
use Rattle.frame_bytes.specs.Headers.{carrier_of}
use Rattle.unit_model.proofs.ClaimLemmas.{same_slot_is as slots_equal}
use Rattle.ecpri_fragments.specs.declared.place.TheConstants.{MESSAGE_BYTES}
use Rattle.fh_base.specs.Members.{IsIn}
use Rattle.fh_base.proofs.MemberLemmas.{get_in}

-- a part of a message of an endpoint
pub record IsGoodPart (c : Config) (ep : ℕ) (e : EndpointConfig) (x : Part) : Type 0 where
  pub line : IsGoodLine c.endpoints x.planned
  pub ep_is : x.planned.ep ≡ ep
  pub endpoint_is : x.planned.endpoint ≡ e
  pub symbol : x.symbol < symbols_of e.numerology

-- all parts are the endpoint's, and of one slot and symbol
pub record IsGoodMessage (c : Config) (ep : ℕ) (e : EndpointConfig) (m : Message Part) : Type 0 where
  pub each : (x : Part) → IsIn x (parts_of m) → IsGoodPart c ep e x
  pub slot : (x : Part) → IsIn x (parts_of m) → m.first.planned.line.slot ≡ x.planned.line.slot
  pub symbol : (x : Part) → IsIn x (parts_of m) → m.first.symbol ≡ x.symbol

module _ (c : Config) (lines : List PlanLine) (config : IsConfig c) (fit : All IsPlanLine lines) (valid : IsValid c lines) where
  abbrev ps : List PlannedLine
  ps = planned c.endpoints lines

  pub good_part : (stream : Stream) → IsSentStream stream → (ep : ℕ) (e : EndpointConfig) (n : Numbered Part) (x : Part) → IsAt c.endpoints ep e → IsIn n (messages_of c ps stream ep e)
      → IsIn x (parts_of n.message) → IsGoodPart c ep e x
  good_part stream is_sent ep e n x at m i =
      let part = part_is ps stream is_sent ep e x (message_part c ps stream ep e n x m i) in
      let line = line_good c lines config fit valid x.planned part.from in
      let place = part_line stream is_sent x.planned ep part.slot x.symbol part.has in
      record {
        line = line;
        ep_is = place.ep_is;
        endpoint_is = endpoints_equal c.endpoints x.planned.ep ep x.planned.endpoint e line.at at place.ep_is;
        symbol = part.is_symbol;
      }

  is_of : (ep : ℕ) (e : EndpointConfig) (n : Numbered Part) → IsIn n (messages_of c ps DownData ep e) → IsIn n.message (packs part_fields c.pack (parts_in ps DownData ep e))
  unfolding messages_of
  is_of ep e n m = message_from part_fields (frames_in c DownData) (packs part_fields c.pack (parts_in ps DownData ep e)) n m

  pub good_message : (ep : ℕ) (e : EndpointConfig) (n : Numbered Part) → IsAt c.endpoints ep e → IsIn n (messages_of c ps DownData ep e) → IsGoodMessage c ep e n.message
  good_message ep e n at m =
      let one = λ (x : Part) (i : IsIn x (parts_of n.message)). and_parts (same_slot n.message.first.planned.line.slot x.planned.line.slot) (n.message.first.symbol == x.symbol)
      (one_symbol part_fields c.pack (parts_in ps DownData ep e) n.message (is_of ep e n m) x i) in
      record {
        each = λ x i. good_part DownData tt ep e n x at m i;
        slot = λ x i. slots_equal n.message.first.planned.line.slot x.planned.line.slot (one x i).0;
        symbol = λ x i. eqb-true n.message.first.symbol x.symbol (one x i).1;
      }

  pub message_short : (ep : ℕ) (e : EndpointConfig) (n : Numbered Part) → IsAt c.endpoints ep e → IsIn n (messages_of c ps DownData ep e) → size_of part_fields n.message ≤ MESSAGE_BYTES
  message_short ep e n at m =
      all_short part_fields c.pack (parts_in ps DownData ep e) n.message
      (λ x i. section_short c.endpoints x (line_good c lines config fit valid x.planned (part_is ps DownData tt ep e x i).from))
      (is_of ep e n m)

  got_number : (ep : ℕ) (e : EndpointConfig) (k : ℕ) (n : Numbered Part) → slice_get (messages_of c ps DownData ep e) k ≡ Some n → n.number ≡ k
  unfolding messages_of
  got_number ep e k n h = number_is part_fields (frames_in c DownData) (packs part_fields c.pack (parts_in ps DownData ep e)) k n h

  -- a message is at its number
  pub got_message : (ep : ℕ) (e : EndpointConfig) (n : Numbered Part) → IsAt c.endpoints ep e → IsIn n (messages_of c ps DownData ep e) → slice_get (messages_at c ps ep) n.number ≡ Some n
  got_message ep e n at m =
      let w = get_in n (messages_of c ps DownData ep e) m in
      let here : messages_at c ps ep ≡ messages_of c ps DownData ep e = ap (λ o. option_map_or (λ (f : EndpointConfig). messages_of c ps DownData ep f) o []) at in
      ap (λ (ns : List (Numbered Part)). slice_get ns n.number) here
      ∙ ap (λ k. slice_get (messages_of c ps DownData ep e) k) (got_number ep e w.0 n w.1) ∙ w.1

-- ---- sizes

sections_sum : (e : EndpointConfig) (xs : List Part) → ((x : Part) → IsIn x xs → x.planned.endpoint ≡ e) → sections_size (carrier_of e) (map data_section xs) ≡ sum (map part_fields.size xs)
sections_sum e [] h = refl
sections_sum e (x ∷ xs) h =
    ap₂ (λ a b. a + b) (ap (λ (f : EndpointConfig). plan_section_size f x.planned.line.num_prb) (sym (h x (inl refl)))) (sections_sum e xs (λ y i. h y (inr i)))
    ∙ sym (sum_by-cons (λ (n : ℕ). n) (part_fields.size x) (map part_fields.size xs))

pub message_size_is : (c : Config) (ep : ℕ) (e : EndpointConfig) (m : Message Part) → IsGoodMessage c ep e m → message_size (carrier_of e) (map data_section (parts_of m)) ≡ size_of part_fields m
message_size_is c ep e m g = ap (λ n. 4 + n) (sections_sum e (parts_of m) (λ x i. (g.each x i).endpoint_is))

-- the bytes of a message are as many as its plan says
pub length_bytes : (c : Config) (ep : ℕ) (e : EndpointConfig) (source : Source) (m : Message Part) → IsGoodMessage c ep e m → length (message_bytes source m) ≡ size_of part_fields m
length_bytes c ep e source m g =
    let f = m.first.planned.endpoint in
    let first = (g.each m.first (inl refl)).endpoint_is in
    length_message (carrier_of f) (message_samples source m) (data_head m.first) (map data_section (parts_of m))
    ∙ ap (λ n. 4 + n) (sections_sum f (parts_of m) (λ x i. (g.each x i).endpoint_is ∙ sym first))

-- ---- a message can be written

pub all_map : {X Y : Type 0} (P : Y → Type 0) (f : X → Y) (xs : List X) → ((x : X) → IsIn x xs → P (f x)) → All P (map f xs)
all_map P f [] h = λ k d below. absurd (omega (arith, below))
all_map P f (x ∷ xs) h = All-cons P (f x) (map f xs) (h x (inl refl)) (all_map P f xs (λ y i. h y (inr i)))

pub below_four : (n : ℕ) → n < 10 → n < 2 ^ 4
below_four n h = omega (arith, h)

below_six : (n k : ℕ) → n < k → k ≤ SLOT_SYMBOLS → n < 2 ^ 6
below_six n k h l = omega (arith, h, l)

module _ (c : Config) (ep : ℕ) (e : EndpointConfig) (m : Message Part) (g : IsGoodMessage c ep e m) (short : size_of part_fields m ≤ MESSAGE_BYTES) where
  one : IsGoodPart c ep e m.first
  one = g.each m.first (inl refl)

  section_fits : (x : Part) → IsIn x (parts_of m) → SectionFits (carrier_of e) (data_section x)
  section_fits x i =
      let p = g.each x i in
      record {
        id = p.line.fits.section;
        start_prb = p.line.fits.start_prb;
        within = ap (λ (f : EndpointConfig). is_outside f.prbs x.planned.line.start_prb x.planned.line.num_prb) (sym p.endpoint_is) ∙ p.line.prbs;
      }

  pub message_fits : MessageFits (carrier_of e) (data_head m.first) (map data_section (parts_of m))
  message_fits = record {
    head = record {
      filter = omega arith;
      subframe = below_four m.first.planned.line.slot.subframe one.line.fits.subframe;
      slot = one.line.fits.slot;
      symbol = below_six m.first.symbol (symbols_of e.numerology) one.symbol (symbols_few e.numerology).1;
    };
    width = subst (λ (f : EndpointConfig). HasWidth f.format.method) one.endpoint_is one.line.endpoint.width;
    sections = all_map (SectionFits (carrier_of e)) data_section (parts_of m) section_fits;
    size = subst (λ n. n ≤ MESSAGE_BYTES) (sym (message_size_is c ep e m g)) short;
  }
