-- A message of proper jobs can be sent.
use Rattle.std.proofs.Common.{◌≡◌, ℕ, ◌+◌, ◌<◌, ◌≤◌, ◌^◌, List, [], ◌∷◌, All, map, length, sum, refl, sym, ap, ap₂, ◌∙◌, arith, get_or, ℤ, pos, neg_ℤ, ◌≤ℤ◌}
use Rattle.std.proofs.lemmas.Int.{ints}
use Rattle.std.specs.List.{slice_get}
use Rattle.std.specs.Option.{option_map_or}
use Rattle.std.proofs.lemmas.List.Elements.{All-head, All-map, All-tail}
use Rattle.std.proofs.lemmas.List.Sums.{sum_by-cons}
use Rattle.std.proofs.lemmas.Option.{get_or_from_slice_get, slice_get_within}
use Rattle.uplink_path.specs.Emitting.{AreNumbered}
use Rattle.uplink_path.specs.Opened.{IsProperMessage, IsPartOf}
use Rattle.uplink_path.specs.Packing.{IsPacked, sections_in}
use Rattle.uplink_path.specs.Sending.{CanBeSent}
use Rattle.uplink_path.specs.declared.pending.Pending.{Pending}
use Rattle.uplink_path.specs.declared.uplink.Uplink.{Uplink}
use Rattle.frame_bytes.specs.declared.messages.DataSection.{DataSection}
use Rattle.fh_base.proofs.Order.{slots_few, symbols_few}
use Rattle.window_config.specs.Endpoints.{IsEndpoint}
use Rattle.window_config.specs.declared.config.Config.{Config}
use Rattle.window_config.specs.declared.endpoints.EndpointConfig.{EndpointConfig}
use Rattle.unit_model.specs.Proper.{IsAt}
use Rattle.unit_model.specs.declared.jobs.UplinkJob.{UplinkJob}
use Rattle.plan_model.specs.Packs.{Message, parts_of}
use Rattle.plan_model.specs.Streams.{section_size}
use Rattle.plan_model.specs.declared.sizes.MessageSize.{MessageSize}
use Rattle.frame_bytes.specs.Messages.{SectionFits, message_size, sections_size}
use Rattle.uplink_model.specs.Frames.{section_of}
use Rattle.uplink_model.specs.Messages.{job_fields}
use Rattle.fh_base.specs.declared.symbols.TheConstants.{SLOT_SYMBOLS}
use Rattle.fh_base.specs.declared.frames.TheConstants.{FRAME}
use Rattle.frame_bytes.specs.Headers.{carrier_of}

-- the size of one section
one_size : (es : List EndpointConfig) (e : EndpointConfig) (ep : ℕ) (j : UplinkJob) → IsAt es ep e → j.ep ≡ ep → (job_fields es).size j ≡ section_size e j.num_prb
one_size es e ep j at same = ap (λ (k : ℕ). option_map_or (λ x. section_size x j.num_prb) (slice_get es k) 0) same ∙ ap (λ o. option_map_or (λ x. section_size x j.num_prb) o 0) at

sum_next : (f : UplinkJob → ℕ) (j : UplinkJob) (js : List UplinkJob) → sum (map f (j ∷ js)) ≡ f j + sum (map f js)
sum_next f j js = sum_by-cons (λ (n : ℕ). n) (f j) (map f js)

-- the sizes of sections of one endpoint
pub sizes : (es : List EndpointConfig) (e : EndpointConfig) (ep : ℕ) (js : List UplinkJob) → IsAt es ep e → All (IsPartOf e ep) js
    → sum (map (job_fields es).size js) ≡ sections_size (carrier_of e) (map section_of js)
sizes es e ep [] at all = refl
sizes es e ep (j ∷ js) at all =
    sum_next (job_fields es).size j js
    ∙ ap₂ (λ (a b : ℕ). a + b) (one_size es e ep j at (All-head (IsPartOf e ep) j js all).ep_is) (sizes es e ep js at (All-tail (IsPartOf e ep) j js all))

one_fits : (e : EndpointConfig) (ep : ℕ) (j : UplinkJob) → IsPartOf e ep j → SectionFits (carrier_of e) (section_of j)
one_fits e ep j is = record { id = omega arith; start_prb = is.start_prb; within = is.prbs }

pub all_fit : (e : EndpointConfig) (ep : ℕ) (js : List UplinkJob) → All (IsPartOf e ep) js → All (SectionFits (carrier_of e)) (map section_of js)
all_fit e ep js all k d below = All-map (SectionFits (carrier_of e)) section_of js (λ i x lt. one_fits e ep _ (all i x lt)) k d below

-- the endpoint of a message, as it is read
pub endpoint_read : (es : List EndpointConfig) (ep at : ℕ) (e x : EndpointConfig) → IsAt es ep e → at ≡ ep → x ≡ get_or es at x → x ≡ e
endpoint_read es ep at e x is same read = read ∙ ap (λ (k : ℕ). get_or es k x) same ∙ get_or_from_slice_get es ep e x is

pub within_16 : (es : List EndpointConfig) (ep : ℕ) (e : EndpointConfig) → IsAt es ep e → length es ≤ 16 → ep < 16
within_16 es ep e is few = omega (arith, slice_get_within es ep e is, few)

pub size_is : (c : Config) (p : Pending) (m : Message UplinkJob) (proper : IsProperMessage c m) → IsPacked c p m
    → p.size.bytes ≡ message_size (carrier_of proper.first.endpoint) (sections_in p)
size_is c p m proper packed =
    ap (λ (s : MessageSize). s.bytes) packed.size ∙ ap (λ (n : ℕ). 4 + n) (sizes c.endpoints proper.first.endpoint m.first.ep (parts_of m) proper.first.endpoint_is proper.parts)
    ∙ ap (λ (ss : List DataSection). message_size (carrier_of proper.first.endpoint) ss) (sym packed.sections)

low_56 : (a : ℤ) → neg_ℤ FRAME ≤ℤ a → neg_ℤ (pos (2 ^ 56)) ≤ℤ a
low_56 a is = omega (arith, ints, is)

high_56 : (a to : ℤ) → a ≤ℤ to → to ≤ℤ pos (2 ^ 53) → a ≤ℤ pos (2 ^ 56)
high_56 a to is high = omega (arith, ints, is, high)

pub can_be_sent : {F : Type 0} (c : Config) (u : Uplink F) (ms : List (Message UplinkJob)) (p : Pending) (m : Message UplinkJob) (e : EndpointConfig)
    → AreNumbered c u ms → IsPacked c p m → (proper : IsProperMessage c m) → e ≡ proper.first.endpoint → IsEndpoint e → CanBeSent u.rules e p
can_be_sent c u ms p m e n packed proper is good =
    let first = proper.first in
    let n14 = (symbols_few first.endpoint.numerology).1 in
    let n16 = (slots_few first.endpoint.numerology).1 in
    let symbol : p.first.symbol < SLOT_SYMBOLS = rw packed.first (omega (arith, first.symbol, n14)) in
    let size : p.size.bytes ≡ message_size (carrier_of e) (sections_in p) = rw is (size_is c p m proper packed) in
    record {
      rules = n.kept;
      endpoint = good;
      low = rw packed.first (low_56 m.first.s.0 first.low);
      high = rw packed.first (high_56 m.first.s.0 proper.to first.high proper.high);
      symbol = symbol;
      count = rw packed.size proper.few;
      fits = record {
        head = record {
          filter = omega arith;
          subframe = rw packed.first (omega (arith, first.slot.subframe));
          slot = rw packed.first (omega (arith, first.slot.slot_is, n16));
          symbol = omega (arith, symbol);
        };
        width = good.width;
        sections = rw (packed.sections, is) (all_fit first.endpoint m.first.ep (parts_of m) proper.parts);
        size = let bytes = ap (λ (s : MessageSize). s.bytes) packed.size in omega (arith, size, bytes, proper.size);
      };
      size = size;
    }
