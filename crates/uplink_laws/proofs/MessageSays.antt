-- A message's bytes say the sections of its lines.
use Rattle.std.proofs.Common.{◌≡◌, ℕ, ℤ, pos, zero, suc, ◌+◌, ◌-◌, ◌<◌, ◌≤◌, ◌^◌, inl, inr, true, List, [], ◌∷◌, length, map, Some, None, refl, ap, sym, ◌∙◌, subst, arith}
use Rattle.std.specs.List.{slice_get, slice_index_or}
use Rattle.std.specs.Option.{option_map_or}
use Rattle.std.proofs.lemmas.Bool.{cases_lt}
use Rattle.std.proofs.lemmas.Option.{get_or_from_slice_get, slice_get-get_or}
use Rattle.fh_base.specs.Carrier.{count_of}
use Rattle.fh_base.specs.Numbering.{shape_of, slots_of}
use Rattle.fh_base.specs.declared.values.Slot.{Slot}
use Rattle.air_source.specs.declared.events.Side.TheVariants.{Ru}
use Rattle.bfp_codec.specs.Shrunk.{CanPack, shrunk}
use Rattle.bfp_codec.specs.declared.samples.Iq.{Iq}
use Rattle.uplane_sections.specs.Messages.{Head, Telling, told}
use Rattle.window_config.specs.declared.config.Config.{Config}
use Rattle.window_config.specs.declared.endpoints.EndpointConfig.{EndpointConfig}
use Rattle.unit_model.specs.Claims.{cell_at, first_prb, is_from, prb_count}
use Rattle.unit_model.specs.Decoding.{Gathering, SectionBlocks as ReadPart, Sections, data_with, decode, decoded_from, gathered, nothing_told}
use Rattle.fh_base.specs.Lists.{onto}
use Rattle.unit_model.specs.declared.decoded.UserSection.{UserSection}
use Rattle.plan_model.specs.Lines.{line_allocation}
use Rattle.plan_model.specs.Packs.{Message, parts_of, size_of}
use Rattle.plan_model.specs.Streams.{Part, part_fields}
use Rattle.frame_bytes.specs.Messages.{message_of}
use Rattle.frame_bytes.specs.Reading.{IsReadable, sections_items}
use Rattle.frame_bytes.specs.declared.messages.Carrier.{Carrier}
use Rattle.frame_bytes.specs.declared.messages.DataSection.{DataSection}
use Rattle.frame_bytes.proofs.ReadBack.{message_told}
use Rattle.schedule_laws.specs.Data.{AreSections, Blocks, IsDataFor}
use Rattle.uplink_laws.specs.Frames.{blocks_of}
use Rattle.sent_frames.specs.Messages.{Source, data_head, data_section, message_bytes, message_samples, part_samples}
use Rattle.uplink_laws.proofs.Gathered.{block_in, read_part, read_parts, sections_gathered, shrunk_blocks}
use Rattle.uplink_laws.proofs.LineFields.{at_most_nine, frame_id_is, frame_id_small}
use Rattle.sent_frames.proofs.MessageFacts.{IsGoodMessage, IsGoodPart, all_map, message_fits}
use Rattle.frame_bytes.specs.Headers.{frame_id_of, carrier_of}
use Rattle.unit_model.proofs.ClaimLemmas.{starts_before as from_low, from_within as from_high}
use Rattle.ecpri_fragments.specs.declared.place.TheConstants.{MESSAGE_BYTES}
use Rattle.fh_base.specs.Members.{IsIn}
use Rattle.fh_base.proofs.MadeLists.{at_in}

-- what is at a place of a list is in it, or what is answered past its end
in_or : {X : Type 0} (xs : List X) (k : ℕ) (d : X) → IsIn d xs → IsIn (slice_index_or xs k d) xs
in_or xs k d m = elim (cases_lt k (length xs)) [
  | inl below ↦ at_in k (slice_index_or xs k d) xs (slice_get-get_or xs k d below)
  | inr above ↦ subst (λ x. IsIn x xs) (sym (past xs k d above)) m
]
  where
    past : {X : Type 0} (xs : List X) (k : ℕ) (d : X) → length xs ≤ k → slice_index_or xs k d ≡ d
    past [] k d h = refl
    past (x ∷ xs) zero d h = absurd (omega (arith, h))
    past (x ∷ xs) (suc k) d h = past xs k d (omega (arith, h))

pub the_place : (first n : ℕ) → first ≤ n → first + (n - first) ≡ n
the_place first n h = omega (arith, h)

pub in_count : (first count n : ℕ) → first ≤ n → n < first + count → n - first < count
in_count first count n h k = omega (arith, h, k)

no_step : (place : ℕ) → place + 0 ≡ place
no_step place = omega arith

one_step : (place k : ℕ) → place + suc k ≡ (place + 1) + k
one_step place k = omega arith

-- ---- sections, the newest first

module _ (blocks : Blocks) (first last : ℤ) (as_data : ReadPart → UserSection) (at_first : (p : ReadPart) → (as_data p).first.0 ≡ first) (at_last : (p : ReadPart) → (as_data p).last.0 ≡ last) where
  sections_are : (k : Carrier) (symbol : ℕ) (source : ℕ → ℕ → List Iq) (xs : List Part) (ps : List ReadPart) (rest : List Part) (place : ℕ)
      → AreSections blocks first last xs (map as_data ps)
      → ((j : ℕ) (x : Part) → slice_get rest j ≡ Some x → IsDataFor blocks x (as_data (read_part k symbol (source (place + j)) (data_section x))))
      → AreSections blocks first last (onto xs rest) (map as_data (onto ps (read_parts k symbol source place (map data_section rest))))
  unfolding onto
  sections_are k symbol source xs ps [] place before h = before
  sections_are k symbol source xs ps (x ∷ rest) place before h =
      let r = read_part k symbol (source place) (data_section x) in
      let here : IsDataFor blocks x (as_data r) = subst (λ j. IsDataFor blocks x (as_data (read_part k symbol (source j) (data_section x)))) (no_step place) (h 0 x refl) in
      sections_are k symbol source (x ∷ xs) (r ∷ ps) rest (place + 1) (here, at_first r, at_last r, before)
      (λ j y got. subst (λ i. IsDataFor blocks y (as_data (read_part k symbol (source i) (data_section y)))) (one_step place j) (h (suc j) y got))

-- ---- a message of an endpoint

module _ (c : Config) (ep : ℕ) (e : EndpointConfig) (source : Source) (m : Message Part) (g : IsGoodMessage c ep e m) (nums : (x : Part) → IsIn x (parts_of m) → x.planned.line.num_prb < 2 ^ 8) (short : size_of part_fields m ≤ MESSAGE_BYTES) (can : (slot : Slot) (symbol prb : ℕ) → CanPack e.format.method (source (cell_at ep true slot symbol prb))) where
  one : IsGoodPart c ep e m.first
  one = g.each m.first (inl refl)

  can_be_packed : (place prb : ℕ) → CanPack e.format.method (message_samples source m place prb)
  can_be_packed place prb =
      let x = slice_index_or (parts_of m) place m.first in
      let p = g.each x (in_or (parts_of m) place m.first (inl refl)) in
      subst (λ k. CanPack e.format.method (source (cell_at k true x.planned.line.slot x.symbol prb))) (sym p.ep_is) (can x.planned.line.slot x.symbol prb)

  readable : IsReadable (carrier_of e) (shape_of e.numerology) (message_samples source m) (data_head m.first) (map data_section (parts_of m))
  readable = record {
    fits = message_fits c ep e m g short;
    frame_id = frame_id_small m.first.planned.line.slot.frame;
    num_prbs = all_map (λ (s : DataSection). s.num_prb < 2 ^ 8) data_section (parts_of m) nums;
    admitted = record {
      subframe = at_most_nine m.first.planned.line.slot.subframe one.line.fits.subframe;
      slot = subst (λ (f : EndpointConfig). m.first.planned.line.slot.slot < slots_of f.numerology) one.endpoint_is one.line.slot;
      symbol = one.symbol;
    };
    can = can_be_packed;
  }

  abbrev telling : Telling
  telling = record {
    items = Head (data_head m.first) ∷ sections_items (carrier_of e) m.first.symbol (message_samples source m) 0 (map data_section (parts_of m));
    refusal = None;
  }

  is_told : told e.format e.prbs (shape_of e.numerology) (message_bytes source m) ≡ telling
  is_told =
      ap (λ (f : EndpointConfig). told e.format e.prbs (shape_of e.numerology) (message_of (carrier_of f) (message_samples source m) (data_head m.first) (map data_section (parts_of m)))) one.endpoint_is
      ∙ message_told (carrier_of e) (shape_of e.numerology) (message_samples source m) (data_head m.first) (map data_section (parts_of m)) readable

  abbrev pub as_data : ℤ → ℤ → ReadPart → UserSection
  as_data first last = data_with ep e first last (data_head m.first)

  abbrev pub sections_read : ℤ → ℤ → List UserSection
  sections_read first last = map (as_data first last) (onto [] (read_parts (carrier_of e) m.first.symbol (message_samples source m) 0 (map data_section (parts_of m))))

  pub is_decoded : (first last : ℤ) → decode Ru ep e first last (message_bytes source m) ≡ Sections (sections_read first last)
  unfolding decode gathered
  is_decoded first last =
      ap (λ (t : Telling). decoded_from Ru ep e first last (gathered nothing_told t.items) t.refusal) is_told
      ∙ ap (λ (w : Gathering). decoded_from Ru ep e first last w None)
      (sections_gathered (Some (data_head m.first)) [] (carrier_of e) m.first.symbol (message_samples source m) 0 (map data_section (parts_of m)))

  -- the samples of a part's PRB
  samples_at : (k : ℕ) (x : Part) → slice_get (parts_of m) k ≡ Some x → (n : ℕ) → message_samples source m k n ≡ source (cell_at x.planned.ep true x.planned.line.slot x.symbol n)
  samples_at k x got n = ap (λ (y : Part). part_samples source y n) (get_or_from_slice_get (parts_of m) k x m.first got)

  block_of : (x : Part) → IsIn x (parts_of m) → (n : ℕ) → blocks_of c source (cell_at x.planned.ep true x.planned.line.slot x.symbol n)
      ≡ shrunk e.format.method (source (cell_at x.planned.ep true x.planned.line.slot x.symbol n))
  block_of x i n =
      let p = g.each x i in
      let cell = cell_at x.planned.ep true x.planned.line.slot x.symbol n in
      ap (λ o. option_map_or (λ (f : EndpointConfig). shrunk f.format.method (source cell)) o []) p.line.at
      ∙ ap (λ (f : EndpointConfig). shrunk f.format.method (source cell)) p.endpoint_is

  samples_are : (k : ℕ) (x : Part) → slice_get (parts_of m) k ≡ Some x → (n : ℕ) → is_from (first_prb (line_allocation x.planned)) (prb_count (line_allocation x.planned)) n ≡ true
      → slice_index_or (shrunk_blocks e.format.method (message_samples source m k) (first_prb (line_allocation x.planned)) (count_of e.prbs x.planned.line.num_prb)) (n - first_prb (line_allocation x.planned)) []
      ≡ blocks_of c source (cell_at x.planned.ep true x.planned.line.slot x.symbol n)
  samples_are k x got n h =
      let i = at_in k x (parts_of m) got in
      let first = first_prb (line_allocation x.planned) in
      let count = prb_count (line_allocation x.planned) in
      let low = from_low first count n h in
      let same : count ≡ count_of e.prbs x.planned.line.num_prb = ap (λ (f : EndpointConfig). count_of f.prbs x.planned.line.num_prb) (g.each x i).endpoint_is in
      let inside = subst (λ j. n - first < j) same (in_count first count n low (from_high first count n h)) in
      block_in e.format.method (message_samples source m k) first (count_of e.prbs x.planned.line.num_prb) (n - first) inside
      ∙ ap (λ j. shrunk e.format.method (message_samples source m k j)) (the_place first n low)
      ∙ ap (shrunk e.format.method) (samples_at k x got n)
      ∙ sym (block_of x i n)

  data_for : (first last : ℤ) (k : ℕ) (x : Part) → slice_get (parts_of m) k ≡ Some x
      → IsDataFor (blocks_of c source) x (as_data first last (read_part (carrier_of e) m.first.symbol (message_samples source m k) (data_section x)))
  data_for first last k x got =
      let i = at_in k x (parts_of m) got in
      let p = g.each x i in
      record {
        ep = sym p.ep_is;
        endpoint = sym p.endpoint_is;
        down = refl;
        frame_id = ap (λ (s : Slot). pos (frame_id_of s.frame)) (g.slot x i) ∙ frame_id_is x.planned.line.slot.frame;
        subframe = ap (λ (s : Slot). s.subframe) (g.slot x i);
        slot = ap (λ (s : Slot). s.slot) (g.slot x i);
        id = refl;
        symbol = g.symbol x i;
        start_prb = refl;
        num_prb = refl;
        samples = samples_are k x got;
      }

  no_places : (j : ℕ) → j ≡ 0 + j
  no_places j = omega arith

  pub are_sections : (first last : ℤ) → AreSections (blocks_of c source) first last (onto [] (parts_of m)) (sections_read first last)
  are_sections first last =
      sections_are (blocks_of c source) first last (as_data first last) (λ p. refl) (λ p. refl) (carrier_of e) m.first.symbol (message_samples source m) [] [] (parts_of m) 0 tt
      (λ j x got. subst (λ k. IsDataFor (blocks_of c source) x (as_data first last (read_part (carrier_of e) m.first.symbol (message_samples source m k) (data_section x)))) (no_places j) (data_for first last j x got))
