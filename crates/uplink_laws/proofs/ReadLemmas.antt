-- What the distributed unit reads in the radio unit's frames for a plan.
use Rattle.std.proofs.Common.{◌≡◌, ℕ, ℤ, pos, ◌+◌, ◌-◌, ◌*◌, ◌%◌, ◌<◌, ◌≤◌, ◌^◌, ◌==◌, min, inl, inr, true, false, List, [], ◌∷◌, length, map, Option, Some, None, refl, ap, ap₂, sym, ◌∙◌, subst, arith}
use Rattle.std.specs.Prelude.{sum}
use Rattle.std.specs.List.{slice_index_or}
use Rattle.std.specs.Option.{option_map_or}
use Rattle.std.proofs.lemmas.Bool.{le-ltb}
use Rattle.std.proofs.lemmas.Nat.{mod_below}
use Rattle.std.proofs.Math.Nat.{mod-eq_of_lt}
use Rattle.fh_base.specs.Carrier.{count_of}
use Rattle.fh_base.specs.Numbering.{shape_of, slots_of}
use Rattle.fh_base.specs.declared.values.Slot.{Slot}
use Rattle.air_source.specs.Answers.{block_of}
use Rattle.air_source.specs.declared.events.Side.TheVariants.{Du}
use Rattle.bfp_codec.specs.Shrunk.{shrunk}
use Rattle.bfp_codec.specs.declared.samples.Iq.{Iq}
use Rattle.ecpri_fragments.specs.Generations.{Fragment}
use Rattle.ecpri_fragments.specs.declared.sequence.SeqField.{SeqField}
use Rattle.ecpri_frames.specs.Gathering.{whole_messages}
use Rattle.uplane_sections.specs.Messages.{Head, Telling, told}
use Rattle.uplane_sections.specs.declared.values.UHead.{UHead}
use Rattle.fragment_laws.specs.Flow.{size_to}
use Rattle.fragment_laws.specs.Once.{texts}
use Rattle.window_config.specs.declared.config.Config.{Config}
use Rattle.window_config.specs.declared.endpoints.EndpointConfig.{EndpointConfig}
use Rattle.window_config.specs.declared.plan.PlanLine.{PlanLine}
use Rattle.unit_model.specs.Claims.{cell_at, first_prb, is_from, prb_count}
use Rattle.unit_model.specs.Decoding.{Gathering, SectionBlocks as ReadPart, Sections, data_with, decode, decoded_from, gathered, nothing_told}
use Rattle.fh_base.specs.Lists.{onto}
use Rattle.unit_model.specs.Meetings.{Meeting, Piece, find_endpoint, fragment_of, fragment_with, meet, met_in}
use Rattle.unit_model.specs.Proper.{IsAt}
use Rattle.unit_model.specs.declared.decoded.UserSection.{UserSection}
use Rattle.plan_model.specs.Lines.{line_allocation, planned}
use Rattle.plan_model.specs.Packs.{Message, Numbered, parts_of, size_of}
use Rattle.plan_model.specs.Streams.{Part, frames_in, messages_of, part_fields, section_size}
use Rattle.plan_model.specs.declared.lines.PlannedLine.{PlannedLine}
use Rattle.plan_model.specs.declared.streams.Stream.TheVariants.{UpData}
use Rattle.plan_model.proofs.SizeLemmas.{few_pieces}
use Rattle.schedule_laws.specs.Data.{Blocks}
use Rattle.schedule_laws.proofs.FoundLemmas.{found}
use Rattle.plan_model.proofs.PlanLemmas.{line_of}
use Rattle.frame_bytes.specs.Cuts.{cut, piece_at}
use Rattle.frame_bytes.specs.Messages.{message_of}
use Rattle.frame_bytes.specs.Reading.{IsReadable, sections_items}
use Rattle.frame_bytes.specs.Transport.{IsTransport, frame_of}
use Rattle.frame_bytes.specs.declared.messages.Carrier.{Carrier}
use Rattle.frame_bytes.specs.declared.messages.DataSection.{DataSection}
use Rattle.frame_bytes.proofs.Frames.{frame_is_one}
use Rattle.frame_bytes.proofs.ReadBack.{message_told}
use Rattle.frame_bytes.proofs.Sections.{length_message}
use Rattle.sent_frames.specs.Messages.{Source, data_section}
use Rattle.sent_frames.proofs.MessageFacts.{IsGoodMessage, IsGoodPart, all_map, message_fits, message_size_is}
use Rattle.uplink_laws.specs.Sent.{IsSendable}
use Rattle.uplink_laws.proofs.CommandRead.{found_by, long, message_of as whole_message, one_whole}
use Rattle.uplink_laws.proofs.Fragments.{fragments_joined, piece_short, size_joined}
use Rattle.uplink_laws.proofs.Gathered.{block_in, read_part, read_parts, sections_gathered, shrunk_blocks}
use Rattle.uplink_laws.proofs.LineFields.{at_most_nine, frame_id_is, frame_id_small}
use Rattle.uplink_laws.proofs.MessageSays.{the_place, in_count}
use Rattle.uplink_laws.proofs.SentRead.{some_bytes, in_size}
use Rattle.uplink_model.specs.Frames.{Antenna, uplink_fragment_bytes, head_of, uplink_message_bytes, samples_of, section_of}
use Rattle.uplink_model.specs.Messages.{job_fields}
use Rattle.uplink_laws.specs.Streams.{job_for, message_for}
use Rattle.uplink_laws.specs.Data.{AreUplinkSections, IsUplinkDataFor, IsUplinkDecoded, antenna_blocks}
use Rattle.uplink_laws.specs.Flows.{fragment_text}
use Rattle.uplink_laws.specs.Premise.{CanAnswer}
use Rattle.uplink_laws.proofs.PartLemmas.{good_message, message_facts, message_short}
use Rattle.frame_bytes.specs.Headers.{frame_id_of, carrier_of}
use Rattle.unit_model.proofs.ClaimLemmas.{starts_before as from_low, from_within as from_high}
use Rattle.ecpri_fragments.specs.Sequence.{id_of}
use Rattle.ecpri_fragments.specs.Pieces.{joined, piece_count}
use Rattle.ecpri_fragments.specs.declared.place.TheConstants.{MESSAGE_BYTES}
use Rattle.fh_base.specs.Members.{IsIn}
use Rattle.fh_base.proofs.MadeLists.{at_in, in_all}

-- ---- a frame at the distributed unit

data_met : (es : List EndpointConfig) (ep : ℕ) (e : EndpointConfig) (at : ℤ) (size : ℕ) (payload : List ℕ) → 4 ≤ length payload → find_endpoint es (id_of payload) ≡ Some (ep, e)
    → meet Du es at (whole_message 0 size payload) ≡ Piece e (fragment_of ep at payload)
unfolding meet
data_met es ep e at size payload enough found = rw (le-ltb (length payload) 4 enough, found) refl

frame_met : (es : List EndpointConfig) (ep : ℕ) (e : EndpointConfig) (at : ℤ) (seq : SeqField) (bytes : List ℕ)
    → find_endpoint es e.id ≡ Some (ep, e) → IsTransport 0 e.id seq (4 + length bytes)
    → met_in Du es at (whole_messages (frame_of 0 e.id seq bytes)) ≡ Piece e (record { ep = ep; seq = seq.seq; at = at; last = seq.last; sub = seq.sub; bytes = bytes }) ∷ []
frame_met es ep e at seq bytes found t =
    let frame = frame_of 0 e.id seq bytes in
    let one = frame_is_one 0 e.id seq bytes t in
    let met = data_met es ep e at (4 + length bytes) one.payload (long 0 e.id seq bytes frame one) (found_by 0 e.id seq bytes frame one es (Some (ep, e)) found) in
    let is : Piece e (fragment_of ep at one.payload) ≡ Piece e (record { ep = ep; seq = seq.seq; at = at; last = seq.last; sub = seq.sub; bytes = bytes }) = ap₂ (λ (q : SeqField) (bs : List ℕ). Piece e (fragment_with ep at q bs)) one.seq_read one.application_read in
    ap (met_in Du es at) (one_whole 0 e.id seq bytes frame one) ∙ ap (λ (m : Meeting). m ∷ []) (met ∙ is)

-- ---- sections of a message

-- a section carries a part, in a message whose first and last fragments were received then
pub record IsSectionOf (blocks : Blocks) (first last : ℤ) (x : Part) (d : UserSection) : Type 0 where
  pub carries : IsUplinkDataFor blocks x d
  pub first_is : d.first.0 ≡ first
  pub last_is : d.last.0 ≡ last

-- each section is of a part
pub section_from : (blocks : Blocks) (first last : ℤ) (xs : List Part) (ds : List UserSection) (d : UserSection) → AreUplinkSections blocks first last xs ds → IsIn d ds → (x : Part) × IsIn x xs × IsSectionOf blocks first last x d
section_from blocks first last [] [] d h m = absurd m
section_from blocks first last [] (y ∷ ds) d h m = absurd h
section_from blocks first last (x ∷ xs) [] d h m = absurd m
section_from blocks first last (x ∷ xs) (y ∷ ds) d h m = elim m [
  | inl e ↦ (x, inl refl, subst (IsSectionOf blocks first last x) (sym e) (record { carries = h.0; first_is = h.1; last_is = h.2 }))
  | inr t ↦ (let w = section_from blocks first last xs ds d h.3 t in (w.0, inr w.1, w.2))
]

-- and each part has one
pub section_for : (blocks : Blocks) (first last : ℤ) (xs : List Part) (ds : List UserSection) (x : Part) → AreUplinkSections blocks first last xs ds → IsIn x xs → (d : UserSection) × IsIn d ds × IsSectionOf blocks first last x d
section_for blocks first last [] [] x h m = absurd m
section_for blocks first last [] (y ∷ ds) x h m = absurd h
section_for blocks first last (y ∷ xs) [] x h m = absurd h
section_for blocks first last (y ∷ xs) (d ∷ ds) x h m = elim m [
  | inl e ↦ (d, inl refl, subst (λ (z : Part). IsSectionOf blocks first last z d) (sym e) (record { carries = h.0; first_is = h.1; last_is = h.2 }))
  | inr t ↦ (let w = section_for blocks first last xs ds x h.3 t in (w.0, inr w.1, w.2))
]

-- sections that are read with the same samples at each place, the newest first
module _ (blocks : Blocks) (first last : ℤ) (as_data : ReadPart → UserSection) (at_first : (p : ReadPart) → (as_data p).first.0 ≡ first) (at_last : (p : ReadPart) → (as_data p).last.0 ≡ last) where
  read_sections : (k : Carrier) (symbol : ℕ) (block : ℕ → List Iq) (place : ℕ) (xs : List Part) (ps : List ReadPart) (rest : List Part) → AreUplinkSections blocks first last xs (map as_data ps)
      → ((x : Part) → IsIn x rest → IsUplinkDataFor blocks x (as_data (read_part k symbol block (data_section x))))
      → AreUplinkSections blocks first last (onto xs rest) (map as_data (onto ps (read_parts k symbol (λ i. block) place (map data_section rest))))
  unfolding onto
  read_sections k symbol block place xs ps [] before h = before
  read_sections k symbol block place xs ps (x ∷ rest) before h =
      let r = read_part k symbol block (data_section x) in
      read_sections k symbol block (place + 1) (x ∷ xs) (r ∷ ps) rest (h x (inl refl), at_first r, at_last r, before) (λ y i. h y (inr i))

-- ---- a message of a plan's uplink stream

module _ (c : Config) (lines : List PlanLine) (source : Source) (s : IsSendable c lines source) (antenna : Antenna) (can : CanAnswer c antenna) where
  abbrev ps : List PlannedLine
  ps = planned c.endpoints lines

  -- the fragment as the frame carries it: the sequence id is the message's number modulo 256
  abbrev pub fragment_at : ℕ → EndpointConfig → Numbered Part → ℕ → ℤ → Fragment
  fragment_at ep e n sub at = record {
    ep = ep;
    seq = n.number % 256;
    at = at;
    last = sub + 1 == frames_in c UpData n.message;
    sub = sub;
    bytes = fragment_text c antenna e n sub;
  }

  module _ (ep : ℕ) (e : EndpointConfig) (n : Numbered Part) (at : IsAt c.endpoints ep e) (there : IsIn n (messages_of c ps UpData ep e)) where
    abbrev m : Message Part
    m = n.message

    good : IsGoodMessage c ep e n.message
    good = good_message c lines s.config s.lines_fit s.valid ep e n at there

    short : size_of part_fields n.message ≤ MESSAGE_BYTES
    short = message_short c lines s.config s.lines_fit s.valid ep e n at there

    one : IsGoodPart c ep e m.first
    one = good.each m.first (inl refl)

    -- ---- its bytes

    section_is : (x : Part) → IsGoodPart c ep e x → section_of (job_for x) ≡ data_section x
    section_is x g = ap (λ i. let d : DataSection = record { id = i; start_prb = x.planned.line.start_prb; num_prb = x.planned.line.num_prb } in d) (mod-eq_of_lt g.line.fits.section)

    sections_are : (xs : List Part) → ((x : Part) → IsIn x xs → IsGoodPart c ep e x) → map section_of (map job_for xs) ≡ map data_section xs
    sections_are [] h = refl
    sections_are (x ∷ xs) h = ap₂ (λ (d : DataSection) (ds : List DataSection). d ∷ ds) (section_is x (h x (inl refl))) (sections_are xs (λ y i. h y (inr i)))

    abbrev head : UHead
    head = head_of (job_for m.first)

    abbrev block : ℕ → List Iq
    block prb = block_of antenna e.id m.first.planned.line.slot m.first.symbol prb

    abbrev sections : List DataSection
    sections = map data_section (parts_of m)

    abbrev bytes : List ℕ
    bytes = uplink_message_bytes antenna e (message_for m)

    bytes_as : bytes ≡ message_of (carrier_of e) (samples_of antenna e (job_for m.first)) head sections
    bytes_as = ap (λ (ds : List DataSection). message_of (carrier_of e) (samples_of antenna e (job_for m.first)) head ds) (sections_are (parts_of m) good.each)

    length_is : length bytes ≡ size_of part_fields m
    length_is = ap length bytes_as ∙ length_message (carrier_of e) (samples_of antenna e (job_for m.first)) head sections ∙ message_size_is c ep e m good

    job_sizes : (xs : List Part) → ((x : Part) → IsIn x xs → IsGoodPart c ep e x) → map (job_fields c.endpoints).size (map job_for xs) ≡ map part_fields.size xs
    job_sizes [] h = refl
    job_sizes (x ∷ xs) h =
        ap₂ (λ (k : ℕ) (ks : List ℕ). k ∷ ks) (ap (λ (o : Option EndpointConfig). option_map_or (λ f. section_size f x.planned.line.num_prb) o 0) (h x (inl refl)).line.at)
        (job_sizes xs (λ y i. h y (inr i)))

    job_size : size_of (job_fields c.endpoints) (message_for m) ≡ size_of part_fields m
    job_size = ap (λ (ks : List ℕ). 4 + sum ks) (job_sizes (parts_of m) good.each)

    -- ---- its frames

    abbrev field : ℕ → ℕ → SeqField
    field count sub = record { seq = n.number % 256; last = sub + 1 == count; sub = sub }

    frame_as : (sub : ℕ) → uplink_fragment_bytes c antenna e (message_for m) n.number sub ≡ frame_of 0 e.id (field (frames_in c UpData m) sub) (fragment_text c antenna e n sub)
    frame_as sub =
        ap₂ (λ count size. frame_of 0 e.id (field count sub) (cut (sub * c.fragment) (min (sub * c.fragment + c.fragment) size) bytes))
        (ap (piece_count c.fragment) job_size) (job_size ∙ sym length_is)

    -- a frame is read as its fragment, whenever it is received
    pub frame_read : (sub : ℕ) (t : ℤ) → sub < frames_in c UpData m
        → met_in Du c.endpoints t (whole_messages (uplink_fragment_bytes c antenna e (message_for m) n.number sub)) ≡ Piece e (fragment_at ep e n sub t) ∷ []
    frame_read sub t below =
        ap (λ (f : List ℕ). met_in Du c.endpoints t (whole_messages f)) (frame_as sub)
        ∙ frame_met c.endpoints ep e t (field (frames_in c UpData m) sub) (fragment_text c antenna e n sub)
        (found c.endpoints ep e s.config.endpoints.differ at)
        (record {
          kind_fits = omega arith;
          id_fits = in_all (λ (f : EndpointConfig). f.id < 2 ^ 16) e c.endpoints s.ids (at_in ep e c.endpoints at);
          seq_fits = mod_below n.number 256 (omega arith);
          sub_fits = few_pieces c.fragment (size_of part_fields m) sub s.config.fragment_low short below;
          size_fits = in_size (length (fragment_text c antenna e n sub)) c.fragment (piece_short c.fragment bytes sub) s.config.fragment_high;
        })

    -- all its fragments joined are the message
    all_joined : joined (texts (fragment_text c antenna e n) (frames_in c UpData m)) ≡ bytes
    all_joined =
        ap (λ size. joined (texts (piece_at c.fragment bytes) (piece_count c.fragment size))) (sym length_is)
        ∙ fragments_joined c.fragment bytes (some_bytes c.fragment s.config.fragment_low)

    pub size_is : size_to (fragment_text c antenna e n) (frames_in c UpData m) ≡ size_of part_fields m
    size_is = size_joined (fragment_text c antenna e n) (frames_in c UpData m) ∙ ap length all_joined ∙ length_is

    -- ---- what it says

    num_prb : (x : Part) → IsIn x (parts_of m) → x.planned.line.num_prb < 2 ^ 8
    num_prb x i =
        in_all (λ (l : PlanLine). l.num_prb < 2 ^ 8) x.planned.line lines s.num_prbs
        (line_of c.endpoints 0 lines x.planned (message_facts c lines s.config s.lines_fit s.valid ep e n x at there i).from).there

    readable : IsReadable (carrier_of e) (shape_of e.numerology) (samples_of antenna e (job_for m.first)) head sections
    readable =
        let f = message_fits c ep e m good short in
        record {
          fits = record {
            head = record { filter = omega arith; subframe = f.head.subframe; slot = f.head.slot; symbol = f.head.symbol };
            width = f.width;
            sections = f.sections;
            size = f.size;
          };
          frame_id = frame_id_small m.first.planned.line.slot.frame;
          num_prbs = all_map (λ (d : DataSection). d.num_prb < 2 ^ 8) data_section (parts_of m) num_prb;
          admitted = record {
            subframe = at_most_nine m.first.planned.line.slot.subframe one.line.fits.subframe;
            slot = subst (λ (f : EndpointConfig). m.first.planned.line.slot.slot < slots_of f.numerology) one.endpoint_is one.line.slot;
            symbol = one.symbol;
          };
          can = λ place prb. can ep e at m.first.planned.line.slot m.first.symbol prb;
        }

    abbrev telling : Telling
    telling = record { items = Head head ∷ sections_items (carrier_of e) m.first.symbol (samples_of antenna e (job_for m.first)) 0 sections; refusal = None }

    is_told : told e.format e.prbs (shape_of e.numerology) bytes ≡ telling
    is_told =
        ap (told e.format e.prbs (shape_of e.numerology)) bytes_as
        ∙ message_told (carrier_of e) (shape_of e.numerology) (samples_of antenna e (job_for m.first)) head sections readable

    abbrev read : List ReadPart
    read = read_parts (carrier_of e) m.first.symbol (λ i. block) 0 sections

    abbrev as_data : ℤ → ℤ → ReadPart → UserSection
    as_data first last = data_with ep e first last head

    read_as_sections : (first last : ℤ) → decode Du ep e first last bytes ≡ Sections (map (as_data first last) (onto [] read))
    unfolding decode gathered
    read_as_sections first last =
        ap (λ (t : Telling). decoded_from Du ep e first last (gathered nothing_told t.items) t.refusal) is_told
        ∙ ap (λ (w : Gathering). decoded_from Du ep e first last w None)
        (sections_gathered (Some head) [] (carrier_of e) m.first.symbol (samples_of antenna e (job_for m.first)) 0 sections)

    -- the samples of a part's PRB
    samples_are : (x : Part) → IsIn x (parts_of m) → (k : ℕ) → is_from (first_prb (line_allocation x.planned)) (prb_count (line_allocation x.planned)) k ≡ true
        → slice_index_or (shrunk_blocks e.format.method block (first_prb (line_allocation x.planned)) (count_of e.prbs x.planned.line.num_prb)) (k - first_prb (line_allocation x.planned)) []
        ≡ antenna_blocks c antenna (cell_at x.planned.ep false x.planned.line.slot x.symbol k)
    samples_are x i k h =
        let p = good.each x i in
        let first = first_prb (line_allocation x.planned) in
        let count = prb_count (line_allocation x.planned) in
        let low = from_low first count k h in
        let same : count ≡ count_of e.prbs x.planned.line.num_prb = ap (λ (f : EndpointConfig). count_of f.prbs x.planned.line.num_prb) p.endpoint_is in
        let inside = subst (λ j. k - first < j) same (in_count first count k low (from_high first count k h)) in
        let cell = cell_at x.planned.ep false x.planned.line.slot x.symbol k in
        block_in e.format.method block first (count_of e.prbs x.planned.line.num_prb) (k - first) inside
        ∙ ap (λ j. shrunk e.format.method (block j)) (the_place first k low)
        ∙ ap₂ (λ (t : Slot) (y : ℕ). shrunk e.format.method (block_of antenna e.id t y k)) (good.slot x i) (good.symbol x i)
        ∙ ap (λ (f : EndpointConfig). shrunk f.format.method (block_of antenna f.id x.planned.line.slot x.symbol k)) (sym p.endpoint_is)
        ∙ sym (ap (λ (o : Option EndpointConfig). option_map_or (λ f. shrunk f.format.method (block_of antenna f.id cell.slot cell.symbol cell.prb)) o []) p.line.at)

    data_for : (first last : ℤ) (x : Part) → IsIn x (parts_of m) → IsUplinkDataFor (antenna_blocks c antenna) x (as_data first last (read_part (carrier_of e) m.first.symbol block (data_section x)))
    data_for first last x i =
        let p = good.each x i in
        record {
          ep = sym p.ep_is;
          endpoint = sym p.endpoint_is;
          down = refl;
          filter = refl;
          frame_id = ap (λ (t : Slot). pos (frame_id_of t.frame)) (good.slot x i) ∙ frame_id_is x.planned.line.slot.frame;
          subframe = ap (λ (t : Slot). t.subframe) (good.slot x i);
          slot = ap (λ (t : Slot). t.slot) (good.slot x i);
          id = refl;
          symbol = good.symbol x i;
          start_prb = refl;
          num_prb = refl;
          samples = samples_are x i;
        }

    -- its fragments joined are read as a section for each part
    pub is_decoded : (first last : ℤ) → IsUplinkDecoded c antenna ep e n first last
    is_decoded first last = record {
      sections = map (as_data first last) (onto [] read);
      is = ap (decode Du ep e first last) all_joined ∙ read_as_sections first last;
      are = read_sections (antenna_blocks c antenna) first last (as_data first last) (λ p. refl) (λ p. refl) (carrier_of e) m.first.symbol block 0 [] [] (parts_of m) tt (data_for first last);
    }
