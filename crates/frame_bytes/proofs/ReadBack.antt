-- A data message is read as its header and its sections with the shrunk blocks.
use Rattle.std.proofs.Common.{◌≡◌, ℕ, zero, suc, ◌+◌, ◌^◌, ◌<◌, inl, inr, true, eqb, List, [], ◌∷◌, ◌++◌, length, take, drop, get_or, refl, sym, ap, ◌∙◌, arith, append-nil, append_assoc, length-append}
use Rattle.std.specs.Prelude.{All, None}
use Rattle.std.proofs.lemmas.Bool.{cases_Bool, le-ltb}
use Rattle.std.proofs.lemmas.List.{take_all, drop_at, get_or-drop}
use Rattle.std.proofs.lemmas.List.Elements.{All-head, All-tail}
use Rattle.std.proofs.Math.Seq.{take-append_seam}
use Rattle.bfp_codec.specs.Field.{field}
use Rattle.bfp_codec.proofs.Field.{field_byte}
use Rattle.fh_base.specs.declared.values.Shape.{Shape}
use Rattle.fh_base.specs.Carrier.{first_of, count_of}
use Rattle.bfp_codec.specs.declared.samples.Iq.{Iq}
use Rattle.bfp_codec.specs.declared.methods.Method.{Method}
use Rattle.bfp_codec.specs.declared.methods.Method.TheVariants.{Plain, Bfp}
use Rattle.bfp_codec.specs.declared.methods.Format.{Format}
use Rattle.bfp_codec.specs.Layout.{HasWidth, AreBytes, length_of, packed_of}
use Rattle.bfp_codec.specs.Shrunk.{CanPack}
use Rattle.bfp_codec.proofs.Laws.{length_packed, unpacked_packed}
use Rattle.uplane_sections.specs.declared.values.UHead.{UHead}
use Rattle.uplane_sections.specs.Section.{header_size}
use Rattle.uplane_sections.specs.Messages.{Item, Head, Telling, blocks, told}
use Rattle.uplane_sections.specs.Writes.{HeadFits, WritesHead, WritesSection, WritesCompression, SaysSoFar, udCompHdr}
use Rattle.uplane_sections.proofs.Words.{WritesWord, compression_written, static_written, dynamic_written}
use Rattle.uplane_sections.proofs.Back.{head_back, section_back}
use Rattle.frame_bytes.specs.declared.messages.DataSection.{DataSection}
use Rattle.frame_bytes.specs.declared.messages.Carrier.{Carrier}
use Rattle.frame_bytes.specs.Spelled.{in_bytes}
use Rattle.frame_bytes.specs.Messages.{head_fields, compression_fields, section_fields, packed_prbs, section_of, sections_of, message_of, SectionFits}
use Rattle.frame_bytes.specs.Reading.{IsReadable, read_as, shrunk_prbs, section_items, sections_items}
use Rattle.frame_bytes.proofs.Fields.{AreAt, AreSmall, at_fields, are_bytes, length-in_bytes, bit_small, bit_back}
use Rattle.frame_bytes.proofs.DataFields.{section_width}
use Rattle.frame_bytes.proofs.PackedPrbs.{length_prbs}

head_small : (h : UHead) → HeadFits h → h.frame_id < 2 ^ 8 → AreSmall (head_fields h)
unfolding AreSmall
head_small h fits frame = (bit_small h.down, (omega arith, (fits.filter, (frame, (fits.subframe, (fits.slot, (fits.symbol, tt)))))))

head_written : (h : UHead) → HeadFits h → h.frame_id < 2 ^ 8 → WritesHead h (in_bytes (head_fields h))
unfolding AreAt
head_written h fits frame =
    let bytes = in_bytes (head_fields h) in
    let at : AreAt bytes 0 (head_fields h) = at_fields 4 (head_fields h) refl (head_small h fits frame) in
    let down : eqb (field bytes 0 1) 1 ≡ h.down = ap (λ n. eqb n 1) at.0 ∙ bit_back h.down in
    let filter : field bytes 4 4 ≡ h.filter = at.1.1.0 in
    let frame_id : field bytes 8 8 ≡ h.frame_id = at.1.1.1.0 in
    let subframe : field bytes 16 4 ≡ h.subframe = at.1.1.1.1.0 in
    let slot : field bytes 20 6 ≡ h.slot = at.1.1.1.1.1.0 in
    let symbol : field bytes 26 6 ≡ h.symbol = at.1.1.1.1.1.1.0 in
    record { len = length-in_bytes 4 (head_fields h) refl; version = at.1.0; reads = rw (down, filter, frame_id, subframe, slot, symbol) refl }

pub hdr_small : (method : Method) → udCompHdr method < 2 ^ 8
hdr_small Plain = omega arith
hdr_small (Bfp w) = omega arith

compression_small : (format : Format) → AreSmall (compression_fields format)
unfolding AreSmall
compression_small format = elim (cases_Bool format.dynamic) [
  | inl is ↦ rw is (hdr_small format.method, (omega arith, tt))
  | inr is ↦ rw is tt
]

section_small : (format : Format) (s : DataSection) → s.id < 2 ^ 12 → s.start_prb < 2 ^ 10 → s.num_prb < 2 ^ 8 → AreSmall (section_fields format s)
unfolding AreSmall
section_small format s id start num = (id, (omega arith, (omega arith, (start, (num, compression_small format)))))

compression_back : (format : Format) (bytes : List ℕ) → HasWidth format.method → AreBytes bytes → AreAt bytes 32 (compression_fields format) → format.dynamic ≡ true → WritesCompression format.method (drop 4 bytes)
unfolding AreAt
compression_back format bytes width small at is =
    let two : AreAt bytes 32 ((8, udCompHdr format.method) ∷ (8, 0) ∷ []) = rw is at at in
    let first : get_or (drop 4 bytes) 0 0 ≡ udCompHdr format.method = get_or-drop 4 bytes 0 0 ∙ sym (field_byte bytes 4 (small 4)) ∙ two.0 in
    let second : get_or (drop 4 bytes) 1 0 ≡ 0 = get_or-drop 4 bytes 1 0 ∙ sym (field_byte bytes 5 (small 5)) ∙ two.1.0 in
    compression_written format.method (drop 4 bytes) width first second

word_back : (c : Carrier) (symbol : ℕ) (s : DataSection) (bytes : List ℕ) → AreAt bytes 0 (section_fields c.format s) → WritesWord (read_as c symbol s) bytes
unfolding AreAt
word_back c symbol s bytes at =
    let id : field bytes 0 12 ≡ s.id = at.0 in
    let rb : field bytes 12 1 ≡ 0 = at.1.0 in
    let inc : field bytes 13 1 ≡ 0 = at.1.1.0 in
    let prb : field bytes 14 10 ≡ s.start_prb = at.1.1.1.0 in
    let num : field bytes 24 8 ≡ s.num_prb = at.1.1.1.1.0 in
    record { reads = λ before method. rw (id, inc, prb, num) refl; each_rb = rb }

pub section_written : (c : Carrier) (symbol : ℕ) (s : DataSection) → HasWidth c.format.method → SectionFits c s → s.num_prb < 2 ^ 8
    → WritesSection c.format (read_as c symbol s) (in_bytes (section_fields c.format s))
unfolding AreAt
section_written c symbol s width fits num =
    let fields = section_fields c.format s in
    let bytes = in_bytes fields in
    let at : AreAt bytes 0 fields = at_fields (header_size c.format) fields (section_width c.format s) (section_small c.format s fits.id fits.start_prb num) in
    let len : length bytes ≡ header_size c.format = length-in_bytes (header_size c.format) fields (section_width c.format s) in
    let word = word_back c symbol s bytes at in
    elim (cases_Bool c.format.dynamic) [
      | inl is ↦
          let size : header_size c.format ≡ 6 = rw is refl in
          let six : length bytes ≡ 6 = len ∙ size in
          dynamic_written c.format (read_as c symbol s) bytes is (omega arith) word (compression_back c.format bytes width (are_bytes fields) at.1.1.1.1.1 is)
      | inr is ↦
          let size : header_size c.format ≡ 4 = rw is refl in
          let four : length bytes ≡ 4 = len ∙ size in
          static_written c.format (read_as c symbol s) bytes is refl (omega arith) word
    ]

-- packed PRBs are read as their shrunk blocks
pub prbs_back : (method : Method) (block : ℕ → List Iq) (prb n : ℕ) → ((k : ℕ) → CanPack method (block k)) → blocks method prb n (packed_prbs method block prb n) ≡ shrunk_prbs method block prb n
prbs_back method block prb zero can = refl
prbs_back method block prb (suc n) can =
    let here = packed_of method (block prb) in
    let rest = packed_prbs method block (prb + 1) n in
    let len = length_packed method (block prb) in
    let l : length (here ++ rest) ≡ length here + length rest = length-append here rest in
    let front : take (length_of method) (here ++ rest) ≡ here = ap (λ k. take k (here ++ rest)) (sym len) ∙ take-append_seam here rest in
    let back : drop (length_of method) (here ++ rest) ≡ rest = drop_at here rest (length_of method) len in
    rw (le-ltb (length (here ++ rest)) (length_of method) (omega arith), front, back, unpacked_packed method (block prb) (can prb), prbs_back method block (prb + 1) n can) refl

section_says : (c : Carrier) (shape : Shape) (block : ℕ → List Iq) (symbol : ℕ) (front : List ℕ) (items : List Item) (s : DataSection)
    → HasWidth c.format.method → SectionFits c s → s.num_prb < 2 ^ 8 → symbol < shape.symbols → ((k : ℕ) → CanPack c.format.method (block k))
    → SaysSoFar c.format c.prbs shape front items symbol → SaysSoFar c.format c.prbs shape (front ++ section_of c block s) (items ++ section_items c symbol block s) symbol
unfolding section_of
section_says c shape block symbol front items s width fits num inside can said =
    let headers = in_bytes (section_fields c.format s) in
    let first = first_of s.start_prb s.num_prb in
    let count = count_of c.prbs s.num_prb in
    let packed = packed_prbs c.format.method block first count in
    let len : length headers ≡ header_size c.format = length-in_bytes (header_size c.format) (section_fields c.format s) (section_width c.format s) in
    let whole : take (header_size c.format) headers ≡ headers = take_all (header_size c.format) headers (omega arith) in
    let adds = section_back c.format c.prbs shape (read_as c symbol s) headers (header_size c.format) refl (section_written c symbol s width fits num) in
    let none : symbol ≡ symbol + 0 = omega arith in
    let says = adds front packed items symbol said (record { maintained = none; symbol = inside; within = fits.within }) (length_prbs c.format.method block first count) in
    let read = prbs_back c.format.method block first count can in
    rw (whole, read) at says

sections_say : (c : Carrier) (shape : Shape) (source : ℕ → ℕ → List Iq) (symbol place : ℕ) (front : List ℕ) (items : List Item) (ss : List DataSection)
    → HasWidth c.format.method → All (SectionFits c) ss → All (λ (s : DataSection). s.num_prb < 2 ^ 8) ss → symbol < shape.symbols → ((k prb : ℕ) → CanPack c.format.method (source k prb))
    → SaysSoFar c.format c.prbs shape front items symbol → SaysSoFar c.format c.prbs shape (front ++ sections_of c source place ss) (items ++ sections_items c symbol source place ss) symbol
sections_say c shape source symbol place front items [] width fit nums inside can said =
    let same = append-nil front in
    let items_same = append-nil items in
    rw (same, items_same) said
sections_say c shape source symbol place front items (s ∷ ss) width fit nums inside can said =
    let here = section_of c (source place) s in
    let read = section_items c symbol (source place) s in
    let one = section_says c shape (source place) symbol front items s width (All-head (SectionFits c) s ss fit) (All-head (λ (s : DataSection). s.num_prb < 2 ^ 8) s ss nums) inside (can place) said in
    let all = sections_say c shape source symbol (place + 1) (front ++ here) (items ++ read) ss width (All-tail (SectionFits c) s ss fit) (All-tail (λ (s : DataSection). s.num_prb < 2 ^ 8) s ss nums) inside can one in
    let bytes = append_assoc front here (sections_of c source (place + 1) ss) in
    let told_is = append_assoc items read (sections_items c symbol source (place + 1) ss) in
    rw (bytes, told_is) at all

-- A message that a receiver admits is read by the endpoint's format as its header and exactly its sections with the shrunk blocks.
pub message_told : (c : Carrier) (shape : Shape) (source : ℕ → ℕ → List Iq) (h : UHead) (ss : List DataSection) → IsReadable c shape source h ss
    → told c.format c.prbs shape (message_of c source h ss) ≡ (let t : Telling = record { items = Head h ∷ sections_items c h.symbol source 0 ss; refusal = None } in t)
unfolding message_of
message_told c shape source h ss r =
    let bytes = in_bytes (head_fields h) ++ sections_of c source 0 ss in
    let head = head_back c.format c.prbs shape h (in_bytes (head_fields h)) (head_written h r.fits.head r.frame_id) r.admitted in
    let says = sections_say c shape source h.symbol 0 (in_bytes (head_fields h)) (Head h ∷ []) ss r.fits.width r.fits.sections r.num_prbs r.admitted.symbol r.can head in
    let whole = ap (told c.format c.prbs shape) (sym (append-nil bytes)) ∙ says [] in
    let items = append-nil (Head h ∷ sections_items c h.symbol source 0 ss) in
    rw items at whole
