-- The records of data give each PRB the block that it has.
use Rattle.std.proofs.Common.{◌≡◌, ℕ, ℤ, Bool, true, false, List, [], ◌∷◌, ◌++◌, map, refl, sym, ap, ap₂, ◌∙◌, subst}
use Rattle.std.specs.Prelude.{if◌then◌else◌, ◌&&◌, ◌==◌, Option, Some, None}
use Rattle.std.specs.List.{AllByRecursion, find}
use Rattle.std.proofs.lemmas.Bool.{and_parts}
use Rattle.ecpri_fragments.specs.Generations.{Fragment}
use Rattle.ecpri_fragments.specs.Pieces.{joined}
use Rattle.ecpri_fragments.specs.Verdicts.{Message as Whole, whole_now}
use Rattle.fh_base.specs.Numbering.{shape_of}
use Rattle.uplane_sections.specs.Messages.{told}
use Rattle.air_source.specs.Units.{is_down, same_side}
use Rattle.air_source.specs.declared.events.Side.{Side}
use Rattle.air_source.specs.declared.events.Side.TheVariants.{Ru, Du}
use Rattle.window_config.specs.declared.delays.Delays.{Delays}
use Rattle.window_config.specs.declared.endpoints.EndpointConfig.{EndpointConfig}
use Rattle.window_config.specs.declared.verdicts.Class.{Class}
use Rattle.window_config.specs.declared.verdicts.Class.TheVariants.{OnTime, Late, Early}
use Rattle.unit_model.specs.Terms.{UHead, URefusal}
use Rattle.unit_model.specs.Blocks.{block_at, block_in, block_of, data_class, data_covers, data_prb_count, data_slot, data_verdict, data_verdict_in, first_data_prb, has_all, timely, with_timely}
use Rattle.unit_model.specs.Claims.{is_from, same_slot, same_way}
use Rattle.unit_model.specs.Decoding.{Backwards, Gathering, SectionBlocks, Sections, data_sections, data_told, data_with, decode, decode_message, decoded_from, decoded_now, decoded_with, gathered, has_way, nothing_told, sections_of}
use Rattle.fh_base.specs.Lists.{or_else}
use Rattle.unit_model.specs.Meetings.{Commands, Ignored, Meeting, Piece, fragments}
use Rattle.unit_model.specs.Reports.{data_of, hold_of, met}
use Rattle.unit_model.specs.declared.cells.Block.{Block}
use Rattle.unit_model.specs.declared.cells.Cell.{Cell}
use Rattle.unit_model.specs.declared.decoded.UserSection.{UserSection}
use Rattle.unit_model.specs.declared.verdicts.DataVerdict.{DataVerdict}
use Rattle.unit_model.specs.declared.verdicts.DataVerdict.TheVariants as user
use Rattle.unit_model.proofs.ClaimLemmas.{way_self}
use Rattle.unit_model.specs.Judgements.{heading_of}
use Rattle.unit_memory.proofs.MessageLemmas.{way_is}
use Rattle.unit_model.specs.Heard.{arrivals_heard}
use Rattle.explain_model.specs.Margins.{data_class_of}
use Rattle.explain_model.specs.Stories.{stories}
use Rattle.explain_model.specs.Timings.{heading_slot}
use Rattle.explain_model.specs.Keys.{data_key, same_symbol}
use Rattle.explain_model.specs.declared.data.DataRecord.{DataRecord}
use Rattle.explain_model.specs.declared.keys.SymbolKey.{SymbolKey}
use Rattle.explain_model.specs.SilentReasons.{covers_prb, gives_prb, giver_of, is_on_time, kept}
use Rattle.explain_model.specs.Records.{data_record}
use Rattle.explain_model.proofs.AloneLemmas.{find_alone}
use Rattle.explain_laws.specs.Decoded.{GivenSection, Numbered, data_kept, given_in, given_sections, numbered}
use Rattle.explain_laws.specs.Giving.{GiversAreBlocks, cell_key, id_of_block, id_of_giver}
use Rattle.explain_laws.proofs.KeptLemmas.{are_kept}
use Rattle.fh_base.proofs.Orders.{and_false_3}

-- ---- decoded data have their unit's direction

module _ (side : Side) where
  abbrev HasWay : UserSection → Type 0
  HasWay s = s.head.down ≡ is_down side

  all_with : (ep : ℕ) (e : EndpointConfig) (first last : ℤ) (head : UHead) → has_way side head ≡ true → (ps : List SectionBlocks) → AllByRecursion HasWay (map (data_with ep e first last head) ps)
  all_with ep e first last head is [] = tt
  all_with ep e first last head is (p ∷ ps) = (way_is side head is, all_with ep e first last head is ps)

  by_way : (ep : ℕ) (e : EndpointConfig) (first last : ℤ) (ps : List SectionBlocks) (head : UHead) (b : Bool) → has_way side head ≡ b
      → AllByRecursion HasWay (sections_of (if b then Sections (map (data_with ep e first last head) ps) else Backwards))
  by_way ep e first last ps head true is = all_with ep e first last head is ps
  by_way ep e first last ps head false is = tt

  by_head : (ep : ℕ) (e : EndpointConfig) (first last : ℤ) (ps : List SectionBlocks) (o : Option UHead) → AllByRecursion HasWay (sections_of (decoded_with side ep e first last ps o))
  by_head ep e first last ps None = tt
  by_head ep e first last ps (Some head) = by_way ep e first last ps head (has_way side head) refl

  by_refusal : (ep : ℕ) (e : EndpointConfig) (first last : ℤ) (g : Gathering) (o : Option URefusal) → AllByRecursion HasWay (sections_of (decoded_from side ep e first last g o))
  by_refusal ep e first last g (Some r) = tt
  by_refusal ep e first last g None = by_head ep e first last g.parts g.head

  decoded_way : (ep : ℕ) (e : EndpointConfig) (m : Whole) → AllByRecursion HasWay (sections_of (decode_message side ep e m))
  unfolding decode
  decoded_way ep e m =
      by_refusal ep e m.first m.last (gathered nothing_told (told e.format e.prbs (shape_of e.numerology) (joined m.pieces)).items)
      (told e.format e.prbs (shape_of e.numerology) (joined m.pieces)).refusal

  now_way : (e : EndpointConfig) (f : Fragment) (o : Option Whole) → AllByRecursion HasWay (data_told (decoded_now side e f o))
  now_way e f None = tt
  now_way e f (Some m) = decoded_way f.ep e m

  both_way : (xs ys : List UserSection) → AllByRecursion HasWay xs → AllByRecursion HasWay ys → AllByRecursion HasWay (xs ++ ys)
  both_way [] ys h k = k
  both_way (x ∷ xs) ys h k = (h.0, both_way xs ys h.1 k)

  sections_way : (hold : ℤ) (ms : List Meeting) → AllByRecursion HasWay (data_sections side hold ms)
  unfolding data_sections
  sections_way hold [] = tt
  sections_way hold (Ignored x ∷ earlier) = sections_way hold earlier
  sections_way hold (Commands cs ∷ earlier) = sections_way hold earlier
  sections_way hold (Piece e f ∷ earlier) =
      both_way (data_told (decoded_now side e f (whole_now hold f (fragments earlier)))) (data_sections side hold earlier)
      (now_way e f (whole_now hold f (fragments earlier))) (sections_way hold earlier)

three : (a b e f : Bool) → ((a && (b && e)) && f) ≡ (a && (b && (e && f)))
three true true e f = refl
three true false e f = refl
three false b e f = refl

ands : (a b e f w v : Bool) → v ≡ true → w ≡ true → ((v && (a && (b && e))) && f) ≡ (a && (w && (b && (e && f))))
ands a b e f true true h g = three a b e f
ands a b e f false true h g = absurd cc
ands a b e f w false h g = absurd cc

and_true : (b : Bool) → (b && true) ≡ b
and_true true = refl
and_true false = refl

-- ---- a section's record gives a PRB its block where the section does

module _ (side : Side) (d : Delays) (cell : Cell) (down : cell.down ≡ is_down side) where
  abbrev k : SymbolKey
  k = cell_key side cell

  abbrev record_of : ℕ → GivenSection → DataRecord
  record_of n g = data_record side d n g.heading g.verdict

  abbrev gives : GivenSection → Bool
  gives g = gives_prb k cell.prb (record_of 0 g)

  same_number : (n : ℕ) (g : GivenSection) → gives_prb k cell.prb (record_of n g) ≡ gives g
  unfolding data_record covers_prb
  same_number n g = refl

  same_id : (n : ℕ) (g : GivenSection) → (record_of n g).section ≡ g.heading.section.id
  unfolding data_record
  same_id n g = refl

  abbrev first_id : List GivenSection → Option ℕ
  first_id [] = None
  first_id (g ∷ gs) = if gives g then Some g.heading.section.id else first_id gs

  found_step : (x : Numbered GivenSection) (xs : List (Numbered GivenSection)) (b : Bool) → gives_prb k cell.prb (data_kept side d x) ≡ b
      → id_of_giver (find (gives_prb k cell.prb) (map (data_kept side d) xs)) ≡ first_id (map (λ y. y.it) xs)
      → id_of_giver (if b then Some (data_kept side d x) else find (gives_prb k cell.prb) (map (data_kept side d) xs)) ≡ (if b then Some x.it.heading.section.id else first_id (map (λ y. y.it) xs))
  found_step x xs true is more = ap Some (same_id x.number x.it)
  found_step x xs false is more = more

  found_is : (xs : List (Numbered GivenSection)) → id_of_giver (find (gives_prb k cell.prb) (map (data_kept side d) xs)) ≡ first_id (map (λ y. y.it) xs)
  found_is [] = refl
  found_is (x ∷ xs) =
      found_step x xs (gives_prb k cell.prb (data_kept side d x)) refl (found_is xs)
      ∙ ap (λ (b : Bool). if b then Some x.it.heading.section.id else first_id (map (λ y. y.it) xs)) (same_number x.number x.it)

  first_both : (xs ys : List GivenSection) → first_id (xs ++ ys) ≡ or_else (first_id xs) (first_id ys)
  first_both [] ys = refl
  first_both (x ∷ xs) ys =
      elim (gives x) as (λ b. (if b then Some x.heading.section.id else first_id (xs ++ ys)) ≡ or_else (if b then Some x.heading.section.id else first_id xs) (first_id ys)) [
        | true ↦ refl
        | false ↦ first_both xs ys
      ]

  -- ---- one section

  class_same : (class : Class) (xs : List UserSection) (s : UserSection) → data_class_of (data_verdict_in class xs s) ≡ class
  class_same Late xs s = refl
  class_same Early xs s = refl
  class_same OnTime xs s = elim (has_all xs s) as (λ b. data_class_of (if b then user.Repeat else user.Taken) ≡ OnTime) [ true ↦ refl | false ↦ refl ]

  side_true : (t : Side) → same_side t t ≡ true
  side_true Ru = refl
  side_true Du = refl

  covers_same : (s : UserSection) (v : DataVerdict) (n : ℕ) → s.head.down ≡ is_down side → covers_prb k cell.prb (data_record side d n (heading_of s) v) ≡ data_covers s cell
  unfolding covers_prb data_record heading_slot
  covers_same s v n way =
      ands (s.ep == cell.ep) (same_slot (data_slot s) cell.slot) (s.section.symbol == cell.symbol) (is_from (first_data_prb s) (data_prb_count s) cell.prb)
      (same_way s.head.down cell.down) (same_side side side) (side_true side)
      (subst (λ (b : Bool). same_way s.head.down b ≡ true) (way ∙ sym down) (way_self s.head.down))

  -- the last of the sections so far, and its block
  gives_same : (s : UserSection) (xs : List UserSection) → s.head.down ≡ is_down side
      → gives (record { heading = heading_of s; verdict = data_verdict side d xs s }) ≡ (data_covers s cell && is_on_time (data_class side d s))
  unfolding data_record data_verdict
  gives_same s xs way =
      ap₂ ◌&&◌ (covers_same s (data_verdict side d xs s) 0 way) (ap is_on_time (class_same (data_class side d s) xs s))

  abbrev block_id : List UserSection → Option ℕ
  block_id xs = id_of_block (block_at xs cell)

  id_both : (a b : Option Block) → id_of_block (or_else a b) ≡ or_else (id_of_block a) (id_of_block b)
  id_both None b = refl
  id_both (Some x) b = refl

  in_cell : (s : UserSection) (b : Bool) → id_of_block (if b then Some (block_of s cell) else None) ≡ (if b then Some s.section.id else None)
  in_cell s true = refl
  in_cell s false = refl

  none_more : (o : Option ℕ) → or_else o None ≡ o
  none_more None = refl
  none_more (Some n) = refl

  -- one section more, of this class
  step_by : (s : UserSection) (earlier : List UserSection) (class : Class)
      → or_else (block_id earlier) (if data_covers s cell && is_on_time class then Some s.section.id else None) ≡ block_id (with_timely class s earlier)
  unfolding block_at
  step_by s earlier OnTime =
      ap (λ (b : Bool). or_else (block_id earlier) (if b then Some s.section.id else None)) (and_true (data_covers s cell))
      ∙ ap (or_else (block_id earlier)) (sym (in_cell s (data_covers s cell)))
      ∙ sym (id_both (block_at earlier cell) (block_in s cell))
  step_by s earlier Late =
      ap (λ (b : Bool). or_else (block_id earlier) (if b then Some s.section.id else None)) (and_false_3 (data_covers s cell)) ∙ none_more (block_id earlier)
  step_by s earlier Early =
      ap (λ (b : Bool). or_else (block_id earlier) (if b then Some s.section.id else None)) (and_false_3 (data_covers s cell)) ∙ none_more (block_id earlier)

  blocks_are : (ds : List UserSection) → AllByRecursion (HasWay side) ds → first_id (given_sections side d ds) ≡ block_id (timely side d ds)
  unfolding given_sections timely block_at
  blocks_are [] h = refl
  blocks_are (s ∷ earlier) h =
      first_both (given_sections side d earlier) (record { heading = heading_of s; verdict = data_verdict side d (timely side d earlier) s } ∷ [])
      ∙ ap₂ or_else (blocks_are earlier h.1) (ap (λ (b : Bool). if b then Some s.section.id else None) (gives_same s (timely side d earlier) h.0))
      ∙ step_by s (timely side d earlier) (data_class side d s)

-- ---- all

own_side : (k : SymbolKey) (prb : ℕ) (r : DataRecord) → gives_prb k prb r ≡ true → same_side r.side k.side ≡ true
unfolding covers_prb
own_side k prb r h =
    let p = and_parts (covers_prb k prb r) (is_on_time r.class) h in
    let q = and_parts (same_symbol (data_key r) k) _ p.0 in
    (and_parts (same_side r.side k.side) _ q.0).0

pub are_blocks : GiversAreBlocks
unfolding giver_of
are_blocks c events side cell down =
    let u = (are_kept c events).units side in
    let k = cell_key side cell in
    let rs = (kept c events).given in
    ap id_of_giver (sym (find_alone (gives_prb k cell.prb) (λ r. same_side r.side side) (own_side k cell.prb) rs))
    ∙ ap (λ (xs : List DataRecord). id_of_giver (find (gives_prb k cell.prb) xs)) u.data_is
    ∙ found_is side c.delays cell down (numbered given_in side (stories c events))
    ∙ ap (first_id side c.delays cell down) u.given
    ∙ blocks_are side c.delays cell down (data_of side c (arrivals_heard side [] events)) (sections_way side (hold_of side c.delays) (met side c (arrivals_heard side [] events)))
