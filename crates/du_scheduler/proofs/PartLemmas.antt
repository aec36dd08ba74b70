-- The parts of a message at their places.
use Rattle.std.proofs.Common.{ap₂, set, ◌≡◌, ℕ, zero, suc, ◌+◌, ◌<◌, List, [], ◌∷◌, ◌++◌, length, take, map, get_or, Some, refl, ap, sym, ◌∙◌, arith, subst}
use Rattle.std.specs.List.{slice_get}
use Rattle.std.proofs.lemmas.List.{length-map, map_push, take_all, take_more, take_more_set}
use Rattle.std.proofs.lemmas.Option.{get_or_from_slice_get, same_Some, slice_get-get_or, slice_get_within}
use Rattle.frame_bytes.specs.declared.messages.DataSection.{DataSection}
use Rattle.sent_frames.specs.Messages.{data_head, data_section}
use Rattle.sent_frames.specs.Sources.{AreAnswersIn, data_frame}
use Rattle.sent_frames.specs.declared.data.Fragment.{Fragment}
use Rattle.air_source.specs.declared.places.RePlace.{RePlace}
use Rattle.bfp_codec.specs.declared.samples.Iq.{Iq}
use Rattle.bfp_codec.specs.declared.samples.Wide.{Wide}
use Rattle.plan_model.specs.Packs.{Message, parts_of}
use Rattle.plan_model.specs.Streams.{Part, part_in}
use Rattle.frame_bytes.specs.Messages.{MessageFits, message_size}
use Rattle.plan_model.specs.declared.lines.PlannedLine.{PlannedLine}
use Rattle.du_scheduler.specs.Kept.{placed_line}
use Rattle.du_scheduler.specs.declared.kept.PlacedLine.{PlacedLine}
use Rattle.du_scheduler.specs.Written.{StandIn, StandsAt, message_sections}
use Rattle.frame_bytes.specs.Headers.{carrier_of}
use Rattle.unit_model.specs.Terms.{piece_count}

-- part k and its line
pub record IsPartAt (lines : List PlannedLine) (part : PlacedLine) (xs : List Part) (k : ℕ) : Type 0 where
  pub x : Part
  pub at : slice_get xs k ≡ Some x
  pub is : part ≡ placed_line x
  pub line : slice_get lines part.line ≡ Some x.planned

placed_here : (lines : List PlannedLine) (x : Part) (xs : List Part) (part : PlacedLine) → part ≡ placed_line x → slice_get lines x.planned.index ≡ Some x.planned → IsPartAt lines part (x ∷ xs) 0
placed_here lines x xs part is line = record { x = x; at = refl; is = is; line = ap (λ (q : PlacedLine). slice_get lines q.line) is ∙ line }

part_in_places : (lines : List PlannedLine) (xs : List Part) (k : ℕ) (part : PlacedLine) → StandIn lines xs → slice_get (map placed_line xs) k ≡ Some part → IsPartAt lines part xs k
part_in_places lines [] k part stand h = cc
part_in_places lines (x ∷ xs) zero part stand h = placed_here lines x xs part (sym (same_Some (placed_line x) part h)) stand.0
part_in_places lines (x ∷ xs) (suc k) part stand h =
    let r = part_in_places lines xs k part stand.1 h in
    record { x = r.x; at = r.at; is = r.is; line = r.line }

pub part_at : (lines : List PlannedLine) (parts : List PlacedLine) (xs : List Part) (k : ℕ) (part : PlacedLine) → StandsAt lines parts xs → slice_get parts k ≡ Some part → IsPartAt lines part xs k
part_at lines parts xs k part s h = part_in_places lines xs k part s.stand (ap (λ (ps : List PlacedLine). slice_get ps k) (sym s.are) ∙ h)

-- ---- sections

take_next : (xs : List Part) (k : ℕ) (x : Part) → slice_get xs k ≡ Some x → take (k + 1) xs ≡ take k xs ++ x ∷ []
take_next xs k x at = take_more xs k x (slice_get_within xs k x at) ∙ ap (λ (y : Part). take k xs ++ y ∷ []) (get_or_from_slice_get xs k x x at)

pub sections_more : (into : List DataSection) (xs : List Part) (k : ℕ) (v : DataSection) (x : Part) → k < length into → slice_get xs k ≡ Some x → v ≡ data_section x
    → take k into ≡ map data_section (take k xs) → take (k + 1) (set into k v) ≡ map data_section (take (k + 1) xs)
sections_more into xs k v x lt at is so_far =
    take_more_set into k v lt ∙ ap₂ (λ (ss : List DataSection) (s : DataSection). ss ++ s ∷ []) so_far is
    ∙ sym (ap (λ (ys : List Part). map data_section ys) (take_next xs k x at) ∙ map_push data_section (take k xs) x)

pub length_parts : (lines : List PlannedLine) (parts : List PlacedLine) (xs : List Part) → StandsAt lines parts xs → length parts ≡ length xs
length_parts lines parts xs s = ap (λ (ps : List PlacedLine). length ps) s.are ∙ length-map xs placed_line

pub sections_all : (lines : List PlannedLine) (parts : List PlacedLine) (xs : List Part) (into : List DataSection) (k : ℕ) → StandsAt lines parts xs → k ≡ length parts
    → take k into ≡ map data_section (take k xs) → take (length parts) into ≡ map data_section xs
sections_all lines parts xs into k s end so_far =
    ap (λ n. take n into) (sym end) ∙ so_far ∙ ap (λ (ys : List Part). map data_section ys) (take_all k xs (let n = length_parts lines parts xs s in omega (arith, end, n)))

-- ---- the message

abbrev pub no_place : PlacedLine
no_place = record { line = 0; symbol = 0 }

-- what is read of a message's places
pub record IsRead (m : Message Part) (p : PlannedLine) (symbol : ℕ) (ss : List DataSection) : Type 0 where
  pub line : p ≡ m.first.planned
  pub symbol_is : symbol ≡ m.first.symbol
  pub sections : ss ≡ message_sections m

first_same : (m : Message Part) (x : Part) → slice_get (parts_of m) 0 ≡ Some x → x ≡ m.first
first_same m x h = cc

pub is_read : (lines : List PlannedLine) (parts : List PlacedLine) (m : Message Part) (p : PlannedLine) (ss : List DataSection) → StandsAt lines parts (parts_of m)
    → p ≡ get_or lines (get_or parts 0 no_place).line p → ss ≡ map data_section (parts_of m) → IsRead m p (get_or parts 0 no_place).symbol ss
is_read lines parts m p ss s got sections =
    let n = length_parts lines parts (parts_of m) s in
    let some : 0 < length parts = omega (arith, n) in
    let r = part_at lines parts (parts_of m) 0 (get_or parts 0 no_place) s (slice_get-get_or parts 0 no_place some) in
    let first = first_same m r.x r.at in
    record {
      line = got ∙ get_or_from_slice_get lines (get_or parts 0 no_place).line r.x.planned p r.line ∙ ap (λ (x : Part). x.planned) first;
      symbol_is = ap (λ (q : PlacedLine). q.symbol) r.is ∙ ap (λ (x : Part). x.symbol) first;
      sections = sections;
    }

pub first_within : (lines : List PlannedLine) (parts : List PlacedLine) (m : Message Part) → StandsAt lines parts (parts_of m) → (get_or parts 0 no_place).line < length lines
first_within lines parts m s =
    let n = length_parts lines parts (parts_of m) s in
    let some : 0 < length parts = omega (arith, n) in
    let r = part_at lines parts (parts_of m) 0 (get_or parts 0 no_place) s (slice_get-get_or parts 0 no_place some) in
    slice_get_within lines (get_or parts 0 no_place).line r.x.planned r.line

pub read_fits : (m : Message Part) (p : PlannedLine) (symbol : ℕ) (ss : List DataSection) → IsRead m p symbol ss
    → MessageFits (carrier_of m.first.planned.endpoint) (data_head m.first) (message_sections m) → MessageFits (carrier_of p.endpoint) (data_head (part_in symbol p)) ss
read_fits m p symbol ss r h = let line = r.line in let symbol_is = r.symbol_is in let sections = r.sections in rw (line, symbol_is, sections) h

pub read_few : (m : Message Part) (p : PlannedLine) (symbol : ℕ) (ss : List DataSection) (sub size : ℕ) → IsRead m p symbol ss
    → sub < piece_count size (message_size (carrier_of m.first.planned.endpoint) (message_sections m)) → sub < piece_count size (message_size (carrier_of p.endpoint) ss)
read_few m p symbol ss sub size r h = let line = r.line in let sections = r.sections in rw (line, sections) h

pub read_frame : (m : Message Part) (p : PlannedLine) (symbol : ℕ) (ss : List DataSection) (f : Fragment) (answer : RePlace → Wide) (blocks : ℕ → ℕ → List Iq) (frame : List ℕ) → IsRead m p symbol ss
    → (AreAnswersIn p symbol (length ss) answer blocks → frame ≡ data_frame p symbol ss f blocks) → AreAnswersIn m.first.planned m.first.symbol (length (parts_of m)) answer blocks
    → frame ≡ data_frame m.first.planned m.first.symbol (message_sections m) f blocks
read_frame m p symbol ss f answer blocks frame r h are =
    let line = r.line in let symbol_is = r.symbol_is in let sections = r.sections in
    let g = rw (line, symbol_is, sections) at h in
    g (subst (λ n. AreAnswersIn m.first.planned m.first.symbol n answer blocks) (sym (length-map (parts_of m) data_section)) are)
