-- The parts of a message among those of its stream.
use Rattle.std.proofs.Common.{◌≡◌, ℕ, ◌+◌, ◌-◌, ◌<◌, ◌≤◌, List, [], ◌∷◌, length, map, take, drop, get_or, refl, ap, ap₂, sym, ◌∙◌, subst, arith}
use Rattle.std.proofs.lemmas.List.{length-map, take-map, drop-map}
use Rattle.window_config.specs.declared.config.Config.{Config}
use Rattle.window_config.specs.declared.endpoints.EndpointConfig.{EndpointConfig}
use Rattle.plan_model.specs.Packs.{Message, Numbered, parts_of, packs}
use Rattle.plan_model.specs.Streams.{Part, frames_in, messages_of, most_parts, part_fields, parts_in}
use Rattle.plan_model.specs.declared.lines.PlannedLine.{PlannedLine}
use Rattle.plan_model.specs.declared.streams.Stream.{Stream}
use Rattle.du_scheduler.specs.Parts.{timed}
use Rattle.schedule_laws.specs.MessageParts.{stream_begins}
use Rattle.du_scheduler.specs.Kept.{placed_line_of, placed_line, IsStreamParts, message_in, HasMessage}
use Rattle.du_scheduler.specs.declared.kept.PlacedLine.{PlacedLine}
use Rattle.du_scheduler.specs.declared.kept.StreamParts.{StreamParts}
use Rattle.schedule_laws.proofs.MessagePartLemmas.{all_parts, parts_of_packs, IsSlice, slice_is, IsNumbered, number_of}
use Rattle.fh_base.specs.Members.{IsIn}

-- ---- what is kept of parts

pub lines_are : (stream : Stream) (ps : List Part) → map placed_line_of (map (timed stream) ps) ≡ map placed_line ps
lines_are stream [] = refl
lines_are stream (p ∷ ps) = ap (λ (xs : List PlacedLine). placed_line p ∷ xs) (lines_are stream ps)

-- ---- a message that is kept

pub record IsMessage (k : StreamParts) (n : Numbered Part) : Type 0 where
  pub has : HasMessage k n.number
  pub is : message_in k n.number ≡ map placed_line (parts_of n.message)

pub message_is : (c : Config) (ps : List PlannedLine) (stream : Stream) (ep : ℕ) (e : EndpointConfig) (k : StreamParts) (n : Numbered Part) → IsStreamParts c ps stream ep e k
    → IsIn n (messages_of c ps stream ep e) → IsMessage k n
unfolding messages_of
message_is c ps stream ep e k n kept there = subst (λ (i : ℕ). IsMessage k (record { message = n.message; number = i; before = n.before })) (sym same) (record { has = has; is = is })
  where
    ms : List (Message Part)
    ms = packs part_fields (most_parts c stream) (parts_in ps stream ep e)

    r : IsNumbered 0 (packs part_fields (most_parts c stream) (parts_in ps stream ep e)) n
    r = number_of part_fields (frames_in c stream) [] (packs part_fields (most_parts c stream) (parts_in ps stream ep e)) n there

    same : n.number ≡ r.k
    same = let a = r.number in omega (arith, a)

    parts_are : all_parts (packs part_fields (most_parts c stream) (parts_in ps stream ep e)) ≡ parts_in ps stream ep e
    parts_are = parts_of_packs part_fields (most_parts c stream) (parts_in ps stream ep e)

    long : length k.parts.items ≡ 0 + length (all_parts (packs part_fields (most_parts c stream) (parts_in ps stream ep e)))
    long = let e = ap length kept.parts ∙ length-map (parts_in ps stream ep e) placed_line ∙ ap length (sym parts_are) in omega (arith, e)

    s : IsSlice 0 (length k.parts.items) (packs part_fields (most_parts c stream) (parts_in ps stream ep e)) r.k (get_or (packs part_fields (most_parts c stream) (parts_in ps stream ep e)) r.k n.message)
    s = slice_is 0 (length k.parts.items) (packs part_fields (most_parts c stream) (parts_in ps stream ep e)) r.k n.message r.below long

    from_there : take (get_or (stream_begins c ps stream ep e) (r.k + 1) (length k.parts.items) - get_or (stream_begins c ps stream ep e) r.k 0)
        (drop (get_or (stream_begins c ps stream ep e) r.k 0) (all_parts (packs part_fields (most_parts c stream) (parts_in ps stream ep e))))
        ≡ parts_of (get_or (packs part_fields (most_parts c stream) (parts_in ps stream ep e)) r.k n.message)
    from_there =
        let bs = stream_begins c ps stream ep e in
        let none : get_or bs r.k 0 - 0 ≡ get_or bs r.k 0 = omega arith in
        ap (λ (i : ℕ). take (get_or bs (r.k + 1) (length k.parts.items) - get_or bs r.k 0) (drop i (all_parts (packs part_fields (most_parts c stream) (parts_in ps stream ep e))))) (sym none) ∙ s.is

    has : HasMessage k r.k
    has =
        let w = subst (λ (bs : List ℕ). (r.k < length bs) × (get_or bs r.k 0 ≤ get_or bs (r.k + 1) (length k.parts.items)) × (get_or bs (r.k + 1) (length k.parts.items) ≤ length k.parts.items))
        (sym kept.begins) (s.begins, s.order, s.within) in
        record { number = w.0; order = w.1; within = w.2 }

    is : message_in k r.k ≡ map placed_line (parts_of n.message)
    is =
        let bs = stream_begins c ps stream ep e in
        let all = length k.parts.items in
        ap₂ (λ (xs : List ℕ) (ls : List PlacedLine). take (get_or xs (r.k + 1) all - get_or xs r.k 0) (drop (get_or xs r.k 0) ls)) kept.begins (kept.parts ∙ ap (map placed_line) (sym parts_are))
        ∙ ap (take (get_or bs (r.k + 1) all - get_or bs r.k 0)) (drop-map placed_line (get_or bs r.k 0) (all_parts (packs part_fields (most_parts c stream) (parts_in ps stream ep e))))
        ∙ take-map placed_line (get_or bs (r.k + 1) all - get_or bs r.k 0) (drop (get_or bs r.k 0) (all_parts (packs part_fields (most_parts c stream) (parts_in ps stream ep e))))
        ∙ ap (map placed_line) (from_there ∙ ap parts_of r.is)
