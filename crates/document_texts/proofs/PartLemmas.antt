-- The size of a message, part by part.
use Rattle.std.proofs.Common.{◌≡◌, ℕ, zero, suc, ◌+◌, ◌<◌, ◌≤◌, List, [], ◌∷◌, get_or, length, map, take, Some, refl, ap, sym, ◌∙◌, subst, arith}
use Rattle.std.specs.List.{slice_get}
use Rattle.std.specs.Prelude.{sum}
use Rattle.std.proofs.lemmas.List.{length-map, take_all}
use Rattle.std.proofs.lemmas.List.Sums.{sum_by-cons}
use Rattle.std.proofs.lemmas.Option.{same_Some, slice_get-get_or, slice_get_within}
use Rattle.window_config.specs.declared.endpoints.EndpointConfig.{EndpointConfig}
use Rattle.window_config.specs.declared.plan.PlanLine.{PlanLine}
use Rattle.plan_model.specs.Packs.{Message, parts_of, size_of}
use Rattle.plan_model.specs.Streams.{Part, part_fields, section_size}
use Rattle.du_scheduler.specs.Kept.{placed_line}
use Rattle.du_scheduler.specs.declared.kept.PlacedLine.{PlacedLine}
use Rattle.document_texts.specs.Frames.{IsPlaced, StandsIn}
use Rattle.fh_base.proofs.MadeLists.{at_in}

-- ---- sums

sum_last : {X : Type 0} (g : X → ℕ) (xs : List X) (i : ℕ) (x : X) → slice_get xs i ≡ Some x → sum (map g (take (suc i) xs)) ≡ sum (map g (take i xs)) + g x
sum_last g [] i x got = absurd cc
sum_last g (y ∷ xs) zero x got =
    let same : y ≡ x = same_Some y x got in
    sum_by-cons (λ (n : ℕ). n) (g y) [] ∙ ap (λ z. g z + 0) same ∙ omega arith
sum_last g (y ∷ xs) (suc i) x got =
    let a = sum_by-cons (λ (n : ℕ). n) (g y) (map g (take (suc i) xs)) in
    let b = sum_by-cons (λ (n : ℕ). n) (g y) (map g (take i xs)) in
    let rest = sum_last g xs i x got in
    omega (arith, a, b, rest)

sum_front : {X : Type 0} (g : X → ℕ) (xs : List X) (i : ℕ) → sum (map g (take i xs)) ≤ sum (map g xs)
sum_front g [] zero = omega arith
sum_front g [] (suc i) = omega arith
sum_front g (y ∷ xs) zero = omega arith
sum_front g (y ∷ xs) (suc i) =
    let a = sum_by-cons (λ (n : ℕ). n) (g y) (map g (take i xs)) in
    let b = sum_by-cons (λ (n : ℕ). n) (g y) (map g xs) in
    let rest = sum_front g xs i in
    omega (arith, a, b, rest)

-- ---- a part at its place

record IsPartAt (e : EndpointConfig) (plan : List PlanLine) (part : PlacedLine) (m : Message Part) (k : ℕ) : Type 0 where
  x : Part
  at : slice_get (parts_of m) k ≡ Some x
  is : part ≡ placed_line x
  stands : StandsIn plan e x

placed_part : (xs : List Part) (k : ℕ) (part : PlacedLine) → slice_get (map placed_line xs) k ≡ Some part → (x : Part) × (slice_get xs k ≡ Some x) × (part ≡ placed_line x)
placed_part [] k part h = absurd cc
placed_part (x ∷ xs) zero part h = (x, refl, sym (same_Some (placed_line x) part h))
placed_part (x ∷ xs) (suc k) part h = placed_part xs k part h

abbrev pub no_place : PlacedLine
no_place = record { line = 0; symbol = 0 }

part_at : (plan : List PlanLine) (e : EndpointConfig) (parts : List PlacedLine) (m : Message Part) (k : ℕ) → IsPlaced plan e parts m → k < length parts → IsPartAt e plan (get_or parts k no_place) m k
part_at plan e parts m k p below =
    let w = placed_part (parts_of m) k (get_or parts k no_place) (ap (λ (ps : List PlacedLine). slice_get ps k) (sym p.are) ∙ slice_get-get_or parts k no_place below) in
    record { x = w.0; at = w.1; is = w.2; stands = p.each w.0 (at_in k w.0 (parts_of m) w.1) }

pub line_there : (plan : List PlanLine) (e : EndpointConfig) (parts : List PlacedLine) (m : Message Part) (k : ℕ) → IsPlaced plan e parts m → k < length parts → (get_or parts k no_place).line < length plan
line_there plan e parts m k p below =
    let r = part_at plan e parts m k p below in
    subst (λ (i : ℕ). i < length plan) (sym (ap (λ (q : PlacedLine). q.line) r.is)) (slice_get_within plan r.x.planned.index r.x.planned.line r.stands.line)

-- ---- the size so far

pub size_more : (plan : List PlanLine) (e : EndpointConfig) (parts : List PlacedLine) (m : Message Part) (k : ℕ) (line : PlanLine) (section size : ℕ) → IsPlaced plan e parts m → k < length parts
    → slice_get plan (get_or parts k no_place).line ≡ Some line → section ≡ section_size e line.num_prb
    → size ≡ 4 + sum (map part_fields.size (take k (parts_of m))) → size + section ≡ 4 + sum (map part_fields.size (take (k + 1) (parts_of m)))
size_more plan e parts m k line section size p below got section_is so_far =
    let r = part_at plan e parts m k p below in
    let found : slice_get plan (get_or parts k no_place).line ≡ Some r.x.planned.line = ap (λ (q : PlacedLine). slice_get plan q.line) r.is ∙ r.stands.line in
    let same : line ≡ r.x.planned.line = same_Some line r.x.planned.line (sym got ∙ found) in
    let here : section ≡ part_fields.size r.x = section_is ∙ ap (λ (l : PlanLine). section_size e l.num_prb) same ∙ ap (λ (d : EndpointConfig). section_size d r.x.planned.line.num_prb) (sym r.stands.endpoint) in
    let more = sum_last part_fields.size (parts_of m) k r.x r.at in
    let next : suc k ≡ k + 1 = omega arith in
    let whole : size + section ≡ 4 + sum (map part_fields.size (take (suc k) (parts_of m))) = omega (arith, so_far, here, more) in
    whole ∙ ap (λ (i : ℕ). 4 + sum (map part_fields.size (take i (parts_of m)))) next

pub size_within : (m : Message Part) (k size : ℕ) → size ≡ 4 + sum (map part_fields.size (take k (parts_of m))) → size ≤ size_of part_fields m
size_within m k size is = let front = sum_front part_fields.size (parts_of m) k in omega (arith, is, front)

pub size_all : (plan : List PlanLine) (e : EndpointConfig) (parts : List PlacedLine) (m : Message Part) (k size : ℕ) → IsPlaced plan e parts m → length parts ≤ k
    → size ≡ 4 + sum (map part_fields.size (take k (parts_of m))) → size ≡ size_of part_fields m
size_all plan e parts m k size p past is =
    let long : length parts ≡ length (parts_of m) = ap length p.are ∙ length-map (parts_of m) placed_line in
    is ∙ ap (λ (xs : List Part). 4 + sum (map part_fields.size xs)) (take_all k (parts_of m) (omega (arith, long, past)))
