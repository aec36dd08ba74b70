-- Messages that grow: symbols alike, bytes and waits.
use Rattle.std.proofs.Common.{◌≡◌, ℕ, ◌+◌, ◌*◌, ◌≤◌, Bool, true, ◌&&◌, ◌==◌, nat_le, nat_lt, min, if◌then◌else◌, List, [], ◌∷◌, ◌++◌, length, map, sum, refl, ap, ap₂, sym, subst, ◌∙◌, add-mul, arith}
use Rattle.std.proofs.lemmas.List.{map-append}
use Rattle.std.proofs.lemmas.List.Sums.{sum_by-append}
use Rattle.std.proofs.lemmas.Bool.{and_parts, eqb-true, leb-true, ltb-true}
use Rattle.fh_base.specs.declared.values.Slot.{Slot}
use Rattle.unit_model.specs.Claims.{same_slot}
use Rattle.unit_model.specs.Terms.{MESSAGE_BYTES}
use Rattle.plan_model.specs.Packs.{Message, PartFields, alone, parts_of, same_symbol, frames_before, takes, with_part}
use Rattle.plan_model.specs.Sizes.{has_room, larger, measured, of_one}
use Rattle.plan_model.specs.declared.sizes.MessageSize.{MessageSize}
use Rattle.plan_model.specs.Streams.{Part, part_fields}
use Rattle.unit_model.proofs.ClaimLemmas.{same_slot_is as slot_is}

-- parts of one symbol are so to a third alike
pub symbol_alike : (p q r : Part) → same_symbol part_fields p q ≡ true → same_symbol part_fields p r ≡ same_symbol part_fields q r
symbol_alike p q r h =
    let a = and_parts (same_slot p.planned.line.slot q.planned.line.slot) (p.symbol == q.symbol) h in
    ap₂ (λ (s : Slot) (y : ℕ). same_slot s r.planned.line.slot && (y == r.symbol)) (slot_is p.planned.line.slot q.planned.line.slot a.0) (eqb-true p.symbol q.symbol a.1)

pub before_alike : (frames : Message Part → ℕ) (m n : Message Part) (earlier : List (Message Part)) → ((r : Part) → same_symbol part_fields m.first r ≡ same_symbol part_fields n.first r)
    → frames_before part_fields frames m earlier ≡ frames_before part_fields frames n earlier
unfolding frames_before
before_alike frames m n [] h = refl
before_alike frames m n (k ∷ earlier) h =
    ap₂ (λ (t : Bool) (x : ℕ). let y : ℕ = if t then frames k + x else 0 in y) (h k.first) (before_alike frames m n earlier h)

sum_more : {P : Type 0} (f : P → ℕ) (ps : List P) (p : P) → sum (map f (ps ++ p ∷ [])) ≡ sum (map f ps) + f p
sum_more f ps p =
    let e : sum (map f ps ++ f p ∷ []) ≡ sum (map f ps) + sum (f p ∷ []) = sum_by-append (λ x. x) (map f ps) (f p ∷ []) in
    ap sum (map-append f ps (p ∷ [])) ∙ e ∙ omega arith

pub length_more : {X : Type 0} (xs : List X) (x : X) → length (xs ++ x ∷ []) ≡ length xs + 1
length_more [] x = refl
length_more (y ∷ xs) x = let e = length_more xs x in omega (arith, e)

-- ---- how large a message is

size : ℕ → ℕ → MessageSize
size n k = record { parts = n; bytes = k }

pub measured_one : {P : Type 0} (f : PartFields P) (p : P) → of_one (f.size p) ≡ measured f (alone p)
unfolding size
measured_one f p = ap (size 1) (omega arith)

pub measured_more : {P : Type 0} (f : PartFields P) (m : Message P) (p : P) → larger (measured f m) (f.size p) ≡ measured f (with_part m p)
unfolding size
measured_more f m p = let b = sum_more f.size (parts_of m) p in ap₂ size (sym (length_more (parts_of m) p)) (omega (arith, b))

-- it has at most so many parts, and no more bytes than a message may
pub record IsWithin (most : ℕ) (s : MessageSize) : Type 0 where
  pub parts : s.parts ≤ most
  pub bytes : s.bytes ≤ MESSAGE_BYTES

pub room_is : (most : ℕ) (s : MessageSize) (n : ℕ) → has_room most s n ≡ true → IsWithin most (larger s n)
room_is most s n h =
    let two = and_parts (nat_lt s.parts most) (nat_le (s.bytes + n) MESSAGE_BYTES) h in
    let few = ltb-true s.parts most two.0 in
    record { parts = omega (arith, few); bytes = leb-true (s.bytes + n) MESSAGE_BYTES two.1 }

pub takes_room : {P : Type 0} (f : PartFields P) (most : ℕ) (m : Message P) (p : P) → takes f most m p ≡ true → IsWithin most (measured f (with_part m p))
takes_room f most m p h =
    let rest = (and_parts (same_symbol f m.first p) _ h).1 in
    subst (IsWithin most) (measured_more f m p) (room_is most (measured f m) (f.size p) (and_parts (f.filter m.first == f.filter p) _ rest).1)

pub wait_more : (before frames gap spread : ℕ) → min (min (before * gap) spread + frames * gap) spread ≡ min ((frames + before) * gap) spread
wait_more before frames gap spread =
    let e : (frames + before) * gap ≡ frames * gap + before * gap = add-mul frames before gap in
    omega (arith, e)
