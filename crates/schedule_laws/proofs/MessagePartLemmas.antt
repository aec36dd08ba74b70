-- The parts of a message among those of all messages.
use Rattle.std.proofs.Common.{◌≡◌, ℕ, zero, suc, ◌+◌, ◌-◌, ◌<◌, ◌≤◌, inl, inr, Bool, true, false, if◌then◌else◌, List, [], ◌∷◌, ◌++◌, length, take, drop, get_or, append_assoc, refl, ap, ap₂, sym, ◌∙◌, subst, arith}
use Rattle.std.proofs.Math.Seq.{take-append_seam, drop-append-add}
use Rattle.std.proofs.lemmas.List.{length-append}
use Rattle.plan_model.specs.Packs.{PartFields, Message, Numbered, alone, parts_of, with_part, takes, packs_behind, packs, numbered_behind}
use Rattle.schedule_laws.specs.MessageParts.{first_sections}
use Rattle.fh_base.specs.Members.{IsIn}

-- ---- the messages' parts, one after the other

pub all_parts : {P : Type 0} → List (Message P) → List P
all_parts [] = []
all_parts (m ∷ ms) = parts_of m ++ all_parts ms

parts_behind : {P : Type 0} (f : PartFields P) (most : ℕ) (m : Message P) (ps : List P) → all_parts (packs_behind f most m ps) ≡ parts_of m ++ ps
unfolding packs_behind all_parts
parts_behind f most m [] = refl
parts_behind {P = P} f most m (p ∷ ps) = go (takes f most m p) (parts_behind f most (with_part m p) ps) (parts_behind f most (alone p) ps)
  where
    go : (t : Bool) → all_parts (packs_behind f most (with_part m p) ps) ≡ parts_of (with_part m p) ++ ps → all_parts (packs_behind f most (alone p) ps) ≡ p ∷ ps
        → all_parts (let ms : List (Message P) = if t then packs_behind f most (with_part m p) ps else m ∷ packs_behind f most (alone p) ps in ms) ≡ parts_of m ++ p ∷ ps
    go true taken begun = taken ∙ ap (λ (xs : List P). m.first ∷ xs) (append_assoc m.more (p ∷ []) ps)
    go false taken begun = ap (λ (xs : List P). parts_of m ++ xs) begun

pub parts_of_packs : {P : Type 0} (f : PartFields P) (most : ℕ) (ps : List P) → all_parts (packs f most ps) ≡ ps
unfolding all_parts
parts_of_packs f most [] = refl
parts_of_packs f most (p ∷ ps) = parts_behind f most (alone p) ps

-- ---- a message between where it begins and where the next one does

pub record IsSlice {P : Type 0} (from all : ℕ) (ms : List (Message P)) (n : ℕ) (m : Message P) : Type 0 where
  pub begins : n < length (first_sections from ms)
  pub low : from ≤ get_or (first_sections from ms) n 0
  pub order : get_or (first_sections from ms) n 0 ≤ get_or (first_sections from ms) (n + 1) all
  pub within : get_or (first_sections from ms) (n + 1) all ≤ all
  pub is : take (get_or (first_sections from ms) (n + 1) all - get_or (first_sections from ms) n 0) (drop (get_or (first_sections from ms) n 0 - from) (all_parts ms)) ≡ parts_of m

first_slice : {P : Type 0} (from all b t : ℕ) (own rest : List P) → b ≡ from → t ≡ from + length own → take (t - b) (drop (b - from) (own ++ rest)) ≡ own
first_slice {P = P} from all b t own rest b_is t_is =
    let none : b - from ≡ 0 = omega (arith, b_is) in
    let len : t - b ≡ length own = omega (arith, b_is, t_is) in
    ap₂ (λ (i j : ℕ). take i (drop j (own ++ rest))) len none ∙ take-append_seam own rest

later_slice : {P : Type 0} (from b t : ℕ) (own rest : List P) → from + length own ≤ b → take (t - b) (drop (b - from) (own ++ rest)) ≡ take (t - b) (drop (b - (from + length own)) rest)
later_slice from b t own rest low =
    let e : b - from ≡ length own + (b - (from + length own)) = omega (arith, low) in
    ap (take (t - b)) (ap (λ (i : ℕ). drop i (own ++ rest)) e ∙ drop-append-add own rest (b - (from + length own)))

pub slice_is : {P : Type 0} (from all : ℕ) (ms : List (Message P)) (n : ℕ) (d : Message P) → n < length ms → all ≡ from + length (all_parts ms) → IsSlice from all ms n (get_or ms n d)
unfolding first_sections all_parts
slice_is from all [] n d below e = absurd (omega (arith, below))
slice_is {P = P} from all (m ∷ []) zero d below e =
    let len = length-append (parts_of m) [] in
    record {
      begins = omega arith;
      low = omega arith;
      order = omega (arith, e);
      within = omega arith;
      is = first_slice from all from all (parts_of m) [] refl (omega (arith, e, len));
    }
slice_is {P = P} from all (m ∷ (k ∷ ms)) zero d below e =
    let len = length-append (parts_of m) (all_parts (k ∷ ms)) in
    record {
      begins = omega arith;
      low = omega arith;
      order = omega arith;
      within = omega (arith, e, len);
      is = first_slice from all from (from + length (parts_of m)) (parts_of m) (all_parts (k ∷ ms)) refl refl;
    }
slice_is {P = P} from all (m ∷ ms) (suc n) d below e =
    let len = length-append (parts_of m) (all_parts ms) in
    let r = slice_is (from + length (parts_of m)) all ms n d (omega (arith, below)) (omega (arith, e, len)) in
    let low = r.low in
    let some = r.begins in
    let next : suc (n + 1) ≡ suc n + 1 = omega arith in
    let b : ℕ = get_or (first_sections (from + length (parts_of m)) ms) n 0 in
    record {
      begins = omega (arith, some);
      low = omega (arith, low);
      order = subst (λ (i : ℕ). b ≤ get_or (first_sections from (m ∷ ms)) i all) next r.order;
      within = subst (λ (i : ℕ). get_or (first_sections from (m ∷ ms)) i all ≤ all) next r.within;
      is = subst (λ (i : ℕ). take (get_or (first_sections from (m ∷ ms)) i all - b) (drop (b - from) (parts_of m ++ all_parts ms)) ≡ parts_of (get_or ms n d)) next
          (later_slice from b (get_or (first_sections (from + length (parts_of m)) ms) (n + 1) all) (parts_of m) (all_parts ms) low ∙ r.is);
    }

-- ---- numbers

pub record IsNumbered {P : Type 0} (base : ℕ) (ms : List (Message P)) (n : Numbered P) : Type 0 where
  pub k : ℕ
  pub number : n.number ≡ base + k
  pub below : k < length ms
  pub is : get_or ms k n.message ≡ n.message

pub number_of : {P : Type 0} (f : PartFields P) (frames : Message P → ℕ) (earlier ms : List (Message P)) (n : Numbered P) → IsIn n (numbered_behind f frames earlier ms) → IsNumbered (length earlier) ms n
unfolding numbered_behind
number_of f frames earlier [] n i = absurd i
number_of {P = P} f frames earlier (m ∷ ms) n i = elim i [
  | inl here ↦ record {
    k = 0;
    number = (let e = ap (λ (x : Numbered P). x.number) here in omega (arith, e));
    below = omega arith;
    is = sym (ap (λ (x : Numbered P). x.message) here);
  }
  | inr there ↦
      let r = number_of f frames (m ∷ earlier) ms n there in
      let number = r.number in
      let below = r.below in
      record { k = suc r.k; number = omega (arith, number); below = omega (arith, below); is = r.is }
]
