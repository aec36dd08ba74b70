-- The messages of a stream by their numbers: they are in the order of their starts, each has one symbol and at most 16,384 bytes.
use Rattle.std.proofs.Common.{◌≡◌, ℕ, ℤ, zero, suc, ◌+◌, ◌≤◌, ◌≤ℤ◌, ◌⊎◌, inl, inr, Bool, true, false, if◌then◌else◌, List, [], ◌∷◌, length, Some, refl, ap, sym, ◌∙◌, subst, arith}
use Rattle.std.specs.List.{slice_get}
use Rattle.std.proofs.lemmas.Bool.{and_parts, and_from, eq-eqb}
use Rattle.std.specs.Int.Signed.{≤ℤ_refl}
use Rattle.plan_model.specs.Packs.{PartFields, Message, Numbered, alone, frames_before, numbered, numbered_behind, packs, packs_behind, parts_of, same_symbol, size_of, takes, with_part}
use Rattle.plan_model.proofs.PackLemmas.{takes_room}
use Rattle.plan_model.proofs.SchedulePackLemmas.{packs_hold, parts_behind}
use Rattle.unit_model.proofs.ClaimLemmas.{slot_self as slot_own}
use Rattle.ecpri_fragments.specs.declared.place.TheConstants.{MESSAGE_BYTES}
use Rattle.fh_base.specs.Members.{IsIn}
use Rattle.fh_base.proofs.MemberLemmas.{in_either}
use Rattle.fh_base.proofs.MadeLists.{at_in}
use Rattle.fh_base.proofs.RisingLemmas.{IsRising}

-- ---- places

-- ---- in the order of a key

pub rising_at : {X : Type 0} (key : X → ℤ) (xs : List X) (j k : ℕ) (x y : X) → IsRising key xs → slice_get xs j ≡ Some x → slice_get xs k ≡ Some y → j ≤ k → key x ≤ℤ key y
rising_at key [] j k x y r p q h = absurd cc
rising_at key (z ∷ xs) zero zero x y r p q h = let a : z ≡ x = cc in let b : z ≡ y = cc in subst (λ w. key x ≤ℤ key w) (sym a ∙ b) (≤ℤ_refl (key x))
rising_at key (z ∷ xs) zero (suc k) x y r p q h = let a : z ≡ x = cc in subst (λ w. key w ≤ℤ key y) a (r.0 y (at_in k y xs q))
rising_at key (z ∷ xs) (suc j) zero x y r p q h = absurd (omega (arith, h))
rising_at key (z ∷ xs) (suc j) (suc k) x y r p q h = rising_at key xs j k x y r.1 p q (omega (arith, h))

-- ---- packs

module _ {P : Type 0} (f : PartFields P) (most : ℕ) where
  -- in the order of a key of their first parts
  behind_rising : (key : P → ℤ) (m : Message P) (ps : List P) → ((q : P) → IsIn q ps → key m.first ≤ℤ key q) → IsRising key ps → IsRising (λ n. key n.first) (packs_behind f most m ps)
  unfolding packs_behind
  behind_rising key m [] h r = (λ y i. absurd i, tt)
  behind_rising key m (p ∷ ps) h r =
      go (takes f most m p) (behind_rising key (with_part m p) ps (λ q i. h q (inr i)) r.1) (behind_rising key (alone p) ps r.0 r.1) (λ n i. parts_behind f most (alone p) ps n n.first i (inl refl))
    where
      go : (b : Bool) → IsRising (λ (n : Message P). key n.first) (packs_behind f most (with_part m p) ps) → IsRising (λ (n : Message P). key n.first) (packs_behind f most (alone p) ps)
          → ((n : Message P) → IsIn n (packs_behind f most (alone p) ps) → IsIn n.first (parts_of (alone p)) ⊎ IsIn n.first ps)
          → IsRising (λ (n : Message P). key n.first) (if b then packs_behind f most (with_part m p) ps else m ∷ packs_behind f most (alone p) ps)
      go true joined next from = joined
      go false joined next from = (
        λ n i. elim (from n i) [
          | inl l ↦ elim l [ inl e ↦ h n.first (inl e) | inr t ↦ absurd t ]
          | inr t ↦ h n.first (inr t)
        ],
        next,
      )

  pub packs_rising : (key : P → ℤ) (ps : List P) → IsRising key ps → IsRising (λ n. key n.first) (packs f most ps)
  packs_rising key [] r = tt
  packs_rising key (p ∷ ps) r = behind_rising key (alone p) ps r.0 r.1

  -- of one symbol
  abbrev IsOne : Message P → Type 0
  IsOne m = (q : P) → IsIn q (parts_of m) → same_symbol f m.first q ≡ true

  own_symbol : (p : P) → same_symbol f p p ≡ true
  own_symbol p = and_from _ _ (slot_own (f.slot p)) (eq-eqb (f.symbol p) (f.symbol p) refl)

  alone_one : (p : P) → IsOne (alone p)
  alone_one p q i = elim i [ inl e ↦ ap (λ z. same_symbol f p z) e ∙ own_symbol p | inr t ↦ absurd t ]

  takes_same : (m : Message P) (p : P) → takes f most m p ≡ true → same_symbol f m.first p ≡ true
  takes_same m p h = (and_parts (same_symbol f m.first p) _ h).0

  with_one : (m : Message P) (p : P) → IsOne m → takes f most m p ≡ true → IsOne (with_part m p)
  with_one m p h t q i = elim (in_either q (parts_of m) (p ∷ []) i) [
    | inl l ↦ h q l
    | inr r ↦ elim r [ inl e ↦ ap (λ z. same_symbol f m.first z) e ∙ takes_same m p t | inr x ↦ absurd x ]
  ]

  pub one_symbol : (ps : List P) (n : Message P) → IsIn n (packs f most ps) → (q : P) → IsIn q (parts_of n) → same_symbol f n.first q ≡ true
  one_symbol ps n i = packs_hold f most IsOne with_one ps n (λ q k. alone_one q) i

  -- of at most 16,384 bytes
  pub all_short : (ps : List P) (n : Message P) → ((q : P) → IsIn q ps → size_of f (alone q) ≤ MESSAGE_BYTES) → IsIn n (packs f most ps) → size_of f n ≤ MESSAGE_BYTES
  all_short = packs_hold f most (λ m. size_of f m ≤ MESSAGE_BYTES) (λ m p h t. (takes_room f most m p t).bytes)

-- ---- numbers

module _ {P : Type 0} (f : PartFields P) (frames : Message P → ℕ) where
  number_behind : (earlier ms : List (Message P)) (k : ℕ) (n : Numbered P) → slice_get (numbered_behind f frames earlier ms) k ≡ Some n → n.number ≡ length earlier + k
  unfolding numbered_behind
  number_behind earlier [] k n h = absurd cc
  number_behind earlier (m ∷ ms) zero n h =
      let x : Numbered P = record { message = m; number = length earlier; before = frames_before f frames m earlier } in
      let e : x ≡ n = cc in
      sym (ap (λ (y : Numbered P). y.number) e) ∙ omega arith
  number_behind earlier (m ∷ ms) (suc k) n h = let r = number_behind (m ∷ earlier) ms k n h in omega (arith, r)

  pub number_is : (ms : List (Message P)) (k : ℕ) (n : Numbered P) → slice_get (numbered f frames ms) k ≡ Some n → n.number ≡ k
  number_is ms k n h = let r = number_behind [] ms k n h in omega (arith, r)

  messages_in : (earlier ms : List (Message P)) (n : Numbered P) → IsIn n (numbered_behind f frames earlier ms) → IsIn n.message ms
  unfolding numbered_behind
  messages_in earlier [] n i = absurd i
  messages_in earlier (m ∷ ms) n i = elim i [ inl x ↦ inl (ap (λ (y : Numbered P). y.message) x) | inr t ↦ inr (messages_in (m ∷ earlier) ms n t) ]

  behind_in_order : (key : Message P → ℤ) (earlier ms : List (Message P)) → IsRising key ms → IsRising (λ (n : Numbered P). key n.message) (numbered_behind f frames earlier ms)
  unfolding numbered_behind
  behind_in_order key earlier [] r = tt
  behind_in_order key earlier (m ∷ ms) r = (λ n i. r.0 n.message (messages_in (m ∷ earlier) ms n i), behind_in_order key (m ∷ earlier) ms r.1)

  pub numbered_rising : (key : Message P → ℤ) (ms : List (Message P)) → IsRising key ms → IsRising (λ (n : Numbered P). key n.message) (numbered f frames ms)
  numbered_rising key ms r = behind_in_order key [] ms r
