-- What the messages of some parts are of.
use Rattle.std.proofs.Common.{◌≡◌, ℕ, suc, ◌+◌, ◌⊎◌, inl, inr, Bool, true, false, ◌&&◌, ◌==◌, nat_le, nat_lt, if◌then◌else◌, List, [], ◌∷◌, length, refl, ap, sym, ◌∙◌, subst, arith, ◌≤◌}
use Rattle.std.proofs.lemmas.Bool.{cases_Bool, ltb-true}
use Rattle.plan_model.specs.Packs.{PartFields, Message, Numbered, alone, frames_before, numbered, numbered_behind, packs, packs_behind, parts_of, same_symbol, size_of, takes, with_part}
use Rattle.ecpri_fragments.specs.declared.place.TheConstants.{MESSAGE_BYTES}
use Rattle.plan_model.proofs.PackLemmas.{takes_room}
use Rattle.fh_base.specs.Members.{IsIn}
use Rattle.fh_base.proofs.MemberLemmas.{in_left, in_right, in_either}

module _ {P : Type 0} (f : PartFields P) (most : ℕ) where
  -- each part of a message is one of the parts
  pub parts_behind : (m : Message P) (ps : List P) (n : Message P) (p : P) → IsIn n (packs_behind f most m ps) → IsIn p (parts_of n) → IsIn p (parts_of m) ⊎ IsIn p ps
  unfolding packs_behind
  parts_behind m [] n p i j = elim i [ inl e ↦ inl (subst (λ (x : Message P). IsIn p (parts_of x)) e j) | inr t ↦ absurd t ]
  parts_behind m (q ∷ ps) n p i j = go (takes f most m q) i (parts_behind (with_part m q) ps n p) (parts_behind (alone q) ps n p)
    where
      go : (b : Bool) → IsIn n (if b then packs_behind f most (with_part m q) ps else m ∷ packs_behind f most (alone q) ps)
          → (IsIn n (packs_behind f most (with_part m q) ps) → IsIn p (parts_of n) → IsIn p (parts_of (with_part m q)) ⊎ IsIn p ps)
          → (IsIn n (packs_behind f most (alone q) ps) → IsIn p (parts_of n) → IsIn p (parts_of (alone q)) ⊎ IsIn p ps)
          → IsIn p (parts_of m) ⊎ IsIn p (q ∷ ps)
      go true k joined next = elim (joined k j) [
        | inl l ↦ elim (in_either p (parts_of m) (q ∷ []) l) [ inl a ↦ inl a | inr b ↦ elim b [ inl e ↦ inr (inl e) | inr t ↦ absurd t ] ]
        | inr r ↦ inr (inr r)
      ]
      go false k joined next = elim k [
        | inl e ↦ inl (subst (λ (x : Message P). IsIn p (parts_of x)) e j)
        | inr t ↦ elim (next t j) [ inl l ↦ elim l [ inl e ↦ inr (inl e) | inr x ↦ absurd x ] | inr r ↦ inr (inr r) ]
      ]

  pub part_from : (ps : List P) (n : Message P) (p : P) → IsIn n (packs f most ps) → IsIn p (parts_of n) → IsIn p ps
  part_from [] n p i j = absurd i
  part_from (q ∷ ps) n p i j = elim (parts_behind (alone q) ps n p i j) [ inl l ↦ elim l [ inl e ↦ inl e | inr x ↦ absurd x ] | inr r ↦ inr r ]

  -- and each part is in a message
  has_behind : (m : Message P) (ps : List P) (p : P) → IsIn p (parts_of m) ⊎ IsIn p ps → (n : Message P) × IsIn n (packs_behind f most m ps) × IsIn p (parts_of n)
  unfolding packs_behind
  has_behind m [] p (inl l) = (m, inl refl, l)
  has_behind m [] p (inr r) = absurd r
  has_behind m (q ∷ ps) p i = go (takes f most m q) (has_behind (with_part m q) ps p) (has_behind (alone q) ps p)
    where
      go : (b : Bool) → (IsIn p (parts_of (with_part m q)) ⊎ IsIn p ps → (n : Message P) × IsIn n (packs_behind f most (with_part m q) ps) × IsIn p (parts_of n))
          → (IsIn p (parts_of (alone q)) ⊎ IsIn p ps → (n : Message P) × IsIn n (packs_behind f most (alone q) ps) × IsIn p (parts_of n))
          → (n : Message P) × IsIn n (if b then packs_behind f most (with_part m q) ps else m ∷ packs_behind f most (alone q) ps) × IsIn p (parts_of n)
      go true joined next = joined (elim i [
        | inl l ↦ inl (in_left p (parts_of m) (q ∷ []) l)
        | inr r ↦ elim r [ inl e ↦ inl (in_right p (parts_of m) (q ∷ []) (inl e)) | inr t ↦ inr t ]
      ])
      go false joined next = elim i [
        | inl l ↦ (m, inl refl, l)
        | inr r ↦ (let w = next (elim r [ inl e ↦ inl (inl e) | inr t ↦ inr t ]) in (w.0, inr w.1, w.2))
      ]

  pub has_message : (ps : List P) (p : P) → IsIn p ps → (n : Message P) × IsIn n (packs f most ps) × IsIn p (parts_of n)
  has_message [] p i = absurd i
  has_message (q ∷ ps) p i = has_behind (alone q) ps p (elim i [ inl e ↦ inl (inl e) | inr t ↦ inr t ])

  -- what holds of each part alone, and stays with each part that a message takes, holds of every message
  module _ (Q : Message P → Type 0) (stays : (m : Message P) (p : P) → Q m → takes f most m p ≡ true → Q (with_part m p)) where
    behind_hold : (m : Message P) (ps : List P) (n : Message P) → Q m → ((q : P) → IsIn q ps → Q (alone q)) → IsIn n (packs_behind f most m ps) → Q n
    unfolding packs_behind
    behind_hold m [] n h each i = elim i [ inl e ↦ subst Q (sym e) h | inr t ↦ absurd t ]
    behind_hold m (p ∷ ps) n h each i =
        go (takes f most m p) refl i (λ t. behind_hold (with_part m p) ps n (stays m p h t) (λ q k. each q (inr k))) (behind_hold (alone p) ps n (each p (inl refl)) (λ q k. each q (inr k)))
      where
        go : (b : Bool) → takes f most m p ≡ b → IsIn n (if b then packs_behind f most (with_part m p) ps else m ∷ packs_behind f most (alone p) ps)
            → (takes f most m p ≡ true → IsIn n (packs_behind f most (with_part m p) ps) → Q n) → (IsIn n (packs_behind f most (alone p) ps) → Q n) → Q n
        go true e k joined next = joined e k
        go false e k joined next = elim k [ inl x ↦ subst Q (sym x) h | inr t ↦ next t ]

    pub packs_hold : (ps : List P) (n : Message P) → ((q : P) → IsIn q ps → Q (alone q)) → IsIn n (packs f most ps) → Q n
    packs_hold [] n each i = absurd i
    packs_hold (p ∷ ps) n each i = behind_hold (alone p) ps n (each p (inl refl)) (λ q k. each q (inr k)) i

-- ---- one part a message

not_below : (k : ℕ) → nat_lt (suc k) 1 ≡ false
not_below k = elim (cases_Bool (nat_lt (suc k) 1)) [
  | inl is ↦ let l = ltb-true (suc k) 1 is in absurd (omega (arith, l))
  | inr is ↦ is
]

module _ {P : Type 0} (f : PartFields P) where
  full : (a b c : Bool) → (a && (b && (false && c))) ≡ false
  full true true c = refl
  full true false c = refl
  full false b c = refl

  takes_none : (m : Message P) (q : P) → takes f 1 m q ≡ false
  takes_none m q =
      ap (λ t. same_symbol f m.first q && ((f.filter m.first == f.filter q) && (t && nat_le (size_of f m + f.size q) MESSAGE_BYTES))) (not_below (length m.more))
      ∙ full (same_symbol f m.first q) (f.filter m.first == f.filter q) (nat_le (size_of f m + f.size q) MESSAGE_BYTES)

  one_behind : (m : Message P) (ps : List P) (n : Message P) → m.more ≡ [] → IsIn n (packs_behind f 1 m ps) → n.more ≡ []
  unfolding packs_behind
  one_behind m [] n e i = elim i [ inl x ↦ ap (λ (y : Message P). y.more) x ∙ e | inr t ↦ absurd t ]
  one_behind m (q ∷ ps) n e i = go (takes f 1 m q) (takes_none m q) i (one_behind (alone q) ps n refl)
    where
      go : (b : Bool) → b ≡ false → IsIn n (if b then packs_behind f 1 (with_part m q) ps else m ∷ packs_behind f 1 (alone q) ps)
          → (IsIn n (packs_behind f 1 (alone q) ps) → n.more ≡ []) → n.more ≡ []
      go true h k next = absurd cc
      go false h k next = elim k [ inl x ↦ ap (λ (y : Message P). y.more) x ∙ e | inr t ↦ next t ]

  pub one_part : (ps : List P) (n : Message P) → IsIn n (packs f 1 ps) → n.more ≡ []
  one_part [] n i = absurd i
  one_part (q ∷ ps) n i = one_behind (alone q) ps n refl i

-- ---- numbers

module _ {P : Type 0} (f : PartFields P) (frames : Message P → ℕ) where
  numbered_from : (earlier ms : List (Message P)) (n : Numbered P) → IsIn n (numbered_behind f frames earlier ms) → IsIn n.message ms
  unfolding numbered_behind
  numbered_from earlier [] n i = absurd i
  numbered_from earlier (m ∷ ms) n i = elim i [
    | inl e ↦ inl (ap (λ (x : Numbered P). x.message) e)
    | inr t ↦ inr (numbered_from (m ∷ earlier) ms n t)
  ]

  pub message_from : (ms : List (Message P)) (n : Numbered P) → IsIn n (numbered f frames ms) → IsIn n.message ms
  message_from ms n i = numbered_from [] ms n i

  has_numbered : (earlier ms : List (Message P)) (m : Message P) → IsIn m ms → (n : Numbered P) × IsIn n (numbered_behind f frames earlier ms) × (n.message ≡ m)
  unfolding numbered_behind
  has_numbered earlier [] m i = absurd i
  has_numbered earlier (x ∷ ms) m i = elim i [
    | inl e ↦ (record { message = x; number = length earlier; before = frames_before f frames x earlier }, inl refl, sym e)
    | inr t ↦ (let w = has_numbered (x ∷ earlier) ms m t in (w.0, inr w.1, w.2))
  ]

  pub has_number : (ms : List (Message P)) (m : Message P) → IsIn m ms → (n : Numbered P) × IsIn n (numbered f frames ms) × (n.message ≡ m)
  has_number ms m i = has_numbered [] ms m i

-- a message has no more parts than it may have
pub all_few : {P : Type 0} (f : PartFields P) (most : ℕ) (ps : List P) (n : Message P) → 1 ≤ most → IsIn n (packs f most ps) → length (parts_of n) ≤ most
all_few f most ps n some i = packs_hold f most (λ m. length (parts_of m) ≤ most) (λ m p h t. (takes_room f most m p t).parts) ps n (λ q k. some) i
