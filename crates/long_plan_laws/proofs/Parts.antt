-- The parts of a long plan: one in each of its frames.
use Rattle.std.proofs.Common.{◌≡◌, ◌≢◌, ℕ, ℤ, pos, zero, suc, ◌+◌, ◌<◌, ◌≤◌, ◌+ℤ◌, ◌-ℤ◌, ◌*ℤ◌, inl, inr, Bool, true, false, ◌&&◌, if◌then◌else◌, List, [], ◌∷◌, ◌++◌, map, refl, ap, ap₂, sym, ◌∙◌, arith, append-nil}
use Rattle.std.specs.Prelude.{filter}
use Rattle.std.specs.Int.{int_div_euclid}
use Rattle.std.specs.Ordering.{int_eq}
use Rattle.std.proofs.lemmas.Bool.{and_from, and_parts, cases_Bool, cases_eq}
use Rattle.std.proofs.lemmas.Bool.Decides.{Decides-int_eq}
use Rattle.std.proofs.lemmas.Int.{ints}
use Rattle.fh_base.specs.Air.{air_of}
use Rattle.fh_base.specs.declared.values.Slot.{Slot}
use Rattle.fh_base.proofs.Euclid.{frame_floor}
use Rattle.unit_model.specs.Claims.{is_from, same_slot}
use Rattle.fh_base.specs.Lists.{each}
use Rattle.unit_model.specs.Sweeps.{first_swept, of_endpoint, of_frame, of_slot, of_subframe, of_symbol, slot_at}
use Rattle.unit_model.proofs.SweepLemmas.{none_kept, of_endpoint_related, of_frame_related, of_slot_related, of_subframe_related, of_symbol_related}
use Rattle.plan_model.specs.Examples.{usual}
use Rattle.plan_model.specs.Lines.{line_allocation}
use Rattle.plan_model.specs.Streams.{Part, has_part, part_in, symbol_parts}
use Rattle.plan_model.specs.declared.lines.PlannedLine.{PlannedLine}
use Rattle.plan_model.specs.declared.streams.Stream.TheVariants.{DownData}
use Rattle.long_plan_laws.proofs.Lines.{line_at, lines_from}
use Rattle.fh_base.specs.declared.frames.TheConstants.{FRAME}
use Rattle.unit_model.proofs.ClaimLemmas.{same_slot_is as slots_equal, from_within as from_high}
use Rattle.fh_base.proofs.Orders.{pos_same}
use Rattle.fh_base.proofs.CommonLemmas.{each_nothing}

-- of numbers of which one alone tells something, what it tells
pub each_only : {A : Type 0} (from n j : ℕ) (f : ℕ → List A) → from ≤ j → j < from + n → ((k : ℕ) → from ≤ k → k < from + n → k ≢ j → f k ≡ []) → each from n f ≡ f j
unfolding each
each_only from zero j f low high none = absurd (omega (arith, low, high))
each_only from (suc n) j f low high none = elim (cases_eq from j) [
  | inl here ↦ ap₂ (λ xs ys. xs ++ ys) (ap f here) (rest here) ∙ append-nil (f j)
  | inr other ↦
      ap (λ xs. xs ++ each (from + 1) n f) (none from (omega arith) (omega arith) other)
      ∙ each_only (from + 1) n j f (omega (arith, low, other)) (omega (arith, high)) (λ k a b. none k (omega (arith, a)) (omega (arith, b)))
]
  where
    rest : from ≡ j → each (from + 1) n f ≡ []
    rest here = each_nothing (from + 1) n f (λ k a b. none k (omega (arith, a)) (omega (arith, b)) (λ e. omega (arith, a, e, here)))

-- ---- the parts of a symbol

abbrev pub slot_of : ℕ → Slot
slot_of frame = slot_at (pos frame) 0 0

abbrev is_named : Slot → ℕ → PlannedLine → Bool
is_named slot symbol p = has_part DownData 0 slot symbol (line_allocation p)

abbrev test : ℕ → Slot → ℕ → Bool
test frame slot symbol = same_slot (slot_of frame) slot && is_from 0 1 symbol

nothing_named : (slot : Slot) (symbol i frame n : ℕ) → ((k : ℕ) → frame ≤ k → k < frame + n → test k slot symbol ≡ false) → filter (is_named slot symbol) (lines_from i frame n) ≡ []
unfolding lines_from
nothing_named slot symbol i frame zero none = refl
nothing_named slot symbol i frame (suc n) none =
    let rest = filter (is_named slot symbol) (lines_from (i + 1) (frame + 1) n) in
    ap (λ (b : Bool). let xs : List PlannedLine = if b then line_at i frame ∷ rest else rest in xs) (none frame (omega arith) (omega arith))
    ∙ nothing_named slot symbol (i + 1) (frame + 1) n (λ k a b. none k (omega (arith, a)) (omega (arith, b)))

other_test : (k m symbol : ℕ) → k ≢ m → test k (slot_of m) symbol ≡ false
other_test k m symbol other = elim (cases_Bool (test k (slot_of m) symbol)) [
  | inr not_named ↦ not_named
  | inl is ↦ absurd (other (pos_same k m (ap (λ (s : Slot). s.frame) (slots_equal (slot_of k) (slot_of m) (and_parts (same_slot (slot_of k) (slot_of m)) _ is).0))))
]

own_test : (k m : ℕ) → k ≡ m → test k (slot_of m) 0 ≡ true
own_test k m e = and_from (same_slot (slot_of k) (slot_of m)) true (and_from (int_eq (pos k) (pos m)) true ((Decides-int_eq (pos k) (pos m)).1 (ap pos e)) refl) refl

one_named : (i frame n j m : ℕ) → frame ≤ m → m < frame + n → j + frame ≡ i + m → filter (is_named (slot_of m) 0) (lines_from i frame n) ≡ line_at j m ∷ []
unfolding lines_from
one_named i frame zero j m low high place = absurd (omega (arith, low, high))
one_named i frame (suc n) j m low high place = elim (cases_eq frame m) [
  | inl here ↦
      let number : i ≡ j = omega (arith, place, here) in
      ap (λ (b : Bool). let xs : List PlannedLine = if b then line_at i frame ∷ rest else rest in xs) (own_test frame m here)
      ∙ ap₂ (λ (p : PlannedLine) (ps : List PlannedLine). p ∷ ps) (ap₂ (λ a b. line_at a b) number here)
      (nothing_named (slot_of m) 0 (i + 1) (frame + 1) n (λ k a b. other_test k m 0 (λ e. omega (arith, a, e, here))))
  | inr other ↦
      ap (λ (b : Bool). let xs : List PlannedLine = if b then line_at i frame ∷ rest else rest in xs) (other_test frame m 0 other)
      ∙ one_named (i + 1) (frame + 1) n j m (omega (arith, low, other)) (omega (arith, high)) (omega (arith, place))
]
  where
    rest : List PlannedLine
    rest = filter (is_named (slot_of m) 0) (lines_from (i + 1) (frame + 1) n)

-- ---- the parts at a tick

abbrev pub start : ℕ → ℤ
start frame = pos frame *ℤ FRAME

pub air_start : (k : ℕ) → air_of usual.numerology (slot_of k) 0 ≡ start k
air_start k = omega (arith, ints)

zero_symbol : (symbol : ℕ) → symbol < 0 + 1 → symbol ≡ 0
zero_symbol symbol h = omega (arith, h)

one_start : (k m : ℕ) → start k ≡ start m → k ≡ m
one_start k m h = omega (arith, ints, h)

module _ (total : ℕ) where
  abbrev pub told : Slot → ℕ → List Part
  told slot symbol = symbol_parts DownData (lines_from 0 1 total) 0 slot symbol

  told_none : (slot : Slot) (symbol : ℕ) → ((k : ℕ) → 1 ≤ k → k < 1 + total → slot_of k ≡ slot → symbol ≡ 0 → ⊥) → told slot symbol ≡ []
  unfolding symbol_parts
  told_none slot symbol none = ap (map (part_in symbol)) (nothing_named slot symbol 0 1 total (λ k a b. elim (cases_Bool (test k slot symbol)) [
    | inr other ↦ other
    | inl is ↦
        let both = and_parts (same_slot (slot_of k) slot) _ is in
        absurd (none k a b (slots_equal (slot_of k) slot both.0) (zero_symbol symbol (from_high 0 1 symbol both.1)))
  ]))

  told_one : (j m : ℕ) → 1 ≤ m → m < 1 + total → j + 1 ≡ m → told (slot_of m) 0 ≡ part_in 0 (line_at j m) ∷ []
  unfolding symbol_parts
  told_one j m low high place = ap (map (part_in 0)) (one_named 0 1 total j m low high (omega (arith, place)))

  starts_then : (k symbol : ℕ) (slot : Slot) (t : ℤ) → slot_of k ≡ slot → symbol ≡ 0 → air_of usual.numerology slot symbol ≡ t → start k ≡ t
  starts_then k symbol slot t s z air = sym (air_start k) ∙ ap₂ (λ (x : Slot) y. air_of usual.numerology x y) s (sym z) ∙ air

  pub quiet : (t : ℤ) → ((k : ℕ) → 1 ≤ k → k < 1 + total → start k ≡ t → ⊥) → of_endpoint told usual t ≡ []
  quiet t none =
      of_endpoint_related (λ xs ys. xs ≡ []) none_kept told told usual t (λ slot symbol low high is_slot is_symbol air.
      told_none slot symbol (λ k a b s z. none k a b (starts_then k symbol slot t s z air)))

  -- ---- where a line's symbol starts

  in_frame : (z : ℤ) (m : ℕ) → z ≡ start m → int_div_euclid z FRAME ≡ pos m
  in_frame z m h = let f = frame_floor z in omega (arith, ints, h, f.0, f.1)

  back : (z : ℤ) (m : ℕ) → z ≡ pos m → (z -ℤ pos 5) +ℤ pos 5 ≡ pos m
  back z m h = omega (arith, ints, h)

  other_place : (z : ℤ) (m k : ℕ) → z ≡ pos m → (z -ℤ pos 5) +ℤ pos k ≡ pos m → k ≡ 5
  other_place z m k h e = omega (arith, ints, h, e)

  module _ (m : ℕ) (low : 1 ≤ m) (high : m < 1 + total) where
    -- nothing else starts then
    elsewhere : (slot : Slot) (symbol : ℕ) → air_of usual.numerology slot symbol ≡ start m → (slot_of m ≡ slot → symbol ≡ 0 → ⊥) → told slot symbol ≡ []
    elsewhere slot symbol air other = told_none slot symbol (λ k a b s z. other (ap slot_of (sym (one_start k m (starts_then k symbol slot (start m) s z air))) ∙ s) z)

    in_symbol : of_symbol told usual (start m) (slot_of m) 0 ≡ told (slot_of m) 0
    in_symbol = ap (λ (b : Bool). let xs : List Part = if b then told (slot_of m) 0 else [] in xs) ((Decides-int_eq (air_of usual.numerology (slot_of m) 0) (start m)).1 (air_start m))

    in_slot : of_slot told usual (start m) (slot_of m) ≡ told (slot_of m) 0
    unfolding of_slot
    in_slot =
        each_only 0 14 0 (of_symbol told usual (start m) (slot_of m)) (omega arith) (omega arith) (λ k a b other.
        of_symbol_related (λ xs ys. xs ≡ []) none_kept told told usual (start m) (slot_of m) k (λ air. elsewhere (slot_of m) k air (λ s z. other z)))
        ∙ in_symbol

    in_subframe : of_subframe told usual (start m) (pos m) 0 ≡ told (slot_of m) 0
    unfolding of_subframe
    in_subframe =
        each_only 0 2 0 (λ slot. of_slot told usual (start m) (slot_at (pos m) 0 slot)) (omega arith) (omega arith) (λ k a b other.
        of_slot_related (λ xs ys. xs ≡ []) none_kept told told usual (start m) (slot_at (pos m) 0 k) (λ symbol h air.
        elsewhere (slot_at (pos m) 0 k) symbol air (λ s z. other (sym (ap (λ (x : Slot). x.slot) s)))))
        ∙ in_slot

    in_the_frame : of_frame told usual (start m) (pos m) ≡ told (slot_of m) 0
    unfolding of_frame
    in_the_frame =
        each_only 0 10 0 (of_subframe told usual (start m) (pos m)) (omega arith) (omega arith) (λ k a b other.
        of_subframe_related (λ xs ys. xs ≡ []) none_kept told told usual (start m) (pos m) k (λ slot symbol h g air.
        elsewhere (slot_at (pos m) k slot) symbol air (λ s z. other (sym (ap (λ (x : Slot). x.subframe) s)))))
        ∙ in_subframe

    at_start : of_endpoint told usual (start m) ≡ told (slot_of m) 0
    unfolding of_endpoint
    at_start =
        let here = in_frame (start m) m refl in
        each_only 0 6 5 (λ k. of_frame told usual (start m) (first_swept (start m) +ℤ pos k)) (omega arith) (omega arith) (λ k a b other.
        of_frame_related (λ xs ys. xs ≡ []) none_kept told told usual (start m) (first_swept (start m) +ℤ pos k) (λ slot symbol frame is_slot h air.
        elsewhere slot symbol air (λ s z. other (other_place (int_div_euclid (start m) FRAME) m k here (sym frame ∙ sym (ap (λ (x : Slot). x.frame) s))))))
        ∙ ap (of_frame told usual (start m)) (back (int_div_euclid (start m) FRAME) m here)
        ∙ in_the_frame

  pub part_at : (j m : ℕ) → j + 1 ≡ m → 1 ≤ m → m < 1 + total → of_endpoint told usual (start m) ≡ part_in 0 (line_at j m) ∷ []
  part_at j m place low high = at_start m low high ∙ told_one j m low high place
