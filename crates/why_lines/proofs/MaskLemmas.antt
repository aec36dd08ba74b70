-- Masks of elements, number by number.
use Rattle.std.proofs.Common.{◌≡◌, ℕ, zero, suc, ◌+◌, ◌-◌, ◌*◌, ◌/◌, ◌%◌, ◌^◌, ◌<◌, ◌≤◌, inl, inr, Bool, true, false, not, ◌&&◌, ◌||◌, ◌==◌, if◌then◌else◌, List, [], ◌∷◌, ◌++◌, length, get_or, take, take-suc, refl, ap, ap₂, sym, ◌∙◌, arith, bit_and, bit_or}
use Rattle.std.specs.List.{list_any}
use Rattle.std.proofs.lemmas.Bool.{cases_Bool, eq-eqb, eqb-true, eqb-false, ne_eqb}
use Rattle.std.proofs.lemmas.Nat.{and_le_r, shr-shr}
use Rattle.unit_model.specs.Claims.{in_mask, is_from}
use Rattle.slot_rings.proofs.MaskLemmas.{in_either, without_each}
use Rattle.explain_model.specs.Silent.{bits_below}
use Rattle.explain_model.specs.declared.runs.CellRun.{CellRun}
use Rattle.explain_model.specs.declared.sections.CommandRecord.{CommandRecord}
use Rattle.why_lines.specs.Silent.{has_element, silent_item, silent_item_if, silent_items_at, silent_mask_by}
use Rattle.why_lines.specs.declared.items.LineSymbol.{LineSymbol}
use Rattle.why_lines.specs.declared.items.SilentItem.{SilentItem}
use Rattle.fh_base.proofs.Orders.{or_false}

-- ---- the bits of a number

bits_step : (x : ℕ) → 2 * (x / 2) + (if x % 2 == 1 then 1 else 0) ≡ x
bits_step x = elim (cases_Bool (x % 2 == 1)) [
  | inl t ↦ let e = eqb-true (x % 2) 1 t in rw t (omega (arith, e))
  | inr f ↦ let e = eqb-false (x % 2) 1 f in rw f (omega (arith, e))
]

bits_are : (m n : ℕ) → m < 2 ^ 12 → n ≤ 12 → bits_below (in_mask m) n ≡ m / 2 ^ (12 - n)
unfolding bits_below
bits_are m zero small le = omega (arith, small)
bits_are m (suc n) small le =
    let e : 12 - suc n ≡ 11 - n = omega arith in
    let g : 12 - n ≡ (11 - n) + 1 = omega (arith, le) in
    let half : m / 2 ^ (12 - n) ≡ m / 2 ^ (11 - n) / 2 = ap (λ k. m / 2 ^ k) g ∙ sym (shr-shr m (11 - n) 1) in
    ap (λ x. 2 * x + (if m / 2 ^ (11 - n) % 2 == 1 then 1 else 0)) (bits_are m n small (omega (arith, le)) ∙ half)
    ∙ bits_step (m / 2 ^ (11 - n)) ∙ ap (λ k. m / 2 ^ k) (sym e)

bits_all : (m : ℕ) → m < 2 ^ 12 → m ≡ bits_below (in_mask m) 12
bits_all m small = let e : m / 2 ^ (12 - 12) ≡ m = omega arith in sym (bits_are m 12 small (omega arith) ∙ e)

pub bits_same : (p q : ℕ → Bool) → ((re : ℕ) → p re ≡ q re) → (n : ℕ) → bits_below p n ≡ bits_below q n
unfolding bits_below
bits_same p q same zero = refl
bits_same p q same (suc n) = ap₂ (λ x (b : Bool). 2 * x + (if b then 1 else 0)) (bits_same p q same n) (same n)

pub mask_is : (cells : List CellRun) (id mask prb heard : ℕ) → heard < 2 ^ 16 → ((re : ℕ) → in_mask heard re ≡ list_any (has_element id prb re) cells)
    → bit_and (bit_and mask (65535 - heard)) 4095 ≡ silent_mask_by cells id mask prb
mask_is cells id mask prb heard fits is =
    let most : bit_and (bit_and mask (65535 - heard)) 4095 ≤ 4095 = and_le_r (bit_and mask (65535 - heard)) 4095 in
    bits_all (bit_and (bit_and mask (65535 - heard)) 4095) (omega (arith, most))
    ∙ bits_same (in_mask (bit_and (bit_and mask (65535 - heard)) 4095)) (λ re. in_mask mask re && not (list_any (has_element id prb re) cells))
    (λ re. without_each mask heard re fits ∙ ap (λ b. in_mask mask re && not b) (is re)) 12

-- ---- what runs have, one after the other

or_last : (a b : Bool) → (a || (b || false)) ≡ (a || b)
or_last true b = refl
or_last false true = refl
or_last false false = refl

or_chain : (a b c : Bool) → (a || (b || c)) ≡ ((a || b) || c)
or_chain true b c = refl
or_chain false b c = refl

any_more : {X : Type 0} (p : X → Bool) (xs : List X) (y : X) → list_any p (xs ++ y ∷ []) ≡ (list_any p xs || p y)
any_more p [] y = or_last false (p y)
any_more p (x ∷ xs) y = ap (λ b. p x || b) (any_more p xs y) ∙ or_chain (p x) (list_any p xs) (p y)

any_next : {X : Type 0} (p : X → Bool) (xs : List X) (i : ℕ) (d : X) → i < length xs → list_any p (take (i + 1) xs) ≡ (list_any p (take i xs) || p (get_or xs i d))
any_next p xs i d lt =
    let e : i + 1 ≡ suc i = omega arith in
    ap (λ n. list_any p (take n xs)) e ∙ ap (list_any p) (take-suc xs i d lt) ∙ any_more p (take i xs) (get_or xs i d)

with_mask : (heard mask now re : ℕ) (b : Bool) → now ≡ (if b then bit_or heard mask else heard) → in_mask now re ≡ (in_mask heard re || (b && in_mask mask re))
with_mask heard mask now re true is = ap (λ n. in_mask n re) is ∙ in_either heard mask re
with_mask heard mask now re false is = ap (λ n. in_mask n re) is ∙ sym (or_false (in_mask heard re))

pub heard_next : (cells : List CellRun) (id prb heard i : ℕ) (d : CellRun) (now : ℕ) → i < length cells → ((re : ℕ) → in_mask heard re ≡ list_any (has_element id prb re) (take i cells))
    → now ≡ (if ((get_or cells i d).id == id) && is_from (get_or cells i d).prb (get_or cells i d).count prb then bit_or heard (get_or cells i d).mask else heard)
    → (re : ℕ) → in_mask now re ≡ list_any (has_element id prb re) (take (i + 1) cells)
heard_next cells id prb heard i d now lt was is re =
    with_mask heard (get_or cells i d).mask now re (((get_or cells i d).id == id) && is_from (get_or cells i d).prb (get_or cells i d).count prb) is
    ∙ ap (λ b. b || has_element id prb re (get_or cells i d)) (was re)
    ∙ sym (any_next (has_element id prb re) cells i d lt)

-- ---- a PRB

pub no_item : (commands : List CommandRecord) (cells : List CellRun) (s : LineSymbol) (prb m : ℕ) → m ≡ silent_mask_by cells s.planned.endpoint.id s.planned.line.mask prb → m ≡ 0
    → [] ≡ silent_items_at commands cells s prb
no_item commands cells s prb m is none =
    sym (ap (silent_item_if commands s prb) (sym is) ∙ ap (λ b. let o : List SilentItem = if b then [] else silent_item commands s prb m ∷ [] in o) (eq-eqb m 0 none))

pub one_item : (commands : List CommandRecord) (cells : List CellRun) (s : LineSymbol) (prb m : ℕ) (x : SilentItem)
    → m ≡ silent_mask_by cells s.planned.endpoint.id s.planned.line.mask prb → (m ≡ 0 → ⊥)
    → x ≡ silent_item commands s prb m → x ∷ [] ≡ silent_items_at commands cells s prb
one_item commands cells s prb m x is some item =
    ap (λ y. y ∷ []) item
    ∙ sym (ap (silent_item_if commands s prb) (sym is) ∙ ap (λ b. let o : List SilentItem = if b then [] else silent_item commands s prb m ∷ [] in o) (ne_eqb m 0 some))
