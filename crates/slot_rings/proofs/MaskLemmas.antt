-- Masks of twelve elements as numbers, and element by element.
use Rattle.std.proofs.Common.{◌≡◌, ℕ, zero, suc, ◌+◌, ◌-◌, ◌*◌, ◌/◌, ◌%◌, ◌<◌, ◌≤◌, ◌^◌, min, max, Bool, true, false, not, ◌&&◌, ◌||◌, ◌==◌, if◌then◌else◌, refl, ap, sym, ◌∙◌, subst, arith, bit_and, bit_or, Option, Some, None, is_some, w16}
use Rattle.std.specs.Int.{bit_at}
use Rattle.std.proofs.lemmas.Bool.{eq-eqb, eqb-true}
use Rattle.std.proofs.lemmas.Nat.{and_le_r, shr-shr}
use Rattle.std.proofs.lemmas.Nat.Bits.{bit_at_and, bit_at_or, bit_at_not, bit_at_ones, bit_at-lt, bit_at-zero, same_from_bits_below}
use Rattle.unit_model.specs.Claims.{in_mask, is_under, is_other, is_claimed, is_overlapped}
use Rattle.fh_base.specs.Lists.{every, some}
use Rattle.unit_model.specs.Radiated.{is_used, used_below, used_mask, id_from, cell_id}
use Rattle.unit_model.specs.declared.cells.Claim.{Claim}
use Rattle.slot_rings.specs.Places.{claim_in}
use Rattle.slot_rings.specs.declared.claims.CellClaims.{CellClaims}
use Rattle.slot_rings.proofs.RangeLemmas.{same_tests, not_every}
use Rattle.unit_model.proofs.ClaimLemmas.{every_same, some_same, every_at, every_one as every_from, some_not as some_at}
use Rattle.fh_base.proofs.Orders.{or_false}

-- ---- bits

one_of_both : (x y : ℕ) → x < 2 → y < 2 → (min x y == 1) ≡ ((x == 1) && (y == 1))
one_of_both zero zero a b = refl
one_of_both zero (suc zero) a b = refl
one_of_both (suc zero) zero a b = refl
one_of_both (suc zero) (suc zero) a b = refl
one_of_both (suc (suc x)) y a b = absurd (omega arith)
one_of_both zero (suc (suc y)) a b = absurd (omega arith)
one_of_both (suc zero) (suc (suc y)) a b = absurd (omega arith)

one_of_either : (x y : ℕ) → x < 2 → y < 2 → (max x y == 1) ≡ ((x == 1) || (y == 1))
one_of_either zero zero a b = refl
one_of_either zero (suc zero) a b = refl
one_of_either (suc zero) zero a b = refl
one_of_either (suc zero) (suc zero) a b = refl
one_of_either (suc (suc x)) y a b = absurd (omega arith)
one_of_either zero (suc (suc y)) a b = absurd (omega arith)
one_of_either (suc zero) (suc (suc y)) a b = absurd (omega arith)

one_of_other : (x : ℕ) → x < 2 → (1 - x == 1) ≡ not (x == 1)
one_of_other zero a = refl
one_of_other (suc zero) a = refl
one_of_other (suc (suc x)) a = absurd (omega arith)

same_bit : (x y : ℕ) → x < 2 → y < 2 → (x == 1) ≡ (y == 1) → x ≡ y
same_bit zero zero a b h = refl
same_bit zero (suc zero) a b h = cc
same_bit (suc zero) zero a b h = cc
same_bit (suc zero) (suc zero) a b h = refl
same_bit (suc (suc x)) y a b h = absurd (omega arith)
same_bit zero (suc (suc y)) a b h = absurd (omega arith)
same_bit (suc zero) (suc (suc y)) a b h = absurd (omega arith)

pub in_both : (a b re : ℕ) → in_mask (bit_and a b) re ≡ (in_mask a re && in_mask b re)
in_both a b re = ap (λ n. n == 1) (bit_at_and a b (11 - re)) ∙ one_of_both _ _ (bit_at-lt a (11 - re)) (bit_at-lt b (11 - re))

pub in_either : (a b re : ℕ) → in_mask (bit_or a b) re ≡ (in_mask a re || in_mask b re)
in_either a b re = ap (λ n. n == 1) (bit_at_or a b (11 - re)) ∙ one_of_either _ _ (bit_at-lt a (11 - re)) (bit_at-lt b (11 - re))

pub in_other : (a re : ℕ) → a < 2 ^ 16 → in_mask (65535 - a) re ≡ not (in_mask a re)
in_other a re fits = ap (λ n. n == 1) (bit_at_not w16 a (11 - re) fits (omega arith)) ∙ one_of_other _ (bit_at-lt a (11 - re))

in_all : (re : ℕ) → in_mask 4095 re ≡ true
in_all re = ap (λ n. n == 1) (bit_at_ones 12 (11 - re) (omega arith))

pub in_none : (re : ℕ) → in_mask 0 re ≡ false
in_none re = ap (λ n. n == 1) (bit_at-zero (11 - re))

and_true : (b : Bool) → (b && true) ≡ b
and_true true = refl
and_true false = refl

pub in_twelve : (a re : ℕ) → in_mask (bit_and a 4095) re ≡ in_mask a re
in_twelve a re = in_both a 4095 re ∙ ap (λ b. in_mask a re && b) (in_all re) ∙ and_true _

pub small : (a : ℕ) → bit_and a 4095 < 2 ^ 12
small a = omega (arith, and_le_r a 4095)

same_twelve : (a b : ℕ) → ((re : ℕ) → re < 12 → in_mask a re ≡ in_mask b re) → bit_and a 4095 ≡ bit_and b 4095
same_twelve a b same = same_from_bits_below 12 _ _ (small a) (small b) (λ i below.
    let there : 11 - (11 - i) ≡ i = omega arith in
    let e : in_mask (bit_and a 4095) (11 - i) ≡ in_mask (bit_and b 4095) (11 - i) = in_twelve a (11 - i) ∙ same (11 - i) (omega arith) ∙ sym (in_twelve b (11 - i)) in
    same_bit _ _ (bit_at-lt _ i) (bit_at-lt _ i) (subst (λ (j : ℕ). (bit_at (bit_and a 4095) j == 1) ≡ (bit_at (bit_and b 4095) j == 1)) there e))

from_twelve : (a b : ℕ) → bit_and a 4095 ≡ bit_and b 4095 → (re : ℕ) → in_mask a re ≡ in_mask b re
from_twelve a b e re = sym (in_twelve a re) ∙ ap (λ n. in_mask n re) e ∙ in_twelve b re

-- ---- tests

covered : (c m : Bool) → (c && m) ≡ m → (not m || c) ≡ true
covered true true h = refl
covered true false h = refl
covered false true h = cc
covered false false h = refl

covering : (c m : Bool) → (not m || c) ≡ true → (c && m) ≡ m
covering true true h = refl
covering true false h = refl
covering false true h = cc
covering false false h = refl

pub all_in : (c m : ℕ) → (bit_and (bit_and c m) 4095 == bit_and m 4095) ≡ every 0 12 (λ re. not (in_mask m re) || in_mask c re)
all_in c m = same_tests _ _
    (λ same. let e = eqb-true _ _ same in
    every_from 0 12 _ (λ re low high. covered (in_mask c re) (in_mask m re) (sym (in_both c m re) ∙ from_twelve (bit_and c m) m e re)))
    (λ each. eq-eqb _ _ (same_twelve (bit_and c m) m (λ re below. in_both c m re
    ∙ covering (in_mask c re) (in_mask m re) (every_at 0 12 (λ k. not (in_mask m k) || in_mask c k) re each (omega arith) (omega arith)))))

pub none_in : (m : ℕ) → (bit_and m 4095 == 0) ≡ every 0 12 (λ re. not (in_mask m re))
none_in m = same_tests _ _
    (λ same. let e = eqb-true (bit_and m 4095) 0 same in
    every_from 0 12 _ (λ re low high. ap not (from_twelve m 0 e re ∙ in_none re)))
    (λ each. eq-eqb (bit_and m 4095) 0 (same_twelve m 0 (λ re below.
    turned (in_mask m re) (every_at 0 12 (λ k. not (in_mask m k)) re each (omega arith) (omega arith)) ∙ sym (in_none re))))
  where
    turned : (t : Bool) → not t ≡ true → t ≡ false
    turned true h = cc
    turned false h = refl

pub some_in : (m : ℕ) → not (bit_and m 4095 == 0) ≡ some 0 12 (λ re. in_mask m re)
some_in m = ap not (none_in m) ∙ not_every 0 12 (λ re. in_mask m re)

-- ---- the claims of a cell

under_own : (b : Bool) (i id : ℕ) (idle : Bool) → (i == id) ≡ true
    → is_under id (let o : Option Claim = if b then Some (record { id = i; idle = idle }) else None in o) ≡ b
under_own true i id idle t = t
under_own false i id idle t = refl

under_none : (b : Bool) (i id : ℕ) (idle : Bool) → (i == id) ≡ false
    → is_under id (let o : Option Claim = if b then Some (record { id = i; idle = idle }) else None in o) ≡ false
under_none true i id idle t = t
under_none false i id idle t = refl

pub has_own : (s : CellClaims) (id mask : ℕ) → (s.id == id) ≡ true
    → (bit_and (bit_and s.claimed mask) 4095 == bit_and mask 4095) ≡ is_claimed id mask (claim_in s)
has_own s id mask t = all_in s.claimed mask
    ∙ every_same 0 12 _ _ (λ re low high. ap (λ b. not (in_mask mask re) || b) (sym (under_own (in_mask s.claimed re) s.id id (in_mask s.idle re) t)))

pub has_none : (s : CellClaims) (id mask : ℕ) → (s.id == id) ≡ false → (bit_and mask 4095 == 0) ≡ is_claimed id mask (claim_in s)
has_none s id mask t = none_in mask
    ∙ every_same 0 12 _ _ (λ re low high. sym (ap (λ b. not (in_mask mask re) || b) (under_none (in_mask s.claimed re) s.id id (in_mask s.idle re) t) ∙ or_false _))

clash_own : (m b : Bool) (i id : ℕ) (idle : Bool) → (i == id) ≡ true
    → (b && m) ≡ ((m && is_some (let o : Option Claim = if b then Some (record { id = i; idle = idle }) else None in o))
    || is_other id (let o : Option Claim = if b then Some (record { id = i; idle = idle }) else None in o))
clash_own true true i id idle t = refl
clash_own true false i id idle t = refl
clash_own false true i id idle t = rw t refl
clash_own false false i id idle t = refl

clash_other : (m b : Bool) (i id : ℕ) (idle : Bool) → (i == id) ≡ false
    → b ≡ ((m && is_some (let o : Option Claim = if b then Some (record { id = i; idle = idle }) else None in o))
    || is_other id (let o : Option Claim = if b then Some (record { id = i; idle = idle }) else None in o))
clash_other true true i id idle t = refl
clash_other true false i id idle t = refl
clash_other false true i id idle t = rw t refl
clash_other false false i id idle t = refl

pub clashes_own : (s : CellClaims) (id mask : ℕ) → (s.id == id) ≡ true
    → not (bit_and (bit_and s.claimed mask) 4095 == 0) ≡ is_overlapped id mask (claim_in s)
clashes_own s id mask t = some_in (bit_and s.claimed mask)
    ∙ some_same 0 12 _ _ (λ re low high. in_both s.claimed mask re ∙ clash_own (in_mask mask re) (in_mask s.claimed re) s.id id (in_mask s.idle re) t)

pub clashes_other : (s : CellClaims) (id mask : ℕ) → (s.id == id) ≡ false
    → not (bit_and s.claimed 4095 == 0) ≡ is_overlapped id mask (claim_in s)
clashes_other s id mask t = some_in s.claimed
    ∙ some_same 0 12 _ _ (λ re low high. clash_other (in_mask mask re) (in_mask s.claimed re) s.id id (in_mask s.idle re) t)

-- ---- a further claim

-- what is said of one element, where the cell had this claim and nothing clashes
further : (m b d e f : Bool) (i id : ℕ) (idle : Bool)
    → ((m && is_some (let o : Option Claim = if b then Some (record { id = i; idle = d }) else None in o))
    || is_other id (let o : Option Claim = if b then Some (record { id = i; idle = d }) else None in o)) ≡ false
    → e ≡ (b || m) → (m ≡ true → f ≡ idle) → (m ≡ false → f ≡ d)
    → (let o : Option Claim = if e then Some (record { id = id; idle = f }) else None in o)
    ≡ (let o : Option Claim = if m then Some (record { id = id; idle = idle }) else (let p : Option Claim = if b then Some (record { id = i; idle = d }) else None in p) in o)
further true true d e f i id idle h e_is f_in f_out = cc
further true false d e f i id idle h e_is f_in f_out = let g = f_in refl in rw (e_is, g) refl
further false false d e f i id idle h e_is f_in f_out = rw e_is refl
further false true d e f i id idle h e_is f_in f_out =
    let g = f_out refl in
    let own : i ≡ id = eqb-true i id (turned (i == id) h) in
    rw (e_is, g, own) refl
  where
    turned : (t : Bool) → not t ≡ false → t ≡ true
    turned true h = refl
    turned false h = cc

pub with_idle : (s : CellClaims) (id mask : ℕ) → is_overlapped id mask (claim_in s) ≡ false → (re : ℕ) → re < 12
    → claim_in (record { id = id; claimed = bit_or s.claimed mask; idle = bit_or s.idle mask; reported = s.reported }) re
    ≡ (let o : Option Claim = if in_mask mask re then Some (record { id = id; idle = true }) else claim_in s re in o)
with_idle s id mask free re below = further (in_mask mask re) (in_mask s.claimed re) (in_mask s.idle re) _ _ s.id id true
    (some_at 0 12 _ re free (omega arith) (omega arith)) (in_either s.claimed mask re)
    (λ h. in_either s.idle mask re ∙ ap (λ b. in_mask s.idle re || b) h ∙ or_true _)
    (λ h. in_either s.idle mask re ∙ ap (λ b. in_mask s.idle re || b) h ∙ or_false _)
  where
    or_true : (b : Bool) → (b || true) ≡ true
    or_true true = refl
    or_true false = refl

pub with_used : (s : CellClaims) (id mask : ℕ) → mask < 2 ^ 16 → is_overlapped id mask (claim_in s) ≡ false → (re : ℕ) → re < 12
    → claim_in (record { id = id; claimed = bit_or s.claimed mask; idle = bit_and s.idle (65535 - mask); reported = s.reported }) re
    ≡ (let o : Option Claim = if in_mask mask re then Some (record { id = id; idle = false }) else claim_in s re in o)
with_used s id mask fits free re below = further (in_mask mask re) (in_mask s.claimed re) (in_mask s.idle re) _ _ s.id id false
    (some_at 0 12 _ re free (omega arith) (omega arith)) (in_either s.claimed mask re)
    (λ h. in_both s.idle (65535 - mask) re ∙ ap (λ b. in_mask s.idle re && b) (in_other mask re fits ∙ ap not h) ∙ and_false _)
    (λ h. in_both s.idle (65535 - mask) re ∙ ap (λ b. in_mask s.idle re && b) (in_other mask re fits ∙ ap not h) ∙ and_true _)
  where
    and_false : (b : Bool) → (b && false) ≡ false
    and_false true = refl
    and_false false = refl

-- ---- what is reported of a cell

used_one : (b d : Bool) (i : ℕ) → is_used (let o : Option Claim = if b then Some (record { id = i; idle = d }) else None in o) ≡ (b && not d)
used_one true d i = refl
used_one false d i = refl

one_bit : (y : ℕ) → y < 2 → (let n : ℕ = if y == 1 then 1 else 0 in n) ≡ y
one_bit zero h = refl
one_bit (suc zero) h = refl
one_bit (suc (suc y)) h = absurd (omega arith)

used_upto : (s : CellClaims) (y : ℕ) → y < 4096 → ((re : ℕ) → re < 12 → is_used (claim_in s re) ≡ in_mask y re) → (n : ℕ) → n ≤ 12
    → used_below (claim_in s) n ≡ y / 2 ^ (12 - n)
unfolding used_below
used_upto s y few is zero within = omega arith
used_upto s y few is (suc n) within =
    let here = is n (omega arith) in
    let before = used_upto s y few is n (omega arith) in
    let half = shr-shr y (11 - n) 1 in
    let up : 11 - n + 1 ≡ 12 - n = omega arith in
    let level : 12 - suc n ≡ 11 - n = omega arith in
    let bit = one_bit (bit_at y (11 - n)) (bit_at-lt y (11 - n)) in
    let half_is : y / 2 ^ (11 - n) / 2 ≡ y / 2 ^ (12 - n) = half ∙ ap (λ (k : ℕ). y / 2 ^ k) up in
    rw (before, here, level) (ap (λ (k : ℕ). 2 * (y / 2 ^ (12 - n)) + k) bit ∙ whole (y / 2 ^ (11 - n)) (y / 2 ^ (12 - n)) half_is)
  where
    whole : (z h : ℕ) → z / 2 ≡ h → 2 * h + z % 2 ≡ z
    whole z h e = omega (arith, e)

pub without_each : (a b re : ℕ) → b < 2 ^ 16 → in_mask (bit_and (bit_and a (65535 - b)) 4095) re ≡ (in_mask a re && not (in_mask b re))
without_each a b re fits = in_twelve (bit_and a (65535 - b)) re ∙ in_both a (65535 - b) re ∙ ap (λ c. in_mask a re && c) (in_other b re fits)

pub used_is : (s : CellClaims) → s.idle < 2 ^ 16 → bit_and (bit_and s.claimed (65535 - s.idle)) 4095 ≡ used_mask (claim_in s)
used_is s fits =
    let in_use = bit_and (bit_and s.claimed (65535 - s.idle)) 4095 in
    let each : (re : ℕ) → in_mask in_use re ≡ (in_mask s.claimed re && not (in_mask s.idle re)) = λ re. without_each s.claimed s.idle re fits in
    sym (used_upto s in_use (omega (arith, and_le_r (bit_and s.claimed (65535 - s.idle)) 4095)) (λ re below. used_one (in_mask s.claimed re) (in_mask s.idle re) s.id ∙ sym (each re)) 12 (omega arith)
    ∙ omega arith)

id_upto : (s : CellClaims) (from n : ℕ) → id_from (claim_in s) from n ≡ (let i : ℕ = if some from n (λ re. in_mask s.claimed re) then s.id else 0 in i)
unfolding id_from some
id_upto s from zero = refl
id_upto s from (suc n) = step (in_mask s.claimed from) refl (id_upto s (from + 1) n)
  where
    step : (b : Bool) → in_mask s.claimed from ≡ b
        → id_from (claim_in s) (from + 1) n ≡ (let i : ℕ = if some (from + 1) n (λ re. in_mask s.claimed re) then s.id else 0 in i)
        → id_from (claim_in s) from (suc n) ≡ (let i : ℕ = if some from (suc n) (λ re. in_mask s.claimed re) then s.id else 0 in i)
    step true e rest = rw e refl
    step false e rest = rw e rest

pub section_none : (s : CellClaims) → (bit_and s.claimed 4095 == 0) ≡ true → 0 ≡ cell_id (claim_in s)
section_none s none = let e : some 0 12 (λ re. in_mask s.claimed re) ≡ false = sym (some_in s.claimed) ∙ ap not none in
    sym (id_upto s 0 12 ∙ ap (λ (b : Bool). let i : ℕ = if b then s.id else 0 in i) e)

pub section_own : (s : CellClaims) → (bit_and s.claimed 4095 == 0) ≡ false → s.id ≡ cell_id (claim_in s)
section_own s none = let e : some 0 12 (λ re. in_mask s.claimed re) ≡ true = sym (some_in s.claimed) ∙ ap not none in
    sym (id_upto s 0 12 ∙ ap (λ (b : Bool). let i : ℕ = if b then s.id else 0 in i) e)
