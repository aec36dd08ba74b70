-- The mask of a cell has exactly the elements that are in use, and a cell's section id is that of each of its claims.
use Rattle.std.proofs.Common.{◌≡◌, ℕ, zero, suc, ◌+◌, ◌*◌, ◌-◌, ◌/◌, ◌%◌, ◌^◌, ◌<◌, ◌≤◌, Bool, true, false, refl, sym, ap, ◌∙◌, subst, arith}
use Rattle.std.specs.Prelude.{◌==◌, if◌then◌else◌, Option, Some, None}
use Rattle.std.proofs.lemmas.Nat.{shr_high}
use Rattle.std.proofs.lemmas.Bool.{not-true}
use Rattle.unit_model.specs.Claims.{in_mask}
use Rattle.unit_model.specs.Radiated.{cell_id, id_from, id_or, is_used, used_below, used_mask}
use Rattle.unit_model.specs.declared.cells.Claim.{Claim}
use Rattle.fh_base.proofs.Orders.{bit_small}

-- ---- the bits of the mask

abbrev bit_of : (ℕ → Option Claim) → ℕ → ℕ
bit_of claims re = if is_used (claims re) then 1 else 0

-- a number is another one, shifted, and some lower bits
pub record IsShifted (whole high k : ℕ) : Type 0 where
  pub low : ℕ
  pub is : whole ≡ high * 2 ^ k + low
  pub below : low < 2 ^ k

twice : (h p l b : ℕ) → 2 * (h * p + l) + b ≡ h * (2 * p) + (2 * l + b)
twice h p l b = grind arith

double : (l b p : ℕ) → l < p → b ≤ 1 → 2 * l + b < 2 * p
double l b p h k = omega arith

pub by_one : (whole high : ℕ) → whole ≡ high → whole ≡ high * 2 ^ 0 + 0
by_one whole high e = omega (arith, e)

pub shift_more : (whole high k b next : ℕ) → IsShifted whole high k → b ≤ 1 → next ≡ 2 * whole + b → IsShifted next high (suc k)
shift_more whole high k b next s small e =
    let more : 2 ^ suc k ≡ 2 * 2 ^ k = grind arith in
    record {
      low = 2 * s.low + b;
      is = e ∙ ap (λ (w : ℕ). 2 * w + b) s.is ∙ twice high (2 ^ k) s.low b ∙ ap (λ (p : ℕ). high * p + (2 * s.low + b)) (sym more);
      below = subst (λ (p : ℕ). 2 * s.low + b < p) (sym more) (double s.low b (2 ^ k) s.below small);
    }

next_below : (claims : ℕ → Option Claim) (n : ℕ) → used_below claims (suc n) ≡ 2 * used_below claims n + bit_of claims n
unfolding used_below
next_below claims n = refl

shifted : (claims : ℕ → Option Claim) (n k : ℕ) → IsShifted (used_below claims (n + k)) (used_below claims n) k
shifted claims n zero =
    let same : n + 0 ≡ n = omega arith in
    record { low = 0; is = by_one (used_below claims (n + 0)) (used_below claims n) (ap (used_below claims) same); below = omega arith }
shifted claims n (suc k) =
    let place : n + suc k ≡ suc (n + k) = omega arith in
    shift_more (used_below claims (n + k)) (used_below claims n) k (bit_of claims (n + k)) (used_below claims (n + suc k)) (shifted claims n k)
    (bit_small (is_used (claims (n + k)))) (ap (used_below claims) place ∙ next_below claims (n + k))

pub shift_back : (whole high k : ℕ) → IsShifted whole high k → whole / 2 ^ k ≡ high
shift_back whole high k s = ap (λ (w : ℕ). w / 2 ^ k) s.is ∙ shr_high high k s.low s.below

pub last_bit : (u b x : ℕ) → b ≤ 1 → x ≡ 2 * u + b → x % 2 ≡ b
last_bit u b x small e = omega arith

mask_bit : (claims : ℕ → Option Claim) (re : ℕ) → re < 12 → used_mask claims / 2 ^ (11 - re) % 2 ≡ bit_of claims re
mask_bit claims re small =
    let size : 12 ≡ suc re + (11 - re) = omega arith in
    let high : used_mask claims / 2 ^ (11 - re) ≡ used_below claims (suc re) =
    ap (λ (n : ℕ). used_below claims n / 2 ^ (11 - re)) size
    ∙ shift_back (used_below claims (suc re + (11 - re))) (used_below claims (suc re)) (11 - re) (shifted claims (suc re) (11 - re)) in
    last_bit (used_below claims re) (bit_of claims re) (used_mask claims / 2 ^ (11 - re)) (bit_small (is_used (claims re))) (high ∙ next_below claims re)

one_is_set : (b : Bool) → ((if b then 1 else 0) == 1) ≡ true → b ≡ true
one_is_set true h = refl
one_is_set false h = absurd cc

pub in_use : (claims : ℕ → Option Claim) (re : ℕ) → re < 12 → in_mask (used_mask claims) re ≡ true → is_used (claims re) ≡ true
in_use claims re small named = one_is_set (is_used (claims re)) (sym (ap (λ (n : ℕ). n == 1) (mask_bit claims re small)) ∙ named)

-- ---- an element in use is claimed

pub record IsBusy (o : Option Claim) : Type 0 where
  pub claim : Claim
  pub is : o ≡ Some claim
  pub busy : claim.idle ≡ false

pub used_is_busy : (o : Option Claim) → is_used o ≡ true → IsBusy o
used_is_busy None h = absurd cc
used_is_busy (Some k) h = record { claim = k; is = refl; busy = not-true k.idle h }

-- ---- the section id

-- where all claims of some elements have one id, it is theirs
abbrev AllUnder : (ℕ → Option Claim) → ℕ → ℕ → ℕ → Type 0
AllUnder claims from n id = (re : ℕ) (k : Claim) → from ≤ re → re < from + n → claims re ≡ Some k → k.id ≡ id

nowhere : (claims : ℕ → Option Claim) (re : ℕ) (k : Claim) → claims re ≡ None → claims re ≡ Some k → ⊥
nowhere claims re k none some = differ (claims re) k none some
  where
    differ : (o : Option Claim) (k : Claim) → o ≡ None → o ≡ Some k → ⊥
    differ None k none some = cc
    differ (Some l) k none some = cc

id_of_all : (claims : ℕ → Option Claim) (from n re : ℕ) (k : Claim) → from ≤ re → re < from + n → claims re ≡ Some k → AllUnder claims from n k.id
    → id_from claims from n ≡ k.id
unfolding id_from
id_of_all claims from zero re k above below there all = absurd (omega arith)
id_of_all claims from (suc n) re k above below there all =
    go (claims from) refl (λ ne. id_of_all claims (from + 1) n re k (next_above from re above ne) (omega arith) there (λ other l low high is. all other l (omega arith) (omega arith) is))
  where
    next_above : (i j : ℕ) → i ≤ j → (i ≡ j → ⊥) → i + 1 ≤ j
    next_above i j h ne = omega (arith, ne)

    go : (o : Option Claim) → claims from ≡ o → ((from ≡ re → ⊥) → id_from claims (from + 1) n ≡ k.id) → id_or (claims from) (id_from claims (from + 1) n) ≡ k.id
    go (Some l) here rest = ap (λ (o : Option Claim). id_or o (id_from claims (from + 1) n)) here ∙ all from l (omega arith) (omega arith) here
    go None here rest =
        ap (λ (o : Option Claim). id_or o (id_from claims (from + 1) n)) here
        ∙ rest (λ same. nowhere claims re k (sym (ap claims same) ∙ here) there)

pub cell_id_is : (claims : ℕ → Option Claim) (re : ℕ) (k : Claim) → re < 12 → claims re ≡ Some k
    → ((other : ℕ) (l : Claim) → other < 12 → claims other ≡ Some l → l.id ≡ k.id) → cell_id claims ≡ k.id
cell_id_is claims re k small there all = id_of_all claims 0 12 re k (omega arith) (omega arith) there (λ other l low high is. all other l (omega arith) is)
