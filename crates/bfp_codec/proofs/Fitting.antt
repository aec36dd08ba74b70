-- The exponent of a block is the least at which it fits.
use Rattle.std.proofs.Common.{◌≡◌, ℕ, ℤ, pos, negsuc, zero, suc, ◌+◌, ◌-◌, ◌^◌, ◌<◌, ◌≤◌, inl, inr, Bool, true, false, List, refl, sym, ap, ◌∙◌, arith}
use Rattle.std.proofs.lemmas.Int.{ints}
use Rattle.std.proofs.lemmas.Bool.{cases_lt, cond-true, cond-false, cases_Bool}
use Rattle.std.proofs.lemmas.Bool.Decides.{Decides-ltb, Decides-below_and}
use Rattle.std.specs.Prelude.{Decides}
use Rattle.bfp_codec.specs.declared.samples.Iq.{Iq}
use Rattle.bfp_codec.specs.Samples.{component}
use Rattle.bfp_codec.specs.Exponent.{floor_of, Within, within, fit, BlockFits, IsExponent, least_from, exponent_of}

within_decides : (w : ℕ) (z : ℤ) → Decides (within w z) (Within w z)
within_decides w (pos n) =
    let d = Decides-ltb n (2 ^ (w - 1)) in
    (λ e. let h = d.0 e in record { low = omega (arith, ints); high = omega (arith, ints) }, λ h. d.1 (omega (arith, ints, h.high)))
within_decides w (negsuc n) =
    let d = Decides-ltb n (2 ^ (w - 1)) in
    (λ e. let h = d.0 e in record { low = omega (arith, ints); high = omega (arith, ints) }, λ h. d.1 (omega (arith, ints, h.low)))

pub fit_decides : (w e : ℕ) (block : List Iq) → Decides (fit w e block 24) (BlockFits w e block)
fit_decides w e block =
    Decides-below_and (λ k. within w (floor_of (component block k) e)) (λ k. Within w (floor_of (component block k) e)) (fit w e block)
    (λ k. within_decides w (floor_of (component block k) e)) refl (λ n. refl) 24

-- what the least number that passes is
record IsLeast (p : ℕ → Bool) (a e r : ℕ) : Type 0 where
  from : a ≤ r
  most : r ≤ e
  passes : p r ≡ true
  before : (d : ℕ) → a ≤ d → d < r → p d ≡ false

least_is : (p : ℕ → Bool) (n a e : ℕ) → a ≤ e → e ≤ a + n → p e ≡ true → IsLeast p a e (least_from p a n)
least_is p zero a e low high holds =
    let same : e ≡ a = omega arith in
    record { from = omega arith; most = low; passes = ap p (sym same) ∙ holds; before = λ d h lt. absurd (omega arith) }
least_is p (suc n) a e low high holds = elim (cases_Bool (p a)) [
  | inl t ↦ rw (cond-true (p a) a (least_from p (suc a) n) t) (record { from = omega arith; most = low; passes = t; before = λ d h lt. absurd (omega arith) })
  | inr f ↦
      let apart : a < e = elim (cases_lt a e) [ inl lt ↦ lt | inr ge ↦ let same : e ≡ a = omega arith in absurd (let no_way : true ≡ false = sym holds ∙ ap p same ∙ f in cc) ] in
      let next = least_is p n (suc a) e (omega arith) (omega arith) holds in
      rw (cond-false (p a) a (least_from p (suc a) n) f) (record {
        from = omega (arith, next.from);
        most = next.most;
        passes = next.passes;
        before = λ d h lt. elim (cases_lt a d) [ inl above ↦ next.before d (omega arith) lt | inr at ↦ let same : d ≡ a = omega arith in ap p same ∙ f ];
      })
]

-- a block that fits somewhere has its exponent
pub has_exponent : (w e : ℕ) (block : List Iq) → e ≤ 15 → BlockFits w e block → IsExponent w block (exponent_of w block) × (exponent_of w block ≤ e)
unfolding exponent_of
has_exponent w e block small fits =
    let p : ℕ → Bool = λ d. fit w d block 24 in
    let found = least_is p 15 0 e (omega arith) (omega arith) ((fit_decides w e block).1 fits) in (
      record {
        small = omega (arith, found.most, small);
        fits = (fit_decides w (least_from p 0 15) block).0 found.passes;
        least = λ d lt fits_there. let holds = (fit_decides w d block).1 fits_there in let never = found.before d (omega arith) lt in absurd (let clash : true ≡ false = sym holds ∙ never in cc);
      },
      found.most,
    )

pub exponent_is : (w e : ℕ) (block : List Iq) → IsExponent w block e → e ≡ exponent_of w block
exponent_is w e block is =
    let found = has_exponent w e block is.small is.fits in
    elim (cases_lt (exponent_of w block) e) [ inl lt ↦ absurd (is.least (exponent_of w block) lt found.0.fits) | inr ge ↦ omega (arith, found.1, ge) ]
