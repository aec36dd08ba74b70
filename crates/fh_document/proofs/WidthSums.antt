-- Widths are known by their numbers.
use Rattle.std.proofs.Common.{◌≡◌, ℕ, ◌+◌, Bool, true, false, subst, ap}
use Rattle.std.specs.Prelude.{Result, Ok, Err, ◌==◌, refl}
use Rattle.std.proofs.Math.Nat.{ℕ_set}
use Rattle.std.proofs.lemmas.Bool.{eqb-false, eqb-true}
use Rattle.eaxc_map.specs.declared.widths.Widths.{Widths}
use Rattle.fh_document.specs.declared.refusals.DocWhy.{DocWhy}
use Rattle.fh_document.specs.declared.refusals.DocWhy.TheVariants.{WidthSum}
use Rattle.fh_document.specs.ConfigLines.{summed, widths_of}

make : (du band carrier port : ℕ) → du + band + carrier + port ≡ 16 → Widths
make du band carrier port whole = record { du = du; band = band; carrier = carrier; port = port; whole = whole }

one_proof : (n : ℕ) → IsProp (n ≡ 16)
one_proof n = ℕ_set n 16

pub same_numbers : (du band carrier port : ℕ) (u v : du + band + carrier + port ≡ 16)
    → ◌≡◌ {A = Widths} (record { du = du; band = band; carrier = carrier; port = port; whole = u }) (record { du = du; band = band; carrier = carrier; port = port; whole = v })
unfolding make
same_numbers du band carrier port u v = ap (make du band carrier port) (one_proof (du + band + carrier + port) u v)

summed_ok : (du band carrier port : ℕ) (b : Bool) (is : (du + band + carrier + port == 16) ≡ b) (u : du + band + carrier + port ≡ 16)
    → ◌≡◌ {A = Result Widths DocWhy} (Ok (record { du = du; band = band; carrier = carrier; port = port; whole = u })) (summed du band carrier port b is)
summed_ok du band carrier port true is u = ap Ok (same_numbers du band carrier port u _)
summed_ok du band carrier port false is u = absurd (eqb-false (du + band + carrier + port) 16 is u)

pub widths_ok : (w : Widths) (du band carrier port : ℕ) → w.du ≡ du → w.band ≡ band → w.carrier ≡ carrier → w.port ≡ port
    → ◌≡◌ {A = Result Widths DocWhy} (Ok w) (widths_of du band carrier port)
widths_ok w du band carrier port a b c d =
    let base : ◌≡◌ {A = Result Widths DocWhy} (Ok w) (widths_of w.du w.band w.carrier w.port) =
    summed_ok w.du w.band w.carrier w.port (w.du + w.band + w.carrier + w.port == 16) refl w.whole in
    subst (λ x. ◌≡◌ {A = Result Widths DocWhy} (Ok w) (widths_of du band carrier x)) d
    (subst (λ x. ◌≡◌ {A = Result Widths DocWhy} (Ok w) (widths_of du band x w.port)) c
    (subst (λ x. ◌≡◌ {A = Result Widths DocWhy} (Ok w) (widths_of du x w.carrier w.port)) b
    (subst (λ x. ◌≡◌ {A = Result Widths DocWhy} (Ok w) (widths_of x w.band w.carrier w.port)) a base)))

pub summed_err : (du band carrier port : ℕ) (b : Bool) (is : (du + band + carrier + port == 16) ≡ b) → (du + band + carrier + port ≡ 16 → false ≡ true)
    → ◌≡◌ {A = Result Widths DocWhy} (Err WidthSum) (summed du band carrier port b is)
summed_err du band carrier port true is other = let e = other (eqb-true (du + band + carrier + port) 16 is) in cc
summed_err du band carrier port false is other = refl
