use Rattle.std.proofs.Common.{◌≡◌, ◌&&◌, ◌||◌, Bool, true, false, refl, ap, ◌∙◌, Option, is_some}
use Rattle.unit_model.specs.Claims.{in_mask, is_other}
use Rattle.unit_model.specs.declared.cells.Claim.{Claim}
use Rattle.slot_rings.proofs.PlaceLemmas.{no_claim}
use Rattle.slot_rings.proofs.RangeLemmas.{some_from}
use Rattle.slot_rings.proofs.judging.claim_fresh.Goals as goal

neither : (named : Bool) → ((named && false) || false) ≡ false
neither true = refl
neither false = refl

pub with-one-requires : goal.with-one-requires
with-one-requires c =
    let a = c.args.a.now in
    some_from 0 12 _ (λ re low high.
    ap (λ (o : Option Claim). (in_mask a.mask re && is_some o) || is_other a.section o) (no_claim re) ∙ neither (in_mask a.mask re))
