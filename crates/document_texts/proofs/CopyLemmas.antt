-- No deliver line names a number of more than 32 bits.
use Rattle.std.proofs.Common.{◌≡◌, ℕ, min, Bool, true, false, nat_le, refl, sym, ap, ◌∙◌, arith}
use Rattle.std.proofs.lemmas.Bool.Decides.{nat_tests}
use Rattle.air_source.specs.declared.events.Side.{Side}
use Rattle.fh_document.specs.Proper.{IsDocument}
use Rattle.fh_document.specs.declared.delivered.TrafficClass.{TrafficClass}
use Rattle.fh_document.specs.declared.document.Document.{Document}
use Rattle.frame_ways.specs.Copies.{copies_of, copies_or, transit_of}
use Rattle.frame_ways.proofs.CountLemmas.{none_speaks}
use Rattle.fh_base.proofs.Orders.{not_le}

up_to : (k : ℕ) → nat_le k 4294967295 ≡ true → min k 4294967295 ≡ k
up_to k e = grind (arith, nat_tests)

pub short_copies : (d : Document) → IsDocument d → (side : Side) (class : TrafficClass) (k : ℕ) → copies_of d side class (min k 4294967295) ≡ copies_of d side class k
short_copies d doc side class k = go (nat_le k 4294967295) refl
  where
    go : (b : Bool) → nat_le k 4294967295 ≡ b → copies_of d side class (min k 4294967295) ≡ copies_of d side class k
    go true e = ap (copies_of d side class) (up_to k e)
    go false e =
        let far = not_le k 4294967295 e in
        let most : min k 4294967295 ≡ 4294967295 = omega (arith, far) in
        ap (copies_of d side class) most
        ∙ ap (copies_or (transit_of d.transits side class)) (none_speaks side class 4294967295 d.deliveries doc.deliveries (omega arith) ∙ sym (none_speaks side class k d.deliveries doc.deliveries (omega (arith, far))))
