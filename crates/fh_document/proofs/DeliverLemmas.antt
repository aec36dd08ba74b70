-- Deliver lines.
use Rattle.std.proofs.Common.{◌≡◌, ℕ, suc, ◌≤◌, List, [], ◌∷◌, length, map, true, false, ◌&&◌, ◌||◌, nat_le, Some, refl, ◌∙◌, arith}
use Rattle.std.specs.Prelude.{ℤ, All, decimal, ◌==◌}
use Rattle.std.specs.List.{list_all}
use Rattle.std.specs.Fmt.{signed_decimal}
use Rattle.std.proofs.lemmas.Bool.Decides.{nat_tests}
use Rattle.std.proofs.lemmas.List.{length-map}
use Rattle.std.proofs.lemmas.List.Elements.{All-head, All-tail}
use Rattle.fh_document.specs.declared.delivered.TrafficClass.{TrafficClass}
use Rattle.fh_document.specs.declared.delivered.TrafficClass.TheVariants.{C, U, M}
use Rattle.fh_document.specs.declared.delivered.Delivery.{Delivery}
use Rattle.fh_document.specs.declared.refusals.DocWhy.TheVariants as why
use Rattle.fh_document.specs.DeliverLines.{class_of, least_of, times_of, has_deliver_count, delivery_of, delivered}
use Rattle.fh_document.specs.EndpointLines.{taking}
use Rattle.fh_document.specs.InjectLines.{side_of}
use Rattle.fh_document.specs.Proper.{IsFrom, IsDelivery}
use Rattle.fh_document.specs.Steps.{deliveries}
use Rattle.fh_document.specs.Words.{number_in}
use Rattle.fh_document.specs.Joined.{is_word}
use Rattle.fh_document.specs.LineWords.{class_word, deliver_words}
use Rattle.fh_document.proofs.Tests.{if_true, took, then_some}
use Rattle.fh_document.proofs.NumberLemmas.{number_is, decimal_word, signed_word, time_is}
use Rattle.fh_document.proofs.InjectLemmas.{way_is, way_visible}
use Rattle.fh_document.proofs.LineLemmas.{line_is}
use Rattle.fh_document.specs.declared.config_lines.TheConstants.{MOST_TRANSIT}
use Rattle.fh_document.specs.declared.deliver_lines.TheConstants.{MOST_NUMBER}
use Rattle.fh_base.proofs.Orders.{both_true}
use Rattle.air_source.specs.Units.{way_text}
use Rattle.fh_document.specs.Laws.{DeliveriesAreRead}

class_is : (class : TrafficClass) → class_of (class_word class) ≡ Some class
class_is C = refl
class_is U = refl
class_is M = refl

class_visible : (class : TrafficClass) → is_word (class_word class) ≡ true
class_visible C = refl
class_visible U = refl
class_visible M = refl

times_visible : (low : ℕ) (times : List ℤ) → All (IsFrom low MOST_TRANSIT) times → list_all is_word (map signed_decimal times) ≡ true
times_visible low [] h = refl
times_visible low (z ∷ times) h =
    both_true _ _ (signed_word low MOST_TRANSIT z (omega arith) (All-head (IsFrom low MOST_TRANSIT) z times h)) (times_visible low times (All-tail (IsFrom low MOST_TRANSIT) z times h))

times_are : (low : ℕ) (times : List ℤ) → All (IsFrom low MOST_TRANSIT) times → times_of low (map signed_decimal times) ≡ Some times
times_are low [] h = refl
times_are low (z ∷ times) h =
    time_is low MOST_TRANSIT z (λ t. taking (times_of low (map signed_decimal times)) (λ ts. Some (t ∷ ts))) (omega arith) (All-head (IsFrom low MOST_TRANSIT) z times h)
    ∙ took (times_of low (map signed_decimal times)) times (λ ts. Some (z ∷ ts)) (times_are low times (All-tail (IsFrom low MOST_TRANSIT) z times h))

deliver_visible : (d : Delivery) → IsDelivery d → list_all is_word (deliver_words d) ≡ true
deliver_visible d h =
    both_true _ _ (way_visible d.side) (both_true _ _ (class_visible d.class) (both_true _ _ (decimal_word d.k (omega (arith, h.most))) (times_visible (least_of d.class) d.copies h.times)))

delivery_is : (d : Delivery) → IsDelivery d → delivery_of (deliver_words d) ≡ Some d
delivery_is d h =
    took (side_of (way_text d.side)) d.side _ (way_is d.side)
    ∙ took (class_of (class_word d.class)) d.class _ (class_is d.class)
    ∙ took (number_in 1 MOST_NUMBER (decimal d.k)) d.k _ (number_is 1 MOST_NUMBER d.k h.some h.most (omega (arith, h.most)))
    ∙ took (times_of (least_of d.class) (map signed_decimal d.copies)) d.copies _ (times_are (least_of d.class) d.copies h.times)

some_words : (n : ℕ) → ((suc (suc (suc (suc n))) == 0) || false) ≡ false
some_words n = grind (arith, nat_tests)

counted : (n m : ℕ) → n ≡ m → m ≤ 8 → (nat_le 4 (suc (suc (suc (suc n)))) && nat_le (suc (suc (suc (suc n)))) 12) ≡ true
counted n m is few = grind (arith, nat_tests)

pub deliver_read : DeliveriesAreRead
deliver_read r n d later order h =
    line_is r n deliveries (deliver_words d) later (deliver_visible d h) (some_words (length (map signed_decimal d.copies))) refl order
    ∙ if_true (has_deliver_count (deliver_words d)) _ _ (counted (length (map signed_decimal d.copies)) (length d.copies) (length-map d.copies signed_decimal) h.few)
    ∙ then_some (delivery_of (deliver_words d)) why.Number d (λ x. delivered r x) (delivery_is d h)
