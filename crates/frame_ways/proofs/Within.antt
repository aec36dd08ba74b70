-- The times of the copies are within the limits of a document.
use Rattle.std.proofs.Common.{◌≡◌, ℕ, ℤ, List, [], ◌∷◌, true, ◌&&◌, ◌==◌, sym, subst, arith, inl, inr, refl, Option, Some, None}
use Rattle.std.specs.Prelude.{All, IfSome}
use Rattle.std.proofs.lemmas.Bool.{cases_Bool, eqb-true, and_parts}
use Rattle.std.proofs.lemmas.List.Elements.{All-cons, All-nil, All-head, All-tail}
use Rattle.air_source.specs.declared.events.Side.{Side}
use Rattle.air_source.specs.declared.events.Side.TheVariants.{Ru, Du}
use Rattle.fh_document.specs.declared.delivered.TrafficClass.{TrafficClass}
use Rattle.fh_document.specs.declared.delivered.TrafficClass.TheVariants.{C, U, M}
use Rattle.fh_document.specs.declared.delivered.Delivery.{Delivery}
use Rattle.fh_document.specs.declared.document.Document.{Document}
use Rattle.fh_document.specs.declared.document.Transits.{Transits}
use Rattle.fh_document.specs.Delivered.{way_number, class_number}
use Rattle.fh_document.specs.DeliverLines.{least_of}
use Rattle.fh_document.specs.Proper.{AreTransits, IsDelivery, IsFrom}
use Rattle.frame_ways.specs.Copies.{copies_of, copies_or, line_of, once_after, speaks_of, transit_of}
use Rattle.fh_document.specs.declared.config_lines.TheConstants.{MOST_TRANSIT}

same_least : (a b : TrafficClass) → class_number a ≡ class_number b → least_of a ≡ least_of b
same_least C C is = refl
same_least C U is = refl
same_least C M is = absurd (omega arith)
same_least U C is = refl
same_least U U is = refl
same_least U M is = absurd (omega arith)
same_least M C is = absurd (omega arith)
same_least M U is = absurd (omega arith)
same_least M M is = refl

transit_within : (t : Transits) → AreTransits t → (side : Side) (class : TrafficClass) → IfSome (transit_of t side class) (IsFrom (least_of class) MOST_TRANSIT)
transit_within t is Ru C = is.dl
transit_within t is Ru U = is.dl
transit_within t is Ru M = is.m
transit_within t is Du C = is.ul
transit_within t is Du U = is.ul
transit_within t is Du M = is.m

abbrev pub HasTimes : TrafficClass → List ℤ → Type 0
HasTimes class copies = All (IsFrom (least_of class) MOST_TRANSIT) copies

times_of : (side : Side) (class : TrafficClass) (k : ℕ) (d : Delivery) → IsDelivery d → speaks_of side class k d ≡ true → HasTimes class d.copies
times_of side class k d is said =
    let rest = (and_parts (way_number side == way_number d.side) ((class_number class == class_number d.class) && (k == d.k)) said).1 in
    let same = eqb-true (class_number class) (class_number d.class) (and_parts (class_number class == class_number d.class) (k == d.k) rest).0 in
    subst (λ (least : ℕ). All (IsFrom least MOST_TRANSIT) d.copies) (sym (same_least class d.class same)) is.times

once_within : (class : TrafficClass) (time : Option ℤ) → IfSome time (IsFrom (least_of class) MOST_TRANSIT) → HasTimes class (once_after time)
once_within class None is = All-nil (IsFrom (least_of class) MOST_TRANSIT)
once_within class (Some ns) is = All-cons (IsFrom (least_of class) MOST_TRANSIT) ns [] is (All-nil (IsFrom (least_of class) MOST_TRANSIT))

line_within : (time : Option ℤ) (ds : List Delivery) → All IsDelivery ds → (side : Side) (class : TrafficClass) (k : ℕ) → IfSome time (IsFrom (least_of class) MOST_TRANSIT)
    → HasTimes class (copies_or time (line_of ds side class k))
line_within time [] all side class k is = once_within class time is
line_within time (d ∷ ds) all side class k is = elim (cases_Bool (speaks_of side class k d)) [
  | inl said ↦ let times = times_of side class k d (All-head IsDelivery d ds all) said in rw said times
  | inr other ↦ let rest = line_within time ds (All-tail IsDelivery d ds all) side class k is in rw other rest
]

pub copies_within : (document : Document) → AreTransits document.transits → All IsDelivery document.deliveries → (side : Side) (class : TrafficClass) (k : ℕ) → HasTimes class (copies_of document side class k)
copies_within document transits all side class k = line_within (transit_of document.transits side class) document.deliveries all side class k (transit_within document.transits transits side class)
