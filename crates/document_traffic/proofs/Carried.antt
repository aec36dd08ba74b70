-- Each frame of a plain document has a copy, and each copy is received within the transport.
use Rattle.std.proofs.Common.{◌≡◌, ◌≢◌, ℕ, ℤ, ◌≤ℤ◌, inl, inr, true, ◌&&◌, ◌==◌, List, [], ◌∷◌, Option, Some, None, refl, sym, subst, arith}
use Rattle.std.specs.Prelude.{All, IsSomeAnd}
use Rattle.std.proofs.lemmas.Bool.{and_parts, cases_Bool, eqb-true}
use Rattle.std.proofs.lemmas.List.Elements.{All-head, All-tail}
use Rattle.air_source.specs.declared.events.Side.{Side}
use Rattle.air_source.specs.declared.events.Side.TheVariants.{Ru, Du}
use Rattle.window_config.specs.declared.delays.Delays.{Delays}
use Rattle.window_config.specs.declared.delays.Range.{Range}
use Rattle.fh_document.specs.declared.delivered.TrafficClass.{TrafficClass}
use Rattle.fh_document.specs.declared.delivered.TrafficClass.TheVariants.{C, U, M}
use Rattle.fh_document.specs.declared.delivered.Delivery.{Delivery}
use Rattle.fh_document.specs.declared.document.Document.{Document}
use Rattle.fh_document.specs.Delivered.{class_number, way_number}
use Rattle.plan_model.specs.declared.streams.Stream.{Stream}
use Rattle.plan_model.specs.declared.streams.Stream.TheVariants.{DownCommands, UpCommands, DownData, UpData}
use Rattle.frame_ways.specs.Copies.{copies_or, line_of, once_after, speaks_of, transit_of}
use Rattle.document_traffic.specs.Landing.{all_delayed, leaving_answer, leaving_to}
use Rattle.document_traffic.specs.Sending.{Delayed, Leaving, class_of, leaving_of, none_sent, sent_for}
use Rattle.document_traffic.specs.Undisturbed.{AreCarried, IsCarried, transport_of}
use Rattle.document_traffic.proofs.CopyLemmas.{delayed_is}
use Rattle.document_traffic.specs.Plain.{IsPlain, IsPlainLine, IsWithin, PlainAreUndisturbed}
use Rattle.fh_base.specs.Members.{IsIn}
use Rattle.fh_base.proofs.MemberLemmas.{all_of}
use Rattle.fh_base.proofs.MadeLists.{in_all, of_map}

-- copies of which there is one, each within these bounds
pub record AreWithin (bounds : Range) (copies : List ℤ) : Type 0 where
  pub some : copies ≢ []
  pub within : All (IsWithin bounds) copies

-- ---- one time where no line speaks

none_left : (ns : ℤ) → ns ∷ [] ≢ []
none_left ns e = cc

once : (bounds : Range) (time : Option ℤ) → IsSomeAnd time (IsWithin bounds) → AreWithin bounds (once_after time)
once bounds None h = absurd h
once bounds (Some ns) h = record {
  some = none_left ns;
  within = all_of (IsWithin bounds) (ns ∷ []) (λ x m. elim m [ inl e ↦ subst (IsWithin bounds) (sym e) h | inr none ↦ absurd none ]);
}

-- ---- the line that speaks of a frame

same_way : (a b : Side) → way_number a ≡ way_number b → a ≡ b
same_way Ru Ru e = refl
same_way Ru Du e = absurd (omega (arith, e))
same_way Du Ru e = absurd (omega (arith, e))
same_way Du Du e = refl

same_class : (a b : TrafficClass) → class_number a ≡ class_number b → a ≡ b
same_class C C e = refl
same_class C U e = absurd (omega (arith, e))
same_class C M e = absurd (omega (arith, e))
same_class U C e = absurd (omega (arith, e))
same_class U U e = refl
same_class U M e = absurd (omega (arith, e))
same_class M C e = absurd (omega (arith, e))
same_class M U e = absurd (omega (arith, e))
same_class M M e = refl

spoken : (t : Delays) (side : Side) (class : TrafficClass) (k : ℕ) (x : Delivery) → class ≢ M → IsPlainLine t x → speaks_of side class k x ≡ true → AreWithin (transport_of side t) x.copies
spoken t side class k x other plain said =
    let parts = and_parts (way_number side == way_number x.side) ((class_number class == class_number x.class) && (k == x.k)) said in
    let side_is = same_way side x.side (eqb-true (way_number side) (way_number x.side) parts.0) in
    let class_is = same_class class x.class (eqb-true (class_number class) (class_number x.class) (and_parts (class_number class == class_number x.class) (k == x.k) parts.1).0) in
    let not_measured : x.class ≢ M = subst (λ (c : TrafficClass). c ≢ M) class_is other in
    subst (λ (s : Side). AreWithin (transport_of s t) x.copies) (sym side_is) (record { some = plain.some not_measured; within = plain.within not_measured })

lines_within : (t : Delays) (time : Option ℤ) (xs : List Delivery) (side : Side) (class : TrafficClass) (k : ℕ) → class ≢ M → All (IsPlainLine t) xs → IsSomeAnd time (IsWithin (transport_of side t))
    → AreWithin (transport_of side t) (copies_or time (line_of xs side class k))
lines_within t time [] side class k other plain transit = once (transport_of side t) time transit
lines_within t time (x ∷ xs) side class k other plain transit = elim (cases_Bool (speaks_of side class k x)) [
  | inl said ↦ (let this = spoken t side class k x other (All-head (IsPlainLine t) x xs plain) said in rw said this)
  | inr silent ↦ (let rest = lines_within t time xs side class k other (All-tail (IsPlainLine t) x xs plain) transit in rw silent rest)
]

-- ---- each frame that is sent

transit_within : (d : Document) → IsPlain d → (side : Side) (class : TrafficClass) → class ≢ M → IsSomeAnd (transit_of d.transits side class) (IsWithin (transport_of side d.config.delays))
transit_within d plain Ru C other = plain.down
transit_within d plain Ru U other = plain.down
transit_within d plain Ru M other = absurd (other refl)
transit_within d plain Du C other = plain.up
transit_within d plain Du U other = plain.up
transit_within d plain Du M other = absurd (other refl)

no_measurement : (s : Stream) → class_of s ≢ M
no_measurement DownCommands e = cc
no_measurement UpCommands e = cc
no_measurement DownData e = cc
no_measurement UpData e = cc

no_answer_measures : U ≢ M
no_answer_measures e = cc

-- what leaves for a unit is of commands or of data
of_plan : (d : Document) (side : Side) (f : Leaving) → IsIn f (leaving_to side d) → f.class ≢ M
of_plan d Ru f m = (let x = of_map (leaving_of d) f (sent_for d) m in subst (λ (g : Leaving). g.class ≢ M) (sym x.2) (no_measurement x.0.stream))
of_plan d Du f m = (let x = of_map leaving_answer f _ m in subst (λ (g : Leaving). g.class ≢ M) (sym x.2) no_answer_measures)

carried : (d : Document) → IsPlain d → (side : Side) (x : Delayed) → IsIn x (all_delayed side d) → IsCarried (transport_of side d.config.delays) x
carried d plain side x m =
    let bounds = transport_of side d.config.delays in
    let is = delayed_is d side none_sent (leaving_to side d) x m in
    let other = of_plan d side x.frame is.there in
    let within = lines_within d.config.delays (transit_of d.transits side x.frame.class) d.deliveries side x.frame.class is.number other plain.lines (transit_within d plain side x.frame.class other) in
    let times = subst (AreWithin bounds) (sym is.delays_are) within in
    record {
      some = times.some;
      from = all_of (λ ns. bounds.min ≤ℤ ns) x.delays (λ ns i. (in_all (IsWithin bounds) ns x.delays times.within i).from);
      to = all_of (λ ns. ns ≤ℤ bounds.max) x.delays (λ ns i. (in_all (IsWithin bounds) ns x.delays times.within i).to);
    }

all_carried : (d : Document) → IsPlain d → (side : Side) → AreCarried side d
all_carried d plain side = all_of (IsCarried (transport_of side d.config.delays)) (all_delayed side d) (carried d plain side)

pub are_undisturbed : PlainAreUndisturbed
are_undisturbed d plain = record { down = record { check = plain.check; alone = plain.alone; carried = all_carried d plain Ru }; up = all_carried d plain Du }
