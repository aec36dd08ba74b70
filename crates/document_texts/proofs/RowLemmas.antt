-- What holds of the frames that are listed.
use Rattle.std.proofs.Common.{◌≡◌, ℕ, ℤ, zero, suc, ◌+◌, ◌≤ℤ◌, inl, inr, Bool, true, false, if◌then◌else◌, List, [], ◌∷◌, ◌++◌, length, map, filter, take, Some, refl, ap, sym, ◌∙◌, subst, arith}
use Rattle.std.specs.List.{AllPairs, flat_map, slice_get}
use Rattle.std.specs.Ordering.{int_eq}
use Rattle.std.proofs.lemmas.List.Kept.{AllPairs-cons}
use Rattle.std.proofs.lemmas.List.Folds.{flat_map-map}
use Rattle.air_source.specs.declared.events.Side.TheVariants.{Ru}
use Rattle.fh_base.specs.Lists.{each_tick}
use Rattle.unit_model.specs.Meetings.{Arrival}
use Rattle.unit_model.specs.Radiated.{first_clock}
use Rattle.unit_model.specs.Times.{tick_count}
use Rattle.fh_document.specs.declared.delivered.TrafficClass.{TrafficClass}
use Rattle.fh_document.specs.declared.delivered.TrafficClass.TheVariants.{C, U, M}
use Rattle.fh_document.specs.declared.document.Document.{Document}
use Rattle.plan_model.specs.Sent.{SentFrame}
use Rattle.plan_model.proofs.TickLemmas.{ticks_same}
use Rattle.document_traffic.specs.Landing.{all_delayed, copies_among, copies_in, injected_to, landings_of}
use Rattle.document_traffic.specs.Sending.{Delayed, SentCounts, class_of, count_of, counted, delayed_behind, leaving_of, lines_of, none_sent, sent_for}
use Rattle.schedule_laws.proofs.LeastLemmas.{leaving, sent_rising}
use Rattle.document_traffic.specs.Measured.{exchanges, flights_then}
use Rattle.document_traffic.specs.Replayed.{landings_for}
use Rattle.document_traffic.proofs.AlikeLemmas.{lands_alike}
use Rattle.document_traffic.proofs.Apart.{all_sent, delayed_then, sent_then as apart_then}
use Rattle.document_texts.specs.SentLaws.{IsListed, IsUpTo, copies_flown, copies_told, delayed_told, of_class, same_class, sent_then}
use Rattle.document_texts.specs.Rows.{SentRow, row_of, rows_behind, rows_of, with_frame}
use Rattle.fh_base.specs.Members.{IsIn}
use Rattle.fh_base.proofs.MemberLemmas.{all_of, filter_mapped}
use Rattle.fh_base.proofs.RisingLemmas.{IsRising}

-- ---- the frames

rows_are : (d : Document) (n : SentCounts) (fs : List SentFrame) → map delayed_told (rows_behind d n fs) ≡ delayed_behind d Ru n (map (leaving_of d) fs)
unfolding rows_behind delayed_behind
rows_are d n [] = refl
rows_are d n (f ∷ fs) = ap (λ (xs : List Delayed). delayed_told (row_of d (with_frame f n) f) ∷ xs) (rows_are d (with_frame f n) fs)

all_are : (d : Document) → map delayed_told (rows_of d) ≡ all_delayed Ru d
all_are d = rows_are d none_sent (sent_for d)

lengths_are : (d : Document) (n : SentCounts) (fs : List SentFrame) → map (λ r. r.line.bytes) (rows_behind d n fs) ≡ map (λ r. length r.frame) (rows_behind d n fs)
unfolding rows_behind
lengths_are d n [] = refl
lengths_are d n (f ∷ fs) = ap (λ (xs : List ℕ). length (row_of d (with_frame f n) f).frame ∷ xs) (lengths_are d (with_frame f n) fs)

-- ---- their order

row_from : (d : Document) (n : SentCounts) (fs : List SentFrame) (r : SentRow) → IsIn r (rows_behind d n fs) → (f : SentFrame) × IsIn f fs × (r.line.at.0 ≡ f.at)
unfolding rows_behind
row_from d n [] r m = absurd m
row_from d n (f ∷ fs) r m = elim m [
  | inl e ↦ (f, inl refl, ap (λ (s : SentRow). s.line.at.0) e)
  | inr t ↦ (let w = row_from d (with_frame f n) fs r t in (w.0, inr w.1, w.2))
]

rows_rising : (d : Document) (n : SentCounts) (fs : List SentFrame) → IsRising leaving fs → AllPairs IsUpTo (rows_behind d n fs)
unfolding rows_behind
rows_rising d n [] h = λ i j e low high. absurd (omega arith)
rows_rising d n (f ∷ fs) h =
    AllPairs-cons IsUpTo (row_of d (with_frame f n) f) (rows_behind d (with_frame f n) fs)
    (all_of (IsUpTo (row_of d (with_frame f n) f)) (rows_behind d (with_frame f n) fs) (λ r m. (let w = row_from d (with_frame f n) fs r m in subst (λ (t : ℤ). f.at ≤ℤ t) (sym w.2) (h.0 w.0 w.1))))
    (rows_rising d (with_frame f n) fs h.1)

-- ---- their numbers

abbrev one_if : Bool → ℕ
one_if b = if b then 1 else 0

own_class : (class : TrafficClass) → same_class class class ≡ true
own_class C = refl
own_class U = refl
own_class M = refl

count_more : (class kind : TrafficClass) (n : SentCounts) → count_of class (counted kind n) ≡ one_if (same_class class kind) + count_of class n
count_more C C n = omega arith
count_more C U n = omega arith
count_more C M n = omega arith
count_more U C n = omega arith
count_more U U n = omega arith
count_more U M n = omega arith
count_more M C n = omega arith
count_more M U n = omega arith
count_more M M n = omega arith

first_more : (class : TrafficClass) (r : SentRow) (rs : List SentRow) → length (of_class class (r ∷ rs)) ≡ one_if (same_class class r.line.class) + length (of_class class rs)
first_more class r rs = go (same_class class r.line.class)
  where
    go : (b : Bool) → length (let zs : List SentRow = if b then r ∷ of_class class rs else of_class class rs in zs) ≡ one_if b + length (of_class class rs)
    go true = omega arith
    go false = omega arith

first_number : (class : TrafficClass) (n : SentCounts) (number : ℕ) (r : SentRow) → number ≡ count_of class (counted class n) → r.line.class ≡ class
    → number ≡ count_of class n + length (of_class class (r ∷ []))
first_number class n number r is same =
    let more = count_more class class n in
    let one = first_more class r [] in
    let own : same_class class r.line.class ≡ true = ap (same_class class) same ∙ own_class class in
    let a : one_if (same_class class class) ≡ 1 = ap one_if (own_class class) in
    let b : one_if (same_class class r.line.class) ≡ 1 = ap one_if own in
    omega (arith, is, more, one, a, b)

next_number : (class kind : TrafficClass) (n : SentCounts) (number : ℕ) (r : SentRow) (rs : List SentRow) → r.line.class ≡ kind → number ≡ count_of class (counted kind n) + length (of_class class rs)
    → number ≡ count_of class n + length (of_class class (r ∷ rs))
next_number class kind n number r rs same is =
    let more = count_more class kind n in
    let first = first_more class r rs in
    let b : one_if (same_class class r.line.class) ≡ one_if (same_class class kind) = ap (λ (k : TrafficClass). one_if (same_class class k)) same in
    omega (arith, is, more, first, b)

same_got : (x y : SentRow) → Some x ≡ Some y → y ≡ x
same_got x y e = cc

numbers_are : (d : Document) (n : SentCounts) (fs : List SentFrame) (k : ℕ) (r : SentRow) → slice_get (rows_behind d n fs) k ≡ Some r
    → r.line.number ≡ count_of r.line.class n + length (of_class r.line.class (take (suc k) (rows_behind d n fs)))
unfolding rows_behind
numbers_are d n [] k r got = absurd cc
numbers_are d n (f ∷ fs) zero r got =
    let is : r ≡ row_of d (with_frame f n) f = same_got (row_of d (with_frame f n) f) r got in
    subst (λ (s : SentRow). s.line.number ≡ count_of s.line.class n + length (of_class s.line.class (row_of d (with_frame f n) f ∷ []))) (sym is)
    (first_number (class_of f.stream) n _ (row_of d (with_frame f n) f) refl refl)
numbers_are d n (f ∷ fs) (suc k) r got =
    next_number r.line.class (class_of f.stream) n r.line.number (row_of d (with_frame f n) f) (take (suc k) (rows_behind d (with_frame f n) fs)) refl
    (numbers_are d (with_frame f n) fs k r got)

none_counted : (class : TrafficClass) → count_of class none_sent ≡ 0
none_counted C = refl
none_counted U = refl
none_counted M = refl

all_numbers : (d : Document) (k : ℕ) (r : SentRow) → slice_get (rows_of d) k ≡ Some r → r.line.number ≡ length (of_class r.line.class (take (k + 1) (rows_of d)))
all_numbers d k r got =
    let is = numbers_are d none_sent (sent_for d) k r got in
    let none = none_counted r.line.class in
    let e : suc k ≡ k + 1 = omega arith in
    let here : r.line.number ≡ length (of_class r.line.class (take (suc k) (rows_of d))) = omega (arith, is, none) in
    here ∙ ap (λ (i : ℕ). length (of_class r.line.class (take i (rows_of d)))) e

-- ---- what lands

copies_are : (rs : List SentRow) → copies_among (map delayed_told rs) ≡ flat_map copies_told rs
copies_are rs = flat_map-map copies_in delayed_told rs

planned_lands : (d : Document) → landings_of d ≡ flat_map copies_told (rows_of d) ++ injected_to Ru d
planned_lands d = ap (λ (xs : List Arrival). xs ++ injected_to Ru d) (ap copies_among (sym (all_are d)) ∙ copies_are (rows_of d))

then_are : (d : Document) (t : ℤ) → copies_among (delayed_then (all_delayed Ru d) t) ≡ flat_map copies_told (filter (λ r. int_eq r.line.at.0 t) (rows_of d))
then_are d t =
    ap (λ (xs : List Delayed). copies_among (delayed_then xs t)) (sym (all_are d))
    ∙ ap copies_among (filter_mapped delayed_told (λ (x : Delayed). int_eq x.frame.at t) (rows_of d))
    ∙ copies_are (filter (λ r. int_eq r.line.at.0 t) (rows_of d))

all_lands : (d : Document) → landings_for Ru d ≡ each_tick first_clock tick_count (sent_then d) ++ injected_to Ru d
unfolding all_sent
all_lands d =
    let fs = (exchanges d).sent Ru in
    lands_alike Ru d
    ∙ ap (λ (xs : List Arrival). xs ++ injected_to Ru d)
    (ticks_same first_clock tick_count (apart_then (all_delayed Ru d) fs) (sent_then d) (λ t low. ap (λ (xs : List Arrival). xs ++ flat_map copies_flown (flights_then fs t)) (then_are d t)))

pub is_listed : (d : Document) → IsListed d
is_listed d = record {
  frames = all_are d;
  order = rows_rising d none_sent (sent_for d) (sent_rising d.config (lines_of d));
  lengths = lengths_are d none_sent (sent_for d);
  numbers = all_numbers d;
  planned = planned_lands d;
  lands = all_lands d;
}
