-- What both units do, tick by tick.
use Rattle.std.proofs.Common.{◌≡◌, ℕ, zero, suc, ℤ, pos, ◌+◌, ◌+ℤ◌, ◌≤ℤ◌, ◌<ℤ◌, List, [], ◌∷◌, ◌++◌, refl, sym, ap, ap₂, ◌∙◌, subst, arith}
use Rattle.std.specs.Prelude.{All, map}
use Rattle.std.specs.Int.{int_gap}
use Rattle.std.proofs.lemmas.Int.{ints}
use Rattle.std.proofs.lemmas.List.Elements.{All-head, All-tail}
use Rattle.std.specs.Int.Signed.{≤ℤ_refl}
use Rattle.air_source.specs.declared.events.Side.{Side}
use Rattle.air_source.specs.declared.events.Side.TheVariants.{Ru, Du}
use Rattle.delay_laws.proofs.Quiet.{before}
use Rattle.delay_laws.specs.Nodes.{told_to}
use Rattle.delay_laws.specs.Ticks.{Begin, Flight, Setting, after_tick as both_after, hearing, landing, state}
use Rattle.delay_measure.specs.declared.message.DelayMessage.{DelayMessage}
use Rattle.document_traffic.proofs.Documents.{document_settled}
use Rattle.document_traffic.specs.Settings.{compensation_of, setting_of}
use Rattle.document_traffic.specs.Laws.{IsReplayable}
use Rattle.document_traffic.specs.Sending.{Leaving}
use Rattle.fh_document.specs.declared.document.Document.{Document}
use Rattle.replay_laws.proofs.TickLemmas.{between, next_gap}
use Rattle.replay_laws.specs.Moments.{end_of_time, landing_at}
use Rattle.unit_model.specs.Meetings.{Arrival}
use Rattle.unit_model.specs.Radiated.{first_clock}
use Rattle.document_traffic.proofs.DistinctLemmas.{documents_are_distinct}
use Rattle.document_traffic.proofs.LaunchLemmas.{launched_then}
use Rattle.document_traffic.proofs.MessageLemmas.{messages_land}
use Rattle.document_traffic.proofs.SideLemmas.{messages_of, tick_told}
use Rattle.document_traffic.specs.Doings.{Doings, nothing, taken, with_begins, with_frames}
use Rattle.document_traffic.specs.Measured.{delay_frame, exchanges, flights_then, others_of}
use Rattle.document_traffic.specs.Replayed.{after_tick, begins_at, doings_at, doings_in, landings_for, leaving_flight, leaving_made, made_at, told_frames}
use Rattle.document_traffic.specs.Sides.{IsSideOf}
use Rattle.document_traffic.specs.Turns.{FlightsWait, IsQuietBetween}
use Rattle.fh_base.proofs.Orders.{at_most, one_moved}
use Rattle.air_source.specs.Units.{other}
use Rattle.unit_model.specs.Times.{tick_count}
use Rattle.fh_base.proofs.EachLemmas.{gap_is, gap_none, gap_parts}

-- what is known of a document before its ticks
abbrev pub own : Document → Setting
own d = setting_of d (others_of d)

-- ---- what a unit has, tick by tick

pub doings_zero : (d : Document) (side : Side) → doings_in d side zero ≡ nothing
unfolding doings_in
doings_zero d side = refl

pub doings_next : (d : Document) (side : Side) (n : ℕ) → doings_in d side (suc n) ≡ after_tick d side (first_clock +ℤ pos n) (doings_in d side n)
unfolding doings_in
doings_next d side n = refl

pub after_is : (d : Document) (side : Side) (t : ℤ) (x : Doings) → after_tick d side t x ≡ taken [] (told_frames d side t x (landing_at (landings_for side d) t))
unfolding after_tick
after_is d side t x = refl

-- at the end of a tick all that it made is taken
none_left : (d : Document) (side : Side) (n : ℕ) → (doings_in d side n).made ≡ []
none_left d side zero = ap (λ (x : Doings). x.made) (doings_zero d side)
none_left d side (suc n) = ap (λ (x : Doings). x.made) (doings_next d side n ∙ after_is d side (first_clock +ℤ pos n) (doings_in d side n))

-- a unit has nothing at the first clock, and goes on tick by tick: at the end of each what it made is sent
pub doings_begin : (d : Document) (side : Side) → doings_at d side first_clock ≡ nothing
doings_begin d side = ap (doings_in d side) (gap_none first_clock first_clock (≤ℤ_refl first_clock)) ∙ doings_zero d side

pub doings_go_on : (d : Document) (side : Side) (t : ℤ) → first_clock ≤ℤ t → doings_at d side (t +ℤ pos 1) ≡ taken [] (made_at d side t)
doings_go_on d side t begun =
    let n = int_gap first_clock t in
    ap (doings_in d side) (next_gap first_clock t begun)
    ∙ doings_next d side n
    ∙ ap (λ (s : ℤ). after_tick d side s (doings_in d side n)) (gap_is first_clock t begun)
    ∙ after_is d side t (doings_in d side n)

-- ---- quiet ticks

-- where nothing begins and nothing lands
told_nothing : (d : Document) (side : Side) (t : ℤ) (x : Doings) (arrivals : List Arrival) → begins_at d side t ≡ [] → arrivals ≡ [] → told_frames d side t x arrivals ≡ x
told_nothing d side t x arrivals none calm =
    ap₂ (λ (bs : List Begin) (xs : List Arrival). with_frames (compensation_of d side) t (with_begins (compensation_of d side) x bs) xs) none calm

quiet_tick : (d : Document) (side : Side) (t : ℤ) (x : Doings) → begins_at d side t ≡ [] → landing_at (landings_for side d) t ≡ [] → x.made ≡ []
    → taken [] (told_frames d side t x (landing_at (landings_for side d) t)) ≡ x
quiet_tick d side t x none calm made =
    ap (taken []) (told_nothing d side t x (landing_at (landings_for side d) t) none calm)
    ∙ ap (λ (ms : List (List ℕ)). taken ms x) (sym made)

-- where neither unit begins anything and nothing lands, each has the same
pub doings_wait : (d : Document) (side : Side) (now tick : ℤ) → first_clock ≤ℤ now → now ≤ℤ tick → IsQuietBetween d now tick → doings_at d side tick ≡ doings_at d side now
doings_wait d side now tick begun order quiet =
    between (λ (t : ℤ). doings_at d side t ≡ doings_at d side now) now tick order refl (λ t low high same.
    doings_go_on d side t (at_most first_clock now t begun low)
    ∙ quiet_tick d side t (doings_at d side t) (quiet.begins side t low high) (quiet.calm side t low high) (none_left d side (int_gap first_clock t))
    ∙ same)

-- ---- each unit is its side of what both hear

pub nothing_heard : (w : Setting) (first : ℤ) → (state w first zero).heard ≡ []
unfolding state
nothing_heard w first = refl

pub heard_next : (w : Setting) (first : ℤ) (n : ℕ) → (state w first (suc n)).heard ≡ (hearing w (first +ℤ pos n) (state w first n)).heard
unfolding state both_after
heard_next w first n = refl

-- what is received of delay measurement is what both units are said to be told, in all ticks that are gone over
abbrev pub ComesAsTold : Document → Type 0
ComesAsTold d = (side : Side) (t : ℤ) → messages_of (landing_at (landings_for side d) t) ≡ landing ((exchanges d).sent side) t ++ others_of d side t

other_other : (side : Side) → other (other side) ≡ side
other_other Ru = refl
other_other Du = refl

leaves_as : (t : ℤ) (fs : List Flight) → All (λ (f : Flight). f.at ≡ t) fs → map leaving_flight fs ≡ map (leaving_made t) (map delay_frame (map (λ (f : Flight). f.message) fs))
leaves_as t [] now = refl
leaves_as t (f ∷ fs) now =
    ap₂ (λ (at : ℤ) (ls : List Leaving). leaving_made at (delay_frame f.message) ∷ ls) (All-head (λ (g : Flight). g.at ≡ t) f fs now)
    (leaves_as t fs (All-tail (λ (g : Flight). g.at ≡ t) f fs now))

map_none : {X Y : Type 0} (f : X → Y) (xs : List X) → map f xs ≡ [] → xs ≡ []
map_none f [] h = refl
map_none f (x ∷ xs) h = absurd cc

module _ (d : Document) (is : IsReplayable d) (told : ComesAsTold d) where
  pub comes_in : (side : Side) (n m : ℕ) → n + m ≡ tick_count
      → messages_of (landing_at (landings_for side d) (first_clock +ℤ pos n)) ≡ landing ((state (own d) first_clock n).sent side) (first_clock +ℤ pos n) ++ others_of d side (first_clock +ℤ pos n)
  comes_in side n m count =
      let t : ℤ = first_clock +ℤ pos n in
      told side t
      ∙ ap (λ (k : ℕ). landing ((state (own d) first_clock k).sent side) t ++ others_of d side t) (sym count)
      ∙ ap (λ (ms : List DelayMessage). ms ++ others_of d side t) (document_settled d is.document (others_of d) side first_clock n m)

  -- within a tick, and at its start
  side_told : (side : Side) (n m : ℕ) → n + m ≡ tick_count → IsSideOf side (before (state (own d) first_clock n)) (doings_in d side n)
      → IsSideOf side (hearing (own d) (first_clock +ℤ pos n) (state (own d) first_clock n)) (told_frames d side (first_clock +ℤ pos n) (doings_in d side n) (landing_at (landings_for side d) (first_clock +ℤ pos n)))
  side_told side n m count here =
      let t : ℤ = first_clock +ℤ pos n in
      tick_told (own d) side t (state (own d) first_clock n) (doings_in d side n) (landing_at (landings_for side d) t) (comes_in side n m count) here

  pub side_in : (side : Side) (n m : ℕ) → n + m ≡ tick_count → IsSideOf side (before (state (own d) first_clock n)) (doings_in d side n)
  side_in side zero m count = record {
    told = ap (λ (x : Doings). x.told) (doings_zero d side) ∙ sym (ap (told_to side) (nothing_heard (own d) first_clock));
    made = none_left d side zero;
  }
  side_in side (suc n) m count =
      let t : ℤ = first_clock +ℤ pos n in
      let now = side_told side n (suc m) (one_moved n m tick_count count) (side_in side n (suc m) (one_moved n m tick_count count)) in
      record {
        told = ap (λ (x : Doings). x.told) (doings_next d side n ∙ after_is d side t (doings_in d side n)) ∙ now.told ∙ sym (ap (told_to side) (heard_next (own d) first_clock n));
        made = none_left d side (suc n);
      }

  -- ---- what it made leaves

  leaves_in : (side : Side) (n m : ℕ) → n + suc m ≡ tick_count
      → map leaving_flight (flights_then ((exchanges d).sent (other side)) (first_clock +ℤ pos n))
      ≡ map (leaving_made (first_clock +ℤ pos n)) (told_frames d side (first_clock +ℤ pos n) (doings_in d side n) (landing_at (landings_for side d) (first_clock +ℤ pos n))).made
  leaves_in side n m count =
      let t : ℤ = first_clock +ℤ pos n in
      let h = hearing (own d) t (state (own d) first_clock n) in
      let fs = flights_then ((state (own d) first_clock (n + suc m)).sent (other side)) t in
      let launched = launched_then (own d) (other side) first_clock n m in
      let its = side_told side n (suc m) count (side_in side n (suc m) count) in
      ap (λ (k : ℕ). map leaving_flight (flights_then ((state (own d) first_clock k).sent (other side)) t)) (sym count)
      ∙ leaves_as t fs launched.now
      ∙ ap (λ (ms : List DelayMessage). map (leaving_made t) (map delay_frame ms)) (launched.messages ∙ ap h.made (other_other side))
      ∙ ap (map (leaving_made t)) (sym its.made)

  within_end : (t : ℤ) → t ≤ℤ end_of_time → t <ℤ (end_of_time +ℤ pos 1)
  within_end t h = omega (arith, ints, h)

  pub leaves_at : (side : Side) (t : ℤ) → first_clock ≤ℤ t → t ≤ℤ end_of_time
      → map leaving_flight (flights_then ((exchanges d).sent (other side)) t) ≡ map (leaving_made t) (made_at d side t).made
  leaves_at side t low high =
      let n = int_gap first_clock t in
      let count = gap_parts first_clock t (end_of_time +ℤ pos 1) low (within_end t high) in
      subst (λ (s : ℤ). map leaving_flight (flights_then ((exchanges d).sent (other side)) s) ≡ map (leaving_made s) (told_frames d side s (doings_in d side n) (landing_at (landings_for side d) s)).made)
      (gap_is first_clock t low) (leaves_in side n (int_gap (t +ℤ pos 1) (end_of_time +ℤ pos 1)) (sym count))

  before_end : (t tick : ℤ) → t <ℤ tick → tick ≤ℤ (end_of_time +ℤ pos 1) → t ≤ℤ end_of_time
  before_end t tick h k = omega (arith, ints, h, k)

  pub none_leave : (side : Side) (now tick : ℤ) → first_clock ≤ℤ now → tick ≤ℤ (end_of_time +ℤ pos 1) → IsQuietBetween d now tick → (t : ℤ) → now ≤ℤ t → t <ℤ tick
      → flights_then ((exchanges d).sent side) t ≡ []
  none_leave side now tick begun ended quiet t low high =
      let by = other side in
      let made = ap (λ (x : Doings). x.made) (told_nothing d by t (doings_at d by t) (landing_at (landings_for by d) t) (quiet.begins by t low high) (quiet.calm by t low high)) ∙ none_left d by (int_gap first_clock t) in
      ap (λ (s : Side). flights_then ((exchanges d).sent s) t) (sym (other_other side))
      ∙ map_none leaving_flight (flights_then ((exchanges d).sent (other by)) t)
      (leaves_at by t (at_most first_clock now t begun low) (before_end t tick high ended) ∙ ap (map (leaving_made t)) made)

-- ---- of a document that may be replayed

pub comes_as_told : (d : Document) → IsReplayable d → ComesAsTold d
comes_as_told d is side t = messages_land d side t (documents_are_distinct d side is)

-- what a unit made at a tick leaves for the other then
pub made_leave : (d : Document) (side : Side) (t : ℤ) → IsReplayable d → first_clock ≤ℤ t → t ≤ℤ end_of_time
    → map leaving_flight (flights_then ((exchanges d).sent (other side)) t) ≡ map (leaving_made t) (made_at d side t).made
made_leave d side t is low high = leaves_at d is (comes_as_told d is) side t low high

pub flights_wait : FlightsWait
flights_wait d side now tick is begun ended quiet = none_leave d is (comes_as_told d is) side now tick begun ended quiet
