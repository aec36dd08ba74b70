-- How a way relates to a document from one time to another.
use Rattle.std.proofs.Common.{◌≡◌, ℤ, pos, ◌+ℤ◌, ◌-ℤ◌, ◌≤ℤ◌, Bool, true, false, List, [], ◌∷◌, ◌++◌, All, inl, inr, refl, sym, ap, ap₂, ◌∙◌, subst, append_assoc, append-nil, arith}
use Rattle.std.specs.Prelude.{if◌then◌else◌}
use Rattle.std.specs.Ordering.{int_eq}
use Rattle.std.proofs.lemmas.Int.{ints}
use Rattle.std.proofs.lemmas.Bool.Decides.{Decides-int_eq}
use Rattle.std.proofs.lemmas.List.Elements.{All-head, All-tail}
use Rattle.air_source.specs.declared.events.Side.{Side}
use Rattle.fh_base.proofs.Orders.{next_order, next_after}
use Rattle.frame_ways.specs.Landing.{copies_among, copies_in, injected_to, landing_at, landing_with}
use Rattle.frame_ways.specs.Leaving.{Delayed, Leaving, SentCounts, counted, counted_all, delayed, delayed_behind, none_sent}
use Rattle.frame_ways.specs.Ways.{IsCalmTo, LandsFrom, StandsFor, document_of, having_sent_all, landings_on, nothing_sent}
use Rattle.frame_ways.specs.declared.way.Way.{Way}
use Rattle.frame_ways.proofs.ComingLemmas.{all_come}
use Rattle.frame_ways.proofs.FlightLemmas.{landing-append}
use Rattle.frame_ways.proofs.MoreLemmas.{among-append, behind-append}
use Rattle.frame_ways.proofs.TimeLemmas.{stands_until}
use Rattle.document_traffic.specs.Replayed.{all_leaving, landings_for}
use Rattle.fh_document.specs.Proper.{IsDocument}
use Rattle.fh_document.specs.declared.document.Document.{Document}
use Rattle.unit_model.specs.Meetings.{Arrival}
use Rattle.unit_model.specs.Radiated.{first_clock}
use Rattle.fronthaul_replay.specs.Waiting.{LandsAfter, Waits, on_way}
use Rattle.unit_laws.proofs.HistoryTicks.{next_of_last}

-- ---- nothing was sent, and one more is

clock_early : first_clock ≤ℤ pos 0
clock_early = omega (arith, ints)

pub starts : (d : Document) (side : Side) (w : Way) → ((now : ℤ) → now ≤ℤ pos 0 → StandsFor (nothing_sent d side) now w) → Waits d side first_clock (all_leaving side d) w
starts d side w made = record { sent = []; all = refl; stands = made first_clock clock_early }

-- and so do several, one after the other, where these are the first of all that is still to be sent
pub all_go_out : (d : Document) (side : Side) (now : ℤ) (gone left whole : List Leaving) (w x : Way) → (h : Waits d side now whole w) → whole ≡ gone ++ left
    → StandsFor (having_sent_all (on_way d side h.sent) gone) now x → Waits d side now left x
all_go_out d side now gone left whole w x h parts stands =
    record { sent = h.sent ++ gone; all = append_assoc h.sent gone left ∙ ap (λ (fs : List Leaving). h.sent ++ fs) (sym parts) ∙ h.all; stands = stands }

-- its document was read
pub is_read : (d : Document) (side : Side) (now : ℤ) (left : List Leaving) (w : Way) → Waits d side now left w → IsDocument (document_of w)
is_read d side now left w h = subst IsDocument (sym h.stands.document) h.stands.read

-- ---- what is still to be sent

-- it lands from the tick after
lands_from : (tick : ℤ) (f : Leaving) → LandsAfter tick f → LandsFrom (tick +ℤ pos 1) f.at f.class
lands_from tick f later = elim later [ inl after ↦ inl (next_after tick f.at after) | inr measured ↦ inr (measured.0, next_order tick f.at measured.1) ]

none_landing : (t : ℤ) (xs : List Arrival) → All (λ (a : Arrival). (t +ℤ pos 1) ≤ℤ a.at) xs → landing_at xs t ≡ []
none_landing t [] h = refl
none_landing t (x ∷ xs) h = go (int_eq x.at t) refl (none_landing t xs (All-tail (λ (a : Arrival). (t +ℤ pos 1) ≤ℤ a.at) x xs h))
  where
    go : (b : Bool) → int_eq x.at t ≡ b → landing_at xs t ≡ [] → (if b then x ∷ landing_at xs t else landing_at xs t) ≡ []
    go true e rest =
        let same : x.at ≡ t = (Decides-int_eq x.at t).0 e in
        let above = All-head (λ (a : Arrival). (t +ℤ pos 1) ≤ℤ a.at) x xs h in
        absurd (omega (arith, ints, same, above))
    go false e rest = rest

-- of frames that land after a tick nothing lands at it
none_of_later : (d : Document) → IsDocument d → (side : Side) (t : ℤ) (n : SentCounts) (left : List Leaving) → All (LandsAfter t) left
    → landing_at (copies_among (delayed_behind d side n left)) t ≡ []
unfolding delayed_behind
none_of_later d doc side t n [] later = refl
none_of_later d doc side t n (f ∷ left) later =
    let m = counted f.class n in
    landing-append (copies_in (delayed d side m f)) (copies_among (delayed_behind d side m left)) t
    ∙ ap₂ (λ (xs ys : List Arrival). xs ++ ys)
    (none_landing t (copies_in (delayed d side m f)) (all_come d side (t +ℤ pos 1) n f doc (lands_from t f (All-head (LandsAfter t) f left later))))
    (none_of_later d doc side t m left (All-tail (LandsAfter t) f left later))

-- so what lands at the tick is what lands of those that were sent
pub lands_at : (d : Document) (side : Side) (t : ℤ) (sent left : List Leaving) → IsDocument d → sent ++ left ≡ all_leaving side d → All (LandsAfter t) left
    → landing_at (landings_on (on_way d side sent)) t ≡ landing_at (landings_for side d) t
lands_at d side t sent left doc all later =
    let n = counted_all none_sent sent in
    let before = delayed_behind d side none_sent sent in
    let behind = delayed_behind d side n left in
    let listed = injected_to side d in
    let whole : landing_at (copies_among (delayed_behind d side none_sent (sent ++ left))) t ≡ landing_at (copies_among before) t =
    ap (λ (xs : List Delayed). landing_at (copies_among xs) t) (behind-append d side none_sent sent left)
    ∙ ap (λ (xs : List Arrival). landing_at xs t) (among-append before behind)
    ∙ landing-append (copies_among before) (copies_among behind) t
    ∙ ap (λ (xs : List Arrival). landing_at (copies_among before) t ++ xs) (none_of_later d doc side t n left later)
    ∙ append-nil (landing_at (copies_among before) t) in
    landing-append (copies_among before) listed t
    ∙ ap (λ (xs : List Arrival). xs ++ landing_at listed t) (sym whole)
    ∙ sym (landing-append (copies_among (delayed_behind d side none_sent (sent ++ left))) listed t)
    ∙ ap (λ (fs : List Leaving). landing_at (landing_with d side fs) t) all

-- ---- the time before a tick

-- where nothing lands of those that were sent before a tick, the way is at the tick as it was
pub waits_until : (d : Document) (side : Side) (now tick : ℤ) (left : List Leaving) (w : Way) → (h : Waits d side now left w) → now ≤ℤ tick
    → IsCalmTo (landings_on (on_way d side h.sent)) now (tick -ℤ pos 1) → Waits d side tick left w
waits_until d side now tick left w h order calm =
    let v = on_way d side h.sent in
    record {
      sent = h.sent;
      all = h.all;
      stands = subst (λ (t : ℤ). StandsFor v t w) (next_of_last tick)
          (stands_until v now (tick -ℤ pos 1) w h.stands (subst (λ (t : ℤ). now ≤ℤ t) (sym (next_of_last tick)) order) calm);
    }
