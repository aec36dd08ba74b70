-- Both ways from one tick to another, where nothing lands and no measurement begins.
use Rattle.std.proofs.Common.{◌≡◌, ◌≢◌, ℤ, pos, ◌+ℤ◌, ◌-ℤ◌, ◌≤ℤ◌, ◌<ℤ◌, Bool, true, false, List, [], All, refl, sym, ◌∙◌, subst, arith}
use Rattle.std.specs.Ordering.{int_eq}
use Rattle.std.proofs.lemmas.Bool.Decides.{Decides-int_eq}
use Rattle.std.proofs.lemmas.Int.{ints}
use Rattle.std.proofs.lemmas.List.Elements.{All-weaker}
use Rattle.std.specs.Int.Signed.{<ℤ-≤ℤ_trans, clash_ℤ}
use Rattle.air_source.specs.declared.events.Side.{Side}
use Rattle.fh_base.proofs.Orders.{weak, at_most, next_after}
use Rattle.frame_ways.specs.Landing.{landing_at}
use Rattle.frame_ways.specs.Leaving.{Leaving}
use Rattle.frame_ways.specs.Ways.{IsCalmTo, landings_on}
use Rattle.frame_ways.specs.declared.way.Way.{Way}
use Rattle.document_traffic.proofs.LeaveLemmas.{leaving_waits}
use Rattle.document_traffic.specs.Measured.{exchanges}
use Rattle.document_traffic.specs.Replayed.{begins_at, landings_for, leaving_with}
use Rattle.document_traffic.specs.Turns.{FlightsWait, IsQuietBetween}
use Rattle.document_traffic.specs.Laws.{IsReplayable}
use Rattle.fh_document.specs.declared.document.Document.{Document}
use Rattle.replay_laws.proofs.TickLemmas.{between}
use Rattle.replay_laws.specs.Moments.{end_of_time}
use Rattle.replay_laws.specs.Passing.{IsCalm}
use Rattle.unit_laws.proofs.HistoryTicks.{before_next, last_before}
use Rattle.unit_model.specs.Meetings.{Arrival}
use Rattle.unit_model.specs.Radiated.{first_clock}
use Rattle.fronthaul_replay.specs.Waiting.{LandsAfter, Waits, on_way}
use Rattle.fronthaul_replay.proofs.LeavingLemmas.{leaving_lands_after}
use Rattle.fronthaul_replay.proofs.WayLemmas.{lands_at}

-- the ways to both units at a tick, and the frames of the classes c and u that are still to be sent: before another tick none of these
-- leaves, none that is on its way lands, and no measurement begins
pub record AreSilent (d : Document) (now tick : ℤ) (left : Side → List Leaving) (ways : Side → Way) : Type 0 where
  pub waits : (side : Side) → Waits d side now (leaving_with side d (left side) now) (ways side)
  pub empty : (side : Side) → IsCalmTo (landings_on (on_way d side (waits side).sent)) now (tick -ℤ pos 1)
  pub later : (side : Side) → All (λ (f : Leaving). tick ≤ℤ f.at) (left side)
  pub begins : (side : Side) (t : ℤ) → now ≤ℤ t → t <ℤ tick → begins_at d side t ≡ []

-- ---- one tick more

differs : (a b : ℤ) → int_eq a b ≡ false → a ≢ b
differs a b e same = let both : true ≡ false = sym ((Decides-int_eq a b).1 same) ∙ e in absurd (cc both)

is_below : (a b : ℤ) → a ≤ℤ b → a ≢ b → a <ℤ b
is_below a b low other = omega (arith, ints, low, other)

calm_more : (xs : List Arrival) (now t : ℤ) → IsCalm xs now t → landing_at xs t ≡ [] → IsCalm xs now (t +ℤ pos 1)
calm_more xs now t calm here u low high = go (int_eq u t) refl
  where
    go : (b : Bool) → int_eq u t ≡ b → landing_at xs u ≡ []
    go true e = subst (λ (z : ℤ). landing_at xs z ≡ []) (sym ((Decides-int_eq u t).0 e)) here
    go false e = calm u low (is_below u t (before_next u t high) (differs u t e))

-- none of delay measurement has left before a tick up to which all was quiet
left_same : FlightsWait → (d : Document) (side : Side) (now t : ℤ) (ls : List Leaving) → IsReplayable d → first_clock ≤ℤ now → now ≤ℤ t → t ≤ℤ (end_of_time +ℤ pos 1)
    → All (λ (f : Leaving). t ≤ℤ f.at) ls → IsQuietBetween d now t → leaving_with side d ls now ≡ leaving_with side d ls t
left_same flights d side now t ls ready begun low ended later quiet = leaving_waits ((exchanges d).sent side) now t ls later low ended (flights d side now t ready begun ended quiet)

-- so nothing lands at that tick
calm_then : FlightsWait → (d : Document) (now tick t : ℤ) (left : Side → List Leaving) (ways : Side → Way) → IsReplayable d → first_clock ≤ℤ now
    → now ≤ℤ t → t <ℤ tick → t ≤ℤ (end_of_time +ℤ pos 1) → AreSilent d now tick left ways → IsQuietBetween d now t → (side : Side) → landing_at (landings_for side d) t ≡ []
calm_then flights d now tick t left ways ready begun low high ended s quiet side =
    let ls = left side in
    let fs = (exchanges d).sent side in
    let w = s.waits side in
    let after : All (λ (f : Leaving). t <ℤ f.at) ls = All-weaker (λ (f : Leaving). tick ≤ℤ f.at) (λ (f : Leaving). t <ℤ f.at) (λ f due. <ℤ-≤ℤ_trans high due) ls (s.later side) in
    let from : All (λ (f : Leaving). t ≤ℤ f.at) ls = All-weaker (λ (f : Leaving). t <ℤ f.at) (λ (f : Leaving). t ≤ℤ f.at) (λ f late. weak t f.at late) ls after in
    let same = left_same flights d side now t ls ready begun low ended from quiet in
    sym (lands_at d side t w.sent (leaving_with side d ls now) ready.document w.all (subst (All (LandsAfter t)) (sym same) (leaving_lands_after fs t ls after)))
    ∙ s.empty side t low (last_before t tick high)

-- ---- up to the other tick

pub quiet_until : FlightsWait → (d : Document) (now tick : ℤ) (left : Side → List Leaving) (ways : Side → Way) → IsReplayable d → first_clock ≤ℤ now
    → now ≤ℤ tick → tick ≤ℤ (end_of_time +ℤ pos 1) → AreSilent d now tick left ways → IsQuietBetween d now tick
quiet_until flights d now tick left ways ready begun order ended s =
    between (λ t. IsQuietBetween d now t) now tick order
    (record { begins = λ side t low high. absurd (clash_ℤ high low); calm = λ side t low high. absurd (clash_ℤ high low) })
    (λ t low high quiet. record {
      begins = λ side u from to. s.begins side u from (<ℤ-≤ℤ_trans to (next_after t tick high));
      calm = λ side.
          calm_more (landings_for side d) now t (quiet.calm side)
          (calm_then flights d now tick t left ways ready begun low high (at_most t tick (end_of_time +ℤ pos 1) (weak t tick high) ended) s quiet side);
    })
