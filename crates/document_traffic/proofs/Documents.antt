-- A document that was read begins and delays as the laws ask for.
use Rattle.std.proofs.Common.{◌≡◌, ℕ, ℤ, pos, negsuc, ◌≤ℤ◌, ◌<ℤ◌, List, [], ◌∷◌, refl, sym, ap, subst, arith, inr}
use Rattle.std.specs.Prelude.{All, map}
use Rattle.std.proofs.lemmas.Int.{ints}
use Rattle.std.proofs.lemmas.List.Elements.{All-map, All-weaker}
use Rattle.eaxc_map.specs.Endpoints.{AppearOnce}
use Rattle.air_source.specs.declared.events.Side.{Side}
use Rattle.air_source.specs.declared.events.Side.TheVariants.{Ru, Du}
use Rattle.delay_measure.specs.Kept.{IsInRange}
use Rattle.delay_laws.specs.Delays.{IsWholeTime}
use Rattle.delay_laws.specs.Ends.{EndsBy, HasWholeTimes}
use Rattle.delay_laws.specs.Ticks.{Begin, IsPure}
use Rattle.delay_laws.proofs.Carried.{tick_delays}
use Rattle.delay_laws.proofs.Knowing.{events_measured}
use Rattle.delay_laws.proofs.Ending.{all_end}
use Rattle.delay_laws.proofs.Settling.{settled}
use Rattle.delay_laws.proofs.Whole.{tick_exact}
use Rattle.delay_measure.specs.declared.message.DelayMessage.{DelayMessage}
use Rattle.fh_document.specs.declared.delivered.TrafficClass.TheVariants.{M}
use Rattle.fh_document.specs.declared.document.Document.{Document}
use Rattle.fh_document.specs.declared.document.Measure.{Measure}
use Rattle.fh_document.specs.Proper.{AreComps, IsDocument, IsFrom, IsMeasure}
use Rattle.frame_ways.specs.Copies.{copies_of}
use Rattle.frame_ways.proofs.Within.{copies_within}
use Rattle.window_config.specs.Windows.{ticks_of_ns}
use Rattle.document_traffic.specs.Settings.{begin_of, compensation_of, no_others, setting_of, ways_of}
use Rattle.document_traffic.specs.DelayLaws.{AllEnds, DelaysAreExact, DelaysAreOfRequests, EventsAreMeasured, LandingIsSettled}
use Rattle.fh_document.specs.declared.config_lines.TheConstants.{MOST_TRANSIT}
use Rattle.fh_base.specs.declared.nanoseconds.TheConstants.{LAST_TIME}
use Rattle.window_config.proofs.TickLemmas.{in_ticks as scaled}

-- ---- times

whole_ns : (ns : ℤ) → pos 0 ≤ℤ ns → IsWholeTime (ticks_of_ns ns)
whole_ns (pos n) low = (n, omega (arith, ints))
whole_ns (negsuc n) low = absurd (omega (arith, ints))

from_zero : (low : ℕ) (high : ℕ) (ns : ℤ) → IsFrom low high ns → pos 0 ≤ℤ ns
from_zero low high ns is = let least = is.low in omega (arith, ints)

-- ---- what begins

ids_same : (ms : List Measure) → map (λ (b : Begin). b.id) (map begin_of ms) ≡ map (λ (m : Measure). m.id) ms
ids_same [] = refl
ids_same (m ∷ ms) = ap (λ (l : List ℕ). m.id ∷ l) (ids_same ms)

begins_all : (P : Begin → Type 0) (ms : List Measure) → All IsMeasure ms → ((m : Measure) → IsMeasure m → P (begin_of m)) → All P (map begin_of ms)
begins_all P ms all holds = All-map P begin_of ms (All-weaker IsMeasure (λ (m : Measure). P (begin_of m)) holds ms all)

ways_all : (P : ℤ → Type 0) (d : Document) → IsDocument d → ((ns : ℤ) → IsFrom 1 MOST_TRANSIT ns → P (ticks_of_ns ns)) → (side : Side) (k : ℕ) → All P (ways_of d side k)
ways_all P d is holds side k =
    All-map P ticks_of_ns (copies_of d side M k) (All-weaker (IsFrom 1 MOST_TRANSIT) (λ (ns : ℤ). P (ticks_of_ns ns)) holds (copies_of d side M k) (copies_within d is.transits is.deliveries side M k))

pure : (d : Document) → IsDocument d → IsPure (setting_of d no_others)
pure d is = record {
  once = subst AppearOnce (sym (ids_same d.measures)) is.differ;
  late = begins_all (λ (b : Begin). pos 1536000000 ≤ℤ b.at) d.measures is.measures (λ m proper. scaled (pos 1000000) m.at proper.time.low);
  alone = λ side t. refl;
}

pub compensation_is : (d : Document) → AreComps d.comps → (side : Side) → IsInRange (compensation_of d side)
compensation_is d is Ru = record { sending_low = is.ru_sending.low; sending_high = is.ru_sending.high; receiving_low = is.ru_receiving.low; receiving_high = is.ru_receiving.high }
compensation_is d is Du = record { sending_low = is.du_sending.low; sending_high = is.du_sending.high; receiving_low = is.du_receiving.low; receiving_high = is.du_receiving.high }

whole_times : (d : Document) → IsDocument d → HasWholeTimes (setting_of d no_others)
whole_times d is = record {
  begins = begins_all (λ (b : Begin). IsWholeTime b.at) d.measures is.measures (λ m proper. whole_ns m.at (from_zero 1000000 LAST_TIME m.at proper.time));
  others = λ side t. inr refl;
  delays = ways_all IsWholeTime d is (λ ns time. whole_ns ns (from_zero 1 MOST_TRANSIT ns time));
}

ends : (d : Document) → IsDocument d → (others : Side → ℤ → List DelayMessage) → ((side : Side) (t : ℤ) → ticks_of_ns (pos LAST_TIME) <ℤ t → others side t ≡ [])
    → EndsBy (setting_of d others) (ticks_of_ns (pos LAST_TIME)) (ticks_of_ns (pos MOST_TRANSIT))
ends d is others none = record {
  begins = begins_all (λ (b : Begin). b.at ≤ℤ ticks_of_ns (pos LAST_TIME)) d.measures is.measures (λ m proper. scaled m.at (pos LAST_TIME) proper.time.high);
  others = none;
  delays = ways_all (λ (t : ℤ). t ≤ℤ ticks_of_ns (pos MOST_TRANSIT)) d is (λ ns time. scaled ns (pos MOST_TRANSIT) time.high);
  some = omega (arith, ints);
}

positive : (ns : ℤ) → pos 1 ≤ℤ ns → pos 0 <ℤ ticks_of_ns ns
positive ns low = omega (arith, ints)

-- ---- the laws

pub document_delays : DelaysAreOfRequests
document_delays d is = tick_delays (setting_of d no_others) (pure d is) (compensation_is d is.comps)

pub document_exact : DelaysAreExact
document_exact d is = tick_exact (setting_of d no_others) (pure d is) (compensation_is d is.comps) (whole_times d is)

pub document_settled : LandingIsSettled
document_settled d is others side = settled (setting_of d others) side (λ k. ways_all (λ (t : ℤ). pos 0 <ℤ t) d is (λ ns time. positive ns time.low) side k)

pub document_ends : AllEnds
document_ends d is others none = all_end (setting_of d others) (ticks_of_ns (pos LAST_TIME)) (ticks_of_ns (pos MOST_TRANSIT)) (ends d is others none)

pub document_events : EventsAreMeasured
document_events d is = events_measured (setting_of d no_others) (pure d is) (compensation_is d is.comps)
