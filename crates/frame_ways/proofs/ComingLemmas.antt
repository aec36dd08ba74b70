-- Frames are received late enough: none before it was sent, and those of delay measurement later.
use Rattle.std.proofs.Common.{ℕ, ℤ, pos, ◌+ℤ◌, ◌*ℤ◌, ◌≤ℤ◌, List, [], ◌∷◌, All, inl, inr, arith}
use Rattle.std.specs.Prelude.{map}
use Rattle.std.proofs.lemmas.Int.{ints}
use Rattle.std.proofs.lemmas.List.Elements.{All-cons, All-head, All-nil, All-tail}
use Rattle.air_source.specs.declared.events.Side.{Side}
use Rattle.frame_ways.specs.Landing.{copies_in, copy_at}
use Rattle.frame_ways.specs.Leaving.{Leaving, SentCounts, counted, delayed}
use Rattle.fh_document.specs.Proper.{IsDocument, IsFrom}
use Rattle.fh_document.specs.declared.document.Document.{Document}
use Rattle.fh_document.specs.declared.config_lines.TheConstants.{MOST_TRANSIT}
use Rattle.unit_model.specs.Meetings.{Arrival}
use Rattle.frame_ways.specs.Ways.{LandsFrom}
use Rattle.frame_ways.proofs.CountLemmas.{measured_within, times_within}
use Rattle.fh_base.specs.declared.nanoseconds.TheConstants.{NANOSECOND}

at_least : (now at : ℤ) (least : ℕ) (ns : ℤ) → now ≤ℤ (at +ℤ pos least) → IsFrom least MOST_TRANSIT ns → now ≤ℤ (at +ℤ (ns *ℤ pos NANOSECOND))
at_least now at least ns order h = let low = h.low in omega (arith, ints, low, order)

-- each so many nanoseconds later at least
copies_come : (f : Leaving) (least : ℕ) (now : ℤ) (delays : List ℤ) → now ≤ℤ (f.at +ℤ pos least) → All (IsFrom least MOST_TRANSIT) delays → All (λ (a : Arrival). now ≤ℤ a.at) (map (copy_at f) delays)
copies_come f least now [] order times = All-nil _
copies_come f least now (ns ∷ delays) order times =
    let P = IsFrom least MOST_TRANSIT in
    All-cons (λ (a : Arrival). now ≤ℤ a.at) (copy_at f ns) (map (copy_at f) delays) (at_least now f.at least ns order (All-head P ns delays times))
    (copies_come f least now delays order (All-tail P ns delays times))

none_later : (now at : ℤ) → now ≤ℤ at → now ≤ℤ (at +ℤ pos 0)
none_later now at order = omega (arith, ints, order)

-- no copy of a frame lands before a tick from which it lands
pub all_come : (d : Document) (side : Side) (now : ℤ) (n : SentCounts) (f : Leaving) → IsDocument d → LandsFrom now f.at f.class
    → All (λ (a : Arrival). now ≤ℤ a.at) (copies_in (delayed d side (counted f.class n) f))
all_come d side now n f doc lands = elim lands [
  | inl order ↦ copies_come f 0 now (delayed d side (counted f.class n) f).delays (none_later now f.at order) (times_within d doc side f.class _)
  | inr measured ↦ copies_come f 1 now (delayed d side (counted f.class n) f).delays measured.1 (measured_within d doc side f.class _ measured.0)
]
