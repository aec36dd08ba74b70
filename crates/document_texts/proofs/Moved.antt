-- A document of the grammar stays one at every unit.
use Rattle.std.proofs.Common.{◌≡◌, ℕ, ℤ, pos, ◌+ℤ◌, ◌≤ℤ◌, ◌≤◌, ◌*◌, ◌||◌, Bool, true, false, cond, List, [], ◌∷◌, map, length, All, refl, ap, sym, ◌∙◌, subst, arith, Option, Some, None}
use Rattle.std.specs.Prelude.{IfSome}
use Rattle.std.specs.Int.{int_min}
use Rattle.std.specs.Option.{option_map}
use Rattle.std.proofs.lemmas.Int.{clamps, ints}
use Rattle.std.proofs.lemmas.List.{length-map}
use Rattle.std.proofs.lemmas.List.Elements.{All-map}
use Rattle.fh_document.specs.Delivered.{has_like, is_like}
use Rattle.fh_document.specs.DeliverLines.{least_of}
use Rattle.fh_document.specs.Proper.{AreApart, IsDelivery, IsFrom}
use Rattle.fh_document.specs.declared.config_lines.TheConstants.{MOST_TRANSIT}
use Rattle.fh_document.specs.declared.delivered.Delivery.{Delivery}
use Rattle.document_texts.specs.Units.{UnitsAreDocuments, moved, moved_delivery, moves}
use Rattle.fh_base.proofs.CommonLemmas.{least_of as at_least}
use Rattle.fh_base.proofs.Orders.{at_most as over}

at_most : (a b : ℤ) → int_min a b ≤ℤ b
at_most a b = omega (arith, ints, clamps)

further : (more least : ℕ) (ns : ℤ) → pos least ≤ℤ ns → pos least ≤ℤ (ns +ℤ pos more)
further more least ns h = omega (arith, ints, h)

-- a time that is longer stays within the limits
pub moved_from : (more least : ℕ) (ns : ℤ) → IsFrom least MOST_TRANSIT ns → IsFrom least MOST_TRANSIT (moved more ns)
moved_from more least ns h = record {
  low = at_least (ns +ℤ pos more) (pos MOST_TRANSIT) (pos least) (further more least ns h.low) (over (pos least) ns (pos MOST_TRANSIT) h.low h.high);
  high = at_most (ns +ℤ pos more) (pos MOST_TRANSIT);
}

moved_way : (more : ℕ) (time : Option ℤ) → IfSome time (IsFrom 0 MOST_TRANSIT) → IfSome (option_map (moved more) time) (IsFrom 0 MOST_TRANSIT)
moved_way more None h = tt
moved_way more (Some ns) h = moved_from more 0 ns h

moved_times : (more least : ℕ) (b : Bool) (times : List ℤ) → All (IsFrom least MOST_TRANSIT) times → All (IsFrom least MOST_TRANSIT) (cond b (map (moved more) times) times)
moved_times more least true times h = All-map (IsFrom least MOST_TRANSIT) (moved more) times (λ k d lt. moved_from more least _ (h k d lt))
moved_times more least false times h = h

so_many : (more : ℕ) (b : Bool) (times : List ℤ) → length (cond b (map (moved more) times) times) ≡ length times
so_many more true times = length-map times (moved more)
so_many more false times = refl

moved_is : (more : ℕ) (x : Delivery) → IsDelivery x → IsDelivery (moved_delivery more x)
moved_is more x h = record {
  some = h.some;
  most = h.most;
  few = subst (λ (n : ℕ). n ≤ 8) (sym (so_many more (moves x.side x.class) x.copies)) h.few;
  times = moved_times more (least_of x.class) (moves x.side x.class) x.copies h.times;
}

-- deliveries of other frames stay of other frames
like_moved : (more : ℕ) (x : Delivery) (ds : List Delivery) → has_like (moved_delivery more x) (map (moved_delivery more) ds) ≡ has_like x ds
like_moved more x [] = refl
like_moved more x (d ∷ ds) = ap (λ (b : Bool). is_like x d || b) (like_moved more x ds)

apart_moved : (more : ℕ) (ds : List Delivery) → AreApart ds → AreApart (map (moved_delivery more) ds)
apart_moved more [] h = tt
apart_moved more (d ∷ ds) h = (like_moved more d ds ∙ h.0, apart_moved more ds h.1)

pub are_documents : UnitsAreDocuments
are_documents d unit step h = record {
  config = h.config;
  ids = h.ids;
  plan = h.plan;
  few = h.few;
  numbered = h.numbered;
  source = h.source;
  antenna = record { low = h.antenna.low; high = h.antenna.high };
  comps = h.comps;
  transits = record { dl = moved_way (unit * step) d.transits.dl h.transits.dl; ul = h.transits.ul; m = h.transits.m };
  deliveries = All-map IsDelivery (moved_delivery (unit * step)) d.deliveries (λ k x lt. moved_is (unit * step) _ (h.deliveries k x lt));
  frames = apart_moved (unit * step) d.deliveries h.frames;
  injections = h.injections;
  measures = h.measures;
  differ = h.differ;
}
