-- What callers of the air need: a fresh one writes out a summary.
use Rattle.std.proofs.Common.{◌≡◌, ℕ, List, [], ◌∷◌, ◌++◌, Option, sym, ap, subst, ◌∙◌, append-nil}
use Rattle.std.specs.Io.KnownBytes.{append_known}
use Rattle.fh_base.specs.Told.{WritesFront}
use Rattle.air_source.specs.declared.airs.AirFault.{AirFault}
use Rattle.air_source.specs.declared.events.Event.{Event}
use Rattle.air_source.specs.Moves.{state_after, given_by}
use Rattle.air_source.specs.MovesLaws.{given_by-append}
use Rattle.air_source.specs.Stops.{StopsIn}
use Rattle.fh_base.specs.Owed.{Carried}
use Rattle.air_source.specs.Stopping.{Halted}
use Rattle.air_source.proofs.Fronts.{IsFront, WritesOut, front_of, stops_front, carried_from, front_from, all_from}
use Rattle.report_airs.specs.SumStates.{SumState}
use Rattle.report_airs.specs.States.{sum_start, sum_next, sum_gives, sum_ends}
use Rattle.report_airs.specs.Summary.{whole_summary}
use Rattle.report_airs.specs.SumLaws.{Heard}
use Rattle.report_airs.proofs.Whole.{CountsLast, summary_is}

-- the lines that events give before the end is known
abbrev pub summary_begun : List Event → List ℕ
summary_begun events = given_by sum_next sum_gives sum_start events

-- the bytes of some events and of one more
one_more : (events : List Event) (event : Event) → summary_begun events ++ sum_gives (state_after sum_next sum_start events) event ≡ summary_begun (events ++ event ∷ [])
one_more events event =
    ap (λ bytes. summary_begun events ++ bytes) (sym (append-nil (sum_gives (state_after sum_next sum_start events) event)))
    ∙ given_by-append sum_next sum_gives sum_start events (event ∷ [])

-- what a fresh air heard, from the start
from_start : (s : SumState) (written : Option (List ℕ)) (owed : List ℕ) (events : List Event) (now : Option (List ℕ)) (owed_now : List ℕ) (s_now : SumState)
    → s ≡ sum_start → Heard s written owed events s_now now owed_now → Carried written owed (summary_begun events) now owed_now
from_start s written owed events now owed_now s_now is h = subst (λ (x : SumState). Carried written owed (given_by sum_next sum_gives x events) now owed_now) is h.carried

state_is : (s : SumState) (written : Option (List ℕ)) (owed : List ℕ) (events : List Event) (now : Option (List ℕ)) (owed_now : List ℕ) (s_now : SumState)
    → s ≡ sum_start → Heard s written owed events s_now now owed_now → s_now ≡ state_after sum_next sum_start events
state_is s written owed events now owed_now s_now is h = h.moved ∙ ap (λ x. state_after sum_next x events) is

-- from a fresh air on, the lines are written out
pub writes_out : {A : Type 0} (fault : AirFault) (written : A → Option (List ℕ)) (faults refusals : A → ℕ) (owed : A → List ℕ) (sums : A → SumState) (fresh : A) → owed fresh ≡ [] → sums fresh ≡ sum_start
    → WritesOut {A = A} (λ a es b. Heard (sums a) (written a) (owed a) es (sums b) (written b) (owed b))
    (λ a e b. Halted fault (written a) (faults a) (refusals a) (owed a) (sum_gives (sums a) e) (written b) (faults b) (refusals b)) written summary_begun fresh
writes_out fault written faults refusals owed sums fresh none start = record {
  heard = λ events now h.
      carried_from (written fresh) (owed fresh) [] (summary_begun events) (written now) (owed now) none
      (from_start (sums fresh) (written fresh) (owed fresh) events (written now) (owed now) (sums now) start h);
  stops = λ events event middle now h stop.
      subst (λ (t : List ℕ). WritesFront (written fresh) (written now) t)
      (ap (λ s. summary_begun events ++ sum_gives s event) (state_is (sums fresh) (written fresh) (owed fresh) events (written middle) (owed middle) (sums middle) start h) ∙ one_more events event)
      (front_from (written fresh) (owed fresh) [] (summary_begun events) (written middle) (owed middle) (sum_gives (sums middle) event) (written now) none
      (from_start (sums fresh) (written fresh) (owed fresh) events (written middle) (owed middle) (sums middle) start h) stop.front);
  begins = λ first second. record {
    rest = given_by sum_next sum_gives (state_after sum_next sum_start first) second;
    is = sym (given_by-append sum_next sum_gives sum_start first second);
  };
}

-- the lines begin the summary, where counters are last
pub summary_begins : (events : List Event) → CountsLast events → IsFront (summary_begun events) (whole_summary events)
summary_begins events l = record { rest = sum_ends (state_after sum_next sum_start events); is = sym (summary_is events l) }

-- where it heard the events, and then wrote what it owed and what is after them, it wrote the summary
pub finished : (events : List Event) (s : SumState) (written : Option (List ℕ)) (owed : List ℕ) (s_now : SumState) (middle : Option (List ℕ)) (owed_now : List ℕ) (now : Option (List ℕ))
    → CountsLast events → owed ≡ [] → s ≡ sum_start → Heard s written owed events s_now middle owed_now → now ≡ append_known middle (owed_now ++ sum_ends s_now) → now ≡ append_known written (whole_summary events)
finished events s written owed s_now middle owed_now now l none start h whole =
    all_from written owed [] (summary_begun events) middle owed_now (sum_ends s_now) now none (from_start s written owed events middle owed_now s_now start h) whole
    ∙ ap (λ x. append_known written (summary_begun events ++ sum_ends x)) (state_is s written owed events middle owed_now s_now start h)
    ∙ ap (append_known written) (summary_is events l)

-- where it then wrote a front of these, it wrote a front of the summary
pub finish_front : (events : List Event) (s : SumState) (written : Option (List ℕ)) (owed : List ℕ) (s_now : SumState) (middle : Option (List ℕ)) (owed_now : List ℕ) (now : Option (List ℕ))
    → CountsLast events → owed ≡ [] → s ≡ sum_start → Heard s written owed events s_now middle owed_now → WritesFront middle now (owed_now ++ sum_ends s_now) → WritesFront written now (whole_summary events)
finish_front events s written owed s_now middle owed_now now l none start h front =
    subst (λ (t : List ℕ). WritesFront written now t)
    (ap (λ x. summary_begun events ++ sum_ends x) (state_is s written owed events middle owed_now s_now start h) ∙ summary_is events l)
    (front_from written owed [] (summary_begun events) middle owed_now (sum_ends s_now) now none (from_start s written owed events middle owed_now s_now start h) front)

-- where it stopped in one of some events, it wrote a front of their summary
pub stopped_front : {A : Type 0} (fault : AirFault) (written : A → Option (List ℕ)) (faults refusals : A → ℕ) (owed : A → List ℕ) (sums : A → SumState) (events : List Event) (fresh now : A)
    → CountsLast events → owed fresh ≡ [] → sums fresh ≡ sum_start
    → StopsIn {A = A} (λ a es b. Heard (sums a) (written a) (owed a) es (sums b) (written b) (owed b))
    (λ a e b. Halted fault (written a) (faults a) (refusals a) (owed a) (sum_gives (sums a) e) (written b) (faults b) (refusals b)) events fresh now
    → WritesFront (written fresh) (written now) (whole_summary events)
stopped_front {A} fault written faults refusals owed sums events fresh now l none start stops =
    front_of (written fresh) (written now) (summary_begun events) (whole_summary events) (summary_begins events l)
    (stops_front {A = A} (λ a es b. Heard (sums a) (written a) (owed a) es (sums b) (written b) (owed b))
    (λ a e b. Halted fault (written a) (faults a) (refusals a) (owed a) (sum_gives (sums a) e) (written b) (faults b) (refusals b)) written summary_begun fresh now events
    (writes_out fault written faults refusals owed sums fresh none start) stops)
