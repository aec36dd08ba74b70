-- What is told of each event: sound stories of arrivals, and cells at their endpoints.
use Rattle.std.proofs.Common.{◌≡◌, ℕ, suc, ℤ, ◌+◌, Bool, true, false, List, [], ◌∷◌, ◌++◌, refl, sym, ap, ◌∙◌, subst, arith, append_assoc}
use Rattle.std.specs.Prelude.{All, if◌then◌else◌}
use Rattle.std.specs.List.{AllByRecursion}
use Rattle.std.proofs.lemmas.List.Elements.{All-tail, recursion_from_All}
use Rattle.air_source.specs.declared.events.Event.{Event}
use Rattle.air_source.specs.declared.events.Event.TheVariants as event
use Rattle.air_source.specs.declared.events.Side.{Side}
use Rattle.air_source.specs.declared.events.Side.TheVariants.{Du, Ru}
use Rattle.fh_base.specs.declared.values.Ticks.{Ticks}
use Rattle.window_config.specs.declared.config.Config.{Config}
use Rattle.window_config.specs.declared.endpoints.EndpointConfig.{EndpointConfig}
use Rattle.unit_model.specs.Meetings.{Arrival}
use Rattle.unit_model.specs.Proper.{IsTime}
use Rattle.unit_model.specs.Standing.{AreInTime}
use Rattle.unit_model.specs.Judgements.{judgements}
use Rattle.unit_model.specs.Heard.{arrivals_heard, is_of}
use Rattle.unit_laws.specs.Sound.{IsSoundJudgement}
use Rattle.unit_laws.proofs.SoundLemmas.{are_sound}
use Rattle.unit_laws.proofs.WidthLemmas.{have_widths}
use Rattle.explain_model.specs.Stories.{Came, Cell, Count, Delay, Told, arrival_count, arrival_with, stories_in, story, told, told_after, told_of}
use Rattle.drawn_laws.specs.Events.{AreDrawnEvents, IsPlacedCell, IsPlacedEvent}
use Rattle.drawn_laws.proofs.Judged.{IsFineStory}
use Rattle.unit_model.proofs.ArrivalLemmas.{arrivals-append}
use Rattle.explain_model.proofs.Steps.{count_both}

abbrev pub IsFineTold : List EndpointConfig → Told → Type 0
IsFineTold es (Came s) = IsFineStory es s
IsFineTold es (Cell a) = IsPlacedCell es a
IsFineTold es (Delay at side id value) = Unit {0}
IsFineTold es (Count side counter value) = Unit {0}

-- ---- what arrived before

count_one : (side : Side) (at : Ticks) (frame : List ℕ) (rest : List Event) → arrival_count (event.Arrival side at frame ∷ rest) ≡ suc (arrival_count rest)
unfolding arrival_count
count_one side at frame rest = refl

one_before : (b : Bool) (a : Arrival) (earlier : List Arrival) → ((clock : ℤ) × AreInTime clock (if b then a ∷ earlier else earlier)) → (clock : ℤ) × AreInTime clock earlier
one_before true a earlier h = (a.at, h.1.1)
one_before false a earlier h = h

in_time : (side : Side) (clock : ℤ) (earlier : List Arrival) (es : List Event) → AreInTime clock (arrivals_heard side earlier es) → (clock : ℤ) × AreInTime clock earlier
unfolding arrivals_heard
in_time side clock earlier [] h = (clock, h)
in_time side clock earlier (event.Arrival at_side at frame ∷ rest) h = one_before (is_of side at_side) (record { at = at.0; frame = frame }) earlier (in_time side clock _ rest h)
in_time side clock earlier (event.Cell a ∷ rest) h = in_time side clock earlier rest h
in_time side clock earlier (event.Delay at at_side id value ∷ rest) h = in_time side clock earlier rest h
in_time side clock earlier (event.Count at_side counter value ∷ rest) h = in_time side clock earlier rest h

module _ (P : Arrival → Type 0) where
  each_before : (b : Bool) (a : Arrival) (earlier : List Arrival) → All P (let xs : List Arrival = if b then a ∷ earlier else earlier in xs) → All P earlier
  each_before true a earlier h = All-tail P a earlier h
  each_before false a earlier h = h

  all_before : (side : Side) (earlier : List Arrival) (es : List Event) → All P (arrivals_heard side earlier es) → All P earlier
  unfolding arrivals_heard
  all_before side earlier [] h = h
  all_before side earlier (event.Arrival at_side at frame ∷ rest) h = each_before (is_of side at_side) (record { at = at.0; frame = frame }) earlier (all_before side _ rest h)
  all_before side earlier (event.Cell a ∷ rest) h = all_before side earlier rest h
  all_before side earlier (event.Delay at at_side id value ∷ rest) h = all_before side earlier rest h
  all_before side earlier (event.Count at_side counter value ∷ rest) h = all_before side earlier rest h

own_arrival : (side : Side) (earlier : List Arrival) (at : Ticks) (frame : List ℕ) (rest : List Event)
    → arrivals_heard side earlier (event.Arrival side at frame ∷ rest) ≡ arrivals_heard side (arrival_with at.0 frame ∷ earlier) rest
unfolding arrivals_heard
own_arrival Ru earlier at frame rest = refl
own_arrival Du earlier at frame rest = refl

-- ---- each event

module _ (c : Config) (all : List Event) (drawn : AreDrawnEvents c all) where
  arrival_fine : (earlier rest : List Event) (side : Side) (at : Ticks) (frame : List ℕ) → all ≡ earlier ++ event.Arrival side at frame ∷ rest
      → IsFineStory c.endpoints (story c (suc (arrival_count earlier)) side (arrivals_heard side [] earlier) (arrival_with at.0 frame))
  arrival_fine earlier rest side at frame is =
      let before = arrivals_heard side [] earlier in
      let a = arrival_with at.0 frame in
      let same : arrivals_heard side [] all ≡ arrivals_heard side (a ∷ before) rest =
      ap (arrivals_heard side []) is ∙ arrivals-append side [] earlier (event.Arrival side at frame ∷ rest) ∙ own_arrival side before at frame rest in
      let order = in_time side drawn.clock (a ∷ before) rest (subst (λ (xs : List Arrival). AreInTime drawn.clock xs) same (drawn.order side)) in
      let times = all_before (λ (x : Arrival). IsTime x.at) side (a ∷ before) rest (subst (λ (xs : List Arrival). All (λ (x : Arrival). IsTime x.at) xs) same (drawn.times side)) in
      let counted = ap arrival_count is ∙ count_both earlier (event.Arrival side at frame ∷ rest) in
      let one = count_one side at frame rest in
      let few = drawn.few in
      record {
        number = omega (arith, counted, one, few);
        sound = recursion_from_All (IsSoundJudgement c.endpoints) (judgements side c before a) (are_sound side c order.0 before a order.1 times);
        widths = have_widths side c before a;
      }

  event_fine : (earlier rest : List Event) (e : Event) → all ≡ earlier ++ e ∷ rest → IsPlacedEvent c.endpoints e → IsFineTold c.endpoints (told_of c earlier e)
  event_fine earlier rest (event.Arrival side at frame) is h = arrival_fine earlier rest side at frame is
  event_fine earlier rest (event.Cell a) is h = h
  event_fine earlier rest (event.Delay at side id value) is h = tt
  event_fine earlier rest (event.Count side counter value) is h = tt

  events_fine : (earlier rest : List Event) → all ≡ earlier ++ rest → AllByRecursion (IsPlacedEvent c.endpoints) rest → AllByRecursion (IsFineTold c.endpoints) (told_after c earlier rest)
  unfolding told_after
  events_fine earlier [] is h = tt
  events_fine earlier (e ∷ rest) is h =
      (event_fine earlier rest e is h.0, events_fine (earlier ++ e ∷ []) rest (is ∙ sym (append_assoc earlier (e ∷ []) rest)) h.1)

  pub told_fine : AllByRecursion (IsFineTold c.endpoints) (told c all)
  told_fine = events_fine [] all refl drawn.cells

pub stories_fine : (es : List EndpointConfig) (ts : List Told) → AllByRecursion (IsFineTold es) ts → AllByRecursion (IsFineStory es) (stories_in ts)
unfolding stories_in
stories_fine es [] h = tt
stories_fine es (Came s ∷ ts) h = (h.0, stories_fine es ts h.1)
stories_fine es (Cell a ∷ ts) h = stories_fine es ts h.1
stories_fine es (Delay at side id value ∷ ts) h = stories_fine es ts h.1
stories_fine es (Count side counter value ∷ ts) h = stories_fine es ts h.1
