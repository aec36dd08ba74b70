-- What lands at a unit at a tick is what lands for the document, at either unit.
use Rattle.std.proofs.Common.{◌≡◌, ℤ, pos, ◌+ℤ◌, ◌≤ℤ◌, ◌^◌, List, ◌∷◌, All, refl, sym, ap, ◌∙◌, subst}
use Rattle.air_source.specs.declared.events.Event.{Event}
use Rattle.air_source.specs.declared.events.Side.{Side}
use Rattle.air_source.specs.declared.events.Side.TheVariants.{Ru, Du}
use Rattle.frame_ways.specs.Landing.{landing_at}
use Rattle.frame_ways.specs.Leaving.{Leaving}
use Rattle.frame_ways.specs.Ways.{landings_on}
use Rattle.frame_ways.specs.declared.way.Way.{Way}
use Rattle.document_traffic.specs.Doings.{with_frames}
use Rattle.document_traffic.specs.Replayed.{landings_for, made_at, results_at, traffic_of}
use Rattle.document_traffic.specs.Settings.{compensation_of}
use Rattle.document_traffic.specs.Laws.{IsReplayable}
use Rattle.fh_document.specs.declared.document.Document.{Document}
use Rattle.replay_laws.specs.Events.{arrivals_at}
use Rattle.unit_model.specs.Events.{arrivals_told}
use Rattle.replay_laws.specs.Traffic.{landings_at}
use Rattle.unit_model.specs.Meetings.{Arrival}
use Rattle.unit_model.specs.Standing.{History}
use Rattle.unit_moments.specs.Landing.{HaveLanded, MayLand, landed, told_of_frames}
use Rattle.delay_exchange.specs.Units.{HasDoings}
use Rattle.delay_exchange.specs.declared.unit.UnitMeter.{UnitMeter}
use Rattle.fronthaul_replay.specs.Waiting.{LandsAfter, Waits, begun_at, on_way}
use Rattle.fronthaul_replay.proofs.WayLemmas.{lands_at}

landings_are : (side : Side) (d : Document) → landings_at side (traffic_of d) ≡ landings_for side d
landings_are Ru d = refl
landings_are Du d = refl

pub told_is : (side : Side) (d : Document) (tick : ℤ) (xs : List Arrival) → xs ≡ landing_at (landings_for side d) tick
    → told_of_frames side (compensation_of d side) tick (begun_at d side tick) xs ≡ arrivals_at side (traffic_of d) tick
told_is side d tick xs same =
    ap (told_of_frames side (compensation_of d side) tick (begun_at d side tick)) same
    ∙ ap (λ (ys : List Arrival). arrivals_told side (results_at d side tick) (landing_at ys tick)) (sym (landings_are side d))

module _ (d : Document) (side : Side) (tick : ℤ) (left : List Leaving) (doc : IsReplayable d) (later : All (LandsAfter tick) left) (w : Way) (h : Waits d side tick left w) where
  abbrev pub here : List Arrival
  here = landing_at (landings_on (on_way d side h.sent)) tick

  pub same : here ≡ landing_at (landings_for side d) tick
  same = lands_at d side tick h.sent left doc.document h.all later

  -- all that lands at the tick may land
  pub may_land : (m : UnitMeter) → HasDoings (compensation_of d side) (begun_at d side tick) m
      → ((a : Arrival) (more : List Arrival) → landing_at (landings_for side d) tick ≡ a ∷ more → pos 0 ≤ℤ tick) → tick ≤ℤ pos (2 ^ 56)
      → MayLand (on_way d side h.sent) tick (compensation_of d side) (begun_at d side tick) w m
  may_land m has late ended = record { waits = h.stands; doings = has; late = λ a more is. late a more (sym same ∙ is); ended = ended }

  -- the unit stands for what the document says
  pub unit_stands : (P : History → Type 0) (y : History) → P (landed tick y here) → P (landed tick y (landing_at (landings_for side d) tick))
  unit_stands P y stands = subst (λ (xs : List Arrival). P (landed tick y xs)) same stands

  -- and once it has landed, what was told of it are the document's events, the meter has what the document says, and the way waits from the next tick on
  pub events_heard : {A : Type 0} (grew : A → List Event → A → Type 0) (a b : A) → grew a (told_of_frames side (compensation_of d side) tick (begun_at d side tick) here) b
      → grew a (arrivals_at side (traffic_of d) tick) b
  events_heard grew a b heard = subst (λ (es : List Event). grew a es b) (told_is side d tick here same) heard

  module _ (m : UnitMeter) (x : Way) (k : HaveLanded (on_way d side h.sent) tick (compensation_of d side) (begun_at d side tick) m x) where
    pub meter_has : HasDoings (compensation_of d side) (made_at d side tick) m
    meter_has = subst (λ (xs : List Arrival). HasDoings (compensation_of d side) (with_frames (compensation_of d side) tick (begun_at d side tick) xs) m) same k.made

    pub waits_on : Waits d side (tick +ℤ pos 1) left x
    waits_on = record { sent = h.sent; all = h.all; stands = k.waits }
