-- Frames that land at a unit one after the other.
use Rattle.std.proofs.Common.{◌≡◌, ℕ, ℤ, pos, ◌≤ℤ◌, List, [], ◌∷◌, ◌++◌, refl, sym, ap, ◌∙◌, subst, append_assoc}
use Rattle.air_source.specs.declared.events.Event.{Event}
use Rattle.air_source.specs.declared.events.Side.{Side}
use Rattle.delay_exchange.specs.Units.{HasDoings}
use Rattle.delay_exchange.specs.declared.unit.UnitMeter.{UnitMeter}
use Rattle.delay_measure.specs.declared.edge.Compensation.{Compensation}
use Rattle.delay_model.specs.Doings.{Doings, results_of, with_frame, with_frames}
use Rattle.unit_model.proofs.ToldLemmas.{none_told, told_next, told_one}
use Rattle.unit_model.specs.Events.{arrival_told}
use Rattle.unit_model.specs.Heard.{arrivals_heard}
use Rattle.frame_ways.specs.Landing.{arrival_at, landing_at}
use Rattle.frame_ways.specs.Landed.{bytes_of}
use Rattle.frame_ways.specs.Ways.{HasLanded, Lands, LandsNext, OnWay, landings_on}
use Rattle.frame_ways.specs.declared.landed.Landed.{Landed}
use Rattle.frame_ways.specs.declared.way.Way.{Way}
use Rattle.frame_ways.proofs.SendLemmas.{none_landed}
use Rattle.fh_base.proofs.OntoLemmas.{onto-append, onto_none}
use Rattle.fh_base.specs.Lists.{onto}
use Rattle.unit_model.specs.Meetings.{Arrival}
use Rattle.unit_model.specs.Standing.{History, arrived, at_clock}
use Rattle.unit_model.specs.declared.allocations.Allocation.{Allocation}
use Rattle.window_config.specs.declared.config.Config.{Config}
use Rattle.unit_moments.specs.Landing.{HasTaken, HaveLanded, MayLand, clock_behind, landed, told_of_frame, told_of_frames}
use Rattle.unit_moments.specs.Stops.{HaltsBehind, StopsBehind}
use Rattle.unit_moments.proofs.StopLemmas.{Follows, halts_ahead, halts_behind, halts_moved, stops_ahead, stops_behind, stops_moved}
use Rattle.unit_model.proofs.ArrivalLemmas.{arrivals-append, arrivals-own}

-- ---- what a meter has of them, and what is told

pub with_frames-append : (c : Compensation) (t : ℤ) (x : Doings) (xs ys : List Arrival) → with_frames c t x (xs ++ ys) ≡ with_frames c t (with_frames c t x xs) ys
with_frames-append c t x [] ys = refl
with_frames-append c t x (a ∷ xs) ys = with_frames-append c t (with_frame c t x a.frame) xs ys

pub told-append : (side : Side) (c : Compensation) (tick : ℤ) (x : Doings) (xs ys : List Arrival)
    → told_of_frames side c tick x (xs ++ ys) ≡ told_of_frames side c tick x xs ++ told_of_frames side c tick (with_frames c tick x xs) ys
told-append side c tick x [] ys = sym (ap (λ (es : List Event). es ++ told_of_frames side c tick x ys) (none_told side []))
told-append side c tick x (a ∷ xs) ys =
    let more = with_frame c tick x a.frame in
    let one = arrival_told side a more.results in
    let rest = told_of_frames side c tick (with_frames c tick more xs) ys in
    told_next side more.results (results_of c tick more (xs ++ ys)) a (xs ++ ys)
    ∙ ap (λ (es : List Event). one ++ es) (told-append side c tick more xs ys)
    ∙ sym (append_assoc one (told_of_frames side c tick more xs) rest)
    ∙ ap (λ (es : List Event). es ++ rest) (sym (told_next side more.results (results_of c tick more xs) a xs))

-- ---- what the unit stands for

-- a history with these arrivals at a clock
abbrev with_arrivals : ℤ → History → List Arrival → History
with_arrivals clock h xs = record { clock = clock; arrivals = xs; reported = h.reported; given = h.given }

landed_none : (tick : ℤ) (h : History) → h ≡ landed tick h []
landed_none tick h = sym (ap (with_arrivals h.clock h) (onto_none h.arrivals))

clock_then : (tick clock : ℤ) (xs : List Arrival) (a : Arrival) → tick ≡ clock_behind tick clock (xs ++ a ∷ [])
clock_then tick clock [] a = refl
clock_then tick clock (x ∷ xs) a = refl

landed_next : (tick : ℤ) (h : History) (xs : List Arrival) (frame : List ℕ) → arrived (at_clock (landed tick h xs) tick) frame ≡ landed tick h (xs ++ arrival_at tick frame ∷ [])
unfolding onto
landed_next tick h xs frame =
    let all = onto h.arrivals (xs ++ arrival_at tick frame ∷ []) in
    ap (with_arrivals tick h) (sym (onto-append h.arrivals xs (arrival_at tick frame ∷ [])))
    ∙ ap (λ (t : ℤ). with_arrivals t h all) (clock_then tick h.clock xs (arrival_at tick frame))

-- ---- the frames so far

-- some of those that are received at a unit at a tick were told, each with its delays, the unit took them, its meter was told them, and
-- the rest is on its way
pub record AreTold {A : Type 0} (grew : Config → List Event → A → List Event → A → Type 0) (side : Side) (v : OnWay) (tick : ℤ) (c : Compensation)
    (x : Doings) (takes_old takes_now : Config → List Allocation → History → Type 0) (m : UnitMeter) (now : Way) (before after : A) : Type 0 where
  pub gone : List Arrival
  pub lands : Lands v tick gone now
  pub heard : (k : Config) (planned : List Allocation) (h : History) (earlier : List Event) → takes_old k planned h → h.arrivals ≡ arrivals_heard side [] earlier
      → grew k earlier before (told_of_frames side c tick x gone) after
  pub made : HasDoings c (with_frames c tick x gone) m
  pub takes : (k : Config) (planned : List Allocation) (h : History) → takes_old k planned h → takes_now k planned (landed tick h gone)

module _ {A : Type 0} (grew : Config → List Event → A → List Event → A → Type 0) (side : Side) (v : OnWay) (tick : ℤ) (c : Compensation) (x : Doings) where
  pub none_are_told : (takes_old : Config → List Allocation → History → Type 0) (m : UnitMeter) (w : Way) (a : A) → MayLand v tick c x w m
      → ((k : Config) (earlier : List Event) → grew k earlier a [] a) → AreTold grew side v tick c x takes_old takes_old m w a a
  none_are_told takes_old m w a may none = record {
    gone = [];
    lands = none_landed v tick w may.waits;
    heard = λ k planned h earlier takes came. subst (λ (es : List Event). grew k earlier a es a) (sym (none_told side [])) (none k earlier);
    made = may.doings;
    takes = λ k planned h stands. subst (takes_old k planned) (landed_none tick h) stands;
  }

  module _ (f : Landed) (takes_old takes_now : Config → List Allocation → History → Type 0) (m : UnitMeter)
      (before now : Way) (a b : A) (so_far : AreTold grew side v tick c x takes_old takes_now m before a b) (next : LandsNext v tick so_far.gone f now) where
    abbrev all : List Arrival
    all = landing_at (landings_on v) tick

    abbrev one : Arrival
    one = arrival_at tick (bytes_of f)

    abbrev pub first : List Event
    first = told_of_frames side c tick x so_far.gone

    abbrev has : Doings
    has = with_frames c tick x so_far.gone

    abbrev has_then : Doings
    has_then = with_frame c tick has (bytes_of f)

    abbrev here : List Event
    here = told_of_frame side c tick has (bytes_of f)

    abbrev later : List Event
    later = told_of_frames side c tick has_then next.comes

    -- there is one
    pub some_comes : ((y : Arrival) (ys : List Arrival) → all ≡ y ∷ ys → pos 0 ≤ℤ tick) → pos 0 ≤ℤ tick
    some_comes late = go so_far.gone next.there
      where
        go : (gone : List Arrival) → all ≡ gone ++ one ∷ next.comes → pos 0 ≤ℤ tick
        go [] is = late one next.comes is
        go (y ∷ ys) is = late y (ys ++ one ∷ next.comes) is

    -- the unit has what was told of them
    pub came_so_far : (h : History) (earlier : List Event) → h.arrivals ≡ arrivals_heard side [] earlier → (landed tick h so_far.gone).arrivals ≡ arrivals_heard side [] (earlier ++ first)
    came_so_far h earlier came =
        sym (arrivals-own side h.arrivals (results_of c tick x so_far.gone) so_far.gone)
        ∙ ap (λ (xs : List Arrival). arrivals_heard side xs first) came
        ∙ sym (arrivals-append side [] earlier first)

    -- one more was told
    pub one_more_told : ((k : Config) (earlier : List Event) (a b d : A) (first second : List Event) → grew k earlier a first b → grew k (earlier ++ first) b second d → grew k earlier a (first ++ second) d)
        → (takes_new : Config → List Allocation → History → Type 0) (n : UnitMeter) (e : A)
        → ((k : Config) (planned : List Allocation) (h : History) (earlier : List Event) → takes_now k planned h → h.arrivals ≡ arrivals_heard side [] earlier → grew k earlier b here e)
        → HasDoings c has_then n
        → ((k : Config) (planned : List Allocation) (h : History) → takes_now k planned h → takes_new k planned (arrived (at_clock h tick) (bytes_of f)))
        → AreTold grew side v tick c x takes_old takes_new n now a e
    one_more_told more takes_new n e heard made takes =
        let told = told-append side c tick x so_far.gone (one ∷ []) ∙ ap (λ (es : List Event). first ++ es) (told_one side has_then.results [] one) in
        record {
          gone = so_far.gone ++ one ∷ [];
          lands = next.lands;
          heard = λ k planned h earlier stands came.
              subst (λ (es : List Event). grew k earlier a es e) (sym told)
              (more k earlier a b e first here (so_far.heard k planned h earlier stands came)
              (heard k planned (landed tick h so_far.gone) (earlier ++ first) (so_far.takes k planned h stands) (came_so_far h earlier came)));
          made = subst (λ (z : Doings). HasDoings c z n) (sym (with_frames-append c tick x so_far.gone (one ∷ []))) made;
          takes = λ k planned h stands. subst (takes_new k planned) (landed_next tick h so_far.gone (bytes_of f)) (takes k planned (landed tick h so_far.gone) (so_far.takes k planned h stands));
        }

    all_told : first ++ (here ++ later) ≡ told_of_frames side c tick x all
    all_told =
        sym (ap (told_of_frames side c tick x) next.there ∙ told-append side c tick x so_far.gone (one ∷ next.comes)
        ∙ ap (λ (es : List Event). first ++ es) (told_next side has_then.results (results_of c tick has_then next.comes) one next.comes))

    -- what was taken of this frame was taken after those before it
    taken_behind : (stands : History → Type 0) (h : History) (told : List Event) → HasTaken stands side (landed tick h so_far.gone) told → HasTaken stands side h (first ++ told)
    taken_behind stands h told t = record {
      history = t.history;
      stands_is = t.stands_is;
      arrivals = t.arrivals
          ∙ ap (λ (earlier : List Arrival). arrivals_heard side earlier told) (sym (arrivals-own side h.arrivals (results_of c tick x so_far.gone) so_far.gone))
          ∙ sym (arrivals-append side h.arrivals first told);
      reported = t.reported;
      given = t.given;
    }

    -- the air stopped in it, or in a delay of it
    module _ (k : Config) (earlier : List Event) (stopped : A → Event → A → Type 0) (stands : History → Type 0) (h : History) (e : A)
        (follows : Follows (grew k earlier) (grew k (earlier ++ first)) a first b) where
      pub stops_here : StopsBehind (grew k (earlier ++ first)) stopped (HasTaken stands side (landed tick h so_far.gone)) [] here b e
          → StopsBehind (grew k earlier) stopped (HasTaken stands side h) [] (told_of_frames side c tick x all) a e
      stops_here s =
          subst (λ (es : List Event). StopsBehind (grew k earlier) stopped (HasTaken stands side h) [] es a e) all_told
          (stops_behind (grew k earlier) stopped (grew k (earlier ++ first)) (HasTaken stands side h) [] first (here ++ later) a b e follows
          (stops_ahead (grew k (earlier ++ first)) stopped (HasTaken stands side h) first here later b e
          (stops_moved (grew k (earlier ++ first)) stopped (HasTaken stands side (landed tick h so_far.gone)) (HasTaken stands side h) [] first here b e (λ told rest is t. taken_behind stands h told t) s)))

      pub halts_here : HaltsBehind (grew k (earlier ++ first)) stopped (HasTaken stands side (landed tick h so_far.gone)) [] here b e
          → HaltsBehind (grew k earlier) stopped (HasTaken stands side h) [] (told_of_frames side c tick x all) a e
      halts_here s =
          subst (λ (es : List Event). HaltsBehind (grew k earlier) stopped (HasTaken stands side h) [] es a e) all_told
          (halts_behind (grew k earlier) stopped (grew k (earlier ++ first)) (HasTaken stands side h) [] first (here ++ later) a b e follows
          (halts_ahead (grew k (earlier ++ first)) stopped (HasTaken stands side h) first here later b e
          (halts_moved (grew k (earlier ++ first)) stopped (HasTaken stands side (landed tick h so_far.gone)) (HasTaken stands side h) [] first here b e (λ told rest is t. taken_behind stands h told t) s)))

  -- none is left
  module _ (takes_old takes_now : Config → List Allocation → History → Type 0) (m : UnitMeter) (before now : Way) (a b : A) (so_far : AreTold grew side v tick c x takes_old takes_now m before a b) (over : HasLanded v tick so_far.gone now) where
    pub all_heard : (k : Config) (planned : List Allocation) (h : History) (earlier : List Event) → takes_old k planned h → h.arrivals ≡ arrivals_heard side [] earlier
        → grew k earlier a (told_of_frames side c tick x (landing_at (landings_on v) tick)) b
    all_heard k planned h earlier stands came =
        subst (λ (xs : List Arrival). grew k earlier a (told_of_frames side c tick x xs) b) (sym over.all) (so_far.heard k planned h earlier stands came)

    pub all_landed : HaveLanded v tick c x m now
    all_landed = record {
      made = subst (λ (xs : List Arrival). HasDoings c (with_frames c tick x xs) m) (sym over.all) so_far.made;
      waits = over.stands;
    }

    pub all_taken : (k : Config) (planned : List Allocation) (h : History) → takes_old k planned h → takes_now k planned (landed tick h (landing_at (landings_on v) tick))
    all_taken k planned h stands = subst (λ (xs : List Arrival). takes_now k planned (landed tick h xs)) (sym over.all) (so_far.takes k planned h stands)
