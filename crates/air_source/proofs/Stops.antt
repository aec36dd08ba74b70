-- How far an air heard events, for every user of an air.
use Rattle.std.proofs.Common.{◌≡◌, List, ℕ, [], ◌∷◌, ◌++◌, ◌<◌, suc, length, map, take, drop, get_or, refl, ap, sym, append_assoc, append-nil, drop-cons, ◌∙◌}
use Rattle.std.proofs.lemmas.List.{map-append, take-append-drop}
use Rattle.air_source.specs.declared.events.Event.{Event}
use Rattle.air_source.specs.Stops.{StopsIn, GrewSome}

-- a list about its item at i
pub parted : {X : Type 0} (xs : List X) (i : ℕ) (d : X) → i < length xs → xs ≡ take i xs ++ get_or xs i d ∷ drop (suc i) xs
parted xs i d h = sym (take-append-drop i xs) ∙ ap (λ ys. take i xs ++ ys) (drop-cons xs i d h)

-- over items of which each is one event, the air stopped in that of item i
pub stops_at : {A X : Type 0} (grew : A → List Event → A → Type 0) (stopped : A → Event → A → Type 0) (event_of : X → Event) (xs : List X) (i : ℕ) (d : X) (old middle new : A)
    → i < length xs → grew old (map event_of (take i xs)) middle → stopped middle (event_of (get_or xs i d)) new → StopsIn grew stopped (map event_of xs) old new
stops_at grew stopped event_of xs i d old middle new h heard stop = record {
  before = map event_of (take i xs);
  event = event_of (get_or xs i d);
  after = map event_of (drop (suc i) xs);
  is = ap (λ ys. map event_of ys) (parted xs i d h) ∙ map-append event_of (take i xs) (get_or xs i d ∷ drop (suc i) xs);
  middle = middle;
  heard = heard;
  stop = stop;
}

-- the air stopped in a lone event
pub stops_now : {A : Type 0} (grew : A → List Event → A → Type 0) (stopped : A → Event → A → Type 0) (none : (a : A) → grew a [] a) (event : Event) (old new : A)
    → stopped old event new → StopsIn grew stopped (event ∷ []) old new
stops_now grew stopped none event old new stop = record { before = []; event = event; after = []; is = refl; middle = old; heard = none old; stop = stop }

-- the air stopped in the event after those that it heard
pub stops_next : {A : Type 0} (grew : A → List Event → A → Type 0) (stopped : A → Event → A → Type 0) (before : List Event) (event : Event) (after : List Event) (old middle new : A)
    → grew old before middle → stopped middle event new → StopsIn grew stopped (before ++ event ∷ after) old new
stops_next grew stopped before event after old middle new heard stop = record { before = before; event = event; after = after; is = refl; middle = middle; heard = heard; stop = stop }

-- an air that stopped in the first of two lists stopped in both
pub stops_early : {A : Type 0} (grew : A → List Event → A → Type 0) (stopped : A → Event → A → Type 0) (first second : List Event) (old new : A)
    → StopsIn grew stopped first old new → StopsIn grew stopped (first ++ second) old new
stops_early grew stopped first second old new s = record {
  before = s.before;
  event = s.event;
  after = s.after ++ second;
  is = ap (λ es. es ++ second) s.is ∙ append_assoc s.before (s.event ∷ s.after) second;
  middle = s.middle;
  heard = s.heard;
  stop = s.stop;
}

-- an air that heard the first of two lists and stopped in the second stopped in both
pub stops_later : {A : Type 0} (grew : A → List Event → A → Type 0) (stopped : A → Event → A → Type 0)
    (more : (a b c : A) (first second : List Event) → grew a first b → grew b second c → grew a (first ++ second) c) (first second : List Event) (old middle new : A)
    → grew old first middle → StopsIn grew stopped second middle new → StopsIn grew stopped (first ++ second) old new
stops_later grew stopped more first second old middle new heard s = record {
  before = first ++ s.before;
  event = s.event;
  after = s.after;
  is = ap (λ es. first ++ es) s.is ∙ sym (append_assoc first s.before (s.event ∷ s.after));
  middle = s.middle;
  heard = more old middle s.middle first s.before heard s.heard;
  stop = s.stop;
}

-- over items of which each is one event, the air heard those of the first i
pub some_at : {A X : Type 0} (grew : A → List Event → A → Type 0) (event_of : X → Event) (xs : List X) (i : ℕ) (old new : A)
    → grew old (map event_of (take i xs)) new → GrewSome grew (map event_of xs) old new
some_at grew event_of xs i old new heard = record {
  before = map event_of (take i xs);
  after = map event_of (drop i xs);
  is = ap (λ ys. map event_of ys) (sym (take-append-drop i xs)) ∙ map-append event_of (take i xs) (drop i xs);
  heard = heard;
}

-- none of some events, and all of them
pub some_none : {A : Type 0} (grew : A → List Event → A → Type 0) (none : (a : A) → grew a [] a) (events : List Event) (a : A) → GrewSome grew events a a
some_none grew none events a = record { before = []; after = events; is = refl; heard = none a }

pub some_all : {A : Type 0} (grew : A → List Event → A → Type 0) (events : List Event) (old new : A) → grew old events new → GrewSome grew events old new
some_all grew events old new heard = record { before = events; after = []; is = sym (append-nil events); heard = heard }

-- some of the first of two lists is some of both
pub some_early : {A : Type 0} (grew : A → List Event → A → Type 0) (first second : List Event) (old new : A) → GrewSome grew first old new → GrewSome grew (first ++ second) old new
some_early grew first second old new s = record {
  before = s.before;
  after = s.after ++ second;
  is = ap (λ es. es ++ second) s.is ∙ append_assoc s.before s.after second;
  heard = s.heard;
}

-- the first of two lists and some of the second is some of both
pub some_later : {A : Type 0} (grew : A → List Event → A → Type 0)
    (more : (a b c : A) (first second : List Event) → grew a first b → grew b second c → grew a (first ++ second) c) (first second : List Event) (old middle new : A)
    → grew old first middle → GrewSome grew second middle new → GrewSome grew (first ++ second) old new
some_later grew more first second old middle new heard s = record {
  before = first ++ s.before;
  after = s.after;
  is = ap (λ es. first ++ es) s.is ∙ sym (append_assoc first s.before s.after);
  heard = more old middle new first s.before heard s.heard;
}

-- what an air heard of some events before it stopped
pub some_of_stop : {A : Type 0} (grew : A → List Event → A → Type 0) (stopped : A → Event → A → Type 0) (events : List Event) (old new : A) (s : StopsIn grew stopped events old new)
    → GrewSome grew events old s.middle
some_of_stop grew stopped events old new s = record { before = s.before; after = s.event ∷ s.after; is = s.is; heard = s.heard }
