-- A way after a call.
use Rattle.std.proofs.Common.{◌≡◌, ℕ, ℤ, pos, ◌+◌, ◌<◌, ◌^◌, ◌+ℤ◌, ◌*ℤ◌, ◌≤ℤ◌, ◌<ℤ◌, ◌≢◌, List, [], ◌∷◌, ◌++◌, length, All, Some, sym, ap, ap₂, ◌∙◌, subst, append_assoc, append-nil}
use Rattle.std.specs.Prelude.{map, slice_get}
use Rattle.std.proofs.lemmas.List.Elements.{All-head, All-nil, All-tail}
use Rattle.std.specs.Borrow.{Bor}
use Rattle.std.specs.Int.Signed.{≤ℤ_refl}
use Rattle.air_source.specs.declared.events.Side.{Side}
use Rattle.frame_ways.specs.Copies.{DeliveriesTo, deliveries_to}
use Rattle.frame_ways.specs.Landing.{arrival_at, copies_among, copies_in, injected_to, landing_at}
use Rattle.frame_ways.specs.Leaving.{Delayed, Leaving, SentCounts, counted, delayed, none_sent}
use Rattle.fh_document.specs.Proper.{IsDocument}
use Rattle.fh_document.specs.declared.document.Document.{Document}
use Rattle.fh_document.specs.declared.document.Injection.{Injection}
use Rattle.fh_base.specs.declared.values.Ticks.{Ticks}
use Rattle.frame_ways.specs.Network.{IsInOrder}
use Rattle.frame_ways.specs.Queues.{AreRising, IsPlaced, at_time, enumerated, first_time, landing_of}
use Rattle.frame_ways.specs.declared.arrivals.Arrival.{Arrival as Flying}
use Rattle.unit_model.specs.Meetings.{Arrival}
use Rattle.frame_ways.specs.declared.copies.Departure.{Departure}
use Rattle.frame_ways.specs.declared.landed.Landed.{Landed}
use Rattle.frame_ways.specs.declared.landed.Landed.TheVariants.{Sent, Listed}
use Rattle.frame_ways.specs.declared.way.Way.{Way}
use Rattle.frame_ways.specs.Counts.{IsTally}
use Rattle.frame_ways.specs.Flying.{AreFlyingFrom, IsSentBefore, flying_at, flying_copies, put_all}
use Rattle.frame_ways.specs.Landed.{bytes_of}
use Rattle.frame_ways.specs.Listed.{AreFrom, frame_at, injected_frame, injections_in, injections_to, landings_left, time_of}
use Rattle.frame_ways.specs.Ways.{HasLanded, Keeps, Lands, LandsFrom, LandsNext, OnWay, StandsFor, coming_at, copies_on, counts_on, having_sent, landings_on, nothing_sent, side_of}
use Rattle.frame_ways.proofs.ComingLemmas.{all_come}
use Rattle.frame_ways.proofs.FlightLemmas.{are_put, copies_from, landing-append, put_later}
use Rattle.frame_ways.proofs.LandLemmas.{flying_here, flying_later, flying_none, later_from, left_first, left_later, left_none, refused_from, taken_all}
use Rattle.frame_ways.proofs.ListLemmas.{left_listed, lent_at, listed_from, short_at, times_to}
use Rattle.frame_ways.proofs.MoreLemmas.{copies_more, counted_one, none_behind}
use Rattle.fh_base.proofs.Orders.{at_most, next_is_later, same_tick}
use Rattle.fh_base.specs.declared.nanoseconds.TheConstants.{NANOSECOND}

-- all but what is on its way, and how many were sent, is as it was
pub record IsSameBut (w x : Way) : Type 0 where
  pub deliveries : x.deliveries ≡ w.deliveries
  pub injections : x.injections ≡ w.injections

-- ---- nothing was sent

pub starts : (d : Document) (side : Side) (times : List Ticks) (w : Way) → IsDocument d → w.deliveries ≡ deliveries_to d side → injections_in w.injections.items ≡ injections_to side d
    → times ≡ map time_of (injections_in w.injections.items) → ((t : ℤ) → at_time t w.listed ≡ at_time t (enumerated times)) → All (IsPlaced times) w.listed → w.in_flight ≡ []
    → IsTally none_sent w.tally → (now : ℤ) → now ≤ℤ pos 0 → StandsFor (nothing_sent d side) now w
starts d side times w doc deliveries injections are same placed empty tally now early = record {
  read = doc;
  document = ap (λ (x : DeliveriesTo). x.document) deliveries;
  unit = ap (λ (x : DeliveriesTo). x.side) deliveries;
  injections = injections;
  tally = tally;
  flies = λ t low. ap (flying_at t) empty ∙ sym (ap (λ (xs : List Delayed). landing_at (copies_among xs) t) (none_behind d side none_sent));
  waits = λ t low. left_listed d side times w.injections.items w.listed are injections same t;
  list = listed_from now times w.injections.items w.listed early are (times_to d side w.injections.items doc injections) placed;
  flying = subst (AreFlyingFrom now) (sym empty) (All-nil _);
  order = subst IsInOrder (sym empty) tt;
  sent = subst (All (IsSentBefore side w.place 0)) (sym empty) (All-nil _);
}

-- ---- a frame is sent

-- what left, as it was put in flight
pub record HasLeft (d : Document) (side : Side) (m : SentCounts) (f : Leaving) (w x : Way) : Type 0 where
  pub departure : Departure
  pub delays : List ℤ
  pub unit : departure.side ≡ side_of w
  pub at : departure.at.0 ≡ f.at
  pub place : departure.place ≡ w.place
  pub short : length f.frame < 2 ^ 32
  pub times : delays ≡ (delayed d side m f).delays
  pub put : x.in_flight ≡ put_all (flying_copies departure f.frame 0 delays) w.in_flight
  pub same : IsSameBut w x
  pub listed : x.listed ≡ w.listed
  pub tally : IsTally m x.tally
  pub next : x.place ≡ w.place + 1

copies_same : (d : Document) (side : Side) (m : SentCounts) (f : Leaving) (w x : Way) (g : HasLeft d side m f w x) → copies_from g.departure f.frame g.delays ≡ copies_in (delayed d side m f)
copies_same d side m f w x g =
    ap (λ (at : ℤ). map (λ (ns : ℤ). arrival_at (at +ℤ (ns *ℤ pos NANOSECOND)) f.frame) g.delays) g.at
    ∙ ap (λ (ns : List ℤ). map (λ (n : ℤ). arrival_at (f.at +ℤ (n *ℤ pos NANOSECOND)) f.frame) ns) g.times

pub goes_out : (v : OnWay) (now : ℤ) (f : Leaving) (w x : Way) → LandsFrom now f.at f.class → StandsFor v now w
    → HasLeft v.document v.side (counted f.class (counts_on v)) f w x → StandsFor (having_sent v f) now x
goes_out v now f w x lands h g =
    let d = v.document in
    let m = counted f.class (counts_on v) in
    let y = g.departure in
    let come = all_come d v.side now (counts_on v) f h.read lands in
    let unit : v.side ≡ y.side = sym (g.unit ∙ h.unit) in
    let sent : All (IsSentBefore y.side y.place 0) w.in_flight
    = subst (λ (s : Side). All (IsSentBefore s y.place 0) w.in_flight) unit (subst (λ (p : ℕ). All (IsSentBefore v.side p 0) w.in_flight) (sym g.place) h.sent) in
    let after = put_all (flying_copies y f.frame 0 g.delays) w.in_flight in
    let puts = are_put y f.frame 0 g.delays w.in_flight g.short h.order sent in
    let same = copies_same d v.side m f w x g in
    let later : All (λ (a : Arrival). now ≤ℤ a.at) (copies_from y f.frame g.delays) = subst (All (λ (a : Arrival). now ≤ℤ a.at)) (sym same) come in
    let place : x.place ≡ y.place + 1 = g.next ∙ ap (λ (p : ℕ). p + 1) (sym g.place) in
    record {
      read = h.read;
      document = ap (λ (x : DeliveriesTo). x.document) g.same.deliveries ∙ h.document;
      unit = ap (λ (x : DeliveriesTo). x.side) g.same.deliveries ∙ h.unit;
      injections = ap (λ v. injections_in v.items) g.same.injections ∙ h.injections;
      tally = subst (λ (n : SentCounts). IsTally n x.tally) (sym (counted_one v f)) g.tally;
      flies = λ t low.
          ap (flying_at t) g.put
          ∙ puts.flying t
          ∙ ap₂ (λ (xs ys : List Arrival). xs ++ landing_at ys t) (h.flies t low) same
          ∙ sym (copies_more v f t);
      waits = λ t low. ap (landings_left d v.side t) g.listed ∙ h.waits t low;
      list = subst (AreFrom now) (sym g.listed) h.list;
      flying = subst (AreFlyingFrom now) (sym g.put) (put_later now y f.frame 0 g.delays w.in_flight later h.flying);
      order = subst IsInOrder (sym g.put) puts.order;
      sent = subst (λ (fs : List Flying). All (IsSentBefore v.side x.place 0) fs) (sym g.put)
          (subst (λ (s : Side). All (IsSentBefore s x.place 0) after) (sym unit) (subst (λ (p : ℕ). All (IsSentBefore y.side p 0) after) (sym place) puts.sent));
    }

-- ---- a tick begins

-- what lands at a tick
landing_is : (v : OnWay) (t : ℤ) → landing_at (landings_on v) t ≡ landing_at (copies_on v) t ++ landing_at (injected_to v.side v.document) t
landing_is v t = landing-append (copies_on v) (injected_to v.side v.document) t

-- is on its way
pub comes_at : (v : OnWay) (now from t : ℤ) (w : Way) → Keeps v now from w → from ≤ℤ t → landing_at (landings_on v) t ≡ coming_at v t w
comes_at v now from t w h low = landing_is v t ∙ sym (ap₂ (λ (xs ys : List Arrival). xs ++ ys) (h.flies t low) (h.waits t low))

keeps_from : (v : OnWay) (now from later : ℤ) (w : Way) → from ≤ℤ later → Keeps v now from w → Keeps v now later w
keeps_from v now from later w order h = record {
  read = h.read;
  document = h.document;
  unit = h.unit;
  injections = h.injections;
  tally = h.tally;
  flies = λ t low. h.flies t (at_most from later t order low);
  waits = λ t low. h.waits t (at_most from later t order low);
  list = h.list;
  flying = h.flying;
  order = h.order;
  sent = h.sent;
}

-- so none of it has landed
pub none_landed : (v : OnWay) (tick : ℤ) (w : Way) → StandsFor v tick w → Lands v tick [] w
none_landed v tick w h = record {
  keeps = keeps_from v tick tick (tick +ℤ pos 1) w (next_is_later tick) h;
  parts = comes_at v tick tick tick w h (≤ℤ_refl tick);
}

-- ---- the next frame of a tick lands

lands_next : (v : OnWay) (tick : ℤ) (gone : List Arrival) (f : Landed) (w x : Way) → Lands v tick gone w → coming_at v tick w ≡ arrival_at tick (bytes_of f) ∷ coming_at v tick x
    → length (bytes_of f) < 2 ^ 32 → Keeps v tick (tick +ℤ pos 1) x → LandsNext v tick gone f x
lands_next v tick gone f w x h first short keeps =
    let a = arrival_at tick (bytes_of f) in
    let all = h.parts ∙ ap (λ (xs : List Arrival). gone ++ xs) first in
    record {
      short = short;
      comes = coming_at v tick x;
      there = all;
      lands = record { keeps = keeps; parts = all ∙ sym (append_assoc gone (a ∷ []) (coming_at v tick x)) };
    }

-- one that was sent
pub sent_lands : (v : OnWay) (tick : Ticks) (gone : List Arrival) (a : Flying) (w x : Way) → IsSameBut w x → x.tally ≡ w.tally → x.place ≡ w.place → x.listed ≡ w.listed
    → w.in_flight ≡ a ∷ x.in_flight → a.at.0 ≤ℤ tick.0 → Lands v tick.0 gone w → LandsNext v tick.0 gone (Sent a.frame) x
sent_lands v tick gone a w x same tally place listed is due l =
    let h = l.keeps in
    let d = v.document in
    let flying : AreFlyingFrom tick.0 (a ∷ x.in_flight) = subst (AreFlyingFrom tick.0) is h.flying in
    let sent : All (IsSentBefore v.side w.place 0) (a ∷ x.in_flight) = subst (All (IsSentBefore v.side w.place 0)) is h.sent in
    let at : a.at.0 ≡ tick.0 = same_tick a.at.0 tick.0 (All-head (λ (y : Flying). tick.0 ≤ℤ y.at.0) a x.in_flight flying) due in
    lands_next v tick.0 gone (Sent a.frame) w x l
    (ap₂ (λ (xs ys : List Arrival). xs ++ ys) (ap (flying_at tick.0) is ∙ flying_here tick.0 a x.in_flight at) (ap (landings_left d v.side tick.0) (sym listed)))
    (All-head (IsSentBefore v.side w.place 0) a x.in_flight sent).short
    (record {
      read = h.read;
      document = ap (λ (x : DeliveriesTo). x.document) same.deliveries ∙ h.document;
      unit = ap (λ (x : DeliveriesTo). x.side) same.deliveries ∙ h.unit;
      injections = ap (λ v. injections_in v.items) same.injections ∙ h.injections;
      tally = subst (IsTally (counts_on v)) (sym tally) h.tally;
      flies = λ t low. sym (ap (flying_at t) is ∙ flying_later tick.0 t a x.in_flight at low) ∙ h.flies t low;
      waits = λ t low. ap (landings_left d v.side t) listed ∙ h.waits t low;
      list = subst (AreFrom tick.0) (sym listed) h.list;
      flying = All-tail (λ (y : Flying). tick.0 ≤ℤ y.at.0) a x.in_flight flying;
      order = (subst IsInOrder is h.order).1;
      sent = subst (λ (p : ℕ). All (IsSentBefore v.side p 0) x.in_flight) (sym place) (All-tail (IsSentBefore v.side w.place 0) a x.in_flight sent);
    })

-- none in flight is of the tick, and one of the document lands
pub listed_lands : (v : OnWay) (tick : Ticks) (gone : List Arrival) (index : ℕ) (r : Bor Injection) (bytes : Bor (List ℕ)) (w x : Way) → IsSameBut w x → x.tally ≡ w.tally
    → x.place ≡ w.place → x.in_flight ≡ w.in_flight → All (λ (a : Flying). tick.0 <ℤ a.at.0) w.in_flight → w.listed ≡ landing_of tick index ∷ x.listed → slice_get w.injections.items index ≡ Some r
    → bytes.now ≡ r.now.frame → Lands v tick.0 gone w → LandsNext v tick.0 gone (Listed bytes) x
listed_lands v tick gone index r bytes w x same tally place flying later is found lent l =
    let h = l.keeps in
    let d = v.document in
    let here = lent_at d v.side w.injections.items index r h.injections found in
    let frame : frame_at d v.side index ≡ bytes.now = ap injected_frame here ∙ sym lent in
    let none : flying_at tick.0 w.in_flight ≡ [] = flying_none tick.0 w.in_flight (later_from tick.0 w.in_flight later) in
    lands_next v tick.0 gone (Listed bytes) w x l
    (ap₂ (λ (xs ys : List Arrival). xs ++ ys) none (left_first d v.side tick index w.listed x.listed is ∙ ap (λ (xs : List ℕ). arrival_at tick.0 xs ∷ landings_left d v.side tick.0 x.listed) frame)
    ∙ ap (λ (xs : List Arrival). arrival_at tick.0 bytes.now ∷ (xs ++ landings_left d v.side tick.0 x.listed)) (sym (ap (flying_at tick.0) flying ∙ none)))
    (subst (λ (xs : List ℕ). length xs < 2 ^ 32) (sym lent) (short_at d v.side index r.now h.read here))
    (record {
      read = h.read;
      document = ap (λ (x : DeliveriesTo). x.document) same.deliveries ∙ h.document;
      unit = ap (λ (x : DeliveriesTo). x.side) same.deliveries ∙ h.unit;
      injections = ap (λ v. injections_in v.items) same.injections ∙ h.injections;
      tally = subst (IsTally (counts_on v)) (sym tally) h.tally;
      flies = λ t low. ap (flying_at t) flying ∙ h.flies t low;
      waits = λ t low. sym (left_later d v.side t tick index w.listed x.listed is low) ∙ h.waits t low;
      list = taken_all (λ l. tick.0 ≤ℤ l.at.0) (landing_of tick index) w.listed x.listed is h.list;
      flying = subst (AreFlyingFrom tick.0) (sym flying) h.flying;
      order = subst IsInOrder (sym flying) h.order;
      sent = subst (λ (p : ℕ). All (IsSentBefore v.side p 0) x.in_flight) (sym place) (subst (All (IsSentBefore v.side w.place 0)) (sym flying) h.sent);
    })

-- none is left
pub none_lands : (v : OnWay) (tick : Ticks) (gone : List Arrival) (w x : Way) → IsSameBut w x → x.tally ≡ w.tally → x.place ≡ w.place → x.in_flight ≡ w.in_flight
    → All (λ (a : Flying). tick.0 <ℤ a.at.0) w.in_flight → x.listed ≡ w.listed → AreRising x.listed → first_time w.listed ≢ Some tick → Lands v tick.0 gone w → HasLanded v tick.0 gone x
none_lands v tick gone w x same tally place flying later listed up other l =
    let h = l.keeps in
    let d = v.document in
    let empty : AreFlyingFrom (tick.0 +ℤ pos 1) w.in_flight = later_from tick.0 w.in_flight later in
    let wait : AreFrom (tick.0 +ℤ pos 1) w.listed = refused_from tick w.listed h.list (subst AreRising listed up) other in
    record {
      all = l.parts ∙ ap₂ (λ (xs ys : List Arrival). gone ++ (xs ++ ys)) (flying_none tick.0 w.in_flight empty) (left_none d v.side tick.0 w.listed wait) ∙ append-nil gone;
      stands = record {
        read = h.read;
        document = ap (λ (x : DeliveriesTo). x.document) same.deliveries ∙ h.document;
        unit = ap (λ (x : DeliveriesTo). x.side) same.deliveries ∙ h.unit;
        injections = ap (λ v. injections_in v.items) same.injections ∙ h.injections;
        tally = subst (IsTally (counts_on v)) (sym tally) h.tally;
        flies = λ t low. ap (flying_at t) flying ∙ h.flies t low;
        waits = λ t low. ap (landings_left d v.side t) listed ∙ h.waits t low;
        list = subst (AreFrom (tick.0 +ℤ pos 1)) (sym listed) wait;
        flying = subst (AreFlyingFrom (tick.0 +ℤ pos 1)) (sym flying) empty;
        order = subst IsInOrder (sym flying) h.order;
        sent = subst (λ (p : ℕ). All (IsSentBefore v.side p 0) x.in_flight) (sym place) (subst (All (IsSentBefore v.side w.place 0)) (sym flying) h.sent);
      };
    }
