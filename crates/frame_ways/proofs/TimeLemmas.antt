-- The next time at which a frame lands.
use Rattle.std.proofs.Common.{◌≡◌, ℤ, pos, ◌+ℤ◌, ◌≤ℤ◌, ◌<ℤ◌, Bool, true, false, List, [], ◌∷◌, ◌++◌, Option, Some, None, refl, sym, ap₂, ◌∙◌}
use Rattle.std.specs.Prelude.{int_lt, if◌then◌else◌, IfSome}
use Rattle.std.proofs.lemmas.List.Elements.{All-cons, All-head, All-nil, All-tail}
use Rattle.std.specs.Int.Signed.{<ℤ-≤ℤ_trans, ≤ℤ_refl}
use Rattle.air_source.specs.declared.events.Side.{Side}
use Rattle.fh_document.specs.declared.document.Document.{Document}
use Rattle.fh_base.specs.declared.values.Ticks.{Ticks}
use Rattle.frame_ways.specs.declared.arrivals.Arrival.{Arrival as Flying}
use Rattle.frame_ways.specs.declared.landings.Landing.{Landing}
use Rattle.frame_ways.specs.Network.{first_time as first_flying}
use Rattle.frame_ways.specs.Queues.{AreRising, first_time}
use Rattle.unit_model.specs.Meetings.{Arrival}
use Rattle.fh_base.specs.Least.{IsLeast, IsLeastOf, earlier_time}
use Rattle.frame_ways.specs.Flying.{AreFlyingFrom, flying_at}
use Rattle.frame_ways.specs.Listed.{AreFrom, landings_left}
use Rattle.frame_ways.specs.Ways.{IsCalmTo, OnWay, StandsFor, landings_on}
use Rattle.frame_ways.specs.declared.way.Way.{Way}
use Rattle.frame_ways.proofs.LandLemmas.{flying_here, flying_less, flying_none, flying_not, from_less, left_above, left_first, left_none}
use Rattle.frame_ways.proofs.SendLemmas.{comes_at}
use Rattle.fh_base.proofs.Orders.{at_most, later_than, under, not_under, weak, int_above, next_after}

-- ---- the earlier of two times

-- what holds of both holds before the earlier of their least times
earlier_is : (P Q : ℤ → Type 0) (s t : Ticks) (b : Bool) → int_lt t.0 s.0 ≡ b → IsLeast P s.0 → IsLeast Q t.0
    → IsLeastOf (λ to. P to × Q to) (if b then Some t else Some s)
earlier_is P Q s t true e p q = record {
  before = λ to lt. (p.before to (<ℤ-≤ℤ_trans lt (weak t.0 s.0 (under t.0 s.0 e))), q.before to lt);
  at = λ both. q.at both.1;
}
earlier_is P Q s t false e p q = record {
  before = λ to lt. (p.before to lt, q.before to (<ℤ-≤ℤ_trans lt (not_under t.0 s.0 e)));
  at = λ both. p.at both.0;
}

pub earlier_of_both : (P Q : ℤ → Type 0) (a b : Option Ticks) → IsLeastOf P a → IsLeastOf Q b → IsLeastOf (λ to. P to × Q to) (earlier_time a b)
earlier_of_both P Q None None p q = λ to. (p to, q to)
earlier_of_both P Q None (Some t) p q = record { before = λ to lt. (p to, q.before to lt); at = λ both. q.at both.1 }
earlier_of_both P Q (Some s) None p q = record { before = λ to lt. (p.before to lt, q to); at = λ both. p.at both.0 }
earlier_of_both P Q (Some s) (Some t) p q = earlier_is P Q s t (int_lt t.0 s.0) refl p q

-- ---- the first that lands

-- of these, none lands from a tick on and up to another
abbrev pub FlyNoneTo : List Flying → ℤ → ℤ → Type 0
FlyNoneTo fs now to = (t : ℤ) → now ≤ℤ t → t ≤ℤ to → flying_at t fs ≡ []

abbrev pub WaitNoneTo : Document → Side → List Landing → ℤ → ℤ → Type 0
WaitNoneTo d side q now to = (t : ℤ) → now ≤ℤ t → t ≤ℤ to → landings_left d side t q ≡ []

pub first_flies : (fs : List Flying) (now : ℤ) → IfSome (first_flying fs) (λ t. AreFlyingFrom t.0 fs) → AreFlyingFrom now fs → IsLeastOf (FlyNoneTo fs now) (first_flying fs)
first_flies [] now h from = λ to t low high. refl
first_flies (a ∷ fs) now h from = record {
  before = λ to lt t low high. flying_none t (a ∷ fs) (flying_less (t +ℤ pos 1) a.at.0 (a ∷ fs) (next_after t a.at.0 (later_than t to a.at.0 high lt)) h);
  at = λ none. let empty = sym (flying_here a.at.0 a fs refl) ∙ none a.at.0 (All-head (λ (x : Flying). now ≤ℤ x.at.0) a fs from) (≤ℤ_refl a.at.0) in absurd (cc empty);
}

pub first_waits : (d : Document) (side : Side) (q : List Landing) (now : ℤ) → AreRising q → AreFrom now q → IsLeastOf (WaitNoneTo d side q now) (first_time q)
first_waits d side [] now up from = λ to t low high. refl
first_waits d side (l ∷ q) now up from = record {
  before = λ to lt t low high.
      left_none d side t (l ∷ q) (let order = next_after t l.at.0 (later_than t to l.at.0 high lt) in (order, from_less (t +ℤ pos 1) l.at.0 q order up.0));
  at = λ none. let empty = sym (left_first d side l.at l.index (l ∷ q) q refl) ∙ none l.at.0 from.0 (≤ℤ_refl l.at.0) in absurd (cc empty);
}

-- ---- what lands is both

left_empty : (xs ys : List Arrival) → xs ++ ys ≡ [] → xs ≡ []
left_empty [] ys e = refl
left_empty (x ∷ xs) ys e = absurd (cc e)

right_empty : (xs ys : List Arrival) → xs ++ ys ≡ [] → ys ≡ []
right_empty [] ys e = e
right_empty (x ∷ xs) ys e = absurd (cc e)

least_same : (P Q : ℤ → Type 0) (o : Option Ticks) → ((to : ℤ) → P to → Q to) → ((to : ℤ) → Q to → P to) → IsLeastOf P o → IsLeastOf Q o
least_same P Q None forth back h = λ to. forth to (h to)
least_same P Q (Some t) forth back h = record { before = λ to lt. forth to (h.before to lt); at = λ q. h.at (back t.0 q) }

pub next_lands : (v : OnWay) (now : ℤ) (w : Way) → StandsFor v now w → AreRising w.listed → IfSome (first_flying w.in_flight) (λ t. AreFlyingFrom t.0 w.in_flight)
    → IsLeastOf (IsCalmTo (landings_on v) now) (earlier_time (first_time w.listed) (first_flying w.in_flight))
next_lands v now w h up least =
    let d = v.document in
    let fs = w.in_flight in
    let q = w.listed in
    least_same (λ (to : ℤ). WaitNoneTo d v.side q now to × FlyNoneTo fs now to) (IsCalmTo (landings_on v) now) (earlier_time (first_time q) (first_flying fs))
    (λ to both t low high. comes_at v now now t w h low ∙ ap₂ (λ (xs ys : List Arrival). xs ++ ys) (both.1 t low high) (both.0 t low high))
    (λ to calm. (
      (λ t low high. right_empty (flying_at t fs) (landings_left d v.side t q) (sym (comes_at v now now t w h low) ∙ calm t low high)),
      (λ t low high. left_empty (flying_at t fs) (landings_left d v.side t q) (sym (comes_at v now now t w h low) ∙ calm t low high)),
    ))
    (earlier_of_both (WaitNoneTo d v.side q now) (FlyNoneTo fs now) (first_time q) (first_flying fs) (first_waits d v.side q now up h.list) (first_flies fs now least h.flying))

-- ---- the time before a tick

pub above_it : (x to : ℤ) → (x ≤ℤ to → ⊥) → to <ℤ x
above_it x to h = go (int_lt to x) refl
  where
    go : (b : Bool) → int_lt to x ≡ b → to <ℤ x
    go true e = under to x e
    go false e = absurd (h (not_under to x e))

fly_later : (fs : List Flying) (now to : ℤ) → FlyNoneTo fs now to → AreFlyingFrom now fs → AreFlyingFrom (to +ℤ pos 1) fs
fly_later [] now to none from = All-nil _
fly_later (a ∷ fs) now to none from =
    let P = λ (x : Flying). now ≤ℤ x.at.0 in
    let above = above_it a.at.0 to (λ high. (let empty = sym (flying_here a.at.0 a fs refl) ∙ none a.at.0 (All-head P a fs from) high in absurd (cc empty))) in
    All-cons (λ (x : Flying). (to +ℤ pos 1) ≤ℤ x.at.0) a fs (next_after to a.at.0 above)
    (fly_later fs now to (λ t low high. sym (flying_not t a fs (int_above a.at.0 t (later_than t to a.at.0 high above))) ∙ none t low high) (All-tail P a fs from))

wait_later : (d : Document) (side : Side) (q : List Landing) (now to : ℤ) → WaitNoneTo d side q now to → AreFrom now q → AreFrom (to +ℤ pos 1) q
wait_later d side [] now to none from = tt
wait_later d side (l ∷ q) now to none from =
    let above = above_it l.at.0 to (λ high. (let empty = sym (left_first d side l.at l.index (l ∷ q) q refl) ∙ none l.at.0 from.0 high in absurd (cc empty))) in (
      next_after to l.at.0 above,
      wait_later d side q now to (λ t low high. sym (left_above d side t l.at l.index (l ∷ q) q refl (later_than t to l.at.0 high above)) ∙ none t low high) from.1,
    )

-- where nothing lands up to one, the way is at the next as it was
pub stands_until : (v : OnWay) (now to : ℤ) (w : Way) → StandsFor v now w → now ≤ℤ (to +ℤ pos 1) → IsCalmTo (landings_on v) now to → StandsFor v (to +ℤ pos 1) w
stands_until v now to w h order calm =
    let d = v.document in
    let fs = w.in_flight in
    let q = w.listed in
    let comes = λ (t : ℤ) (low : now ≤ℤ t) (high : t ≤ℤ to). sym (comes_at v now now t w h low) ∙ calm t low high in
    record {
      read = h.read;
      document = h.document;
      unit = h.unit;
      injections = h.injections;
      tally = h.tally;
      flies = λ t low. h.flies t (at_most now (to +ℤ pos 1) t order low);
      waits = λ t low. h.waits t (at_most now (to +ℤ pos 1) t order low);
      list = wait_later d v.side q now to (λ t low high. right_empty (flying_at t fs) (landings_left d v.side t q) (comes t low high)) h.list;
      flying = fly_later fs now to (λ t low high. left_empty (flying_at t fs) (landings_left d v.side t q) (comes t low high)) h.flying;
      order = h.order;
      sent = h.sent;
    }
