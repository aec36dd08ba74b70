-- What both units are told, tick by tick.
use Rattle.std.proofs.Common.{◌≡◌, ℕ, zero, suc, ℤ, pos, ◌<◌, ◌+ℤ◌, ◌≤ℤ◌, ◌<ℤ◌, ◌==◌, true, false, List, [], ◌∷◌, ◌++◌, length, get_or, refl, sym, ap, ◌∙◌, subst, arith, inl, inr}
use Rattle.std.specs.Prelude.{All, Contains, ◌⊎◌, map, slice_index, if◌then◌else◌}
use Rattle.std.specs.Ordering.{int_eq}
use Rattle.std.proofs.lemmas.Int.{ints}
use Rattle.std.proofs.lemmas.Bool.{cases_Bool, ne_eqb}
use Rattle.std.proofs.lemmas.Bool.Decides.{Decides-int_eq}
use Rattle.std.proofs.lemmas.List.{get_or-map, length-map}
use Rattle.std.proofs.lemmas.List.Elements.{All-append, All-cons, All-contains, All-filter, All-head, All-nil, All-push, All-tail, All-weaker, Contains-append_left, Contains-append_right, Contains-get_or, filter_passes}
use Rattle.eaxc_map.specs.Endpoints.{AppearOnce}
use Rattle.air_source.specs.declared.events.Side.{Side}
use Rattle.air_source.specs.declared.events.Side.TheVariants.{Ru, Du}
use Rattle.delay_measure.specs.declared.message.DelayMessage.{DelayMessage}
use Rattle.delay_measure.specs.declared.states.Exchange.{Exchange}
use Rattle.delay_measure.specs.After.{Told, id_of}
use Rattle.delay_measure.specs.declared.edge.Compensation.{Compensation}
use Rattle.delay_laws.specs.Nodes.{Heard, Node, Timed, measured, node_of, sent_then, time_of, timed, told_node, with_node}
use Rattle.delay_laws.specs.Runs.{IsNext, IsRun, has_begun}
use Rattle.delay_laws.specs.Ticks.{Begin, Flight, Hearing, IsPure, Setting, State, after_tick, answers, arriving, begin_heard, came_heard, copies_at, due, exchange_of, flight, hearing, landing, launched, state, told_all, told_one}
use Rattle.delay_laws.specs.Laws.{TicksAreRuns}
use Rattle.delay_laws.proofs.Exchanges.{exchanges_told}
use Rattle.delay_laws.proofs.Sending.{sent_named}
use Rattle.delay_laws.proofs.Runs.{measured_about}
use Rattle.air_source.specs.Units.{other, same_side}

-- ---- what was sent stays sent

-- a unit sent the message at this time
abbrev pub WasSent : (Side → Compensation) → List Heard → Side → ℤ → DelayMessage → Type 0
WasSent comps heard side at m = Contains (node_of side (measured comps m.id heard)).sent (timed at m)

sent_about : (c : Side → Compensation) (s side : Side) (told : Told) (ru du : Node) (x : Timed) → Contains (node_of side (record { ru = ru; du = du })).sent x
    → Contains (node_of side (with_node s (told_node (c s) (node_of s (record { ru = ru; du = du })) told) (record { ru = ru; du = du }))).sent x
sent_about c Ru Ru told ru du x h = Contains-append_left ru.sent (map (timed (time_of told)) (sent_then (c Ru) ru.exchange told)) x h
sent_about c Ru Du told ru du x h = h
sent_about c Du Ru told ru du x h = h
sent_about c Du Du told ru du x h = Contains-append_left du.sent (map (timed (time_of told)) (sent_then (c Du) du.exchange told)) x h

pub sent_stays : (comps : Side → Compensation) (one : Heard) (heard : List Heard) (side : Side) (id : ℕ) (x : Timed) → Contains (node_of side (measured comps id heard)).sent x → Contains (node_of side (measured comps id (one ∷ heard))).sent x
sent_stays comps one heard side id x h = elim (cases_Bool (id_of one.told == id)) [
  | inl is ↦ let more = sent_about comps one.side side one.told (measured comps id heard).ru (measured comps id heard).du x h in rw is more
  | inr not_it ↦ rw not_it h
]

contains_map : (t : ℤ) (ms : List DelayMessage) (m : DelayMessage) → Contains ms m → Contains (map (timed t) ms) (timed t m)
contains_map t ms m h = (h.0, simp length-map h.1, get_or-map (timed t) ms h.0 m (timed t m) h.1 ∙ ap (timed t) h.2)

-- what it sends now
sent_now : (comps : Side → Compensation) (one : Heard) (heard : List Heard) (m : DelayMessage)
    → Contains (sent_then (comps one.side) (node_of one.side (measured comps (id_of one.told) heard)).exchange one.told) m → Contains (node_of one.side (measured comps (id_of one.told) (one ∷ heard))).sent (timed (time_of one.told) m)
sent_now comps one heard m h =
    rw (measured_about comps one heard) (of_side one.side (contains_map (time_of one.told) (sent_then (comps one.side) (node_of one.side (measured comps (id_of one.told) heard)).exchange one.told) m h))
  where
    of_side : (s : Side) → Contains (map (timed (time_of one.told)) (sent_then (comps s) (node_of s (measured comps (id_of one.told) heard)).exchange one.told)) (timed (time_of one.told) m)
        → Contains (node_of s (with_node s (told_node (comps s) (node_of s (measured comps (id_of one.told) heard)) one.told) (measured comps (id_of one.told) heard))).sent (timed (time_of one.told) m)
    of_side Ru h = Contains-append_right (measured comps (id_of one.told) heard).ru.sent _ _ h
    of_side Du h = Contains-append_right (measured comps (id_of one.told) heard).du.sent _ _ h

-- ---- one thing more is told

-- a frame that was sent to a unit before
pub record IsKnown (comps : Side → Compensation) (heard : List Heard) (side : Side) (t : ℤ) (f : Flight) : Type 0 where
  pub late : pos 1536000000 ≤ℤ f.at
  pub before : f.at <ℤ t
  pub was : WasSent comps heard (other side) f.at f.message

-- a message that a unit sends at this tick
pub record IsMade (comps : Side → Compensation) (heard : List Heard) (side : Side) (t : ℤ) (m : DelayMessage) : Type 0 where
  pub late : pos 1536000000 ≤ℤ t
  pub was : WasSent comps heard side t m

-- a message that is received by a unit at this tick
pub record IsComing (comps : Side → Compensation) (heard : List Heard) (side : Side) (t : ℤ) (m : DelayMessage) : Type 0 where
  pub late : pos 1536000000 ≤ℤ t
  pub at : ℤ
  pub was : WasSent comps heard (other side) at m
  pub after : at ≤ℤ t

-- within a tick
pub record IsGood (w : Setting) (t : ℤ) (sent : Side → List Flight) (h : Hearing) : Type 0 where
  pub run : IsRun w.comps h.heard
  pub flights : (side : Side) → All (IsKnown w.comps h.heard side t) (sent side)
  pub made : (side : Side) → All (IsMade w.comps h.heard side t) (h.made side)

known_stays : (comps : Side → Compensation) (one : Heard) (heard : List Heard) (side : Side) (t : ℤ) (f : Flight) → IsKnown comps heard side t f → IsKnown comps (one ∷ heard) side t f
known_stays comps one heard side t f h = record { late = h.late; before = h.before; was = sent_stays comps one heard (other side) f.message.id (timed f.at f.message) h.was }

made_stays : (comps : Side → Compensation) (one : Heard) (heard : List Heard) (side : Side) (t : ℤ) (m : DelayMessage) → IsMade comps heard side t m → IsMade comps (one ∷ heard) side t m
made_stays comps one heard side t m h = record { late = h.late; was = sent_stays comps one heard side m.id (timed t m) h.was }

coming_stays : (comps : Side → Compensation) (one : Heard) (heard : List Heard) (side : Side) (t : ℤ) (m : DelayMessage) → IsComing comps heard side t m → IsComing comps (one ∷ heard) side t m
coming_stays comps one heard side t m h = record { late = h.late; at = h.at; was = sent_stays comps one heard (other side) m.id (timed h.at m) h.was; after = h.after }

answer_made : (w : Setting) (heard : List Heard) (one : Heard) (m : DelayMessage) → Contains (answers w heard one) m → m.id ≡ id_of one.told → WasSent w.comps (one ∷ heard) one.side (time_of one.told) m
answer_made w heard one m among named =
    let same : (node_of one.side (measured w.comps (id_of one.told) heard)).exchange ≡ exchange_of w heard one.side (id_of one.told) = exchanges_told w.comps heard one.side (id_of one.told) in
    let here = subst (λ (e : Exchange). Contains (sent_then (w.comps one.side) e one.told) m) (sym same) among in
    subst (λ (i : ℕ). Contains (node_of one.side (measured w.comps i (one ∷ heard))).sent (timed (time_of one.told) m)) (sym named) (sent_now w.comps one heard m here)

answers_made : (w : Setting) (heard : List Heard) (one : Heard) (t : ℤ) → pos 1536000000 ≤ℤ t → time_of one.told ≡ t → All (IsMade w.comps (one ∷ heard) one.side t) (answers w heard one)
answers_made w heard one t late now k d lt =
    let named = sent_named (w.comps one.side) (exchange_of w heard one.side (id_of one.told)) one.told k d lt in
    let was = answer_made w heard one (get_or (answers w heard one) k d) (Contains-get_or (answers w heard one) k d lt) named in
    record { late = late; was = subst (λ (u : ℤ). WasSent w.comps (one ∷ heard) one.side u (get_or (answers w heard one) k d)) now was }

new_made : (P : Side → DelayMessage → Type 0) (side s : Side) (ms : List DelayMessage) → All (P s) ms → All (P side) (if same_side side s then ms else [])
new_made P Ru Ru ms all = all
new_made P Ru Du ms all = All-nil (P Ru)
new_made P Du Ru ms all = All-nil (P Du)
new_made P Du Du ms all = all

tell : (w : Setting) (t : ℤ) (sent : Side → List Flight) (h : Hearing) (one : Heard) → time_of one.told ≡ t → IsNext w.comps h.heard one → IsGood w t sent h → IsGood w t sent (told_one w h one)
tell w t sent h one now next good = record {
  run = (next, good.run);
  flights = λ side. All-weaker (IsKnown w.comps h.heard side t) (IsKnown w.comps (one ∷ h.heard) side t) (known_stays w.comps one h.heard side t) (sent side) (good.flights side);
  made = λ side. All-append (IsMade w.comps (one ∷ h.heard) side t) (h.made side) (if same_side side one.side then answers w h.heard one else [])
      (All-weaker (IsMade w.comps h.heard side t) (IsMade w.comps (one ∷ h.heard) side t) (made_stays w.comps one h.heard side t) (h.made side) (good.made side))
      (new_made (λ s. IsMade w.comps (one ∷ h.heard) s t) side one.side (answers w h.heard one) (answers_made w h.heard one t (subst (λ (u : ℤ). pos 1536000000 ≤ℤ u) now next.late) now));
}

-- ---- measurements that begin

abbrev pub Apart : List Begin → Type 0
Apart [] = Unit {0}
Apart (b ∷ bs) = All (λ x. b.id ≡ x.id → ⊥) bs × Apart bs

not_yet : (b : Begin) (id : ℕ) (heard : List Heard) → (b.id ≡ id → ⊥) → has_begun id heard ≡ false → has_begun id (begin_heard b ∷ heard) ≡ false
not_yet b id heard apart none = let other = ne_eqb b.id id apart in rw other none

pub begin_all : (w : Setting) (t : ℤ) (sent : Side → List Flight) (h : Hearing) (bs : List Begin) → All (λ b. b.at ≡ t) bs → All (λ b. pos 1536000000 ≤ℤ b.at) bs → Apart bs → All (λ b. has_begun b.id h.heard ≡ false) bs
    → IsGood w t sent h → IsGood w t sent (told_all w h (map begin_heard bs))
begin_all w t sent h [] now late apart none good = good
begin_all w t sent h (b ∷ bs) now late apart none good =
    let next : IsNext w.comps h.heard (begin_heard b) = record { late = All-head (λ (x : Begin). pos 1536000000 ≤ℤ x.at) b bs late; comes = All-head (λ (x : Begin). has_begun x.id h.heard ≡ false) b bs none } in
    let rest : All (λ (x : Begin). has_begun x.id h.heard ≡ false) bs = All-tail (λ (x : Begin). has_begun x.id h.heard ≡ false) b bs none in
    begin_all w t sent (told_one w h (begin_heard b)) bs (All-tail (λ (x : Begin). x.at ≡ t) b bs now) (All-tail (λ (x : Begin). pos 1536000000 ≤ℤ x.at) b bs late) apart.1
    (λ k d lt. not_yet b (get_or bs k d).id h.heard (apart.0 k d lt) (rest k d lt))
    (tell w t sent h (begin_heard b) (All-head (λ (x : Begin). x.at ≡ t) b bs now) next good)

begun_after : (w : Setting) (h : Hearing) (bs : List Begin) (id : ℕ) → All (λ b. b.id ≡ id → ⊥) bs → has_begun id h.heard ≡ false → has_begun id (told_all w h (map begin_heard bs)).heard ≡ false
begun_after w h [] id apart none = none
begun_after w h (b ∷ bs) id apart none =
    begun_after w (told_one w h (begin_heard b)) bs id (All-tail (λ (x : Begin). x.id ≡ id → ⊥) b bs apart) (not_yet b id h.heard (All-head (λ (x : Begin). x.id ≡ id → ⊥) b bs apart) none)

-- ---- messages that are received

come_all : (w : Setting) (t : ℤ) (sent : Side → List Flight) (h : Hearing) (side : Side) (ms : List DelayMessage) → All (IsComing w.comps h.heard side t) ms → IsGood w t sent h → IsGood w t sent (told_all w h (map (came_heard side t) ms))
come_all w t sent h side [] coming good = good
come_all w t sent h side (m ∷ ms) coming good =
    let first = All-head (IsComing w.comps h.heard side t) m ms coming in
    let next : IsNext w.comps h.heard (came_heard side t m) = record { late = first.late; comes = (first.at, first.was, first.after) } in
    come_all w t sent (told_one w h (came_heard side t m)) side ms
    (All-weaker (IsComing w.comps h.heard side t) (IsComing w.comps (came_heard side t m ∷ h.heard) side t) (coming_stays w.comps (came_heard side t m) h.heard side t) ms (All-tail (IsComing w.comps h.heard side t) m ms coming))
    (tell w t sent h (came_heard side t m) refl next good)

come_begun : (w : Setting) (h : Hearing) (side : Side) (t : ℤ) (ms : List DelayMessage) (id : ℕ) → has_begun id (told_all w h (map (came_heard side t) ms)).heard ≡ has_begun id h.heard
come_begun w h side t [] id = refl
come_begun w h side t (m ∷ ms) id = come_begun w (told_one w h (came_heard side t m)) side t ms id

copies_come : (comps : Side → Compensation) (heard : List Heard) (side : Side) (t : ℤ) (f : Flight) (ds : List ℤ) → IsKnown comps heard side t f → All (IsComing comps heard side t) (copies_at ds f.at f.message t)
copies_come comps heard side t f [] known = All-nil (IsComing comps heard side t)
copies_come comps heard side t f (d ∷ ds) known =
    let late = known.late in
    let before = known.before in
    let coming : IsComing comps heard side t f.message = record { late = omega (arith, ints); at = f.at; was = known.was; after = omega (arith, ints) } in
    let rest = copies_come comps heard side t f ds known in
    elim (cases_Bool (int_eq (f.at +ℤ d) t)) [
      | inl here ↦ let both = All-cons (IsComing comps heard side t) f.message (copies_at ds f.at f.message t) coming rest in rw here both
      | inr there ↦ rw there rest
    ]

landing_comes : (comps : Side → Compensation) (heard : List Heard) (side : Side) (t : ℤ) (fs : List Flight) → All (IsKnown comps heard side t) fs → All (IsComing comps heard side t) (landing fs t)
landing_comes comps heard side t [] all = All-nil (IsComing comps heard side t)
landing_comes comps heard side t (f ∷ fs) all =
    All-append (IsComing comps heard side t) (copies_at f.delays f.at f.message t) (landing fs t) (copies_come comps heard side t f f.delays (All-head (IsKnown comps heard side t) f fs all))
    (landing_comes comps heard side t fs (All-tail (IsKnown comps heard side t) f fs all))

pub arrive : (w : Setting) → IsPure w → (t : ℤ) (s : State) (h : Hearing) (side : Side) → IsGood w t s.sent h → IsGood w t s.sent (told_all w h (arriving w s side t))
arrive w pure t s h side good =
    come_all w t s.sent h side (landing (s.sent side) t ++ w.others side t)
    (All-append (IsComing w.comps h.heard side t) (landing (s.sent side) t) (w.others side t) (landing_comes w.comps h.heard side t (s.sent side) (good.flights side))
    (subst (All (IsComing w.comps h.heard side t)) (sym (pure.alone side t)) (All-nil (IsComing w.comps h.heard side t))))
    good

-- ---- which measurements begin at a tick

contains_cases : (b : Begin) (bs : List Begin) (x : Begin) → Contains (b ∷ bs) x → (b ≡ x) ⊎ Contains bs x
contains_cases b bs x (zero, lt, is) = inl is
contains_cases b bs x (suc k, lt, is) = inr (k, omega arith, is)

pub due_now : (t : ℤ) (bs : List Begin) → All (λ b. b.at ≡ t) (due t bs)
due_now t bs = All-weaker (λ (b : Begin). int_eq b.at t ≡ true) (λ (b : Begin). b.at ≡ t) (λ b is. (Decides-int_eq b.at t).0 is) (due t bs) (filter_passes (λ (b : Begin). int_eq b.at t) bs)

due_all : (P : Begin → Type 0) (t : ℤ) (bs : List Begin) → All P bs → All P (due t bs)
due_all P t bs all = All-filter (λ (b : Begin). int_eq b.at t) P bs all

due_none : (heard : List Heard) (t : ℤ) (bs : List Begin) → All (λ b. t ≤ℤ b.at → has_begun b.id heard ≡ false) bs → All (λ b. has_begun b.id heard ≡ false) (due t bs)
due_none heard t bs none k d lt =
    let now = due_now t bs k d lt in
    due_all (λ (b : Begin). t ≤ℤ b.at → has_begun b.id heard ≡ false) t bs none k d lt (omega (arith, ints, now))

due_apart : (t : ℤ) (bs : List Begin) → Apart bs → Apart (due t bs)
due_apart t [] apart = tt
due_apart t (b ∷ bs) apart = elim (cases_Bool (int_eq b.at t)) [
  | inl here ↦ let both : Apart (b ∷ due t bs) = (due_all (λ (x : Begin). b.id ≡ x.id → ⊥) t bs apart.0, due_apart t bs apart.1) in rw here both
  | inr there ↦ let rest = due_apart t bs apart.1 in rw there rest
]

-- none of them has the id of one that begins later
later_apart : (t : ℤ) (bs : List Begin) (x : Begin) → Apart bs → Contains bs x → t <ℤ x.at → All (λ b. b.id ≡ x.id → ⊥) (due t bs)
later_apart t [] x apart among later = All-nil (λ (b : Begin). b.id ≡ x.id → ⊥)
later_apart t (b ∷ bs) x apart among later = elim (cases_Bool (int_eq b.at t)) [
  | inl here ↦ elim (contains_cases b bs x among) [
    | inl is ↦
        let at : b.at ≡ t = (Decides-int_eq b.at t).0 here in
        let same : b.at ≡ x.at = ap (λ (y : Begin). y.at) is in
        absurd (omega (arith, ints))
    | inr rest ↦
        let both = All-cons (λ (y : Begin). y.id ≡ x.id → ⊥) b (due t bs) (All-contains (λ (y : Begin). b.id ≡ y.id → ⊥) bs x apart.0 rest) (later_apart t bs x apart.1 rest later) in
        rw here both
  ]
  | inr there ↦ elim (contains_cases b bs x among) [
    | inl is ↦
        let all = due_all (λ (y : Begin). y.id ≡ x.id → ⊥) t bs (All-weaker (λ (y : Begin). b.id ≡ y.id → ⊥) (λ (y : Begin). y.id ≡ x.id → ⊥) (λ y apart same. apart (ap (λ (z : Begin). z.id) is ∙ sym same)) bs apart.0) in
        rw there all
    | inr rest ↦ let all = later_apart t bs x apart.1 rest later in rw there all
  ]
]

index_of_id : (bs : List Begin) (k : ℕ) (d : Begin) → k < length bs → slice_index (map (λ (b : Begin). b.id) bs) k ≡ (get_or bs k d).id
index_of_id bs k d lt = get_or-map (λ (b : Begin). b.id) bs k d 0 lt

apart_from : (bs : List Begin) → AppearOnce (map (λ b. b.id) bs) → Apart bs
apart_from [] once = tt
apart_from (b ∷ bs) once = (
  λ k d lt is.
      let long : length (map (λ (x : Begin). x.id) bs) ≡ length bs = simp length-map in
      let same : 0 ≡ suc k = once 0 (suc k) (omega (arith, long)) (omega (arith, long)) (is ∙ sym (index_of_id bs k d lt)) in
      omega (arith, same),
  apart_from bs (λ j k lj lk is. let same : suc j ≡ suc k = once (suc j) (suc k) (omega arith) (omega arith) is in omega (arith, same)),
)

-- ---- a tick

-- at the start of a tick
pub record IsReady (w : Setting) (t : ℤ) (s : State) : Type 0 where
  pub run : IsRun w.comps s.heard
  pub flights : (side : Side) → All (IsKnown w.comps s.heard side t) (s.sent side)
  pub begun : All (λ b. t ≤ℤ b.at → has_begun b.id s.heard ≡ false) w.begins

launched_known : (comps : Side → Compensation) (heard : List Heard) (side : Side) (t : ℤ) (delays : ℕ → List ℤ) (sent : List Flight) (ms : List DelayMessage)
    → All (IsKnown comps heard side (t +ℤ pos 1)) sent → All (IsMade comps heard (other side) t) ms → All (IsKnown comps heard side (t +ℤ pos 1)) (launched delays t sent ms)
launched_known comps heard side t delays sent [] known made = known
launched_known comps heard side t delays sent (m ∷ ms) known made =
    let first = All-head (IsMade comps heard (other side) t) m ms made in
    let one : IsKnown comps heard side (t +ℤ pos 1) (flight delays t (length sent) m) = record { late = first.late; before = omega (arith, ints); was = first.was } in
    launched_known comps heard side t delays (sent ++ flight delays t (length sent) m ∷ []) ms (All-push (IsKnown comps heard side (t +ℤ pos 1)) sent (flight delays t (length sent) m) known one)
    (All-tail (IsMade comps heard (other side) t) m ms made)

older : (comps : Side → Compensation) (heard : List Heard) (side : Side) (t : ℤ) (f : Flight) → IsKnown comps heard side t f → IsKnown comps heard side (t +ℤ pos 1) f
older comps heard side t f h = let before = h.before in record { late = h.late; before = omega (arith, ints); was = h.was }

heard_good : (w : Setting) → IsPure w → (t : ℤ) (s : State) → IsReady w t s → IsGood w t s.sent (hearing w t s)
unfolding hearing
heard_good w pure t s ready =
    let start : Hearing = record { heard = s.heard; made = λ side. [] } in
    let good : IsGood w t s.sent start = record { run = ready.run; flights = ready.flights; made = λ side. All-nil (IsMade w.comps s.heard side t) } in
    let begun = begin_all w t s.sent start (due t w.begins) (due_now t w.begins) (due_all (λ (b : Begin). pos 1536000000 ≤ℤ b.at) t w.begins pure.late) (due_apart t w.begins (apart_from w.begins pure.once))
    (due_none s.heard t w.begins ready.begun) good in
    let first : Hearing = told_all w start (map begin_heard (due t w.begins)) in
    arrive w pure t s (told_all w first (arriving w s Ru t)) Du (arrive w pure t s first Ru begun)

heard_begun : (w : Setting) (t : ℤ) (s : State) (id : ℕ) → All (λ b. b.id ≡ id → ⊥) (due t w.begins) → has_begun id s.heard ≡ false → has_begun id (hearing w t s).heard ≡ false
unfolding hearing
heard_begun w t s id apart none =
    let start : Hearing = record { heard = s.heard; made = λ side. [] } in
    let first : Hearing = told_all w start (map begin_heard (due t w.begins)) in
    come_begun w (told_all w first (arriving w s Ru t)) Du t (landing (s.sent Du) t ++ w.others Du t) id ∙ come_begun w first Ru t (landing (s.sent Ru) t ++ w.others Ru t) id ∙ begun_after w start (due t w.begins) id apart none

next_ready : (w : Setting) → IsPure w → (t : ℤ) (s : State) → IsReady w t s → IsReady w (t +ℤ pos 1) (after_tick w t s)
unfolding after_tick
next_ready w pure t s ready =
    let good = heard_good w pure t s ready in
    record {
      run = good.run;
      flights = λ side. launched_known w.comps (hearing w t s).heard side t (w.delays side) (s.sent side) ((hearing w t s).made (other side))
          (All-weaker (IsKnown w.comps (hearing w t s).heard side t) (IsKnown w.comps (hearing w t s).heard side (t +ℤ pos 1)) (older w.comps (hearing w t s).heard side t) (s.sent side) (good.flights side))
          (good.made (other side));
      begun = λ k d lt later.
          let b : Begin = get_or w.begins k d in
          heard_begun w t s b.id (later_apart t w.begins b (apart_from w.begins pure.once) (Contains-get_or w.begins k d lt) (omega (arith, ints))) (ready.begun k d lt (omega (arith, ints)));
    }

pub state_ready : (w : Setting) → IsPure w → (first : ℤ) (n : ℕ) → IsReady w (first +ℤ pos n) (state w first n)
unfolding state
state_ready w pure first zero = record { run = tt; flights = λ side. All-nil (IsKnown w.comps [] side (first +ℤ pos 0)); begun = λ k d lt later. refl }
state_ready w pure first (suc n) =
    let next : (first +ℤ pos n) +ℤ pos 1 ≡ first +ℤ pos (suc n) = omega (arith, ints) in
    subst (λ (t : ℤ). IsReady w t (after_tick w (first +ℤ pos n) (state w first n))) next (next_ready w pure (first +ℤ pos n) (state w first n) (state_ready w pure first n))

pub ticks_run : TicksAreRuns
ticks_run w pure first n = (state_ready w pure first n).run
