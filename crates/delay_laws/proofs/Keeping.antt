-- What holds of all that is told and sent, where each step keeps it.
use Rattle.std.proofs.Common.{◌≡◌, ℕ, zero, suc, ℤ, pos, ◌+◌, ◌+ℤ◌, List, [], ◌∷◌, ◌++◌, length, refl, subst, inl, inr}
use Rattle.std.specs.Prelude.{All, map, if◌then◌else◌}
use Rattle.std.specs.Ordering.{int_eq}
use Rattle.std.proofs.lemmas.Bool.{cases_Bool}
use Rattle.std.proofs.lemmas.Bool.Decides.{Decides-int_eq}
use Rattle.std.proofs.lemmas.List.Elements.{All-append, All-cons, All-filter, All-head, All-nil, All-push, All-tail}
use Rattle.air_source.specs.declared.events.Side.{Side}
use Rattle.air_source.specs.declared.events.Side.TheVariants.{Ru, Du}
use Rattle.delay_measure.specs.declared.message.DelayMessage.{DelayMessage}
use Rattle.delay_measure.specs.declared.states.Exchange.{Exchange}
use Rattle.delay_measure.specs.After.{id_of}
use Rattle.delay_laws.specs.Nodes.{Heard, sent_then, time_of}
use Rattle.delay_laws.specs.Ticks.{Begin, Flight, Hearing, Setting, State, after_tick, answers, arriving, begin_heard, came_heard, copies_at, due, exchange_of, flight, hearing, landing, launched, state, told_all, told_one}
use Rattle.delay_laws.proofs.Ticking.{due_now}
use Rattle.air_source.specs.Units.{other, same_side}

-- P of a message and the time at which it is sent, Q of what is told: each follows where the other held before
pub record Keeps (w : Setting) (P : ℤ → DelayMessage → Type 0) (Q : Heard → Type 0) : Type 0 where
  pub begins : All (λ b. Q (begin_heard b)) w.begins
  pub copies : (side : Side) (k : ℕ) (at : ℤ) (m : DelayMessage) → P at m → All (λ d. Q (came_heard side (at +ℤ d) m)) (w.delays side k)
  pub others : (side : Side) (t : ℤ) → All (λ m. Q (came_heard side t m)) (w.others side t)
  pub answers : (one : Heard) (e : Exchange) → Q one → All (P (time_of one.told)) (sent_then (w.comps one.side) e one.told)

-- a frame that was sent: P holds of it, and Q of each copy
pub record IsKept (P : ℤ → DelayMessage → Type 0) (Q : Heard → Type 0) (side : Side) (f : Flight) : Type 0 where
  pub sent : P f.at f.message
  pub copies : All (λ d. Q (came_heard side (f.at +ℤ d) f.message)) f.delays

pub record AreKept (P : ℤ → DelayMessage → Type 0) (Q : Heard → Type 0) (s : State) : Type 0 where
  pub heard : All Q s.heard
  pub flights : (side : Side) → All (IsKept P Q side) (s.sent side)

-- within a tick
record Kept (P : ℤ → DelayMessage → Type 0) (Q : Heard → Type 0) (t : ℤ) (h : Hearing) : Type 0 where
  pub heard : All Q h.heard
  pub made : (side : Side) → All (P t) (h.made side)

if_made : (P : DelayMessage → Type 0) (side s : Side) (ms : List DelayMessage) → All P ms → All P (if same_side side s then ms else [])
if_made P Ru Ru ms all = all
if_made P Ru Du ms all = All-nil P
if_made P Du Ru ms all = All-nil P
if_made P Du Du ms all = all

one_kept : (w : Setting) (P : ℤ → DelayMessage → Type 0) (Q : Heard → Type 0) → Keeps w P Q → (t : ℤ) (h : Hearing) (one : Heard) → Q one → time_of one.told ≡ t → Kept P Q t h → Kept P Q t (told_one w h one)
one_kept w P Q keeps t h one holds now kept = record {
  heard = All-cons Q one h.heard holds kept.heard;
  made = λ side. All-append (P t) (h.made side) (if same_side side one.side then answers w h.heard one else []) (kept.made side)
      (if_made (P t) side one.side (answers w h.heard one) (subst (λ (u : ℤ). All (P u) (answers w h.heard one)) now (keeps.answers one (exchange_of w h.heard one.side (id_of one.told)) holds)));
}

begins_kept : (w : Setting) (P : ℤ → DelayMessage → Type 0) (Q : Heard → Type 0) → Keeps w P Q → (t : ℤ) (h : Hearing) (bs : List Begin) → All (λ b. Q (begin_heard b)) bs → All (λ b. b.at ≡ t) bs → Kept P Q t h
    → Kept P Q t (told_all w h (map begin_heard bs))
begins_kept w P Q keeps t h [] holds now kept = kept
begins_kept w P Q keeps t h (b ∷ bs) holds now kept =
    begins_kept w P Q keeps t (told_one w h (begin_heard b)) bs (All-tail (λ (x : Begin). Q (begin_heard x)) b bs holds) (All-tail (λ (x : Begin). x.at ≡ t) b bs now)
    (one_kept w P Q keeps t h (begin_heard b) (All-head (λ (x : Begin). Q (begin_heard x)) b bs holds) (All-head (λ (x : Begin). x.at ≡ t) b bs now) kept)

messages_kept : (w : Setting) (P : ℤ → DelayMessage → Type 0) (Q : Heard → Type 0) → Keeps w P Q → (t : ℤ) (h : Hearing) (side : Side) (ms : List DelayMessage) → All (λ m. Q (came_heard side t m)) ms → Kept P Q t h
    → Kept P Q t (told_all w h (map (came_heard side t) ms))
messages_kept w P Q keeps t h side [] holds kept = kept
messages_kept w P Q keeps t h side (m ∷ ms) holds kept =
    messages_kept w P Q keeps t (told_one w h (came_heard side t m)) side ms (All-tail (λ (x : DelayMessage). Q (came_heard side t x)) m ms holds)
    (one_kept w P Q keeps t h (came_heard side t m) (All-head (λ (x : DelayMessage). Q (came_heard side t x)) m ms holds) refl kept)

copies_kept : (Q : Heard → Type 0) (side : Side) (t at : ℤ) (m : DelayMessage) (ds : List ℤ) → All (λ d. Q (came_heard side (at +ℤ d) m)) ds → All (λ x. Q (came_heard side t x)) (copies_at ds at m t)
copies_kept Q side t at m [] holds = All-nil (λ (x : DelayMessage). Q (came_heard side t x))
copies_kept Q side t at m (d ∷ ds) holds =
    let rest = copies_kept Q side t at m ds (All-tail (λ (x : ℤ). Q (came_heard side (at +ℤ x) m)) d ds holds) in
    elim (cases_Bool (int_eq (at +ℤ d) t)) [
      | inl here ↦
          let first = subst (λ (u : ℤ). Q (came_heard side u m)) ((Decides-int_eq (at +ℤ d) t).0 here) (All-head (λ (x : ℤ). Q (came_heard side (at +ℤ x) m)) d ds holds) in
          let both = All-cons (λ (x : DelayMessage). Q (came_heard side t x)) m (copies_at ds at m t) first rest in
          rw here both
      | inr there ↦ rw there rest
    ]

landing_kept : (P : ℤ → DelayMessage → Type 0) (Q : Heard → Type 0) (side : Side) (t : ℤ) (fs : List Flight) → All (IsKept P Q side) fs → All (λ m. Q (came_heard side t m)) (landing fs t)
landing_kept P Q side t [] all = All-nil (λ (m : DelayMessage). Q (came_heard side t m))
landing_kept P Q side t (f ∷ fs) all =
    All-append (λ (m : DelayMessage). Q (came_heard side t m)) (copies_at f.delays f.at f.message t) (landing fs t) (copies_kept Q side t f.at f.message f.delays (All-head (IsKept P Q side) f fs all).copies)
    (landing_kept P Q side t fs (All-tail (IsKept P Q side) f fs all))

arriving_kept : (w : Setting) (P : ℤ → DelayMessage → Type 0) (Q : Heard → Type 0) → Keeps w P Q → (t : ℤ) (s : State) (h : Hearing) (side : Side) → AreKept P Q s → Kept P Q t h → Kept P Q t (told_all w h (arriving w s side t))
arriving_kept w P Q keeps t s h side kept now =
    messages_kept w P Q keeps t h side (landing (s.sent side) t ++ w.others side t)
    (All-append (λ (m : DelayMessage). Q (came_heard side t m)) (landing (s.sent side) t) (w.others side t) (landing_kept P Q side t (s.sent side) (kept.flights side)) (keeps.others side t)) now

hearing_kept : (w : Setting) (P : ℤ → DelayMessage → Type 0) (Q : Heard → Type 0) → Keeps w P Q → (t : ℤ) (s : State) → AreKept P Q s → Kept P Q t (hearing w t s)
unfolding hearing
hearing_kept w P Q keeps t s kept =
    let start : Hearing = record { heard = s.heard; made = λ side. [] } in
    let before : Kept P Q t start = record { heard = kept.heard; made = λ side. All-nil (P t) } in
    let begun : Hearing = told_all w start (map begin_heard (due t w.begins)) in
    let first = begins_kept w P Q keeps t start (due t w.begins) (All-filter (λ (b : Begin). int_eq b.at t) (λ (b : Begin). Q (begin_heard b)) w.begins keeps.begins) (due_now t w.begins) before in
    arriving_kept w P Q keeps t s (told_all w begun (arriving w s Ru t)) Du kept (arriving_kept w P Q keeps t s begun Ru kept first)

launched_kept : (w : Setting) (P : ℤ → DelayMessage → Type 0) (Q : Heard → Type 0) → Keeps w P Q → (side : Side) (t : ℤ) (sent : List Flight) (ms : List DelayMessage) → All (IsKept P Q side) sent → All (P t) ms
    → All (IsKept P Q side) (launched (w.delays side) t sent ms)
launched_kept w P Q keeps side t sent [] kept made = kept
launched_kept w P Q keeps side t sent (m ∷ ms) kept made =
    let holds : P t m = All-head (P t) m ms made in
    let one : IsKept P Q side (flight (w.delays side) t (length sent) m) = record { sent = holds; copies = keeps.copies side (length sent + 1) t m holds } in
    launched_kept w P Q keeps side t (sent ++ flight (w.delays side) t (length sent) m ∷ []) ms (All-push (IsKept P Q side) sent (flight (w.delays side) t (length sent) m) kept one) (All-tail (P t) m ms made)

pub all_kept : (w : Setting) (P : ℤ → DelayMessage → Type 0) (Q : Heard → Type 0) → Keeps w P Q → (first : ℤ) (n : ℕ) → AreKept P Q (state w first n)
unfolding state after_tick
all_kept w P Q keeps first zero = record { heard = All-nil Q; flights = λ side. All-nil (IsKept P Q side) }
all_kept w P Q keeps first (suc n) =
    let t : ℤ = first +ℤ pos n in
    let before = all_kept w P Q keeps first n in
    let now = hearing_kept w P Q keeps t (state w first n) before in
    record {
      heard = now.heard;
      flights = λ side. launched_kept w P Q keeps side t ((state w first n).sent side) ((hearing w t (state w first n)).made (other side)) (before.flights side) (now.made (other side));
    }
