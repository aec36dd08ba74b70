-- The frames of delay measurement that are launched at a tick.
use Rattle.std.proofs.Common.{◌≡◌, ℕ, zero, suc, ℤ, pos, ◌+◌, ◌+ℤ◌, List, [], ◌∷◌, ◌++◌, length, refl, sym, ap, ap₂, ◌∙◌, subst, inl, inr, arith, append-nil, append_assoc}
use Rattle.std.specs.Prelude.{All, map}
use Rattle.std.specs.Ordering.{int_eq}
use Rattle.std.proofs.lemmas.Bool.{cases_Bool}
use Rattle.std.proofs.lemmas.Bool.Decides.{Decides-int_eq}
use Rattle.std.proofs.lemmas.Int.{ints}
use Rattle.std.proofs.lemmas.List.Elements.{All-cons, All-head, All-nil, All-tail, filter-append}
use Rattle.air_source.specs.declared.events.Side.{Side}
use Rattle.delay_laws.specs.Ticks.{Flight, Setting, after_tick, flight, hearing, launched, state}
use Rattle.delay_measure.specs.declared.message.DelayMessage.{DelayMessage}
use Rattle.document_traffic.specs.Measured.{flights_then}
use Rattle.air_source.specs.Units.{other}

-- frames of these messages, launched at a tick
pub record AreLaunched (t : ℤ) (ms : List DelayMessage) (fs : List Flight) : Type 0 where
  pub now : All (λ (f : Flight). f.at ≡ t) fs
  pub messages : map (λ (f : Flight). f.message) fs ≡ ms

-- they follow those that were sent before
launched_behind : (delays : ℕ → List ℤ) (t : ℤ) (sent : List Flight) (ms : List DelayMessage) → (fs : List Flight) × (launched delays t sent ms ≡ sent ++ fs) × AreLaunched t ms fs
launched_behind delays t sent [] = ([], sym (append-nil sent), record { now = All-nil (λ (f : Flight). f.at ≡ t); messages = refl })
launched_behind delays t sent (m ∷ ms) =
    let f = flight delays t (length sent) m in
    let later = launched_behind delays t (sent ++ f ∷ []) ms in (
      f ∷ later.0,
      later.1 ∙ append_assoc sent (f ∷ []) later.0,
      record { now = All-cons (λ (g : Flight). g.at ≡ t) f later.0 refl later.2.now; messages = ap (λ (xs : List DelayMessage). m ∷ xs) later.2.messages },
    )

-- ---- those of a tick

all_now : (t : ℤ) (fs : List Flight) → All (λ (f : Flight). f.at ≡ t) fs → flights_then fs t ≡ fs
all_now t [] now = refl
all_now t (f ∷ fs) now =
    let here = (Decides-int_eq f.at t).1 (All-head (λ (g : Flight). g.at ≡ t) f fs now) in
    let rest = all_now t fs (All-tail (λ (g : Flight). g.at ≡ t) f fs now) in
    rw here (ap (λ (gs : List Flight). f ∷ gs) rest)

none_now : (t s : ℤ) (fs : List Flight) → (s ≡ t → ⊥) → All (λ (f : Flight). f.at ≡ s) fs → flights_then fs t ≡ []
none_now t s [] apart now = refl
none_now t s (f ∷ fs) apart now = elim (cases_Bool (int_eq f.at t)) [
  | inl here ↦ absurd (apart (sym (All-head (λ (g : Flight). g.at ≡ s) f fs now) ∙ (Decides-int_eq f.at t).0 here))
  | inr other ↦ rw other (none_now t s fs apart (All-tail (λ (g : Flight). g.at ≡ s) f fs now))
]

-- what is launched at another tick is none of them
others_launched : (delays : ℕ → List ℤ) (t s : ℤ) (sent : List Flight) (ms : List DelayMessage) → (s ≡ t → ⊥) → flights_then (launched delays s sent ms) t ≡ flights_then sent t
others_launched delays t s sent ms apart =
    let new = launched_behind delays s sent ms in
    ap (λ (fs : List Flight). flights_then fs t) new.1
    ∙ filter-append (λ (f : Flight). int_eq f.at t) sent new.0
    ∙ ap (λ (fs : List Flight). flights_then sent t ++ fs) (none_now t s new.0 apart new.2.now)
    ∙ append-nil (flights_then sent t)

its_launched : (delays : ℕ → List ℤ) (t : ℤ) (sent : List Flight) (ms : List DelayMessage) → flights_then sent t ≡ [] → AreLaunched t ms (flights_then (launched delays t sent ms) t)
its_launched delays t sent ms none =
    let new = launched_behind delays t sent ms in
    let same : flights_then (launched delays t sent ms) t ≡ new.0 =
    ap (λ (fs : List Flight). flights_then fs t) new.1
    ∙ filter-append (λ (f : Flight). int_eq f.at t) sent new.0
    ∙ ap₂ (λ (fs gs : List Flight). fs ++ gs) none (all_now t new.0 new.2.now) in
    subst (AreLaunched t ms) (sym same) new.2

-- ---- tick by tick

earlier : (first : ℤ) (n m : ℕ) → (first +ℤ pos n) ≡ (first +ℤ pos (n + suc m)) → ⊥
earlier first n m e = omega (arith, ints, e)

none_before : (w : Setting) (side : Side) (first : ℤ) (n m : ℕ) → flights_then ((state w first n).sent side) (first +ℤ pos (n + m)) ≡ []
unfolding state after_tick
none_before w side first zero m = refl
none_before w side first (suc n) m =
    let count : suc n + m ≡ n + suc m = omega arith in
    let t : ℤ = first +ℤ pos (n + suc m) in
    let s = state w first n in
    let same = ap (λ (k : ℕ). flights_then (launched (w.delays side) (first +ℤ pos n) (s.sent side) ((hearing w (first +ℤ pos n) s).made (other side))) (first +ℤ pos k)) count in
    same
    ∙ others_launched (w.delays side) t (first +ℤ pos n) (s.sent side) ((hearing w (first +ℤ pos n) s).made (other side)) (earlier first n m)
    ∙ none_before w side first n (suc m)

launched_first : (w : Setting) (side : Side) (first : ℤ) (n : ℕ)
    → AreLaunched (first +ℤ pos n) ((hearing w (first +ℤ pos n) (state w first n)).made (other side)) (flights_then ((state w first (suc n)).sent side) (first +ℤ pos n))
unfolding state after_tick
launched_first w side first n =
    let t : ℤ = first +ℤ pos n in
    let s = state w first n in
    let count : n ≡ n + zero = omega arith in
    its_launched (w.delays side) t (s.sent side) ((hearing w t s).made (other side)) (ap (λ (k : ℕ). flights_then (s.sent side) (first +ℤ pos k)) count ∙ none_before w side first n zero)

none_later : (w : Setting) (side : Side) (first : ℤ) (n m : ℕ) → flights_then ((state w first (n + suc (suc m))).sent side) (first +ℤ pos n) ≡ flights_then ((state w first (n + suc m)).sent side) (first +ℤ pos n)
unfolding state after_tick
none_later w side first n m =
    let s = state w first (n + suc m) in
    let t : ℤ = first +ℤ pos (n + suc m) in
    let count : n + suc (suc m) ≡ suc (n + suc m) = omega arith in
    let now = ap (λ (k : ℕ). flights_then ((state w first k).sent side) (first +ℤ pos n)) count in
    now ∙ others_launched (w.delays side) (first +ℤ pos n) t (s.sent side) ((hearing w t s).made (other side)) (λ e. earlier first n m (sym e))

-- those of a tick among all that are sent are those of what the other unit made then
pub launched_then : (w : Setting) (side : Side) (first : ℤ) (n m : ℕ)
    → AreLaunched (first +ℤ pos n) ((hearing w (first +ℤ pos n) (state w first n)).made (other side)) (flights_then ((state w first (n + suc m)).sent side) (first +ℤ pos n))
launched_then w side first n zero =
    let count : suc n ≡ n + suc zero = omega arith in
    let t : ℤ = first +ℤ pos n in
    subst (λ (k : ℕ). AreLaunched t ((hearing w t (state w first n)).made (other side)) (flights_then ((state w first k).sent side) t)) count (launched_first w side first n)
launched_then w side first n (suc m) =
    let t : ℤ = first +ℤ pos n in
    subst (AreLaunched t ((hearing w t (state w first n)).made (other side))) (sym (none_later w side first n m)) (launched_then w side first n m)
