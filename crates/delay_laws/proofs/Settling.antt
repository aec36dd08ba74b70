-- What lands at a tick was sent before it.
use Rattle.std.proofs.Common.{◌≡◌, ℕ, zero, suc, ℤ, pos, ◌+◌, ◌+ℤ◌, ◌≤ℤ◌, ◌<ℤ◌, List, [], ◌∷◌, ◌++◌, length, refl, sym, ap, ◌∙◌, append_assoc, append-nil, arith}
use Rattle.std.specs.Prelude.{All}
use Rattle.std.specs.Ordering.{int_eq}
use Rattle.std.proofs.lemmas.Int.{ints}
use Rattle.std.proofs.lemmas.Bool.{false_from_ne_true}
use Rattle.std.proofs.lemmas.Bool.Decides.{Decides-int_eq}
use Rattle.std.proofs.lemmas.List.Elements.{All-head, All-tail}
use Rattle.air_source.specs.declared.events.Side.{Side}
use Rattle.delay_measure.specs.declared.message.DelayMessage.{DelayMessage}
use Rattle.delay_laws.specs.Ticks.{Flight, Setting, after_tick, copies_at, flight, hearing, landing, launched, state}
use Rattle.delay_laws.specs.Laws.{LandingIsSettled}
use Rattle.air_source.specs.Units.{other}

none_lands : (ds : List ℤ) (at : ℤ) (m : DelayMessage) (t : ℤ) → t ≤ℤ at → All (λ d. pos 0 <ℤ d) ds → copies_at ds at m t ≡ []
none_lands [] at m t later takes = refl
none_lands (d ∷ ds) at m t later takes =
    let some = All-head (λ (x : ℤ). pos 0 <ℤ x) d ds takes in
    let not_here = false_from_ne_true (int_eq (at +ℤ d) t) (λ is. let same = (Decides-int_eq (at +ℤ d) t).0 is in omega (arith, ints)) in
    let rest = none_lands ds at m t later (All-tail (λ (x : ℤ). pos 0 <ℤ x) d ds takes) in
    rw not_here rest

landing-append : (xs ys : List Flight) (t : ℤ) → landing (xs ++ ys) t ≡ landing xs t ++ landing ys t
landing-append [] ys t = refl
landing-append (x ∷ xs) ys t = ap (λ (ms : List DelayMessage). copies_at x.delays x.at x.message t ++ ms) (landing-append xs ys t) ∙ sym (append_assoc (copies_at x.delays x.at x.message t) (landing xs t) (landing ys t))

launched_lands : (delays : ℕ → List ℤ) (u t : ℤ) (sent : List Flight) (ms : List DelayMessage) → t ≤ℤ u → ((k : ℕ) → All (λ d. pos 0 <ℤ d) (delays k)) → landing (launched delays u sent ms) t ≡ landing sent t
launched_lands delays u t sent [] later takes = refl
launched_lands delays u t sent (m ∷ ms) later takes =
    let f : Flight = flight delays u (length sent) m in
    let none = none_lands f.delays u m t later (takes (length sent + 1)) in
    launched_lands delays u t (sent ++ f ∷ []) ms later takes ∙ landing-append sent (f ∷ []) t ∙ ap (λ (l : List DelayMessage). landing sent t ++ (l ++ [])) none ∙ append-nil (landing sent t)

one_more : (w : Setting) (first t : ℤ) (n : ℕ) (side : Side) → t ≤ℤ (first +ℤ pos n) → ((k : ℕ) → All (λ d. pos 0 <ℤ d) (w.delays side k)) → landing ((state w first (suc n)).sent side) t ≡ landing ((state w first n).sent side) t
unfolding state after_tick
one_more w first t n side later takes = launched_lands (w.delays side) (first +ℤ pos n) t ((state w first n).sent side) ((hearing w (first +ℤ pos n) (state w first n)).made (other side)) later takes

pub settled : LandingIsSettled
settled w side takes first n zero = ap (λ (k : ℕ). landing ((state w first k).sent side) (first +ℤ pos n)) (omega arith)
settled w side takes first n (suc m) =
    ap (λ (k : ℕ). landing ((state w first k).sent side) (first +ℤ pos n)) (omega arith)
    ∙ one_more w first (first +ℤ pos n) (n + m) side (omega (arith, ints)) takes
    ∙ settled w side takes first n m
