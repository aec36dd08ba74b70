-- The fragments of what arrived were received in the order of time.
use Rattle.std.proofs.Common.{ℤ, ◌≤ℤ◌, List, [], ◌∷◌, ◌++◌, sym, subst}
use Rattle.std.specs.Prelude.{All}
use Rattle.std.proofs.lemmas.List.Elements.{All-head, All-tail}
use Rattle.std.specs.Int.Signed.{≤ℤ_refl}
use Rattle.air_source.specs.declared.events.Side.{Side}
use Rattle.ecpri_fragments.specs.Generations.{Fragment}
use Rattle.ecpri_frames.specs.Gathering.{whole_messages}
use Rattle.window_config.specs.declared.endpoints.EndpointConfig.{EndpointConfig}
use Rattle.fh_base.specs.Lists.{onto}
use Rattle.unit_model.specs.Meetings.{Arrival, Meeting, Ignored, Commands, Piece, fragments, meetings, met_in}
use Rattle.unit_model.specs.Standing.{AreInTime}
use Rattle.fh_base.proofs.Orders.{at_most}
use Rattle.unit_laws.proofs.AddedLemmas.{Came, all_came}

-- the newest first, none later than the clock, and none later than a newer one
abbrev pub AreFalling : ℤ → List Fragment → Type 0
AreFalling clock [] = Unit {0}
AreFalling clock (f ∷ earlier) = (f.at ≤ℤ clock) × AreFalling f.at earlier

pub falling_later : (clock later : ℤ) (fs : List Fragment) → clock ≤ℤ later → AreFalling clock fs → AreFalling later fs
falling_later clock later [] order h = tt
falling_later clock later (f ∷ fs) order h = (at_most f.at clock later h.0 order, h.1)

-- ---- all that was met

one_falling : (t : ℤ) (m : Meeting) (earlier : List Meeting) → AreFalling t (fragments earlier) → Came t m → AreFalling t (fragments (m ∷ earlier))
unfolding fragments
one_falling t (Ignored c) earlier h is = h
one_falling t (Commands cs) earlier h is = h
one_falling t (Piece e f) earlier h is =
    (subst (λ (z : ℤ). z ≤ℤ t) (sym is) (≤ℤ_refl t), subst (λ (z : ℤ). AreFalling z (fragments earlier)) (sym is) h)

falling_onto : (t : ℤ) (earlier xs : List Meeting) → AreFalling t (fragments earlier) → All (Came t) xs → AreFalling t (fragments (onto earlier xs))
unfolding onto
falling_onto t earlier [] h all = h
falling_onto t earlier (x ∷ xs) h all =
    falling_onto t (x ∷ earlier) xs (one_falling t x earlier h (All-head (Came t) x xs all)) (All-tail (Came t) x xs all)

pub met_falling : (side : Side) (es : List EndpointConfig) (clock : ℤ) (arrivals : List Arrival) → AreInTime clock arrivals → AreFalling clock (fragments (meetings side es arrivals))
unfolding meetings fragments
met_falling side es clock [] h = tt
met_falling side es clock (a ∷ earlier) h =
    let now = met_in side es a.at (whole_messages a.frame) in
    falling_later a.at clock (fragments (onto (meetings side es earlier) now)) h.0
    (falling_onto a.at (meetings side es earlier) now (met_falling side es a.at earlier h.1) (all_came side es a.at (whole_messages a.frame)))

-- the earlier ones
pub falling_behind : (clock : ℤ) (later ms : List Meeting) → AreFalling clock (fragments (later ++ ms)) → AreFalling clock (fragments ms)
unfolding fragments
falling_behind clock [] ms h = h
falling_behind clock (Ignored c ∷ later) ms h = falling_behind clock later ms h
falling_behind clock (Commands cs ∷ later) ms h = falling_behind clock later ms h
falling_behind clock (Piece e f ∷ later) ms h = falling_later f.at clock (fragments ms) h.0 (falling_behind f.at later ms h.1)
