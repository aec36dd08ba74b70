-- What was received before a tick.
use Rattle.std.proofs.Common.{◌≡◌, ℕ, ℤ, pos, suc, ◌+ℤ◌, ◌-ℤ◌, ◌≤ℤ◌, true, List, [], ◌∷◌, refl, sym, ap, ◌∙◌, subst}
use Rattle.std.specs.Prelude.{All}
use Rattle.std.specs.Int.{int_gap}
use Rattle.std.specs.Ordering.{int_eq}
use Rattle.std.proofs.lemmas.Bool.Decides.{Decides-int_eq}
use Rattle.std.proofs.lemmas.Int.{by_lt_z}
use Rattle.std.proofs.lemmas.List.Elements.{All-nil, All-cons, All-filter, All-head, All-tail, All-weaker, filter_passes}
use Rattle.std.specs.Int.Signed.{≤ℤ_refl, <ℤ-≤ℤ_trans}
use Rattle.fh_base.specs.Lists.{onto}
use Rattle.unit_model.specs.Meetings.{Arrival}
use Rattle.unit_model.specs.Proper.{IsTime}
use Rattle.unit_model.specs.Radiated.{first_clock}
use Rattle.unit_model.specs.Standing.{AreInTime}
use Rattle.fh_base.proofs.OntoLemmas.{onto_none}
use Rattle.unit_laws.proofs.HistoryTicks.{last_is_earlier, last_of_next}
use Rattle.replay_laws.specs.Moments.{arrivals_before, arrivals_in, landing_at}
use Rattle.replay_laws.specs.Passing.{AreLandings, ArrivalsAreInTime, ArrivalsGoOn, CalmAddsNothing, IsCalm}
use Rattle.replay_laws.proofs.TickLemmas.{between, next_gap}
use Rattle.fh_base.proofs.Orders.{weak, at_most}
use Rattle.unit_model.proofs.InTimeLemmas.{in_time_later}
use Rattle.fh_base.proofs.EachLemmas.{gap_is, gap_none}

-- ---- one tick more

pub none_first : (landings : List Arrival) → arrivals_in landings 0 ≡ []
unfolding arrivals_in
none_first landings = refl

pub next_first : (landings : List Arrival) (n : ℕ) → arrivals_in landings (suc n) ≡ onto (arrivals_in landings n) (landing_at landings (first_clock +ℤ pos n))
unfolding arrivals_in
next_first landings n = refl

pub arrivals_go_on : ArrivalsGoOn
arrivals_go_on landings tick begun =
    let n = int_gap first_clock tick in
    ap (arrivals_in landings) (next_gap first_clock tick begun) ∙ next_first landings n
    ∙ ap (λ (t : ℤ). onto (arrivals_in landings n) (landing_at landings t)) (gap_is first_clock tick begun)

-- nothing was received before the clock began
pub none_yet : (landings : List Arrival) (tick : ℤ) → tick ≤ℤ first_clock → arrivals_before landings tick ≡ []
none_yet landings tick early = ap (arrivals_in landings) (gap_none first_clock tick early) ∙ none_first landings

pub calm_adds_nothing : CalmAddsNothing
calm_adds_nothing landings from to begun order calm =
    between (λ (t : ℤ). arrivals_before landings t ≡ arrivals_before landings from) from to order refl (λ t low high same.
    let earlier = arrivals_before landings t in
    arrivals_go_on landings t (at_most first_clock from t begun low)
    ∙ ap (onto earlier) (calm t low high)
    ∙ onto_none earlier ∙ same)

-- a part of a calm time is calm
pub calm_in_part : (landings : List Arrival) (from to end : ℤ) → to ≤ℤ end → IsCalm landings from end → IsCalm landings from to
calm_in_part landings from to end order calm t low high = calm t low (<ℤ-≤ℤ_trans high order)

-- ---- in the order of time

-- what lands at a tick has its time
pub landed_then : (landings : List Arrival) (tick : ℤ) → All (λ a. a.at ≡ tick) (landing_at landings tick)
landed_then landings tick =
    All-weaker (λ (a : Arrival). int_eq a.at tick ≡ true) (λ (a : Arrival). a.at ≡ tick) (λ a is. (Decides-int_eq a.at tick).0 is) (landing_at landings tick)
    (filter_passes (λ (a : Arrival). int_eq a.at tick) landings)

pub landed_times : (landings : List Arrival) (tick : ℤ) → AreLandings landings → All (λ a. IsTime a.at) (landing_at landings tick)
landed_times landings tick are = All-filter (λ (a : Arrival). int_eq a.at tick) (λ (a : Arrival). IsTime a.at) landings are.times

-- one more of this time
pub in_time_next : (at : ℤ) (x : Arrival) (earlier : List Arrival) → x.at ≡ at → AreInTime at earlier → AreInTime at (x ∷ earlier)
in_time_next at x earlier is came =
    (subst (λ (t : ℤ). t ≤ℤ at) (sym is) (≤ℤ_refl at), subst (λ (t : ℤ). AreInTime t earlier) (sym is) came)

in_time_onto : (at : ℤ) (earlier xs : List Arrival) → All (λ a. a.at ≡ at) xs → AreInTime at earlier → AreInTime at (onto earlier xs)
unfolding onto
in_time_onto at earlier [] same came = came
in_time_onto at earlier (x ∷ xs) same came =
    in_time_onto at (x ∷ earlier) xs (All-tail (λ (a : Arrival). a.at ≡ at) x xs same)
    (in_time_next at x earlier (All-head (λ (a : Arrival). a.at ≡ at) x xs same) came)

times_onto : (earlier xs : List Arrival) → All (λ a. IsTime a.at) xs → All (λ a. IsTime a.at) earlier → All (λ a. IsTime a.at) (onto earlier xs)
unfolding onto
times_onto earlier [] new old = old
times_onto earlier (x ∷ xs) new old =
    let P = λ (a : Arrival). IsTime a.at in
    times_onto (x ∷ earlier) xs (All-tail P x xs new) (All-cons P x earlier (All-head P x xs new) old)

abbrev AreProper : ℤ → List Arrival → Type 0
AreProper clock arrivals = AreInTime clock arrivals × All (λ a. IsTime a.at) arrivals

none_proper : (clock : ℤ) (arrivals : List Arrival) → arrivals ≡ [] → AreProper clock arrivals
none_proper clock arrivals none = subst (AreProper clock) (sym none) (tt, All-nil (λ (a : Arrival). IsTime a.at))

next_proper : (landings : List Arrival) (t : ℤ) → AreLandings landings → first_clock ≤ℤ t → AreProper (t -ℤ pos 1) (arrivals_before landings t)
    → AreProper ((t +ℤ pos 1) -ℤ pos 1) (arrivals_before landings (t +ℤ pos 1))
next_proper landings t are begun proper =
    let earlier = arrivals_before landings t in
    let new = landing_at landings t in
    let came = in_time_later (t -ℤ pos 1) t earlier (last_is_earlier t) proper.0 in
    let all : AreProper t (onto earlier new) =
    (in_time_onto t earlier new (landed_then landings t) came, times_onto earlier new (landed_times landings t are) proper.1) in
    subst (λ (clock : ℤ). AreProper clock (arrivals_before landings (t +ℤ pos 1))) (sym (last_of_next t))
    (subst (AreProper t) (sym (arrivals_go_on landings t begun)) all)

pub arrivals_in_time : ArrivalsAreInTime
arrivals_in_time landings tick are =
    by_lt_z tick first_clock (λ early. none_proper (tick -ℤ pos 1) (arrivals_before landings tick) (none_yet landings tick (weak tick first_clock early)))
    (λ begun. between (λ (t : ℤ). AreProper (t -ℤ pos 1) (arrivals_before landings t)) first_clock tick begun
    (none_proper (first_clock -ℤ pos 1) (arrivals_before landings first_clock) (none_yet landings first_clock (≤ℤ_refl first_clock)))
    (λ t low high proper. next_proper landings t are low proper))
