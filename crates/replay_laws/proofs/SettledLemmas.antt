-- What lands later changes nothing of what is reported, or sent, by now.
use Rattle.std.proofs.Common.{◌≡◌, ℤ, pos, ◌-ℤ◌, ◌≤ℤ◌, List, [], ◌∷◌, refl, sym, ap, ◌∙◌, subst, arith}
use Rattle.std.specs.Prelude.{All}
use Rattle.std.proofs.lemmas.List.Elements.{All-cons, All-head, All-tail}
use Rattle.air_source.specs.declared.events.Side.{Side}
use Rattle.air_source.specs.declared.events.Side.TheVariants.{Ru, Du}
use Rattle.std.proofs.lemmas.Int.{ints}
use Rattle.window_config.specs.Configs.{IsConfig}
use Rattle.window_config.specs.Limits.{IsWithinLimits}
use Rattle.window_config.specs.declared.config.Config.{Config}
use Rattle.fh_base.specs.Lists.{onto}
use Rattle.unit_model.specs.Meetings.{Arrival}
use Rattle.unit_model.specs.Proper.{IsTime}
use Rattle.unit_model.specs.Radiated.{first_clock}
use Rattle.unit_model.specs.Reports.{accepted_of}
use Rattle.unit_model.specs.Standing.{AreInTime, past_of}
use Rattle.unit_model.specs.Uplink.{jobs}
use Rattle.unit_laws.specs.Arriving.{IsNextArrival}
use Rattle.unit_laws.proofs.ArrivingLemmas.{arrival_leaves_reported, arrival_leaves_sent}
use Rattle.unit_laws.proofs.HistoryTicks.{last_is_earlier, later_then}
use Rattle.replay_laws.specs.Moments.{arrivals_before, landing_at}
use Rattle.replay_laws.specs.Traffic.{reported_at}
use Rattle.replay_laws.specs.Passing.{AreLandings, MessagesAreSettled, ReportedIsSettled}
use Rattle.replay_laws.proofs.CameLemmas.{arrivals_go_on, arrivals_in_time, in_time_next, landed_then, landed_times}
use Rattle.replay_laws.proofs.TickLemmas.{between}
use Rattle.fh_base.proofs.Orders.{at_most}
use Rattle.unit_model.proofs.InTimeLemmas.{in_time_later}

-- what an arrival of this tick leaves as it was
abbrev Leaves : {X : Type 0} → Config → (List Arrival → X) → ℤ → Type 0
Leaves c f tick = (a : Arrival) (earlier : List Arrival) → IsNextArrival c a earlier → a.at ≡ tick → f (a ∷ earlier) ≡ f earlier

-- all arrivals of the tick leave it
all_of_tick : {X : Type 0} (c : Config) (f : List Arrival → X) (tick : ℤ) → IsWithinLimits c.delays → Leaves c f tick
    → (earlier xs : List Arrival) → All (λ a. a.at ≡ tick) xs → All (λ a. IsTime a.at) xs → AreInTime tick earlier → All (λ a. IsTime a.at) earlier
    → f (onto earlier xs) ≡ f earlier
unfolding onto
all_of_tick c f tick limits one earlier [] same new came old = refl
all_of_tick c f tick limits one earlier (x ∷ xs) same new came old =
    let S = λ (a : Arrival). a.at ≡ tick in
    let P = λ (a : Arrival). IsTime a.at in
    let is = All-head S x xs same in
    let times = All-cons P x earlier (All-head P x xs new) old in
    let next : IsNextArrival c x earlier =
    record { limits = limits; came = subst (λ (t : ℤ). AreInTime t earlier) (sym is) came; times = times } in
    all_of_tick c f tick limits one (x ∷ earlier) xs (All-tail S x xs same) (All-tail P x xs new) (in_time_next tick x earlier is came) times
    ∙ one x earlier next is

-- what each arrival from a tick on leaves, all that lands from then on leaves
settled : {X : Type 0} (c : Config) (landings : List Arrival) (f : List Arrival → X) (tick later : ℤ) → IsConfig c → AreLandings landings
    → first_clock ≤ℤ tick → tick ≤ℤ later → ((t : ℤ) → tick ≤ℤ t → Leaves c f t)
    → f (arrivals_before landings later) ≡ f (arrivals_before landings tick)
settled c landings f tick later config are begun order one =
    between (λ (t : ℤ). f (arrivals_before landings t) ≡ f (arrivals_before landings tick)) tick later order refl (λ t low high same.
    let earlier = arrivals_before landings t in
    let proper = arrivals_in_time landings t are in
    ap f (arrivals_go_on landings t (at_most first_clock tick t begun low))
    ∙ all_of_tick c f t config.delays (one t low) earlier (landing_at landings t) (landed_then landings t) (landed_times landings t are)
    (in_time_later (t -ℤ pos 1) t earlier (last_is_earlier t) proper.0) proper.1
    ∙ same)

past_then : (side : Side) (to tick t at : ℤ) → to ≤ℤ past_of side tick → tick ≤ℤ t → at ≡ t → to ≤ℤ past_of side at
past_then Ru to tick t at past low is = later_then to tick t at past low is
past_then Du to tick t at past low is = subst (λ (u : ℤ). to ≤ℤ (u -ℤ pos 1)) (sym is) (at_most to (tick -ℤ pos 1) (t -ℤ pos 1) past (less tick t low))
  where
    less : (a b : ℤ) → a ≤ℤ b → (a -ℤ pos 1) ≤ℤ (b -ℤ pos 1)
    less a b h = omega (arith, ints)

pub reported_settled : ReportedIsSettled
reported_settled side c planned landings to tick later config are begun past order =
    settled c landings (λ (xs : List Arrival). reported_at side c planned xs to) tick later config are begun order (λ t low a earlier next is.
    arrival_leaves_reported side c planned a earlier to next (past_then side to tick t a.at past low is))

pub messages_settled : MessagesAreSettled
messages_settled c landings to tick later config are begun past order =
    settled c landings (λ (xs : List Arrival). jobs c.endpoints (accepted_of c xs) to) tick later config are begun order (λ t low a earlier next is.
    arrival_leaves_sent c a earlier to next (later_then to tick t a.at past low is))
