-- What one more arrival leaves as it was.
use Rattle.std.proofs.Common.{◌≡◌, ℕ, ℤ, zero, suc, ◌+◌, ◌*◌, ◌<◌, ◌≤◌, ◌≤ℤ◌, List, ◌∷◌, Option, Some, None, refl, sym, ap, ◌∙◌, subst, arith}
use Rattle.std.specs.Prelude.{All, if◌then◌else◌}
use Rattle.std.specs.Int.Signed.{≤ℤ_refl}
use Rattle.fh_base.specs.Air.{air_of}
use Rattle.air_source.specs.declared.events.Side.{Side}
use Rattle.air_source.specs.declared.events.Side.TheVariants.{Ru, Du}
use Rattle.window_config.specs.declared.config.Config.{Config}
use Rattle.window_config.specs.declared.endpoints.EndpointConfig.{EndpointConfig}
use Rattle.unit_model.specs.Blocks.{timely}
use Rattle.unit_model.specs.Claims.{claim_at}
use Rattle.unit_model.specs.Commands.{accepted}
use Rattle.unit_model.specs.Meetings.{Arrival}
use Rattle.unit_model.specs.Proper.{IsProperCommand, IsProperData}
use Rattle.unit_model.specs.Radiated.{is_used, known_of, reported, used_below, used_mask}
use Rattle.unit_model.specs.Reports.{accepted_of, commands_of, data_of, hold_of, ru_known, timely_of}
use Rattle.unit_model.specs.Standing.{due, past_of}
use Rattle.unit_model.specs.Uplink.{jobs, symbol_jobs}
use Rattle.unit_model.specs.declared.cells.Claim.{Claim}
use Rattle.unit_model.specs.declared.decoded.ControlSection.{ControlSection}
use Rattle.unit_model.specs.declared.decoded.UserSection.{UserSection}
use Rattle.unit_laws.specs.Past.{IsInOrder}
use Rattle.unit_laws.proofs.ChangeLemmas.{claim_stays}
use Rattle.unit_laws.proofs.HistoryLemmas.{commands_are_proper, data_are_proper}
use Rattle.unit_laws.proofs.OrderLemmas.{commands_in_order}
use Rattle.unit_laws.proofs.PastLemmas.{command_leaves_jobs}
use Rattle.unit_laws.proofs.SentLemmas.{command_leaves_due, command_leaves_reported, command_leaves_sent, data_leave_due, data_leave_reported}
use Rattle.unit_laws.specs.Arriving.{ArrivalLeavesClaims, ArrivalLeavesDue, ArrivalLeavesJobs, ArrivalLeavesReported, ArrivalLeavesSent, ArrivalLeavesUse, IsNextArrival}
use Rattle.unit_laws.proofs.AddedLemmas.{IsAdded, all_leave, commands_added, data_added, in_front}
use Rattle.unit_laws.proofs.HistoryTicks.{same_then}

-- ---- what it adds is proper

record IsNewCommand (es : List EndpointConfig) (at : ℤ) (c : ControlSection) : Type 0 where
  came : c.at.0 ≡ at
  proper : IsProperCommand es c
  ordered : IsInOrder c

record IsNewData (es : List EndpointConfig) (at : ℤ) (d : UserSection) : Type 0 where
  came : d.last.0 ≡ at
  proper : IsProperData es d

new_commands : (c : Config) (a : Arrival) (arrivals : List Arrival) → IsNextArrival c a arrivals
    → IsAdded (IsNewCommand c.endpoints a.at) (commands_of Ru c arrivals) (commands_of Ru c (a ∷ arrivals))
new_commands c a arrivals next =
    let es = c.endpoints in
    let added = commands_added Ru es a arrivals in
    let earlier = commands_of Ru c arrivals in
    let proper =
    in_front (IsProperCommand es) added.front earlier
    (subst (All (IsProperCommand es)) added.is (commands_are_proper Ru c a.at (a ∷ arrivals) (≤ℤ_refl a.at, next.came) next.times)) in
    let ordered = in_front IsInOrder added.front earlier (subst (All IsInOrder) added.is (commands_in_order Ru es (a ∷ arrivals))) in
    record {
      front = added.front;
      is = added.is;
      all = λ i x at. record { came = added.all i x at; proper = proper i x at; ordered = ordered i x at };
    }

new_data : (side : Side) (c : Config) (a : Arrival) (arrivals : List Arrival) → IsNextArrival c a arrivals
    → IsAdded (IsNewData c.endpoints a.at) (data_of side c arrivals) (data_of side c (a ∷ arrivals))
new_data side c a arrivals next =
    let es = c.endpoints in
    let added = data_added side (hold_of side c.delays) es a arrivals in
    let proper =
    in_front (IsProperData es) added.front (data_of side c arrivals)
    (subst (All (IsProperData es)) added.is (data_are_proper side c a.at (a ∷ arrivals) (≤ℤ_refl a.at, next.came) next.times)) in
    record { front = added.front; is = added.is; all = λ i x at. record { came = added.all i x at; proper = proper i x at } }

-- ---- what is told by its time

-- so what each new section leaves, the arrival leaves
commands_leave : {X : Type 0} (c : Config) (a : Arrival) (arrivals : List Arrival) (f : List ControlSection → X) → IsNextArrival c a arrivals
    → ((x : ControlSection) (earlier : List ControlSection) → IsNewCommand c.endpoints a.at x → f (x ∷ earlier) ≡ f earlier)
    → f (commands_of Ru c (a ∷ arrivals)) ≡ f (commands_of Ru c arrivals)
commands_leave c a arrivals f next one =
    let added = new_commands c a arrivals next in
    ap f added.is ∙ all_leave (IsNewCommand c.endpoints a.at) f one added.front (commands_of Ru c arrivals) added.all

data_leave : {X : Type 0} (side : Side) (c : Config) (a : Arrival) (arrivals : List Arrival) (f : List UserSection → X) → IsNextArrival c a arrivals
    → ((x : UserSection) (earlier : List UserSection) → IsNewData c.endpoints a.at x → f (x ∷ earlier) ≡ f earlier)
    → f (data_of side c (a ∷ arrivals)) ≡ f (data_of side c arrivals)
data_leave side c a arrivals f next one =
    let added = new_data side c a arrivals next in
    ap f added.is ∙ all_leave (IsNewData c.endpoints a.at) f one added.front (data_of side c arrivals) added.all

past_then : (side : Side) (to at came : ℤ) → to ≤ℤ past_of side at → came ≡ at → to ≤ℤ past_of side came
past_then side to at came past is = subst (λ (t : ℤ). to ≤ℤ past_of side t) (sym is) past

pub arrival_leaves_due : ArrivalLeavesDue
arrival_leaves_due Ru c planned a arrivals heard to next past =
    let es = c.endpoints in
    let d = c.delays in
    let given = timely_of Ru c (a ∷ arrivals) in
    let claimed = accepted_of c arrivals in
    commands_leave c a arrivals (λ xs. due Ru d es (known_of (accepted d xs) given) heard to) next (λ x earlier is.
    command_leaves_due es d x earlier given heard to next.limits is.proper is.ordered (same_then to a.at x.at.0 past is.came))
    ∙ data_leave Ru c a arrivals (λ xs. due Ru d es (known_of claimed (timely Ru d xs)) heard to) next (λ x earlier is.
    data_leave_due Ru es d x earlier claimed heard to next.limits is.proper (past_then Ru to a.at x.last.0 past is.came))
arrival_leaves_due Du c planned a arrivals heard to next past =
    let es = c.endpoints in
    let d = c.delays in
    data_leave Du c a arrivals (λ xs. due Du d es (known_of planned (timely Du d xs)) heard to) next (λ x earlier is.
    data_leave_due Du es d x earlier planned heard to next.limits is.proper (past_then Du to a.at x.last.0 past is.came))

pub arrival_leaves_reported : ArrivalLeavesReported
arrival_leaves_reported Ru c planned a arrivals to next past =
    let es = c.endpoints in
    let d = c.delays in
    let given = timely_of Ru c (a ∷ arrivals) in
    let claimed = accepted_of c arrivals in
    commands_leave c a arrivals (λ xs. reported Ru d es (known_of (accepted d xs) given) to) next (λ x earlier is.
    command_leaves_reported es d x earlier given to next.limits is.proper is.ordered (same_then to a.at x.at.0 past is.came))
    ∙ data_leave Ru c a arrivals (λ xs. reported Ru d es (known_of claimed (timely Ru d xs)) to) next (λ x earlier is.
    data_leave_reported Ru es d x earlier claimed to next.limits is.proper (past_then Ru to a.at x.last.0 past is.came))
arrival_leaves_reported Du c planned a arrivals to next past =
    let es = c.endpoints in
    let d = c.delays in
    data_leave Du c a arrivals (λ xs. reported Du d es (known_of planned (timely Du d xs)) to) next (λ x earlier is.
    data_leave_reported Du es d x earlier planned to next.limits is.proper (past_then Du to a.at x.last.0 past is.came))

pub arrival_leaves_sent : ArrivalLeavesSent
arrival_leaves_sent c a arrivals to next past =
    commands_leave c a arrivals (λ xs. jobs c.endpoints (accepted c.delays xs) to) next (λ x earlier is.
    command_leaves_sent c.endpoints c.delays x earlier to next.limits is.proper is.ordered (same_then to a.at x.at.0 past is.came))

-- the messages of a symbol that starts by then
pub arrival_leaves_jobs : ArrivalLeavesJobs
arrival_leaves_jobs c a arrivals ep e slot symbol next at past =
    commands_leave c a arrivals (λ xs. symbol_jobs (accepted c.delays xs) ep e slot symbol) next (λ x earlier is.
    command_leaves_jobs c.endpoints c.delays x earlier ep e slot symbol next.limits is.proper is.ordered at
    (same_then (air_of e.numerology slot symbol) a.at x.at.0 past is.came))

-- ---- claims

pub arrival_leaves_claims : ArrivalLeavesClaims
arrival_leaves_claims c a arrivals cell re claim below there =
    let added = commands_added Ru c.endpoints a arrivals in
    ap (λ xs. claim_at (accepted c.delays xs) cell re) added.is ∙ claim_stays c.delays added.front (commands_of Ru c arrivals) cell re claim below there

abbrev bit_of : Option Claim → ℕ
bit_of o = if is_used o then 1 else 0

bit_stays : (old new : Option Claim) → ((claim : Claim) → old ≡ Some claim → new ≡ Some claim) → bit_of old ≤ bit_of new
bit_stays None new h = omega arith
bit_stays (Some claim) new h =
    let is : bit_of new ≡ bit_of (Some claim) = ap bit_of (h claim refl) in
    subst (λ (n : ℕ). bit_of (Some claim) ≤ n) (sym is) (omega arith)

twice_and_bit : (m n b d : ℕ) → m ≤ n → b ≤ d → 2 * m + b ≤ 2 * n + d
twice_and_bit m n b d h k = omega arith

used_grows : (old new : ℕ → Option Claim) (n : ℕ) → n ≤ 12 → ((re : ℕ) (claim : Claim) → re < 12 → old re ≡ Some claim → new re ≡ Some claim)
    → used_below old n ≤ used_below new n
unfolding used_below
used_grows old new zero small stay = omega arith
used_grows old new (suc n) small stay =
    twice_and_bit (used_below old n) (used_below new n) (bit_of (old n)) (bit_of (new n)) (used_grows old new n (omega arith) stay)
    (bit_stays (old n) (new n) (λ claim there. stay n claim (omega arith) there))

some_still : (m n : ℕ) → m ≤ n → 0 < m → 0 < n
some_still m n h k = omega arith

pub arrival_leaves_use : ArrivalLeavesUse
arrival_leaves_use c a arrivals cell used =
    let old = (ru_known c arrivals).claims cell in
    let new = (ru_known c (a ∷ arrivals)).claims cell in
    some_still (used_mask old) (used_mask new)
    (used_grows old new 12 (omega arith) (λ re claim below there. arrival_leaves_claims c a arrivals cell re claim below there)) used
