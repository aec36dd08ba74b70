-- The messages that the radio unit is to send are proper.
use Rattle.std.proofs.Common.{◌≡◌, ℕ, ℤ, pos, ◌<◌, ◌+ℤ◌, ◌≤ℤ◌, ◌<ℤ◌, Bool, true, false, List, [], ◌∷◌, refl, sym, subst}
use Rattle.std.specs.Prelude.{All, ◌==◌, cond, filter, if◌then◌else◌, map, reverse}
use Rattle.std.proofs.lemmas.Bool.{and_parts, eqb-true}
use Rattle.std.proofs.lemmas.List.{reverse-append}
use Rattle.std.proofs.lemmas.List.Elements.{All-nil, All-cons, All-head, All-tail, All-append}
use Rattle.fh_base.specs.Air.{air_of}
use Rattle.fh_base.specs.Carrier.{is_outside}
use Rattle.fh_base.specs.declared.values.Slot.{Slot}
use Rattle.window_config.specs.declared.delays.Delays.{Delays}
use Rattle.window_config.specs.declared.endpoints.EndpointConfig.{EndpointConfig}
use Rattle.air_source.specs.declared.events.Side.TheVariants.{Ru}
use Rattle.unit_model.specs.Commands.{accepted, allocation_of, command_verdict, is_uplink, with_accepted}
use Rattle.unit_model.specs.Claims.{is_from, same_slot}
use Rattle.fh_base.specs.Lists.{in_order, put_in}
use Rattle.unit_model.specs.Proper.{IsAt, IsProperAllocation, IsProperCommand, IsSlot}
use Rattle.unit_model.specs.ProperJobs.{IsProperJob}
use Rattle.unit_model.specs.Radiated.{first_clock}
use Rattle.unit_model.specs.Reports.{accepted_of, commands_of}
use Rattle.unit_model.specs.Uplink.{is_before, job_of, jobs, sends_in, symbol_jobs}
use Rattle.unit_model.specs.declared.allocations.Allocation.{Allocation}
use Rattle.unit_model.specs.declared.decoded.ControlSection.{ControlSection}
use Rattle.unit_model.specs.declared.jobs.UplinkJob.{UplinkJob}
use Rattle.unit_model.specs.declared.verdicts.CommandVerdict.{CommandVerdict}
use Rattle.unit_model.specs.declared.verdicts.CommandVerdict.TheVariants.{Mismatch, Late, Early, Range, Repeat, Overlap, Full, Accepted}
use Rattle.unit_model.proofs.VerdictLemmas.{accepted_proper}
use Rattle.unit_model.specs.Swept.{IsSwept}
use Rattle.unit_laws.proofs.DifferLemmas.{all_kept}
use Rattle.unit_laws.proofs.FarLemmas.{endpoints_equal}
use Rattle.unit_laws.proofs.HistoryLemmas.{commands_are_proper}
use Rattle.unit_model.proofs.SweepLemmas.{sweep_related}
use Rattle.unit_laws.specs.Sending.{JobsAreProper}
use Rattle.unit_laws.proofs.HistoryTicks.{before_next}
use Rattle.unit_model.proofs.ClaimLemmas.{same_slot_is as slots_equal}

-- ---- what was accepted

record IsSendable (es : List EndpointConfig) (a : Allocation) : Type 0 where
  proper : IsProperAllocation es a
  start_prb : a.start_prb < 1024

with_one : (P : Allocation → Type 0) (v : CommandVerdict) (a : Allocation) (earlier : List Allocation) → (v ≡ Accepted → P a) → All P earlier → All P (with_accepted v a earlier)
with_one P Mismatch a earlier here all = all
with_one P Late a earlier here all = all
with_one P Early a earlier here all = all
with_one P Range a earlier here all = all
with_one P Repeat a earlier here all = all
with_one P Overlap a earlier here all = all
with_one P Full a earlier here all = all
with_one P Accepted a earlier here all = All-cons P a earlier (here refl) all

all_sendable : (es : List EndpointConfig) (d : Delays) (cs : List ControlSection) → All (IsProperCommand es) cs → All (IsSendable es) (accepted d cs)
unfolding accepted
all_sendable es d [] h = All-nil (IsSendable es)
all_sendable es d (c ∷ earlier) h =
    let is = All-head (IsProperCommand es) c earlier h in
    with_one (IsSendable es) (command_verdict d (accepted d earlier) c) (allocation_of c) (accepted d earlier)
    (λ v. record { proper = accepted_proper es d (accepted d earlier) c is v; start_prb = is.start_prb })
    (all_sendable es d earlier (All-tail (IsProperCommand es) c earlier h))

-- ---- in any order

all_reverse : (P : Allocation → Type 0) (xs : List Allocation) → All P xs → All P (reverse xs)
all_reverse P [] h = h
all_reverse P (x ∷ xs) h =
    subst (All P) (sym (reverse-append (x ∷ []) xs))
    (All-append P (reverse xs) (x ∷ []) (all_reverse P xs (All-tail P x xs h)) (All-cons P x [] (All-head P x xs h) (All-nil P)))

all_put : (P : Allocation → Type 0) (below : Allocation → Allocation → Bool) (x : Allocation) (ys : List Allocation) → P x → All P ys → All P (put_in below x ys)
unfolding put_in
all_put P below x [] here h = All-cons P x [] here (All-nil P)
all_put P below x (y ∷ ys) here h = go (below y x) (all_put P below x ys here (All-tail P y ys h))
  where
    go : (b : Bool) → All P (put_in below x ys) → All P (if b then y ∷ put_in below x ys else x ∷ y ∷ ys)
    go true rest = All-cons P y (put_in below x ys) (All-head P y ys h) rest
    go false rest = All-cons P x (y ∷ ys) here h

all_ordered : (P : Allocation → Type 0) (below : Allocation → Allocation → Bool) (xs : List Allocation) → All P xs → All P (in_order below xs)
unfolding in_order
all_ordered P below [] h = All-nil P
all_ordered P below (x ∷ xs) h = all_put P below x (in_order below xs) (All-head P x xs h) (all_ordered P below xs (All-tail P x xs h))

-- what passes a test has what the test gives
all_filtered : (P Q : Allocation → Type 0) (p : Allocation → Bool) → ((a : Allocation) → P a → p a ≡ true → Q a) → (xs : List Allocation) → All P xs → All Q (filter p xs)
all_filtered P Q p f [] h = All-nil Q
all_filtered P Q p f (x ∷ xs) h = go (p x) refl (all_filtered P Q p f xs (All-tail P x xs h))
  where
    go : (b : Bool) → p x ≡ b → All Q (filter p xs) → All Q (cond b (x ∷ filter p xs) (filter p xs))
    go true is rest = All-cons Q x (filter p xs) (f x (All-head P x xs h) is) rest
    go false is rest = rest

all_mapped : (Q : Allocation → Type 0) (R : UplinkJob → Type 0) (f : Allocation → UplinkJob) → ((a : Allocation) → Q a → R (f a)) → (xs : List Allocation) → All Q xs
    → All R (map f xs)
all_mapped Q R f g [] h = All-nil R
all_mapped Q R f g (x ∷ xs) h = All-cons R (f x) (map f xs) (g x (All-head Q x xs h)) (all_mapped Q R f g xs (All-tail Q x xs h))

-- ---- of one symbol

-- a section that sends in a slot of this endpoint
record Sends (e : EndpointConfig) (slot : Slot) (a : Allocation) : Type 0 where
  in_slot : IsSlot e.numerology slot
  start_prb : a.start_prb < 1024
  prbs : is_outside e.prbs a.start_prb a.num_prb ≡ false

sends : (es : List EndpointConfig) (ep : ℕ) (e : EndpointConfig) (slot : Slot) (symbol : ℕ) → IsAt es ep e → (a : Allocation) → IsSendable es a
    → sends_in ep slot symbol a ≡ true → Sends e slot a
sends es ep e slot symbol at a is h =
    let one = and_parts (is_uplink a) _ h in
    let two = and_parts (a.ep == ep) _ one.1 in
    let three = and_parts (same_slot a.slot slot) (is_from a.symbol a.num_symbol symbol) two.1 in
    let same : a.endpoint ≡ e = endpoints_equal es a.ep ep a.endpoint e is.proper.endpoint at (eqb-true a.ep ep two.0) in
    record {
      in_slot = subst (λ (s : Slot). IsSlot e.numerology s) (slots_equal a.slot slot three.0) (subst (λ (x : EndpointConfig). IsSlot x.numerology a.slot) same is.proper.slot);
      start_prb = is.start_prb;
      prbs = subst (λ (x : EndpointConfig). is_outside x.prbs a.start_prb a.num_prb ≡ false) same is.proper.prbs;
    }

symbol_proper : (es : List EndpointConfig) (acc : List Allocation) (to : ℤ) (ep : ℕ) (e : EndpointConfig) (slot : Slot) (symbol : ℕ) (tick : ℤ) → All (IsSendable es) acc
    → first_clock ≤ℤ tick → tick <ℤ (to +ℤ pos 1) → IsSwept es ep e slot symbol tick → All (IsProperJob es to) (symbol_jobs acc ep e slot symbol)
unfolding symbol_jobs
symbol_proper es acc to ep e slot symbol tick all low high swept =
    let start = air_of e.numerology slot symbol in
    let p = sends_in ep slot symbol in
    all_mapped (Sends e slot) (IsProperJob es to) (job_of ep start slot symbol)
    (λ a is. record {
      endpoint = e;
      endpoint_is = swept.endpoint;
      slot = is.in_slot;
      symbol = swept.symbol_is;
      start_prb = is.start_prb;
      prbs = is.prbs;
      starts = refl;
      low = subst (λ (t : ℤ). first_clock ≤ℤ t) (sym swept.starts) low;
      high = subst (λ (t : ℤ). t ≤ℤ to) (sym swept.starts) (before_next tick to high);
    })
    (in_order is_before (filter p (reverse acc)))
    (all_ordered (Sends e slot) is_before (filter p (reverse acc))
    (all_filtered (IsSendable es) (Sends e slot) p (sends es ep e slot symbol swept.endpoint) (reverse acc) (all_reverse (IsSendable es) acc all)))

pub jobs_are_proper : JobsAreProper
unfolding jobs
jobs_are_proper c clock arrivals to came times =
    let es = c.endpoints in
    let acc = accepted_of c arrivals in
    let all : All (IsSendable es) acc = all_sendable es c.delays (commands_of Ru c arrivals) (commands_are_proper Ru c clock arrivals came times) in
    let g = symbol_jobs acc in
    sweep_related (λ xs ys. All (IsProperJob es to) xs) (all_kept (IsProperJob es to)) g g es first_clock (to +ℤ pos 1) (λ ep e slot symbol tick low high swept.
    symbol_proper es acc to ep e slot symbol tick all low high swept)
