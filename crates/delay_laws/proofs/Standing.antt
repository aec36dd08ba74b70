-- A delay that was measured stays that of the one request of its id, whatever both units are told later.
use Rattle.std.proofs.Common.{◌≡◌, ℕ, ◌==◌, Bool, true, false, List, [], ◌∷◌, ◌++◌, sym, ap, ◌∙◌, subst, inl, inr}
use Rattle.std.specs.Prelude.{Contains, Some, ℤ}
use Rattle.std.proofs.lemmas.Bool.{cases_Bool}
use Rattle.std.proofs.lemmas.List.Elements.{All-weaker, Contains-append_left}
use Rattle.air_source.specs.declared.events.Side.{Side}
use Rattle.air_source.specs.declared.events.Side.TheVariants.{Ru, Du}
use Rattle.delay_measure.specs.declared.states.Exchange.{Exchange}
use Rattle.delay_measure.specs.After.{Told, id_of}
use Rattle.delay_measure.specs.declared.edge.Compensation.{Compensation}
use Rattle.delay_laws.specs.Nodes.{Heard, Measurement, Node, Timed, came_with, delay_then, is_request, measured, node_of, requests, told_node, with_node}
use Rattle.delay_measure.specs.Kept.{IsInRange}
use Rattle.delay_laws.specs.Runs.{IsRun, has_begun}
use Rattle.delay_laws.specs.Ticks.{IsPure, Setting, exchange_of, state}
use Rattle.delay_laws.proofs.Exchanges.{exchanges_told}
use Rattle.delay_laws.proofs.Lists.{no_requests, none_among, none_in, the_first, the_request}
use Rattle.delay_laws.proofs.Phases.{IsRemote, Phase, swapped}
use Rattle.delay_laws.proofs.Running.{remote_not}
use Rattle.delay_laws.proofs.Runs.{DelayIn, PhaseIn, delays_of_requests, phase_of}
use Rattle.delay_laws.proofs.Ticking.{sent_stays, ticks_run}
use Rattle.air_source.specs.Units.{other}

-- ---- what was received stays too

came_about : (c : Side → Compensation) (s side : Side) (told : Told) (ru du : Node) (x : Timed) → Contains (node_of side (record { ru = ru; du = du })).came x
    → Contains (node_of side (with_node s (told_node (c s) (node_of s (record { ru = ru; du = du })) told) (record { ru = ru; du = du }))).came x
came_about c Ru Ru told ru du x h = Contains-append_left ru.came (came_with told) x h
came_about c Ru Du told ru du x h = h
came_about c Du Ru told ru du x h = h
came_about c Du Du told ru du x h = Contains-append_left du.came (came_with told) x h

came_stays : (comps : Side → Compensation) (one : Heard) (heard : List Heard) (side : Side) (id : ℕ) (x : Timed) → Contains (node_of side (measured comps id heard)).came x → Contains (node_of side (measured comps id (one ∷ heard))).came x
came_stays comps one heard side id x h = elim (cases_Bool (id_of one.told == id)) [
  | inl is ↦ let more = came_about comps one.side side one.told (measured comps id heard).ru (measured comps id heard).du x h in rw is more
  | inr not_it ↦ rw not_it h
]

all_sent_stay : (comps : Side → Compensation) (later heard : List Heard) (side : Side) (id : ℕ) (x : Timed) → Contains (node_of side (measured comps id heard)).sent x → Contains (node_of side (measured comps id (later ++ heard))).sent x
all_sent_stay comps [] heard side id x h = h
all_sent_stay comps (one ∷ later) heard side id x h = sent_stays comps one (later ++ heard) side id x (all_sent_stay comps later heard side id x h)

all_came_stay : (comps : Side → Compensation) (later heard : List Heard) (side : Side) (id : ℕ) (x : Timed) → Contains (node_of side (measured comps id heard)).came x → Contains (node_of side (measured comps id (later ++ heard))).came x
all_came_stay comps [] heard side id x h = h
all_came_stay comps (one ∷ later) heard side id x h = came_stays comps one (later ++ heard) side id x (all_came_stay comps later heard side id x h)

-- ---- the request stays the only one

-- where the unit sent a request, no other was sent
abbrev pub IsOnly : Node → Node → Timed → Type 0
IsOnly asking answering request = (requests asking.sent ≡ request ∷ []) × (requests answering.sent ≡ [])

only_of : (b : Bool) (c1 c2 : Compensation) (asking answering : Node) (request : Timed) → Phase b c1 c2 asking answering → Contains asking.sent request → is_request request ≡ true → IsOnly asking answering request
only_of b c1 c2 asking answering request (inl h) among is = absurd (none_in request (subst (λ (n : Node). Contains n.sent request) h.mine among))
only_of b c1 c2 asking answering request (inr (inl h)) among is =
    absurd (none_among asking.sent request (no_requests asking.sent (All-weaker (λ (x : Timed). IsRemote x.message) (λ (x : Timed). is_request x ≡ false) remote_not asking.sent h.sent)) among is)
only_of b c1 c2 asking answering request (inr (inr (inl h))) among is = absurd (none_in request (subst (λ (n : Node). Contains n.sent request) h.yours among))
only_of b c1 c2 asking answering request (inr (inr (inr (inl h)))) among is =
    let same : request ≡ h.request = the_request asking.sent request h.request h.alone among is in
    (h.alone ∙ ap (λ (x : Timed). x ∷ []) (sym same), h.silent)
only_of b c1 c2 asking answering request (inr (inr (inr (inr h)))) among is = absurd (none_among asking.sent request h.silent among is)

only_in : (comps : Side → Compensation) (b : Bool) (m : Measurement) (side : Side) (request : Timed) → PhaseIn comps b m → Contains (node_of side m).sent request → is_request request ≡ true → IsOnly (node_of side m) (node_of (other side) m) request
only_in comps b m Ru request phase among is = only_of b (comps Ru) (comps Du) m.ru m.du request phase among is
only_in comps b m Du request phase among is = only_of b (comps Du) (comps Ru) m.du m.ru request (swapped b (comps Ru) (comps Du) m.ru m.du phase) among is

delay_stays : (comps : Side → Compensation) → ((side : Side) → IsInRange (comps side)) → (later heard : List Heard) (id : ℕ) (v : ℤ) → IsRun comps (later ++ heard) → DelayIn comps v (measured comps id heard) → DelayIn comps v (measured comps id (later ++ heard))
delay_stays comps are later heard id v run d =
    let side : Side = d.0 in
    let h = d.1 in
    let first = the_first (node_of side (measured comps id heard)).sent h.request h.alone in
    let among = all_sent_stay comps later heard side id h.request first.0 in
    let only = only_in comps (has_begun id (later ++ heard)) (measured comps id (later ++ heard)) side h.request (phase_of comps are id (later ++ heard) run) among first.1 in (
      side,
      record {
        request = h.request;
        alone = only.0;
        silent = only.1;
        copy = h.copy;
        came = all_came_stay comps later heard (other side) id h.copy h.came;
        same = h.same;
        later = h.later;
        value = h.value;
        near = h.near;
        exact = h.exact;
      },
    )

-- ---- tick by tick

run_front : (comps : Side → Compensation) (later heard : List Heard) → IsRun comps (later ++ heard) → IsRun comps heard
run_front comps [] heard run = run
run_front comps (one ∷ later) heard run = run_front comps later heard run.1

pub tick_has : (w : Setting) → IsPure w → ((side : Side) → IsInRange (w.comps side)) → (first : ℤ) (n : ℕ) (later : List Heard) (one : Heard) (earlier : List Heard) (v : ℤ)
    → (state w first n).heard ≡ later ++ (one ∷ earlier) → delay_then (w.comps one.side) (exchange_of w earlier one.side (id_of one.told)) one.told ≡ Some v → DelayIn w.comps v (measured w.comps (id_of one.told) (state w first n).heard)
tick_has w pure are first n later one earlier v is known =
    let id : ℕ = id_of one.told in
    let run : IsRun w.comps (later ++ (one ∷ earlier)) = subst (IsRun w.comps) is (ticks_run w pure first n) in
    let same : exchange_of w earlier one.side id ≡ (node_of one.side (measured w.comps id earlier)).exchange = sym (exchanges_told w.comps earlier one.side id) in
    let known' = sym (ap (λ (e : Exchange). delay_then (w.comps one.side) e one.told) same) ∙ known in
    let then = delays_of_requests w.comps earlier one v are (run_front w.comps later (one ∷ earlier) run) known' in
    subst (λ (all : List Heard). DelayIn w.comps v (measured w.comps id all)) (sym is) (delay_stays w.comps are later (one ∷ earlier) id v run then)
