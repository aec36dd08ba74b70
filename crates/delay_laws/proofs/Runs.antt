-- All that both units were told.
use Rattle.std.proofs.Common.{◌≡◌, ℕ, ℤ, ◌==◌, ◌||◌, Bool, true, false, List, [], ◌∷◌, Some, refl, sym, ap, subst, inl, inr}
use Rattle.std.proofs.lemmas.Bool.{cases_Bool, eq-eqb, eqb-true}
use Rattle.air_source.specs.declared.events.Side.{Side}
use Rattle.air_source.specs.declared.events.Side.TheVariants.{Ru, Du}
use Rattle.delay_measure.specs.declared.steps.Kind.{Kind}
use Rattle.delay_measure.specs.After.{Told, begins, comes, forgets, id_of}
use Rattle.delay_measure.specs.declared.edge.Compensation.{Compensation}
use Rattle.delay_laws.specs.Nodes.{Heard, Measurement, delay_then, measured, node_of, told_node, with_node}
use Rattle.delay_measure.specs.Kept.{IsInRange}
use Rattle.delay_laws.specs.Delays.{HasDelay}
use Rattle.delay_laws.specs.Runs.{IsNext, IsRun, has_begun, is_begin}
use Rattle.delay_laws.specs.Laws.{DelaysAreOfRequests}
use Rattle.delay_laws.proofs.Answering.{no_delay}
use Rattle.delay_laws.proofs.Phases.{Phase, swapped}
use Rattle.delay_laws.proofs.Running.{Delayed, begin_step, comes_step}
use Rattle.air_source.specs.Units.{other}

abbrev pub heard : Side → Told → Heard
heard side told = record { side = side; told = told }

abbrev pub PhaseIn : (Side → Compensation) → Bool → Measurement → Type 0
PhaseIn comps begun m = Phase begun (comps Ru) (comps Du) m.ru m.du

-- the measurement after one more that it is about
abbrev pub told_in : (Side → Compensation) → Side → Told → Measurement → Measurement
told_in comps side told m = with_node side (told_node (comps side) (node_of side m) told) m

begun_now : (t : ℤ) (id : ℕ) (kind : Kind) (side : Side) (earlier : List Heard) → has_begun id (heard side (begins t id kind) ∷ earlier) ≡ true
begun_now t id kind side earlier = let same = eq-eqb id id refl in rw same refl

about : (comps : Side → Compensation) → ((side : Side) → IsInRange (comps side)) → (earlier : List Heard) (side : Side) (told : Told) → IsNext comps earlier (heard side told)
    → PhaseIn comps (has_begun (id_of told) earlier) (measured comps (id_of told) earlier)
    → PhaseIn comps (has_begun (id_of told) (heard side told ∷ earlier)) (told_in comps side told (measured comps (id_of told) earlier))
about comps are earlier Ru (begins t id kind) next phase =
    let m : Measurement = measured comps id earlier in
    let now = begin_step (comps Ru) (comps Du) (has_begun id earlier) m.ru m.du t id kind next.late next.comes phase in
    subst (λ (b : Bool). PhaseIn comps b (told_in comps Ru (begins t id kind) m)) (sym (begun_now t id kind Ru earlier)) now
about comps are earlier Du (begins t id kind) next phase =
    let m : Measurement = measured comps id earlier in
    let now = begin_step (comps Du) (comps Ru) (has_begun id earlier) m.du m.ru t id kind next.late next.comes (swapped (has_begun id earlier) (comps Ru) (comps Du) m.ru m.du phase) in
    subst (λ (b : Bool). PhaseIn comps b (told_in comps Du (begins t id kind) m)) (sym (begun_now t id kind Du earlier)) (swapped true (comps Du) (comps Ru) (told_node (comps Du) m.du (begins t id kind)) m.ru now)
about comps are earlier Ru (comes t x) next phase =
    let m : Measurement = measured comps x.id earlier in
    (comes_step (comps Ru) (comps Du) (has_begun x.id earlier) m.ru m.du t next.comes.0 x (are Ru) (are Du) next.late next.comes.1 next.comes.2 phase).0
about comps are earlier Du (comes t x) next phase =
    let m : Measurement = measured comps x.id earlier in
    let now = comes_step (comps Du) (comps Ru) (has_begun x.id earlier) m.du m.ru t next.comes.0 x (are Du) (are Ru) next.late next.comes.1 next.comes.2 (swapped (has_begun x.id earlier) (comps Ru) (comps Du) m.ru m.du phase) in
    swapped (has_begun x.id earlier) (comps Du) (comps Ru) (told_node (comps Du) m.du (comes t x)) m.ru now.0
about comps are earlier side (forgets id) next phase = elim next.comes [ ]

pub measured_about : (comps : Side → Compensation) (one : Heard) (earlier : List Heard) → measured comps (id_of one.told) (one ∷ earlier) ≡ told_in comps one.side one.told (measured comps (id_of one.told) earlier)
measured_about comps one earlier = let same = eq-eqb (id_of one.told) (id_of one.told) refl in rw same refl

pub measured_besides : (comps : Side → Compensation) (id : ℕ) (one : Heard) (earlier : List Heard) → (id_of one.told == id) ≡ false → measured comps id (one ∷ earlier) ≡ measured comps id earlier
measured_besides comps id one earlier not_it = rw not_it refl

not_begun : (id : ℕ) (told : Told) → (id_of told == id) ≡ false → is_begin id told ≡ false
not_begun id (begins t i kind) not_it = not_it
not_begun id (comes t m) not_it = refl
not_begun id (forgets i) not_it = refl

begun_besides : (id : ℕ) (one : Heard) (earlier : List Heard) → (id_of one.told == id) ≡ false → has_begun id (one ∷ earlier) ≡ has_begun id earlier
begun_besides id one earlier not_it = ap (λ (b : Bool). b || has_begun id earlier) (not_begun id one.told not_it)

pub phase_of : (comps : Side → Compensation) → ((side : Side) → IsInRange (comps side)) → (id : ℕ) (all : List Heard) → IsRun comps all → PhaseIn comps (has_begun id all) (measured comps id all)
phase_of comps are id [] run = inl (record { mine = refl; yours = refl })
phase_of comps are id (one ∷ earlier) run = elim (cases_Bool (id_of one.told == id)) [
  | inl is ↦
      let before = phase_of comps are (id_of one.told) earlier run.1 in
      let now = about comps are earlier one.side one.told run.0 before in
      let here = subst (PhaseIn comps (has_begun (id_of one.told) (one ∷ earlier))) (sym (measured_about comps one earlier)) now in
      subst (λ (i : ℕ). PhaseIn comps (has_begun i (one ∷ earlier)) (measured comps i (one ∷ earlier))) (eqb-true (id_of one.told) id is) here
  | inr not_it ↦
      let before = phase_of comps are id earlier run.1 in
      let same = subst (λ (b : Bool). PhaseIn comps b (measured comps id earlier)) (sym (begun_besides id one earlier not_it)) before in
      subst (PhaseIn comps (has_begun id (one ∷ earlier))) (sym (measured_besides comps id one earlier not_it)) same
]

-- ---- delays

abbrev pub DelayIn : (Side → Compensation) → ℤ → Measurement → Type 0
DelayIn comps v m = (side : Side) × HasDelay (comps side) (comps (other side)) (node_of side m) (node_of (other side) m) v

of_ru : (comps : Side → Compensation) (v : ℤ) (m : Measurement) → Delayed (comps Ru) (comps Du) m.ru m.du v → DelayIn comps v m
of_ru comps v m (inl d) = (Ru, d)
of_ru comps v m (inr d) = (Du, d)

of_du : (comps : Side → Compensation) (v : ℤ) (m : Measurement) → Delayed (comps Du) (comps Ru) m.du m.ru v → DelayIn comps v m
of_du comps v m (inl d) = (Du, d)
of_du comps v m (inr d) = (Ru, d)

delayed : (comps : Side → Compensation) → ((side : Side) → IsInRange (comps side)) → (earlier : List Heard) (side : Side) (told : Told) → IsNext comps earlier (heard side told)
    → PhaseIn comps (has_begun (id_of told) earlier) (measured comps (id_of told) earlier) → (v : ℤ) → delay_then (comps side) (node_of side (measured comps (id_of told) earlier)).exchange told ≡ Some v
    → DelayIn comps v (told_in comps side told (measured comps (id_of told) earlier))
delayed comps are earlier side (begins t id kind) next phase v known = no_delay v known
delayed comps are earlier Ru (comes t x) next phase v known =
    let m : Measurement = measured comps x.id earlier in
    of_ru comps v (told_in comps Ru (comes t x) m) ((comes_step (comps Ru) (comps Du) (has_begun x.id earlier) m.ru m.du t next.comes.0 x (are Ru) (are Du) next.late next.comes.1 next.comes.2 phase).1 v known)
delayed comps are earlier Du (comes t x) next phase v known =
    let m : Measurement = measured comps x.id earlier in
    of_du comps v (told_in comps Du (comes t x) m)
    ((comes_step (comps Du) (comps Ru) (has_begun x.id earlier) m.du m.ru t next.comes.0 x (are Du) (are Ru) next.late next.comes.1 next.comes.2 (swapped (has_begun x.id earlier) (comps Ru) (comps Du) m.ru m.du phase)).1 v known)
delayed comps are earlier side (forgets id) next phase v known = elim next.comes [ ]

pub delays_of_requests : DelaysAreOfRequests
delays_of_requests comps earlier one v are run known =
    subst (DelayIn comps v) (sym (measured_about comps one earlier)) (delayed comps are earlier one.side one.told run.0 (phase_of comps are (id_of one.told) earlier run.1) v known)
