-- The jobs of the uplink lines of a plan are the parts of its uplink stream, and are in the order of starts and endpoints.
use Rattle.std.proofs.Common.{◌≡◌, ℕ, ℤ, pos, zero, suc, ◌+◌, ◌<◌, ◌≤◌, ◌+ℤ◌, ◌≤ℤ◌, ◌<ℤ◌, inl, inr, Bool, true, false, ◌==◌, List, [], ◌∷◌, ◌++◌, map, refl, ap, ap₂, sym, ◌∙◌, subst, arith, append-nil}
use Rattle.std.specs.Prelude.{filter, reverse}
use Rattle.std.specs.Int.{int_gap}
use Rattle.std.proofs.lemmas.Bool.{and_parts, eq-eqb, eqb-true, ne_eqb}
use Rattle.std.proofs.lemmas.Int.{ints}
use Rattle.std.proofs.lemmas.List.{map-append, reverse-reverse}
use Rattle.std.proofs.lemmas.List.Elements.{filter-append}
use Rattle.fh_base.specs.Air.{air_of}
use Rattle.fh_base.specs.Numbering.{IsSlotOf, symbols_of}
use Rattle.fh_base.specs.declared.values.Slot.{Slot}
use Rattle.window_config.specs.declared.endpoints.EndpointConfig.{EndpointConfig}
use Rattle.unit_model.specs.Claims.{is_from, same_slot}
use Rattle.unit_model.specs.Commands.{is_uplink}
use Rattle.fh_base.specs.Lists.{each_tick, in_order}
use Rattle.unit_model.specs.Proper.{IsAt}
use Rattle.unit_model.specs.Radiated.{first_clock}
use Rattle.unit_model.specs.Sweeps.{OfSymbol, at_tick, of_endpoint, of_endpoints, sweep}
use Rattle.unit_model.specs.Times.{end_of_time}
use Rattle.unit_model.specs.Uplink.{is_before, job_of, jobs, sends_in, symbol_jobs}
use Rattle.unit_model.specs.declared.allocations.Allocation.{Allocation}
use Rattle.unit_model.specs.declared.jobs.UplinkJob.{UplinkJob}
use Rattle.unit_laws.proofs.FarLemmas.{endpoints_equal}
use Rattle.unit_model.proofs.SweepLemmas.{IsKept, at_tick_related, each_tick_related, of_endpoint_related, sweep_related}
use Rattle.plan_model.specs.Lines.{line_allocation}
use Rattle.plan_model.specs.Streams.{Part, line_before, part_in, parts_in, symbol_parts}
use Rattle.plan_model.specs.declared.lines.PlannedLine.{PlannedLine}
use Rattle.plan_model.specs.declared.streams.Stream.TheVariants.{UpData}
use Rattle.plan_model.proofs.SweptLists.{IsAll, all_kept, of_symbols}
use Rattle.uplink_laws.specs.Streams.{job_for, planned_allocations}
use Rattle.uplink_laws.proofs.ListLemmas.{filter_all, filter_none, map_map, map_same, of_order, order_all, order_mapped}
use Rattle.unit_model.proofs.ClaimLemmas.{same_slot_is as slots_equal}
use Rattle.fh_base.specs.Members.{IsIn}
use Rattle.fh_base.proofs.MemberLemmas.{in_either, of_filter, filter_mapped, InOrder, order_join}
use Rattle.fh_base.proofs.MadeLists.{of_map}

-- ---- what each job is of

pub symbol_job : (accepted : List Allocation) (ep : ℕ) (e : EndpointConfig) (slot : Slot) (symbol : ℕ) (j : UplinkJob) → IsIn j (symbol_jobs accepted ep e slot symbol)
    → (a : Allocation) × (j ≡ job_of ep (air_of e.numerology slot symbol) slot symbol a)
unfolding symbol_jobs
symbol_job accepted ep e slot symbol j m =
    let w = of_map (job_of ep (air_of e.numerology slot symbol) slot symbol) j (in_order is_before (filter (sends_in ep slot symbol) (reverse accepted))) m in
    (w.0, w.2)

-- it starts with its symbol
pub record IsTimed (es : List EndpointConfig) (j : UplinkJob) : Type 0 where
  pub endpoint : EndpointConfig
  pub at : IsAt es j.ep endpoint
  pub starts : j.s.0 ≡ air_of endpoint.numerology j.slot j.symbol

-- it is of a symbol that starts in these ticks
pub record IsSweptJob (es : List EndpointConfig) (from end : ℤ) (j : UplinkJob) : Type 0 where
  pub endpoint : EndpointConfig
  pub at : IsAt es j.ep endpoint
  pub slot : IsSlotOf endpoint.numerology j.slot
  pub symbol : j.symbol < symbols_of endpoint.numerology
  pub starts : j.s.0 ≡ air_of endpoint.numerology j.slot j.symbol
  pub low : from ≤ℤ j.s.0
  pub high : j.s.0 <ℤ end

pub timed_job : (es : List EndpointConfig) (from end : ℤ) (j : UplinkJob) → IsSweptJob es from end j → IsTimed es j
timed_job es from end j w = record { endpoint = w.endpoint; at = w.at; starts = w.starts }

-- ---- one endpoint's

-- at a tick
module _ (g : OfSymbol UplinkJob) (own : (ep : ℕ) (e : EndpointConfig) (slot : Slot) (symbol : ℕ) (j : UplinkJob) → IsIn j (g ep e slot symbol) → j.ep ≡ ep) where
  one_own : (ep : ℕ) (e : EndpointConfig) (t : ℤ) (j : UplinkJob) → IsIn j (of_endpoint (g ep e) e t) → j.ep ≡ ep
  one_own ep e t =
      of_endpoint_related (IsAll (λ (j : UplinkJob). j.ep ≡ ep)) (all_kept (λ (j : UplinkJob). j.ep ≡ ep)) (g ep e) (g ep e) e t
      (λ slot symbol low high is_slot is_symbol starts. own ep e slot symbol)

  other_own : (ep start : ℕ) (e : EndpointConfig) (t : ℤ) (j : UplinkJob) → ep < start → IsIn j (of_endpoint (g start e) e t) → (j.ep == ep) ≡ false
  other_own ep start e t j h m = let o = one_own start e t j m in ne_eqb j.ep ep (λ same. omega (arith, h, o, same))

  none_behind : (ep start : ℕ) (es : List EndpointConfig) (t : ℤ) → ep < start → filter (λ j. j.ep == ep) (of_endpoints g start es t) ≡ []
  unfolding of_endpoints
  none_behind ep start [] t h = refl
  none_behind ep start (e ∷ es) t h =
      filter-append (λ (j : UplinkJob). j.ep == ep) (of_endpoint (g start e) e t) (of_endpoints g (start + 1) es t)
      ∙ ap₂ ◌++◌ (filter_none (λ (j : UplinkJob). j.ep == ep) (of_endpoint (g start e) e t) (λ j. other_own ep start e t j h)) (none_behind ep (start + 1) es t (omega arith))

  pub one_of_tick : (ep start i : ℕ) (es : List EndpointConfig) (e : EndpointConfig) (t : ℤ) → ep ≡ start + i → IsAt es i e
      → filter (λ j. j.ep == ep) (of_endpoints g start es t) ≡ of_endpoint (g ep e) e t
  unfolding of_endpoints
  one_of_tick ep start i [] e t is at = absurd cc
  one_of_tick ep start zero (f ∷ fs) e t is at =
      let same : f ≡ e = cc in
      let here : start ≡ ep = omega (arith, is) in
      filter-append (λ (j : UplinkJob). j.ep == ep) (of_endpoint (g start f) f t) (of_endpoints g (start + 1) fs t)
      ∙ ap₂ ◌++◌ (filter_all (λ (j : UplinkJob). j.ep == ep) (of_endpoint (g start f) f t) (λ j m. eq-eqb j.ep ep (one_own start f t j m ∙ here)))
      (none_behind ep (start + 1) fs t (omega (arith, here)))
      ∙ append-nil (of_endpoint (g start f) f t)
      ∙ ap₂ (λ k (x : EndpointConfig). of_endpoint (g k x) x t) here same
  one_of_tick ep start (suc i) (f ∷ fs) e t is at =
      filter-append (λ (j : UplinkJob). j.ep == ep) (of_endpoint (g start f) f t) (of_endpoints g (start + 1) fs t)
      ∙ ap₂ ◌++◌ (filter_none (λ (j : UplinkJob). j.ep == ep) (of_endpoint (g start f) f t) (λ j m. before j (one_own start f t j m)))
      (one_of_tick ep (start + 1) i fs e t (omega (arith, is)) at)
    where
      before : (j : UplinkJob) → j.ep ≡ start → (j.ep == ep) ≡ false
      before j o = ne_eqb j.ep ep (λ same. omega (arith, is, o, same))

-- ---- of a plan's lines

module _ (es : List EndpointConfig) (ps : List PlannedLine) (stand : (p : PlannedLine) → IsIn p ps → IsAt es p.ep p.endpoint) where
  -- a line that sends in a symbol is there the part's job
  one_job : (ep : ℕ) (e : EndpointConfig) (slot : Slot) (symbol : ℕ) (p : PlannedLine) → IsAt es ep e → IsAt es p.ep p.endpoint → sends_in ep slot symbol (line_allocation p) ≡ true
      → job_of ep (air_of e.numerology slot symbol) slot symbol (line_allocation p) ≡ job_for (part_in symbol p)
  one_job ep e slot symbol p at place sends =
      let one = and_parts (is_uplink (line_allocation p)) _ sends in
      let two = and_parts (p.ep == ep) _ one.1 in
      let three = and_parts (same_slot p.line.slot slot) (is_from p.line.symbol p.line.count symbol) two.1 in
      let ep_is : p.ep ≡ ep = eqb-true p.ep ep two.0 in
      let endpoint_is : p.endpoint ≡ e = endpoints_equal es p.ep ep p.endpoint e place at ep_is in
      let slot_is : p.line.slot ≡ slot = slots_equal p.line.slot slot three.0 in
      ap (λ (k : ℕ). job_of k (air_of e.numerology slot symbol) slot symbol (line_allocation p)) (sym ep_is)
      ∙ ap (λ (f : EndpointConfig). job_of p.ep (air_of f.numerology slot symbol) slot symbol (line_allocation p)) (sym endpoint_is)
      ∙ ap (λ (s : Slot). job_of p.ep (air_of p.endpoint.numerology s symbol) s symbol (line_allocation p)) (sym slot_is)

  symbol_is : (ep : ℕ) (e : EndpointConfig) (slot : Slot) (symbol : ℕ) → IsAt es ep e
      → symbol_jobs (planned_allocations ps) ep e slot symbol ≡ map job_for (symbol_parts UpData ps ep slot symbol)
  unfolding symbol_jobs symbol_parts
  symbol_is ep e slot symbol at =
      let make : Allocation → UplinkJob = job_of ep (air_of e.numerology slot symbol) slot symbol in
      let test : Allocation → Bool = sends_in ep slot symbol in
      let sent : List PlannedLine = filter (λ (p : PlannedLine). test (line_allocation p)) ps in
      ap (λ (xs : List Allocation). map make (in_order is_before (filter test xs))) (reverse-reverse (map line_allocation ps))
      ∙ ap (λ (xs : List Allocation). map make (in_order is_before xs)) (filter_mapped line_allocation test ps)
      ∙ ap (λ (xs : List Allocation). map make xs) (order_mapped line_allocation is_before sent)
      ∙ map_map line_allocation make (in_order line_before sent)
      ∙ map_same (λ (p : PlannedLine). make (line_allocation p)) (λ (p : PlannedLine). job_for (part_in symbol p)) (in_order line_before sent) (λ p m.
      (let w = of_filter (λ (q : PlannedLine). test (line_allocation q)) p ps (of_order line_before p sent m) in
      one_job ep e slot symbol p at (stand p w.0) w.1))
      ∙ sym (map_map (part_in symbol) job_for (in_order line_before sent))

  -- what an endpoint's jobs are of its parts
  abbrev AreJobs : ℕ → List UplinkJob → List Part → Type 0
  AreJobs ep js xs = filter (λ j. j.ep == ep) js ≡ map job_for xs

  jobs_kept : (ep : ℕ) → IsKept {A = UplinkJob} {B = Part} (AreJobs ep)
  jobs_kept ep = record {
    none = refl;
    more = λ js js' xs xs' p q. filter-append (λ (j : UplinkJob). j.ep == ep) js js' ∙ ap₂ ◌++◌ p q ∙ sym (map-append job_for xs xs');
  }

  same_kept : IsKept {A = UplinkJob} {B = Part} (λ js xs. js ≡ map job_for xs)
  same_kept = record {
    none = refl;
    more = λ js js' xs xs' p q. ap₂ ◌++◌ p q ∙ sym (map-append job_for xs xs');
  }

  pub jobs_of_parts : (ep : ℕ) (e : EndpointConfig) → IsAt es ep e
      → filter (λ j. j.ep == ep) (jobs es (planned_allocations ps) end_of_time) ≡ map job_for (parts_in ps UpData ep e)
  unfolding jobs sweep parts_in
  jobs_of_parts ep e at =
      let g = symbol_jobs (planned_allocations ps) in
      let h = symbol_parts UpData ps ep in
      each_tick_related (AreJobs ep) (jobs_kept ep) first_clock (int_gap first_clock (end_of_time +ℤ pos 1)) (at_tick g es) (of_endpoint h e) (λ t low high.
      one_of_tick g (λ k f slot symbol j m. (let w = symbol_job (planned_allocations ps) k f slot symbol j m in ap (λ (x : UplinkJob). x.ep) w.1)) ep 0 ep es e t (omega arith) at
      ∙ of_endpoint_related (λ (js : List UplinkJob) (xs : List Part). js ≡ map job_for xs) same_kept (g ep e) h e t (λ slot symbol frame_low frame_high is_slot is_symbol starts.
      symbol_is ep e slot symbol at))

-- a part of an endpoint's uplink stream is of one of its lines
module _ (ps : List PlannedLine) (ep : ℕ) (e : EndpointConfig) where
  abbrev IsOwnPart : Part → Type 0
  IsOwnPart x = IsIn x.planned ps × (x.planned.ep ≡ ep)

  symbol_part : (slot : Slot) (symbol : ℕ) (x : Part) → IsIn x (symbol_parts UpData ps ep slot symbol) → IsOwnPart x
  unfolding symbol_parts
  symbol_part slot symbol x m =
      let sent : List PlannedLine = filter (λ (p : PlannedLine). sends_in ep slot symbol (line_allocation p)) ps in
      let w = of_map (part_in symbol) x (in_order line_before sent) m in
      let v = of_filter (λ (p : PlannedLine). sends_in ep slot symbol (line_allocation p)) w.0 ps (of_order line_before w.0 sent w.1) in
      let one = and_parts (is_uplink (line_allocation w.0)) _ v.1 in
      let two = and_parts (w.0.ep == ep) _ one.1 in
      subst IsOwnPart (sym w.2) (v.0, eqb-true w.0.ep ep two.0)

  pub up_part : (x : Part) → IsIn x (parts_in ps UpData ep e) → IsOwnPart x
  unfolding parts_in
  up_part = of_symbols IsOwnPart (symbol_parts UpData ps ep) e (λ slot symbol is_slot is_symbol. symbol_part slot symbol)

-- ---- the order of jobs

-- it starts no later, and of those that start with it, it is of no later endpoint
pub record MayPrecede (x y : UplinkJob) : Type 0 where
  pub start : x.s.0 ≤ℤ y.s.0
  pub ep : x.s.0 ≡ y.s.0 → x.ep ≤ y.ep

same_start : (x y : UplinkJob) (t : ℤ) → x.s.0 ≡ t → y.s.0 ≡ t → x.ep ≤ y.ep → MayPrecede x y
same_start x y t p q h = record { start = le x.s.0 y.s.0 t p q; ep = λ e. h }
  where
    le : (a b c : ℤ) → a ≡ c → b ≡ c → a ≤ℤ b
    le a b c p q = omega (arith, ints, p, q)

later_start : (x y : UplinkJob) (t : ℤ) → x.s.0 ≡ t → (t +ℤ pos 1) ≤ℤ y.s.0 → MayPrecede x y
later_start x y t p q = record { start = le x.s.0 y.s.0 t p q; ep = λ e. absurd (no x.s.0 y.s.0 t p q e) }
  where
    le : (a b c : ℤ) → a ≡ c → (c +ℤ pos 1) ≤ℤ b → a ≤ℤ b
    le a b c p q = omega (arith, ints, p, q)

    no : (a b c : ℤ) → a ≡ c → (c +ℤ pos 1) ≤ℤ b → a ≡ b → ⊥
    no a b c p q e = omega (arith, ints, p, q, e)

module _ (accepted : List Allocation) (es : List EndpointConfig) where
  abbrev told : OfSymbol UplinkJob
  told = symbol_jobs accepted

  at_start : (ep : ℕ) (e : EndpointConfig) (t : ℤ) (j : UplinkJob) → IsIn j (of_endpoint (told ep e) e t) → (j.s.0 ≡ t) × (j.ep ≡ ep)
  at_start ep e t =
      of_endpoint_related (IsAll (λ (j : UplinkJob). (j.s.0 ≡ t) × (j.ep ≡ ep))) (all_kept (λ (j : UplinkJob). (j.s.0 ≡ t) × (j.ep ≡ ep))) (told ep e) (told ep e) e t
      (λ slot symbol low high is_slot is_symbol starts j m.
      (let w = symbol_job accepted ep e slot symbol j m in (ap (λ (x : UplinkJob). x.s.0) w.1 ∙ starts, ap (λ (x : UplinkJob). x.ep) w.1)))

  pub at_starts : (start : ℕ) (fs : List EndpointConfig) (t : ℤ) (j : UplinkJob) → IsIn j (of_endpoints told start fs t) → (j.s.0 ≡ t) × (start ≤ j.ep)
  unfolding of_endpoints
  at_starts start [] t j m = absurd m
  at_starts start (e ∷ fs) t j m = elim (in_either j (of_endpoint (told start e) e t) (of_endpoints told (start + 1) fs t) m) [
    | inl l ↦ (let w = at_start start e t j l in let o = w.1 in (w.0, omega (arith, o)))
    | inr r ↦ (let w = at_starts (start + 1) fs t j r in let o = w.1 in (w.0, omega (arith, o)))
  ]

  tick_order : (start : ℕ) (fs : List EndpointConfig) (t : ℤ) → InOrder MayPrecede (of_endpoints told start fs t)
  unfolding of_endpoints
  tick_order start [] t = tt
  tick_order start (e ∷ fs) t =
      order_join MayPrecede (of_endpoint (told start e) e t) (of_endpoints told (start + 1) fs t)
      (order_all MayPrecede (of_endpoint (told start e) e t) (λ x y m n.
      (let a = at_start start e t x m in let b = at_start start e t y n in let p = a.1 in let q = b.1 in same_start x y t a.0 b.0 (omega (arith, p, q)))))
      (tick_order (start + 1) fs t) (λ x y m n.
      (let a = at_start start e t x m in let b = at_starts (start + 1) fs t y n in let p = a.1 in let q = b.1 in same_start x y t a.0 b.0 (omega (arith, p, q))))

  from_tick : (from : ℤ) (n : ℕ) (j : UplinkJob) → IsIn j (each_tick from n (at_tick told es)) → from ≤ℤ j.s.0
  unfolding each_tick
  from_tick from zero j m = absurd m
  from_tick from (suc n) j m = elim (in_either j (at_tick told es from) (each_tick (from +ℤ pos 1) n (at_tick told es)) m) [
    | inl l ↦ (let w = at_starts 0 es from j l in let o = w.0 in omega (arith, ints, o))
    | inr r ↦ (let o = from_tick (from +ℤ pos 1) n j r in omega (arith, ints, o))
  ]

  ticks_order : (from : ℤ) (n : ℕ) → InOrder MayPrecede (each_tick from n (at_tick told es))
  unfolding each_tick
  ticks_order from zero = tt
  ticks_order from (suc n) =
      order_join MayPrecede (at_tick told es from) (each_tick (from +ℤ pos 1) n (at_tick told es)) (tick_order 0 es from) (ticks_order (from +ℤ pos 1) n) (λ x y m r.
      (let a = at_starts 0 es from x m in later_start x y from a.0 (from_tick (from +ℤ pos 1) n y r)))

  pub jobs_in_order : (to : ℤ) → InOrder MayPrecede (jobs es accepted to)
  unfolding jobs sweep
  jobs_in_order to = ticks_order first_clock (int_gap first_clock (to +ℤ pos 1))

  pub jobs_timed : (to : ℤ) (j : UplinkJob) → IsIn j (jobs es accepted to) → IsTimed es j
  unfolding jobs
  jobs_timed to =
      sweep_related (IsAll (IsTimed es)) (all_kept (IsTimed es)) told told es first_clock (to +ℤ pos 1) (λ ep e slot symbol t low high swept j m.
      (let w = symbol_job accepted ep e slot symbol j m in
      subst (IsTimed es) (sym w.1) (record { endpoint = e; at = swept.endpoint; starts = refl })))

  -- of the symbols that start from one tick on and before another
  pub swept_jobs : (from end : ℤ) (j : UplinkJob) → IsIn j (sweep told es from end) → IsSweptJob es from end j
  swept_jobs from end =
      sweep_related (IsAll (IsSweptJob es from end)) (all_kept (IsSweptJob es from end)) told told es from end (λ ep e slot symbol t low high swept j m.
      (let w = symbol_job accepted ep e slot symbol j m in
      subst (IsSweptJob es from end) (sym w.1) (record {
        endpoint = e;
        at = swept.endpoint;
        slot = swept.slot_is;
        symbol = swept.symbol_is;
        starts = refl;
        low = subst (λ z. from ≤ℤ z) (sym swept.starts) low;
        high = subst (λ z. z <ℤ end) (sym swept.starts) high;
      })))

  pub job_swept : (to : ℤ) (j : UplinkJob) → IsIn j (jobs es accepted to) → IsSweptJob es first_clock (to +ℤ pos 1) j
  unfolding jobs
  job_swept to j m = swept_jobs first_clock (to +ℤ pos 1) j m

  pub timed_at : (t : ℤ) (j : UplinkJob) → IsIn j (at_tick told es t) → IsTimed es j
  timed_at t =
      at_tick_related (IsAll (IsTimed es)) (all_kept (IsTimed es)) told told es t (λ ep e slot symbol swept j m.
      (let w = symbol_job accepted ep e slot symbol j m in subst (IsTimed es) (sym w.1) (record { endpoint = e; at = swept.endpoint; starts = refl })))
