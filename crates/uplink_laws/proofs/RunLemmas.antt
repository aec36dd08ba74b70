-- The jobs of a symbol are in one run.
use Rattle.std.proofs.Common.{◌≡◌, ℕ, ℤ, pos, zero, suc, ◌+◌, ◌-◌, ◌<◌, ◌+ℤ◌, ◌≤ℤ◌, ◌<ℤ◌, inl, inr, Bool, true, false, ◌==◌, if◌then◌else◌, List, [], ◌∷◌, ◌++◌, Some, refl, ap, sym, ◌∙◌, arith, append_assoc, append-nil}
use Rattle.std.specs.Int.{int_gap}
use Rattle.std.specs.List.{slice_get}
use Rattle.std.proofs.lemmas.Bool.{and_parts, cases_Bool, eqb-true}
use Rattle.std.proofs.lemmas.Bool.Decides.{Decides-int_eq}
use Rattle.std.proofs.lemmas.Int.{ints}
use Rattle.fh_base.specs.Air.{air_of}
use Rattle.fh_base.specs.Numbering.{IsSlotOf, slots_of, symbols_of}
use Rattle.fh_base.specs.declared.values.Slot.{Slot}
use Rattle.window_config.specs.declared.endpoints.EndpointConfig.{EndpointConfig}
use Rattle.unit_model.specs.Claims.{same_slot}
use Rattle.fh_base.specs.Lists.{each, each_tick}
use Rattle.unit_model.specs.Proper.{IsAt}
use Rattle.unit_model.specs.Radiated.{first_clock}
use Rattle.unit_model.specs.Sweeps.{OfSymbol, at_tick, first_swept, frames_swept, of_endpoint, of_endpoints, of_frame, of_slot, of_subframe, of_symbol, slot_at, sweep}
use Rattle.unit_model.specs.Uplink.{jobs, symbol_jobs}
use Rattle.unit_model.specs.declared.allocations.Allocation.{Allocation}
use Rattle.unit_model.specs.declared.jobs.UplinkJob.{UplinkJob}
use Rattle.unit_model.proofs.ReachLaws.{frame_swept}
use Rattle.unit_laws.proofs.FarLemmas.{endpoints_equal}
use Rattle.unit_model.proofs.SweepLemmas.{of_endpoint_related, of_frame_related, of_slot_related, of_subframe_related}
use Rattle.plan_model.proofs.SweptLists.{IsAll, all_kept, numerology_short}
use Rattle.uplink_laws.specs.Runs.{JobsStandTogether, is_job_in}
use Rattle.uplink_laws.proofs.StreamJobs.{at_starts, symbol_job, timed_at}
use Rattle.uplink_laws.proofs.ListLemmas.{tick_within}
use Rattle.unit_model.proofs.ClaimLemmas.{same_slot_is as slots_equal}
use Rattle.fh_base.specs.Members.{IsIn}
use Rattle.fh_base.proofs.MemberLemmas.{in_either, all_of}
use Rattle.fh_base.proofs.MadeLists.{of_each}
use Rattle.fh_base.proofs.EachLemmas.{each_split, gap_is, gap_parts, ticks_split}

-- ---- a run, and no other that passes a test

record IsRun {A : Type 0} (t : A → Bool) (xs ys : List A) : Type 0 where
  before : List A
  after : List A
  is : ys ≡ before ++ (xs ++ after)
  none_before : (x : A) → IsIn x before → t x ≡ false
  none_after : (x : A) → IsIn x after → t x ≡ false

inner : {A : Type 0} {t : A → Bool} {xs ys zs : List A} → IsRun t xs ys → IsRun t ys zs → IsRun t xs zs
inner {A} {t} {xs} {ys} {zs} p q = record {
  before = q.before ++ p.before;
  after = p.after ++ q.after;
  is = q.is
      ∙ ap (λ ws. q.before ++ (ws ++ q.after)) p.is
      ∙ ap (λ ws. q.before ++ ws) (append_assoc p.before (xs ++ p.after) q.after ∙ ap (λ ws. p.before ++ ws) (append_assoc xs p.after q.after))
      ∙ sym (append_assoc q.before p.before (xs ++ (p.after ++ q.after)));
  none_before = λ x m. elim (in_either x q.before p.before m) [ inl l ↦ q.none_before x l | inr r ↦ p.none_before x r ];
  none_after = λ x m. elim (in_either x p.after q.after m) [ inl l ↦ p.none_after x l | inr r ↦ q.none_after x r ];
}

same_run : {A : Type 0} (t : A → Bool) (xs ys : List A) → ys ≡ xs → IsRun t xs ys
same_run t xs ys e = record { before = []; after = []; is = e ∙ sym (append-nil xs); none_before = λ x m. absurd m; none_after = λ x m. absurd m }

each_run : {A : Type 0} (t : A → Bool) (n k : ℕ) (f : ℕ → List A) → k < n → ((i : ℕ) (x : A) → (i ≡ k → ⊥) → IsIn x (f i) → t x ≡ false) → IsRun t (f k) (each 0 n f)
unfolding each
each_run t n k f h others =
    let rest = n - (k + 1) in
    let total : n ≡ k + suc rest = omega arith in
    let here : 0 + k ≡ k = omega arith in
    record {
      before = each 0 k f;
      after = each (0 + k + 1) rest f;
      is = ap (λ m. each 0 m f) total ∙ each_split 0 k (suc rest) f ∙ ap (λ i. each 0 k f ++ (f i ++ each (0 + k + 1) rest f)) here;
      none_before = λ x m. (let w = of_each x 0 k f m in let below = w.2 in others w.0 x (λ e. omega (arith, below, e)) w.3);
      none_after = λ x m. (let w = of_each x (0 + k + 1) rest f m in let above = w.1 in others w.0 x (λ e. omega (arith, above, e)) w.3);
    }

-- ---- what is told at a tick of an endpoint

module _ (accepted : List Allocation) (ep : ℕ) (e : EndpointConfig) (slot : Slot) (symbol : ℕ) where
  abbrev told : Slot → ℕ → List UplinkJob
  told = symbol_jobs accepted ep e

  abbrev test : UplinkJob → Bool
  test = is_job_in ep slot symbol

  not_test : (j : UplinkJob) → (j.slot ≡ slot → j.symbol ≡ symbol → ⊥) → test j ≡ false
  not_test j other = elim (cases_Bool (test j)) [
    | inr is_not ↦ is_not
    | inl is ↦
        let one = and_parts (j.ep == ep) _ is in
        let two = and_parts (same_slot j.slot slot) (j.symbol == symbol) one.1 in
        absurd (other (slots_equal j.slot slot two.0) (eqb-true j.symbol symbol two.1))
  ]

  told_slot : (s : Slot) (y : ℕ) (j : UplinkJob) → IsIn j (told s y) → (j.slot ≡ s) × (j.symbol ≡ y)
  told_slot s y j m = let w = symbol_job accepted ep e s y j m in (ap (λ (x : UplinkJob). x.slot) w.1, ap (λ (x : UplinkJob). x.symbol) w.1)

  of_one_symbol : (t : ℤ) (s : Slot) (y : ℕ) (j : UplinkJob) → IsIn j (of_symbol told e t s y) → j.symbol ≡ y
  of_one_symbol t s y j m = go _ m
    where
      go : (b : Bool) → IsIn j (if b then told s y else []) → j.symbol ≡ y
      go true i = (told_slot s y j i).1
      go false i = absurd i

  of_one_slot : (t : ℤ) (s : Slot) (j : UplinkJob) → IsIn j (of_slot told e t s) → j.slot ≡ s
  of_one_slot t s =
      of_slot_related (IsAll (λ (j : UplinkJob). j.slot ≡ s)) (all_kept (λ (j : UplinkJob). j.slot ≡ s)) told told e t s (λ y h starts j m. (told_slot s y j m).0)

  of_one_subframe : (t frame : ℤ) (b : ℕ) (j : UplinkJob) → IsIn j (of_subframe told e t frame b) → j.slot.subframe ≡ b
  of_one_subframe t frame b =
      of_subframe_related (IsAll (λ (j : UplinkJob). j.slot.subframe ≡ b)) (all_kept (λ (j : UplinkJob). j.slot.subframe ≡ b)) told told e t frame b (λ l y h k starts j m.
      ap (λ (s : Slot). s.subframe) (told_slot (slot_at frame b l) y j m).0)

  of_one_frame : (t frame : ℤ) (j : UplinkJob) → IsIn j (of_frame told e t frame) → j.slot.frame ≡ frame
  of_one_frame t frame =
      of_frame_related (IsAll (λ (j : UplinkJob). j.slot.frame ≡ frame)) (all_kept (λ (j : UplinkJob). j.slot.frame ≡ frame)) told told e t frame (λ s y same is_slot h starts j m.
      ap (λ (z : Slot). z.frame) (told_slot s y j m).0 ∙ same)

  endpoint_run : IsSlotOf e.numerology slot → symbol < symbols_of e.numerology → IsRun test (told slot symbol) (of_endpoint told e (air_of e.numerology slot symbol))
  unfolding of_endpoint of_frame of_subframe of_slot
  endpoint_run is h =
      let t = air_of e.numerology slot symbol in
      let n = e.numerology in
      let near = frame_swept n slot symbol (numerology_short n) is h in
      let frame = first_swept t +ℤ pos near.0 in
      let here : slot_at frame slot.subframe slot.slot ≡ slot = ap (λ (f : ℤ). let x : Slot = slot_at f slot.subframe slot.slot in x) (sym near.2) in
      inner (same_run test (told slot symbol) (of_symbol told e t (slot_at frame slot.subframe slot.slot) symbol)
      (ap (λ (x : Slot). of_symbol told e t x symbol) here ∙ ap (λ b. if b then told slot symbol else []) ((Decides-int_eq t t).1 refl)))
      (inner (each_run test (symbols_of n) symbol (of_symbol told e t (slot_at frame slot.subframe slot.slot)) h (λ y j other m.
      not_test j (λ s same. other (sym (of_one_symbol t (slot_at frame slot.subframe slot.slot) y j m) ∙ same))))
      (inner (each_run test (slots_of n) slot.slot (λ l. of_slot told e t (slot_at frame slot.subframe l)) is.slot (λ l j other m.
      not_test j (λ s same. other (ap (λ (x : Slot). x.slot) (sym (of_one_slot t (slot_at frame slot.subframe l) j m) ∙ s)))))
      (inner (each_run test 10 slot.subframe (of_subframe told e t frame) is.subframe (λ b j other m.
      not_test j (λ s same. other (sym (of_one_subframe t frame b j m) ∙ ap (λ (x : Slot). x.subframe) s))))
      (each_run test frames_swept near.0 (λ k. of_frame told e t (first_swept t +ℤ pos k)) near.1 (λ k j other m.
      not_test j (λ s same. other (same_place (first_swept t) k near.0 slot.frame (sym (of_one_frame t (first_swept t +ℤ pos k) j m) ∙ ap (λ (x : Slot). x.frame) s) near.2)))))))
    where
      same_place : (first : ℤ) (k i : ℕ) (frame : ℤ) → (first +ℤ pos k) ≡ frame → frame ≡ first +ℤ pos i → k ≡ i
      same_place first k i frame p q = omega (arith, ints, p, q)

-- ---- of all endpoints

module _ (accepted : List Allocation) (es : List EndpointConfig) (ep : ℕ) (e : EndpointConfig) (at : IsAt es ep e) (slot : Slot) (symbol : ℕ) where
  abbrev all_told : OfSymbol UplinkJob
  all_told = symbol_jobs accepted

  abbrev passes : UplinkJob → Bool
  passes = is_job_in ep slot symbol

  other_endpoint : (j : UplinkJob) → (j.ep ≡ ep → ⊥) → passes j ≡ false
  other_endpoint j other = elim (cases_Bool (passes j)) [
    | inr is_not ↦ is_not
    | inl is ↦ absurd (other (eqb-true j.ep ep (and_parts (j.ep == ep) _ is).0))
  ]

  own_ep : (k : ℕ) (f : EndpointConfig) (t : ℤ) (j : UplinkJob) → IsIn j (of_endpoint (all_told k f) f t) → j.ep ≡ k
  own_ep k f t =
      of_endpoint_related (IsAll (λ (j : UplinkJob). j.ep ≡ k)) (all_kept (λ (j : UplinkJob). j.ep ≡ k)) (all_told k f) (all_told k f) f t (λ s y low high is_slot is_symbol starts j m.
      (let w = symbol_job accepted k f s y j m in ap (λ (x : UplinkJob). x.ep) w.1))

  endpoints_run : (from k : ℕ) (fs : List EndpointConfig) (t : ℤ) → slice_get fs k ≡ Some e → ep ≡ from + k → IsRun passes (of_endpoint (all_told ep e) e t) (of_endpoints all_told from fs t)
  unfolding of_endpoints
  endpoints_run from k [] t got is = absurd cc
  endpoints_run from zero (f ∷ fs) t got is =
      let same : f ≡ e = cc in
      let here : from ≡ ep = omega (arith, is) in
      record {
        before = [];
        after = of_endpoints all_told (from + 1) fs t;
        is = ap (λ (x : EndpointConfig). of_endpoint (all_told from x) x t ++ of_endpoints all_told (from + 1) fs t) same
            ∙ ap (λ i. of_endpoint (all_told i e) e t ++ of_endpoints all_told (from + 1) fs t) here;
        none_before = λ x m. absurd m;
        none_after = λ j m. (let w = at_starts accepted es (from + 1) fs t j m in let o = w.1 in other_endpoint j (λ s. omega (arith, o, s, here)));
      }
  endpoints_run from (suc k) (f ∷ fs) t got is =
      let p = endpoints_run (from + 1) k fs t got (omega (arith, is)) in
      record {
        before = of_endpoint (all_told from f) f t ++ p.before;
        after = p.after;
        is = ap (λ xs. of_endpoint (all_told from f) f t ++ xs) p.is ∙ sym (append_assoc (of_endpoint (all_told from f) f t) p.before (of_endpoint (all_told ep e) e t ++ p.after));
        none_before = λ j m. elim (in_either j (of_endpoint (all_told from f) f t) p.before m) [
          | inl l ↦ (let o = own_ep from f t j l in other_endpoint j (λ s. omega (arith, is, o, s)))
          | inr r ↦ p.none_before j r
        ];
        none_after = p.none_after;
      }

  -- a job of the symbol starts with it
  own_start : (t : ℤ) (j : UplinkJob) → (t ≡ air_of e.numerology slot symbol → ⊥) → IsIn j (at_tick all_told es t) → passes j ≡ false
  own_start t j other m = elim (cases_Bool (passes j)) [
    | inr is_not ↦ is_not
    | inl is ↦
        let one = and_parts (j.ep == ep) _ is in
        let two = and_parts (same_slot j.slot slot) (j.symbol == symbol) one.1 in
        let w = at_starts accepted es 0 es t j m in
        let d = timed_at accepted es t j m in
        let same : d.endpoint ≡ e = endpoints_equal es j.ep ep d.endpoint e d.at at (eqb-true j.ep ep one.0) in
        absurd (other (sym w.0 ∙ d.starts
        ∙ ap (λ (f : EndpointConfig). air_of f.numerology j.slot j.symbol) same
        ∙ ap (λ (s : Slot). air_of e.numerology s j.symbol) (slots_equal j.slot slot two.0)
        ∙ ap (λ (y : ℕ). air_of e.numerology slot y) (eqb-true j.symbol symbol two.1)))
  ]

  ticks_run : (from end t : ℤ) → t ≡ air_of e.numerology slot symbol → from ≤ℤ t → t <ℤ end → IsRun passes (at_tick all_told es t) (sweep all_told es from end)
  unfolding sweep each_tick
  ticks_run from end t is low high =
      let f = at_tick all_told es in
      let rest = int_gap (t +ℤ pos 1) end in
      record {
        before = each_tick from (int_gap from t) f;
        after = each_tick (t +ℤ pos 1) rest f;
        is = ap (λ n. each_tick from n f) (gap_parts from t end low high) ∙ ticks_split from (int_gap from t) (suc rest) f
            ∙ ap (λ u. each_tick from (int_gap from t) f ++ each_tick u (suc rest) f) (gap_is from t low);
        none_before = λ j m. (let w = tick_within j from (int_gap from t) f m in own_start w.0 j (λ s. below from t w.0 low w.2 (s ∙ sym is)) w.3);
        none_after = λ j m. (let w = tick_within j (t +ℤ pos 1) rest f m in own_start w.0 j (λ s. above t w.0 w.1 (s ∙ sym is)) w.3);
      }
    where
      below : (a b u : ℤ) → a ≤ℤ b → u <ℤ (a +ℤ pos (int_gap a b)) → u ≡ b → ⊥
      below a b u low h e = let g = gap_is a b low in omega (arith, ints, h, e, g)

      above : (a u : ℤ) → (a +ℤ pos 1) ≤ℤ u → u ≡ a → ⊥
      above a u h e = omega (arith, ints, h, e)

pub jobs_stand_together : JobsStandTogether
unfolding jobs
jobs_stand_together es accepted to ep e slot symbol at is h low high =
    let t = air_of e.numerology slot symbol in
    let r = inner (endpoint_run accepted ep e slot symbol is h) (inner (endpoints_run accepted es ep e at slot symbol 0 ep es t at (omega arith)) (ticks_run accepted es ep e at slot symbol first_clock (to +ℤ pos 1) t refl low (by_end t to high))) in
    record {
      before = r.before;
      after = r.after;
      is = r.is;
      none_before = all_of (λ (j : UplinkJob). is_job_in ep slot symbol j ≡ false) r.before r.none_before;
      none_after = all_of (λ (j : UplinkJob). is_job_in ep slot symbol j ≡ false) r.after r.none_after;
    }
  where
    by_end : (a b : ℤ) → a ≤ℤ b → a <ℤ (b +ℤ pos 1)
    by_end a b h = omega (arith, ints, h)
