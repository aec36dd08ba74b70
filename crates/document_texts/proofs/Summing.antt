-- The combined cells of all units.
use Rattle.std.proofs.Common.{◌≡◌, ◌==◌, if◌then◌else◌, cond, Bool, ℤ, false, ℕ, zero, suc, ◌+◌, ◌-◌, ◌<◌, ◌≤◌, true, List, [], ◌∷◌, ◌++◌, length, map, count_by, is_some, refl, ap, ap₂, sym, ◌∙◌, subst, arith, append_assoc, append-nil}
use Rattle.std.specs.List.{AllByRecursion, range_with_len}
use Rattle.std.proofs.lemmas.List.Elements.{All-from_recursion}
use Rattle.std.proofs.lemmas.List.Sums.{sum_by-append}
use Rattle.std.proofs.lemmas.List.FromFn.{length-map-range_with_len}
use Rattle.air_source.specs.declared.events.AirCell.{AirCell}
use Rattle.air_source.specs.declared.events.Side.TheVariants.{Du}
use Rattle.shared_laws.specs.Bare.{bare}
use Rattle.shared_laws.proofs.Bare.{of_claims}
use Rattle.document_traffic.specs.Sending.{lines_of}
use Rattle.document_traffic.specs.Undisturbed.{IsUndisturbedBothWays, answers_for}
use Rattle.fh_document.specs.Proper.{IsDocument}
use Rattle.fh_document.specs.declared.document.Document.{Document}
use Rattle.fronthaul_replay.specs.Laws.{IsSound}
use Rattle.fronthaul_replay.specs.Replaying.{events_of}
use Rattle.fronthaul_replay.proofs.LawLemmas.{is_sound}
use Rattle.shared_laws.specs.Layers.{AreAlike, AreDistinct, AreShown, all_of, first_layer, layered}
use Rattle.shared_laws.proofs.Layering.{are_layers, each_counted}
use Rattle.document_traffic.specs.Replayed.{traffic_of}
use Rattle.plan_model.specs.Valid.{IsValid}
use Rattle.replay_laws.specs.Moments.{end_of_time}
use Rattle.replay_laws.proofs.OnceLemmas.{cells_are_reported}
use Rattle.shared_cell.specs.Combined.{Follows, combined}
use Rattle.shared_cell.specs.Places.{is_at, place_of}
use Rattle.shared_cell.specs.declared.places.CellPlace.{CellPlace}
use Rattle.shared_cell.specs.declared.values.Mixed.{Mixed}
use Rattle.document_texts.specs.UnitText.{all_taken}
use Rattle.document_texts.specs.Units.{unit_of}
use Rattle.document_texts.proofs.Moved.{are_documents}
use Rattle.fh_base.specs.Air.{air_of}
use Rattle.plan_model.specs.declared.lines.PlannedLine.{PlannedLine}
use Rattle.schedule_laws.specs.Cells.{planned_mask}
use Rattle.schedule_laws.specs.Data.{Blocks}
use Rattle.unit_model.proofs.SweepLemmas.{IsKept, each_related, sweep_related}
use Rattle.unit_model.specs.Claims.{cell_at}
use Rattle.unit_model.specs.Sweeps.{sweep}
use Rattle.uplink_laws.specs.Cells.{taken_cell, taken_event, taken_symbol}
use Rattle.window_config.specs.declared.endpoints.EndpointConfig.{EndpointConfig}
use Rattle.document_texts.specs.Shared.{unit_cells, units_cells}
use Rattle.document_texts.specs.Summed.{IsSummed, all_planned, further_cells, planned_cells}
use Rattle.document_texts.proofs.Alike.{Agrees, AreBare, all_agree, at_most_one, bare_alike, distinct}
use Rattle.document_texts.proofs.Heard.{heard_du, taken_heard}
use Rattle.document_texts.proofs.Mixing.{one_more}
use Rattle.fh_base.proofs.MemberLemmas.{all_join as all_both}

-- ---- lists

nothing_before : (cells : List AirCell) → AllByRecursion (λ c. AllByRecursion (Agrees c) []) cells
nothing_before [] = tt
nothing_before (c ∷ cells) = (tt, nothing_before cells)

both_before : (xs ys cells : List AirCell) → AllByRecursion (λ c. AllByRecursion (Agrees c) xs) cells → AllByRecursion (λ c. AllByRecursion (Agrees c) ys) cells
    → AllByRecursion (λ c. AllByRecursion (Agrees c) (xs ++ ys)) cells
both_before xs ys [] h k = tt
both_before xs ys (c ∷ cells) h k = (all_both (Agrees c) xs ys h.0 k.0, both_before xs ys cells h.1 k.1)

-- one list more after the others
one_behind : (f : ℕ → List AirCell) (a n : ℕ) → all_of (map f (range_with_len a (suc n))) ≡ all_of (map f (range_with_len a n)) ++ f (a + n)
one_behind f a zero = append-nil (f a) ∙ ap f (omega arith)
one_behind f a (suc n) =
    ap (λ (xs : List AirCell). f a ++ xs) (one_behind f (a + 1) n)
    ∙ sym (append_assoc (f a) (all_of (map f (range_with_len (a + 1) n))) (f (a + 1 + n)))
    ∙ ap (λ (k : ℕ). (f a ++ all_of (map f (range_with_len (a + 1) n))) ++ f k) (omega arith)

-- ---- cells of the plan with samples

abbrev Shown : List AirCell → List AirCell → Type 0
Shown xs ys = AreShown xs

shown_kept : IsKept Shown
shown_kept = record { none = tt; more = λ xs xs' ys ys' p q. all_both (λ (c : AirCell). is_some c.block ≡ true) xs xs' p q }

one_shown : (b : Bool) (c : AirCell) → is_some c.block ≡ true → AreShown (if b then [] else c ∷ [])
one_shown true c h = tt
one_shown false c h = (h, tt)

shown_in : (blocks : Blocks) (ps : List PlannedLine) (es : List EndpointConfig) (from end : ℤ) → AreShown (sweep (taken_symbol blocks ps) es from end)
shown_in blocks ps es from end =
    sweep_related Shown shown_kept (taken_symbol blocks ps) (taken_symbol blocks ps) es from end (λ ep e slot symbol s low high swept.
    each_related Shown shown_kept 0 e.prbs (taken_cell blocks ps ep e slot symbol) (taken_cell blocks ps ep e slot symbol) (λ prb a b.
    one_shown (planned_mask ps (cell_at ep false slot symbol prb) == 0) (taken_event blocks ps e (cell_at ep false slot symbol prb) (air_of e.numerology slot symbol)) refl))

-- ---- the units

-- the combined cells as the mixer has them after n units
unfoldable pub units_taken : Document → ℕ → ℕ → List Mixed
units_taken d step zero = []
units_taken d step (suc n) = all_taken (events_of (unit_of d n step)) (units_taken d step n)

module _ (d : Document) (is : IsDocument d) (valid : IsValid d.config d.plan) (step : ℕ) where
  -- each unit's document is one of the grammar with a valid plan
  pub unit_sound : (unit : ℕ) → IsSound (unit_of d unit step)
  unit_sound unit = is_sound (unit_of d unit step) (record { document = are_documents d unit step is; valid = valid })

  all_du : (unit : ℕ) → AllByRecursion (λ c. c.side ≡ Du) (unit_cells d step unit)
  unfolding unit_cells
  all_du unit = heard_du (events_of (unit_of d unit step))

  pub apart : (unit : ℕ) → AreDistinct (unit_cells d step unit)
  unfolding unit_cells
  apart unit = distinct (unit_cells d step unit) (all_du unit) ((unit_sound unit).once Du)

  -- the units report the same bare cells
  same_bare : (unit other : ℕ) → AreBare (unit_cells d step unit) (unit_cells d step other)
  unfolding unit_cells
  same_bare unit other =
      ap (map bare) (cells_are_reported Du d.config (traffic_of (unit_of d unit step)))
      ∙ of_claims Du d.config.delays d.config.endpoints _ _ _ end_of_time
      ∙ sym (ap (map bare) (cells_are_reported Du d.config (traffic_of (unit_of d other step))))

  -- ---- what the mixer has

  counts : (n : ℕ) (p : CellPlace) → count_by (is_at p) (units_cells d step n) ≤ n
  unfolding units_cells
  counts zero p = omega arith
  counts (suc n) p =
      let both = sum_by-append (λ (c : AirCell). cond (is_at p c) 1 0) (units_cells d step n) (unit_cells d step n) in
      let few = counts n p in
      let one = at_most_one p (unit_cells d step n) (apart n) in
      omega (arith, both, few, one)

  agree_before : (n unit : ℕ) → AllByRecursion (λ c. AllByRecursion (Agrees c) (units_cells d step n)) (unit_cells d step unit)
  unfolding units_cells
  agree_before zero unit = nothing_before (unit_cells d step unit)
  agree_before (suc n) unit =
      both_before (units_cells d step n) (unit_cells d step n) (unit_cells d step unit) (agree_before n unit) (all_agree (unit_cells d step unit) (unit_cells d step n) (same_bare unit n) (apart unit))

  -- a unit's cells may follow those of the units before it
  follow : (n : ℕ) → n < 8 → AllByRecursion (Follows (units_cells d step n)) (unit_cells d step n)
  follow n few = each (unit_cells d step n) (all_du n) (agree_before n n)
    where
      each : (cells : List AirCell) → AllByRecursion (λ c. c.side ≡ Du) cells → AllByRecursion (λ c. AllByRecursion (Agrees c) (units_cells d step n)) cells → AllByRecursion (Follows (units_cells d step n)) cells
      each [] du h = tt
      each (c ∷ cells) du h =
          (record { side = du.0; room = (let some = counts n (place_of c) in omega (arith, some, few)); agrees = All-from_recursion (Agrees c) (units_cells d step n) h.0 }, each cells du.1 h.1)

  one_unit : (n : ℕ) → n < 8 → all_taken (events_of (unit_of d n step)) (combined (units_cells d step n)) ≡ combined (units_cells d step n ++ unit_cells d step n)
  unfolding unit_cells
  one_unit n few =
      taken_heard (events_of (unit_of d n step)) (combined (units_cells d step n)) ∙ one_more (units_cells d step n) (unit_cells d step n) (apart n) (follow n few)

  -- no cell was passed over: after n units it has the combined cells of all of theirs
  pub mixed : (n : ℕ) → n ≤ 8 → units_taken d step n ≡ combined (units_cells d step n)
  unfolding units_taken units_cells
  mixed zero few = refl
  mixed (suc n) few = ap (all_taken (events_of (unit_of d n step))) (mixed n (omega (arith, few))) ∙ one_unit n (omega (arith, few))

  -- ---- layer upon layer

  units_are : (n : ℕ) → units_cells d step n ≡ all_of (map (unit_cells d step) (range_with_len 0 n))
  unfolding units_cells
  units_are zero = refl
  units_are (suc n) =
      let at : 0 + n ≡ n = omega arith in
      ap₂ (λ (xs ys : List AirCell). xs ++ ys) (units_are n) (ap (unit_cells d step) (sym at)) ∙ sym (one_behind (unit_cells d step) 0 n)

  alike : (a n : ℕ) → AllByRecursion (AreAlike (unit_cells d step 0)) (map (unit_cells d step) (range_with_len a n))
  alike a zero = tt
  alike a (suc n) = (bare_alike (unit_cells d step 0) (unit_cells d step a) (same_bare 0 a), alike (a + 1) n)

  layers : (n : ℕ) → combined (units_cells d step (suc n)) ≡ layered (further_cells d step (suc n)) (first_layer (unit_cells d step 0))
  layers n =
      let less : suc n - 1 ≡ n = omega arith in
      ap combined (units_are (suc n))
      ∙ are_layers (unit_cells d step 0) (map (unit_cells d step) (range_with_len 1 n)) (apart 0) (alike 1 n)
      ∙ ap (λ (k : ℕ). layered (map (unit_cells d step) (range_with_len 1 k)) (first_layer (unit_cells d step 0))) (sym less)

  -- ---- where nothing disturbs them

  planned : (unit : ℕ) → IsUndisturbedBothWays (unit_of d unit step) → unit_cells d step unit ≡ planned_cells d step unit
  unfolding unit_cells
  planned unit calm = ((unit_sound unit).taken_in_once calm).cells

  all_are : (n : ℕ) → ((unit : ℕ) → unit < n → IsUndisturbedBothWays (unit_of d unit step)) → units_cells d step n ≡ all_planned d step n
  unfolding units_cells all_planned
  all_are zero calm = refl
  all_are (suc n) calm =
      ap₂ (λ (xs ys : List AirCell). xs ++ ys) (all_are n (λ unit below. calm unit (omega (arith, below)))) (planned n (calm n (omega arith)))

  shown : (unit : ℕ) → IsUndisturbedBothWays (unit_of d unit step) → AreShown (unit_cells d step unit)
  shown unit calm = subst AreShown (sym (planned unit calm)) (shown_in (answers_for (unit_of d unit step)) (lines_of d) d.config.endpoints _ _)

  all_shown : (a n : ℕ) → ((unit : ℕ) → unit < a + n → IsUndisturbedBothWays (unit_of d unit step)) → AllByRecursion AreShown (map (unit_cells d step) (range_with_len a n))
  all_shown a zero calm = tt
  all_shown a (suc n) calm = (shown a (calm a (omega arith)), all_shown (a + 1) n (λ unit below. calm unit (omega (arith, below))))

  counted : (n : ℕ) → ((unit : ℕ) → unit < suc n → IsUndisturbedBothWays (unit_of d unit step)) → AllByRecursion (λ m. m.units ≡ suc n) (combined (units_cells d step (suc n)))
  counted n calm =
      let many : length (map (unit_cells d step) (range_with_len 1 n)) ≡ n = length-map-range_with_len (unit_cells d step) 1 n in
      let number : 1 + length (map (unit_cells d step) (range_with_len 1 n)) ≡ suc n = omega (arith, many) in
      subst (λ (k : ℕ). AllByRecursion (λ m. m.units ≡ k) (combined (units_cells d step (suc n)))) number
      (subst (λ (xs : List AirCell). AllByRecursion (λ m. m.units ≡ 1 + length (map (unit_cells d step) (range_with_len 1 n))) (combined xs)) (sym (units_are (suc n)))
      (each_counted (unit_cells d step 0) (map (unit_cells d step) (range_with_len 1 n)) (apart 0) (alike 1 n) (shown 0 (calm 0 (omega arith))) (all_shown 1 n (λ unit below. calm unit (omega (arith, below))))))

  pub summed : (count : ℕ) → 1 ≤ count → IsSummed d count step
  summed zero some = absurd (omega (arith, some))
  summed (suc n) some = record {
    layers = layers n;
    sum = λ calm. record { planned = all_are (suc n) calm; counted = counted n calm };
  }
