-- Idle lines after a plan: none is refused, and no data message changes.
use Rattle.std.proofs.Common.{◌≡◌, ℕ, ℤ, suc, ◌+◌, inl, inr, Bool, true, false, not, ◌&&◌, ◌==◌, if◌then◌else◌, List, [], ◌∷◌, ◌++◌, length, map, filter, Option, Some, None, refl, ap, ap₂, sym, ◌∙◌, subst, true≢false, arith}
use Rattle.std.specs.List.{AllByRecursion}
use Rattle.std.specs.Option.{option_to_list}
use Rattle.std.proofs.lemmas.Bool.{and_parts, cases_Bool, eqb-true}
use Rattle.fh_base.specs.declared.values.Slot.{Slot}
use Rattle.window_config.specs.declared.config.Config.{Config}
use Rattle.window_config.specs.declared.endpoints.EndpointConfig.{EndpointConfig}
use Rattle.window_config.specs.declared.plan.PlanKind.{PlanKind}
use Rattle.window_config.specs.declared.plan.PlanKind.TheVariants.{Idle}
use Rattle.window_config.specs.declared.plan.PlanLine.{PlanLine}
use Rattle.unit_model.specs.Claims.{same_slot, same_way}
use Rattle.unit_model.specs.Commands.{is_full}
use Rattle.fh_base.specs.Lists.{or_else}
use Rattle.unit_model.specs.declared.allocations.Allocation.{Allocation}
use Rattle.unit_model.proofs.ClaimLemmas.{same_slot_is, same_way_is}
use Rattle.plan_model.specs.Dense.{dense, dense_from, dense_in, down_distance, lesser, sending_of, sendings, up_distance}
use Rattle.plan_model.specs.Lines.{is_down_kind, is_idle_kind, line_allocation, planned, planned_at, planned_from}
use Rattle.plan_model.specs.Packs.{numbered, packs}
use Rattle.plan_model.specs.Streams.{Part, frames_in, has_part, in_stream_order, lasts_in, messages_of, most_parts, over_symbols, part_fields, part_in, parts_in, symbol_parts}
use Rattle.plan_model.specs.Valid.{dense_refused}
use Rattle.plan_model.specs.Validity.{clash, first_refused, refused_at, refused_from, share_cell, why_claimed, why_found, with_line}
use Rattle.plan_model.specs.declared.dense.Dense.{Dense}
use Rattle.plan_model.specs.declared.lines.PlannedLine.{PlannedLine}
use Rattle.plan_model.specs.declared.refusals.PlanWhy.{PlanWhy}
use Rattle.plan_model.specs.declared.refusals.PlanWhy.TheVariants.{Overlap, Range, TooManySections}
use Rattle.plan_model.specs.declared.streams.Stream.{Stream}
use Rattle.plan_model.specs.declared.streams.Stream.TheVariants.{DownCommands, UpCommands, DownData, UpData}
use Rattle.generated_laws.proofs.Lines.{none_any}
use Rattle.idle_laws.specs.Enlarged.{AreFree, IdleLinesAreValid, with_lines}
use Rattle.fh_base.specs.Members.{IsIn}
use Rattle.fh_base.proofs.MemberLemmas.{all_map, filter_none}
use Rattle.plan_model.proofs.PlanLemmas.{none_refused as none_of_both}

-- ---- none is refused

no_clash : (a b : Allocation) → a.down ≡ true → (b.down ≡ true → b.ep ≡ a.ep → b.slot ≡ a.slot → ⊥) → clash a b ≡ false
no_clash a b down h = elim (cases_Bool (clash a b)) [
  | inr other ↦ other
  | inl is ↦
      let cell = (and_parts (share_cell a b) _ is).0 in
      let ep = and_parts (a.ep == b.ep) _ cell in
      let way = and_parts (same_way a.down b.down) _ ep.1 in
      let slot = and_parts (same_slot a.slot b.slot) _ way.1 in
      absurd (h (sym (same_way_is a.down b.down way.0) ∙ down) (sym (eqb-true a.ep b.ep ep.0)) (sym (same_slot_is a.slot b.slot slot.0)))
]

-- a downlink line of an endpoint and slot of which no downlink line is
fresh : (earlier : List Allocation) (a : Allocation) → a.down ≡ true → ((b : Allocation) → IsIn b earlier → b.down ≡ true → b.ep ≡ a.ep → b.slot ≡ a.slot → ⊥) → why_claimed earlier a ≡ None
fresh earlier a down h =
    ap (λ (b : Bool). let w : Option PlanWhy = if b then Some Overlap else (if is_full earlier a then Some TooManySections else None) in w)
    (none_any (clash a) earlier (λ b m. no_clash a b down (h b m)))
    ∙ ap (λ (b : Bool). let w : Option PlanWhy = if b then Some TooManySections else None in w) (no_uplink (is_full earlier a) refl)
  where
    no_uplink : (t : Bool) → is_full earlier a ≡ t → t ≡ false
    no_uplink false e = refl
    no_uplink true e = absurd (true≢false (sym (and_parts _ _ (and_parts _ _ e).0).0 ∙ ap not down))

is_down : (k : PlanKind) → k ≡ Idle → is_down_kind k ≡ true
is_down k h = ap is_down_kind h

idles_pass : (es : List EndpointConfig) (earlier : List Allocation) (k : ℕ) (idles : List PlanLine) → AreFree es earlier k idles → refused_from es earlier k idles ≡ None
unfolding refused_from
idles_pass es earlier k [] h = refl
idles_pass es earlier k (line ∷ lines) h =
    let w = h.0 in
    ap (λ (p : Option PlannedLine). refused_at k (why_found earlier p) (refused_from es (with_line p earlier) (k + 1) lines)) w.found
    ∙ ap (λ (y : Option PlanWhy). refused_at k y (refused_from es (line_allocation w.p ∷ earlier) (k + 1) lines))
    (ap (λ (b : Bool). let y : Option PlanWhy = if b then Some Range else why_claimed earlier (line_allocation w.p) in y) w.inside
    ∙ fresh earlier (line_allocation w.p) (is_down w.p.line.kind w.idle) w.free)
    ∙ idles_pass es (line_allocation w.p ∷ earlier) (k + 1) lines h.1

behind : (es : List EndpointConfig) (earlier : List Allocation) (k : ℕ) (lines idles : List PlanLine) → refused_from es earlier k lines ≡ None
    → refused_from es earlier k (lines ++ idles) ≡ refused_from es (with_lines es earlier k lines) (k + length lines) idles
unfolding refused_from
behind es earlier k [] idles h = let e : k ≡ k + 0 = omega arith in ap (λ n. refused_from es earlier n idles) e
behind es earlier k (line ∷ lines) idles h =
    let now = with_line (planned_at es k line) earlier in
    let parts = none_of_both k (why_found earlier (planned_at es k line)) (refused_from es now (k + 1) lines) h in
    let number : k + 1 + length lines ≡ k + suc (length lines) = omega arith in
    ap (λ (w : Option PlanWhy). refused_at k w (refused_from es now (k + 1) (lines ++ idles))) parts.0
    ∙ behind es now (k + 1) lines idles parts.1
    ∙ ap (λ n. refused_from es (with_lines es now (k + 1) lines) n idles) number

-- ---- no data message changes

pub planned_append : (es : List EndpointConfig) (k : ℕ) (lines idles : List PlanLine) → planned_from es k (lines ++ idles) ≡ planned_from es k lines ++ planned_from es (k + length lines) idles
unfolding planned_from
planned_append es k [] idles = let e : k ≡ k + 0 = omega arith in ap (λ n. planned_from es n idles) e
planned_append es k (line ∷ lines) idles =
    let number : k + 1 + length lines ≡ k + suc (length lines) = omega arith in
    ap (λ (ps : List PlannedLine). option_to_list (planned_at es k line) ++ ps) (planned_append es (k + 1) lines idles ∙ ap (λ n. planned_from es (k + 1) lines ++ planned_from es n idles) number)
    ∙ grouped (planned_at es k line) (planned_from es (k + 1) lines) (planned_from es (k + suc (length lines)) idles)
  where
    grouped : (o : Option PlannedLine) (ps qs : List PlannedLine) → option_to_list o ++ (ps ++ qs) ≡ (option_to_list o ++ ps) ++ qs
    grouped None ps qs = refl
    grouped (Some p) ps qs = refl

idles_idle : (es : List EndpointConfig) (earlier : List Allocation) (k : ℕ) (idles : List PlanLine) → AreFree es earlier k idles → AllByRecursion (λ p. p.line.kind ≡ Idle) (planned_from es k idles)
unfolding planned_from
idles_idle es earlier k [] h = tt
idles_idle es earlier k (line ∷ lines) h =
    let w = h.0 in
    subst (λ (o : Option PlannedLine). AllByRecursion (λ p. p.line.kind ≡ Idle) (option_to_list o ++ planned_from es (k + 1) lines)) (sym w.found)
    (w.idle, idles_idle es (line_allocation w.p ∷ earlier) (k + 1) lines h.1)

abbrev IsData : Stream → Type 0
IsData DownCommands = ⊥
IsData UpCommands = ⊥
IsData DownData = Unit {0}
IsData UpData = Unit {0}

no_data : (stream : Stream) → IsData stream → (ep : ℕ) (slot : Slot) (symbol : ℕ) (p : PlannedLine) → p.line.kind ≡ Idle → has_part stream ep slot symbol (line_allocation p) ≡ false
no_data DownCommands d ep slot symbol p h = absurd d
no_data UpCommands d ep slot symbol p h = absurd d
no_data DownData d ep slot symbol p h = ap (λ k. (is_down_kind k && not (is_idle_kind k)) && lasts_in ep slot symbol (line_allocation p)) h
no_data UpData d ep slot symbol p h = ap (λ k. (not (is_down_kind k) && not (is_idle_kind k)) && lasts_in ep slot symbol (line_allocation p)) h

filter_front : (t : PlannedLine → Bool) (ps qs : List PlannedLine) → AllByRecursion (λ q. t q ≡ false) qs → filter t (ps ++ qs) ≡ filter t ps
filter_front t [] qs h = filter_none t qs h
filter_front t (p ∷ ps) qs h = ap (λ (ys : List PlannedLine). let xs : List PlannedLine = if t p then p ∷ ys else ys in xs) (filter_front t ps qs h)

module _ (ps qs : List PlannedLine) (idle : AllByRecursion (λ q. q.line.kind ≡ Idle) qs) where
  symbol_same : (stream : Stream) → IsData stream → (ep : ℕ) (slot : Slot) (symbol : ℕ) → symbol_parts stream (ps ++ qs) ep slot symbol ≡ symbol_parts stream ps ep slot symbol
  unfolding symbol_parts
  symbol_same stream d ep slot symbol =
      let t = λ (p : PlannedLine). has_part stream ep slot symbol (line_allocation p) in
      ap (λ (xs : List PlannedLine). map (part_in symbol) (in_stream_order stream xs))
      (filter_front t ps qs (all_map (λ q. q.line.kind ≡ Idle) (λ q. t q ≡ false) (λ q h. no_data stream d ep slot symbol q h) qs idle))

  parts_same : (stream : Stream) → IsData stream → (ep : ℕ) (e : EndpointConfig) → parts_in (ps ++ qs) stream ep e ≡ parts_in ps stream ep e
  unfolding parts_in
  parts_same stream d ep e = ap (λ (g : Slot → ℕ → List Part). over_symbols g e) (λ i. λ slot symbol. symbol_same stream d ep slot symbol i)

  sendings_same : (c : Config) (stream : Stream) → IsData stream → (ep : ℕ) (e : EndpointConfig) → sendings c (ps ++ qs) stream ep e ≡ sendings c ps stream ep e
  unfolding messages_of
  sendings_same c stream d ep e =
      ap (λ (xs : List Part). map (sending_of c stream) (numbered part_fields (frames_in c stream) (packs part_fields (most_parts c stream) xs))) (parts_same stream d ep e)

  from_same : (c : Config) (stream : Stream) → IsData stream → (distance : ℤ) (ep : ℕ) (es : List EndpointConfig) → dense_from c (ps ++ qs) stream distance ep es ≡ dense_from c ps stream distance ep es
  unfolding dense_from
  from_same c stream d distance ep [] = refl
  from_same c stream d distance ep (e ∷ es) =
      ap₂ (λ (x y : Option Dense). lesser x y) (ap (dense_in distance) (sendings_same c stream d ep e)) (from_same c stream d distance (ep + 1) es)

  dense_same : (c : Config) → dense c (ps ++ qs) ≡ dense c ps
  dense_same c = ap₂ (λ (x y : Option Dense). lesser x y) (from_same c DownData tt (down_distance c.delays) 0 c.endpoints) (from_same c UpData tt (up_distance c.delays) 0 c.endpoints)

-- ---- the plan

none_else : (x y : Option (ℕ × PlanWhy)) → or_else x y ≡ None → (x ≡ None) × (y ≡ None)
none_else None y h = (refl, h)
none_else (Some x) y h = absurd (cc h)

none_dense : (o : Option Dense) → dense_refused o ≡ None → o ≡ None
none_dense None h = refl
none_dense (Some d) h = absurd (cc h)

pub are_valid : IdleLinesAreValid
are_valid c lines idles valid free =
    let es = c.endpoints in
    let was = none_else (first_refused es lines) (dense_refused (dense c (planned es lines))) valid in
    let apart = none_dense (dense c (planned es lines)) was.1 in
    let here : 0 + length lines ≡ length lines = omega arith in
    let free_here = subst (λ (n : ℕ). AreFree es (with_lines es [] 0 lines) n idles) (sym here) free in
    let passed = behind es [] 0 lines idles was.0 ∙ idles_pass es (with_lines es [] 0 lines) (0 + length lines) idles free_here in
    let idle = idles_idle es (with_lines es [] 0 lines) (0 + length lines) idles free_here in
    ap₂ (λ (x : Option (ℕ × PlanWhy)) (d : Option Dense). or_else x (dense_refused d)) passed
    (ap (λ (ps : List PlannedLine). dense c ps) (planned_append es 0 lines idles)
    ∙ dense_same (planned es lines) (planned_from es (0 + length lines) idles) idle c ∙ apart)
