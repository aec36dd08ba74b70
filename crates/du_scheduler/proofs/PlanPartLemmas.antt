-- The parts in their order are those of the definition.
use Rattle.std.proofs.Common.{◌≤◌, length, ◌≡◌, ℕ, ℤ, pos, neg_ℤ, zero, suc, ◌+◌, ◌*◌, ◌^◌, ◌<◌, ◌+ℤ◌, ◌*ℤ◌, ◌<ℤ◌, ◌≤ℤ◌, inl, inr, Bool, true, false, not, ◌&&◌, ◌||◌, ◌==◌, nat_lt, cond, if◌then◌else◌, List, [], ◌∷◌, ◌++◌, filter, map, refl, ap, ap₂, sym, ◌∙◌, subst, true≢false, arith}
use Rattle.std.specs.List.{AllByRecursion}
use Rattle.std.specs.List.Sorted.{IsStableBy, ties}
use Rattle.std.specs.Cmp.{IsTotalOrder, IsStrictWeakOrder, both_ways}
use Rattle.std.specs.Ordering.{MatchOrdering, nat_cmp, int_cmp, int_eq, is_lt, ordering_reverse, ordering_then}
use Rattle.std.specs.declared.cmp.Ordering.{Ordering}
use Rattle.std.specs.declared.cmp.Ordering.TheVariants.{Less, Equal, Greater}
use Rattle.std.proofs.lemmas.Bool.{and_parts, and_from, eq-eqb}
use Rattle.std.proofs.lemmas.Bool.Decides.{Decides-int_eq}
use Rattle.std.proofs.lemmas.Cmp.{ranked, int_ranked, nat_cmp_total, int_cmp_total, on_total, then_total, tied_itself}
use Rattle.std.proofs.lemmas.Int.{ints}
use Rattle.std.proofs.lemmas.List.{map-append, length-map}
use Rattle.std.proofs.lemmas.List.Sorted.{ranks_by}
use Rattle.fh_base.specs.Air.{air_of}
use Rattle.fh_base.specs.Kinds.{kind_start}
use Rattle.fh_base.specs.Numbering.{IsSlotOf, slots_of, symbols_of}
use Rattle.fh_base.proofs.Kept.{offsets_short}
use Rattle.window_config.specs.declared.endpoints.EndpointConfig.{EndpointConfig}
use Rattle.fh_base.specs.Lists.{each, each_tick, in_order}
use Rattle.unit_model.specs.Radiated.{first_clock}
use Rattle.unit_model.specs.Sweeps.{slot_at, first_swept, of_slot, of_subframe, of_frame, of_endpoint as swept}
use Rattle.unit_model.specs.Times.{end_of_time, tick_count}
use Rattle.unit_laws.proofs.FrameLemmas.{frames_of_symbol, symbol_short}
use Rattle.plan_model.specs.Lines.{line_allocation}
use Rattle.plan_model.specs.Streams.{part_in, has_part, line_before, symbol_parts, parts_in}
use Rattle.plan_model.specs.declared.lines.PlannedLine.{PlannedLine}
use Rattle.plan_model.specs.declared.streams.Stream.{Stream}
use Rattle.plan_model.specs.declared.streams.Stream.TheVariants.{DownCommands, UpCommands, DownData, UpData}
use Rattle.plan_model.proofs.TickLemmas.{nat_same, int_same}
use Rattle.schedule_laws.specs.PlacedLines.{ArePlaced, HasEndpoint}
use Rattle.du_scheduler.specs.Parts.{is_at, symbol_of, is_up_data, part_symbols, timed, listed, prb_cmp, part_cmp, part_first, IsTimed}
use Rattle.fh_base.specs.Ordered.{AreOrderedBy}
use Rattle.schedule_laws.specs.Sweeping.{clock_of, parts_of_endpoint, IsPart, Precedes}
use Rattle.du_scheduler.specs.declared.parts.TimedPart.{TimedPart}
use Rattle.fh_base.proofs.FilterLemmas.{filter_and, related_filter, related_map}
use Rattle.schedule_laws.proofs.InsideLemmas.{inside_is, size_small}
use Rattle.du_scheduler.proofs.ListedLemmas.{Named, named_is, listed_at, listed_few, few_symbols}
use Rattle.fh_base.proofs.OrderedLemmas.{ordered_same, in_order_ordered, in_order_keeps}
use Rattle.std.proofs.lemmas.Map.Lookups.{exact_signed, exact_unsigned}
use Rattle.schedule_laws.proofs.SweepingLemmas.{filter_alike, AtSymbol, at_parts, start_at, sweeps_find_all}
use Rattle.fh_base.specs.declared.frames.TheConstants.{FRAME}
use Rattle.window_config.specs.declared.plan.TheConstants.{LAST_FRAME}
use Rattle.fh_base.specs.declared.symbols.TheConstants.{SUBFRAME}
use Rattle.fh_base.specs.Members.{IsIn}
use Rattle.fh_base.proofs.MemberLemmas.{of_filter, in_filter, all_in, all_from, all_map, filter_all, filter_mapped, filter_has}
use Rattle.fh_base.proofs.EachLemmas.{gap_is}

-- ---- the order

pub prb_total : IsTotalOrder prb_cmp
prb_total = then_total (on_total (λ (p : TimedPart). p.start_prb) nat_cmp_total) (then_total (on_total (λ (p : TimedPart). p.num_prb) nat_cmp_total) (on_total (λ (p : TimedPart). p.section) nat_cmp_total))

pub part_total : IsTotalOrder part_cmp
part_total = then_total (on_total (λ (p : TimedPart). p.start.0) int_cmp_total) (then_total (on_total (λ (p : TimedPart). p.frame) int_cmp_total)
    (then_total (on_total (λ (p : TimedPart). p.subframe) nat_cmp_total) (then_total (on_total (λ (p : TimedPart). p.slot) nat_cmp_total)
    (then_total (on_total (λ (p : TimedPart). p.symbol) nat_cmp_total) prb_total))))

pub part_ranks : IsStrictWeakOrder part_first
part_ranks = ranks_by part_total (λ (p : TimedPart). p)

abbrev prb_first : TimedPart → TimedPart → Bool
prb_first p q = is_lt (prb_cmp p q)

prb_ranks : IsStrictWeakOrder prb_first
prb_ranks = ranks_by prb_total (λ (p : TimedPart). p)

tied_equal : {K : Type 0} {R : K → K → Ordering} (o : IsTotalOrder R) → (a b : K) → ties (λ x y. is_lt (R x y)) a b ≡ true → R a b ≡ Equal
tied_equal {R = R} o a b h = go (R a b) (R b a) h (o.antisymm a b)
  where
    go : (x y : Ordering) → (not (is_lt x) && not (is_lt y)) ≡ true → x ≡ ordering_reverse y → x ≡ Equal
    go Less y h e = cc
    go Equal y h e = refl
    go Greater Less h e = cc
    go Greater Equal h e = cc
    go Greater Greater h e = cc

equal_tied : {K : Type 0} {R : K → K → Ordering} (o : IsTotalOrder R) → (a b : K) → R a b ≡ Equal → ties (λ x y. is_lt (R x y)) a b ≡ true
equal_tied {R = R} o a b h = let e = o.antisymm b a in rw (e, h) refl

-- what is in a list in a stable order is in the list as it was
from_stable : (xs ys : List TimedPart) → IsStableBy part_first xs ys → (y : TimedPart) → IsIn y ys → IsIn y xs
from_stable xs ys stable y m =
    let there : IsIn y (filter (ties part_first y) ys) = in_filter (ties part_first y) y ys m (equal_tied part_total y y (tied_itself part_total y)) in
    (of_filter (ties part_first y) y xs (subst (IsIn y) (stable y) there)).0

-- what is not put after precedes
step : (P Q R : Type 0) {G : Type 0} (o r : Ordering) → MatchOrdering o P Q R → is_lt (ordering_then o r) ≡ false → (Q → is_lt r ≡ false → G) → (R → G) → G
step P Q R Less r m h same later = absurd (true≢false h)
step P Q R Equal r m h same later = same m h
step P Q R Greater r m h same later = later m

nat_step : {G : Type 0} (a b : ℕ) (r : Ordering) → is_lt (ordering_then (nat_cmp a b) r) ≡ false → (b ≡ a → is_lt r ≡ false → G) → (b < a → G) → G
nat_step a b r h same later = step (a < b) (a ≡ b) (b < a) (nat_cmp a b) r (ranked a b _ refl) h (λ e. same (sym e)) later

int_step : {G : Type 0} (a b : ℤ) (r : Ordering) → is_lt (ordering_then (int_cmp a b) r) ≡ false → (b ≡ a → is_lt r ≡ false → G) → (b <ℤ a → G) → G
int_step a b r h same later = step (a <ℤ b) (a ≡ b) (b <ℤ a) (int_cmp a b) r (int_ranked a b _ refl) h (λ e. same (sym e)) later

precedes : (x y : TimedPart) → part_first y x ≡ false → Precedes (symbol_of x) (symbol_of y)
precedes x y h =
    int_step y.start.0 x.start.0 _ h (λ e h. inr (
      e,
      int_step y.frame x.frame _ h (λ e h. inr (
        e,
        nat_step y.subframe x.subframe _ h (λ e h. inr (
          e,
          nat_step y.slot x.slot _ h (λ e h. inr (e, nat_step y.symbol x.symbol (prb_cmp y x) h (λ e h. omega (arith, e)) (λ l. omega (arith, l))))
              inl,
        )) inl,
      )) inl,
    )) inl

-- ---- what is known of each part

pub record Fact (stream : Stream) (e : EndpointConfig) (y : TimedPart) : Type 0 where
  pub part : IsPart (clock_of e) first_clock tick_count (symbol_of y)
  pub plain : is_up_data stream ≡ false → (y.start_prb ≡ 0) × (y.num_prb ≡ 0) × (y.section ≡ 0)

in_time : (frame start : ℤ) (offset : ℕ) → pos 1 ≤ℤ frame → frame ≤ℤ pos LAST_FRAME → offset < 92160000000 → start ≡ frame *ℤ FRAME +ℤ pos offset
    → (first_clock ≤ℤ start) × (start <ℤ (end_of_time +ℤ pos 1))
in_time frame start offset low high few is = (omega (arith, ints), omega (arith, ints))

pub fact_is : (stream : Stream) (ep : ℕ) (ps : List PlannedLine) (e : EndpointConfig) → ArePlaced ps → HasEndpoint ps ep e → (x : TimedPart) → Named stream ep ps x → Fact stream e x
fact_is stream ep ps e placed ends x n = subst (Fact stream e) (sym n.is) (record { part = part; plain = λ h. rw h (refl, refl, refl) })
  where
    same : n.line.endpoint ≡ e
    same = ends n.line n.there n.ep_is

    at : EndpointConfig → ℤ
    at c = air_of c.numerology n.line.line.slot n.symbol

    slot_ok : IsSlotOf n.line.endpoint.numerology n.line.line.slot
    slot_ok = record { subframe = (placed.ranges n.line n.there).subframe; slot = (inside_is n.line (placed.inside n.line n.there)).slot }

    symbol_ok : n.symbol < symbols_of n.line.endpoint.numerology
    symbol_ok =
        let inside = inside_is n.line (placed.inside n.line n.there) in
        let w = inside.within in
        let few = few_symbols stream n.line inside.some in
        let h = n.high in
        omega (arith, w, h, few)

    near : (first_swept (at n.line.endpoint) ≤ℤ n.line.line.slot.frame) × (n.line.line.slot.frame <ℤ (first_swept (at n.line.endpoint) +ℤ pos 6))
    near = frames_of_symbol n.line.endpoint.numerology n.line.line.slot n.symbol (offsets_short n.line.endpoint.numerology) slot_ok symbol_ok

    times : (first_clock ≤ℤ at n.line.endpoint) × (at n.line.endpoint <ℤ (end_of_time +ℤ pos 1))
    times = in_time n.line.line.slot.frame (at n.line.endpoint) (n.line.line.slot.subframe * SUBFRAME + kind_start n.line.endpoint.numerology.kind n.line.line.slot.slot n.symbol)
        (placed.ranges n.line n.there).frame_low (placed.ranges n.line n.there).frame_high
        (symbol_short n.line.endpoint.numerology n.line.line.slot n.symbol (offsets_short n.line.endpoint.numerology) slot_ok symbol_ok) refl

    part : IsPart (clock_of e) first_clock tick_count (symbol_of (timed stream (part_in n.symbol n.line)))
    part = record {
      starts = ap at same;
      low = near.0;
      high = near.1;
      subframe = slot_ok.subframe;
      slot = subst (λ (c : EndpointConfig). n.line.line.slot.slot < slots_of c.numerology) same slot_ok.slot;
      symbol = subst (λ (c : EndpointConfig). n.symbol < symbols_of c.numerology) same symbol_ok;
      begun = times.0;
      ended = subst (λ (t : ℤ). at n.line.endpoint <ℤ t) (sym (gap_is first_clock (end_of_time +ℤ pos 1) (omega (arith, ints)))) times.1;
    }

-- ---- the parts of one symbol

-- a part of this symbol with the order of another
at_symbol : EndpointConfig → ℤ → ℕ → ℕ → ℕ → TimedPart → TimedPart
at_symbol e f b l y x = record {
  start = record { 0 = air_of e.numerology (slot_at f b l) y };
  frame = f;
  subframe = b;
  slot = l;
  symbol = y;
  start_prb = x.start_prb;
  num_prb = x.num_prb;
  section = x.section;
  size = 0;
  line = 0;
}

from_parts : (f : ℤ) (b l y : ℕ) (z : TimedPart) → AtSymbol f b l y (symbol_of z) → is_at f b l y z ≡ true
from_parts f b l y z a =
    and_from (int_eq z.frame f) _ ((Decides-int_eq z.frame f).1 a.frame)
    (and_from (z.subframe == b) _ (eq-eqb z.subframe b a.subframe) (and_from (z.slot == l) _ (eq-eqb z.slot l a.slot) (eq-eqb z.symbol y a.symbol)))

-- of one symbol the order of PRBs alone decides
one_symbol : (x z : TimedPart) → x.start.0 ≡ z.start.0 → x.frame ≡ z.frame → x.subframe ≡ z.subframe → x.slot ≡ z.slot → x.symbol ≡ z.symbol → part_cmp x z ≡ prb_cmp x z
one_symbol x z s f b l y =
    rw (int_same x.start.0 z.start.0 s, int_same x.frame z.frame f, nat_same x.subframe z.subframe b, nat_same x.slot z.slot l, nat_same x.symbol z.symbol y) refl

then_equal : (a b : Ordering) → ordering_then a b ≡ Equal → (a ≡ Equal) × (b ≡ Equal)
then_equal Less b h = cc
then_equal Equal b h = (refl, h)
then_equal Greater b h = cc

same_place : (x z : TimedPart) → part_cmp x z ≡ Equal → (x.frame ≡ z.frame) × (x.subframe ≡ z.subframe) × (x.slot ≡ z.slot) × (x.symbol ≡ z.symbol) × (prb_cmp x z ≡ Equal)
same_place x z h =
    let a = then_equal (int_cmp x.start.0 z.start.0) _ h in
    let b = then_equal (int_cmp x.frame z.frame) _ a.1 in
    let c = then_equal (nat_cmp x.subframe z.subframe) _ b.1 in
    let d = then_equal (nat_cmp x.slot z.slot) _ c.1 in
    let k = then_equal (nat_cmp x.symbol z.symbol) (prb_cmp x z) d.1 in
    (exact_signed x.frame z.frame b.0, exact_unsigned x.subframe z.subframe c.0, exact_unsigned x.slot z.slot d.0, exact_unsigned x.symbol z.symbol k.0, k.1)

tie_parts : (stream : Stream) (e : EndpointConfig) (f : ℤ) (b l y : ℕ) (x z : TimedPart) → Fact stream e z
    → ties part_first (at_symbol e f b l y x) z ≡ (ties prb_first x z && is_at f b l y z)
unfolding at_symbol
tie_parts stream e f b l y x z fact = both_ways _ _
    (λ h. let s = same_place (at_symbol e f b l y x) z (tied_equal part_total (at_symbol e f b l y x) z h) in
    and_from (ties prb_first x z) _ (equal_tied prb_total x z s.4)
    (from_parts f b l y z (record { frame = sym s.0; subframe = sym s.1; slot = sym s.2; symbol = sym s.3 })))
    (λ h. let w = and_parts (ties prb_first x z) (is_at f b l y z) h in
    let a = at_parts f b l y (symbol_of z) w.1 in
    equal_tied part_total (at_symbol e f b l y x) z
    (one_symbol (at_symbol e f b l y x) z (sym (start_at (clock_of e) first_clock tick_count f b l y (symbol_of z) fact.part a)) (sym a.frame) (sym a.subframe) (sym a.slot) (sym a.symbol) ∙ tied_equal prb_total x z w.0))

-- ---- the order of the radio unit

before_is : (p q : PlannedLine) (y : ℕ) → line_before p q ≡ prb_first (timed UpData (part_in y p)) (timed UpData (part_in y q))
before_is p q y = go (nat_lt p.line.start_prb q.line.start_prb) (p.line.start_prb == q.line.start_prb) (nat_lt p.line.num_prb q.line.num_prb) (p.line.num_prb == q.line.num_prb)
    (nat_lt p.line.section q.line.section) (p.line.section == q.line.section)
  where
    go : (a b c d u v : Bool) → (a || (b && (c || (d && (u || (v && false))))))
        ≡ is_lt (ordering_then (cond a Less (cond b Equal Greater)) (ordering_then (cond c Less (cond d Equal Greater)) (cond u Less (cond v Equal Greater))))
    go true b c d u v = refl
    go false false c d u v = refl
    go false true true d u v = refl
    go false true false false u v = refl
    go false true false true true v = refl
    go false true false true false true = refl
    go false true false true false false = refl

before_ranks : (y : ℕ) → IsStrictWeakOrder line_before
before_ranks y = record {
  one_way = λ p q h. before_is q p y ∙ prb_ranks.one_way (t p) (t q) (sym (before_is p q y) ∙ h);
  chain = λ p q r h g. before_is p r y ∙ prb_ranks.chain (t p) (t q) (t r) (sym (before_is p q y) ∙ h) (sym (before_is q r y) ∙ g);
}
  where
    t : PlannedLine → TimedPart
    t p = timed UpData (part_in y p)

ordered_map : (y : ℕ) (ps : List PlannedLine) → AreOrderedBy line_before ps → AreOrderedBy prb_first (map (λ p. timed UpData (part_in y p)) ps)
ordered_map y [] h = tt
ordered_map y (p ∷ ps) h = (all_mapped ps h.0, ordered_map y ps h.1)
  where
    all_mapped : (qs : List PlannedLine) → AllByRecursion (λ q. line_before q p ≡ false) qs → AllByRecursion (λ z. prb_first z (timed UpData (part_in y p)) ≡ false) (map (λ q. timed UpData (part_in y q)) qs)
    all_mapped [] a = tt
    all_mapped (q ∷ qs) a = (sym (before_is q p y) ∙ a.0, all_mapped qs a.1)

-- two that tie with one are not put before one another
none_first : (x a b : TimedPart) → ties prb_first x a ≡ true → ties prb_first x b ≡ true → prb_first a b ≡ false
none_first x a b h g =
    let xa = tied_equal prb_total x a h in
    let xb = tied_equal prb_total x b g in
    let same : prb_cmp a b ≡ Equal = sym (prb_total.congr x a b xa) ∙ xb in
    ap (λ (o : Ordering). is_lt o) same

-- ---- all

module _ (stream : Stream) (e : EndpointConfig) (ep : ℕ) (lines : List PlannedLine) (ys : List TimedPart) (stable : IsStableBy part_first (map (timed stream) (listed stream ep lines)) ys)
    (order : AreOrderedBy part_first ys) (placed : ArePlaced lines) (ends : HasEndpoint lines ep e) where
  abbrev xs : List TimedPart
  xs = map (timed stream) (listed stream ep lines)

  x_facts : AllByRecursion (Fact stream e) xs
  x_facts = all_from (Fact stream e) xs (λ x m. fact_is stream ep lines e placed ends x (named_is stream ep lines x m))

  y_facts : AllByRecursion (Fact stream e) ys
  y_facts = all_from (Fact stream e) ys (λ y m. all_in (Fact stream e) xs y x_facts (from_stable xs ys stable y m))

  symbol_stable : (f : ℤ) (b l y : ℕ) (x : TimedPart) → filter (ties prb_first x) (filter (is_at f b l y) ys) ≡ filter (ties prb_first x) (filter (is_at f b l y) xs)
  symbol_stable f b l y x =
      sym (filter_and (ties prb_first x) (is_at f b l y) ys) ∙ sym (alike ys y_facts) ∙ stable (at_symbol e f b l y x) ∙ alike xs x_facts
      ∙ filter_and (ties prb_first x) (is_at f b l y) xs
    where
      alike : (zs : List TimedPart) → AllByRecursion (Fact stream e) zs
          → filter (ties part_first (at_symbol e f b l y x)) zs ≡ filter (λ z. ties prb_first x z && is_at f b l y z) zs
      alike zs facts =
          filter_alike (Fact stream e) (ties part_first (at_symbol e f b l y x)) (λ z. ties prb_first x z && is_at f b l y z) (λ z fact. tie_parts stream e f b l y x z fact) zs facts

  symbol_ordered : (f : ℤ) (b l y : ℕ) → AreOrderedBy prb_first (filter (is_at f b l y) ys)
  symbol_ordered f b l y =
      related_map (λ z w. part_first w z ≡ false) (λ z w. prb_first w z ≡ false) (λ z. Fact stream e z × AtSymbol f b l y (symbol_of z))
      (λ z w a c h. sym (ap (λ (o : Ordering). is_lt o) (one_symbol w z (starts w c ∙ sym (starts z a)) (cc) (cc) (cc) (cc))) ∙ h)
      (filter (is_at f b l y) ys)
      (filter_has (Fact stream e) (λ z. Fact stream e z × AtSymbol f b l y (symbol_of z)) (is_at f b l y) (λ z fact h. (fact, at_parts f b l y (symbol_of z) h)) ys y_facts)
      (related_filter (λ z w. part_first w z ≡ false) (is_at f b l y) ys order)
    where
      starts : (z : TimedPart) → Fact stream e z × AtSymbol f b l y (symbol_of z) → z.start.0 ≡ air_of e.numerology (slot_at f b l) y
      starts z w = start_at (clock_of e) first_clock tick_count f b l y (symbol_of z) w.0.part w.1

abbrev zero_part : TimedPart
zero_part = record { start = record { 0 = pos 0 }; frame = pos 0; subframe = 0; slot = 0; symbol = 0; start_prb = 0; num_prb = 0; section = 0; size = 0; line = 0 }

zero_tied : (stream : Stream) (e : EndpointConfig) (z : TimedPart) → is_up_data stream ≡ false → Fact stream e z → ties prb_first zero_part z ≡ true
zero_tied stream e z plain fact =
    let p = fact.plain plain in
    equal_tied prb_total zero_part z (rw (nat_same 0 z.start_prb (sym p.0), nat_same 0 z.num_prb (sym p.1), nat_same 0 z.section (sym p.2)) refl)

map_twice : (stream : Stream) (y : ℕ) (ps : List PlannedLine) → map (timed stream) (map (part_in y) ps) ≡ map (λ p. timed stream (part_in y p)) ps
map_twice stream y [] = refl
map_twice stream y (p ∷ ps) = ap (λ (zs : List TimedPart). timed stream (part_in y p) ∷ zs) (map_twice stream y ps)

-- where lines alone order a symbol's parts
plain_symbol : (stream : Stream) → is_up_data stream ≡ false → (e : EndpointConfig) (ep : ℕ) (lines : List PlannedLine) (ys : List TimedPart) → IsStableBy part_first (map (timed stream) (listed stream ep lines)) ys
    → AreOrderedBy part_first ys → ArePlaced lines → HasEndpoint lines ep e → (f : ℤ) (b l y : ℕ)
    → filter (is_at f b l y) ys ≡ map (timed stream) (map (part_in y) (filter (λ p. has_part stream ep (slot_at f b l) y (line_allocation p)) lines))
plain_symbol stream plain e ep lines ys stable order placed ends f b l y =
    let all = λ (zs : List TimedPart) (facts : AllByRecursion (Fact stream e) zs).
    filter_all (ties prb_first zero_part) (filter (is_at f b l y) zs)
    (all_from (λ z. ties prb_first zero_part z ≡ true) (filter (is_at f b l y) zs) (λ z m. zero_tied stream e z plain (all_in (Fact stream e) zs z facts (of_filter (is_at f b l y) z zs m).0))) in
    sym (all ys (y_facts stream e ep lines ys stable order placed ends))
    ∙ symbol_stable stream e ep lines ys stable order placed ends f b l y zero_part
    ∙ all (map (timed stream) (listed stream ep lines)) (x_facts stream e ep lines ys stable order placed ends)
    ∙ listed_at stream ep lines f b l y
    ∙ sym (map_twice stream y (filter (λ p. has_part stream ep (slot_at f b l) y (line_allocation p)) lines))

pub symbol_is : (stream : Stream) (e : EndpointConfig) (ep : ℕ) (lines : List PlannedLine) (ys : List TimedPart) → IsStableBy part_first (map (timed stream) (listed stream ep lines)) ys
    → AreOrderedBy part_first ys → ArePlaced lines → HasEndpoint lines ep e → (f : ℤ) (b l y : ℕ)
    → filter (is_at f b l y) ys ≡ map (timed stream) (symbol_parts stream lines ep (slot_at f b l) y)
unfolding symbol_parts
symbol_is DownCommands e ep lines ys stable order placed ends f b l y = plain_symbol DownCommands refl e ep lines ys stable order placed ends f b l y
symbol_is UpCommands e ep lines ys stable order placed ends f b l y = plain_symbol UpCommands refl e ep lines ys stable order placed ends f b l y
symbol_is DownData e ep lines ys stable order placed ends f b l y = plain_symbol DownData refl e ep lines ys stable order placed ends f b l y
symbol_is UpData e ep lines ys stable order placed ends f b l y =
    let fs : List PlannedLine = filter (λ p. has_part UpData ep (slot_at f b l) y (line_allocation p)) lines in
    ordered_same prb_first prb_ranks (filter (is_at f b l y) ys) (map (λ p. timed UpData (part_in y p)) (in_order line_before fs))
    (symbol_ordered UpData e ep lines ys stable order placed ends f b l y)
    (ordered_map y (in_order line_before fs) (in_order_ordered line_before (before_ranks y) fs))
    (λ x.
    symbol_stable UpData e ep lines ys stable order placed ends f b l y x
    ∙ ap (filter (ties prb_first x)) (listed_at UpData ep lines f b l y)
    ∙ filter_mapped (λ p. timed UpData (part_in y p)) (ties prb_first x) fs
    ∙ ap (map (λ p. timed UpData (part_in y p)))
    (sym (in_order_keeps line_before (λ p. ties prb_first x (timed UpData (part_in y p)))
    (λ p q h g. before_is p q y ∙ none_first x (timed UpData (part_in y p)) (timed UpData (part_in y q)) h g) fs))
    ∙ sym (filter_mapped (λ p. timed UpData (part_in y p)) (ties prb_first x) (in_order line_before fs)))
    ∙ sym (map_twice UpData y (in_order line_before fs))

-- ---- the sweep

map_each : {X Y : Type 0} (t : X → Y) (from n : ℕ) (f : ℕ → List X) (g : ℕ → List Y) → ((k : ℕ) → g k ≡ map t (f k)) → each from n g ≡ map t (each from n f)
unfolding each
map_each t from zero f g h = refl
map_each t from (suc n) f g h =
    ap₂ (λ us vs. us ++ vs) (h from) (map_each t (from + 1) n f g h) ∙ sym (map-append t (f from) (each (from + 1) n f))

map_ticks : {X Y : Type 0} (t : X → Y) (from : ℤ) (n : ℕ) (f : ℤ → List X) (g : ℤ → List Y) → ((k : ℤ) → g k ≡ map t (f k)) → each_tick from n g ≡ map t (each_tick from n f)
unfolding each_tick
map_ticks t from zero f g h = refl
map_ticks t from (suc n) f g h =
    ap₂ (λ us vs. us ++ vs) (h from) (map_ticks t (from +ℤ pos 1) n f g h) ∙ sym (map-append t (f from) (each_tick (from +ℤ pos 1) n f))

if_map : {X Y : Type 0} (t : X → Y) (c : Bool) (us : List X) (vs : List Y) → vs ≡ map t us
    → (let zs : List Y = if c then vs else [] in zs) ≡ map t (let ws : List X = if c then us else [] in ws)
if_map t true us vs h = h
if_map t false us vs h = refl

pub parts_are : (stream : Stream) (e : EndpointConfig) (ep : ℕ) (lines : List PlannedLine) (ys : List TimedPart) → IsStableBy part_first (map (timed stream) (listed stream ep lines)) ys
    → AreOrderedBy part_first ys → ArePlaced lines → HasEndpoint lines ep e → ys ≡ map (timed stream) (parts_in lines stream ep e)
unfolding parts_in swept of_frame of_subframe of_slot
parts_are stream e ep lines ys stable order placed ends =
    sym (sweeps_find_all symbol_of (clock_of e) ys first_clock tick_count
    (related_map (λ x y. part_first y x ≡ false) (λ x y. Precedes (symbol_of x) (symbol_of y)) (Fact stream e) (λ x y u v h. precedes x y h) ys (y_facts stream e ep lines ys stable order placed ends) order)
    (all_map (Fact stream e) (λ y. IsPart (clock_of e) first_clock tick_count (symbol_of y)) (λ y fact. fact.part) ys (y_facts stream e ep lines ys stable order placed ends)))
    ∙ map_ticks (timed stream) first_clock tick_count _ (parts_of_endpoint symbol_of (clock_of e) ys) (λ s.
    map_each (timed stream) 0 6 _ _ (λ k.
    map_each (timed stream) 0 10 _ _ (λ b.
    map_each (timed stream) 0 (slots_of e.numerology) _ _ (λ l.
    map_each (timed stream) 0 (symbols_of e.numerology) _ _ (λ y.
    if_map (timed stream) (int_eq (air_of e.numerology (slot_at (first_swept s +ℤ pos k) b l) y) s) _ _
    (symbol_is stream e ep lines ys stable order placed ends (first_swept s +ℤ pos k) b l y))))))

-- ---- times that can be told

bounded : (t : ℤ) → first_clock ≤ℤ t → t <ℤ (first_clock +ℤ pos tick_count) → (neg_ℤ (pos (2 ^ 56)) ≤ℤ t) × (t ≤ℤ pos (2 ^ 56))
bounded t low high =
    let g = gap_is first_clock (end_of_time +ℤ pos 1) (omega (arith, ints)) in
    let h : t <ℤ (end_of_time +ℤ pos 1) = subst (λ (x : ℤ). t <ℤ x) g high in
    (omega (arith, ints), omega (arith, ints))

pub all_timed : (stream : Stream) (ep : ℕ) (lines : List PlannedLine) (ys : List TimedPart) → IsStableBy part_first (map (timed stream) (listed stream ep lines)) ys → ArePlaced lines → AllByRecursion IsTimed ys
all_timed stream ep lines ys stable placed = all_from IsTimed ys (λ y m.
    let n = named_is stream ep lines y (from_stable (map (timed stream) (listed stream ep lines)) ys stable y m) in
    let fact = fact_is stream ep lines n.line.endpoint placed (λ p k e. placed.same p n.line k n.there (e ∙ sym n.ep_is)) y n in
    let b = bounded y.start.0 fact.part.begun fact.part.ended in
    record {
      low = b.0;
      high = b.1;
      size = subst (λ (x : TimedPart). x.size ≤ 13383) (sym n.is) (size_small n.line (placed.endpoint n.line n.there) (placed.inside n.line n.there));
    })

pub few_parts : (stream : Stream) (ep : ℕ) (lines : List PlannedLine) (xs ys : List TimedPart) → xs ≡ map (timed stream) (listed stream ep lines) → length ys ≡ length xs → ArePlaced lines
    → length ys ≤ 15 * length lines
few_parts stream ep lines xs ys is same placed =
    let few = listed_few stream ep lines (λ p m. few_of p m) in
    let e : length xs ≡ length (listed stream ep lines) = ap length is ∙ length-map (listed stream ep lines) (timed stream) in
    omega (arith, few, e, same)
  where
    few_of : (p : PlannedLine) → IsIn p lines → part_symbols stream p ≤ 15
    few_of p m =
        let few = few_symbols stream p (inside_is p (placed.inside p m)).some in
        let most = (placed.ranges p m).count in
        omega (arith, few, most)

-- each is of one of the lines
pub lines_below : (stream : Stream) (ep : ℕ) (lines : List PlannedLine) (ys : List TimedPart) → IsStableBy part_first (map (timed stream) (listed stream ep lines)) ys → (most : ℕ)
    → AllByRecursion (λ p. p.index < most) lines → AllByRecursion (λ y. y.line < most) ys
lines_below stream ep lines ys stable most all = all_from (λ y. y.line < most) ys (λ y m.
    let n = named_is stream ep lines y (from_stable (map (timed stream) (listed stream ep lines)) ys stable y m) in
    subst (λ (x : TimedPart). x.line < most) (sym n.is) (all_in (λ p. p.index < most) lines n.line all n.there))
