-- The parts of one symbol among those that are listed line by line.
use Rattle.std.proofs.Common.{◌*◌, ◌≡◌, ℕ, ℤ, zero, suc, ◌+◌, ◌<◌, ◌≤◌, inl, inr, Bool, true, false, ◌&&◌, ◌==◌, if◌then◌else◌, List, [], ◌∷◌, ◌++◌, length, filter, map, get_or, drop, drop-cons, append_assoc, refl, ap, ap₂, sym, ◌∙◌, subst, arith}
use Rattle.std.specs.Ordering.{int_eq}
use Rattle.std.proofs.lemmas.Bool.{cases_Bool, cases_eq, eq-eqb, ne_eqb, eqb-true, and_parts, and_right}
use Rattle.std.proofs.lemmas.Bool.Decides.{nat_tests}
use Rattle.std.proofs.Math.Bool.{and-true, and_assoc}
use Rattle.std.proofs.lemmas.List.{map-append, append-nil, drop_all, length-append}
use Rattle.std.proofs.lemmas.List.Elements.{filter-append}
use Rattle.fh_base.specs.Numbering.{symbols_of}
use Rattle.fh_base.proofs.Orders.{all_three}
use Rattle.window_config.specs.Endpoints.{IsEndpoint}
use Rattle.unit_model.specs.Proper.{IsSlot}
use Rattle.plan_model.specs.declared.streams.Stream.{Stream}
use Rattle.plan_model.specs.declared.streams.Stream.TheVariants.{DownCommands, UpCommands, DownData, UpData}
use Rattle.schedule_laws.specs.PlacedLines.{ArePlaced}
use Rattle.schedule_laws.proofs.InsideLemmas.{inside_is, slot_inside}
use Rattle.unit_model.specs.Claims.{is_from}
use Rattle.fh_base.specs.Lists.{each}
use Rattle.unit_model.specs.Sweeps.{slot_at}
use Rattle.plan_model.specs.Lines.{line_allocation}
use Rattle.plan_model.specs.Streams.{Part, part_in, has_part}
use Rattle.plan_model.specs.declared.lines.PlannedLine.{PlannedLine}
use Rattle.du_scheduler.specs.Parts.{is_at, part_symbols, timed, has_stream, is_sent, line_parts, listed}
use Rattle.du_scheduler.specs.declared.parts.TimedPart.{TimedPart}
use Rattle.fh_base.specs.Members.{IsIn}
use Rattle.fh_base.proofs.MemberLemmas.{in_either}
use Rattle.fh_base.proofs.EachLemmas.{each_split}

-- the tests of the slot, as one
slot_test : ℤ → ℕ → ℕ → PlannedLine → Bool
slot_test f b l p = int_eq p.line.slot.frame f && ((p.line.slot.subframe == b) && (p.line.slot.slot == l))

none_from : (from y : ℕ) → is_from from 0 y ≡ false
none_from from y = grind (arith, nat_tests)

here_from : (from n y : ℕ) → from ≡ y → is_from from (suc n) y ≡ true
here_from from n y e = grind (arith, nat_tests)

not_later : (from n y : ℕ) → from ≡ y → is_from (from + 1) n y ≡ false
not_later from n y e = grind (arith, nat_tests)

later_from : (from n y : ℕ) → (from ≡ y → ⊥) → is_from from (suc n) y ≡ is_from (from + 1) n y
later_from from n y ne = elim (cases_Bool (is_from (from + 1) n y)) [
  | inl t ↦ (let s : is_from from (suc n) y ≡ true = grind (arith, nat_tests) in s ∙ sym t)
  | inr f ↦ (let s : is_from from (suc n) y ≡ false = grind (arith, nat_tests) in s ∙ sym f)
]

abbrev one_of : Bool → TimedPart → List TimedPart
one_of t x = if t then x ∷ [] else []

-- a line has one part in each of its symbols
one_line : (stream : Stream) (p : PlannedLine) (f : ℤ) (b l y from n : ℕ)
    → filter (is_at f b l y) (map (timed stream) (each from n (λ z. part_in z p ∷ []))) ≡ one_of (slot_test f b l p && is_from from n y) (timed stream (part_in y p))
unfolding each slot_test
one_line stream p f b l y from zero =
    ap (λ (t : Bool). one_of t (timed stream (part_in y p))) (sym (and_right (slot_test f b l p) (is_from from 0 y) (none_from from y)))
one_line stream p f b l y from (suc n) = elim (cases_eq from y) [
  | inl here ↦ rest_of (slot_test f b l p) (is_at f b l y (timed stream (part_in from p)))
      (at_is ∙ ap (λ (t : Bool). slot_test f b l p && t) (eq-eqb from y here) ∙ and-true (slot_test f b l p)) (ap (λ z. timed stream (part_in z p)) here)
      (one_line stream p f b l y (from + 1) n ∙ ap (λ (t : Bool). one_of (slot_test f b l p && t) (timed stream (part_in y p))) (not_later from n y here)) (here_from from n y here)
  | inr other ↦ skip (is_at f b l y (timed stream (part_in from p))) (at_is ∙ and_right (slot_test f b l p) (from == y) (ne_eqb from y other))
      (one_line stream p f b l y (from + 1) n) (later_from from n y other)
]
  where
    whole : List TimedPart
    whole = filter (is_at f b l y) (map (timed stream) (each (from + 1) n (λ z. part_in z p ∷ [])))

    at_is : is_at f b l y (timed stream (part_in from p)) ≡ (slot_test f b l p && (from == y))
    at_is = all_three (int_eq p.line.slot.frame f) (p.line.slot.subframe == b) (p.line.slot.slot == l) (from == y)

    rest_of : (s a : Bool) → a ≡ s → timed stream (part_in from p) ≡ timed stream (part_in y p) → whole ≡ one_of (s && false) (timed stream (part_in y p)) → is_from from (suc n) y ≡ true
        → (let xs : List TimedPart = if a then timed stream (part_in from p) ∷ whole else whole in xs) ≡ one_of (s && is_from from (suc n) y) (timed stream (part_in y p))
    rest_of true a e same none from_it = rw (e, from_it) (ap₂ (λ (x : TimedPart) (xs : List TimedPart). x ∷ xs) same none)
    rest_of false a e same none from_it = rw e none

    skip : (a : Bool) → a ≡ false → whole ≡ one_of (slot_test f b l p && is_from (from + 1) n y) (timed stream (part_in y p)) → is_from from (suc n) y ≡ is_from (from + 1) n y
        → (let xs : List TimedPart = if a then timed stream (part_in from p) ∷ whole else whole in xs) ≡ one_of (slot_test f b l p && is_from from (suc n) y) (timed stream (part_in y p))
    skip a e rest later = rw (e, later) rest

one_from : (from y : ℕ) → is_from from 1 y ≡ (from == y)
one_from from y = elim (cases_eq from y) [
  | inl here ↦ here_from from 0 y here ∙ sym (eq-eqb from y here)
  | inr other ↦ later_from from 0 y other ∙ none_from (from + 1) y ∙ sym (ne_eqb from y other)
]

-- a command has its part in the first symbol
command_is : (a b s : Bool) (from y : ℕ) → ((a && b) && (s && is_from from 1 y)) ≡ (a && (b && (s && (from == y))))
command_is a b s from y = ap (λ (t : Bool). (a && b) && (s && t)) (one_from from y) ∙ and_assoc a b (s && (from == y))

-- that is what the definition asks of a line
test_is : (stream : Stream) (ep : ℕ) (p : PlannedLine) (f : ℤ) (b l y : ℕ)
    → (is_sent stream ep p && (slot_test f b l p && is_from p.line.symbol (part_symbols stream p) y)) ≡ has_part stream ep (slot_at f b l) y (line_allocation p)
unfolding slot_test
test_is DownCommands ep p f b l y = command_is (has_stream DownCommands (line_allocation p)) (p.ep == ep) _ p.line.symbol y
test_is UpCommands ep p f b l y = command_is (has_stream UpCommands (line_allocation p)) (p.ep == ep) _ p.line.symbol y
test_is DownData ep p f b l y = and_assoc (has_stream DownData (line_allocation p)) (p.ep == ep) _
test_is UpData ep p f b l y = and_assoc (has_stream UpData (line_allocation p)) (p.ep == ep) _

pub listed_at : (stream : Stream) (ep : ℕ) (ps : List PlannedLine) (f : ℤ) (b l y : ℕ)
    → filter (is_at f b l y) (map (timed stream) (listed stream ep ps))
    ≡ map (λ p. timed stream (part_in y p)) (filter (λ p. has_part stream ep (slot_at f b l) y (line_allocation p)) ps)
unfolding listed
listed_at stream ep [] f b l y = refl
listed_at stream ep (p ∷ ps) f b l y =
    ap (filter (is_at f b l y)) (map-append (timed stream) (own (is_sent stream ep p)) (listed stream ep ps))
    ∙ filter-append (is_at f b l y) (map (timed stream) (own (is_sent stream ep p))) (map (timed stream) (listed stream ep ps))
    ∙ ap₂ (λ (xs ys : List TimedPart). xs ++ ys) (first (is_sent stream ep p)) (listed_at stream ep ps f b l y)
    ∙ joined (is_sent stream ep p && (slot_test f b l p && is_from p.line.symbol (part_symbols stream p) y))
    (has_part stream ep (slot_at f b l) y (line_allocation p)) (test_is stream ep p f b l y)
  where
    own : Bool → List Part
    own t = if t then line_parts stream p else []

    rest : List PlannedLine
    rest = filter (λ q. has_part stream ep (slot_at f b l) y (line_allocation q)) ps

    first : (t : Bool) → filter (is_at f b l y) (map (timed stream) (let xs : List Part = if t then line_parts stream p else [] in xs))
        ≡ one_of (t && (slot_test f b l p && is_from p.line.symbol (part_symbols stream p) y)) (timed stream (part_in y p))
    first true = one_line stream p f b l y p.line.symbol (part_symbols stream p)
    first false = refl

    joined : (s t : Bool) → s ≡ t → one_of s (timed stream (part_in y p)) ++ map (λ q. timed stream (part_in y q)) rest
        ≡ map (λ q. timed stream (part_in y q)) (let xs : List PlannedLine = if t then p ∷ rest else rest in xs)
    joined true t e = rw (sym e) refl
    joined false t e = rw (sym e) refl

-- ---- what holds of each that is listed

pub record Named (stream : Stream) (ep : ℕ) (ps : List PlannedLine) (x : TimedPart) : Type 0 where
  pub line : PlannedLine
  pub there : IsIn line ps
  pub ep_is : line.ep ≡ ep
  pub symbol : ℕ
  pub low : line.line.symbol ≤ symbol
  pub high : symbol < line.line.symbol + part_symbols stream line
  pub is : x ≡ timed stream (part_in symbol line)

in_line : (stream : Stream) (p : PlannedLine) (x : TimedPart) (from n : ℕ) → IsIn x (map (timed stream) (each from n (λ z. part_in z p ∷ [])))
    → (y : ℕ) × (from ≤ y) × (y < from + n) × (x ≡ timed stream (part_in y p))
unfolding each
in_line stream p x from zero m = absurd m
in_line stream p x from (suc n) m = elim m [
  | inl here ↦ (from, omega arith, omega arith, here)
  | inr there ↦ (let r = in_line stream p x (from + 1) n there in (r.0, (let a = r.1 in omega (arith, a)), (let b = r.2 in omega (arith, b)), r.3))
]

pub named_is : (stream : Stream) (ep : ℕ) (ps : List PlannedLine) (x : TimedPart) → IsIn x (map (timed stream) (listed stream ep ps)) → Named stream ep ps x
unfolding listed
named_is stream ep [] x m = absurd m
named_is stream ep (p ∷ ps) x m = go (is_sent stream ep p) refl m (named_is stream ep ps x)
  where
    later : Named stream ep ps x → Named stream ep (p ∷ ps) x
    later n = record { line = n.line; there = inr n.there; ep_is = n.ep_is; symbol = n.symbol; low = n.low; high = n.high; is = n.is }

    go : (t : Bool) → is_sent stream ep p ≡ t → IsIn x (map (timed stream) ((let xs : List Part = if t then line_parts stream p else [] in xs) ++ listed stream ep ps))
        → (IsIn x (map (timed stream) (listed stream ep ps)) → Named stream ep ps x) → Named stream ep (p ∷ ps) x
    go true e n rest = elim (in_either x (map (timed stream) (line_parts stream p)) (map (timed stream) (listed stream ep ps)) (subst (IsIn x) (map-append (timed stream) (line_parts stream p) (listed stream ep ps)) n)) [
      | inl own ↦
          let r = in_line stream p x p.line.symbol (part_symbols stream p) own in
          record { line = p; there = inl refl; ep_is = eqb-true p.ep ep (and_parts (has_stream stream (line_allocation p)) (p.ep == ep) e).1; symbol = r.0; low = r.1; high = r.2; is = r.3 }
      | inr there ↦ later (rest there)
    ]
    go false e n rest = later (rest n)

-- ---- as they are put

pub put_start : (stream : Stream) (old : List TimedPart) (from : ℕ) (f : ℕ → List Part) → old ≡ old ++ map (timed stream) (each from 0 f)
unfolding each
put_start stream old from f = sym (append-nil old)

pub put_more : (stream : Stream) (old before new : List TimedPart) (p : PlannedLine) (from k y : ℕ) (x : TimedPart) → y ≡ from + k → x ≡ timed stream (part_in y p)
    → before ≡ old ++ map (timed stream) (each from k (λ z. part_in z p ∷ [])) → new ≡ before ++ x ∷ []
    → new ≡ old ++ map (timed stream) (each from (k + 1) (λ z. part_in z p ∷ []))
unfolding each
put_more stream old before new p from k y x y_is x_is before_is new_is =
    let more : each from (k + 1) (λ z. part_in z p ∷ []) ≡ each from k (λ z. part_in z p ∷ []) ++ part_in (from + k) p ∷ [] = each_split from k 1 (λ z. part_in z p ∷ []) in
    new_is ∙ ap₂ (λ (xs : List TimedPart) (z : TimedPart). xs ++ z ∷ []) before_is (x_is ∙ ap (λ (i : ℕ). timed stream (part_in i p)) y_is)
    ∙ append_assoc old (map (timed stream) (each from k (λ z. part_in z p ∷ []))) (timed stream (part_in (from + k) p) ∷ [])
    ∙ ap (λ (xs : List TimedPart). old ++ xs) (sym (ap (map (timed stream)) more ∙ map-append (timed stream) (each from k (λ z. part_in z p ∷ [])) (part_in (from + k) p ∷ [])))

pub listed_more : (stream : Stream) (ep : ℕ) (lines : List PlannedLine) (i : ℕ) (p : PlannedLine) (before new : List TimedPart) → i < length lines → p ≡ get_or lines i p
    → before ++ map (timed stream) (listed stream ep (drop i lines)) ≡ map (timed stream) (listed stream ep lines)
    → new ≡ before ++ map (timed stream) (let xs : List Part = if is_sent stream ep p then line_parts stream p else [] in xs)
    → new ++ map (timed stream) (listed stream ep (drop (i + 1) lines)) ≡ map (timed stream) (listed stream ep lines)
unfolding listed
listed_more stream ep lines i p before new below is so_far new_is =
    let e : suc i ≡ i + 1 = omega arith in
    let here : drop i lines ≡ p ∷ drop (i + 1) lines = drop-cons lines i p below ∙ ap₂ (λ (x : PlannedLine) (n : ℕ). x ∷ drop n lines) (sym is) e in
    ap (λ (xs : List TimedPart). xs ++ map (timed stream) (listed stream ep (drop (i + 1) lines))) new_is
    ∙ append_assoc before (map (timed stream) (if is_sent stream ep p then line_parts stream p else [])) (map (timed stream) (listed stream ep (drop (i + 1) lines)))
    ∙ ap (λ (xs : List TimedPart). before ++ xs) (sym (map-append (timed stream) (if is_sent stream ep p then line_parts stream p else []) (listed stream ep (drop (i + 1) lines))))
    ∙ ap (λ (xs : List PlannedLine). before ++ map (timed stream) (listed stream ep xs)) (sym here) ∙ so_far

pub listed_end : (stream : Stream) (ep : ℕ) (lines : List PlannedLine) (i : ℕ) (all : List TimedPart) → length lines ≤ i
    → all ++ map (timed stream) (listed stream ep (drop i lines)) ≡ map (timed stream) (listed stream ep lines) → all ≡ map (timed stream) (listed stream ep lines)
unfolding listed
listed_end stream ep lines i all end h = sym (append-nil all) ∙ ap (λ (xs : List PlannedLine). all ++ map (timed stream) (listed stream ep xs)) (sym (drop_all i lines end)) ∙ h

-- ---- what the times of a line ask

pub in_at : (lines : List PlannedLine) (i : ℕ) (p : PlannedLine) → i < length lines → p ≡ get_or lines i p → IsIn p lines
in_at [] i p below is = absurd (omega (arith, below))
in_at (x ∷ lines) zero p below is = inl is
in_at (x ∷ lines) (suc i) p below is = inr (in_at lines i p (omega (arith, below)) is)

pub few_symbols : (stream : Stream) (p : PlannedLine) → 0 < p.line.count → part_symbols stream p ≤ p.line.count
few_symbols DownCommands p some = some
few_symbols UpCommands p some = some
few_symbols DownData p some = omega arith
few_symbols UpData p some = omega arith

pub record Timeable (stream : Stream) (p : PlannedLine) : Type 0 where
  pub endpoint : IsEndpoint p.endpoint
  pub slot : IsSlot p.endpoint.numerology p.line.slot
  pub symbols : p.line.symbol + part_symbols stream p ≤ symbols_of p.endpoint.numerology

pub timeable : (stream : Stream) (lines : List PlannedLine) (i : ℕ) (p : PlannedLine) → ArePlaced lines → i < length lines → p ≡ get_or lines i p → Timeable stream p
timeable stream lines i p placed below is =
    let m = in_at lines i p below is in
    let inside = inside_is p (placed.inside p m) in
    let few = few_symbols stream p inside.some in
    let within = inside.within in
    record { endpoint = placed.endpoint p m; slot = slot_inside p (placed.ranges p m) (placed.inside p m); symbols = omega (arith, few, within) }

-- ---- how many

one_each : (p : PlannedLine) (from n : ℕ) → length (each from n (λ z. part_in z p ∷ [])) ≡ n
unfolding each
one_each p from zero = refl
one_each p from (suc n) = let e = one_each p (from + 1) n in omega (arith, e)

pub listed_few : (stream : Stream) (ep : ℕ) (ps : List PlannedLine) → ((p : PlannedLine) → IsIn p ps → part_symbols stream p ≤ 15) → length (listed stream ep ps) ≤ 15 * length ps
unfolding listed
listed_few stream ep [] h = omega arith
listed_few stream ep (p ∷ ps) h = go (is_sent stream ep p) (listed_few stream ep ps (λ q m. h q (inr m)))
  where
    go : (t : Bool) → length (listed stream ep ps) ≤ 15 * length ps → length ((let xs : List Part = if t then line_parts stream p else [] in xs) ++ listed stream ep ps) ≤ 15 * suc (length ps)
    go true r =
        let own = one_each p p.line.symbol (part_symbols stream p) in
        let most = h p (inl refl) in
        let e = length-append (line_parts stream p) (listed stream ep ps) in
        omega (arith, own, most, e, r)
    go false r = omega (arith, r)
