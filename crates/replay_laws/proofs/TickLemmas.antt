-- From one tick to another.
use Rattle.std.proofs.Common.{◌≡◌, ℕ, ℤ, pos, zero, suc, ◌+ℤ◌, ◌≤ℤ◌, ◌<ℤ◌, List, [], ◌++◌, sym, ap, ◌∙◌, subst, arith, append-nil}
use Rattle.std.specs.Int.{int_gap}
use Rattle.std.proofs.lemmas.Int.{ints}
use Rattle.std.specs.Int.Signed.{≤ℤ_refl}
use Rattle.window_config.specs.declared.endpoints.EndpointConfig.{EndpointConfig}
use Rattle.fh_base.specs.Lists.{each_tick}
use Rattle.unit_model.specs.Sweeps.{OfSymbol, at_tick, sweep}
use Rattle.unit_model.proofs.SweepLemmas.{sweep-append}
use Rattle.unit_laws.proofs.HistoryLists.{front_empty, back_empty}
use Rattle.fh_base.proofs.Orders.{weak, same_gap as gap_sum, frame_low_is as step_above, next_later as next_most, at_most, and_none, next_after, next_is_later}
use Rattle.fh_base.proofs.EachLemmas.{gap_is, gap_none, ticks_none, ticks_split}

-- ---- numbers

step_is : (a : ℤ) (n : ℕ) → (a +ℤ pos n) +ℤ pos 1 ≡ a +ℤ pos (suc n)
step_is a n = omega (arith, ints)

step_below : (a : ℤ) (n : ℕ) → (a +ℤ pos n) <ℤ (a +ℤ pos (suc n))
step_below a n = omega (arith, ints)

step_later : (a t : ℤ) (n : ℕ) → t <ℤ (a +ℤ pos n) → t <ℤ (a +ℤ pos (suc n))
step_later a t n h = omega (arith, ints)

pub next_gap : (a b : ℤ) → a ≤ℤ b → int_gap a (b +ℤ pos 1) ≡ suc (int_gap a b)
next_gap a b h =
    let one = gap_is a b h in
    let two = gap_is a (b +ℤ pos 1) (next_most a b h) in
    omega (arith, ints, one, two)

-- ---- what each tick hands on

climbs : (P : ℤ → Type 0) (from : ℤ) (n : ℕ) → P from → ((t : ℤ) → from ≤ℤ t → t <ℤ (from +ℤ pos n) → P t → P (t +ℤ pos 1)) → P (from +ℤ pos n)
climbs P from zero here step = subst P (sym (and_none from)) here
climbs P from (suc n) here step =
    subst P (step_is from n)
    (step (from +ℤ pos n) (step_above from n) (step_below from n) (climbs P from n here (λ t low high. step t low (step_later from t n high))))

-- what holds at one tick, and at each next one where it holds before, holds at a later tick
pub between : (P : ℤ → Type 0) (from to : ℤ) → from ≤ℤ to → P from → ((t : ℤ) → from ≤ℤ t → t <ℤ to → P t → P (t +ℤ pos 1)) → P to
between P from to order here step =
    let reach = gap_is from to order in
    subst P reach (climbs P from (int_gap from to) here (λ t low high. step t low (subst (λ (u : ℤ). t <ℤ u) reach high)))

-- ---- lists of ticks

pub ticks_append : {A : Type 0} (f : ℤ → List A) (from mid end : ℤ) → from ≤ℤ mid → mid ≤ℤ end
    → each_tick from (int_gap from end) f ≡ each_tick from (int_gap from mid) f ++ each_tick mid (int_gap mid end) f
ticks_append f from mid end low high =
    let n = int_gap from mid in
    let m = int_gap mid end in
    let reach = gap_is from mid low in
    let size = gap_sum from mid end n m (int_gap from end) reach (gap_is mid end high) (gap_is from end (at_most from mid end low high)) in
    ap (λ (k : ℕ). each_tick from k f) size ∙ ticks_split from n m f ∙ ap (λ (t : ℤ). each_tick from n f ++ each_tick t m f) reach

one_tick : {A : Type 0} (f : ℤ → List A) (t : ℤ) → each_tick t 1 f ≡ f t
unfolding each_tick
one_tick f t = append-nil (f t)

pub tick_alone : {A : Type 0} (f : ℤ → List A) (t : ℤ) → each_tick t (int_gap t (t +ℤ pos 1)) f ≡ f t
tick_alone f t =
    let size : int_gap t (t +ℤ pos 1) ≡ 1 = next_gap t t (≤ℤ_refl t) ∙ ap suc (gap_none t t (≤ℤ_refl t)) in
    ap (λ (k : ℕ). each_tick t k f) size ∙ one_tick f t

pub no_ticks : {A : Type 0} (f : ℤ → List A) (from end : ℤ) → from ≤ℤ end → ((t : ℤ) → from ≤ℤ t → t <ℤ end → f t ≡ [])
    → each_tick from (int_gap from end) f ≡ []
no_ticks f from end order none =
    let reach = gap_is from end order in
    ticks_none from (int_gap from end) f (λ t low high. none t low (subst (λ (u : ℤ). t <ℤ u) reach high))

pub sweep_alone : {A : Type 0} (g : OfSymbol A) (es : List EndpointConfig) (t : ℤ) → sweep g es t (t +ℤ pos 1) ≡ at_tick g es t
unfolding sweep
sweep_alone g es t = tick_alone (at_tick g es) t

-- ---- where all is empty, each part is

-- a sweep without anything has nothing at each of its ticks
pub tick_empty : {A : Type 0} (g : OfSymbol A) (es : List EndpointConfig) (from t end : ℤ) → from ≤ℤ t → t <ℤ end → sweep g es from end ≡ [] → at_tick g es t ≡ []
tick_empty g es from t end low high none =
    let rest : sweep g es t end ≡ [] =
    back_empty (sweep g es from t) (sweep g es t end) (sym (sweep-append g es from t end low (weak t end high)) ∙ none) in
    let next = t +ℤ pos 1 in
    sym (sweep_alone g es t)
    ∙ front_empty (sweep g es t next) (sweep g es next end) (sym (sweep-append g es t next end (next_is_later t) (next_after t end high)) ∙ rest)
