-- What is due falls apart at each time.
use Rattle.std.proofs.Common.{◌≡◌, ℕ, ℤ, pos, ◌+ℤ◌, ◌-ℤ◌, ◌≤ℤ◌, Bool, true, false, not, ◌&&◌, ◌||◌, List, [], ◌∷◌, ◌++◌, refl, sym, ap, ap₂, ◌∙◌, subst, append-nil}
use Rattle.std.specs.Prelude.{All, ◌==◌, if◌then◌else◌, filter, cond}
use Rattle.std.proofs.lemmas.Bool.{or_left, or_right}
use Rattle.std.proofs.lemmas.Int.{by_lt_z}
use Rattle.std.proofs.lemmas.List.Elements.{All-nil, All-cons, All-head, All-tail, All-weaker, All-filter, filter-append}
use Rattle.std.proofs.lemmas.List.Folds.{list_any-append}
use Rattle.fh_base.specs.Air.{air_of}
use Rattle.fh_base.specs.declared.values.Slot.{Slot}
use Rattle.unit_model.specs.Terms.{AirCell, Side, is_down}
use Rattle.window_config.specs.declared.delays.Delays.{Delays}
use Rattle.window_config.specs.declared.endpoints.EndpointConfig.{EndpointConfig}
use Rattle.unit_model.specs.Claims.{cell_at}
use Rattle.unit_model.specs.Radiated.{Known, air_cell, cell_report, first_clock, reported, symbol_report, used_mask, wait_of}
use Rattle.unit_model.specs.Standing.{due, is_reported, same_cell, still_reported}
use Rattle.unit_model.specs.Sweeps.{sweep}
use Rattle.unit_laws.specs.Due.{AreDifferent, ReportedAreDifferent, DueAreDifferent, AllIsDue, DueInPieces, DueOnce}
use Rattle.unit_laws.proofs.DifferLemmas.{IsOther, IsOwn, TellsOwn, all_kept, differ-append, differ-filter, differ-parts, each_differ, not_less, other_swap, same_self, sweep_differ}
use Rattle.unit_model.proofs.SweepLemmas.{IsKept, each_related, sweep_related, sweep-append, sweep-none, sweep-same}
use Rattle.fh_base.proofs.Orders.{up_to, weak}

-- ---- filters

filter_step : {A : Type 0} (q : A → Bool) (b : Bool) (x : A) (kept rest : List A) → rest ≡ filter q kept
    → cond (b && q x) (x ∷ rest) rest ≡ filter q (cond b (x ∷ kept) kept)
filter_step q true x kept rest e = ap (λ ys. cond (q x) (x ∷ ys) ys) e
filter_step q false x kept rest e = e

pub filter_both : {A : Type 0} (p q r : A → Bool) → ((a : A) → r a ≡ (p a && q a)) → (xs : List A) → filter r xs ≡ filter q (filter p xs)
filter_both p q r same [] = refl
filter_both p q r same (x ∷ xs) =
    ap (λ b. cond b (x ∷ filter r xs) (filter r xs)) (same x) ∙ filter_step q (p x) x (filter p xs) (filter r xs) (filter_both p q r same xs)

pub filter_every : {A : Type 0} (p : A → Bool) (xs : List A) → All (λ a. p a ≡ true) xs → filter p xs ≡ xs
filter_every p [] h = refl
filter_every p (x ∷ xs) h =
    ap (λ b. cond b (x ∷ filter p xs) (filter p xs)) (All-head (λ a. p a ≡ true) x xs h)
    ∙ ap (λ ys. x ∷ ys) (filter_every p xs (All-tail (λ a. p a ≡ true) x xs h))

pub filter_nothing : {A : Type 0} (p : A → Bool) (xs : List A) → All (λ a. p a ≡ false) xs → filter p xs ≡ []
filter_nothing p [] h = refl
filter_nothing p (x ∷ xs) h =
    ap (λ b. cond b (x ∷ filter p xs) (filter p xs)) (All-head (λ a. p a ≡ false) x xs h) ∙ filter_nothing p xs (All-tail (λ a. p a ≡ false) x xs h)

filter_kept : {A : Type 0} (q : A → Bool) → IsKept {A = A} {B = A} (λ xs ys. filter q xs ≡ ys)
filter_kept q = record { none = refl; more = λ xs xs' ys ys' p r. filter-append q xs xs' ∙ ap₂ ◌++◌ p r }

-- ---- what was heard

abbrev pub unheard : List AirCell → AirCell → Bool
unheard heard a = not (is_reported heard a)

not_or : (a b : Bool) → not (a || b) ≡ (not a && not b)
not_or true b = refl
not_or false b = refl

unheard-append : (heard told : List AirCell) (a : AirCell) → unheard (heard ++ told) a ≡ (unheard heard a && unheard told a)
unheard-append heard told a =
    ap not (list_any-append (same_cell a) heard told) ∙ not_or (is_reported heard a) (is_reported told a)

-- each of these is among them
among : (xs : List AirCell) → All (λ a. is_reported xs a ≡ true) xs
among [] = All-nil (λ a. is_reported (let none : List AirCell = [] in none) a ≡ true)
among (x ∷ xs) =
    All-cons (λ a. is_reported (x ∷ xs) a ≡ true) x xs (or_left (same_cell x x) (is_reported xs x) (same_self x))
    (All-weaker (λ a. is_reported xs a ≡ true) (λ a. is_reported (x ∷ xs) a ≡ true) (λ a h. or_right (same_cell a x) (is_reported xs a) h) xs (among xs))

-- one that differs from each is not among them
not_among : (xs : List AirCell) (b : AirCell) → All (λ a. IsOther a b) xs → is_reported xs b ≡ false
not_among [] b h = refl
not_among (x ∷ xs) b h =
    ap (λ t. t || is_reported xs b) (other_swap x b (All-head (λ a. IsOther a b) x xs h)) ∙ not_among xs b (All-tail (λ a. IsOther a b) x xs h)

-- each of the later ones differs from each of the earlier ones
turned : (xs ys : List AirCell) → All (λ a. All (IsOther a) ys) xs → All (λ b. All (λ a. IsOther a b) xs) ys
turned xs [] h = All-nil (λ b. All (λ a. IsOther a b) xs)
turned xs (y ∷ ys) h =
    All-cons (λ b. All (λ a. IsOther a b) xs) y ys
    (All-weaker (λ a. All (IsOther a) (y ∷ ys)) (λ a. IsOther a y) (λ a all. All-head (IsOther a) y ys all) xs h)
    (turned xs ys (All-weaker (λ a. All (IsOther a) (y ∷ ys)) (λ a. All (IsOther a) ys) (λ a all. All-tail (IsOther a) y ys all) xs h))

-- once the first of them are heard, the others are left
left_unheard : (xs ys : List AirCell) → AreDifferent (xs ++ ys) → filter (unheard xs) (xs ++ ys) ≡ ys
left_unheard xs ys differ =
    let front : filter (unheard xs) xs ≡ [] = filter_nothing (unheard xs) xs (All-weaker (λ a. is_reported xs a ≡ true) (λ a. unheard xs a ≡ false) (λ a h. ap not h) xs (among xs)) in
    let back : filter (unheard xs) ys ≡ ys =
    filter_every (unheard xs) ys (All-weaker (λ b. All (λ a. IsOther a b) xs) (λ b. unheard xs b ≡ true) (λ b h. ap not (not_among xs b h)) ys (turned xs ys (differ-parts xs ys differ))) in
    filter-append (unheard xs) xs ys ∙ ap₂ ◌++◌ front back

-- ---- the cells of a symbol are its own, and no two are the same

pub one_or_none : (P : AirCell → Type 0) (b : Bool) (a : AirCell) → P a → All P (if b then [] else a ∷ [])
one_or_none P true a h = All-nil P
one_or_none P false a h = All-cons P a [] h (All-nil P)

one_differs : (b : Bool) (a : AirCell) → AreDifferent (if b then [] else a ∷ [])
one_differs true a = tt
one_differs false a = (All-nil (IsOther a), tt)

report_own : (side : Side) (k : Known) (ep : ℕ) (e : EndpointConfig) (slot : Slot) (symbol : ℕ) → All (IsOwn e slot symbol) (symbol_report side k ep e slot symbol)
unfolding symbol_report
report_own side k ep e slot symbol =
    let P = IsOwn e slot symbol in
    let f = cell_report side k ep e slot symbol in
    each_related (λ xs ys. All P xs) (all_kept P) 0 e.prbs f f (λ prb above below.
    let cell = cell_at ep (is_down side) slot symbol prb in
    one_or_none P (used_mask (k.claims cell) == 0) (air_cell side e cell (air_of e.numerology slot symbol) (k.claims cell) (k.blocks cell))
    (record { id = refl; slot_is = refl; symbol_is = refl }))

report_differ : (side : Side) (k : Known) (ep : ℕ) (e : EndpointConfig) (slot : Slot) (symbol : ℕ) → AreDifferent (symbol_report side k ep e slot symbol)
unfolding symbol_report
report_differ side k ep e slot symbol =
    each_differ (λ n a. a.prb ≡ n) (λ i j a b less p q is. not_less i j less (sym p ∙ is.prb ∙ q)) 0 e.prbs (cell_report side k ep e slot symbol)
    (λ prb above below.
    let cell = cell_at ep (is_down side) slot symbol prb in
    one_or_none (λ a. a.prb ≡ prb) (used_mask (k.claims cell) == 0) (air_cell side e cell (air_of e.numerology slot symbol) (k.claims cell) (k.blocks cell)) refl)
    (λ prb above below.
    let cell = cell_at ep (is_down side) slot symbol prb in
    one_differs (used_mask (k.claims cell) == 0) (air_cell side e cell (air_of e.numerology slot symbol) (k.claims cell) (k.blocks cell)))

report_tells : (side : Side) (k : Known) → TellsOwn (symbol_report side k)
report_tells side k = record { own = report_own side k; differ = report_differ side k }

still_tells : (side : Side) (k : Known) (heard : List AirCell) → TellsOwn (still_reported side k heard)
unfolding still_reported
still_tells side k heard = record {
  own = λ ep e slot symbol. All-filter (unheard heard) (IsOwn e slot symbol) (symbol_report side k ep e slot symbol) (report_own side k ep e slot symbol);
  differ = λ ep e slot symbol. differ-filter (unheard heard) (symbol_report side k ep e slot symbol) (report_differ side k ep e slot symbol);
}

-- ---- what is still to be reported of a symbol differs from all that was heard

differ-front : (xs ys : List AirCell) → AreDifferent (xs ++ ys) → AreDifferent xs
differ-front [] ys h = tt
differ-front (x ∷ xs) ys h = (front xs h.0, differ-front xs ys h.1)
  where
    front : (zs : List AirCell) → All (IsOther x) (zs ++ ys) → All (IsOther x) zs
    front [] all = All-nil (IsOther x)
    front (z ∷ zs) all = All-cons (IsOther x) z zs (All-head (IsOther x) z (zs ++ ys) all) (front zs (All-tail (IsOther x) z (zs ++ ys) all))

one_passes : (p : AirCell → Bool) (b : Bool) (x : AirCell) (xs : List AirCell) → p x ≡ b → All (λ a. p a ≡ true) xs → All (λ a. p a ≡ true) (cond b (x ∷ xs) xs)
one_passes p true x xs is rest = All-cons (λ a. p a ≡ true) x xs is rest
one_passes p false x xs is rest = rest

all_pass : (p : AirCell → Bool) (xs : List AirCell) → All (λ a. p a ≡ true) (filter p xs)
all_pass p [] = All-nil (λ a. p a ≡ true)
all_pass p (x ∷ xs) = one_passes p (p x) x (filter p xs) refl (all_pass p xs)

none_same : (heard : List AirCell) (b : AirCell) → unheard heard b ≡ true → All (IsOther b) heard
none_same [] b h = All-nil (IsOther b)
none_same (a ∷ heard) b h = let parts = neither (same_cell b a) (is_reported heard b) h in All-cons (IsOther b) a heard parts.0 (none_same heard b parts.1)
  where
    neither : (x y : Bool) → not (x || y) ≡ true → (x ≡ false) × (not y ≡ true)
    neither true y k = absurd cc
    neither false y k = (refl, k)

still_passes : (side : Side) (k : Known) (heard : List AirCell) (ep : ℕ) (e : EndpointConfig) (slot : Slot) (symbol : ℕ)
    → All (λ a. unheard heard a ≡ true) (still_reported side k heard ep e slot symbol)
unfolding still_reported
still_passes side k heard ep e slot symbol = all_pass (unheard heard) (symbol_report side k ep e slot symbol)

pub all_front : (P : AirCell → Type 0) (xs ys : List AirCell) → All P (xs ++ ys) → All P xs
all_front P [] ys h = All-nil P
all_front P (x ∷ xs) ys h = All-cons P x xs (All-head P x (xs ++ ys) h) (all_front P xs ys (All-tail P x (xs ++ ys) h))

pub heard_differ : (side : Side) (k : Known) (ep : ℕ) (e : EndpointConfig) (slot : Slot) (symbol : ℕ) (heard told more : List AirCell) → AreDifferent heard
    → still_reported side k heard ep e slot symbol ≡ told ++ more → AreDifferent (heard ++ told)
heard_differ side k ep e slot symbol heard told more differ is =
    let still = still_tells side k heard in
    let apart : All (λ b. All (IsOther b) heard) told =
    All-weaker (λ b. unheard heard b ≡ true) (λ b. All (IsOther b) heard) (λ b h. none_same heard b h) told
    (all_front (λ b. unheard heard b ≡ true) told more (subst (All (λ b. unheard heard b ≡ true)) is (still_passes side k heard ep e slot symbol))) in
    differ-append heard told differ (differ-front told more (subst AreDifferent is (still.differ ep e slot symbol)))
    (All-weaker (λ a. All (λ b. IsOther b a) told) (λ a. All (IsOther a) told)
    (λ a all. All-weaker (λ b. IsOther b a) (IsOther a) (λ b h. other_swap b a h) told all) heard (turned told heard apart))

pub reported_differ : ReportedAreDifferent
unfolding reported
reported_differ side d es k to once =
    sweep_differ (symbol_report side k) (report_tells side k) es (first_clock -ℤ wait_of side d) ((to -ℤ wait_of side d) +ℤ pos 1) once

pub due_differ : DueAreDifferent
unfolding due
due_differ side d es k heard to once =
    sweep_differ (still_reported side k heard) (still_tells side k heard) es (first_clock -ℤ wait_of side d) ((to -ℤ wait_of side d) +ℤ pos 1) once

-- ---- what is due

still_nothing : (side : Side) (k : Known) (ep : ℕ) (e : EndpointConfig) (slot : Slot) (symbol : ℕ) → still_reported side k [] ep e slot symbol ≡ symbol_report side k ep e slot symbol
unfolding still_reported
still_nothing side k ep e slot symbol = filter_every (unheard []) (symbol_report side k ep e slot symbol) (λ i x small. refl)

pub all_is_due : AllIsDue
unfolding due reported
all_is_due side d es k to =
    sweep-same (still_reported side k []) (symbol_report side k) es (first_clock -ℤ wait_of side d) ((to -ℤ wait_of side d) +ℤ pos 1)
    (λ ep e slot symbol tick low high swept. still_nothing side k ep e slot symbol)

still_more : (side : Side) (k : Known) (heard told : List AirCell) (ep : ℕ) (e : EndpointConfig) (slot : Slot) (symbol : ℕ)
    → filter (unheard told) (still_reported side k heard ep e slot symbol) ≡ still_reported side k (heard ++ told) ep e slot symbol
unfolding still_reported
still_more side k heard told ep e slot symbol =
    sym (filter_both (unheard heard) (unheard told) (unheard (heard ++ told)) (unheard-append heard told) (symbol_report side k ep e slot symbol))

-- once more was heard, that is left out
pub due_left : (side : Side) (d : Delays) (es : List EndpointConfig) (k : Known) (heard told : List AirCell) (to : ℤ)
    → filter (unheard told) (due side d es k heard to) ≡ due side d es k (heard ++ told) to
unfolding due
due_left side d es k heard told to =
    sweep_related (λ xs ys. filter (unheard told) xs ≡ ys) (filter_kept (unheard told)) (still_reported side k heard) (still_reported side k (heard ++ told)) es
    (first_clock -ℤ wait_of side d) ((to -ℤ wait_of side d) +ℤ pos 1) (λ ep e slot symbol tick low high swept. still_more side k heard told ep e slot symbol)

pub due_in_pieces : DueInPieces
due_in_pieces side d es k heard told rest to once is =
    sym (due_left side d es k heard told to) ∙ ap (filter (unheard told)) is
    ∙ left_unheard told rest (subst AreDifferent is (due_differ side d es k heard to once))

pub due_once : DueOnce
due_once side d es k heard to once = due_in_pieces side d es k heard (due side d es k heard to) [] to once (sym (append-nil (due side d es k heard to)))

-- what is due up to a later time begins with what is due up to an earlier one
pub due_begins : (side : Side) (d : Delays) (es : List EndpointConfig) (k : Known) (heard : List AirCell) (to later : ℤ) → to ≤ℤ later
    → (rest : List AirCell) × (due side d es k heard later ≡ due side d es k heard to ++ rest)
unfolding due
due_begins side d es k heard to later order =
    let g = still_reported side k heard in
    let from = first_clock -ℤ wait_of side d in
    let mid = (to -ℤ wait_of side d) +ℤ pos 1 in
    let end = (later -ℤ wait_of side d) +ℤ pos 1 in
    by_lt_z mid from
    (λ before. (sweep g es from end, ap (λ (xs : List AirCell). xs ++ sweep g es from end) (sym (sweep-none g es from mid (weak mid from before)))))
    (λ after. (sweep g es mid end, sweep-append g es from mid end after (up_to to later (wait_of side d) order)))
