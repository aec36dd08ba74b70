-- A queue holds its frames by their turns, and so in the order in which they leave.
use Rattle.std.proofs.Common.{◌≡◌, ℕ, ℤ, ◌+◌, ◌<◌, ◌≤ℤ◌, Bool, false, if◌then◌else◌, List, [], ◌∷◌, map, length, All, Some, refl, ap, sym, ◌∙◌, arith}
use Rattle.std.specs.Prelude.{slice_get}
use Rattle.std.specs.BTreeMap.{insert_entry}
use Rattle.std.specs.Ordering.{int_cmp, is_gt, is_lt, match_ordering, nat_cmp, ordering_then}
use Rattle.std.specs.declared.cmp.Ordering.{Ordering}
use Rattle.std.specs.declared.cmp.Ordering.TheVariants.{Less, Equal, Greater}
use Rattle.std.proofs.lemmas.Bool.Decides.{nat_tests}
use Rattle.std.proofs.lemmas.Int.{ints}
use Rattle.std.proofs.lemmas.List.Elements.{All-cons, All-head, All-nil, All-tail}
use Rattle.air_source.specs.declared.links.LinkFrame.{LinkFrame}
use Rattle.fh_base.specs.declared.values.Ticks.{Ticks}
use Rattle.frame_ways.proofs.NetworkOrder.{first_le, int_le}
use Rattle.frame_ways.specs.SendQueues.{LeaveFrom, first_time, queued}
use Rattle.frame_ways.specs.Waiting.{AreAmong, entry_frame, turn_cmp}
use Rattle.frame_ways.specs.declared.turns.Turn.{Turn}
use Rattle.frame_ways.proofs.SendQueueLemmas.{after}
use Rattle.fh_base.proofs.Orders.{nat_greater}

abbrev pub Entry : Type 0
Entry = Turn × List ℕ

abbrev pub frames : List Entry → List LinkFrame
frames es = map entry_frame es

abbrev pub turn_of : ℕ → LinkFrame → Turn
turn_of number f = record { at = f.at; ep = f.ep; serial = number }

-- ---- one frame more

-- how the turn of a new frame compares with that of one that waits
turn_is : (n : ℕ) (f : LinkFrame) (e : Entry) → e.0.serial < n → turn_cmp (turn_of n f) e.0 ≡ ordering_then (int_cmp f.at.0 e.0.at.0) (ordering_then (nat_cmp f.ep e.0.ep) Greater)
turn_is n f e earlier = ap (λ (o : Ordering). ordering_then (int_cmp f.at.0 e.0.at.0) (ordering_then (nat_cmp f.ep e.0.ep) o)) (nat_greater n e.0.serial earlier)

-- it is less exactly where the one that waits leaves after the new one
less_is : (a b : ℤ) (x y : ℕ) → is_lt (ordering_then (int_cmp a b) (nat_cmp x y)) ≡ after b y a x
less_is a b x y = grind (arith, ints, nat_tests)

-- the insertion, at each answer of the comparison
abbrev inserted_at : ℕ → LinkFrame → Entry → List Entry → Ordering → List Entry
inserted_at n f e es o = match_ordering o ((turn_of n f, f.frame) ∷ e ∷ es) ((e.0, f.frame) ∷ es) (e ∷ insert_entry turn_cmp es (turn_of n f) f.frame)

abbrev placed_at : LinkFrame → Entry → List Entry → Bool → List LinkFrame
placed_at f e es b = if b then f ∷ entry_frame e ∷ frames es else entry_frame e ∷ queued f (frames es)

insert_step : (n : ℕ) (f : LinkFrame) (e : Entry) (es : List Entry) → e.0.serial < n → frames (insert_entry turn_cmp es (turn_of n f) f.frame) ≡ queued f (frames es)
    → frames (insert_entry turn_cmp (e ∷ es) (turn_of n f) f.frame) ≡ queued f (frames (e ∷ es))
insert_step n f e es earlier rest =
    ap (λ (o : Ordering). frames (inserted_at n f e es o)) (turn_is n f e earlier)
    ∙ go (int_cmp f.at.0 e.0.at.0) (nat_cmp f.ep e.0.ep)
    ∙ ap (placed_at f e es) (less_is f.at.0 e.0.at.0 f.ep e.0.ep)
  where
    behind : frames (e ∷ insert_entry turn_cmp es (turn_of n f) f.frame) ≡ entry_frame e ∷ queued f (frames es)
    behind = ap (λ (fs : List LinkFrame). entry_frame e ∷ fs) rest

    go : (o p : Ordering) → frames (inserted_at n f e es (ordering_then o (ordering_then p Greater))) ≡ placed_at f e es (is_lt (ordering_then o p))
    go Less p = refl
    go Equal Less = refl
    go Equal Equal = behind
    go Equal Greater = behind
    go Greater p = behind

-- the frame is among the others as `queued` says
pub frames_put : (n : ℕ) (f : LinkFrame) (es : List Entry) → AreAmong n es → frames (insert_entry turn_cmp es (turn_of n f) f.frame) ≡ queued f (frames es)
frames_put n f [] h = refl
frames_put n f (e ∷ es) h = insert_step n f e es h.0 (frames_put n f es h.1)

among_more : (n : ℕ) (es : List Entry) → AreAmong n es → AreAmong (n + 1) es
among_more n [] h = tt
among_more n (e ∷ es) h = (omega (arith, h.0), among_more n es h.1)

-- and was taken in as the last of them
pub among_put : (n : ℕ) (f : LinkFrame) (es : List Entry) → AreAmong n es → AreAmong (n + 1) (insert_entry turn_cmp es (turn_of n f) f.frame)
among_put n f [] h = (omega arith, tt)
among_put n f (e ∷ es) h = go (turn_cmp (turn_of n f) e.0) (among_put n f es h.1)
  where
    go : (o : Ordering) → AreAmong (n + 1) (insert_entry turn_cmp es (turn_of n f) f.frame) → AreAmong (n + 1) (inserted_at n f e es o)
    go Less rest = (omega arith, among_more n (e ∷ es) h)
    go Equal rest = (omega (arith, h.0), among_more n es h.1)
    go Greater rest = (omega (arith, h.0), rest)

-- ---- the first one

-- its time
pub first_is : (t : Turn) (bytes : List ℕ) (es : List Entry) → slice_get es 0 ≡ Some (t, bytes) → Some t.at ≡ first_time (frames es)
first_is t bytes [] first = cc
first_is t bytes (e ∷ es) first = let is : e ≡ (t, bytes) = cc in ap (λ (p : Entry). Some p.0.at) (sym is)

-- there is one where something is held
pub none_first : (t : Ticks) (es : List Entry) → (0 < length es → ⊥) → Some t ≡ first_time (frames es) → ⊥
none_first t [] none first = absurd (cc first)
none_first t (e ∷ es) none first = none (omega arith)

-- a turn that is not after another has a time that is not after its time
time_first : (s t : Turn) → is_gt (turn_cmp s t) ≡ false → s.at.0 ≤ℤ t.at.0
time_first s t h = int_le s.at.0 t.at.0 (first_le (int_cmp s.at.0 t.at.0) _ h)

-- none leaves before it where no turn is before its turn
pub none_earlier : (t : Turn) (es : List Entry) → All (λ k. is_gt (turn_cmp t k) ≡ false) (map (λ e. e.0) es) → LeaveFrom t.at.0 (frames es)
none_earlier t [] from = All-nil (λ (f : LinkFrame). t.at.0 ≤ℤ f.at.0)
none_earlier t (e ∷ es) from =
    All-cons (λ (f : LinkFrame). t.at.0 ≤ℤ f.at.0) (entry_frame e) (frames es) (time_first t e.0 (All-head (λ k. is_gt (turn_cmp t k) ≡ false) e.0 (map (λ e. e.0) es) from))
    (none_earlier t es (All-tail (λ k. is_gt (turn_cmp t k) ≡ false) e.0 (map (λ e. e.0) es) from))
