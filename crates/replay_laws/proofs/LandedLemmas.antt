-- The frames that land are received by the unit, each as often.
use Rattle.std.proofs.Common.{◌≡◌, ℕ, ℤ, zero, suc, pos, ◌+◌, ◌+ℤ◌, ◌≤ℤ◌, Bool, true, false, ◌&&◌, List, [], ◌∷◌, refl, sym, ap, ap₂, ◌∙◌, arith, zero-add}
use Rattle.std.specs.Prelude.{All, if◌then◌else◌, cond, filter, int_lt}
use Rattle.std.specs.Int.{int_gap}
use Rattle.std.specs.Ordering.{int_eq}
use Rattle.std.proofs.lemmas.Int.{by_lt_z, ints}
use Rattle.std.proofs.lemmas.List.Elements.{All-head, All-tail, All-weaker}
use Rattle.std.proofs.lemmas.List.Recursion.{is_count_by}
use Rattle.fh_base.specs.Lists.{onto}
use Rattle.unit_model.specs.Meetings.{Arrival}
use Rattle.unit_model.specs.Radiated.{first_clock}
use Rattle.unit_model.proofs.CountLemmas.{no_time}
use Rattle.unit_laws.proofs.HistoryTicks.{clock_begins}
use Rattle.replay_laws.specs.Moments.{all_arrivals, arrivals_in, end_of_time, landing_at}
use Rattle.replay_laws.proofs.CameLemmas.{none_first, next_first}
use Rattle.replay_laws.proofs.EndLemmas.{lands_by_end}
use Rattle.replay_laws.specs.Landed.{EachArrives}
use Rattle.fh_base.proofs.Orders.{under_is as is_less, not_under_is as not_less, weak, not_later as less_differ, within_next, is_same, not_eq, more_differ, and_none, next_after, same_tick}
use Rattle.fh_base.proofs.EachLemmas.{gap_is}

-- ---- how many have something

abbrev one_if : Bool → ℕ
one_if b = if b then 1 else 0

abbrev many : (Arrival → Bool) → List Arrival → ℕ
many p [] = 0
many p (a ∷ rest) = one_if (p a) + many p rest

one_more : (b : Bool) (n : ℕ) → one_if b + n ≡ cond b (1 + n) n
one_more true n = refl
one_more false n = omega arith

many_same : (p q : Arrival → Bool) (xs : List Arrival) → All (λ a. p a ≡ q a) xs → many p xs ≡ many q xs
many_same p q [] h = refl
many_same p q (x ∷ xs) h =
    ap₂ (λ (b : Bool) (n : ℕ). one_if b + n) (All-head (λ (a : Arrival). p a ≡ q a) x xs h) (many_same p q xs (All-tail (λ (a : Arrival). p a ≡ q a) x xs h))

none_have : (p : Arrival → Bool) (xs : List Arrival) → All (λ a. p a ≡ false) xs → many p xs ≡ 0
none_have p [] h = refl
none_have p (x ∷ xs) h =
    ap₂ (λ (b : Bool) (n : ℕ). one_if b + n) (All-head (λ (a : Arrival). p a ≡ false) x xs h) (none_have p xs (All-tail (λ (a : Arrival). p a ≡ false) x xs h))

four : (a b c x y z : ℕ) → a ≡ b + c → x ≡ y + z → a + x ≡ (b + y) + (c + z)
four a b c x y z p q = omega (arith, p, q)

many_sum : (p q r : Arrival → Bool) → ((a : Arrival) → one_if (r a) ≡ one_if (p a) + one_if (q a)) → (xs : List Arrival) → many r xs ≡ many p xs + many q xs
many_sum p q r sum [] = refl
many_sum p q r sum (x ∷ xs) =
    four (one_if (r x)) (one_if (p x)) (one_if (q x)) (many r xs) (many p xs) (many q xs) (sum x) (many_sum p q r sum xs)

many_filter : (p q : Arrival → Bool) (xs : List Arrival) → many p (filter q xs) ≡ many (λ a. q a && p a) xs
many_filter p q [] = refl
many_filter p q (x ∷ xs) = go (q x) (many_filter p q xs)
  where
    go : (b : Bool) → many p (filter q xs) ≡ many (λ a. q a && p a) xs
        → many p (cond b (x ∷ filter q xs) (filter q xs)) ≡ one_if (b && p x) + many (λ a. q a && p a) xs
    go true rest = ap (λ (n : ℕ). one_if (p x) + n) rest
    go false rest = rest ∙ sym (zero-add (many (λ a. q a && p a) xs))

moved : (b n m : ℕ) → (b + n) + m ≡ n + (b + m)
moved b n m = omega arith

many_onto : (p : Arrival → Bool) (earlier xs : List Arrival) → many p (onto earlier xs) ≡ many p earlier + many p xs
unfolding onto
many_onto p earlier [] = omega arith
many_onto p earlier (x ∷ xs) = many_onto p (x ∷ earlier) xs ∙ moved (one_if (p x)) (many p earlier) (many p xs)

-- ---- those before a tick, and those at it

-- with the three tests known
three : (w l e w' l' e' b : Bool) → w ≡ w' → l ≡ l' → e ≡ e' → one_if (w' && b) ≡ one_if (l' && b) + one_if (e' && b)
    → one_if (w && b) ≡ one_if (l && b) + one_if (e && b)
three w l e w' l' e' b p q r known =
    ap (λ (v : Bool). one_if (v && b)) p ∙ known ∙ sym (ap₂ (λ (v u : Bool). one_if (v && b) + one_if (u && b)) q r)

one_tick_more : (x t : ℤ) (b : Bool) → one_if (int_lt x (t +ℤ pos 1) && b) ≡ one_if (int_lt x t && b) + one_if (int_eq x t && b)
one_tick_more x t b =
    by_lt_z x t
    (λ less. three (int_lt x (t +ℤ pos 1)) (int_lt x t) (int_eq x t) true true false b (is_less x (t +ℤ pos 1) (within_next x t (weak x t less))) (is_less x t less)
    (not_eq x t (less_differ x t less)) (no_time (one_if b)))
    (λ reached. by_lt_z t x
    (λ more. three (int_lt x (t +ℤ pos 1)) (int_lt x t) (int_eq x t) false false false b (not_less x (t +ℤ pos 1) (next_after t x more)) (not_less x t reached)
    (not_eq x t (more_differ x t more)) refl)
    (λ low. three (int_lt x (t +ℤ pos 1)) (int_lt x t) (int_eq x t) true false true b (is_less x (t +ℤ pos 1) (within_next x t low)) (not_less x t reached)
    (is_same x t (same_tick x t reached low)) (sym (zero-add (one_if b)))))

-- ---- those of the first ticks

abbrev came : (Arrival → Bool) → ℕ → Arrival → Bool
came p n a = int_lt a.at (first_clock +ℤ pos n) && p a

next_tick : (t : ℤ) (n : ℕ) → t +ℤ pos (suc n) ≡ (t +ℤ pos n) +ℤ pos 1
next_tick t n = omega (arith, ints)

not_begun : (p : Arrival → Bool) (a : Arrival) → first_clock ≤ℤ a.at → came p 0 a ≡ false
not_begun p a begun =
    ap (λ (t : ℤ). int_lt a.at t && p a) (and_none first_clock) ∙ ap (λ (b : Bool). b && p a) (not_less a.at first_clock begun)

came_in : (p : Arrival → Bool) (landings : List Arrival) (n : ℕ) → All (λ a. first_clock ≤ℤ a.at) landings → many p (arrivals_in landings n) ≡ many (came p n) landings
came_in p landings zero begun =
    ap (many p) (none_first landings)
    ∙ sym (none_have (came p 0) landings (All-weaker (λ (a : Arrival). first_clock ≤ℤ a.at) (λ (a : Arrival). came p 0 a ≡ false) (not_begun p) landings begun))
came_in p landings (suc n) begun =
    let t = first_clock +ℤ pos n in
    let here : Arrival → Bool = λ a. int_eq a.at t && p a in
    ap (many p) (next_first landings n)
    ∙ many_onto p (arrivals_in landings n) (landing_at landings t)
    ∙ ap₂ ◌+◌ (came_in p landings n begun) (many_filter p (λ a. int_eq a.at t) landings)
    ∙ sym (many_sum (came p n) here (came p (suc n)) (λ a.
    ap (λ (u : ℤ). one_if (int_lt a.at u && p a)) (next_tick first_clock n) ∙ one_tick_more a.at t (p a)) landings)

all_came : (p : Arrival → Bool) (n : ℕ) → first_clock +ℤ pos n ≡ end_of_time +ℤ pos 1 → (a : Arrival) → a.at ≤ℤ end_of_time → came p n a ≡ p a
all_came p n reach a ended =
    ap (λ (t : ℤ). int_lt a.at t && p a) reach ∙ ap (λ (b : Bool). b && p a) (is_less a.at (end_of_time +ℤ pos 1) (within_next a.at end_of_time ended))

pub each_arrives : EachArrives
each_arrives landings are p =
    let n = int_gap first_clock (end_of_time +ℤ pos 1) in
    let counts = is_count_by (λ (xs : List Arrival). many p xs) p refl (λ x xs. one_more (p x) (many p xs)) in
    sym (counts (all_arrivals landings))
    ∙ came_in p landings n are.begun
    ∙ many_same (came p n) p landings
    (All-weaker (λ (a : Arrival). a.at ≤ℤ end_of_time) (λ (a : Arrival). came p n a ≡ p a) (all_came p n (gap_is first_clock (end_of_time +ℤ pos 1) clock_begins)) landings (lands_by_end landings are))
    ∙ counts landings
