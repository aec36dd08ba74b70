-- At most 128 fragments are stored in a generation: their subsequence ids differ, and have 7 bits.
use Rattle.std.proofs.Common.{◌≡◌, ℕ, zero, suc, ℤ, ◌+◌, ◌^◌, ◌<◌, ◌≤◌, ◌==◌, Bool, true, false, List, [], ◌∷◌, length, Option, Some, None, refl, sym, subst, arith}
use Rattle.std.specs.Prelude.{◌||◌, is_some, nat_lt, if◌then◌else◌}
use Rattle.std.specs.List.{AllByRecursion}
use Rattle.std.proofs.lemmas.Bool.{eq-eqb, eqb-true, ne_eqb, or_parts}
use Rattle.ecpri_fragments.specs.Generations.{Fragment, Generation, begun, generations, generations_of, is_of, is_within, joined, of_id, with_fragment}
use Rattle.ecpri_fragments.specs.Verdicts.{is_stray, is_whole, piece_at, refused, size, standing, stands, with_one}
use Rattle.ecpri_fragments.specs.declared.place.TheConstants.{MESSAGE_BYTES}
use Rattle.ecpri_fragments.specs.declared.verdict.Verdict.{Verdict}
use Rattle.ecpri_fragments.specs.declared.verdict.Verdict.TheVariants.{Repeat, Stray, TooLong}
use Rattle.explain_model.specs.Fragments.{generation_at, grown, last_begun}

-- ---- how many numbers below another pass

count : (ℕ → Bool) → ℕ → ℕ
count p zero = 0
count p (suc n) = (if p n then 1 else 0) + count p n

count_most : (p : ℕ → Bool) (n : ℕ) → count p n ≤ n
unfolding count
count_most p zero = omega arith
count_most p (suc n) = one (p n) (count_most p n)
  where
    one : (b : Bool) → count p n ≤ n → (if b then 1 else 0) + count p n ≤ suc n
    one true h = omega (arith, h)
    one false h = omega (arith, h)

count_none : (n : ℕ) → count (λ k. false) n ≡ 0
unfolding count
count_none zero = refl
count_none (suc n) = let less = count_none n in omega (arith, less)

same_step : (b d : Bool) (m n : ℕ) → b ≡ d → m ≡ n → (if b then 1 else 0) + m ≡ (if d then 1 else 0) + n
same_step b d m n e f = cc

count_same : (p q : ℕ → Bool) (n : ℕ) → ((j : ℕ) → j < n → q j ≡ p j) → count q n ≡ count p n
unfolding count
count_same p q zero h = refl
count_same p q (suc n) h = same_step (q n) (p n) (count q n) (count p n) (h n (omega arith)) (count_same p q n (λ j low. h j (omega (arith, low))))

more_step : (b d : Bool) (m n : ℕ) → b ≡ true → d ≡ false → m ≡ n → (if b then 1 else 0) + m ≡ suc ((if d then 1 else 0) + n)
more_step true true m n e f g = absurd cc
more_step true false m n e f g = omega (arith, g)
more_step false d m n e f g = absurd cc

later_step : (b d : Bool) (m n : ℕ) → b ≡ d → m ≡ suc n → (if b then 1 else 0) + m ≡ suc ((if d then 1 else 0) + n)
later_step true true m n e g = omega (arith, g)
later_step false false m n e g = omega (arith, g)
later_step true false m n e g = absurd cc
later_step false true m n e g = absurd cc

module _ (p q : ℕ → Bool) (k : ℕ) (yes : q k ≡ true) (no : p k ≡ false) (others : (j : ℕ) → (j ≡ k → ⊥) → q j ≡ p j) where
  here_or_later : (n : ℕ) (b : Bool) → (k == n) ≡ b → k < suc n → (k < n → count q n ≡ suc (count p n)) → (if q n then 1 else 0) + count q n ≡ suc ((if p n then 1 else 0) + count p n)
  here_or_later n true is low more =
      let same : k ≡ n = eqb-true k n is in
      more_step (q n) (p n) (count q n) (count p n) (subst (λ (x : ℕ). q x ≡ true) same yes) (subst (λ (x : ℕ). p x ≡ false) same no)
      (count_same p q n (λ j below. others j (λ e. absurd (omega (arith, below, e, same)))))
  here_or_later n false is low more =
      let differ : n ≡ k → ⊥ = λ e. (let one : (k == n) ≡ true = eq-eqb k n (sym e) in absurd cc) in
      later_step (q n) (p n) (count q n) (count p n) (others n differ) (more (less (λ e. differ (sym e)) low))
    where
      less : (k ≡ n → ⊥) → k < suc n → k < n
      less ne low = omega (arith, ne, low)

  count_more : (n : ℕ) → k < n → count q n ≡ suc (count p n)
  unfolding count
  count_more zero low = absurd (omega (arith, low))
  count_more (suc n) low = here_or_later n (k == n) refl low (count_more n)

-- ---- what is stored

abbrev pub IsSmall : Fragment → Type 0
IsSmall f = f.sub < 2 ^ 7

abbrev DifferInSub : List Fragment → Type 0
DifferInSub [] = Unit {0}
DifferInSub (a ∷ s) = (stands s a.sub ≡ false) × DifferInSub s

piece_own : (b : Bool) (bytes : List ℕ) (o : Option (List ℕ)) → b ≡ true → is_some (let x : Option (List ℕ) = if b then Some bytes else o in x) ≡ true
piece_own true bytes o e = refl
piece_own false bytes o e = absurd cc

piece_other : (b : Bool) (bytes : List ℕ) (o : Option (List ℕ)) → b ≡ false → is_some (let x : Option (List ℕ) = if b then Some bytes else o in x) ≡ is_some o
piece_other true bytes o e = absurd cc
piece_other false bytes o e = refl

length_is : (s : List Fragment) → DifferInSub s → AllByRecursion IsSmall s → length s ≡ count (stands s) 128
length_is [] h k = sym (count_none 128)
length_is (a ∷ s) h k =
    let more = count_more (stands s) (stands (a ∷ s)) a.sub (piece_own (a.sub == a.sub) a.bytes (piece_at s a.sub) (eq-eqb a.sub a.sub refl)) h.0
    (λ j ne. piece_other (a.sub == j) a.bytes (piece_at s j) (ne_eqb a.sub j (λ e. ne (sym e)))) 128 k.0 in
    let rest = length_is s h.1 k.1 in
    omega (arith, more, rest)

few : (s : List Fragment) → DifferInSub s → AllByRecursion IsSmall s → length s ≤ 128
few s h k = let is = length_is s h k in let most = count_most (stands s) 128 in omega (arith, is, most)

not_refused : (a b c : Bool) → (let o : Option Verdict = if a then Some Repeat else if b then Some Stray else if c then Some TooLong else None in o) ≡ None → a ≡ false
not_refused true b c e = absurd cc
not_refused false b c e = refl

placed_by : (a : Fragment) (s : List Fragment) (o : Option Verdict) → refused s a ≡ o → DifferInSub s → DifferInSub (with_one o a s)
placed_by a s (Some v) is h = h
placed_by a s None is h =
    ((or_parts (is_whole s) (stands s a.sub) (not_refused (is_whole s || stands s a.sub) (is_stray s a) (nat_lt MESSAGE_BYTES (size s + length a.bytes)) is)).1, h)

standing_differ : (held : List Fragment) → DifferInSub (standing held)
standing_differ [] = tt
standing_differ (a ∷ held) = placed_by a (standing held) (refused (standing held) a) refl (standing_differ held)

placed_small : (a : Fragment) (s : List Fragment) (o : Option Verdict) → IsSmall a → AllByRecursion IsSmall s → AllByRecursion IsSmall (with_one o a s)
placed_small a s (Some v) h k = k
placed_small a s None h k = (h, k)

standing_small : (held : List Fragment) → AllByRecursion IsSmall held → AllByRecursion IsSmall (standing held)
standing_small [] h = tt
standing_small (a ∷ held) h = placed_small a (standing held) (refused (standing held) a) h.0 (standing_small held h.1)

pub few_stand : (held : List Fragment) → AllByRecursion IsSmall held → length (standing held) ≤ 128
few_stand held h = few (standing held) (standing_differ held) (standing_small held h)

-- ---- what a generation holds

abbrev HoldsSmall : Generation → Type 0
HoldsSmall g = AllByRecursion IsSmall g.held

ids_by : (b : Bool) (a : Fragment) (fs : List Fragment) → IsSmall a → AllByRecursion IsSmall fs → AllByRecursion IsSmall (if b then a ∷ fs else fs)
ids_by true a fs h k = (h, k)
ids_by false a fs h k = k

ids_small : (ep seq : ℕ) (fs : List Fragment) → AllByRecursion IsSmall fs → AllByRecursion IsSmall (of_id ep seq fs)
ids_small ep seq [] h = tt
ids_small ep seq (a ∷ fs) h = ids_by (is_of ep seq a) a (of_id ep seq fs) h.0 (ids_small ep seq fs h.1)

with_by : (b : Bool) (a : Fragment) (g : Generation) (gs : List Generation) → IsSmall a → HoldsSmall g → AllByRecursion HoldsSmall gs
    → AllByRecursion HoldsSmall (if b then joined a g ∷ gs else begun a ∷ g ∷ gs)
with_by true a g gs h k l = ((h, k), l)
with_by false a g gs h k l = ((h, tt), (k, l))

with_small : (hold : ℤ) (a : Fragment) (gs : List Generation) → IsSmall a → AllByRecursion HoldsSmall gs → AllByRecursion HoldsSmall (with_fragment hold a gs)
with_small hold a [] h k = ((h, tt), tt)
with_small hold a (g ∷ gs) h k = with_by (is_within hold g.start a.at) a g gs h k.0 k.1

generations_small : (hold : ℤ) (fs : List Fragment) → AllByRecursion IsSmall fs → AllByRecursion HoldsSmall (generations hold fs)
generations_small hold [] h = tt
generations_small hold (a ∷ fs) h = with_small hold a (generations hold fs) h.0 (generations_small hold fs h.1)

last_small : (f : Fragment) (gs : List Generation) → AllByRecursion HoldsSmall gs → HoldsSmall (last_begun gs f)
last_small f [] h = tt
last_small f (g ∷ gs) h = h.0

grown_by : (b d : Bool) (x y z : Generation) → HoldsSmall x → HoldsSmall y → HoldsSmall z → HoldsSmall (if b then (if d then x else y) else z)
grown_by true true x y z h k l = h
grown_by true false x y z h k l = k
grown_by false d x y z h k l = l

grown_small : (hold : ℤ) (ep seq : ℕ) (g : Generation) (later : List Fragment) → HoldsSmall g → AllByRecursion IsSmall later → HoldsSmall (grown hold ep seq g later)
unfolding grown
grown_small hold ep seq g [] h k = h
grown_small hold ep seq g (x ∷ later) h k =
    grown_by (is_of ep seq x) (is_within hold g.start x.at) (grown hold ep seq (joined x g) later) g (grown hold ep seq g later)
    (grown_small hold ep seq (joined x g) later (k.0, h) k.1) h (grown_small hold ep seq g later h k.1)

pub grown_few : (hold : ℤ) (earlier : List Fragment) (f : Fragment) (later : List Fragment) → AllByRecursion IsSmall earlier → IsSmall f → AllByRecursion IsSmall later
    → length (standing (grown hold f.ep f.seq (generation_at hold earlier f) later).held) ≤ 128
grown_few hold earlier f later h k l =
    let gs = with_fragment hold f (generations_of hold f.ep f.seq earlier) in
    let start = last_small f gs (with_small hold f (generations_of hold f.ep f.seq earlier) k (generations_small hold (of_id f.ep f.seq earlier) (ids_small f.ep f.seq earlier h))) in
    few_stand (grown hold f.ep f.seq (generation_at hold earlier f) later).held (grown_small hold f.ep f.seq (generation_at hold earlier f) later start l)
