-- A text that is cut at each separator.
use Rattle.std.proofs.Common.{◌≡◌, ℕ, ◌+◌, ◌<◌, ◌≤◌, List, [], ◌∷◌, ◌++◌, length, take, drop, get_or, Bool, true, false, sym, ap, ◌∙◌, subst, arith, length-take, nat_lt}
use Rattle.std.specs.Prelude.{All, filter, if◌then◌else◌, Option, Some, None, IfSome}
use Rattle.std.specs.Borrow.{Bor}
use Rattle.std.specs.List.{position_or_len, slice_split}
use Rattle.std.proofs.lemmas.List.{get_or-take, take-append-drop, drop_more}
use Rattle.std.proofs.lemmas.List.Elements.{All-from_get_or}
use Rattle.std.proofs.lemmas.List.Splits.{slice_split_none, slice_split_at, slice_split_first}
use Rattle.std.proofs.lemmas.List.Sums.{fails_before_first, position_or_len_is}
use Rattle.std.proofs.lemmas.Bool.Decides.{nat_tests}
use Rattle.memchr.specs.Find.{Nowhere, NoneBefore, Passes}
use Rattle.line_words.specs.Words.{parts_left, left_length}
use Rattle.fh_base.proofs.Orders.{not_true}

-- the bytes before the first that passes
fails_before : (p : ℕ → Bool) (xs : List ℕ) (k : ℕ) → Nowhere (Passes p xs) 0 k → All (λ x. p x ≡ false) (take k xs)
fails_before p xs k h =
    All-from_get_or (λ x. p x ≡ false) (take k xs) 0 (λ i lt.
    let small : i < k = omega (arith, length-take k xs) in
    subst (λ x. p x ≡ false) (sym (get_or-take k xs i 0 small)) (not_true (p (get_or xs i 0)) (h i (omega arith) small)))

pub cut_nowhere : (p : ℕ → Bool) (xs : List ℕ) → Nowhere (Passes p xs) 0 (length xs) → slice_split p xs ≡ xs ∷ []
cut_nowhere p xs h = slice_split_none p xs (All-from_get_or (λ x. p x ≡ false) xs 0 (λ i lt. not_true (p (get_or xs i 0)) (h i (omega arith) lt)))

pub cut_first : (p : ℕ → Bool) (xs : List ℕ) (k : ℕ) → NoneBefore (Passes p xs) 0 (length xs) k → Passes p xs k → slice_split p xs ≡ take k xs ∷ slice_split p (drop (k + 1) xs)
cut_first p xs k h passes =
    let parts : xs ≡ take k xs ++ get_or xs k 0 ∷ drop (k + 1) xs =
    sym (take-append-drop k xs) ∙ ap (λ zs. take k xs ++ zs) (drop_more xs k 0 h.high) in
    ap (slice_split p) parts ∙ slice_split_at p (take k xs) (get_or xs k 0) (drop (k + 1) xs) (fails_before p xs k h.before) passes

-- the first place that passes, where none before it does
pub position_at : (p : ℕ → Bool) (xs : List ℕ) (i : ℕ) → i < length xs → position_or_len p (take i xs) ≡ i → p (get_or xs i 0) ≡ true → position_or_len p xs ≡ i
position_at p xs i lt none passes =
    position_or_len_is p xs i 0 (omega arith)
    (λ k low. subst (λ x. p x ≡ false) (get_or-take i xs k 0 low) (fails_before_first p (take i xs) k 0 (omega (arith, none)))) (λ within. passes)

pub found_at : (p : ℕ → Bool) (xs : List ℕ) (k : ℕ) → NoneBefore (Passes p xs) 0 (length xs) k → Passes p xs k → k ≡ position_or_len p xs
found_at p xs k h passes =
    sym (position_or_len_is p xs k 0 (omega (arith, h.high)) (λ i lt. not_true (p (get_or xs i 0)) (h.before i (omega arith) lt)) (λ within. passes))

pub found_nowhere : (p : ℕ → Bool) (xs : List ℕ) → Nowhere (Passes p xs) 0 (length xs) → length xs ≡ position_or_len p xs
found_nowhere p xs h =
    sym (position_or_len_is p xs (length xs) 0 (omega arith) (λ i lt. not_true (p (get_or xs i 0)) (h i (omega arith) lt)) (λ within. absurd (omega arith)))

-- cut at the first place that passes
pub cut_at : (p : ℕ → Bool) (xs : List ℕ) (k : ℕ) → k ≡ position_or_len p xs → k < length xs → slice_split p xs ≡ take k xs ∷ slice_split p (drop (k + 1) xs)
cut_at p xs k is lt = subst (λ n. slice_split p xs ≡ take n xs ∷ slice_split p (drop (n + 1) xs)) (sym is) (slice_split_first p xs 0 (omega (arith, is)))

pub not_cut : (p : ℕ → Bool) (xs : List ℕ) (k : ℕ) → k ≡ position_or_len p xs → length xs ≤ k → slice_split p xs ≡ xs ∷ []
not_cut p xs k is past = slice_split_none p xs (All-from_get_or (λ x. p x ≡ false) xs 0 (λ i lt. fails_before_first p xs i 0 (omega (arith, is))))

-- ---- words

abbrev is_word : List ℕ → Bool
is_word w = nat_lt 0 (length w)

-- the words of what is left of a line
abbrev pub words_left : Option (Bor (List ℕ)) → List (List ℕ)
words_left rest = filter is_word (parts_left 32 rest)

filter_step : (b : Bool) (w : List ℕ) (ws : List (List ℕ)) → is_word w ≡ b → filter is_word (w ∷ ws) ≡ (if b then w ∷ filter is_word ws else filter is_word ws)
filter_step b w ws e = ap (λ t. if t then w ∷ filter is_word ws else filter is_word ws) e

pub next_word : (parts : List (List ℕ)) (w : List ℕ) (rest : List (List ℕ)) → parts ≡ w ∷ rest → 0 < length w → filter is_word parts ≡ w ∷ filter is_word rest
next_word parts w rest is e = ap (filter is_word) is ∙ filter_step true w rest (grind (arith, nat_tests))

pub no_word_here : (parts : List (List ℕ)) (w : List ℕ) (rest : List (List ℕ)) → parts ≡ w ∷ rest → is_word w ≡ false → filter is_word parts ≡ filter is_word rest
no_word_here parts w rest is e = ap (filter is_word) is ∙ filter_step false w rest e

-- ---- how much is left

pub shorter : (text : List ℕ) (rest : Option (Bor (List ℕ))) → IfSome rest (λ behind. length behind.now < length text) → left_length rest + 1 ≤ length text + 1
shorter text None h = omega arith
shorter text (Some behind) h = omega (arith, h)
