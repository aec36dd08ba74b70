-- Texts of words with a space before each, and the words of such a line, read again.
use Rattle.std.proofs.Common.{◌≡◌, ℕ, ◌<◌, ◌≤◌, List, [], ◌∷◌, ◌++◌, length, drop, Bool, true, false, ◌&&◌, ◌==◌, nat_le, nat_lt, filter, cond, refl, sym, ap, ap₂, ◌∙◌, arith, append-nil}
use Rattle.std.specs.Prelude.{if◌then◌else◌}
use Rattle.std.specs.List.{All, flat_map, list_all, slice_split}
use Rattle.std.proofs.lemmas.Bool.Decides.{nat_tests}
use Rattle.std.proofs.lemmas.Grind.{flat_map-append}
use Rattle.std.proofs.lemmas.List.Elements.{All-append, All-cons, All-head, All-nil, All-tail}
use Rattle.std.proofs.lemmas.List.Folds.{list_all-append}
use Rattle.std.proofs.lemmas.List.Splits.{slice_split_at, slice_split_none}
use Rattle.line_words.specs.Words.{is_text, words_of}
use Rattle.fh_base.proofs.Orders.{both as both_true}

-- printable ASCII and no space
abbrev pub is_letter : ℕ → Bool
is_letter b = nat_le 33 b && nat_le b 126

pub record IsWord (w : List ℕ) : Type 0 where
  pub some : 0 < length w
  pub is : list_all is_letter w ≡ true

abbrev pub spaced : List (List ℕ) → List ℕ
spaced = flat_map (λ w. 32 ∷ w)

-- words, and a space before each of them
pub record AreWords (text : List ℕ) (ws : List (List ℕ)) : Type 0 where
  pub is : text ≡ spaced ws
  pub words : All IsWord ws

pub no_words : AreWords [] []
no_words = record { is = refl; words = All-nil IsWord }

pub one_word : (w : List ℕ) → IsWord w → AreWords (32 ∷ w) (w ∷ [])
one_word w p = record { is = sym (append-nil (32 ∷ w)); words = All-cons IsWord w [] p (All-nil IsWord) }

infixl 60 ◌⊕◌
pub ◌⊕◌ : {a b : List ℕ} {vs ws : List (List ℕ)} → AreWords a vs → AreWords b ws → AreWords (a ++ b) (vs ++ ws)
◌⊕◌ {vs = vs} {ws = ws} p q = record {
  is = ap₂ (λ (x y : List ℕ). x ++ y) p.is q.is ∙ sym (flat_map-append (λ w. 32 ∷ w) vs ws);
  words = All-append IsWord vs ws p.words q.words;
}

pub words_if : (t : Bool) (w : List ℕ) → IsWord w → AreWords (if t then 32 ∷ w else []) (if t then w ∷ [] else [])
words_if true w p = one_word w p
words_if false w p = no_words

-- ---- bytes

letter_low : (b : ℕ) → is_letter b ≡ true → 33 ≤ b
letter_low b e = go (nat_le 33 b) refl e
  where
    go : (t : Bool) → nat_le 33 b ≡ t → (t && nat_le b 126) ≡ true → 33 ≤ b
    go true is e = grind (arith, nat_tests)
    go false is e = cc

letter_printed : (b : ℕ) → is_letter b ≡ true → (nat_le 32 b && nat_le b 126) ≡ true
letter_printed b e = go (nat_le 33 b) (nat_le b 126) refl e
  where
    go : (x y : Bool) → nat_le 33 b ≡ x → (x && y) ≡ true → (nat_le 32 b && y) ≡ true
    go true true is e =
        let low : nat_le 32 b ≡ true = grind (arith, nat_tests) in
        ap (λ (x : Bool). x && true) low
    go true false is e = cc
    go false y is e = cc

no_space : (b : ℕ) → is_letter b ≡ true → (b == 32) ≡ false
no_space b e = let low : 33 ≤ b = letter_low b e in grind (arith, nat_tests)

no_spaces : (w : List ℕ) → list_all is_letter w ≡ true → All (λ b. (b == 32) ≡ false) w
no_spaces [] e = All-nil (λ b. (b == 32) ≡ false)
no_spaces (b ∷ w) e =
    let each = both_true (is_letter b) (list_all is_letter w) e in
    All-cons (λ b. (b == 32) ≡ false) b w (no_space b each.0) (no_spaces w each.1)

word_printed : (w : List ℕ) → list_all is_letter w ≡ true → is_text w ≡ true
word_printed [] e = refl
word_printed (b ∷ w) e =
    let each = both_true (is_letter b) (list_all is_letter w) e in
    ap₂ (λ (x y : Bool). x && y) (letter_printed b each.0) (word_printed w each.1)

-- ---- words are read again

-- a line, cut at its spaces
parts_again : (w : List ℕ) (ws : List (List ℕ)) → IsWord w → All IsWord ws → slice_split (λ b. b == 32) (w ++ spaced ws) ≡ w ∷ ws
parts_again w [] p q =
    ap (slice_split (λ b. b == 32)) (append-nil w) ∙ slice_split_none (λ b. b == 32) w (no_spaces w p.is)
parts_again w (v ∷ vs) p q =
    slice_split_at (λ b. b == 32) w 32 (v ++ spaced vs) (no_spaces w p.is) refl
    ∙ ap (λ (xs : List (List ℕ)). w ∷ xs) (parts_again v vs (All-head IsWord v vs q) (All-tail IsWord v vs q))

some_kept : (ws : List (List ℕ)) → All IsWord ws → filter (λ w. nat_lt 0 (length w)) ws ≡ ws
some_kept [] p = refl
some_kept (w ∷ ws) p =
    let first : IsWord w = All-head IsWord w ws p in
    let more : 0 < length w = first.some in
    let some : nat_lt 0 (length w) ≡ true = grind (arith, nat_tests) in
    ap (λ (t : Bool). cond t (w ∷ filter (λ w. nat_lt 0 (length w)) ws) (filter (λ w. nat_lt 0 (length w)) ws)) some
    ∙ ap (λ (xs : List (List ℕ)). w ∷ xs) (some_kept ws (All-tail IsWord w ws p))

pub words_again : (text : List ℕ) (ws : List (List ℕ)) → AreWords (32 ∷ text) ws → words_of text ≡ ws
words_again text [] p = let none : 32 ∷ text ≡ [] = p.is in absurd (cc none)
words_again text (w ∷ ws) p =
    let same : text ≡ w ++ spaced ws = ap (drop 1) p.is in
    ap words_of same
    ∙ ap (filter (λ w. nat_lt 0 (length w))) (parts_again w ws (All-head IsWord w ws p.words) (All-tail IsWord w ws p.words))
    ∙ some_kept (w ∷ ws) p.words

-- ---- a line is printed

spaced_printed : (ws : List (List ℕ)) → All IsWord ws → is_text (spaced ws) ≡ true
spaced_printed [] p = refl
spaced_printed (w ∷ ws) p =
    let first : IsWord w = All-head IsWord w ws p in
    list_all-append (λ b. nat_le 32 b && nat_le b 126) w (spaced ws)
    ∙ ap₂ (λ (x y : Bool). x && y) (word_printed w first.is) (spaced_printed ws (All-tail IsWord w ws p))

pub line_printed : (text : List ℕ) (ws : List (List ℕ)) → AreWords (32 ∷ text) ws → is_text text ≡ true
line_printed text ws p = ap is_text p.is ∙ spaced_printed ws p.words
