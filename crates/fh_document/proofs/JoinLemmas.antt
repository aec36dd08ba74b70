-- Parts that are joined are these parts again.
use Rattle.std.proofs.Common.{◌≡◌, ℕ, ◌-◌, List, [], ◌∷◌, ◌++◌, length, take, Bool, true, false, ◌&&◌, nat_lt, nat_le, refl, sym, ap, ◌∙◌, arith, append_assoc}
use Rattle.std.specs.Prelude.{◌==◌, All, filter, if◌then◌else◌, slice_index}
use Rattle.std.specs.List.{slice_split, list_all}
use Rattle.std.proofs.lemmas.Bool.Decides.{nat_tests}
use Rattle.std.proofs.lemmas.List.{take-append-le, take_all, length_push}
use Rattle.std.proofs.lemmas.List.Elements.{All-nil, All-cons}
use Rattle.std.proofs.lemmas.List.Folds.{list_all-append}
use Rattle.std.proofs.lemmas.List.Splits.{slice_split_none, slice_split_at}
use Rattle.std.proofs.Math.Seq.{get_or-append_seam}
use Rattle.fh_document.specs.Words.{words_of, is_text, without_last_feed}
use Rattle.fh_document.specs.Joined.{is_word, joined, spaced, fed}
use Rattle.fh_document.proofs.Tests.{if_true, all_weaker, filter_all}
use Rattle.fh_base.proofs.Orders.{left_true, right_true, both_true, nat_own}
use Rattle.fh_document.specs.Laws.{LinesAreRead, WordsAreRead}

-- no byte of the part is the separator
abbrev pub is_free : ℕ → List ℕ → Bool
is_free separator part = list_all (λ b. if b == separator then false else true) part

free_all : (separator : ℕ) (part : List ℕ) → is_free separator part ≡ true → All (λ b. (b == separator) ≡ false) part
free_all separator [] h = All-nil (λ b. (b == separator) ≡ false)
free_all separator (b ∷ part) h =
    All-cons (λ b. (b == separator) ≡ false) b part (other (b == separator) (left_true (if b == separator then false else true) (is_free separator part) h))
    (free_all separator part (right_true (if b == separator then false else true) (is_free separator part) h))
  where
    other : (t : Bool) → (if t then false else true) ≡ true → t ≡ false
    other true e = absurd (cc e)
    other false e = refl

pub split_joined : (separator : ℕ) (part : List ℕ) (parts : List (List ℕ)) → list_all (is_free separator) (part ∷ parts) ≡ true
    → slice_split (λ b. b == separator) (joined separator (part ∷ parts)) ≡ part ∷ parts
split_joined separator part [] h = slice_split_none (λ b. b == separator) part (free_all separator part (left_true (is_free separator part) true h))
split_joined separator part (next ∷ parts) h =
    slice_split_at (λ b. b == separator) part separator (joined separator (next ∷ parts)) (free_all separator part (left_true (is_free separator part) _ h)) (nat_own separator)
    ∙ ap (λ ps. part ∷ ps) (split_joined separator next parts (right_true (is_free separator part) _ h))

-- ---- words

word_free : (w : List ℕ) → is_word w ≡ true → is_free 32 w ≡ true
word_free w h = all_weaker (λ b. nat_le 33 b && nat_le b 126) (λ b. if b == 32 then false else true) w (λ b e. apart b e) (right_true (nat_lt 0 (length w)) _ h)
  where
    apart : (b : ℕ) → (nat_le 33 b && nat_le b 126) ≡ true → (if b == 32 then false else true) ≡ true
    apart b e = grind (arith, nat_tests)

word_some : (w : List ℕ) → is_word w ≡ true → nat_lt 0 (length w) ≡ true
word_some w h = left_true (nat_lt 0 (length w)) _ h

word_text : (w : List ℕ) → is_word w ≡ true → is_text w ≡ true
word_text w h = all_weaker (λ b. nat_le 33 b && nat_le b 126) (λ b. nat_le 32 b && nat_le b 126) w (λ b e. wider b e) (right_true (nat_lt 0 (length w)) _ h)
  where
    wider : (b : ℕ) → (nat_le 33 b && nat_le b 126) ≡ true → (nat_le 32 b && nat_le b 126) ≡ true
    wider b e = grind (arith, nat_tests)

pub words_are : (ws : List (List ℕ)) → list_all is_word ws ≡ true → words_of (spaced ws) ≡ ws
words_are [] h = refl
words_are (w ∷ ws) h =
    ap (filter (λ v. nat_lt 0 (length v))) (split_joined 32 w ws (all_weaker is_word (is_free 32) (w ∷ ws) word_free h))
    ∙ filter_all (λ v. nat_lt 0 (length v)) (w ∷ ws) (all_weaker is_word (λ v. nat_lt 0 (length v)) (w ∷ ws) word_some h)

joined_text : (w : List ℕ) (ws : List (List ℕ)) → list_all is_word (w ∷ ws) ≡ true → is_text (joined 32 (w ∷ ws)) ≡ true
joined_text w [] h = word_text w (left_true (is_word w) true h)
joined_text w (v ∷ ws) h =
    list_all-append (λ b. nat_le 32 b && nat_le b 126) w (32 ∷ joined 32 (v ∷ ws))
    ∙ both_true (is_text w) (is_text (32 ∷ joined 32 (v ∷ ws))) (word_text w (left_true (is_word w) _ h)) (joined_text v ws (right_true (is_word w) _ h))

pub words_text : (ws : List (List ℕ)) → list_all is_word ws ≡ true → is_text (spaced ws) ≡ true
words_text [] h = refl
words_text (w ∷ ws) h = joined_text w ws h

-- ---- lines

fed_joined : (line : List ℕ) (lines : List (List ℕ)) → fed (line ∷ lines) ≡ joined 10 (line ∷ lines) ++ 10 ∷ []
fed_joined line [] = refl
fed_joined line (next ∷ lines) = ap (λ xs. line ++ 10 ∷ xs) (fed_joined next lines) ∙ sym (append_assoc line (10 ∷ joined 10 (next ∷ lines)) (10 ∷ []))

pub without_feed : (text : List ℕ) → without_last_feed (text ++ 10 ∷ []) ≡ text
without_feed text =
    let size : length (text ++ 10 ∷ []) - 1 ≡ length text = omega (arith, length_push text 10) in
    ap (λ n. if slice_index (text ++ 10 ∷ []) n == 10 then take n (text ++ 10 ∷ []) else (text ++ 10 ∷ [])) size
    ∙ if_true (slice_index (text ++ 10 ∷ []) (length text) == 10) _ _ (ap (λ b. b == 10) (get_or-append_seam text 10 [] 0))
    ∙ take-append-le (length text) text (10 ∷ []) (omega arith) ∙ take_all (length text) text (omega arith)

text_free : (w : List ℕ) → is_text w ≡ true → is_free 10 w ≡ true
text_free w h = all_weaker (λ b. nat_le 32 b && nat_le b 126) (λ b. if b == 10 then false else true) w (λ b e. apart b e) h
  where
    apart : (b : ℕ) → (nat_le 32 b && nat_le b 126) ≡ true → (if b == 10 then false else true) ≡ true
    apart b e = grind (arith, nat_tests)

pub lines_are : LinesAreRead
lines_are [] some h = absurd (omega arith)
lines_are (line ∷ lines) some h =
    ap (λ t. slice_split (λ b. b == 10) (without_last_feed t)) (fed_joined line lines)
    ∙ ap (slice_split (λ b. b == 10)) (without_feed (joined 10 (line ∷ lines)))
    ∙ split_joined 10 line lines (all_weaker is_text (is_free 10) (line ∷ lines) text_free h)

pub words_are_read : WordsAreRead
words_are_read = λ ws h. (words_are ws h, words_text ws h)
