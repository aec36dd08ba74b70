-- A text whose bytes are printable or line feeds has printable lines.
use Rattle.std.proofs.Common.{◌≡◌, ℕ, List, [], ◌∷◌, Bool, true, false, refl, sym, subst, arith}
use Rattle.std.specs.Prelude.{All, ◌&&◌, ◌||◌, ◌==◌, nat_le}
use Rattle.std.specs.List.{onto_first, slice_split}
use Rattle.std.proofs.lemmas.List.Elements.{All-cons, All-head, All-tail}
use Rattle.std.proofs.lemmas.List.Splits.{slice_split-cons_no, slice_split-cons_yes}
use Rattle.line_words.specs.Words.{are_texts, is_text}
use Rattle.fh_base.proofs.Orders.{both_true, right_true}

-- each of these lines is printable
abbrev pub AreTexts : List (List ℕ) → Type 0
AreTexts = All (λ line. is_text line ≡ true)

other_true : (a b c : Bool) → a ≡ false → ((a || b) && c) ≡ true → b ≡ true
other_true true b c h k = absurd (cc h)
other_true false true c h k = refl
other_true false false c h k = absurd (cc k)

byte_more : (b : ℕ) (parts : List (List ℕ)) → (nat_le 32 b && nat_le b 126) ≡ true → AreTexts parts → AreTexts (onto_first b parts)
byte_more b [] h all = All-cons (λ line. is_text line ≡ true) (b ∷ []) [] (both_true (nat_le 32 b && nat_le b 126) true h refl) all
byte_more b (part ∷ parts) h all =
    let is : List ℕ → Type 0 = λ line. is_text line ≡ true in
    All-cons is (b ∷ part) parts (both_true (nat_le 32 b && nat_le b 126) (is_text part) h (All-head is part parts all)) (All-tail is part parts all)

abbrev is_feed : ℕ → Bool
is_feed b = b == 10

lines_more : (feed : Bool) (b : ℕ) (bs : List ℕ) → is_feed b ≡ feed → are_texts (b ∷ bs) ≡ true → AreTexts (slice_split is_feed bs) → AreTexts (slice_split is_feed (b ∷ bs))
lines_more true b bs e h all =
    subst AreTexts (sym (slice_split-cons_yes is_feed b bs e)) (All-cons (λ line. is_text line ≡ true) [] (slice_split is_feed bs) refl all)
lines_more false b bs e h all =
    subst AreTexts (sym (slice_split-cons_no is_feed b bs e)) (byte_more b (slice_split is_feed bs) (other_true (b == 10) (nat_le 32 b && nat_le b 126) (are_texts bs) e h) all)

pub lines_are_texts : (text : List ℕ) → are_texts text ≡ true → AreTexts (slice_split (λ b. b == 10) text)
lines_are_texts [] h = All-cons (λ line. is_text line ≡ true) [] [] refl (λ k d lt. absurd (omega arith))
lines_are_texts (b ∷ bs) h = lines_more (is_feed b) b bs refl h (lines_are_texts bs (right_true (b == 10 || (nat_le 32 b && nat_le b 126)) (are_texts bs) h))

-- of the lines that are left, the first, and those after it
pub first_is_text : (lines rest : List (List ℕ)) (line : List ℕ) → lines ≡ line ∷ rest → AreTexts lines → is_text line ≡ true
first_is_text lines rest line is all = All-head (λ l. is_text l ≡ true) line rest (subst AreTexts is all)

pub rest_are_texts : (lines rest : List (List ℕ)) (line : List ℕ) → lines ≡ line ∷ rest → AreTexts lines → AreTexts rest
rest_are_texts lines rest line is all = All-tail (λ l. is_text l ≡ true) line rest (subst AreTexts is all)
