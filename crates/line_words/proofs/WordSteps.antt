-- The words that are kept of a line.
use Rattle.std.proofs.Common.{◌≡◌, ℕ, ◌+◌, ◌<◌, ◌≤◌, List, [], ◌∷◌, ◌++◌, length, map, take, get_or, sym, ap, ◌∙◌, arith, min, append_assoc}
use Rattle.std.specs.Prelude.{slice_set}
use Rattle.std.proofs.lemmas.List.{get_or-map, get_or-take, get_or_past, length-map, length-take, map-append, take-append-le, take_all, take_more_set, append-nil}
use Rattle.line_words.specs.declared.words.TheConstants.{KEPT}
use Rattle.fh_base.specs.Numbers.{word_at}

few_kept : {A : Type 0} (v : A → List ℕ) (xs : List A) (ws : List (List ℕ)) → map v xs ≡ take KEPT ws → length xs ≡ min KEPT (length ws)
few_kept v xs ws is = sym (length-map xs v) ∙ ap length is ∙ length-take KEPT ws

pub kept_word : {A : Type 0} (v : A → List ℕ) (kept : List A) (count : ℕ) (ws : List (List ℕ)) (i : ℕ) (d : A) → count ≡ length ws → map v (take count kept) ≡ take KEPT ws
    → i < count → i < KEPT → v (get_or kept i d) ≡ word_at ws i
kept_word v kept count ws i d counted is lt low =
    ap v (sym (get_or-take count kept i d lt))
    ∙ sym (get_or-map v (take count kept) i d [] (omega (arith, few_kept v (take count kept) ws is, counted, lt, low)))
    ∙ ap (λ l. get_or l i []) is
    ∙ get_or-take KEPT ws i [] low

pub no_word : (count : ℕ) (ws : List (List ℕ)) (i : ℕ) → count ≡ length ws → count ≤ i → [] ≡ word_at ws i
no_word count ws i counted past = sym (get_or_past ws i [] (omega (arith, counted, past)))

-- ---- one word more

room_more : {A : Type 0} (v : A → List ℕ) (kept : List A) (y : A) (ws : List (List ℕ)) → map v (kept ++ y ∷ []) ++ ws ≡ map v kept ++ v y ∷ ws
room_more v kept y ws = ap (λ l. l ++ ws) (map-append v kept (y ∷ [])) ∙ append_assoc (map v kept) (v y ∷ []) ws

full_more : {A : Type 0} (v : A → List ℕ) (kept : List A) (xs ys : List (List ℕ)) → KEPT ≤ length kept → take KEPT (map v kept ++ xs) ≡ take KEPT (map v kept ++ ys)
full_more v kept xs ys ge =
    let long : KEPT ≤ length (map v kept) = omega (arith, length-map kept v) in
    take-append-le KEPT (map v kept) xs long ∙ sym (take-append-le KEPT (map v kept) ys long)

-- where there is room
pub set_more : {A : Type 0} (v : A → List ℕ) (kept : List A) (y : A) (count : ℕ) (ws : List (List ℕ)) → count < length kept
    → take KEPT (map v (take (count + 1) (slice_set kept count y)) ++ ws) ≡ take KEPT (map v (take count kept) ++ v y ∷ ws)
set_more v kept y count ws lt = ap (λ l. take KEPT (map v l ++ ws)) (take_more_set kept count y lt) ∙ ap (take KEPT) (room_more v (take count kept) y ws)

-- where there is none
pub none_more : {A : Type 0} (v : A → List ℕ) (kept : List A) (y : A) (count : ℕ) (ws : List (List ℕ)) → length kept ≡ KEPT → KEPT ≤ count
    → take KEPT (map v (take (count + 1) kept) ++ ws) ≡ take KEPT (map v (take count kept) ++ v y ∷ ws)
none_more v kept y count ws is ge =
    ap (λ l. take KEPT (map v l ++ ws)) (take_all (count + 1) kept (omega (arith, is, ge)))
    ∙ full_more v kept ws (v y ∷ ws) (omega (arith, is))
    ∙ ap (λ l. take KEPT (map v l ++ v y ∷ ws)) (sym (take_all count kept (omega (arith, is, ge))))

-- ---- all words

pub all_kept : {A : Type 0} (v : A → List ℕ) (kept : List A) (ws : List (List ℕ)) → length kept ≤ KEPT → take KEPT (map v kept ++ []) ≡ take KEPT ws → map v kept ≡ take KEPT ws
all_kept v kept ws few is =
    sym (take_all KEPT (map v kept) (omega (arith, length-map kept v))) ∙ ap (take KEPT) (sym (append-nil (map v kept))) ∙ is
