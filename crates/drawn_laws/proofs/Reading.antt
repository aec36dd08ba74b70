-- A text of lines, cut at its line feeds.
use Rattle.std.proofs.Common.{◌≡◌, ℕ, ◌+◌, List, [], ◌∷◌, ◌++◌, length, map, Bool, true, false, ◌&&◌, ◌==◌, nat_le, refl, sym, ap, ◌∙◌, arith, append_assoc, append-nil, length-append}
use Rattle.std.specs.List.{All, flat_map, slice_split}
use Rattle.std.proofs.lemmas.Bool.Decides.{nat_tests}
use Rattle.std.proofs.lemmas.Grind.{flat_map-append}
use Rattle.std.proofs.lemmas.List.Elements.{All-cons, All-head, All-nil, All-tail}
use Rattle.std.proofs.lemmas.List.Splits.{slice_split_at, slice_split_none}
use Rattle.line_words.specs.Words.{is_text, without_last_feed}
use Rattle.explain_model.specs.Lines.{line_text}
use Rattle.explain_model.specs.declared.values.ExplainLine.{ExplainLine}
use Rattle.drawn_laws.proofs.Lines.{IsWritten, body_of}
use Rattle.drawn_laws.proofs.Words.{line_printed}
use Rattle.fh_base.proofs.Orders.{both as both_true}
use Rattle.fh_document.proofs.JoinLemmas.{without_feed}

-- a line, of some words
pub record IsLine (l : ExplainLine) : Type 0 where
  pub words : List (List ℕ)
  pub is : IsWritten l words

-- ---- no line feed is in a line

printed_high : (b : ℕ) → (nat_le 32 b && nat_le b 126) ≡ true → (b == 10) ≡ false
printed_high b e = go (nat_le 32 b) refl e
  where
    go : (t : Bool) → nat_le 32 b ≡ t → (t && nat_le b 126) ≡ true → (b == 10) ≡ false
    go true is e = grind (arith, nat_tests)
    go false is e = cc

no_feed : (t : List ℕ) → is_text t ≡ true → All (λ b. (b == 10) ≡ false) t
no_feed [] e = All-nil (λ b. (b == 10) ≡ false)
no_feed (b ∷ t) e =
    let each = both_true (nat_le 32 b && nat_le b 126) (is_text t) e in
    All-cons (λ b. (b == 10) ≡ false) b t (printed_high b each.0) (no_feed t each.1)

body_printed : (l : ExplainLine) → IsLine l → is_text (body_of l) ≡ true
body_printed l p = line_printed (body_of l) p.words p.is.words

-- ---- the lines are cut again

parts_again : (ls : List ExplainLine) (last : ExplainLine) → All IsLine ls → IsLine last
    → slice_split (λ b. b == 10) (flat_map line_text ls ++ body_of last) ≡ map body_of ls ++ body_of last ∷ []
parts_again [] last p q = slice_split_none (λ b. b == 10) (body_of last) (no_feed (body_of last) (body_printed last q))
parts_again (l ∷ ls) last p q =
    let first : IsLine l = All-head IsLine l ls p in
    ap (λ (t : List ℕ). slice_split (λ b. b == 10) ((t ++ flat_map line_text ls) ++ body_of last)) first.is.is
    ∙ ap (slice_split (λ b. b == 10)) (ap (λ (t : List ℕ). t ++ body_of last) (append_assoc (body_of l) (10 ∷ []) (flat_map line_text ls)) ∙ append_assoc (body_of l) (10 ∷ flat_map line_text ls) (body_of last))
    ∙ slice_split_at (λ b. b == 10) (body_of l) 10 (flat_map line_text ls ++ body_of last) (no_feed (body_of l) (body_printed l first)) refl
    ∙ ap (λ (xs : List (List ℕ)). body_of l ∷ xs) (parts_again ls last (All-tail IsLine l ls p) q)

whole_text : (ls : List ExplainLine) (last : ExplainLine) → IsLine last → flat_map line_text (ls ++ last ∷ []) ≡ (flat_map line_text ls ++ body_of last) ++ 10 ∷ []
whole_text ls last q =
    flat_map-append line_text ls (last ∷ [])
    ∙ ap (λ (t : List ℕ). flat_map line_text ls ++ t) (append-nil (line_text last) ∙ q.is.is)
    ∙ sym (append_assoc (flat_map line_text ls) (body_of last) (10 ∷ []))

pub lines_again : (ls : List ExplainLine) (last : ExplainLine) → All IsLine ls → IsLine last
    → slice_split (λ b. b == 10) (without_last_feed (flat_map line_text (ls ++ last ∷ []))) ≡ map body_of ls ++ body_of last ∷ []
lines_again ls last p q =
    ap (λ (t : List ℕ). slice_split (λ b. b == 10) (without_last_feed t)) (whole_text ls last q)
    ∙ ap (slice_split (λ b. b == 10)) (without_feed (flat_map line_text ls ++ body_of last))
    ∙ parts_again ls last p q

pub some_text : (ls : List ExplainLine) (last : ExplainLine) → IsLine last → (length (flat_map line_text (ls ++ last ∷ [])) == 0) ≡ false
some_text ls last q =
    let all : length (flat_map line_text (ls ++ last ∷ [])) ≡ length (flat_map line_text ls ++ body_of last) + 1 =
    ap length (whole_text ls last q) ∙ length-append (flat_map line_text ls ++ body_of last) (10 ∷ []) in
    grind (arith, nat_tests)
