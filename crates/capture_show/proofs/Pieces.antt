-- The pieces of lines that follow one another, and the whole text.
use Rattle.std.proofs.Common.{◌≡◌, ℕ, ◌+◌, Bool, true, false, List, [], ◌∷◌, ◌++◌, map, refl, sym, ap, append_assoc, append-nil, ◌∙◌, Option, arith, length-append}
use Rattle.std.specs.Prelude.{codes}
use Rattle.std.specs.List.{flat_map}
use Rattle.serde_json.specs.View.{items_of}
use Rattle.serde_json.specs.Written.{compact_text, items_text, comma_if}
use Rattle.fh_base.specs.Told.{WritesPart}
use Rattle.fh_base.specs.KnownLaws.{append_nothing}
use Rattle.capture_show.specs.Lines.{ShownLine}
use Rattle.capture_show.specs.Texts.{line_text, object_of, piece, pieces, lines_text, front_text, end_text}
use Rattle.capture_records.specs.Records.{Arrived}
use Rattle.capture_show.specs.Messages.{record_lines, records_lines}
use Rattle.capture_show.specs.Printing.{later_behind}

pub pieces_append : (json later : Bool) (xs ys : List ShownLine) → pieces json later (xs ++ ys) ≡ pieces json later xs ++ pieces json (later_behind later xs) ys
unfolding pieces
pieces_append json later [] ys = refl
pieces_append json later (x ∷ xs) ys =
    ap (λ t. piece json later x ++ t) (pieces_append json true xs ys ∙ ap (λ b. pieces json true xs ++ pieces json b ys) (always xs))
    ∙ sym (append_assoc (piece json later x) (pieces json true xs) (pieces json true ys))
  where
    always : (xs : List ShownLine) → later_behind true xs ≡ true
    always [] = refl
    always (x ∷ xs) = refl

pub later_append : (later : Bool) (xs ys : List ShownLine) → later_behind later (xs ++ ys) ≡ later_behind (later_behind later xs) ys
later_append later [] ys = refl
later_append later (x ∷ xs) [] = refl
later_append later (x ∷ xs) (y ∷ ys) = refl

pub piece_alone : (json later : Bool) (l : ShownLine) → pieces json later (l ∷ []) ≡ piece json later l
unfolding pieces
piece_alone json later l = append-nil (piece json later l)

pub pieces_none : (json later : Bool) → pieces json later [] ≡ []
unfolding pieces
pieces_none json later = refl

pieces_of_text : (later : Bool) (ls : List ShownLine) → pieces false later ls ≡ flat_map line_text ls
unfolding pieces
pieces_of_text later [] = refl
pieces_of_text later (l ∷ ls) = ap (λ t. line_text l ++ t) (pieces_of_text true ls)

pieces_of_items : (later : Bool) (ls : List ShownLine) → items_text later (items_of (map object_of ls)) ≡ pieces true later ls ++ codes "]"
unfolding pieces
pieces_of_items later [] = refl
pieces_of_items later (l ∷ ls) =
    ap (λ t. comma_if later ++ (compact_text (object_of l) ++ t)) (pieces_of_items true ls)
    ∙ sym (append_assoc (comma_if later) (compact_text (object_of l)) (pieces true true ls ++ codes "]"))
    ∙ sym (append_assoc (comma_if later ++ compact_text (object_of l)) (pieces true true ls) (codes "]"))

-- brackets and pieces are the whole text
pub whole_text : (json : Bool) (ls : List ShownLine) → (front_text json ++ pieces json false ls) ++ end_text json ≡ lines_text json ls
whole_text true ls =
    ap (λ t. 91 ∷ t) (sym (append_assoc (pieces true false ls) (codes "]") (codes "\n")) ∙ ap (λ t. t ++ codes "\n") (sym (pieces_of_items false ls)))
whole_text false ls = append-nil (pieces false false ls) ∙ pieces_of_text false ls

-- one record more, and none
pub records_step : (n : ℕ) (a : Arrived) (more left : List Arrived) → left ≡ a ∷ more → records_lines n left ≡ record_lines n a ++ records_lines (n + 1) more
unfolding records_lines
records_step n a more left e = ap (records_lines n) e

pub records_none : (n : ℕ) (left : List Arrived) → left ≡ [] → records_lines n left ≡ []
unfolding records_lines
records_none n left e = ap (records_lines n) e

-- an object has bytes, so where nothing was written a part of it and of what is before it was
pub object_left : (w : Option (List ℕ)) (o before : List ℕ) (l : ShownLine) → WritesPart w w (o ++ (before ++ compact_text (object_of l)))
unfolding object_of
object_left w o before l = record {
  count = 0;
  within = omega (arith, length-append o (before ++ compact_text (object_of l)), length-append before (compact_text (object_of l)));
  is = sym (append_nothing w);
}
