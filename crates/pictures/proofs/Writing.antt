-- What was written of a picture: a text of three parts, of which the last is not empty.
use Rattle.std.proofs.Common.{◌≡◌, ◌≢◌, ℕ, List, [], ◌∷◌, ◌++◌, Option, None, Bool, true, false, refl, sym, ap, ◌∙◌, subst, append_assoc}
use Rattle.std.specs.Prelude.{◌||◌, if◌then◌else◌, codes}
use Rattle.std.specs.List.{flat_map}
use Rattle.std.specs.Str.{bytes_eq}
use Rattle.fh_base.specs.Told.{WritesFront, WritesPart}
use Rattle.fh_base.proofs.Progress.{front_first, front_none}
use Rattle.fh_base.specs.Owed.{Carried}
use Rattle.fh_base.specs.CarriedLaws.{carried_more, carried_none}
use Rattle.fh_base.proofs.Parts.{front_part, part_behind, part_first}
use Rattle.fh_base.proofs.Carrying.{front_behind}
use Rattle.fh_base.specs.Numbers.{word_at}
use Rattle.line_words.specs.Words.{words_of}
use Rattle.pictures.specs.Numbers.{taking}
use Rattle.pictures.specs.Cells.{cell_at, cell_of, look_of_cell, look_of_why, names_cells}
use Rattle.pictures.specs.declared.cells.Cell.{Cell}
use Rattle.pictures.specs.declared.endpoints.Endpoint.{Endpoint}
use Rattle.pictures.specs.Opening.{closing_text}
use Rattle.pictures.specs.Bands.{foot_text, head_text}
use Rattle.pictures.specs.Looks.{line_text}
use Rattle.pictures.specs.Looks as looks
use Rattle.pictures.specs.Picture.{cells_text, grid_picture}
use Rattle.pictures.specs.declared.spans.Span.{Span}

pub append_some : (xs ys : List ℕ) → ys ≢ [] → xs ++ ys ≢ []
append_some [] ys some h = some h
append_some (x ∷ xs) ys some h = absurd (cc h)

pub closing_some : closing_text ≢ []
unfolding closing_text
closing_some h = absurd (cc h)

foot_some : (es : List Endpoint) → foot_text es ≢ []
unfolding foot_text
foot_some es = append_some _ closing_text closing_some

no_cells : (a b c : Bool) (x y : Option Cell) → (a || b || c) ≡ false → (if a || b then x else (if c then y else None)) ≡ None
no_cells true b c x y h = absurd (cc h)
no_cells false true c x y h = absurd (cc h)
no_cells false false true x y h = absurd (cc h)
no_cells false false false x y h = refl

-- a line that is not about cells draws nothing
draws_nothing : (s : Span) (es : List Endpoint) (line : List ℕ) → names_cells (word_at (words_of line) 0) ≡ false → line_text s es line ≡ []
unfolding line_text cell_of
draws_nothing s es line h =
    let ws = words_of line in
    let w = word_at ws 0 in
    ap (λ c. looks.cells_text s es c ws)
    (no_cells (bytes_eq w (codes "dl")) (bytes_eq w (codes "ul")) (bytes_eq w (codes "why")) (taking (look_of_cell ws) (cell_at es ws 0)) (taking (look_of_why ws) (cell_at es ws 1)) h)

pub carries_nothing : (s : Span) (es : List Endpoint) (line : List ℕ) (w : Option (List ℕ)) (o : List ℕ) → names_cells (word_at (words_of line) 0) ≡ false → Carried w o (line_text s es line) w o
carries_nothing s es line w o h = subst (λ (t : List ℕ). Carried w o t w o) (sym (draws_nothing s es line h)) (carried_none w o)

-- one line more of what lines draw
pub line_said : (f : List ℕ → List ℕ) (parts rest : List (List ℕ)) (line told whole : List ℕ) → parts ≡ line ∷ rest → told ++ flat_map f parts ≡ whole → (told ++ f line) ++ flat_map f rest ≡ whole
line_said f parts rest line told whole is says = append_assoc told (f line) (flat_map f rest) ∙ ap (λ (ps : List (List ℕ)). told ++ flat_map f ps) (sym is) ∙ says

-- a front of a line was told after those before it
pub line_cut : (f : List ℕ → List ℕ) (parts rest : List (List ℕ)) (line told whole : List ℕ) (w v u : Option (List ℕ)) (o p : List ℕ) → parts ≡ line ∷ rest → told ++ flat_map f parts ≡ whole
    → Carried w o told v p → WritesFront v u (p ++ f line) → WritesFront w u (o ++ whole)
line_cut f parts rest line told whole w v u o p is says before front =
    subst (λ (t : List ℕ). WritesFront w u t)
    (append_assoc o (told ++ f line) (flat_map f rest) ∙ ap (λ (t : List ℕ). o ++ t) (line_said f parts rest line told whole is says))
    (front_first w u (o ++ (told ++ f line)) (flat_map f rest) (front_behind w o told v p (f line) u before front))

module _ (s : Span) (es : List Endpoint) (text : List ℕ) where
  -- a part of the head
  pub head_cut : (w v : Option (List ℕ)) (o : List ℕ) → o ≡ [] → WritesPart w v (o ++ head_text s es) → WritesPart w v (grid_picture s es text)
  unfolding grid_picture
  head_cut w v o none part =
      part_first w v (head_text s es ++ cells_text s es text) (foot_text es)
      (part_first w v (head_text s es) (cells_text s es text) (subst (λ (t : List ℕ). WritesPart w v (t ++ head_text s es)) none part))

  -- the head, and a front of the cells
  pub cells_cut : (w v u : Option (List ℕ)) (o p : List ℕ) → o ≡ [] → Carried w o (head_text s es) v p → WritesFront v u (p ++ cells_text s es text) → WritesPart w u (grid_picture s es text)
  unfolding grid_picture
  cells_cut w v u o p none told front =
      front_part w u (head_text s es ++ cells_text s es text) (foot_text es) (foot_some es)
      (subst (λ (t : List ℕ). WritesFront w u (t ++ (head_text s es ++ cells_text s es text))) none (front_behind w o (head_text s es) v p (cells_text s es text) u told front))

  -- the head and the cells
  both : (w v u : Option (List ℕ)) (o p q : List ℕ) → Carried w o (head_text s es) v p → Carried v p (cells_text s es text) u q → Carried w o (head_text s es ++ cells_text s es text) u q
  both w v u o p q head cells = carried_more w v u o p q (head_text s es) (cells_text s es text) head cells

  -- these, and a part of the foot
  pub foot_cut : (w v u x : Option (List ℕ)) (o p q : List ℕ) → o ≡ [] → Carried w o (head_text s es) v p → Carried v p (cells_text s es text) u q
      → WritesPart u x (q ++ foot_text es) → WritesPart w x (grid_picture s es text)
  unfolding grid_picture
  foot_cut w v u x o p q none head cells part =
      subst (λ (t : List ℕ). WritesPart w x (t ++ ((head_text s es ++ cells_text s es text) ++ foot_text es))) none
      (part_behind w o (head_text s es ++ cells_text s es text) u q (foot_text es) x (both w v u o p q head cells) part)

  -- all was told
  pub all_told : (w v u x : Option (List ℕ)) (o p q r : List ℕ) → Carried w o (head_text s es) v p → Carried v p (cells_text s es text) u q → Carried u q (foot_text es) x r
      → Carried w o (grid_picture s es text) x r
  unfolding grid_picture
  all_told w v u x o p q r head cells foot = carried_more w u x o q r (head_text s es ++ cells_text s es text) (foot_text es) (both w v u o p q head cells) foot

  -- nothing
  pub nothing_yet : (w : Option (List ℕ)) → WritesPart w w (grid_picture s es text)
  unfolding grid_picture
  nothing_yet w = front_part w w (head_text s es ++ cells_text s es text) (foot_text es) (foot_some es) (front_none w (head_text s es ++ cells_text s es text))
