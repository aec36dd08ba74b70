-- Lines that are told one after the other.
use Rattle.std.proofs.Common.{◌≡◌, ℕ, Bool, true, List, [], ◌∷◌, ◌++◌, Option, refl, sym, ap, ap₂, subst, append_assoc, append-nil, ◌∙◌}
use Rattle.fh_base.specs.Told.{WritesPart}
use Rattle.fh_base.specs.Owed.{Carried}
use Rattle.fh_base.specs.CarriedLaws.{carried_none, carried_more}
use Rattle.fh_base.proofs.Parts.{part_first, part_behind}
use Rattle.capture_show.specs.Lines.{ShownLine}
use Rattle.capture_show.specs.Texts.{piece, pieces}
use Rattle.capture_show.specs.Printing.{State, Told, Stopped, later_behind}
use Rattle.capture_show.proofs.Pieces.{pieces_append, later_append, piece_alone, pieces_none}

-- no lines were told
pub told_none : (s : State) → Told s s []
told_none s = record {
  carried = subst (λ (t : List ℕ). Carried s.written s.owed t s.written s.owed) (sym (pieces_none s.json s.later)) (carried_none s.written s.owed);
  json = refl;
  later = refl;
}

-- one line was told
pub told_one : (json later json_now later_now : Bool) (w v : Option (List ℕ)) (o p : List ℕ) (l : ShownLine) → Carried w o (piece json later l) v p → json_now ≡ json → later_now ≡ true
    → Told (record { json = json; later = later; written = w; owed = o }) (record { json = json_now; later = later_now; written = v; owed = p }) (l ∷ [])
told_one json later json_now later_now w v o p l carried same now_true = record {
  carried = subst (λ (t : List ℕ). Carried w o t v p) (sym (piece_alone json later l)) carried;
  json = same;
  later = now_true;
}

pub stopped_one : (json later : Bool) (w v : Option (List ℕ)) (o : List ℕ) (l : ShownLine) → WritesPart w v (o ++ piece json later l)
    → Stopped (record { json = json; later = later; written = w; owed = o }) v (l ∷ [])
stopped_one json later w v o l part = subst (λ (t : List ℕ). WritesPart w v (o ++ t)) (sym (piece_alone json later l)) part

-- the pieces of more lines, told from a state after some
pieces_behind : (s t : State) (xs ys : List ShownLine) → Told s t xs → pieces s.json s.later xs ++ pieces t.json t.later ys ≡ pieces s.json s.later (xs ++ ys)
pieces_behind s t xs ys h =
    ap₂ (λ j l. pieces s.json s.later xs ++ pieces j l ys) h.json h.later
    ∙ sym (pieces_append s.json s.later xs ys)

-- some lines were told, and then more
pub told_more : (s t u : State) (xs ys : List ShownLine) → Told s t xs → Told t u ys → Told s u (xs ++ ys)
told_more s t u xs ys h k = record {
  carried = subst (λ (p : List ℕ). Carried s.written s.owed p u.written u.owed) (pieces_behind s t xs ys h)
      (carried_more s.written t.written u.written s.owed t.owed u.owed (pieces s.json s.later xs) (pieces t.json t.later ys) h.carried k.carried);
  json = k.json ∙ h.json;
  later = k.later ∙ ap (λ b. later_behind b ys) h.later ∙ sym (later_append s.later xs ys);
}

-- some lines were told, and a part of more
pub stopped_behind : (s t : State) (v : Option (List ℕ)) (xs ys : List ShownLine) → Told s t xs → Stopped t v ys → Stopped s v (xs ++ ys)
stopped_behind s t v xs ys h part =
    subst (λ (p : List ℕ). WritesPart s.written v (s.owed ++ p)) (pieces_behind s t xs ys h)
    (part_behind s.written s.owed (pieces s.json s.later xs) t.written t.owed (pieces t.json t.later ys) v h.carried part)

-- a part of some lines is one of these and more
pub stopped_before : (s : State) (v : Option (List ℕ)) (xs ys : List ShownLine) → Stopped s v xs → Stopped s v (xs ++ ys)
stopped_before s v xs ys part =
    subst (λ (p : List ℕ). WritesPart s.written v p)
    (append_assoc s.owed (pieces s.json s.later xs) (pieces s.json (later_behind s.later xs) ys) ∙ ap (λ p. s.owed ++ p) (sym (pieces_append s.json s.later xs ys)))
    (part_first s.written v (s.owed ++ pieces s.json s.later xs) (pieces s.json (later_behind s.later xs) ys) part)

-- ---- in a loop: of all lines some were told, and the rest is left
pub record SoFar (s t : State) (all rest : List ShownLine) : Type 0 where
  pub done : List ShownLine
  pub told : Told s t done
  pub are : done ++ rest ≡ all

pub so_far_none : (s : State) (all rest : List ShownLine) → rest ≡ all → SoFar s s all rest
so_far_none s all rest is = record { done = []; told = told_none s; are = is }

pub so_far_more : (s t u : State) (all xs rest left : List ShownLine) → left ≡ xs ++ rest → SoFar s t all left → Told t u xs → SoFar s u all rest
so_far_more s t u all xs rest left is h k = record {
  done = h.done ++ xs;
  told = told_more s t u h.done xs h.told k;
  are = append_assoc h.done xs rest ∙ ap (λ r. h.done ++ r) (sym is) ∙ h.are;
}

pub so_far_all : (s t : State) (all left : List ShownLine) → left ≡ [] → SoFar s t all left → Told s t all
so_far_all s t all left none h =
    subst (λ (xs : List ShownLine). Told s t xs) (sym (append-nil h.done) ∙ ap (λ r. h.done ++ r) (sym none) ∙ h.are) h.told

pub so_far_stopped : (s t : State) (v : Option (List ℕ)) (all xs rest left : List ShownLine) → left ≡ xs ++ rest → SoFar s t all left → Stopped t v xs → Stopped s v all
so_far_stopped s t v all xs rest left is h part =
    subst (λ (ls : List ShownLine). Stopped s v ls) (append_assoc h.done xs rest ∙ ap (λ r. h.done ++ r) (sym is) ∙ h.are)
    (stopped_before s v (h.done ++ xs) rest (stopped_behind s t v h.done xs h.told part))

-- the same lines, as they are spelled elsewhere
pub told_as : (s t : State) (xs ys : List ShownLine) → xs ≡ ys → Told s t xs → Told s t ys
told_as s t xs ys is h = subst (λ (ls : List ShownLine). Told s t ls) is h

pub stopped_as : (s : State) (v : Option (List ℕ)) (xs ys : List ShownLine) → xs ≡ ys → Stopped s v xs → Stopped s v ys
stopped_as s v xs ys is h = subst (λ (ls : List ShownLine). Stopped s v ls) is h
