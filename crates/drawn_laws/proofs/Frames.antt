-- Sections are after frames.
use Rattle.std.proofs.Common.{◌≡◌, true, List, [], ◌∷◌, ◌++◌, Option, Some, refl, ap, ◌∙◌}
use Rattle.std.specs.List.{AllByRecursion}
use Rattle.std.proofs.lemmas.Bool.{and_from, and_parts}
use Rattle.air_source.specs.declared.events.Side.{Side}
use Rattle.drawn_laws.specs.Drawable.{has_frame, have_frames, last_way}
use Rattle.explain_model.specs.declared.values.ExplainLine.{ExplainLine}

-- wherever these lines are, their sections are after frames
abbrev pub HaveFrames : List ExplainLine → Type 0
HaveFrames ls = (last : Option Side) → have_frames last ls ≡ true

pub after_both : (xs ys : List ExplainLine) (last : Option Side) → have_frames last xs ≡ true → HaveFrames ys → have_frames last (xs ++ ys) ≡ true
after_both [] ys last h k = k last
after_both (x ∷ xs) ys last h k =
    let both = and_parts (has_frame last x) (have_frames (last_way last x) xs) h in
    and_from (has_frame last x) (have_frames (last_way last x) (xs ++ ys)) both.0 (after_both xs ys (last_way last x) both.1 k)

pub both_frames : (xs ys : List ExplainLine) → HaveFrames xs → HaveFrames ys → HaveFrames (xs ++ ys)
both_frames xs ys h k last = after_both xs ys last (h last) k

-- a line that is no section
abbrev pub IsFree : ExplainLine → Type 0
IsFree l = (last : Option Side) → has_frame last l ≡ true

pub free_frames : (ls : List ExplainLine) → AllByRecursion IsFree ls → HaveFrames ls
free_frames [] h last = refl
free_frames (l ∷ ls) h last = and_from (has_frame last l) (have_frames (last_way last l) ls) (h.0 last) (free_frames ls h.1 (last_way last l))

-- a line that may be after a frame to this unit, and is none
pub record IsAfter (side : Side) (l : ExplainLine) : Type 0 where
  pub frame : has_frame (Some side) l ≡ true
  pub way : last_way (Some side) l ≡ Some side

pub after_frames : (side : Side) (ls : List ExplainLine) → AllByRecursion (IsAfter side) ls → have_frames (Some side) ls ≡ true
after_frames side [] h = refl
after_frames side (l ∷ ls) h =
    and_from (has_frame (Some side) l) (have_frames (last_way (Some side) l) ls) h.0.frame
    (ap (λ (o : Option Side). have_frames o ls) h.0.way ∙ after_frames side ls h.1)
