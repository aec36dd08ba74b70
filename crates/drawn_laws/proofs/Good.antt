-- Lines of events, and those after them, that a picture takes: each is drawable, and sections are after frames.
use Rattle.std.proofs.Common.{Bool, true, false, List, [], ◌∷◌, ◌++◌, refl, sym, subst}
use Rattle.std.specs.Prelude.{if◌then◌else◌}
use Rattle.std.specs.List.{AllByRecursion, flat_map}
use Rattle.ecpri_fragments.specs.Pieces.{joined}
use Rattle.window_config.specs.declared.endpoints.EndpointConfig.{EndpointConfig}
use Rattle.drawn_laws.specs.Drawable.{IsDrawnLine}
use Rattle.explain_model.specs.declared.values.ExplainLine.{ExplainLine}
use Rattle.explain_model.specs.Pieces.{AreLinked, pieces}
use Rattle.explain_model.proofs.PieceLemmas.{are_pieces}
use Rattle.drawn_laws.proofs.Frames.{HaveFrames, IsFree, both_frames, free_frames}
use Rattle.drawn_laws.proofs.Lists.{all_back, all_both, all_front}

pub record AreGood (es : List EndpointConfig) (ls : List ExplainLine) : Type 0 where
  pub each : AllByRecursion (IsDrawnLine es) ls
  pub frames : HaveFrames ls

module _ (es : List EndpointConfig) where
  pub good_none : AreGood es []
  good_none = record { each = tt; frames = λ last. refl }

  pub good_one : (l : ExplainLine) → IsDrawnLine es l → IsFree l → AreGood es (l ∷ [])
  good_one l h k = record { each = (h, tt); frames = free_frames (l ∷ []) (k, tt) }

  pub good_both : (xs ys : List ExplainLine) → AreGood es xs → AreGood es ys → AreGood es (xs ++ ys)
  good_both xs ys h k = record { each = all_both (IsDrawnLine es) xs ys h.each k.each; frames = both_frames xs ys h.frames k.frames }

  pub good_chosen : (b : Bool) (xs ys : List ExplainLine) → AreGood es xs → AreGood es ys → AreGood es (if b then xs else ys)
  good_chosen true xs ys h k = h
  good_chosen false xs ys h k = k

  pub good_flat : {B : Type 0} (Q : B → Type 0) (f : B → List ExplainLine) → ((b : B) → Q b → AreGood es (f b)) → (bs : List B) → AllByRecursion Q bs → AreGood es (flat_map f bs)
  good_flat Q f h [] k = good_none
  good_flat Q f h (b ∷ bs) k = good_both (f b) (flat_map f bs) (h b k.0) (good_flat Q f h bs k.1)

  pub good_any : {B : Type 0} (f : B → List ExplainLine) → ((b : B) → AreGood es (f b)) → (bs : List B) → AreGood es (flat_map f bs)
  good_any f h [] = good_none
  good_any f h (b ∷ bs) = good_both (f b) (flat_map f bs) (h b) (good_any f h bs)

  module _ {A : Type 0} (related : A → A → Bool) (P : A → Type 0) (lines : List A → List ExplainLine)
      (of_piece : (p : List A) → AreLinked related p → AllByRecursion P p → AreGood es (lines p)) where
    of_pieces : (ps : List (List A)) → AllByRecursion (AreLinked related) ps → AllByRecursion P (joined ps) → AreGood es (flat_map lines ps)
    of_pieces [] linked h = good_none
    of_pieces (p ∷ ps) linked h =
        good_both (lines p) (flat_map lines ps) (of_piece p linked.0 (all_front P p (joined ps) h)) (of_pieces ps linked.1 (all_back P p (joined ps) h))

    pub good_pieces : (xs : List A) → AllByRecursion P xs → AreGood es (flat_map lines (pieces related xs))
    good_pieces xs h =
        let are = are_pieces related xs in
        of_pieces (pieces related xs) are.linked (subst (λ (ys : List A). AllByRecursion P ys) (sym are.all) h)
