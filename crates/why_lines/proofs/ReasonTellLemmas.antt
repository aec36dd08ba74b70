-- The lines of the sums, one after the other.
use Rattle.std.proofs.Common.{◌≡◌, ℕ, zero, suc, ◌+◌, ◌<◌, List, [], ◌∷◌, ◌++◌, length, get_or, take, drop, map, refl, sym, ap, ap₂, subst, ◌∙◌, append_assoc, append-nil, arith}
use Rattle.std.proofs.Math.Seq.{take-suc}
use Rattle.std.proofs.lemmas.Grind.{flat_map-append}
use Rattle.std.specs.List.{flat_map}
use Rattle.air_source.specs.declared.events.Side.{Side}
use Rattle.air_source.specs.declared.events.Side.TheVariants.{Ru, Du}
use Rattle.window_config.specs.declared.endpoints.EndpointConfig.{EndpointConfig}
use Rattle.explain_model.specs.declared.values.ExplainLine.{ExplainLine}
use Rattle.explain_model.specs.Text.{shown_by}
use Rattle.explain_model.specs.Sums.{missing_words, silent_words}
use Rattle.explain_heard.specs.Stops.{StopsInLine}
use Rattle.why_lines.specs.Counting.{lines_at, unit_lines, word_lines}
use Rattle.why_lines.specs.Sums.{AreSums, endpoint_text, shown_in, sum_text, sums_after, sums_by}
use Rattle.why_lines.specs.declared.sums.ReasonSums.{ReasonSums}
use Rattle.why_lines.specs.declared.words.SumWord.TheVariants.{Missing, Silent}

-- ---- the lines of all lines' sums

module _ (ls : List ExplainLine) where
  unit_text : (side : Side) (e : EndpointConfig) → unit_lines (sums_by side ls e) ≡ endpoint_text side ls e
  unfolding unit_lines
  unit_text side e =
      ap (λ xs. shown_by side e.id (shown_in side e.id ls) ++ xs)
      (flat_map-append (word_lines (sums_by side ls e)) (map Missing missing_words) (map Silent silent_words))

  own_lines : (side : Side) (es : List EndpointConfig) → flat_map (lines_at side) (map (sums_by side ls) es) ≡ flat_map (endpoint_text side ls) es
  own_lines side [] = refl
  own_lines Ru (e ∷ es) = ap₂ ◌++◌ (unit_text Ru e) (own_lines Ru es)
  own_lines Du (e ∷ es) = ap₂ ◌++◌ (unit_text Du e) (own_lines Du es)

  radio_none : (es : List EndpointConfig) → flat_map (lines_at Du) (map (sums_by Ru ls) es) ≡ []
  radio_none [] = refl
  radio_none (e ∷ es) = radio_none es

  distributed_none : (es : List EndpointConfig) → flat_map (lines_at Ru) (map (sums_by Du ls) es) ≡ []
  distributed_none [] = refl
  distributed_none (e ∷ es) = distributed_none es

  told_after : (side : Side) (es : List EndpointConfig) → flat_map (lines_at side) (sums_after es ls) ≡ sum_text es side ls
  unfolding sums_after sum_text
  told_after Ru es =
      flat_map-append (lines_at Ru) (map (sums_by Ru ls) es) (map (sums_by Du ls) es)
      ∙ ap₂ ◌++◌ (own_lines Ru es) (distributed_none es)
      ∙ append-nil (flat_map (endpoint_text Ru ls) es)
  told_after Du es =
      flat_map-append (lines_at Du) (map (sums_by Ru ls) es) (map (sums_by Du ls) es)
      ∙ ap₂ ◌++◌ (radio_none es) (own_lines Du es)

  pub told_is : (side : Side) (es : List EndpointConfig) (sums : ReasonSums) → AreSums es ls sums → flat_map (lines_at side) sums.all.items ≡ sum_text es side ls
  unfolding AreSums
  told_is side es sums are = ap (flat_map (lines_at side)) are ∙ told_after side es

-- ---- what a sink took

module _ {W X : Type 0} (grew : W → List ExplainLine → W → Type 0)
    (more : (a b c : W) (first second : List ExplainLine) → grew a first b → grew b second c → grew a (first ++ second) c) (f : X → List ExplainLine) where
  next_lines : (xs : List X) (i : ℕ) (d : X) → i < length xs → flat_map f (take (i + 1) xs) ≡ flat_map f (take i xs) ++ f (get_or xs i d)
  next_lines xs i d lt =
      let e : i + 1 ≡ suc i = omega arith in
      ap (λ n. flat_map f (take n xs)) e ∙ ap (flat_map f) (take-suc xs i d lt) ∙ flat_map-append f (take i xs) (get_or xs i d ∷ [])
      ∙ ap (λ l. flat_map f (take i xs) ++ l) (append-nil (f (get_or xs i d)))

  -- the lines of the first elements and those of the others
  all_lines : (xs : List X) (n : ℕ) → flat_map f xs ≡ flat_map f (take n xs) ++ flat_map f (drop n xs)
  all_lines xs zero = refl
  all_lines [] (suc n) = refl
  all_lines (x ∷ xs) (suc n) = ap (λ l. f x ++ l) (all_lines xs n) ∙ sym (append_assoc (f x) (flat_map f (take n xs)) (flat_map f (drop n xs)))

  pub one_more : (xs : List X) (i : ℕ) (d : X) → i < length xs → (base out now : W) → grew base (flat_map f (take i xs)) out → grew out (f (get_or xs i d)) now
      → grew base (flat_map f (take (i + 1) xs)) now
  one_more xs i d lt base out now old new =
      subst (λ l. grew base l now) (sym (next_lines xs i d lt)) (more base out now (flat_map f (take i xs)) (f (get_or xs i d)) old new)

  module _ (stopped : W → ExplainLine → W → Type 0) where
    pub stops_there : (xs : List X) (i : ℕ) (d : X) → i < length xs → (base out now : W) → grew base (flat_map f (take i xs)) out
        → StopsInLine grew stopped (f (get_or xs i d)) out now → StopsInLine grew stopped (flat_map f xs) base now
    stops_there xs i d lt base out now old s =
        let front = flat_map f (take i xs) in
        let back = flat_map f (drop (i + 1) xs) in
        record {
          before = front ++ s.before;
          line = s.line;
          after = s.after ++ back;
          is =
              all_lines xs (i + 1) ∙ ap (λ l. l ++ back) (next_lines xs i d lt ∙ ap (λ l. front ++ l) s.is ∙ sym (append_assoc front s.before (s.line ∷ s.after)))
              ∙ append_assoc (front ++ s.before) (s.line ∷ s.after) back;
          middle = s.middle;
          heard = more base out s.middle front s.before old s.heard;
          stop = s.stop;
        }
