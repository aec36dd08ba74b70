-- What lines tell of together, by what each tells.
use Rattle.std.proofs.Common.{◌≡◌, ℕ, zero, suc, ◌+◌, ◌==◌, Bool, true, false, List, [], ◌∷◌, ◌++◌, length, map, refl, sym, ap, ap₂, ◌∙◌, length-append, arith}
use Rattle.std.specs.Prelude.{◌&&◌, filter, if◌then◌else◌}
use Rattle.std.specs.List.{flat_map}
use Rattle.std.proofs.lemmas.List.Elements.{filter-append}
use Rattle.air_source.specs.Units.{same_side}
use Rattle.air_source.specs.declared.events.Side.{Side}
use Rattle.fh_base.specs.Lists.{each}
use Rattle.explain_model.specs.Reasons.{word_of}
use Rattle.explain_model.specs.declared.places.PrbRun.{PrbRun}
use Rattle.explain_model.specs.declared.reasons.ReasonWord.{ReasonWord}
use Rattle.explain_model.specs.declared.values.CellWord.{CellWord}
use Rattle.explain_model.specs.declared.values.CellWord.TheVariants as cell
use Rattle.explain_model.specs.declared.values.ExplainLine.{ExplainLine}
use Rattle.explain_model.specs.declared.values.ExplainLine.TheVariants as line
use Rattle.explain_model.specs.Same.{same_word}
use Rattle.explain_model.specs.Seen.{Seen, shows}
use Rattle.explain_model.specs.Told.{ToldMissing, ToldSilent, prb_of, told_missing, told_silent}
use Rattle.why_lines.specs.Laws.{is_cells, is_why_missing, is_why_silent}
use Rattle.why_lines.specs.Sums.{number_by, sum_in, sum_of_line}
use Rattle.why_lines.specs.declared.words.SumWord.{SumWord}
use Rattle.why_lines.specs.declared.words.SumWord.TheVariants.{Shown, Missing, Silent}

-- ---- how many of a list pass

pub count_both : {A : Type 0} (p : A → Bool) (xs ys : List A) → length (filter p (xs ++ ys)) ≡ length (filter p xs) + length (filter p ys)
count_both p xs ys = ap length (filter-append p xs ys) ∙ length-append (filter p xs) (filter p ys)

mapped_step : {A B : Type 0} (p : B → Bool) (f : A → B) (x : A) (xs : List A) (b : Bool) → length (filter p (map f xs)) ≡ length (filter (λ y. p (f y)) xs)
    → length (if b then f x ∷ filter p (map f xs) else filter p (map f xs)) ≡ length (if b then x ∷ filter (λ y. p (f y)) xs else filter (λ y. p (f y)) xs)
mapped_step p f x xs true rest = ap suc rest
mapped_step p f x xs false rest = rest

pub count_mapped : {A B : Type 0} (p : B → Bool) (f : A → B) (xs : List A) → length (filter p (map f xs)) ≡ length (filter (λ x. p (f x)) xs)
count_mapped p f [] = refl
count_mapped p f (x ∷ xs) = mapped_step p f x xs (p (f x)) (count_mapped p f xs)

-- of numbers that pass all or none
module _ {A : Type 0} (p : A → Bool) (g : ℕ → A) where
  all_pass : ((n : ℕ) → p (g n) ≡ true) → (from count : ℕ) → length (filter p (each from count (λ n. g n ∷ []))) ≡ count
  unfolding each
  all_pass is from zero = refl
  all_pass is from (suc count) =
      let rest = filter p (each (from + 1) count (λ n. g n ∷ [])) in
      ap (λ (b : Bool). length (if b then g from ∷ rest else rest)) (is from) ∙ ap suc (all_pass is (from + 1) count)

  none_pass : ((n : ℕ) → p (g n) ≡ false) → (from count : ℕ) → length (filter p (each from count (λ n. g n ∷ []))) ≡ 0
  unfolding each
  none_pass is from zero = refl
  none_pass is from (suc count) =
      let rest = filter p (each (from + 1) count (λ n. g n ∷ [])) in
      ap (λ (b : Bool). length (if b then g from ∷ rest else rest)) (is from) ∙ none_pass is (from + 1) count

  pub count_each : (b : Bool) → ((n : ℕ) → p (g n) ≡ b) → (from count : ℕ) → length (filter p (each from count (λ n. g n ∷ []))) ≡ (if b then count else 0)
  count_each true is from count = all_pass is from count
  count_each false is from count = none_pass is from count

no_number : (a b : Bool) (n : ℕ) → (if a && (b && false) then n else 0) ≡ 0
no_number true true n = refl
no_number true false n = refl
no_number false b n = refl

-- ---- the sum of what each line tells

module _ (side : Side) (id : ℕ) (word : SumWord) where
  abbrev number : ExplainLine → ℕ
  number l = number_by side id word (sum_of_line l)

  only_step : (p : ExplainLine → Bool) (l : ExplainLine) (ls : List ExplainLine) (b : Bool) → p l ≡ b → (p l ≡ false → number l ≡ 0)
      → sum_in side id word ls ≡ sum_in side id word (filter p ls)
      → number l + sum_in side id word ls ≡ sum_in side id word (if b then l ∷ filter p ls else filter p ls)
  unfolding sum_in
  only_step p l ls true is none rest = ap (λ n. number l + n) rest
  only_step p l ls false is none rest = ap (λ n. n + sum_in side id word ls) (none is) ∙ nothing (sum_in side id word ls) ∙ rest
    where
      nothing : (n : ℕ) → 0 + n ≡ n
      nothing n = omega arith

  -- lines that tell of nothing may be left out
  pub only : (p : ExplainLine → Bool) → ((l : ExplainLine) → p l ≡ false → number l ≡ 0) → (ls : List ExplainLine) → sum_in side id word ls ≡ sum_in side id word (filter p ls)
  unfolding sum_in
  only p none [] = refl
  only p none (l ∷ ls) = only_step p l ls (p l) refl (none l) (only p none ls)

  module _ {A : Type 0} (tell : ExplainLine → List A) (p : A → Bool) (is : (l : ExplainLine) → length (filter p (tell l)) ≡ number l) where
    pub sum_told : (ls : List ExplainLine) → sum_in side id word ls ≡ length (filter p (flat_map tell ls))
    unfolding sum_in
    sum_told [] = refl
    sum_told (l ∷ ls) = ap₂ (λ m n. m + n) (sym (is l)) (sum_told ls) ∙ sym (count_both p (tell l) (flat_map tell ls))

-- ---- of each kind of line

module _ (side : Side) (id : ℕ) where
  -- cells that are shown

  pub shown_only : (l : ExplainLine) → is_cells l ≡ false → number_by side id Shown (sum_of_line l) ≡ 0
  shown_only (line.Cells run mask word) h = absurd cc
  shown_only (line.WhyMissing run mask reason) h = no_number (same_side run.side side) (run.place.id == id) run.num
  shown_only (line.WhySilent run mask number reason) h = no_number (same_side run.side side) (run.place.id == id) run.num
  shown_only _ h = refl

  abbrev pub is_shown : Seen → Bool
  is_shown s = same_side s.side side && ((s.id == id) && s.shown)

-- the cells that a line tells of
abbrev pub seen_with : PrbRun → ℕ → CellWord → ℕ → Seen
seen_with run mask word prb = record {
  side = run.side;
  at = run.at;
  id = run.place.id;
  slot = run.place.slot;
  symbol = run.place.symbol;
  prb = prb;
  section = run.section;
  mask = mask;
  shown = shows word;
}

abbrev pub told_seen : ExplainLine → List Seen
told_seen (line.Cells run mask word) = each run.prb run.num (λ prb. seen_with run mask word prb ∷ [])
told_seen _ = []

module _ (side : Side) (id : ℕ) where
  shown_run : (run : PrbRun) (mask : ℕ) (word : CellWord) → length (filter (is_shown side id) (told_seen (line.Cells run mask word))) ≡ number_by side id Shown (sum_of_line (line.Cells run mask word))
  shown_run run mask (cell.Shown from) =
      count_each (is_shown side id) (seen_with run mask (cell.Shown from)) (same_side run.side side && ((run.place.id == id) && true)) (λ n. refl) run.prb run.num
  shown_run run mask cell.Missing =
      count_each (is_shown side id) (seen_with run mask cell.Missing) (same_side run.side side && ((run.place.id == id) && false)) (λ n. refl) run.prb run.num
      ∙ no_number (same_side run.side side) (run.place.id == id) run.num

  pub shown_is : (l : ExplainLine) → length (filter (is_shown side id) (told_seen l)) ≡ number_by side id Shown (sum_of_line l)
  shown_is (line.Cells run mask word) = shown_run run mask word
  shown_is (line.WhyMissing run mask reason) = sym (no_number (same_side run.side side) (run.place.id == id) run.num)
  shown_is (line.WhySilent run mask number reason) = sym (no_number (same_side run.side side) (run.place.id == id) run.num)
  shown_is _ = refl

  module _ (word : ReasonWord) where
    -- cells that are missing

    pub missing_only : (l : ExplainLine) → is_why_missing l ≡ false → number_by side id (Missing word) (sum_of_line l) ≡ 0
    missing_only (line.Cells run mask (cell.Shown from)) h = no_number (same_side run.side side) (run.place.id == id) run.num
    missing_only (line.Cells run mask cell.Missing) h = refl
    missing_only (line.WhyMissing run mask reason) h = absurd cc
    missing_only (line.WhySilent run mask number reason) h = no_number (same_side run.side side) (run.place.id == id) run.num
    missing_only _ h = refl

    abbrev pub is_missing : ToldMissing → Bool
    is_missing x = same_side x.prb.side side && ((x.prb.id == id) && same_word (word_of x.reason) word)

    pub missing_is : (l : ExplainLine) → length (filter is_missing (told_missing l)) ≡ number_by side id (Missing word) (sum_of_line l)
    missing_is (line.Cells run mask (cell.Shown from)) = sym (no_number (same_side run.side side) (run.place.id == id) run.num)
    missing_is (line.Cells run mask cell.Missing) = refl
    missing_is (line.WhyMissing run mask reason) =
        count_each is_missing (λ n. record { prb = prb_of run n; mask = mask; reason = reason })
        (same_side run.side side && ((run.place.id == id) && same_word (word_of reason) word)) (λ n. refl) run.prb run.num
    missing_is (line.WhySilent run mask number reason) = sym (no_number (same_side run.side side) (run.place.id == id) run.num)
    missing_is _ = refl

    -- PRBs that are silent

    pub silent_only : (l : ExplainLine) → is_why_silent l ≡ false → number_by side id (Silent word) (sum_of_line l) ≡ 0
    silent_only (line.Cells run mask (cell.Shown from)) h = no_number (same_side run.side side) (run.place.id == id) run.num
    silent_only (line.Cells run mask cell.Missing) h = refl
    silent_only (line.WhyMissing run mask reason) h = no_number (same_side run.side side) (run.place.id == id) run.num
    silent_only (line.WhySilent run mask number reason) h = absurd cc
    silent_only _ h = refl

    abbrev pub is_silent : ToldSilent → Bool
    is_silent x = same_side x.prb.side side && ((x.prb.id == id) && same_word (word_of x.reason) word)

    pub silent_is : (l : ExplainLine) → length (filter is_silent (told_silent l)) ≡ number_by side id (Silent word) (sum_of_line l)
    silent_is (line.Cells run mask (cell.Shown from)) = sym (no_number (same_side run.side side) (run.place.id == id) run.num)
    silent_is (line.Cells run mask cell.Missing) = refl
    silent_is (line.WhyMissing run mask reason) = sym (no_number (same_side run.side side) (run.place.id == id) run.num)
    silent_is (line.WhySilent run mask number reason) =
        count_each is_silent (λ n. record { prb = prb_of run n; mask = mask; line = number; reason = reason })
        (same_side run.side side && ((run.place.id == id) && same_word (word_of reason) word)) (λ n. refl) run.prb run.num
    silent_is _ = refl
