-- Where a line is not added, a number would not fit.
use Rattle.std.proofs.Common.{◌≡◌, ℕ, ◌+◌, ◌^◌, ◌≤◌, Bool, true, false, List, [], ◌∷◌, ◌++◌, map, refl, sym, ap, ◌∙◌, inl, inr, arith}
use Rattle.std.specs.Prelude.{◌==◌, ◌&&◌, ◌||◌, ◌⊎◌, not, nat_lt, if◌then◌else◌, Option, Some, slice_index}
use Rattle.std.specs.List.{list_all}
use Rattle.std.proofs.lemmas.Bool.{eq-eqb}
use Rattle.std.proofs.lemmas.List.Folds.{list_all-append}
use Rattle.air_source.specs.Units.{same_side}
use Rattle.air_source.specs.declared.events.Side.{Side}
use Rattle.air_source.specs.declared.events.Side.TheVariants.{Ru, Du}
use Rattle.window_config.specs.declared.endpoints.EndpointConfig.{EndpointConfig}
use Rattle.explain_model.specs.declared.reasons.ReasonWord.TheVariants.{Other, Late, Early, Refused, WrongWay, Repeated, Unfinished, CommandMismatch, CommandLate, CommandEarly, CommandRange, CommandRepeat, CommandOverlap, CommandFull, NoData, NoCommand}
use Rattle.explain_model.specs.declared.values.ExplainLine.{ExplainLine}
use Rattle.explain_model.specs.Same.{place_of}
use Rattle.why_lines.specs.Counting.{has_room, number_of}
use Rattle.why_lines.specs.Sums.{AreSums, DoNotFit, IsOver, number_by, sum_in, sum_of_line, sums_after, sums_by}
use Rattle.why_lines.specs.Words.{all_words, place_in_sums, same_sum}
use Rattle.why_lines.specs.declared.line_sums.LineSum.{LineSum}
use Rattle.why_lines.specs.declared.sums.ReasonSums.{ReasonSums}
use Rattle.why_lines.specs.declared.words.SumWord.{SumWord}
use Rattle.why_lines.specs.declared.words.SumWord.TheVariants.{Shown, Missing, Silent}
use Rattle.why_lines.proofs.AddLemmas.{sum_push}
use Rattle.fh_base.proofs.Orders.{not_lt}

-- ---- the number at the place of a word

number_is : (f : SumWord → ℕ) (w : SumWord) → slice_index (map f all_words) (place_in_sums w) ≡ f w
number_is f Shown = refl
number_is f (Missing Other) = refl
number_is f (Missing Late) = refl
number_is f (Missing Early) = refl
number_is f (Missing Refused) = refl
number_is f (Missing WrongWay) = refl
number_is f (Missing Repeated) = refl
number_is f (Missing Unfinished) = refl
number_is f (Missing CommandMismatch) = refl
number_is f (Missing CommandLate) = refl
number_is f (Missing CommandEarly) = refl
number_is f (Missing CommandRange) = refl
number_is f (Missing CommandRepeat) = refl
number_is f (Missing CommandOverlap) = refl
number_is f (Missing CommandFull) = refl
number_is f (Missing NoData) = refl
number_is f (Missing NoCommand) = refl
number_is f (Silent Other) = refl
number_is f (Silent Late) = refl
number_is f (Silent Early) = refl
number_is f (Silent Refused) = refl
number_is f (Silent WrongWay) = refl
number_is f (Silent Repeated) = refl
number_is f (Silent Unfinished) = refl
number_is f (Silent CommandMismatch) = refl
number_is f (Silent CommandLate) = refl
number_is f (Silent CommandEarly) = refl
number_is f (Silent CommandRange) = refl
number_is f (Silent CommandRepeat) = refl
number_is f (Silent CommandOverlap) = refl
number_is f (Silent CommandFull) = refl
number_is f (Silent NoData) = refl
number_is f (Silent NoCommand) = refl

same_self : (w : SumWord) → same_sum w w ≡ true
same_self Shown = refl
same_self (Missing word) = eq-eqb (place_of word) (place_of word) refl
same_self (Silent word) = eq-eqb (place_of word) (place_of word) refl

-- ---- one number that does not fit

own_number : (a b : Bool) (w : SumWord) (n : ℕ) → (a && b) ≡ true → (if a && (b && same_sum w w) then n else 0) ≡ n
own_number true true w n h = ap (λ (x : Bool). if x then n else 0) (same_self w)
own_number true false w n h = absurd cc
own_number false b w n h = absurd cc

parts : (a b : Bool) → (not a || b) ≡ false → (a ≡ true) × (b ≡ false)
parts true true h = absurd cc
parts true false h = (refl, refl)
parts false b h = absurd cc

at_least : (m n k : ℕ) → k ≤ m + n → (t : ℕ) → t ≡ m + n → k ≤ t
at_least m n k h t e = omega (arith, h, e)

module _ (ls : List ExplainLine) (l : ExplainLine) (s : LineSum) (is : sum_of_line l ≡ Some s) where
  over_by : (side : Side) (e : EndpointConfig) → has_room s (sums_by side ls e) ≡ false → 2 ^ 64 ≤ sum_in side e.id s.word (ls ++ l ∷ [])
  over_by side e full =
      let two = parts (same_side s.side side && (s.id == e.id)) (nat_lt (number_of (sums_by side ls e) s.word + s.number) (2 ^ 64)) full in
      let number : number_of (sums_by side ls e) s.word ≡ sum_in side e.id s.word ls = number_is (λ w. sum_in side e.id w ls) s.word in
      let more : sum_in side e.id s.word (ls ++ l ∷ []) ≡ number_of (sums_by side ls e) s.word + s.number =
      sum_push side e.id s.word ls l
      ∙ ap (λ (o : Option LineSum). sum_in side e.id s.word ls + number_by side e.id s.word o) is
      ∙ ap (λ (n : ℕ). sum_in side e.id s.word ls + n) (own_number (same_side s.side side) (s.id == e.id) s.word s.number two.0)
      ∙ ap (λ (n : ℕ). n + s.number) (sym number) in
      at_least (number_of (sums_by side ls e) s.word) s.number (2 ^ 64) (not_lt (number_of (sums_by side ls e) s.word + s.number) (2 ^ 64) two.1)
      (sum_in side e.id s.word (ls ++ l ∷ [])) more

  one_of : (side : Side) (e : EndpointConfig) (es : List EndpointConfig) (b : Bool) → has_room s (sums_by side ls e) ≡ b
      → (b && list_all (has_room s) (map (sums_by side ls) es)) ≡ false → (list_all (has_room s) (map (sums_by side ls) es) ≡ false → IsOver side s.word (ls ++ l ∷ []) es)
      → IsOver side s.word (ls ++ l ∷ []) (e ∷ es)
  one_of side e es true room full more = inr (more full)
  one_of side e es false room full more = inl (over_by side e room)

  some_over : (side : Side) (es : List EndpointConfig) → list_all (has_room s) (map (sums_by side ls) es) ≡ false → IsOver side s.word (ls ++ l ∷ []) es
  some_over side [] full = absurd (let h : true ≡ false = full in cc)
  some_over side (e ∷ es) full = one_of side e es (has_room s (sums_by side ls e)) refl full (some_over side es)

  either : (a b : Bool) → (a && b) ≡ false → (a ≡ false) ⊎ (b ≡ false)
  either true b h = inr h
  either false b h = inl refl

  pub no_room : (es : List EndpointConfig) (old : ReasonSums) → list_all (has_room s) old.all.items ≡ false → AreSums es ls old → DoNotFit es (ls ++ l ∷ [])
  unfolding AreSums sums_after
  no_room es old full are =
      let all : (list_all (has_room s) (map (sums_by Ru ls) es) && list_all (has_room s) (map (sums_by Du ls) es)) ≡ false =
      sym (list_all-append (has_room s) (map (sums_by Ru ls) es) (map (sums_by Du ls) es)) ∙ ap (list_all (has_room s)) (sym are) ∙ full in
      elim (either (list_all (has_room s) (map (sums_by Ru ls) es)) (list_all (has_room s) (map (sums_by Du ls) es)) all) [
        | inl radio ↦ record { side = Ru; word = s.word; over = some_over Ru es radio }
        | inr distributed ↦ record { side = Du; word = s.word; over = some_over Du es distributed }
      ]
