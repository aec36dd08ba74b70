-- The sums with one line more.
use Rattle.std.proofs.Common.{◌≡◌, ℕ, zero, suc, ◌+◌, ◌<◌, Bool, true, false, List, [], ◌∷◌, ◌++◌, length, get_or, take, drop, map, refl, sym, ap, ap₂, ◌∙◌, arith}
use Rattle.std.specs.Prelude.{◌==◌, ◌&&◌, if◌then◌else◌, Option, Some, None, slice_index, slice_set}
use Rattle.std.specs.List.{list_all}
use Rattle.std.proofs.lemmas.Bool.{and_parts}
use Rattle.std.proofs.lemmas.List.{map-append}
use Rattle.air_source.specs.Units.{same_side}
use Rattle.air_source.specs.declared.events.Side.{Side}
use Rattle.air_source.specs.declared.events.Side.TheVariants.{Ru, Du}
use Rattle.window_config.specs.declared.endpoints.EndpointConfig.{EndpointConfig}
use Rattle.explain_model.specs.declared.reasons.ReasonWord.TheVariants.{Other, Late, Early, Refused, WrongWay, Repeated, Unfinished, CommandMismatch, CommandLate, CommandEarly, CommandRange, CommandRepeat, CommandOverlap, CommandFull, NoData, NoCommand}
use Rattle.explain_model.specs.declared.values.ExplainLine.{ExplainLine}
use Rattle.why_lines.specs.Counting.{added, is_of, none_of}
use Rattle.why_lines.specs.Sums.{AreSums, number_by, sum_in, sum_of_line, sums_after, sums_by}
use Rattle.why_lines.specs.Words.{all_words, place_in_sums, same_sum}
use Rattle.why_lines.specs.declared.line_sums.LineSum.{LineSum}
use Rattle.why_lines.specs.declared.sums.ReasonSums.{ReasonSums}
use Rattle.why_lines.specs.declared.unit_sums.UnitSums.{UnitSums}
use Rattle.why_lines.specs.declared.words.SumWord.{SumWord}
use Rattle.why_lines.specs.declared.words.SumWord.TheVariants.{Shown, Missing, Silent}

pub map_same : {A B : Type 0} (f g : A → B) → ((x : A) → f x ≡ g x) → (xs : List A) → map f xs ≡ map g xs
map_same f g same [] = refl
map_same f g same (x ∷ xs) = ap₂ ◌∷◌ (same x) (map_same f g same xs)

-- ---- one number more

abbrev raised : (SumWord → ℕ) → SumWord → ℕ → List ℕ
raised f w n = slice_set (map f all_words) (place_in_sums w) (slice_index (map f all_words) (place_in_sums w) + n)

abbrev raised_all : (SumWord → ℕ) → SumWord → ℕ → List ℕ
raised_all f w n = map (λ v. if same_sum w v then f v + n else f v) all_words

raised_is : (f : SumWord → ℕ) (w : SumWord) (n : ℕ) → raised f w n ≡ raised_all f w n
raised_is f Shown n = refl
raised_is f (Missing Other) n = refl
raised_is f (Missing Late) n = refl
raised_is f (Missing Early) n = refl
raised_is f (Missing Refused) n = refl
raised_is f (Missing WrongWay) n = refl
raised_is f (Missing Repeated) n = refl
raised_is f (Missing Unfinished) n = refl
raised_is f (Missing CommandMismatch) n = refl
raised_is f (Missing CommandLate) n = refl
raised_is f (Missing CommandEarly) n = refl
raised_is f (Missing CommandRange) n = refl
raised_is f (Missing CommandRepeat) n = refl
raised_is f (Missing CommandOverlap) n = refl
raised_is f (Missing CommandFull) n = refl
raised_is f (Missing NoData) n = refl
raised_is f (Missing NoCommand) n = refl
raised_is f (Silent Other) n = refl
raised_is f (Silent Late) n = refl
raised_is f (Silent Early) n = refl
raised_is f (Silent Refused) n = refl
raised_is f (Silent WrongWay) n = refl
raised_is f (Silent Repeated) n = refl
raised_is f (Silent Unfinished) n = refl
raised_is f (Silent CommandMismatch) n = refl
raised_is f (Silent CommandLate) n = refl
raised_is f (Silent CommandEarly) n = refl
raised_is f (Silent CommandRange) n = refl
raised_is f (Silent CommandRepeat) n = refl
raised_is f (Silent CommandOverlap) n = refl
raised_is f (Silent CommandFull) n = refl
raised_is f (Silent NoData) n = refl
raised_is f (Silent NoCommand) n = refl

one_more : (b : Bool) (m n : ℕ) → (if b then m + n else m) ≡ m + (let k : ℕ = if b then n else 0 in k)
one_more true m n = refl
one_more false m n = omega arith

same_more : (m : ℕ) → m ≡ m + 0
same_more m = omega arith

by_words : (a b : Bool) (f : SumWord → ℕ) (w : SumWord) (n : ℕ)
    → (if a && b then raised f w n else map f all_words) ≡ map (λ v. f v + (let k : ℕ = if a && (b && same_sum w v) then n else 0 in k)) all_words
by_words true true f w n = raised_is f w n ∙ map_same _ _ (λ v. one_more (same_sum w v) (f v) n) all_words
by_words true false f w n = map_same f (λ v. f v + 0) (λ v. same_more (f v)) all_words
by_words false b f w n = map_same f (λ v. f v + 0) (λ v. same_more (f v)) all_words

-- ---- one line more

pub sum_push : (side : Side) (id : ℕ) (word : SumWord) (ls : List ExplainLine) (l : ExplainLine)
    → sum_in side id word (ls ++ l ∷ []) ≡ sum_in side id word ls + number_by side id word (sum_of_line l)
unfolding sum_in
sum_push side id word [] l = omega arith
sum_push side id word (k ∷ ls) l = let rest = sum_push side id word ls l in omega (arith, rest)

added_is : (b : Bool) (m : UnitSums) (ns : List ℕ) → (if b then record m { numbers = ns } else m) ≡ record { side = m.side; id = m.id; numbers = if b then ns else m.numbers }
added_is true m ns = refl
added_is false m ns = refl

abbrev sums_with : Side → ℕ → List ℕ → UnitSums
sums_with side id ns = record { side = side; id = id; numbers = ns }

module _ (ls : List ExplainLine) (l : ExplainLine) where
  module _ (s : LineSum) (is : sum_of_line l ≡ Some s) where
    added_one : (side : Side) (e : EndpointConfig) → added s (sums_by side ls e) ≡ sums_by side (ls ++ l ∷ []) e
    added_one side e =
        let f : SumWord → ℕ = λ w. sum_in side e.id w ls in
        added_is (is_of (sums_by side ls e) s) (sums_by side ls e) (raised f s.word s.number)
        ∙ ap (sums_with side e.id) (by_words (same_side s.side side) (s.id == e.id) f s.word s.number
        ∙ map_same _ _ (λ v. sym (sum_push side e.id v ls l ∙ ap (λ (o : Option LineSum). f v + number_by side e.id v o) is)) all_words)

    added_each : (side : Side) (es : List EndpointConfig) → map (added s) (map (sums_by side ls) es) ≡ map (sums_by side (ls ++ l ∷ [])) es
    added_each side [] = refl
    added_each side (e ∷ es) = ap₂ ◌∷◌ (added_one side e) (added_each side es)

    -- a line that tells of some
    pub with_line : (es : List EndpointConfig) (old new : ReasonSums) → new.all.items ≡ map (added s) old.all.items → AreSums es ls old → AreSums es (ls ++ l ∷ []) new
    unfolding AreSums sums_after
    with_line es old new more are =
        more
        ∙ ap (map (added s)) are
        ∙ map-append (added s) (map (sums_by Ru ls) es) (map (sums_by Du ls) es)
        ∙ ap₂ ◌++◌ (added_each Ru es) (added_each Du es)

  -- a line that tells of none
  module _ (none : sum_of_line l ≡ None) where
    same_one : (side : Side) (e : EndpointConfig) → sums_by side ls e ≡ sums_by side (ls ++ l ∷ []) e
    same_one side e =
        ap (sums_with side e.id)
        (map_same _ _ (λ v. same_more (sum_in side e.id v ls) ∙ sym (sum_push side e.id v ls l ∙ ap (λ (o : Option LineSum). sum_in side e.id v ls + number_by side e.id v o) none)) all_words)

    pub without_line : (es : List EndpointConfig) (old : ReasonSums) → AreSums es ls old → AreSums es (ls ++ l ∷ []) old
    unfolding AreSums sums_after
    without_line es old are = are ∙ ap₂ ◌++◌ (map_same _ _ (same_one Ru) es) (map_same _ _ (same_one Du) es)

-- ---- no line

no_line : (side : Side) (e : EndpointConfig) → none_of side e ≡ sums_by side [] e
unfolding sum_in
no_line side e = refl

pub none_yet : (es : List EndpointConfig) (s : ReasonSums) → s.all.items ≡ map (none_of Ru) es ++ map (none_of Du) es → AreSums es [] s
unfolding AreSums sums_after
none_yet es s is = is ∙ ap₂ ◌++◌ (map_same _ _ (no_line Ru) es) (map_same _ _ (no_line Du) es)

-- ---- each with a line more

list_step : {A : Type 0} (p : A → Bool) (x : A) (xs : List A) → (p x && list_all p xs) ≡ true → (p x ≡ true) × (list_all p xs ≡ true)
list_step p x xs h = and_parts (p x) (list_all p xs) h

passes : {A : Type 0} (p : A → Bool) (xs : List A) (i : ℕ) (d : A) → i < length xs → list_all p xs ≡ true → p (get_or xs i d) ≡ true
passes p [] i d lt h = absurd (omega arith)
passes p (x ∷ xs) zero d lt h = (list_step p x xs h).0
passes p (x ∷ xs) (suc i) d lt h = passes p xs i d (omega arith) (list_step p x xs h).1

-- an element that is not changed yet
untouched : {A : Type 0} (f : A → A) (xs : List A) (i : ℕ) (d : A) → i < length xs → get_or (map f (take i xs) ++ drop i xs) i d ≡ get_or xs i d
untouched f [] i d lt = absurd (omega arith)
untouched f (x ∷ xs) zero d lt = refl
untouched f (x ∷ xs) (suc i) d lt = untouched f xs i d (omega arith)

pub passes_there : {A : Type 0} (p : A → Bool) (f : A → A) (xs ys : List A) (i : ℕ) (x : A) → i < length xs → ys ≡ map f (take i xs) ++ drop i xs → x ≡ get_or ys i x
    → list_all p xs ≡ true → p x ≡ true
passes_there p f xs ys i x lt is here h =
    ap p (here ∙ ap (λ zs. get_or zs i x) is ∙ untouched f xs i x lt) ∙ passes p xs i x lt h
