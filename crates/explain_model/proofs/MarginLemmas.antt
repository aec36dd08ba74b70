-- What one more arrival, and one more section, adds.
use Rattle.std.proofs.Common.{◌≡◌, ℕ, ◌+◌, Bool, false, List, [], ◌∷◌, ◌++◌, length, map, max, refl, sym, ap, ◌∙◌, append_assoc, append-nil, length-append, arith}
use Rattle.std.specs.Prelude.{ℤ, if◌then◌else◌, filter}
use Rattle.std.specs.Int.{int_min}
use Rattle.std.specs.List.{flat_map}
use Rattle.std.proofs.lemmas.Grind.{flat_map-append, fold-append}
use Rattle.std.proofs.lemmas.List.{map-append}
use Rattle.std.proofs.lemmas.List.Elements.{filter-append}
use Rattle.fh_base.proofs.Orders.{not_none}
use Rattle.air_source.specs.Units.{same_side}
use Rattle.air_source.specs.declared.events.Event.{Event}
use Rattle.air_source.specs.declared.events.Side.{Side}
use Rattle.window_config.specs.declared.config.Config.{Config}
use Rattle.window_config.specs.declared.verdicts.Class.{Class}
use Rattle.window_config.specs.declared.verdicts.Class.TheVariants.{OnTime, Late, Early}
use Rattle.fh_base.specs.Lists.{onto}
use Rattle.unit_model.specs.Judgements.{Judgement}
use Rattle.explain_model.specs.declared.places.Timing.{Timing}
use Rattle.explain_model.specs.declared.values.Margin.{Margin}
use Rattle.explain_model.specs.Growing.{JudgedGoOn, MarginsGoOn, margin_by}
use Rattle.explain_model.specs.Judged.{judged_after, judged_before}
use Rattle.explain_model.specs.Margins.{Dated, dated, dated_in, early_by, greatest, late_by, least, margin_from, margin_of, same_class, timings}
use Rattle.explain_model.specs.Sections.{judged_lines, judgement_lines}
use Rattle.explain_model.specs.Stories.{Story, Told, Came, Cell, Delay, Count, stories_in, told, told_of}
use Rattle.explain_model.proofs.StoryLemmas.{one, stories_both}

-- ---- what was judged

pub after_both : (side : Side) (before : List Judgement) (xs ys : List Told) → judged_after side before (xs ++ ys) ≡ judged_after side (judged_after side before xs) ys
unfolding judged_after
after_both side before [] ys = refl
after_both side before (Came s ∷ xs) ys = after_both side (if same_side s.side side then onto before s.judged else before) xs ys
after_both side before (Cell a ∷ xs) ys = after_both side before xs ys
after_both side before (Delay at at_side id value ∷ xs) ys = after_both side before xs ys
after_both side before (Count at_side counter value ∷ xs) ys = after_both side before xs ys

one_arrival : (side : Side) (before : List Judgement) (s : Story) → judged_after side before (Came s ∷ []) ≡ (if same_side s.side side then onto before s.judged else before)
unfolding judged_after
one_arrival side before s = refl

pub lines_both : (c : Config) (side : Side) (number : ℕ) (before xs ys : List Judgement)
    → judged_lines c side number before (xs ++ ys) ≡ judged_lines c side number before xs ++ judged_lines c side number (onto before xs) ys
unfolding judged_lines onto
lines_both c side number before [] ys = refl
lines_both c side number before (x ∷ xs) ys =
    ap (λ rest. judgement_lines c side number before x ++ rest) (lines_both c side number (x ∷ before) xs ys)
    ∙ sym (append_assoc (judgement_lines c side number before x) (judged_lines c side number (x ∷ before) xs) (judged_lines c side number (onto (x ∷ before) xs) ys))

one_judgement : (c : Config) (side : Side) (number : ℕ) (before : List Judgement) (j : Judgement) → judged_lines c side number before (j ∷ []) ≡ judgement_lines c side number before j
unfolding judged_lines
one_judgement c side number before j = append-nil (judgement_lines c side number before j)

dated_one : (side : Side) (c : Config) (events : List Event) (e : Event)
    → dated side c (events ++ e ∷ []) ≡ dated side c events ++ flat_map (dated_in side c.delays) (stories_in (told_of c events e ∷ []))
unfolding dated
dated_one side c events e =
    ap (λ ts. flat_map (dated_in side c.delays) (stories_in ts)) (one c events e)
    ∙ ap (flat_map (dated_in side c.delays)) (stories_both (told c events) (told_of c events e ∷ []))
    ∙ flat_map-append (dated_in side c.delays) (stories_in (told c events)) (stories_in (told_of c events e ∷ []))

pub judged_go_on : JudgedGoOn
judged_go_on = record {
  on_arrival = λ side ts s. after_both side [] ts (Came s ∷ []) ∙ one_arrival side (judged_before side ts) s;
  on_lines = λ c side number before xs j. lines_both c side number before xs (j ∷ []) ∙ ap (λ rest. judged_lines c side number before xs ++ rest) (one_judgement c side number (onto before xs) j);
  on_dated = dated_one;
}

-- ---- a margin

-- the timings of one class, of which one more is there or not
abbrev one_timing : Class → Class → Timing → List Timing
one_timing class kind t = if same_class class kind then t ∷ [] else []

one_filtered : (class kind : Class) (d : Dated) → d.class ≡ class → map (λ (d : Dated). d.timing) (filter (λ (d : Dated). same_class d.class kind) (d ∷ [])) ≡ one_timing class kind d.timing
one_filtered OnTime OnTime d is = rw is refl
one_filtered OnTime Late d is = rw is refl
one_filtered OnTime Early d is = rw is refl
one_filtered Late OnTime d is = rw is refl
one_filtered Late Late d is = rw is refl
one_filtered Late Early d is = rw is refl
one_filtered Early OnTime d is = rw is refl
one_filtered Early Late d is = rw is refl
one_filtered Early Early d is = rw is refl

timings_more : (kind : Class) (ds : List Dated) (d : Dated) → timings kind (ds ++ d ∷ []) ≡ timings kind ds ++ one_timing d.class kind d.timing
timings_more kind ds d =
    ap (map (λ (d : Dated). d.timing)) (filter-append (λ (d : Dated). same_class d.class kind) ds (d ∷ []))
    ∙ map-append (λ (d : Dated). d.timing) (filter (λ (d : Dated). same_class d.class kind) ds) (filter (λ (d : Dated). same_class d.class kind) (d ∷ []))
    ∙ ap (λ rest. timings kind ds ++ rest) (one_filtered d.class kind d refl)

least_more : (x y : ℤ) (xs : List ℤ) → least (x ∷ (xs ++ y ∷ [])) ≡ int_min (least (x ∷ xs)) y
least_more x y xs = fold-append int_min x xs (y ∷ [])

greatest_more : (f : Timing → ℕ) (ts : List Timing) (t : Timing) → greatest (map f (ts ++ t ∷ [])) ≡ max (greatest (map f ts)) (f t)
greatest_more f ts t = ap greatest (map-append f ts (t ∷ [])) ∙ fold-append max 0 (map f ts) (f t ∷ [])

-- one more on time, with none before it or not
abbrev least_by : Bool → Margin → Timing → Margin
least_by none m t = record m { ontime = m.ontime + 1; least = if none then t else record { since = int_min m.least.since t.since; until = int_min m.least.until t.until } }

ontime_more : (o l e : List Timing) (t : Timing) → margin_from (o ++ t ∷ []) l e ≡ margin_by OnTime (margin_from o l e) t
ontime_more [] l e t = refl
ontime_more (x ∷ xs) l e t =
    let first = ap (λ r. least (x.since ∷ r)) (map-append (λ (t : Timing). t.since) xs (t ∷ [])) ∙ least_more x.since t.since (map (λ t. t.since) xs) in
    let last = ap (λ r. least (x.until ∷ r)) (map-append (λ (t : Timing). t.until) xs (t ∷ [])) ∙ least_more x.until t.until (map (λ t. t.until) xs) in
    let one_more : margin_from ((x ∷ xs) ++ t ∷ []) l e ≡ least_by false (margin_from (x ∷ xs) l e) t = λ i. record {
      ontime = length-append (x ∷ xs) (t ∷ []) i;
      least = record { since = first i; until = last i };
      late = length l;
      late_by = greatest (map late_by l);
      early = length e;
      early_by = greatest (map early_by e);
    } in
    one_more ∙ ap (λ b. least_by b (margin_from (x ∷ xs) l e) t) (sym (not_none (length (x ∷ xs)) (omega arith)))

late_more : (o l e : List Timing) (t : Timing) → margin_from o (l ++ t ∷ []) e ≡ margin_by Late (margin_from o l e) t
late_more o l e t =
    let most = greatest_more late_by l t in
    λ i. record (margin_from o l e) { late = length-append l (t ∷ []) i; late_by = most i }

early_more : (o l e : List Timing) (t : Timing) → margin_from o l (e ++ t ∷ []) ≡ margin_by Early (margin_from o l e) t
early_more o l e t =
    let most = greatest_more early_by e t in
    λ i. record (margin_from o l e) { early = length-append e (t ∷ []) i; early_by = most i }

by_class : (class : Class) (o l e : List Timing) (t : Timing)
    → margin_from (o ++ one_timing class OnTime t) (l ++ one_timing class Late t) (e ++ one_timing class Early t) ≡ margin_by class (margin_from o l e) t
by_class OnTime o l e t = ap (λ a. margin_from (o ++ t ∷ []) a (e ++ [])) (append-nil l) ∙ ap (λ a. margin_from (o ++ t ∷ []) l a) (append-nil e) ∙ ontime_more o l e t
by_class Late o l e t = ap (λ a. margin_from a (l ++ t ∷ []) (e ++ [])) (append-nil o) ∙ ap (λ a. margin_from o (l ++ t ∷ []) a) (append-nil e) ∙ late_more o l e t
by_class Early o l e t = ap (λ a. margin_from a (l ++ []) (e ++ t ∷ [])) (append-nil o) ∙ ap (λ a. margin_from o a (e ++ t ∷ [])) (append-nil l) ∙ early_more o l e t

pub margins_go_on : MarginsGoOn
unfolding margin_of
margins_go_on ds d =
    ap (λ a. margin_from a (timings Late (ds ++ d ∷ [])) (timings Early (ds ++ d ∷ []))) (timings_more OnTime ds d)
    ∙ ap (λ a. margin_from (timings OnTime ds ++ one_timing d.class OnTime d.timing) a (timings Early (ds ++ d ∷ []))) (timings_more Late ds d)
    ∙ ap (λ a. margin_from (timings OnTime ds ++ one_timing d.class OnTime d.timing) (timings Late ds ++ one_timing d.class Late d.timing) a) (timings_more Early ds d)
    ∙ by_class d.class (timings OnTime ds) (timings Late ds) (timings Early ds) d.timing
