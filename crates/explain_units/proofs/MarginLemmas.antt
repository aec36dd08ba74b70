-- The lines of the margins that are kept are those of the sections.
use Rattle.std.proofs.Common.{◌≡◌, ℕ, suc, Bool, true, false, List, [], ◌∷◌, ◌++◌, length, refl, sym, ap, ap₂, ◌∙◌, arith}
use Rattle.std.specs.Prelude.{◌==◌, ◌||◌, not, if◌then◌else◌}
use Rattle.fh_base.proofs.Orders.{not_none}
use Rattle.air_source.specs.declared.events.Side.{Side}
use Rattle.explain_units.specs.Margins.{is_of_some, margins_after, margins_by}
use Rattle.explain_units.specs.declared.kept_margins.EndpointMargins.{EndpointMargins}
use Rattle.explain_model.specs.declared.places.Timing.{Timing}
use Rattle.explain_model.specs.declared.values.ExplainLine.{ExplainLine}
use Rattle.explain_model.specs.declared.values.ExplainLine.TheVariants as line
use Rattle.explain_model.specs.declared.values.Margin.{Margin}
use Rattle.explain_model.specs.declared.values.MarginClass.{MarginClass}
use Rattle.explain_model.specs.declared.values.MarginClass.TheVariants.{Down, Up, Data}
use Rattle.explain_model.specs.Margins.{Dated, dated_at, margin_line, margin_of, margins_at, margins_of, timings}
use Rattle.explain_units.specs.MarginLines.{class_said, margin_at, margin_said, margins_said}
use Rattle.window_config.specs.declared.endpoints.EndpointConfig.{EndpointConfig}
use Rattle.window_config.specs.declared.verdicts.Class.{Class}
use Rattle.window_config.specs.declared.verdicts.Class.TheVariants.{OnTime, Late, Early}

-- a number that is not 0
some_number : (n : ℕ) → not (suc n == 0) ≡ true
some_number n = ap not (not_none (suc n) (omega arith))

first_true : (a b c : Bool) → a ≡ true → (a || (b || c)) ≡ true
first_true a b c is = ap (λ (x : Bool). x || (b || c)) is

second_true : (a b c : Bool) → b ≡ true → (a || (b || c)) ≡ true
second_true true b c is = refl
second_true false b c is = ap (λ (x : Bool). x || c) is

third_true : (a b c : Bool) → c ≡ true → (a || (b || c)) ≡ true
third_true true b c is = refl
third_true false true c is = refl
third_true false false c is = is

-- a section is of one of the classes
some_class : (class : Class) (id : ℕ) (of : MarginClass) (t : Timing) (ds : List Dated)
    → is_of_some (margin_of ((let d : Dated = record { of = of; id = id; class = class; timing = t } in d) ∷ ds)) ≡ true
unfolding margin_of
some_class OnTime id of t ds =
    first_true (not (suc (length (timings OnTime ds)) == 0)) (not (length (timings Late ds) == 0)) (not (length (timings Early ds) == 0)) (some_number (length (timings OnTime ds)))
some_class Late id of t ds =
    second_true (not (length (timings OnTime ds) == 0)) (not (suc (length (timings Late ds)) == 0)) (not (length (timings Early ds) == 0)) (some_number (length (timings Late ds)))
some_class Early id of t ds =
    third_true (not (length (timings OnTime ds) == 0)) (not (length (timings Late ds) == 0)) (not (suc (length (timings Early ds)) == 0)) (some_number (length (timings Early ds)))

of_some : (d : Dated) (ds : List Dated) → is_of_some (margin_of (d ∷ ds)) ≡ true
of_some d ds = some_class d.class d.id d.of d.timing ds

of_none : is_of_some (margin_of []) ≡ false
unfolding margin_of
of_none = refl

one_line : (side : Side) (of : MarginClass) (id : ℕ) (ds : List Dated)
    → (let ls : List ExplainLine = if is_of_some (margin_of ds) then line.Margin side of id (margin_of ds) ∷ [] else [] in ls) ≡ margin_line side of id ds
one_line side of id [] = ap (λ (b : Bool). let ls : List ExplainLine = if b then line.Margin side of id (margin_of []) ∷ [] else [] in ls) of_none
one_line side of id (d ∷ ds) = ap (λ (b : Bool). let ls : List ExplainLine = if b then line.Margin side of id (margin_of (d ∷ ds)) ∷ [] else [] in ls) (of_some d ds)

at_class : (side : Side) (of : MarginClass) (e : EndpointConfig) (ds : List Dated) → margin_said side of (margins_by ds e) ≡ margin_line side of e.id (dated_at of e.id ds)
at_class side Down e ds = one_line side Down e.id (dated_at Down e.id ds)
at_class side Up e ds = one_line side Up e.id (dated_at Up e.id ds)
at_class side Data e ds = one_line side Data e.id (dated_at Data e.id ds)

of_class : (side : Side) (of : MarginClass) (es : List EndpointConfig) (ds : List Dated) → class_said side of (margins_after es ds) ≡ margins_of side of es ds
of_class side of [] ds = refl
of_class side of (e ∷ es) ds = ap₂ (λ (xs ys : List ExplainLine). xs ++ ys) (at_class side of e ds) (of_class side of es ds)

pub margins_are_told : (side : Side) (es : List EndpointConfig) (ds : List Dated) → margins_said side (margins_after es ds) ≡ margins_at side es ds
margins_are_told side es ds =
    ap₂ (λ (xs ys : List ExplainLine). xs ++ ys) (of_class side Down es ds)
    (ap₂ (λ (xs ys : List ExplainLine). xs ++ ys) (of_class side Up es ds) (of_class side Data es ds))

-- the line of a margin that is of a section
pub margin_is : (side : Side) (of : MarginClass) (m : EndpointMargins) (x : Margin) (b : Bool) → x ≡ margin_at of m → b ≡ is_of_some x → b ≡ true
    → line.Margin side of m.id x ∷ [] ≡ margin_said side of m
margin_is side of m x b x_is b_is holds =
    ap (λ (y : Margin). line.Margin side of m.id y ∷ []) x_is
    ∙ ap (λ (z : Bool). let ls : List ExplainLine = if z then line.Margin side of m.id (margin_at of m) ∷ [] else [] in ls) (sym holds ∙ b_is ∙ ap is_of_some x_is)
