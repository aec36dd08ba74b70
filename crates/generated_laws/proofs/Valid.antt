-- A generated plan is valid.
use Rattle.std.proofs.Common.{◌≡◌, ℕ, inl, inr, List, [], Option, refl, ap₂, sym, ap, ◌∙◌, subst, arith}
use Rattle.std.proofs.lemmas.Int.{ints}
use Rattle.fh_base.specs.Numbering.{ordinary_at}
use Rattle.fh_base.specs.declared.numerology.Numerology.{Numerology}
use Rattle.fh_base.specs.declared.spacing.Spacing.TheVariants.{Khz30}
use Rattle.window_config.specs.declared.endpoints.EndpointConfig.{EndpointConfig}
use Rattle.fh_base.specs.Lists.{or_else}
use Rattle.plan_model.specs.Dense.{dense, down_distance, up_distance}
use Rattle.plan_model.specs.Valid.{dense_refused}
use Rattle.plan_model.specs.declared.dense.Dense.{Dense}
use Rattle.plan_model.specs.declared.lines.PlannedLine.{PlannedLine}
use Rattle.plan_model.specs.declared.refusals.PlanWhy.{PlanWhy}
use Rattle.plan_model.specs.declared.streams.Stream.TheVariants.{DownData, UpData}
use Rattle.generated_laws.specs.Plans.{config, four, GeneratedPlansAreValid}
use Rattle.generated_laws.specs.Sparse.{HasRoom, IsSpaced, IsSparse}
use Rattle.generated_laws.proofs.Lines.{all_alone, none_refused, numerology_is, placed_from, planned_is}
use Rattle.generated_laws.proofs.Spaced.{khz30_spaced}
use Rattle.generated_laws.proofs.Sparse.{not_dense}
use Rattle.fh_base.specs.Members.{IsIn}

one_numerology : (e : EndpointConfig) → IsIn e four → e.numerology ≡ ordinary_at Khz30
one_numerology e (inl here) = ap (λ (f : EndpointConfig). f.numerology) here
one_numerology e (inr (inl here)) = ap (λ (f : EndpointConfig). f.numerology) here
one_numerology e (inr (inr (inl here))) = ap (λ (f : EndpointConfig). f.numerology) here
one_numerology e (inr (inr (inr (inl here)))) = ap (λ (f : EndpointConfig). f.numerology) here
one_numerology e (inr (inr (inr (inr there)))) = absurd there

down_room : HasRoom config DownData 53200000 (down_distance config.delays)
down_room = omega (arith, ints)

up_room : HasRoom config UpData 53200000 (up_distance config.delays)
up_room = omega (arith, ints)

pub sparse : (slots : ℕ) → IsSparse config (placed_from 0 0 slots) 53200000
sparse slots = record {
  single = refl;
  spaced = λ e m. subst (λ (n : Numerology). IsSpaced n 53200000) (sym (one_numerology e m)) khz30_spaced;
  placed = λ e m p i. numerology_is 0 0 slots p i ∙ sym (one_numerology e m);
  down = all_alone DownData 0 0 slots;
  up = all_alone UpData 0 0 slots;
  down_room = down_room;
  up_room = up_room;
}

pub are_valid : GeneratedPlansAreValid
are_valid slots =
    ap₂ (λ (x : Option (ℕ × PlanWhy)) (d : Option Dense). or_else x (dense_refused d))
    (none_refused [] 0 0 slots (λ b m. absurd m))
    (ap (λ (ps : List PlannedLine). dense config ps) (planned_is 0 0 slots) ∙ not_dense config (placed_from 0 0 slots) 53200000 (sparse slots))
