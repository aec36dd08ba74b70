-- Of the lines of a valid plan.
use Rattle.std.proofs.Common.{◌≡◌, ℕ, List, ap, refl, subst, sym, ◌∙◌}
use Rattle.std.specs.Prelude.{map}
use Rattle.fh_base.specs.declared.values.Slot.{Slot}
use Rattle.window_config.specs.declared.endpoints.EndpointConfig.{EndpointConfig}
use Rattle.du_intake.specs.Lines.{line_of, lines_at}
use Rattle.du_intake.specs.Listing.{AreInTurn}
use Rattle.du_intake.specs.Symbols.{AreLines}
use Rattle.du_intake.specs.declared.lines.UplinkLine.{UplinkLine}
use Rattle.du_intake.specs.declared.plan.UplinkPlan.{UplinkPlan}
use Rattle.du_intake.proofs.PlanLemmas.{are_lines, is_listed}
use Rattle.du_intake.proofs.plan.UplinkPlan.make.Goals as goal
use Rattle.plan_model.specs.Lines.{uplink_allocations}

pub planned_symbols-requires-clause-lines : goal.planned_symbols-requires-clause-lines
planned_symbols-requires-clause-lines c =
    let kept = c.shrink_to_fit.new.self.items in
    let homes : (ep : ℕ) (slot : Slot) → lines_at ep slot kept ≡ lines_at ep slot (map line_of (uplink_allocations c.args.planned.now)) =
    λ ep slot. ap (lines_at ep slot) c.shrink_to_fit.ensures.items ∙ c.sort_by_home.ensures.homes ep slot ∙ ap (lines_at ep slot) c.in_ok-lines.ensures in
    subst (λ (es : List EndpointConfig). AreLines es c.deref.result.now) (sym c.as_slice.ensures.items)
    (subst (AreLines c.args.config.now.endpoints) (sym c.deref.ensures.value)
    (are_lines c.args.config.now c.args.planned.now c.requires.config c.requires.plan kept homes))

pub returns : goal.returns
returns c =
    let kept = c.shrink_to_fit.new.self.items in
    let homes : (ep : ℕ) (slot : Slot) → lines_at ep slot kept ≡ lines_at ep slot (map line_of (uplink_allocations c.args.planned.now)) =
    λ ep slot. ap (lines_at ep slot) c.shrink_to_fit.ensures.items ∙ c.sort_by_home.ensures.homes ep slot ∙ ap (lines_at ep slot) c.in_ok-lines.ensures in
    is_listed c.args.config.now c.args.planned.now c.requires.config c.requires.plan kept homes
    (let p : UplinkPlan = record { lines = c.shrink_to_fit.new.self; symbols = c.in_ok-symbols.symbols } in p) refl
    (subst (λ (es : List EndpointConfig). AreInTurn es kept c.in_ok-symbols.symbols.items) c.as_slice.ensures.items
    (subst (λ (ls : List UplinkLine). AreInTurn c.as_slice.result.now ls c.in_ok-symbols.symbols.items) c.deref.ensures.value c.in_ok-symbols.ensures))
