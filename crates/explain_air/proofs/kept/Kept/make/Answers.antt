use Rattle.std.proofs.Common.{[], refl, ap, subst, sym, ◌∙◌}
use Rattle.air_source.specs.declared.events.Side.TheVariants.{Ru, Du}
use Rattle.explain_air.proofs.KeptLemmas.{before_all}
use Rattle.explain_air.specs.Notes.{AreNotes}
use Rattle.explain_units.specs.Units.{IsUnitAfter}
use Rattle.explain_records.specs.Records.{HaveHeard}
use Rattle.window_config.specs.Configs.{IsConfig}
use Rattle.window_config.specs.declared.config.Config.{Config}
use Rattle.explain_air.proofs.kept.Kept.make.Goals as goal

pub returns : goal.returns
returns c s config plan numbers =
    let same = sym config in
    before_all s _ (subst (λ (x : Config). IsConfig x) same c.requires) refl
    (subst (λ (x : Config). IsUnitAfter Ru x [] c.in_ok-ru.ru) same c.in_ok-ru.ensures) (subst (λ (x : Config). IsUnitAfter Du x [] c.in_ok-du.du) same c.in_ok-du.ensures) refl
    (subst (λ (x : Config). AreNotes x.endpoints [] c.in_ok-notes.notes) same c.in_ok-notes.ensures) (subst (λ (x : Config). HaveHeard x [] c.in_ok-records.records) same c.in_ok-records.ensures)
    plan numbers c.in_ok-last.ensures.frame (c.in_ok-last.ensures.endpoints ∙ ap (λ (x : Config). x.endpoints) same) (c.in_ok-last.ensures.delays ∙ ap (λ (x : Config). x.delays) same)
