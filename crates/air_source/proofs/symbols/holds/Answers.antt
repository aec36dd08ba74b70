use Rattle.std.proofs.Common.{ap, sym, ◌∙◌}
use Rattle.std.specs.Prelude.{Some}
use Rattle.air_source.proofs.CellParts.{same_is}
use Rattle.air_source.proofs.symbols.holds.Goals as goal

pub returns-in-Some : goal.returns-in-Some
returns-in-Some c = λ h. c.in-Some.is ∙ ap Some (same_is c.in-Some.other c.args.symbol.now (sym c.same_symbol.ensures ∙ h))
