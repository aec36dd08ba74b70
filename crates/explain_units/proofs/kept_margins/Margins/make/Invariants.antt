use Rattle.std.proofs.Common.{◌≡◌, map, take}
use Rattle.explain_units.specs.Margins.{no_margins}
use Rattle.explain_units.proofs.kept_margins.Margins.make.Given as goal

abbrev pub invariant-loop-endpoint : goal.invariant-loop-endpoint
invariant-loop-endpoint l = l.all.items ≡ map no_margins (take l.endpoint-index l.config.endpoints)
