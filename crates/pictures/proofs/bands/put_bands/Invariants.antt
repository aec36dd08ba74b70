use Rattle.std.proofs.Common.{◌≡◌, ◌++◌, ◌+◌, ◌*◌, ◌≤◌, drop}
use Rattle.pictures.specs.Bands.{bands_text}
use Rattle.pictures.proofs.bands.put_bands.Given as goal

abbrev pub invariant-loop-e : goal.invariant-loop-e
invariant-loop-e l = record {
  small : l.y ≤ 62 + l.e-index * 1048584;
  says : l.to ++ bands_text l.span l.y (drop l.e-index l.endpoints) ≡ l.initial.to ++ bands_text l.span 62 l.endpoints;
}
