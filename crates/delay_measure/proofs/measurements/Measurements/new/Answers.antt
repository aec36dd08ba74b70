use Rattle.std.proofs.lemmas.List.{get_or-replicate}
use Rattle.delay_measure.specs.Table.{unused}
use Rattle.delay_measure.proofs.measurements.Measurements.new.Goals as goal

pub returns : goal.returns
returns c = λ id h. get_or-replicate 256 id unused unused h
