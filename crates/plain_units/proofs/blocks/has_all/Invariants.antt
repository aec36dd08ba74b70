use Rattle.std.proofs.Common.{◌≡◌, ◌+◌, ◌-◌}
use Rattle.unit_model.specs.Blocks.{has_all, first_data_prb, data_prb_count}
use Rattle.fh_base.specs.Lists.{every}
use Rattle.plain_units.proofs.BlockLemmas.{cell_has}
use Rattle.plain_units.proofs.blocks.has_all.Given as goal

abbrev pub invariant-loop-prb : goal.invariant-loop-prb
invariant-loop-prb l =
    has_all l.timely l.d ≡ every l.prb (first_data_prb l.d + data_prb_count l.d - l.prb) (cell_has l.timely l.d)
