-- Compensations of a unit, as the tests give them.
use Rattle.std.specs.Prelude.{pos}
use Rattle.delay_measure.specs.declared.edge.Compensation.{Compensation}

-- none at either edge
abbrev pub no_compensation : Compensation
no_compensation = record { sending = pos 0; receiving = pos 0 }
