-- The counters of the verdicts add up.
use Rattle.std.proofs.Common.{[], ◌∷◌, refl, arith}
use Rattle.unit_model.specs.declared.verdicts.CommandVerdict.TheVariants as control
use Rattle.unit_model.specs.declared.verdicts.DataVerdict.TheVariants as user
use Rattle.unit_laws.specs.Totals.{CommandsAddUp, DataAddUp}

pub commands_add_up : CommandsAddUp
commands_add_up [] = refl
commands_add_up (control.Mismatch ∷ vs) = omega (arith, commands_add_up vs)
commands_add_up (control.Late ∷ vs) = omega (arith, commands_add_up vs)
commands_add_up (control.Early ∷ vs) = omega (arith, commands_add_up vs)
commands_add_up (control.Range ∷ vs) = omega (arith, commands_add_up vs)
commands_add_up (control.Repeat ∷ vs) = omega (arith, commands_add_up vs)
commands_add_up (control.Overlap ∷ vs) = omega (arith, commands_add_up vs)
commands_add_up (control.Full ∷ vs) = omega (arith, commands_add_up vs)
commands_add_up (control.Accepted ∷ vs) = omega (arith, commands_add_up vs)

pub data_add_up : DataAddUp
data_add_up [] = refl
data_add_up (user.Late ∷ vs) = omega (arith, data_add_up vs)
data_add_up (user.Early ∷ vs) = omega (arith, data_add_up vs)
data_add_up (user.Repeat ∷ vs) = omega (arith, data_add_up vs)
data_add_up (user.Taken ∷ vs) = omega (arith, data_add_up vs)
