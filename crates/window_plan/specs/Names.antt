-- The names under which windows are printed.
use Rattle.std.specs.Prelude.{ℕ, List, codes}
use Rattle.window_plan.specs.declared.refusals.Window.{Window}
use Rattle.window_plan.specs.declared.refusals.Window.TheVariants.{Up, CpUl, Ta4, HoldDl, HoldUl}

abbrev pub name_of : Window → List ℕ
name_of Up = codes "up"
name_of CpUl = codes "cp-ul"
name_of Ta4 = codes "ta4"
name_of HoldDl = codes "hold-dl"
name_of HoldUl = codes "hold-ul"
