-- The run of cells that may go on.
use Rattle.std.proofs.Common.{◌≡◌, ◌+◌, true}
use Rattle.std.proofs.lemmas.Bool.{and_parts, eqb-true}
use Rattle.air_source.specs.declared.events.AirCell.{AirCell}
use Rattle.explain_model.specs.declared.values.CellWord.{CellWord}
use Rattle.explain_model.specs.Cells.{CellRun, extends, is_of_run, same_word}

-- a cell that goes on with a run has the PRB after it
pub next_prb : (r : CellRun) (a : AirCell) (w : CellWord) → extends r a w ≡ true → r.run.prb + r.run.num ≡ a.prb
next_prb r a w h =
    let parts = and_parts (is_of_run r a) _ h in
    eqb-true (r.run.prb + r.run.num) a.prb ((and_parts (same_word r.word w) _ parts.1).1)
