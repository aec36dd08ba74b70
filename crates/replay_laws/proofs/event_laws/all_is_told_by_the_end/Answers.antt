use Rattle.unit_laws.proofs.EndLemmas.{cells_end, jobs_end}
use Rattle.replay_laws.proofs.EndLemmas.{no_cell_is_left, no_message_is_left, planned_cells_end}
use Rattle.replay_laws.proofs.event_laws.all_is_told_by_the_end.Goals as goal

pub returns : goal.returns
returns c = record {
  cells = cells_end;
  jobs = jobs_end;
  planned = planned_cells_end;
  due = no_cell_is_left;
  given = no_message_is_left;
}
