-- One more cell in the definition is one more in the list of combined cells.
use Rattle.std.proofs.Common.{◌∙◌}
use Rattle.std.proofs.lemmas.Result.{on_ok_weaker, on_err_weaker}
use Rattle.shared_cell.proofs.Lifted.{joined_at-same, none_with}
use Rattle.shared_cell.proofs.mixing.Mixer.add.Goals as goal

pub returns-clause-ok : goal.returns-clause-ok
returns-clause-ok c =
    on_ok_weaker c.put.result (λ put cells stands. put ∙ joined_at-same c.args.self.now c.requires.cells cells c.args.c.now c.requires.stands c.requires.follows stands) c.put.ensures.ok

pub returns-clause-refused : goal.returns-clause-refused
returns-clause-refused c = λ cells stands. on_err_weaker c.put.result (none_with c.args.self.now cells c.args.c.now stands) c.put.ensures.refused
