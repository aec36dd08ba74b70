-- One more cell in the definition is one more in the list of combined cells.
use Rattle.std.proofs.Common.{◌∙◌}
use Rattle.std.proofs.lemmas.Result.{on_ok_weaker, on_err_weaker}
use Rattle.shared_cell.proofs.Lifted.{joined_at-same, none_with}
use Rattle.shared_cell.proofs.mixing.Mixer.try_add.Goals as goal

pub returns-in-Du-clause-follows : goal.returns-in-Du-clause-follows
returns-in-Du-clause-follows c = λ cells stands follows.
    on_ok_weaker c.put.result (λ put. put ∙ joined_at-same c.args.self.now cells cells c.args.c.now stands follows stands) c.put.ensures.ok

pub returns-in-Du-clause-refused : goal.returns-in-Du-clause-refused
returns-in-Du-clause-refused c = λ cells stands. on_err_weaker c.put.result (none_with c.args.self.now cells c.args.c.now stands) c.put.ensures.refused
