-- Stream after stream.
use Rattle.std.proofs.Common.{[], ◌∷◌, ◌∙◌}
use Rattle.du_scheduler.proofs.TableLemmas.{join_three, runs_three}
use Rattle.du_scheduler.proofs.streams.add_endpoint.Goals as goal

pub returns-clause-streams : goal.returns-clause-streams
returns-clause-streams c = λ e at. record {
  down_commands = c.in_ok-down_commands.down_commands;
  up_commands = c.in_ok-up_commands.up_commands;
  down_data = c.in_ok-down_data.down_data;
  is = join_three c.args.streams.now.items (c.in_ok-down_commands.down_commands ∷ []) (c.in_ok-up_commands.up_commands ∷ []) (c.in_ok-down_data.down_data ∷ [])
      c.add.new.streams.items c.add-2.new.streams.items c.add-3.new.streams.items c.in_ok-add.ensures.streams c.in_ok-add-2.ensures.streams c.in_ok-add-3.ensures.streams;
  are_down_commands = c.in_ok-down_commands.ensures.parts e at;
  are_up_commands = c.in_ok-up_commands.ensures.parts e at;
  are_down_data = c.in_ok-down_data.ensures.parts e at;
}

pub returns-clause-runs : goal.returns-clause-runs
returns-clause-runs c = λ e at.
    runs_three c.args.runs.now.items _ _ _ _ _ _
    c.add.new.runs.items c.add-2.new.runs.items c.add-3.new.runs.items c.in_ok-add.ensures.runs c.in_ok-add-2.ensures.runs c.in_ok-add-3.ensures.runs
    (c.deref.ensures.value ∙ c.in_ok-down_commands.ensures.runs e at) (c.deref-2.ensures.value ∙ c.in_ok-up_commands.ensures.runs e at) (c.deref-3.ensures.value ∙ c.in_ok-down_data.ensures.runs e at)
