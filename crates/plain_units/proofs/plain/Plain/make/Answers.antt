use Rattle.std.proofs.Common.{length, ap, ◌∙◌}
use Rattle.std.proofs.lemmas.List.Elements.{All-nil, All-same}
use Rattle.unit_model.specs.Blocks.{timely, data_verdicts}
use Rattle.unit_model.specs.Commands.{accepted, command_verdicts}
use Rattle.unit_model.specs.Counts.{messages_counted, frames_counted}
use Rattle.unit_model.specs.Decoding.{data_sections}
use Rattle.unit_model.specs.Meetings.{commands, fragments}
use Rattle.unit_model.specs.Proper.{IsProperAllocation, IsProperData}
use Rattle.plain_units.proofs.plain.Plain.make.Goals as goal

pub returns : goal.returns
unfolding timely data_verdicts accepted command_verdicts messages_counted frames_counted data_sections commands fragments
returns c = record {
  fragments = c.in_ok-assembly.ensures.stands;
  came = All-nil _;
  endpoints = c.in_ok-assembly.ensures.endpoints ∙ ap length c.as_slice-endpoints.ensures.items;
  hold = c.in_ok-assembly.ensures.hold ∙ c.hold.ensures.value;
  accepted = c.new.ensures.items;
  commands = c.new-3.ensures;
  timely = c.new-2.ensures.items;
  user = c.new-4.ensures;
  counts = c.new-5.ensures.counted;
  allocations = All-same (IsProperAllocation c.args.config.now.endpoints) _ _ c.new.ensures.items (All-nil _);
  sections = All-same (IsProperData c.args.config.now.endpoints) _ _ c.new-2.ensures.items (All-nil _);
}
