use Rattle.std.proofs.Common.{◌≡◌, rules}
use Rattle.std.proofs.lemmas.List.Elements.{All-same}
use Rattle.cplane_sections.specs.Message.{sections_in}
use Rattle.unit_model.specs.Meetings.{commands_with}
use Rattle.unit_model.specs.Proper.{IsProperCommand}
use Rattle.unit_model.proofs.Read.{commands_proper}
use Rattle.plain_units.proofs.reading.commands.Goals as goal

pub returns-clause-proper : goal.returns-clause-proper
returns-clause-proper c es i t =
    let head = c.args.head.now in
    let bytes = c.args.bytes.now in
    let value : c.loop-section.commands.items ≡ commands_with c.args.ep c.args.endpoint.now c.args.at.0 head (sections_in head bytes) = search rules in
    All-same (IsProperCommand es) _ _ value (commands_proper es c.args.ep c.args.endpoint.now c.args.at.0 head bytes c.requires i t)
