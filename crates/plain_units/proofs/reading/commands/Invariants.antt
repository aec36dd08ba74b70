use Rattle.std.proofs.Common.{◌≡◌, ◌++◌}
use Rattle.cplane_sections.specs.Left.{left_of}
use Rattle.cplane_sections.specs.Message.{sections_in}
use Rattle.unit_model.specs.Meetings.{commands_with}
use Rattle.plain_units.proofs.reading.commands.Given as goal

abbrev pub invariant-loop-section : goal.invariant-loop-section
invariant-loop-section l =
    l.commands.items ++ commands_with l.ep l.endpoint l.at.0 l.head (left_of l.section-iterator)
    ≡ commands_with l.ep l.endpoint l.at.0 l.head (sections_in l.head l.fn.bytes)
