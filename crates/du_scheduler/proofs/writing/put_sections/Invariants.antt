use Rattle.std.proofs.Common.{◌≡◌, List, length, take, map}
use Rattle.plan_model.specs.Streams.{Part}
use Rattle.sent_frames.specs.Messages.{data_section}
use Rattle.du_scheduler.specs.Written.{StandsAt}
use Rattle.du_scheduler.proofs.writing.put_sections.Given as goal

abbrev pub invariant-loop-k : goal.invariant-loop-k
invariant-loop-k l =
    (length l.into ≡ length l.fn.into)
    × ((xs : List Part) → StandsAt l.lines l.parts xs → take l.k l.into ≡ map data_section (take l.k xs))
