use Rattle.std.proofs.Common.{◌≡◌, ◌+◌, map, take}
use Rattle.std.specs.Prelude.{sum}
use Rattle.plan_model.specs.Packs.{Message, parts_of}
use Rattle.plan_model.specs.Streams.{Part, part_fields}
use Rattle.document_texts.specs.Frames.{IsPlaced}
use Rattle.document_texts.proofs.sizes.message_size.Given as goal

abbrev pub invariant-loop-part : goal.invariant-loop-part
invariant-loop-part l = (m : Message Part) → IsPlaced l.plan l.endpoint l.parts m → l.size ≡ 4 + sum (map part_fields.size (take l.part-index (parts_of m)))
