use Rattle.std.proofs.Common.{◌≡◌, ◌++◌, map}
use Rattle.std.specs.Vec.Iter.{into_iter_items}
use Rattle.unit_model.specs.Decoding.{data_with}
use Rattle.plain_units.proofs.decoding.data.Given as goal

abbrev pub invariant-loop-part : goal.invariant-loop-part
invariant-loop-part l =
    l.sections.items ++ map (data_with l.ep l.endpoint l.first.0 l.last.0 l.head) (into_iter_items l.part-iterator)
    ≡ map (data_with l.ep l.endpoint l.first.0 l.last.0 l.head) l.fn.parts.items
