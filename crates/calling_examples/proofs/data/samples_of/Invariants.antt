use Rattle.std.proofs.Common.{Contains, List}
use Rattle.bfp_codec.specs.declared.samples.Wide.{Wide}
use Rattle.uplane_messages.specs.Left.{left_of}
use Rattle.uplane_sections.specs.Messages.{Item, Block}
use Rattle.calling_examples.proofs.data.samples_of.Given as goal

-- what is left is among the items, and the PRB that is wanted was not passed
abbrev pub invariant-loop-item : goal.invariant-loop-item
invariant-loop-item l = record {
  among : (x : Item) → Contains (left_of l.item-iterator) x → Contains (left_of l.initial.item-iterator) x;
  ahead : (samples : List Wide) → Contains (left_of l.initial.item-iterator) (Block l.wanted samples) → Contains (left_of l.item-iterator) (Block l.wanted samples);
}
