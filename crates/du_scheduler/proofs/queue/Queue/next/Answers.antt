use Rattle.std.proofs.Common.{rules, refl, ◌∷◌}
use Rattle.std.specs.BinaryHeap.{heap_items}
use Rattle.std.proofs.lemmas.List.Elements.{All-tail}
use Rattle.std.proofs.lemmas.List.Sorted.{All-permutation, length_permutation}
use Rattle.du_scheduler.specs.Turns.{IsRun, next_of}
use Rattle.du_scheduler.proofs.Left.{nothing_left, nothing_still, gives, put_held}
use Rattle.du_scheduler.proofs.queue.Queue.next.Goals as goal

pub returns-in_default-clause-gives : goal.returns-in_default-clause-gives
returns-in_default-clause-gives c = λ l h. (let none = nothing_left c.args.self.now l (search rules) h in (none, nothing_still c.args.self.now (record { heap = c.pop.new.self; gap = c.args.self.now.gap }) l (search rules) refl none h))

pub put_back-requires-clause-queue : goal.put_back-requires-clause-queue
put_back-requires-clause-queue c = record {
  heap = search rules;
  runs = All-tail (λ x. IsRun x.0) c.in-Some.field-0 (heap_items c.pop.new.self)
      (All-permutation (λ x. IsRun x.0) (heap_items c.args.self.now.heap) (c.in-Some.field-0 ∷ heap_items c.pop.new.self) (search rules) c.requires.runs);
  fits = search rules;
  len = (let p = length_permutation (heap_items c.args.self.now.heap) (c.in-Some.field-0 ∷ heap_items c.pop.new.self) (search rules) in search rules);
}

pub returns-clause-gives : goal.returns-clause-gives
returns-clause-gives c = λ l h. gives c.args.self.now c.put_back.new.self c.in-Some.field-0 (heap_items c.pop.new.self) l (search rules) c.requires.runs (search rules) (search rules)
    (put_held c.args.self.now.gap (next_of c.args.self.now.gap c.in-Some.field-0.0) (heap_items c.pop.new.self) (heap_items c.put_back.new.self.heap) (search rules)) h
