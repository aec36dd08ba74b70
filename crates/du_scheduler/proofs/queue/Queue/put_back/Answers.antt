use Rattle.std.proofs.Common.{rules, ◌∷◌}
use Rattle.std.specs.BinaryHeap.{heap_items}
use Rattle.std.proofs.lemmas.List.Elements.{All-cons}
use Rattle.std.proofs.lemmas.List.Sorted.{All-permutation, length_permutation}
use Rattle.du_scheduler.specs.Turns.{IsRun}
use Rattle.du_scheduler.proofs.queue.Queue.put_back.Goals as goal

pub returns-in-Some-clause-queue : goal.returns-in-Some-clause-queue
returns-in-Some-clause-queue c = record {
  heap = search rules;
  runs = All-permutation (λ x. IsRun x.0) (record { 0 = c.in-Some.next } ∷ heap_items c.args.self.now.heap) (heap_items c.push.new.self) (search rules)
      (All-cons (λ x. IsRun x.0) (record { 0 = c.in-Some.next }) (heap_items c.args.self.now.heap) (search rules) c.requires.queue.runs);
  fits = search rules;
  len = (let p = length_permutation (record { 0 = c.in-Some.next } ∷ heap_items c.args.self.now.heap) (heap_items c.push.new.self) (search rules) in search rules);
}
