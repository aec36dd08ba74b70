use Rattle.std.proofs.Common.{rules, refl, ◌∷◌}
use Rattle.std.specs.BinaryHeap.{heap_items}
use Rattle.std.proofs.lemmas.List.Elements.{All-cons}
use Rattle.std.proofs.lemmas.List.Sorted.{All-permutation, length_permutation}
use Rattle.du_scheduler.specs.Turns.{IsRun}
use Rattle.du_scheduler.proofs.Left.{added}
use Rattle.du_scheduler.proofs.queue.Queue.add.Goals as goal

pub returns-clause-queue : goal.returns-clause-queue
returns-clause-queue c = record {
  heap = search rules;
  runs = All-permutation (λ x. IsRun x.0) (record { 0 = c.args.run } ∷ heap_items c.args.self.now.heap) (heap_items c.push.new.self) (search rules)
      (All-cons (λ x. IsRun x.0) (record { 0 = c.args.run }) (heap_items c.args.self.now.heap) (search rules) c.requires.queue.runs);
  fits = search rules;
  len = (let p = length_permutation (record { 0 = c.args.run } ∷ heap_items c.args.self.now.heap) (heap_items c.push.new.self) (search rules) in search rules);
}

pub returns-clause-stands : goal.returns-clause-stands
returns-clause-stands c l all h m = added c.args.self.now (record { heap = c.push.new.self; gap = c.args.self.now.gap }) c.args.run l all refl (search rules) h m
