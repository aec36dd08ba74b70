use Rattle.std.proofs.Common.{◌≡◌, ◌∷◌, [], ◌++◌, map}
use Rattle.fh_base.specs.Lists.{each}
use Rattle.plan_model.specs.Streams.{part_in}
use Rattle.du_scheduler.specs.Parts.{timed}
use Rattle.du_scheduler.proofs.parts.put_line.Given as goal

abbrev pub invariant-loop-k : goal.invariant-loop-k
invariant-loop-k l = l.parts.items ≡ l.initial.parts.items ++ map (timed l.stream) (each l.p.line.symbol l.k (λ symbol. part_in symbol l.p ∷ []))
