use Rattle.std.proofs.Common.{arith, ap, ◌∙◌}
use Rattle.std.specs.Prelude.{slice_set}
use Rattle.std.proofs.lemmas.List.Edits.{map_over_more}
use Rattle.why_lines.specs.Counting.{added, has_room}
use Rattle.why_lines.specs.declared.unit_sums.UnitSums.{UnitSums}
use Rattle.why_lines.proofs.AddLemmas.{passes_there}
use Rattle.why_lines.proofs.sums.ReasonSums.count.Goals as goal

pub with-requires : goal.with-requires
with-requires c =
    passes_there (has_room c.args.more.now) (added c.args.more.now) c.args.self.now.all.items c.loop-k.self.all.items c.loop-k.k c.index.result.now
    (omega (arith, c.loop-k-test.true, c.len-k-end.ensures, c.args.self.now.all.ok.0)) c.loop-k.invariant c.index.ensures c.requires

pub loop-k-preserved : goal.loop-k-preserved
loop-k-preserved c =
    ap (λ (y : UnitSums). slice_set c.loop-k.self.all.items c.loop-k.k y) c.with.ensures
    ∙ map_over_more (added c.args.more.now) c.args.self.now.all.items c.loop-k.self.all.items c.loop-k.k c.index.result.now
    (omega (arith, c.loop-k-test.true, c.len-k-end.ensures, c.args.self.now.all.ok.0)) c.loop-k.invariant c.index.ensures
