use Rattle.std.proofs.Common.{arith}
use Rattle.explain_records.proofs.CountLemmas.{count_past, count_set}
use Rattle.explain_records.proofs.beginnings.count.Goals as goal

pub returns-then-k-len : goal.returns-then-k-len
returns-then-k-len c =
    count_set c.args.all.now.items c.in-Some.k c.args.place c.index-old.result.now c.args.pieces c.args.is_whole c.in-Some.is
    (omega (arith, c.args.all.now.ok.0, c.len.ensures, c.if-k-len.true)) c.index-old.ensures

pub returns-else-k-len : goal.returns-else-k-len
returns-else-k-len c =
    count_past c.args.all.now.items c.in-Some.k c.args.place c.args.pieces c.args.is_whole c.in-Some.is
    (omega (arith, c.args.all.now.ok.0, c.len.ensures, c.if-k-len.false))
