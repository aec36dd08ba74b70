use Rattle.frame_bytes.proofs.CutBytes.{stands_written}
use Rattle.frame_bytes.proofs.cuts.write_cut.Goals as goal

pub returns-then-start-end-clause-stands : goal.returns-then-start-end-clause-stands
returns-then-start-end-clause-stands c before at stood =
    stands_written c.args.span c.args.place c.max-start.result c.min-end.result before c.args.bytes.now c.args.into.now _ c.write_at.new.into c.requires.order at
    c.max-start.ensures c.min-end.ensures c.if-start-end.true c.write_at.ensures stood
