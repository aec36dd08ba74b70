use Rattle.std.proofs.Common.{◌∙◌, ap, sym, arith}
use Rattle.bfp_codec.specs.Layout.{unpacked_of}
use Rattle.slot_rings.specs.Runs.{packed_samples}
use Rattle.slot_rings.proofs.RunLemmas.{more_here, more_others, run_at}
use Rattle.slot_rings.proofs.blocks.Blocks.fill_run.Goals as goal

pub loop-k-preserved : goal.loop-k-preserved
loop-k-preserved c =
    let run = c.args.run.now in
    let l = c.loop-k in
    let f = c.put_packed in
    let is = ap (unpacked_of run.method) c.prb.ensures.value ∙ sym (run_at run.method run.count l.k run.bytes.now (omega (arith, c.loop-k-test.true))) in
    record {
      here = more_here c.args.self.now.items l.self.items f.new.self.items c.args.from l.k run.id (packed_samples run) l.invariant.others f.ensures.others _ is l.invariant.here f.ensures.here;
      others = more_others c.args.self.now.items l.self.items f.new.self.items c.args.from l.k run.id (packed_samples run) l.invariant.others f.ensures.others;
      few = l.invariant.few;
      len = omega (arith, l.invariant.len, f.ensures.len);
      cells = f.ensures.cells ∙ l.invariant.cells;
    }
