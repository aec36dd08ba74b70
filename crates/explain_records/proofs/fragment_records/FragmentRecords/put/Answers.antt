use Rattle.std.proofs.Common.{refl, arith}
use Rattle.std.proofs.lemmas.Option.{slice_get_read}
use Rattle.explain_records.proofs.UnitLemmas.{put_is}
use Rattle.explain_records.proofs.fragment_records.FragmentRecords.put.Goals as goal

pub returns : goal.returns
returns c =
    let old = c.args.self.now in
    record {
      ok = put_is c.args.told.now old _ c.in-Some.k c.index.result.now c.found-was.result c.in_ok-new.new (omega arith) c.in-Some.ensures
          (slice_get_read old.last.items _ c.in-Some.k c.index.result.now old.last.ok.0 (omega (arith, c.len.ensures, c.if-k-len.false)) c.index.ensures)
          c.found-was.ensures c.in_ok-new.ensures.last refl refl refl c.in_ok-new.ensures.begun c.in_ok-new.ensures.repeated;
      err = tt;
    }
