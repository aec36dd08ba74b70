use Rattle.std.proofs.Common.{◌≡◌, ◌++◌, List, map, ap, sym, subst, ◌∙◌, refl}
use Rattle.std.proofs.lemmas.List.Concat.{flat_map-cons}
use Rattle.capture_records.specs.Records.{record_bytes, records_bytes}
use Rattle.pcap_frames.specs.Frames.{Timed, timed_of, AreShown}
use Rattle.pcap_frames.specs.Left.{left_of}
use Rattle.pcap_lines.specs.Texts.{arrived_as}
use Rattle.pcap_lines.proofs.Telling.{so_far_none, so_far_more, so_far_all, so_far_stopped}
use Rattle.pcap_lines.proofs.captures.tell_records.Goals as goal
use Rattle.fh_base.proofs.OwedTelling.{anyhow}

pub loop-f-init : goal.loop-f-init
loop-f-init g c =
    let same = ap left_of c.into_iter-f-iterator.ensures.into_iter_gives in
    record {
      so_far = so_far_none _ _ _ _ (ap (λ ts. records_bytes (map arrived_as ts)) (same ∙ c.frames-f-items.ensures.frames));
      shown = subst (λ (ts : List Timed). AreShown ts) (sym same) c.frames-f-items.ensures.shown;
      still = refl;
      refused_still = refl;
    }

pub tell_record-requires : goal.tell_record-requires
tell_record-requires g c = (subst (λ (ts : List Timed). AreShown ts) c.in-Some.ensures.steps c.loop-f.invariant.shown).0

pub loop-f-preserved : goal.loop-f-preserved
loop-f-preserved g c =
    let rest = left_of c.next.new.self in
    let left : records_bytes (map arrived_as (left_of c.loop-f.f-iterator)) ≡ record_bytes (arrived_as (timed_of c.in-Some.f)) ++ records_bytes (map arrived_as rest)
    = ap (λ ts. records_bytes (map arrived_as ts)) c.in-Some.ensures.steps ∙ flat_map-cons record_bytes (arrived_as (timed_of c.in-Some.f)) (map arrived_as rest) in
    record {
      so_far = so_far_more _ _ _ _ _ _ _ _ _ (records_bytes (map arrived_as rest)) left c.loop-f.invariant.so_far c.in_ok-tell_record.ensures.carried;
      shown = (subst (λ (ts : List Timed). AreShown ts) c.in-Some.ensures.steps c.loop-f.invariant.shown).1;
      still = c.in_ok-tell_record.ensures.cause.faults ∙ c.loop-f.invariant.still;
      refused_still = c.in_ok-tell_record.ensures.cause.refusals ∙ c.loop-f.invariant.refused_still;
    }

pub returns-in_err-tell_record-clause-part : goal.returns-in_err-tell_record-clause-part
returns-in_err-tell_record-clause-part g c =
    let rest = left_of c.next.new.self in
    let left : records_bytes (map arrived_as (left_of c.loop-f.f-iterator)) ≡ record_bytes (arrived_as (timed_of c.in-Some.f)) ++ records_bytes (map arrived_as rest)
    = ap (λ ts. records_bytes (map arrived_as ts)) c.in-Some.ensures.steps ∙ flat_map-cons record_bytes (arrived_as (timed_of c.in-Some.f)) (map arrived_as rest) in
    anyhow c.from_residual.result (so_far_stopped _ _ _ _ _ _ _ _ (records_bytes (map arrived_as rest)) left c.loop-f.invariant.so_far c.in_err-tell_record.ensures.part)

pub returns-clause-carried : goal.returns-clause-carried
returns-clause-carried g c =
    so_far_all _ _ _ _ _ _ (ap (λ ts. records_bytes (map arrived_as ts)) c.in-None.ensures.steps.0) c.loop-f.invariant.so_far
