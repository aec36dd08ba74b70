use Rattle.std.proofs.Common.{◌≡◌, ◌++◌, ap, ◌∙◌, refl}
use Rattle.std.proofs.lemmas.List.Concat.{flat_map-cons}
use Rattle.pcap_frames.specs.Frames.{timed_of}
use Rattle.pcap_frames.specs.Left.{left_of}
use Rattle.pcap_lines.specs.Texts.{line_text, lines_of}
use Rattle.pcap_lines.proofs.Telling.{so_far_none, so_far_more, so_far_all, so_far_stopped}
use Rattle.pcap_lines.proofs.injections.tell_lines.Goals as goal
use Rattle.fh_base.proofs.OwedTelling.{anyhow}

pub loop-f-init : goal.loop-f-init
loop-f-init g c =
    let same = ap left_of c.into_iter-f-iterator.ensures.into_iter_gives in
    record {
      so_far = so_far_none _ _ _ _ (ap lines_of (same ∙ c.frames-f-items.ensures.frames));
      still = refl;
      refused_still = refl;
    }

pub loop-f-preserved : goal.loop-f-preserved
loop-f-preserved g c =
    let rest = left_of c.next.new.self in
    let left : lines_of (left_of c.loop-f.f-iterator) ≡ line_text (timed_of c.in-Some.f) ++ lines_of rest
    = ap lines_of c.in-Some.ensures.steps ∙ flat_map-cons line_text (timed_of c.in-Some.f) rest in
    record {
      so_far = so_far_more _ _ _ _ _ _ _ _ _ (lines_of rest) left c.loop-f.invariant.so_far c.in_ok-tell_line.ensures.carried;
      still = c.in_ok-tell_line.ensures.cause.faults ∙ c.loop-f.invariant.still;
      refused_still = c.in_ok-tell_line.ensures.cause.refusals ∙ c.loop-f.invariant.refused_still;
    }

pub returns-in_err-tell_line-clause-part : goal.returns-in_err-tell_line-clause-part
returns-in_err-tell_line-clause-part g c =
    let rest = left_of c.next.new.self in
    let left : lines_of (left_of c.loop-f.f-iterator) ≡ line_text (timed_of c.in-Some.f) ++ lines_of rest
    = ap lines_of c.in-Some.ensures.steps ∙ flat_map-cons line_text (timed_of c.in-Some.f) rest in
    anyhow c.from_residual.result (so_far_stopped _ _ _ _ _ _ _ _ (lines_of rest) left c.loop-f.invariant.so_far c.in_err-tell_line.ensures.part)

pub returns-clause-carried : goal.returns-clause-carried
returns-clause-carried g c = so_far_all _ _ _ _ _ _ (ap lines_of c.in-None.ensures.steps.0) c.loop-f.invariant.so_far
