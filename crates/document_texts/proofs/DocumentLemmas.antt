-- What holds of the explanation of every document.
use Rattle.std.proofs.Common.{refl}
use Rattle.explain_model.specs.Subjects.{reasons_of}
use Rattle.explain_laws.proofs.DelayLemmas.{delays_are_lines}
use Rattle.explain_laws.proofs.ExplainedLemmas.{each_is_explained}
use Rattle.explain_model.proofs.ToldLemmas.{missing_are_told, silent_are_told, unused_are_told}
use Rattle.document_texts.specs.Reasons.{AreOfDecoded, TellsReasons}
use Rattle.document_texts.specs.Explained.{IsExplainedDocument}
use Rattle.document_texts.specs.Text.{subject_of}
use Rattle.fh_document.specs.declared.document.Document.{Document}
use Rattle.document_traffic.specs.Laws.{IsReplayable}
use Rattle.fronthaul_replay.specs.Replaying.{events_of}
use Rattle.document_traffic.specs.Replayed.{traffic_of}
use Rattle.explain_laws.proofs.ReasonCountedLemmas.{are_counted}
use Rattle.explain_laws.proofs.PlannedLemmas.{are_told as plan_told}
use Rattle.explain_laws.proofs.UndisturbedLemmas.{has_no_why}
use Rattle.explain_laws.proofs.UplinkLemmas.{planned_uplink_is_heard}
use Rattle.explain_laws.proofs.BlockLemmas.{are_told as blocks_told}
use Rattle.explain_laws.proofs.GivingLemmas.{are_blocks}
use Rattle.explain_laws.proofs.KeptLemmas.{are_kept}
use Rattle.explain_laws.proofs.SilentLemmas.{none_names}

tells : (d : Document) → IsReplayable d → TellsReasons d
tells d is =
    let es = events_of d in
    record {
      missing = (missing_are_told d.config es).0;
      silent = silent_are_told d.config d.plan d.plan_lines es;
      unused = unused_are_told d.config es;
      cells = (missing_are_told d.config es).1;
      counted = λ side. are_counted side d.config (traffic_of d);
      plan = plan_told d.config d.plan d.plan_lines es;
      unnamed = none_names.documents d d.plan_lines is;
      uplink = planned_uplink_is_heard d (traffic_of d) is.document is.valid refl;
      undisturbed = has_no_why d (traffic_of d);
    }

of_decoded : (d : Document) → AreOfDecoded d
of_decoded d = record {
  kept = are_kept d.config (events_of d);
  givers = are_blocks d.config (events_of d);
  blocks = blocks_told d.config (events_of d);
}

pub explained : (d : Document) → IsReplayable d → IsExplainedDocument d
explained d is = record {
  lines = each_is_explained d.config (traffic_of d) (reasons_of (subject_of d) (events_of d));
  results = delays_are_lines d is;
  reasons = tells d is;
  records = of_decoded d;
}
