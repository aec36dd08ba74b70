-- Nothing of a document occurs after the end of time.
use Rattle.std.proofs.Common.{◌≡◌, pos, ◌≤ℤ◌, List, [], sym, subst}
use Rattle.std.specs.Prelude.{filter}
use Rattle.air_source.specs.declared.events.Side.TheVariants.{Ru}
use Rattle.fh_document.specs.declared.document.Document.{Document}
use Rattle.document_traffic.proofs.LineLemmas.{lines_fit}
use Rattle.document_traffic.specs.Laws.{IsReplayable}
use Rattle.document_traffic.specs.Sending.{lines_of}
use Rattle.plan_model.specs.Lines.{is_up_line, line_allocation}
use Rattle.replay_laws.proofs.EndLemmas.{no_cell_is_left, no_message_is_left}
use Rattle.replay_laws.specs.Ending.{AreInPlan}
use Rattle.replay_laws.specs.Moments.{all_arrivals}
use Rattle.plan_model.proofs.LineLemmas.{line_good}
use Rattle.unit_model.specs.Reports.{accepted_of}
use Rattle.unit_model.specs.Standing.{still_given}
use Rattle.unit_model.specs.declared.allocations.Allocation.{Allocation}
use Rattle.unit_model.specs.declared.jobs.UplinkJob.{UplinkJob}
use Rattle.window_config.specs.declared.plan.TheConstants.{LAST_FRAME}
use Rattle.document_traffic.proofs.ReplayedLemmas.{landings_are_replayed}
use Rattle.document_traffic.proofs.SentLemmas.{messages_are_owed}
use Rattle.document_traffic.specs.Ends.{DocumentsAreOver, planned_of}
use Rattle.document_traffic.specs.Replayed.{landings_for}
use Rattle.fh_base.proofs.MemberLemmas.{all_of, of_filter}
use Rattle.fh_base.proofs.MadeLists.{of_map}

in_plan : (d : Document) → IsReplayable d → AreInPlan (planned_of d)
in_plan d is =
    all_of (λ (a : Allocation). a.slot.frame ≤ℤ pos LAST_FRAME) (planned_of d) (λ a m.
    let p = of_map line_allocation a (filter is_up_line (lines_of d)) m in
    let there = of_filter is_up_line p.0 (lines_of d) p.1 in
    let good = line_good d.config d.plan is.document.config (lines_fit d.plan is.document.plan) is.valid p.0 there.0 in
    subst (λ (b : Allocation). b.slot.frame ≤ℤ pos LAST_FRAME) (sym p.2) good.fits.frame_high)

pub documents_are_over : DocumentsAreOver
documents_are_over d is = record {
  cells = λ side to. no_cell_is_left side d.config (planned_of d) (landings_for side d) to is.document.config (in_plan d is) (landings_are_replayed d side is);
  messages = λ to.
      subst (λ (given : List UplinkJob). still_given d.config (accepted_of d.config (all_arrivals (landings_for Ru d))) given to ≡ []) (messages_are_owed d)
      (no_message_is_left d.config (landings_for Ru d) to is.document.config (landings_are_replayed d Ru is));
}
