-- The laws of a replay's events hold of every document that was read.
use Rattle.std.proofs.Common.{◌≡◌, List, inl, inr, true, not, ◌==◌, refl, ap, sym, ◌∙◌}
use Rattle.std.proofs.lemmas.Bool.{and_from, and_parts, cases_Bool, eqb-true, or_right}
use Rattle.air_source.specs.declared.events.Side.TheVariants.{Ru, Du}
use Rattle.document_traffic.specs.Sending.{lines_of}
use Rattle.document_traffic.proofs.LineLemmas.{lines_fit}
use Rattle.du_intake.specs.Planned.{IsPlanOf}
use Rattle.du_intake.proofs.PlanLemmas.{plan_clear}
use Rattle.fh_document.specs.declared.document.Document.{Document}
use Rattle.fronthaul_replay.specs.IntakeTurns.{planned_for}
use Rattle.document_traffic.specs.Replayed.{traffic_of}
use Rattle.document_traffic.proofs.CountedLemmas.{counters_have_counted}
use Rattle.document_traffic.proofs.DelayLemmas.{events_are_exact, events_are_measured}
use Rattle.document_traffic.proofs.ExchangedLemmas.{delay_events_are_known}
use Rattle.document_traffic.proofs.OnceLemmas.{schedule_radiates, uplink_is_taken_in}
use Rattle.plan_model.specs.Validity.{share_bit, share_cell}
use Rattle.replay_laws.specs.Moments.{all_arrivals}
use Rattle.replay_laws.specs.Traffic.{landings_at}
use Rattle.replay_laws.specs.Shown.{HaveOneId}
use Rattle.replay_laws.proofs.DelayLemmas.{delays_are_results, delays_follow_frames, frames_are_told}
use Rattle.replay_laws.proofs.GatheredLemmas.{shown_are_gathered}
use Rattle.replay_laws.proofs.LandedLemmas.{each_arrives}
use Rattle.replay_laws.proofs.OnceLemmas.{at_most_once}
use Rattle.replay_laws.proofs.RefusedLemmas.{each_refused_changes_nothing}
use Rattle.replay_laws.proofs.ShownLemmas.{shown_only_in_time}
use Rattle.replay_laws.proofs.SumLemmas.{sums_add_up}
use Rattle.replay_laws.proofs.WithoutLemmas.{each_silent_changes_nothing}
use Rattle.plan_model.proofs.ScheduleClashLemmas.{IsClear}
use Rattle.unit_model.specs.Claims.{covers}
use Rattle.unit_model.specs.declared.allocations.Allocation.{Allocation}
use Rattle.unit_model.specs.declared.cells.Cell.{Cell}
use Rattle.unit_model.specs.declared.cells.Claim.{Claim}
use Rattle.plan_model.proofs.ClashLemmas.{both_cover, claimed}
use Rattle.fronthaul_replay.proofs.TurnLemmas.{lands_in_time}
use Rattle.fronthaul_replay.specs.Laws.{IsSound, TellsResults}
use Rattle.fronthaul_replay.specs.Replaying.{IsReplayable}
use Rattle.fh_base.specs.Members.{IsIn}

-- ---- what a plan claims of the uplink

-- of allocations none of which clash, two that share a cell have one section id
one_section : (planned : List Allocation) (a b : Allocation) → IsClear planned → IsIn a planned → IsIn b planned → share_cell a b ≡ true → a.section ≡ b.section
one_section planned a b clear m n shared = elim (cases_Bool (a.section == b.section)) [
  | inl same ↦ eqb-true a.section b.section same
  | inr other ↦
      ap (λ (x : Allocation). x.section)
      (clear a b m n (and_from (share_cell a b) _ shared (or_right (share_bit a.mask b.mask) (not (a.section == b.section)) (ap not other))))
]

have_one_id : (planned : List Allocation) (cell : Cell) → IsClear planned → HaveOneId planned cell
have_one_id planned cell clear re other k l small few there also =
    let a = claimed planned cell re k there in
    let b = claimed planned cell other l also in
    let shared = both_cover a.b b.b cell (and_parts (covers a.b cell) _ a.names_it).0 (and_parts (covers b.b cell) _ b.names_it).0 in
    ap (λ (x : Claim). x.id) a.is ∙ one_section planned a.b b.b clear a.there b.there shared ∙ sym (ap (λ (x : Claim). x.id) b.is)

-- the lines of a document's plan are a plan of its configuration
pub is_plan : (d : Document) → IsReplayable d → IsPlanOf d.config (lines_of d)
is_plan d doc = record { plan = d.plan; ranges = lines_fit d.plan doc.document.plan; valid = doc.valid; is = refl }

planned_once : (d : Document) → IsReplayable d → (cell : Cell) → HaveOneId (planned_for d) cell
planned_once d doc cell = have_one_id (planned_for d) cell (plan_clear d.config (lines_of d) doc.document.config (is_plan d doc))

-- ---- the laws

tells_results : (d : Document) → TellsResults d
tells_results d = record {
  results = delays_are_results d.config (traffic_of d);
  behind = delays_follow_frames d.config (traffic_of d);
  all = frames_are_told d.config (traffic_of d);
}

pub is_sound : (d : Document) → IsReplayable d → IsSound d
is_sound d doc =
    record {
      once = at_most_once d.config (traffic_of d) doc.document.config;
      in_time = shown_only_in_time d.config (traffic_of d) (lands_in_time Ru d doc) (lands_in_time Du d doc) (planned_once d doc);
      sums = sums_add_up d.config (traffic_of d);
      arrive = λ side. each_arrives (landings_at side (traffic_of d)) (lands_in_time side d doc);
      exactly_once = schedule_radiates d doc;
      taken_in_once = uplink_is_taken_in d doc;
      refused = λ side. each_refused_changes_nothing side d.config (all_arrivals (landings_at side (traffic_of d)));
      silent = λ side. each_silent_changes_nothing side d.config (landings_at side (traffic_of d)) (lands_in_time side d doc);
      gathered = shown_are_gathered d.config (traffic_of d) (lands_in_time Ru d doc) (lands_in_time Du d doc) (planned_once d doc);
      results = tells_results d;
      exchanges = record { delays = delay_events_are_known d doc; counts = counters_have_counted d doc };
      delays = events_are_measured d doc;
      exact_delays = events_are_exact d doc;
    }
