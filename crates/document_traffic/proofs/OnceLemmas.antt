-- Exactly once of what lands without delay measurement is exactly once of what lands with it.
use Rattle.std.proofs.Common.{◌≡◌, List, [], ◌∷◌, ap, sym, ◌∙◌, subst}
use Rattle.std.specs.Prelude.{IsPermutation, filter, map}
use Rattle.air_source.specs.declared.events.AirCell.{AirCell}
use Rattle.air_source.specs.declared.events.Side.{Side}
use Rattle.air_source.specs.declared.events.Side.TheVariants.{Ru, Du}
use Rattle.document_traffic.proofs.RadiatedLemmas.{radiates_once}
use Rattle.document_traffic.proofs.TakenLemmas.{is_taken_in_once}
use Rattle.document_traffic.proofs.WidthLemmas.{widths_are}
use Rattle.document_traffic.specs.Generations.{EachHoldsOneMessage}
use Rattle.document_traffic.specs.Landing.{antenna_for, planned_traffic}
use Rattle.document_traffic.specs.Sending.{lines_of, source_for}
use Rattle.document_traffic.specs.Undisturbed.{answered_for, answers_for, blocks_for, messages_for, told_for}
use Rattle.ecpri_fragments.specs.Generations.{Fragment}
use Rattle.fh_document.specs.declared.document.Document.{Document}
use Rattle.fragment_laws.specs.Apart.{AreApart, of_message}
use Rattle.fragment_laws.specs.Flow.{numbers_of, sent_at}
use Rattle.fragment_laws.specs.Once.{AreTheSent, IsOnceWhole, answers, wholes}
use Rattle.plan_model.specs.Streams.{part_in}
use Rattle.plan_model.specs.declared.lines.PlannedLine.{PlannedLine}
use Rattle.replay_laws.specs.Moments.{all_arrivals, end_of_time}
use Rattle.replay_laws.specs.Traffic.{landings_at}
use Rattle.replay_laws.proofs.OnceLemmas.{cells_are_reported}
use Rattle.schedule_laws.specs.Commands.{AreCommandedOnce, IsCommanded}
use Rattle.schedule_laws.specs.Data.{AreDecodedOnce, Blocks, IsDataSent}
use Rattle.schedule_laws.specs.Flows.{bounds_of, flow_of}
use Rattle.schedule_laws.specs.Premise.{Texts}
use Rattle.schedule_laws.specs.Singles.{event_of}
use Rattle.uplink_laws.specs.Frames.{texts_of}
use Rattle.unit_model.specs.Blocks.{block_at}
use Rattle.unit_model.specs.Claims.{claim_at}
use Rattle.unit_model.specs.Commands.{is_uplink as is_sent_up}
use Rattle.unit_model.specs.Meetings.{Arrival}
use Rattle.unit_model.specs.Standing.{same_cell}
use Rattle.unit_model.specs.Uplink.{jobs}
use Rattle.unit_model.specs.declared.allocations.Allocation.{Allocation}
use Rattle.unit_model.specs.declared.decoded.ControlSection.{ControlSection}
use Rattle.unit_model.specs.declared.decoded.UserSection.{UserSection}
use Rattle.uplink_laws.specs.Data.{AreUplinksDecodedOnce as AreAnswersDecodedOnce, IsUplinkDataSent as IsAnswerSent, antenna_blocks as answer_blocks_of, said_by}
use Rattle.uplink_laws.specs.Flows.{uplink_bounds_of as answer_bounds_of, uplink_flow_of as answer_flow_of, flow_start_at}
use Rattle.uplink_laws.specs.Jobs.{AreJobsOfPlan}
use Rattle.uplink_laws.specs.Singles.{uplink_event_of as taken_event_of}
use Rattle.uplink_laws.specs.Whole.{AreTakenOnce, IsTakenOnce}
use Rattle.uplink_model.specs.Frames.{Antenna}
use Rattle.window_config.specs.declared.config.Config.{Config}
use Rattle.document_traffic.proofs.SentLemmas.{measurement_rests}
use Rattle.document_traffic.specs.MeasuredLaws.{LeaveTheSame}
use Rattle.document_traffic.specs.Once.{ScheduleRadiatesOnce, UplinkIsTakenInOnce}
use Rattle.document_traffic.specs.Replayed.{landings_for, traffic_of}
use Rattle.plan_model.specs.Lines.{uplink_allocations}
use Rattle.ecpri_fragments.specs.Pieces.{joined}
use Rattle.fh_base.specs.Members.{IsIn}

-- ---- what the radio unit makes of arrivals that leave it the same

module _ (c : Config) (ps : List PlannedLine) (these those : List Arrival) (same : LeaveTheSame Ru c these those) where
  pub commanded_alike : AreCommandedOnce c ps those → AreCommandedOnce c ps these
  commanded_alike h = record {
    answers = λ later earlier d e. h.answers later earlier d (sym same.commands ∙ e);
    every = λ p m. subst (λ (cs : List ControlSection). IsCommanded p cs) (sym same.commands) (h.every p m);
    differ = h.differ;
    claims = λ cell re lt. ap (λ (claimed : List Allocation). claim_at claimed cell re) same.accepted ∙ h.claims cell re lt;
  }

  pub decoded_alike : (text : Texts) (blocks : Blocks) → AreDecodedOnce c ps text blocks those → AreDecodedOnce c ps text blocks these
  decoded_alike text blocks h =
      let num = numbers_of (bounds_of c) (flow_of c ps text) in
      record {
        whole = λ ep j lt. subst (λ (fs : List Fragment). IsOnceWhole (bounds_of c) (flow_of c ps text ep) j (of_message num ep j fs) (answers (bounds_of c).hold num ep j fs)) (sym same.fragments) (h.whole ep j lt);
        each = λ d m. h.each d (subst (λ (ds : List UserSection). IsIn d ds) same.sections m);
        every = λ p symbol m down busy within. subst (λ (ds : List UserSection). IsDataSent blocks (part_in symbol p) ds) (sym same.sections) (h.every p symbol m down busy within);
        blocks_are = λ cell down. ap (λ (ds : List UserSection). block_at ds cell) same.timely ∙ h.blocks_are cell down;
      }

  pub jobs_alike : AreJobsOfPlan c ps those → AreJobsOfPlan c ps these
  jobs_alike h = record {
    accepted = subst (λ (claimed : List Allocation). IsPermutation (uplink_allocations ps) (filter is_sent_up claimed)) (sym same.accepted) h.accepted;
    jobs_are = λ to. ap (λ (claimed : List Allocation). jobs c.endpoints claimed to) same.accepted ∙ h.jobs_are to;
  }

-- ---- and the distributed unit

module _ (c : Config) (antenna : Antenna) (ps : List PlannedLine) (these those : List Arrival) (same : LeaveTheSame Du c these those) where
  pub taken_alike : AreTakenOnce c antenna ps those → AreTakenOnce c antenna ps these
  taken_alike h =
      let b = answer_bounds_of c in
      let num = numbers_of b (answer_flow_of c antenna ps) in
      record {
        apart = subst (λ (fs : List Fragment). AreApart b.hold b.fast b.slow (λ ep j. sent_at (answer_flow_of c antenna ps ep) j 0) num fs) (sym same.fragments) h.apart;
        wholes = subst (λ (fs : List Fragment). AreTheSent b (answer_flow_of c antenna ps) fs) (sym same.fragments) h.wholes;
        each = λ ep j lt.
            subst (λ (fs : List Fragment). IsTakenOnce c (answer_flow_of c antenna ps ep) j (flow_start_at c ps ep j) (of_message num ep j fs) (answers b.hold num ep j fs))
            (sym same.fragments) (h.each ep j lt);
      }

  pub answers_alike : AreAnswersDecodedOnce c ps antenna those → AreAnswersDecodedOnce c ps antenna these
  answers_alike h = record {
    wholes_say = same.sections ∙ h.wholes_say ∙ ap (λ (fs : List Fragment). joined (map (said_by c) (wholes (answer_bounds_of c).hold fs))) (sym same.fragments);
    messages = h.messages;
    each = λ d m. h.each d (subst (λ (ds : List UserSection). IsIn d ds) same.sections m);
    every = λ p symbol m uplink within. subst (λ (ds : List UserSection). IsAnswerSent (answer_blocks_of c antenna) (part_in symbol p) ds) (sym same.sections) (h.every p symbol m uplink within);
    blocks_are = λ cell up. ap (λ (ds : List UserSection). block_at ds cell) same.timely ∙ h.blocks_are cell up;
    any_line = λ cell p m uplink covered. ap (λ (ds : List UserSection). block_at ds cell) same.timely ∙ h.any_line cell p m uplink covered;
  }

-- ---- so documents do as they do without delay measurement

told_alike : (side : Side) (d : Document) → told_for side d (traffic_of d) ≡ told_for side d (planned_traffic d)
told_alike Ru d =
    cells_are_reported Ru d.config (traffic_of d)
    ∙ (measurement_rests d Ru).reported (uplink_allocations (lines_of d)) end_of_time
    ∙ sym (cells_are_reported Ru d.config (planned_traffic d))
told_alike Du d =
    cells_are_reported Du d.config (traffic_of d)
    ∙ (measurement_rests d Du).reported (uplink_allocations (lines_of d)) end_of_time
    ∙ sym (cells_are_reported Du d.config (planned_traffic d))

once_alike : (side : Side) (d : Document) (event : AirCell) → filter (same_cell event) (told_for side d (planned_traffic d)) ≡ event ∷ []
    → filter (same_cell event) (told_for side d (traffic_of d)) ≡ event ∷ []
once_alike side d event once = ap (filter (same_cell event)) (told_alike side d) ∙ once

pub schedule_radiates : ScheduleRadiatesOnce
schedule_radiates d is calm =
    let planned = radiates_once d is.document (widths_are d is.document) is.valid calm in
    let lines = lines_of d in
    let these = all_arrivals (landings_for Ru d) in
    let those = all_arrivals (landings_at Ru (planned_traffic d)) in
    let same = measurement_rests d Ru in
    record {
      commands = commanded_alike d.config lines these those same planned.commands;
      messages = decoded_alike d.config lines these those same (texts_of d.config lines (source_for d)) (blocks_for d) planned.messages;
      generations = subst (EachHoldsOneMessage (bounds_of d.config) (messages_for d)) (sym same.fragments) planned.generations;
      cells = told_alike Ru d ∙ planned.cells;
      once = λ p symbol prb re m down busy below named. once_alike Ru d (event_of (blocks_for d) lines p symbol prb) (planned.once p symbol prb re m down busy below named);
    }

pub uplink_is_taken_in : UplinkIsTakenInOnce
uplink_is_taken_in d is calm =
    let planned = is_taken_in_once d is.document (widths_are d is.document) is.valid calm in
    let lines = lines_of d in
    let these = all_arrivals (landings_for Du d) in
    let those = all_arrivals (landings_at Du (planned_traffic d)) in
    let same = measurement_rests d Du in
    record {
      jobs = jobs_alike d.config lines (all_arrivals (landings_for Ru d)) (all_arrivals (landings_at Ru (planned_traffic d))) (measurement_rests d Ru) planned.jobs;
      messages = taken_alike d.config (antenna_for d) lines these those same planned.messages;
      sections = answers_alike d.config (antenna_for d) lines these those same planned.sections;
      generations = subst (EachHoldsOneMessage (answer_bounds_of d.config) (answered_for d)) (sym same.fragments) planned.generations;
      cells = told_alike Du d ∙ planned.cells;
      once = λ p symbol prb re m uplink below named.
          once_alike Du d (taken_event_of (answers_for d) lines p symbol prb) (planned.once p symbol prb re m uplink below named);
    }
