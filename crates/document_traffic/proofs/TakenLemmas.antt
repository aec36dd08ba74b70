-- Where nothing disturbs it either way, a document's uplink is taken in, each element once.
use Rattle.std.proofs.Common.{◌≡◌, ℤ, pos, ◌+ℤ◌, ◌≤ℤ◌, List, [], ◌∷◌, sym, ◌∙◌, subst, arith}
use Rattle.std.specs.Prelude.{filter}
use Rattle.std.proofs.lemmas.Int.{ints}
use Rattle.air_source.specs.Answers.{block_of}
use Rattle.air_source.specs.declared.events.AirCell.{AirCell}
use Rattle.air_source.specs.declared.events.Side.TheVariants.{Du}
use Rattle.air_source.specs.declared.links.LinkFrame.{LinkFrame}
use Rattle.bfp_codec.proofs.Laws.{can_pack}
use Rattle.fh_document.specs.Proper.{IsDocument}
use Rattle.fh_document.specs.declared.document.Document.{Document}
use Rattle.fh_base.specs.Air.{air_of}
use Rattle.plan_model.specs.Valid.{IsValid}
use Rattle.replay_laws.specs.Moments.{all_arrivals}
use Rattle.replay_laws.proofs.OnceLemmas.{cells_are_reported}
use Rattle.unit_model.specs.Meetings.{Arrival}
use Rattle.unit_model.specs.Standing.{same_cell}
use Rattle.unit_model.specs.Times.{end_of_time}
use Rattle.uplink_laws.proofs.ArrivalLemmas.{delivered, sounds}
use Rattle.uplink_laws.proofs.BlockLemmas.{decoded_once}
use Rattle.uplink_laws.proofs.CellLemmas.{plan_taken_in}
use Rattle.uplink_laws.proofs.JobLemmas.{jobs_planned}
use Rattle.uplink_laws.proofs.LeastLemmas.{commands_arrive}
use Rattle.uplink_laws.proofs.SingleLemmas.{taken_once as cell_taken_once}
use Rattle.uplink_laws.proofs.WholeLemmas.{taken_once}
use Rattle.uplink_laws.specs.Flows.{uplink_bounds_of}
use Rattle.uplink_laws.specs.Premise.{AnswersArrive, BothArrive, CanAnswer, CommandsArrive, IsUplinkCopy}
use Rattle.uplink_laws.specs.Singles.{uplink_event_of}
use Rattle.window_config.specs.Endpoints.{IsEndpoint}
use Rattle.window_config.specs.Windows.{ticks_of_ns}
use Rattle.document_traffic.specs.Landing.{answers_of, antenna_for, handed_for, jobs_for, landings_of, leaving_answer, leaving_up, planned_traffic}
use Rattle.document_traffic.specs.Laws.{HasWidths, PlannedUplinkIsTakenInOnce}
use Rattle.document_traffic.specs.Sending.{Leaving, lines_of, source_for}
use Rattle.document_traffic.specs.Undisturbed.{IsTakenInOnce, IsUndisturbedBothWays, answered_for, answers_for, fragments_at}
use Rattle.document_traffic.proofs.AnswerLemmas.{handed_is_sent, sent_is_handed}
use Rattle.document_traffic.proofs.ArrivalLemmas.{arrivals_in_order, in_arrivals, of_arrivals}
use Rattle.document_traffic.proofs.CarriedLemmas.{IsCopyOf, each_has_copy, each_is_copy}
use Rattle.document_traffic.proofs.GenerationLemmas.{each_holds_one}
use Rattle.document_traffic.proofs.LandingLemmas.{are_replayed}
use Rattle.document_traffic.proofs.RadiatedLemmas.{copies, sendable, starts}
use Rattle.document_traffic.proofs.ToneLemmas.{tone_fits}
use Rattle.window_config.specs.declared.delays.TheConstants.{MOST_DELAY}
use Rattle.fh_base.specs.Members.{IsIn}
use Rattle.fh_base.proofs.MadeLists.{at_in, in_all}

-- a cell is reported 2 ms after its symbol's start at most
told_in_time : (s most : ℤ) → s ≤ℤ pos 1536100000000000 → most ≤ℤ pos MOST_DELAY → (s +ℤ ticks_of_ns most) ≤ℤ end_of_time
told_in_time s most h few = omega (arith, ints, h, few)

module _ (d : Document) (is : IsDocument d) (widths : HasWidths d) (valid : IsValid d.config d.plan) (calm : IsUndisturbedBothWays d) where
  can : CanAnswer d.config (antenna_for d)
  can ep e at slot symbol prb =
      let endpoint = in_all IsEndpoint e d.config.endpoints is.config.endpoints.each (at_in ep e d.config.endpoints at) in
      can_pack e.format.method (block_of (antenna_for d) e.id slot symbol prb) endpoint.width (tone_fits d.antenna is.antenna e.id slot symbol prb)

  -- ---- answers arrive

  copy_is : (f : LinkFrame) (a : Arrival) → IsCopyOf d.config.delays.t34 (leaving_answer f) a → IsUplinkCopy d.config f a
  copy_is f a h = record { from = h.from; to = h.to; bytes = h.bytes }

  came : (a : Arrival) → IsIn a (all_arrivals (answers_of d)) → (f : LinkFrame) × IsIn f (handed_for d) × IsUplinkCopy d.config f a
  came a m =
      let t34 = d.config.delays.t34 in
      let x = each_is_copy d Du (leaving_up d) t34 calm.up calm.down.alone a (of_arrivals (answers_of d) a m) in
      let f = sent_is_handed d is valid x.0 x.1 in
      (f.0, f.1, copy_is f.0 a (subst (λ (g : Leaving). IsCopyOf t34 g a) f.2 x.2))

  every : (f : LinkFrame) → IsIn f (handed_for d) → (a : Arrival) × IsIn a (all_arrivals (answers_of d)) × IsUplinkCopy d.config f a
  every f m =
      let a = each_has_copy d Du (leaving_up d) d.config.delays.t34 calm.up calm.down.alone (leaving_answer f) (handed_is_sent d is valid f m) in
      (a.0, in_arrivals (answers_of d) a.0 (are_replayed d Du is valid) a.1, copy_is f a.0 a.2)

  down_arrive : CommandsArrive d.config (lines_of d) (source_for d) (all_arrivals (landings_of d))
  down_arrive = commands_arrive d.config (lines_of d) (source_for d) (all_arrivals (landings_of d)) (copies d is widths valid calm.down)

  up_arrive : AnswersArrive d.config (antenna_for d) (jobs_for d) (all_arrivals (answers_of d))
  up_arrive = record { in_order = arrivals_in_order (answers_of d) (are_replayed d Du is valid); came = came; every = every }

  pub both : BothArrive d.config d.plan (source_for d) (antenna_for d) (all_arrivals (landings_of d)) (all_arrivals (answers_of d))
  both = record { sendable = sendable d is widths valid calm.down; can = can; check = calm.down.check; down_arrive = down_arrive; up_arrive = up_arrive }

  -- ---- so all is taken in

  taken_in : IsTakenInOnce d (planned_traffic d)
  taken_in =
      let down = all_arrivals (landings_of d) in
      let up = all_arrivals (answers_of d) in
      let source = source_for d in
      let antenna = antenna_for d in
      let reported = cells_are_reported Du d.config (planned_traffic d) in
      record {
        jobs = jobs_planned d.config d.plan source down both.sendable both.check both.down_arrive;
        messages = taken_once d.config d.plan source antenna down up both;
        sections = decoded_once d.config d.plan source antenna down up both;
        generations = each_holds_one (uplink_bounds_of d.config) (answered_for d) (sounds d.config d.plan source antenna down up both) (fragments_at Du d (planned_traffic d))
            (delivered d.config d.plan source antenna down up both);
        cells = reported ∙ plan_taken_in d.config d.plan source antenna down up both end_of_time;
        once = λ p symbol prb re m uplink below named.
            (let event = uplink_event_of (answers_for d) (lines_of d) p symbol prb in
            subst (λ (cells : List AirCell). filter (same_cell event) cells ≡ event ∷ []) (sym reported)
            (cell_taken_once d.config d.plan source antenna down up both p symbol prb re end_of_time m uplink below named
            (told_in_time (air_of p.endpoint.numerology p.line.slot symbol) d.config.delays.ta4.max (starts d is widths valid calm.down p symbol prb re m named) is.config.delays.ta4.high)));
      }

pub is_taken_in_once : PlannedUplinkIsTakenInOnce
is_taken_in_once d is widths valid calm = taken_in d is widths valid calm
