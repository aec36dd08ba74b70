-- Where nothing disturbs its schedule, a document's plan radiates, each element once.
use Rattle.std.proofs.Common.{◌≡◌, ℕ, ℤ, pos, ◌≤ℤ◌, true, List, [], ◌∷◌, sym, ◌∙◌, subst, arith}
use Rattle.std.specs.Prelude.{filter}
use Rattle.std.proofs.lemmas.Bool.{and_parts}
use Rattle.std.proofs.lemmas.Int.{ints}
use Rattle.std.proofs.Math.Nat.{lt_of_lt_of_le}
use Rattle.air_source.specs.declared.events.AirCell.{AirCell}
use Rattle.air_source.specs.declared.events.Side.TheVariants.{Ru}
use Rattle.bfp_codec.proofs.Laws.{can_pack}
use Rattle.bfp_codec.specs.Shrunk.{CanPack}
use Rattle.fh_document.specs.Proper.{IsDocument}
use Rattle.fh_document.specs.declared.document.Document.{Document}
use Rattle.fh_base.specs.Air.{air_of}
use Rattle.fh_base.specs.declared.values.Slot.{Slot}
use Rattle.plan_model.specs.Lines.{line_allocation}
use Rattle.plan_model.specs.Sent.{SentFrame}
use Rattle.plan_model.specs.Valid.{IsValid}
use Rattle.plan_model.specs.declared.lines.PlannedLine.{PlannedLine}
use Rattle.replay_laws.specs.Moments.{all_arrivals}
use Rattle.replay_laws.proofs.OnceLemmas.{cells_are_reported}
use Rattle.schedule_laws.proofs.BlockLemmas.{decoded_once}
use Rattle.schedule_laws.proofs.CommandLemmas.{commanded_once}
use Rattle.plan_model.proofs.LineLemmas.{good, start_in_time}
use Rattle.schedule_laws.proofs.WholeLemmas.{delivered, sounds}
use Rattle.schedule_laws.specs.Flows.{bounds_of}
use Rattle.schedule_laws.specs.Premise.{AllArrive}
use Rattle.schedule_laws.specs.Singles.{event_of}
use Rattle.sent_frames.specs.Sources.{id_at}
use Rattle.uplink_laws.proofs.RadiatedLemmas.{arrive, sent_once, sent_radiates}
use Rattle.uplink_laws.proofs.SentRead.{messages_say}
use Rattle.uplink_laws.specs.Frames.{texts_of}
use Rattle.uplink_laws.specs.Radiated.{CopiesArrive, IsSentCopy}
use Rattle.uplink_laws.specs.Sent.{IsSendable}
use Rattle.unit_model.specs.Claims.{cell_at, cell_of, covers, in_mask, names}
use Rattle.unit_model.specs.Meetings.{Arrival}
use Rattle.unit_model.specs.Proper.{IsAt}
use Rattle.unit_model.specs.Standing.{same_cell}
use Rattle.unit_model.specs.Times.{end_of_time}
use Rattle.window_config.specs.Endpoints.{IsEndpoint}
use Rattle.window_config.specs.declared.endpoints.EndpointConfig.{EndpointConfig}
use Rattle.document_traffic.specs.Landing.{landings_of, planned_traffic}
use Rattle.document_traffic.specs.Laws.{HasWidths, PlannedScheduleRadiatesOnce}
use Rattle.document_traffic.specs.Sending.{Leaving, leaving_down, leaving_of, lines_of, sent_for, source_for}
use Rattle.document_traffic.specs.Undisturbed.{IsUndisturbed, RadiatesOnce, blocks_for, fragments_at, messages_for}
use Rattle.document_traffic.proofs.ArrivalLemmas.{arrivals_in_order, in_arrivals, of_arrivals}
use Rattle.document_traffic.proofs.CarriedLemmas.{IsCopyOf, each_has_copy, each_is_copy}
use Rattle.document_traffic.proofs.GenerationLemmas.{each_holds_one}
use Rattle.document_traffic.proofs.LandingLemmas.{are_replayed}
use Rattle.document_traffic.proofs.LineLemmas.{lines_fit}
use Rattle.document_traffic.proofs.ToneLemmas.{tone_fits}
use Rattle.unit_model.proofs.ClaimLemmas.{from_within, covers_is}
use Rattle.fh_base.specs.Members.{IsIn}
use Rattle.fh_base.proofs.MadeLists.{at_in, in_all, in_map, of_map}

by_the_end : (s : ℤ) → s ≤ℤ pos 1536100000000000 → s ≤ℤ end_of_time
by_the_end s h = omega (arith, ints, h)

module _ (d : Document) (is : IsDocument d) (widths : HasWidths d) (valid : IsValid d.config d.plan) (calm : IsUndisturbed d) where
  -- ---- what is sent can be packed

  can : (ep : ℕ) (e : EndpointConfig) → IsAt d.config.endpoints ep e → (slot : Slot) (symbol prb : ℕ) → CanPack e.format.method (source_for d (cell_at ep true slot symbol prb))
  can ep e at slot symbol prb =
      let endpoint = in_all IsEndpoint e d.config.endpoints is.config.endpoints.each (at_in ep e d.config.endpoints at) in
      can_pack e.format.method (source_for d (cell_at ep true slot symbol prb)) endpoint.width (tone_fits d.source is.source (id_at d.config.endpoints ep) slot symbol prb)

  pub sendable : IsSendable d.config d.plan (source_for d)
  sendable = record {
    config = is.config;
    lines_fit = lines_fit d.plan is.plan;
    valid = valid;
    ids = widths.ids;
    num_prbs = widths.num_prbs;
    can = can;
  }

  -- ---- copies arrive

  copy_is : (f : SentFrame) (a : Arrival) → IsCopyOf d.config.delays.t12 (leaving_of d f) a → IsSentCopy d.config (source_for d) f a
  copy_is f a h = record { from = h.from; to = h.to; bytes = h.bytes }

  came : (a : Arrival) → IsIn a (all_arrivals (landings_of d)) → (f : SentFrame) × IsIn f (sent_for d) × IsSentCopy d.config (source_for d) f a
  came a m =
      let t12 = d.config.delays.t12 in
      let x = each_is_copy d Ru (leaving_down d) t12 calm.carried calm.alone a (of_arrivals (landings_of d) a m) in
      let f = of_map (leaving_of d) x.0 (sent_for d) x.1 in
      (f.0, f.1, copy_is f.0 a (subst (λ (g : Leaving). IsCopyOf t12 g a) f.2 x.2))

  every : (f : SentFrame) → IsIn f (sent_for d) → (a : Arrival) × IsIn a (all_arrivals (landings_of d)) × IsSentCopy d.config (source_for d) f a
  every f m =
      let a = each_has_copy d Ru (leaving_down d) d.config.delays.t12 calm.carried calm.alone (leaving_of d f) (in_map (leaving_of d) f (sent_for d) m) in
      (a.0, in_arrivals (landings_of d) a.0 (are_replayed d Ru is valid) a.1, copy_is f a.0 a.2)

  pub copies : CopiesArrive d.config (lines_of d) (source_for d) (all_arrivals (landings_of d))
  copies = record { check = calm.check; in_order = arrivals_in_order (landings_of d) (are_replayed d Ru is valid); came = came; every = every }

  all_arrive : AllArrive d.config d.plan (texts_of d.config (lines_of d) (source_for d)) (all_arrivals (landings_of d))
  all_arrive = arrive d.config d.plan (source_for d) sendable (all_arrivals (landings_of d)) copies

  -- ---- each symbol of a line starts in time

  pub starts : (p : PlannedLine) (symbol prb re : ℕ) → IsIn p (lines_of d) → names (line_allocation p) (cell_of (line_allocation p) symbol prb) re ≡ true
      → air_of p.endpoint.numerology p.line.slot symbol ≤ℤ pos 1536100000000000
  starts p symbol prb re m named =
      let a = line_allocation p in
      let cell = cell_of a symbol prb in
      let cover = covers_is a cell (and_parts (covers a cell) (in_mask a.mask re) named).0 in
      let g = good d.config d.plan is.config (lines_fit d.plan is.plan) valid p m in
      let below = lt_of_lt_of_le (from_within p.line.symbol p.line.count symbol cover.symbol) g.within in
      (start_in_time d.config.endpoints p symbol g below).1

  radiates : RadiatesOnce d (planned_traffic d)
  radiates =
      let text = texts_of d.config (lines_of d) (source_for d) in
      let arrivals = all_arrivals (landings_of d) in
      let say = messages_say d.config d.plan (source_for d) sendable in
      let reported = cells_are_reported Ru d.config (planned_traffic d) in
      record {
        commands = commanded_once d.config d.plan text arrivals all_arrive;
        messages = decoded_once d.config d.plan text (blocks_for d) arrivals all_arrive say;
        generations = each_holds_one (bounds_of d.config) (messages_for d) (sounds d.config d.plan text (blocks_for d) arrivals all_arrive say) (fragments_at Ru d (planned_traffic d))
            (delivered d.config d.plan text (blocks_for d) arrivals all_arrive say);
        cells = reported ∙ sent_radiates d.config d.plan (source_for d) arrivals sendable copies end_of_time;
        once = λ p symbol prb re m down busy below named.
            (let event = event_of (blocks_for d) (lines_of d) p symbol prb in
            subst (λ (cells : List AirCell). filter (same_cell event) cells ≡ event ∷ []) (sym reported)
            (sent_once d.config d.plan (source_for d) arrivals sendable copies p symbol prb re end_of_time m down busy below named
            (by_the_end (air_of p.endpoint.numerology p.line.slot symbol) (starts p symbol prb re m named))));
      }

pub radiates_once : PlannedScheduleRadiatesOnce
radiates_once d is widths valid calm = radiates d is widths valid calm
