-- What radiates where copies of the very bytes are received.
use Rattle.std.proofs.Common.{◌≡◌, ℕ, ℤ, ◌+ℤ◌, inl, inr, List, [], map, refl, ap, sym, subst}
use Rattle.air_source.specs.declared.events.Side.TheVariants.{Ru}
use Rattle.ecpri_frames.specs.Gathering.{whole_messages}
use Rattle.window_config.specs.Windows.{ticks_of_ns}
use Rattle.window_config.specs.declared.config.Config.{Config}
use Rattle.window_config.specs.declared.plan.PlanLine.{PlanLine}
use Rattle.unit_model.specs.Meetings.{Arrival, met_in}
use Rattle.plan_model.specs.Lines.{planned}
use Rattle.plan_model.specs.Sent.{SentFrame, sent}
use Rattle.schedule_laws.specs.Least.{least_arrival}
use Rattle.schedule_laws.specs.Premise.{AllArrive, IsCopyOf, IsReadBy}
use Rattle.schedule_laws.proofs.CellLemmas.{plan_radiates}
use Rattle.schedule_laws.proofs.LeastLemmas.{least_arrive, least_is, least_under}
use Rattle.schedule_laws.proofs.SingleLemmas.{radiates_once}
use Rattle.sent_frames.specs.Frames.{sent_bytes}
use Rattle.uplink_laws.specs.Frames.{blocks_of, texts_of}
use Rattle.sent_frames.specs.Messages.{Source}
use Rattle.uplink_laws.specs.Radiated.{CopiesArrive, IsSentCopy, LeastCopiesArrive, SentCellRadiatesOnce, SentPlanRadiates}
use Rattle.uplink_laws.specs.Sent.{IsSendable}
use Rattle.uplink_laws.proofs.SentRead.{frames_are_read, messages_say}
use Rattle.fh_base.specs.Members.{IsIn}
use Rattle.fh_base.proofs.MadeLists.{in_map, in_onto, of_map, onto_right}

module _ (c : Config) (lines : List PlanLine) (source : Source) (s : IsSendable c lines source) where
  pub copy_is : (f : SentFrame) (a : Arrival) → IsIn f (sent c (planned c.endpoints lines)) → IsSentCopy c source f a → IsCopyOf c (texts_of c (planned c.endpoints lines) source) f a
  copy_is f a m copy =
      let text = texts_of c (planned c.endpoints lines) source in
      let same : a ≡ least_arrival (sent_bytes c source) f a.at = ap (λ (bytes : List ℕ). let b : Arrival = record { at = a.at; frame = bytes } in b) copy.bytes in
      record {
        from = copy.from;
        to = copy.to;
        read = subst (λ (b : Arrival). IsReadBy f.stream c text f b (met_in Ru c.endpoints b.at (whole_messages b.frame))) (sym same) (frames_are_read c lines source s f m a.at);
      }

  pub arrive : (arrivals : List Arrival) → CopiesArrive c (planned c.endpoints lines) source arrivals → AllArrive c lines (texts_of c (planned c.endpoints lines) source) arrivals
  arrive arrivals h = record {
    config = s.config;
    lines_fit = s.lines_fit;
    valid = s.valid;
    check = h.check;
    in_order = h.in_order;
    came = λ a m. (let w = h.came a m in (w.0, w.1, copy_is w.0 a w.1 w.2));
    every = λ f m. (let w = h.every f m in (w.0, w.1, copy_is f w.0 m w.2));
  }

pub sent_radiates : SentPlanRadiates
sent_radiates c lines source arrivals s h to =
    plan_radiates c lines (texts_of c (planned c.endpoints lines) source) (blocks_of c source) arrivals (arrive c lines source s arrivals h) (messages_say c lines source s) to

pub sent_once : SentCellRadiatesOnce
sent_once c lines source arrivals s h =
    radiates_once c lines (texts_of c (planned c.endpoints lines) source) (blocks_of c source) arrivals (arrive c lines source s arrivals h) (messages_say c lines source s)

-- ---- the least delays

pub least_come : LeastCopiesArrive
least_come c lines source s check =
    let ps = planned c.endpoints lines in
    let k = ticks_of_ns c.delays.t12.min in
    let come = λ (f : SentFrame). least_arrival (sent_bytes c source) f (f.at +ℤ k) in
    let copy = λ (f : SentFrame). (let w : IsSentCopy c source f (come f) = record { from = least_is f.at k; to = least_under f.at c.delays.t12.min c.delays.t12.max s.config.delays.t12.order; bytes = refl } in w) in
    record {
      check = check;
      in_order = (least_arrive c lines (texts_of c ps source) (sent_bytes c source) s.config s.lines_fit s.valid check (frames_are_read c lines source s)).in_order;
      came = λ a m.
          (let i : IsIn a (map come (sent c ps)) = elim (in_onto a [] (map come (sent c ps)) m) [ inl none ↦ absurd none | inr t ↦ t ] in
          let w = of_map come a (sent c ps) i in
          (w.0, w.1, subst (λ (x : Arrival). IsSentCopy c source w.0 x) (sym w.2) (copy w.0)));
      every = λ f m. (come f, onto_right (come f) [] (map come (sent c ps)) (in_map come f (sent c ps) m), copy f);
    }
