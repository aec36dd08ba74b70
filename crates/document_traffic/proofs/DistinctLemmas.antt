-- In a document the frames of delay measurement are told from all others.
use Rattle.std.proofs.Common.{◌≡◌, ℕ, ℤ, pos, ◌+ℤ◌, ◌<◌, ◌≤ℤ◌, ◌^◌, Bool, true, false, if◌then◌else◌, List, [], ◌∷◌, length, Some, None, arith}
use Rattle.std.specs.Prelude.{All, nat_lt}
use Rattle.std.specs.List.{flat_map}
use Rattle.std.specs.Option.{option_to_list}
use Rattle.std.proofs.lemmas.Int.{ints}
use Rattle.std.proofs.lemmas.List.Elements.{All-append, All-cons, All-map, All-nil}
use Rattle.air_source.specs.declared.events.Side.{Side}
use Rattle.air_source.specs.declared.events.Side.TheVariants.{Ru, Du}
use Rattle.bfp_codec.proofs.Field.{field_fits}
use Rattle.delay_laws.proofs.Keeping.{all_kept}
use Rattle.delay_laws.specs.Ticks.{Begin, Setting}
use Rattle.delay_measure.specs.Payload.{message_of}
use Rattle.delay_measure.specs.declared.message.DelayMessage.{DelayMessage}
use Rattle.document_traffic.specs.Settings.{begin_of, compensation_of, setting_of}
use Rattle.document_traffic.proofs.WidthLemmas.{widths_are}
use Rattle.document_traffic.specs.Landing.{injected_to}
use Rattle.ecpri_frames.specs.Gathering.{whole_messages}
use Rattle.ecpri_frames.specs.Messages.{Message, is_delay}
use Rattle.fh_document.specs.Proper.{AreComps}
use Rattle.fh_document.specs.declared.document.Document.{Document}
use Rattle.replay_laws.specs.Moments.{landing_at}
use Rattle.unit_model.specs.Meetings.{Arrival}
use Rattle.unit_model.specs.Radiated.{first_clock}
use Rattle.unit_model.specs.Times.{end_of_time, tick_count}
use Rattle.unit_laws.proofs.HistoryTicks.{clock_begins}
use Rattle.document_traffic.proofs.MadeLemmas.{IsIdHeard, IsIdSent, ids_kept, sent_fits}
use Rattle.document_traffic.proofs.PlainLemmas.{delayed_plain}
use Rattle.document_traffic.proofs.StampLemmas.{AreStamps, receiving_fits, sending_fits}
use Rattle.document_traffic.specs.MeasuredLaws.{DocumentsAreDistinct}
use Rattle.document_traffic.specs.Measured.{delay_messages, delays_of, others_of, read_as}
use Rattle.fh_base.proofs.EachLemmas.{gap_is}
use Rattle.fh_base.proofs.Orders.{frame_low_is}

-- ---- ids that are read

abbrev IsId : DelayMessage → Type 0
IsId m = m.id < 2 ^ 8

all_flat : {X : Type 0} (f : X → List DelayMessage) → ((x : X) → All IsId (f x)) → (xs : List X) → All IsId (flat_map f xs)
all_flat f each [] = All-nil IsId
all_flat f each (x ∷ xs) = All-append IsId (f x) (flat_map f xs) (each x) (all_flat f each xs)

payload_ids : (payload : List ℕ) → All IsId (option_to_list (read_as payload))
payload_ids payload = go (nat_lt (length payload) 20)
  where
    go : (b : Bool) → All IsId (option_to_list (if b then None else Some (message_of payload)))
    go true = All-nil IsId
    go false = All-cons IsId (message_of payload) [] (field_fits payload 0 8) (All-nil IsId)

message_ids : (m : Message) → All IsId (delays_of m)
message_ids m = go (is_delay m)
  where
    go : (b : Bool) → All IsId (if b then option_to_list (read_as m.payload) else [])
    go true = payload_ids m.payload
    go false = All-nil IsId

others_ids : (d : Document) (side : Side) (t : ℤ) → All IsId (others_of d side t)
others_ids d side t = all_flat (λ (a : Arrival). delay_messages a.frame) (λ a. all_flat delays_of message_ids (whole_messages a.frame)) (landing_at (injected_to side d) t)

-- ---- stamps of a document

below_end : (first end : ℤ) (count k : ℕ) → first +ℤ pos count ≡ end +ℤ pos 1 → k < count → (first +ℤ pos k) ≤ℤ end
below_end first end count k is lt = omega (arith, ints, is, lt)

-- a tick that is gone over is none after the end of time
tick_high : (k : ℕ) → k < tick_count → (first_clock +ℤ pos k) ≤ℤ end_of_time
tick_high k lt = below_end first_clock end_of_time tick_count k (gap_is first_clock (end_of_time +ℤ pos 1) clock_begins) lt

stamps : (d : Document) → AreComps d.comps → (t : ℤ) → first_clock ≤ℤ t → t ≤ℤ end_of_time → (side : Side) → AreStamps (compensation_of d side) t
stamps d are t low high Ru = record {
  sending = sending_fits t d.comps.ru_sending low high are.ru_sending.low are.ru_sending.high;
  receiving = receiving_fits t d.comps.ru_receiving low high are.ru_receiving.low are.ru_receiving.high;
}
stamps d are t low high Du = record {
  sending = sending_fits t d.comps.du_sending low high are.du_sending.low are.du_sending.high;
  receiving = receiving_fits t d.comps.du_receiving low high are.du_receiving.low are.du_receiving.high;
}

-- ---- all that is sent

pub documents_are_distinct : DocumentsAreDistinct
documents_are_distinct d side replayed =
    let is = replayed.document in
    let w : Setting = setting_of d (others_of d) in
    let ids = all_kept w IsIdSent IsIdHeard (ids_kept w (All-map (λ (b : Begin). b.id < 2 ^ 8) begin_of d.measures (λ k m lt. (is.measures k m lt).id)) (others_ids d)) first_clock tick_count in
    let rest = sent_fits w first_clock tick_count (λ k lt. stamps d is.comps (first_clock +ℤ pos k) (frame_low_is first_clock k) (tick_high k lt)) in
    record {
      others_have_none = delayed_plain d is replayed.valid (widths_are d is) side;
      fit = λ k f lt. record {
        id = (ids.flights side k f lt).sent;
        action = (rest.sent side k f lt).action;
        seconds = (rest.sent side k f lt).seconds;
        nanoseconds = (rest.sent side k f lt).nanoseconds;
        comp = (rest.sent side k f lt).comp;
      };
    }
