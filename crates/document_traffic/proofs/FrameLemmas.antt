-- A unit counts the frame of a message of delay measurement once and reads it back as this message.
use Rattle.std.proofs.Common.{◌≡◌, ℤ, List, [], ◌∷◌, length, refl, ap, ◌∙◌, arith}
use Rattle.std.specs.List.{flat_map}
use Rattle.std.proofs.lemmas.Bool.{le-ltb}
use Rattle.air_source.specs.declared.events.Side.{Side}
use Rattle.bfp_codec.proofs.Twos.{signed_twos, twos_fits}
use Rattle.bfp_codec.specs.Field.{field, signed}
use Rattle.delay_measure.specs.declared.message.DelayMessage.{DelayMessage}
use Rattle.delay_measure.specs.Payload.{message_of}
use Rattle.delay_model.proofs.FrameLemmas.{one_message, payload_long, payload_of, told_as}
use Rattle.delay_model.specs.Frames.{delay_frame, payload_fields}
use Rattle.ecpri_frames.specs.Gathering.{whole_messages}
use Rattle.ecpri_frames.specs.Messages.{Message}
use Rattle.fault_counters.specs.declared.kinds.Counter.TheVariants.{Delay}
use Rattle.frame_bytes.proofs.Fields.{AreAt, AreSmall, at_fields}
use Rattle.unit_model.specs.Meetings.{Ignored, meet, meetings, met_in}
use Rattle.fh_base.specs.Lists.{onto}
use Rattle.document_traffic.specs.MeasuredLaws.{IsDelayMessage}
use Rattle.document_traffic.specs.Measured.{delay_messages, delays_of}
use Rattle.unit_model.specs.Reports.{met}
use Rattle.window_config.specs.declared.config.Config.{Config}

counted_one : (side : Side) (c : _) (at : ℤ) (ms : List Message) (m : DelayMessage) → ms ≡ told_as m ∷ [] → onto [] (met_in side c at ms) ≡ Ignored Delay ∷ []
unfolding onto meet
counted_one side c at ms m is = rw is refl

-- a unit counts the frame, whatever the message, and makes nothing else of it: it is no command and no fragment of data
pub frames_are_counted : (side : Side) (c : Config) (at : ℤ) (m : DelayMessage) → met side c (record { at = at; frame = delay_frame m } ∷ []) ≡ Ignored Delay ∷ []
unfolding meetings
frames_are_counted side c at m = counted_one side c.endpoints at (whole_messages (delay_frame m)) m (one_message m)

-- ---- it is read as it, where its numbers are in their fields' widths

payload_small : (m : DelayMessage) → IsDelayMessage m → AreSmall (payload_fields m)
unfolding AreSmall
payload_small m is = (is.id, (is.action, (is.seconds, (is.nanoseconds, (twos_fits 64 m.comp (omega arith) is.comp, tt)))))

read_back : (m : DelayMessage) → IsDelayMessage m → message_of (payload_of m) ≡ m
unfolding AreAt
read_back m is =
    let payload = payload_of m in
    let fields : AreAt payload 0 (payload_fields m) = at_fields 20 (payload_fields m) refl (payload_small m is) in
    let id : field payload 0 8 ≡ m.id = fields.0 in
    let action : field payload 8 8 ≡ m.action = fields.1.0 in
    let seconds : field payload 16 48 ≡ m.seconds = fields.1.1.0 in
    let nanoseconds : field payload 64 32 ≡ m.nanoseconds = fields.1.1.1.0 in
    let comp : signed 64 (field payload 96 64) ≡ m.comp = ap (signed 64) fields.1.1.1.1.0 ∙ signed_twos 64 m.comp (omega arith) is.comp in
    rw (id, action, seconds, nanoseconds, comp) refl

pub frames_are_read : (m : DelayMessage) → IsDelayMessage m → delay_messages (delay_frame m) ≡ m ∷ []
frames_are_read m is =
    ap (λ (ms : List Message). flat_map delays_of ms) (one_message m)
    ∙ (let long = le-ltb (length (payload_of m)) 20 (omega (arith, payload_long m)) in rw (long, read_back m is) refl)
