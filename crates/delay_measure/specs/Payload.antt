-- The payload of a one-way delay measurement message, as bit fields (eCPRI 2.0, section 3.2.4.6).
use Rattle.std.specs.Prelude.{◌≡◌, ℕ, ℤ, ◌+◌, ◌*◌, List, length}
use Rattle.bfp_codec.specs.Field.{field, signed}
use Rattle.delay_measure.specs.declared.message.DelayMessage.{DelayMessage}

-- Measurement ID
abbrev pub measurement_id : List ℕ → ℕ
measurement_id bytes = field bytes 0 8

-- Action Type
abbrev pub action_type : List ℕ → ℕ
action_type bytes = field bytes 8 8

-- TimeStamp, its seconds
abbrev pub timestamp_seconds : List ℕ → ℕ
timestamp_seconds bytes = field bytes 16 48

-- TimeStamp, its nanoseconds
abbrev pub timestamp_nanoseconds : List ℕ → ℕ
timestamp_nanoseconds bytes = field bytes 64 32

-- Compensation Value, in units of 2^-16 ns
abbrev pub compensation_value : List ℕ → ℤ
compensation_value bytes = signed 64 (field bytes 96 64)

-- the message that a payload begins with: whatever follows its 20 bytes is dummy bytes
abbrev pub message_of : List ℕ → DelayMessage
message_of bytes = record {
  id = measurement_id bytes;
  action = action_type bytes;
  seconds = timestamp_seconds bytes;
  nanoseconds = timestamp_nanoseconds bytes;
  comp = compensation_value bytes;
}

-- these 20 bytes read as the message
pub record WritesMessage (m : DelayMessage) (bytes : List ℕ) : Type 0 where
  pub len : length bytes ≡ 20
  pub reads : message_of bytes ≡ m

-- the value of a timestamp, in nanoseconds
abbrev pub value_of : DelayMessage → ℕ
value_of m = m.seconds * 1000000000 + m.nanoseconds
