-- Time stamps with their compensation, and the delay that two of them give (eCPRI 2.0, section 3.2.4.6).
--
-- Times are in ticks of 1/1536 ns and compensations in units of 2^-16 ns. Both are counted in 1/196608 ns, of which a
-- tick has 128 and a unit of compensation 3. Times and compensations are 0 or more, so that `nat_abs` is the number itself.
use Rattle.std.specs.Prelude.{ℕ, ℤ, pos, ◌+◌, ◌-◌, ◌*◌, ◌/◌, ◌%◌, ◌+ℤ◌, ◌-ℤ◌, nat_abs}
use Rattle.delay_measure.specs.declared.message.DelayMessage.{DelayMessage}
use Rattle.delay_measure.specs.declared.stamps.Stamp.{Stamp}

-- the whole nanoseconds in t - c, or 0 where c exceeds t
abbrev pub sending_ns : ℤ → ℤ → ℕ
sending_ns t c = (nat_abs t * 128 - nat_abs c * 3) / 196608

-- the whole nanoseconds in t + c
abbrev pub receiving_ns : ℤ → ℤ → ℕ
receiving_ns t c = (nat_abs t * 128 + nat_abs c * 3) / 196608

-- the stamp of a message that is sent at time t with compensation c
abbrev pub sending_stamp : ℤ → ℤ → Stamp
sending_stamp t c = record { nanoseconds = sending_ns t c; comp = c }

-- the stamp of a message that is received at time t with compensation c
abbrev pub receiving_stamp : ℤ → ℤ → Stamp
receiving_stamp t c = record { nanoseconds = receiving_ns t c; comp = c }

-- (t2 - c2) - (t1 + c1) in units of 2^-16 ns, for t1 and t2 in nanoseconds
abbrev pub delay_between : ℕ → ℤ → ℕ → ℤ → ℤ
delay_between t1 c1 t2 c2 = (pos (t2 * 65536) -ℤ c2) -ℤ (pos (t1 * 65536) +ℤ c1)

-- a message with a stamp and its compensation
abbrev pub stamped : ℕ → ℕ → Stamp → DelayMessage
stamped id action stamp = record {
  id = id;
  action = action;
  seconds = stamp.nanoseconds / 1000000000;
  nanoseconds = stamp.nanoseconds % 1000000000;
  comp = stamp.comp;
}

-- a message whose timestamp and compensation are 0
abbrev pub blank : ℕ → ℕ → DelayMessage
blank id action = record { id = id; action = action; seconds = 0; nanoseconds = 0; comp = pos 0 }
