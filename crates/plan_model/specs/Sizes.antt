-- How large a message is, while parts are added to it (O-RAN.WG4.CUS, U-plane messages; the cut is this project's profile).
use Rattle.std.specs.Prelude.{ℕ, ◌+◌, Bool, ◌&&◌, nat_lt, nat_le, length}
use Rattle.unit_model.specs.Terms.{MESSAGE_BYTES}
use Rattle.plan_model.specs.Packs.{Message, PartFields, parts_of, size_of}
use Rattle.plan_model.specs.declared.sizes.MessageSize.{MessageSize}

abbrev pub measured : {P : Type 0} → PartFields P → Message P → MessageSize
measured f m = record { parts = length (parts_of m); bytes = size_of f m }

-- of one part of so many bytes, after the 4 of the header
abbrev pub of_one : ℕ → MessageSize
of_one n = record { parts = 1; bytes = 4 + n }

-- a part of so many bytes more has room, where a message has at most so many parts and 16,384 bytes
abbrev pub has_room : ℕ → MessageSize → ℕ → Bool
has_room most s n = nat_lt s.parts most && nat_le (s.bytes + n) MESSAGE_BYTES

abbrev pub larger : MessageSize → ℕ → MessageSize
larger s n = record { parts = s.parts + 1; bytes = s.bytes + n }
