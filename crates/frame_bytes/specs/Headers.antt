-- What the headers of messages take from a frame and an endpoint (O-RAN.WG4.CUS, application headers).
use Rattle.std.specs.Prelude.{ℕ, ℤ, pos}
use Rattle.std.specs.Int.{int_gap, int_rem_euclid}
use Rattle.window_config.specs.declared.endpoints.EndpointConfig.{EndpointConfig}
use Rattle.frame_bytes.specs.declared.messages.Carrier.{Carrier}

-- frameId: the frame's low 8 bits
abbrev pub frame_id_of : ℤ → ℕ
frame_id_of frame = int_gap (pos 0) (int_rem_euclid frame (pos 256))

-- what an endpoint's messages have in common
abbrev pub carrier_of : EndpointConfig → Carrier
carrier_of e = record { format = e.format; prbs = e.prbs }
