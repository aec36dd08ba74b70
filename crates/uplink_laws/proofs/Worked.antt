-- The definitions at values worked out by hand, each by computing.
use Rattle.std.proofs.Common.{◌≡◌, ℕ, zero, suc, pos, negsuc, true, List, [], ◌∷◌, ◌++◌, refl}
use Rattle.bfp_codec.specs.Field.{digits}
use Rattle.fh_base.specs.Numbering.{offset_at, ordinary_at}
use Rattle.fh_base.specs.declared.spacing.Spacing.TheVariants.{Khz30}
use Rattle.bfp_codec.specs.declared.samples.Iq.{Iq}
use Rattle.bfp_codec.specs.declared.methods.Method.TheVariants.{Bfp}
use Rattle.bfp_codec.specs.Layout.{be_bytes, number_bytes, packed_of}
use Rattle.window_config.specs.declared.config.Config.{Config}
use Rattle.window_config.specs.declared.endpoints.EndpointConfig.{EndpointConfig}
use Rattle.window_config.specs.declared.plan.PlanKind.{PlanKind}
use Rattle.window_config.specs.declared.plan.PlanKind.TheVariants.{Down, Up, Idle}
use Rattle.window_config.specs.declared.plan.PlanLine.{PlanLine}
use Rattle.plan_model.specs.Examples.{config_with, endpoint_of}
use Rattle.plan_model.specs.Sent.{SentFrame}
use Rattle.plan_model.specs.Streams.{Part}
use Rattle.plan_model.specs.declared.streams.Stream.{Stream}
use Rattle.plan_model.specs.declared.streams.Stream.TheVariants.{DownCommands, UpCommands, DownData}
use Rattle.frame_bytes.specs.Messages.{message_of, section_of}
use Rattle.sent_frames.specs.Frames.{sent_bytes}
use Rattle.sent_frames.specs.Messages.{Source}

-- symbols 2 to 6 of frame 300, subframe 3, slot 1; a PRB from 10 on, section 7, beam 9
abbrev line_of : PlanKind → ℕ → ℕ → PlanLine
line_of kind prb num = record {
  kind = kind;
  id = 4660;
  slot = record { frame = pos 300; subframe = 3; slot = 1 };
  symbol = 2;
  count = 5;
  start_prb = prb;
  num_prb = num;
  mask = 4095;
  section = 7;
  beam = 9;
}

-- id 1234 in base 16, 30 kHz, 106 PRBs without compression, static
abbrev ordinary_one : EndpointConfig
ordinary_one = record (endpoint_of (ordinary_at Khz30) 106) { id = 4660 }

-- timeOffset 1,000, cpLength 3,168, and 9 bits of block floating point, dynamic
abbrev offset_one : EndpointConfig
offset_one = record (endpoint_of (offset_at 1000 3168 Khz30) 106) { id = 4660; format = record { dynamic = true; method = Bfp 9 } }

abbrev part_of : EndpointConfig → PlanLine → Part
part_of e line = record { planned = record { index = 0; ep = 0; endpoint = e; line = line }; symbol = 2 }

-- frame `sub` of message 298, which is 2a in base 16 modulo 256
abbrev frame_of : Stream → EndpointConfig → PlanLine → List PlanLine → ℕ → SentFrame
frame_of stream e line [] sub = record { at = pos 0; ep = 0; endpoint = e; stream = stream; message = record { first = part_of e line; more = [] }; number = 298; sub = sub }
frame_of stream e line (next ∷ lines) sub = record {
  at = pos 0;
  ep = 0;
  endpoint = e;
  stream = stream;
  message = record { first = part_of e line; more = part_of e next ∷ [] };
  number = 298;
  sub = sub;
}

-- twelve samples (PRB, -1)
abbrev source : Source
source cell =
    let s : Iq = record { i = pos cell.prb; q = negsuc 0 } in
    s ∷ s ∷ s ∷ s ∷ s ∷ s ∷ s ∷ s ∷ s ∷ s ∷ s ∷ s ∷ []

-- 100 bytes a frame
abbrev config : Config
config = record (config_with 2) { fragment = 100 }

-- 10 02 00 14 12 34 2a 80, 90 2c 30 42 01 01 00 00, 00 70 0a 04 ff f5 00 09
down_command : sent_bytes config source (frame_of DownCommands ordinary_one (line_of Down 10 4) [] 0)
    ≡ 16 ∷ 2 ∷ 0 ∷ 20 ∷ 18 ∷ 52 ∷ 42 ∷ 128 ∷ 144 ∷ 44 ∷ 48 ∷ 66 ∷ 1 ∷ 1 ∷ 0 ∷ 0 ∷ 0 ∷ 112 ∷ 10 ∷ 4 ∷ 255 ∷ 245 ∷ 0 ∷ 9 ∷ []
unfolding be_bytes
down_command = refl

-- 10 02 00 1c 12 34 2a 80, 10 2c 30 42 01 03 03 e8 01 0c 60 91, 00 70 0a 04 ff f5 00 09 00 00 00 00
up_command : sent_bytes config source (frame_of UpCommands offset_one (line_of Up 10 4) [] 0)
    ≡ 16 ∷ 2 ∷ 0 ∷ 28 ∷ 18 ∷ 52 ∷ 42 ∷ 128 ∷ 16 ∷ 44 ∷ 48 ∷ 66 ∷ 1 ∷ 3 ∷ 3 ∷ 232 ∷ 1 ∷ 12 ∷ 96 ∷ 145
    ∷ 0 ∷ 112 ∷ 10 ∷ 4 ∷ 255 ∷ 245 ∷ 0 ∷ 9 ∷ 0 ∷ 0 ∷ 0 ∷ 0 ∷ []
unfolding be_bytes
up_command = refl

-- 10 02 00 18 12 34 2a 80, 90 2c 30 42 01 00 00 00 01 00 00 00, 00 70 0a 04 ff f5 00 00: no beam
idle_command : sent_bytes config source (frame_of DownCommands ordinary_one (line_of Idle 10 4) [] 0)
    ≡ 16 ∷ 2 ∷ 0 ∷ 24 ∷ 18 ∷ 52 ∷ 42 ∷ 128 ∷ 144 ∷ 44 ∷ 48 ∷ 66 ∷ 1 ∷ 0 ∷ 0 ∷ 0 ∷ 1 ∷ 0 ∷ 0 ∷ 0 ∷ 0 ∷ 112 ∷ 10 ∷ 4 ∷ 255 ∷ 245 ∷ 0 ∷ 0 ∷ []
unfolding be_bytes
idle_command = refl

times : ℕ → List ℕ → List ℕ
times zero bytes = []
times (suc n) bytes = bytes ++ times n bytes

-- two sections of a PRB each: 108 bytes in two frames, of which the first ends in the second section's tenth sample
first_fragment : sent_bytes config source (frame_of DownData ordinary_one (line_of Down 10 1) (line_of Down 11 1 ∷ []) 0)
    ≡ (16 ∷ 0 ∷ 0 ∷ 104 ∷ 18 ∷ 52 ∷ 42 ∷ 0 ∷ 144 ∷ 44 ∷ 48 ∷ 66 ∷ 0 ∷ 112 ∷ 10 ∷ 1 ∷ []) ++ (times 12 (0 ∷ 10 ∷ 255 ∷ 255 ∷ []) ++ (0 ∷ 112 ∷ 11 ∷ 1 ∷ times 10 (0 ∷ 11 ∷ 255 ∷ 255 ∷ [])))
unfolding be_bytes number_bytes packed_of digits message_of section_of times
first_fragment = refl

last_fragment : sent_bytes config source (frame_of DownData ordinary_one (line_of Down 10 1) (line_of Down 11 1 ∷ []) 1)
    ≡ 16 ∷ 0 ∷ 0 ∷ 12 ∷ 18 ∷ 52 ∷ 42 ∷ 129 ∷ 0 ∷ 11 ∷ 255 ∷ 255 ∷ 0 ∷ 11 ∷ 255 ∷ 255 ∷ []
unfolding be_bytes number_bytes packed_of digits message_of section_of
last_fragment = refl
