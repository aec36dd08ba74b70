-- The definitions at values that were worked out by hand. The endpoint has id 0, 30 kHz, 106 PRBs, no compression and a static format;
-- where nothing else is said, frames leave from 50,000 to 171,000 ns after their symbol's start, and carry 1,492 bytes.
use Rattle.std.specs.Prelude.{◌≡◌, ℕ, ℤ, pos, neg_ℤ, negsuc, true, false, List, [], ◌∷◌, map}
use Rattle.window_config.specs.Usual.{usual_delays}
use Rattle.window_config.specs.declared.config.Config.{Config}
use Rattle.air_source.specs.declared.links.LinkFrame.{LinkFrame}
use Rattle.unit_model.specs.Uplink.{symbol_jobs}
use Rattle.unit_model.specs.declared.allocations.Allocation.{Allocation}
use Rattle.unit_model.specs.declared.jobs.UplinkJob.{UplinkJob}
use Rattle.plan_model.specs.Examples.{config_with, slot_0, usual, frame_1}
use Rattle.plan_model.specs.Packs.{alone, parts_of}
use Rattle.uplink_model.specs.Frames.{Antenna, uplink_fragment_bytes, uplink_fragment_field, frames_behind}
use Rattle.uplink_model.specs.Messages.{uplink_messages_of, number_behind}
use Rattle.uplink_model.specs.Sent.{leaving_at}
use Rattle.frame_bytes.specs.Headers.{frame_id_of}

-- ---- jobs

-- the job of a section of symbol 0 of frame 1: its endpoint, filterIndex, id, startPrbc and numPrbc
abbrev pub job : ℕ → ℕ → ℕ → ℕ → ℕ → UplinkJob
job ep filter section start_prb num_prb = record {
  ep = ep;
  s = record { 0 = frame_1 };
  slot = slot_0;
  symbol = 0;
  filter = filter;
  section = section;
  start_prb = start_prb;
  num_prb = num_prb;
}

-- that of its symbol 1
abbrev pub next_job : UplinkJob → UplinkJob
next_job j = record j { s = record { 0 = pos 15415600000 }; symbol = 1 }

-- an uplink section that was accepted: its filterIndex, id, startPrbc and numPrbc
abbrev pub worked_allocation : ℕ → ℕ → ℕ → ℕ → Allocation
worked_allocation filter section start_prb num_prb = record {
  ep = 0;
  endpoint = usual;
  down = false;
  idle = false;
  slot = slot_0;
  symbol = 0;
  num_symbol = 1;
  start_prb = start_prb;
  num_prb = num_prb;
  mask = 15;
  section = section;
  filter = filter;
}

abbrev pub worked_job_sections : List UplinkJob → List ℕ
worked_job_sections js = map (λ j. j.section) js

-- the newest of what was accepted is first
abbrev pub sent_of : List Allocation → List ℕ
sent_of newest_first = worked_job_sections (symbol_jobs newest_first 0 usual slot_0 0)

pub record OrderIsAsWorked : Type 0 where
  pub by_prb : sent_of (worked_allocation 0 6 0 1 ∷ worked_allocation 0 5 1 1 ∷ []) ≡ 6 ∷ 5 ∷ []
  -- numPrbc 0 goes by the startPrbc that it carries
  pub all_prbs : sent_of (worked_allocation 0 5 0 1 ∷ worked_allocation 0 6 5 0 ∷ []) ≡ 5 ∷ 6 ∷ []
  pub by_filter : map (λ j. j.filter) (symbol_jobs (worked_allocation 0 5 0 1 ∷ worked_allocation 1 5 0 1 ∷ []) 0 usual slot_0 0) ≡ 0 ∷ 1 ∷ []

-- ---- messages

abbrev pub packed_with : ℕ → List UplinkJob → List (List ℕ)
packed_with pack js = map (λ m. worked_job_sections (parts_of m)) (uplink_messages_of (config_with pack) js)

pub record MessagesAreAsWorked : Type 0 where
  pub each_alone : packed_with 1 (job 0 0 1 0 1 ∷ job 0 0 2 1 1 ∷ []) ≡ (1 ∷ []) ∷ (2 ∷ []) ∷ []
  pub two_filters : packed_with 2 (job 0 0 1 0 1 ∷ job 0 0 2 1 1 ∷ job 0 1 3 2 1 ∷ []) ≡ (1 ∷ 2 ∷ []) ∷ (3 ∷ []) ∷ []
  pub third_is_cut : packed_with 2 (job 0 0 1 0 1 ∷ job 0 0 2 1 1 ∷ job 0 0 3 2 1 ∷ []) ≡ (1 ∷ 2 ∷ []) ∷ (3 ∷ []) ∷ []
  pub two_symbols : packed_with 2 (job 0 0 1 0 1 ∷ next_job (job 0 0 2 1 1) ∷ []) ≡ (1 ∷ []) ∷ (2 ∷ []) ∷ []
  pub two_endpoints : packed_with 2 (job 0 0 1 0 1 ∷ job 1 0 2 1 1 ∷ []) ≡ (1 ∷ []) ∷ (2 ∷ []) ∷ []
  pub numbers : number_behind 0 (alone (job 0 0 1 0 1) ∷ alone (job 1 0 2 1 1) ∷ alone (job 0 0 3 2 1) ∷ []) ≡ 2

-- ---- frames

-- element k answers (k, -k)
abbrev pub rising : Antenna
rising p = record { i = pos p.re; q = neg_ℤ (pos p.re) }

-- a gap of 60,000 ns, and Ta3 from 50,000 ns to this time
abbrev pub slow : ℤ → Config
slow most = record (config_with 1) { gap = pos 60000; delays = record usual_delays { ta3 = record { min = pos 50000; max = most } } }

abbrev pub times_of : Config → List UplinkJob → List ℤ
times_of c js = map (λ f. f.at.0) (frames_behind c rising [] (uplink_messages_of c js))

-- 50 PRBs: 2,408 bytes in two frames
abbrev pub two_frames : UplinkJob
two_frames = job 0 0 1 0 50

pub record TimesAreAsWorked : Type 0 where
  -- two messages of two frames in one symbol: 50, 110, 161 and 161 us after its start
  pub capped : times_of (slow (pos 161000)) (two_frames ∷ two_frames ∷ []) ≡ pos 15436800000 ∷ pos 15528960000 ∷ pos 15607296000 ∷ pos 15607296000 ∷ []
  -- all at the minimum, where the maximum is the same
  pub together : times_of (slow (pos 50000)) (two_frames ∷ two_frames ∷ []) ≡ pos 15436800000 ∷ pos 15436800000 ∷ pos 15436800000 ∷ pos 15436800000 ∷ []
  -- the next symbol begins anew
  pub anew : times_of (slow (pos 161000)) (two_frames ∷ next_job (job 0 0 1 0 1) ∷ []) ≡ pos 15436800000 ∷ pos 15528960000 ∷ pos 15492400000 ∷ []

pub record BytesAreAsWorked : Type 0 where
  -- 10 00 00 3c 00 00 00 80, then 13 01 00 00 and 00 50 02 01, then 48 bytes of samples
  pub one_prb : uplink_fragment_bytes (config_with 1) rising usual (alone (job 0 3 5 2 1)) 256 0
      ≡ 16 ∷ 0 ∷ 0 ∷ 60 ∷ 0 ∷ 0 ∷ 0 ∷ 128 ∷ 19 ∷ 1 ∷ 0 ∷ 0 ∷ 0 ∷ 80 ∷ 2 ∷ 1
      ∷ 0 ∷ 0 ∷ 0 ∷ 0 ∷ 0 ∷ 1 ∷ 255 ∷ 255 ∷ 0 ∷ 2 ∷ 255 ∷ 254 ∷ 0 ∷ 3 ∷ 255 ∷ 253 ∷ 0 ∷ 4 ∷ 255 ∷ 252 ∷ 0 ∷ 5 ∷ 255 ∷ 251
      ∷ 0 ∷ 6 ∷ 255 ∷ 250 ∷ 0 ∷ 7 ∷ 255 ∷ 249 ∷ 0 ∷ 8 ∷ 255 ∷ 248 ∷ 0 ∷ 9 ∷ 255 ∷ 247 ∷ 0 ∷ 10 ∷ 255 ∷ 246 ∷ 0 ∷ 11 ∷ 255 ∷ 245 ∷ []
  pub last_id : uplink_fragment_field (config_with 1) (alone two_frames) 255 0 ≡ record { seq = 255; last = false; sub = 0 }
  pub wraps : uplink_fragment_field (config_with 1) (alone two_frames) 256 1 ≡ record { seq = 0; last = true; sub = 1 }
  pub frame_before_0 : frame_id_of (negsuc 0) ≡ 255

-- ---- the order in which frames are sent

-- a frame of an endpoint, which leaves then; its one byte says when it was handed over
abbrev pub worked_frame : ℕ → ℕ → ℕ → LinkFrame
worked_frame at ep turn = record { at = record { 0 = pos at }; ep = ep; frame = turn ∷ [] }

-- the second of five is of endpoint 0, and the third and the last leave a tick later
abbrev pub five : List LinkFrame
five = worked_frame 7 1 1 ∷ worked_frame 7 0 2 ∷ worked_frame 8 1 3 ∷ worked_frame 7 1 4 ∷ worked_frame 8 0 5 ∷ []

abbrev pub turns_at : ℤ → List (List ℕ)
turns_at t = map (λ f. f.frame) (leaving_at 2 five t)

pub record SentOrderIsAsWorked : Type 0 where
  pub at_7 : turns_at (pos 7) ≡ (2 ∷ []) ∷ (1 ∷ []) ∷ (4 ∷ []) ∷ []
  pub at_8 : turns_at (pos 8) ≡ (5 ∷ []) ∷ (3 ∷ []) ∷ []
  pub at_9 : turns_at (pos 9) ≡ []

pub record UplinksAreAsWorked : Type 0 where
  pub order : OrderIsAsWorked
  pub messages : MessagesAreAsWorked
  pub times : TimesAreAsWorked
  pub bytes : BytesAreAsWorked
  pub sent : SentOrderIsAsWorked
