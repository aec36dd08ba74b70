-- A negative frame, symInc, numPrb 0, a frame refused in its middle, an unknown id, reMask 0, a command to the distributed unit, a message in
-- two generations, a refused message, and a planned command that is lost.
use Rattle.std.specs.Prelude.{◌≡◌, ℕ, pos, negsuc, false, List, [], ◌∷◌, ◌++◌, codes, None, ◌==◌, if◌then◌else◌}
use Rattle.fault_counters.specs.declared.kinds.Counter.TheVariants as counter
use Rattle.air_source.specs.declared.events.Event.{Event}
use Rattle.air_source.specs.declared.events.Side.TheVariants.{Ru, Du}
use Rattle.window_config.specs.declared.config.Config.{Config}
use Rattle.explain_model.specs.Text.{Reasoned, explain_of}
use Rattle.worked_explanations.specs.Common.{arrives, cell, config_of, count, missing, slot_at, run, narrow, offset}
use Rattle.explain_model.specs.declared.values.ExplainLine.TheVariants as line
use Rattle.explain_model.specs.declared.reasons.Reason.TheVariants as reason
use Rattle.explain_model.specs.declared.reasons.ReasonWord.TheVariants as word
use Rattle.air_source.specs.Units.{same_side}

abbrev pub frame_1 : List ℕ
frame_1 = 16 ∷ 2 ∷ 0 ∷ 28 ∷ 0 ∷ 16 ∷ 0 ∷ 128 ∷ 144 ∷ 255 ∷ 0 ∷ 13 ∷ 1 ∷ 3 ∷ 255 ∷ 255 ∷ 12 ∷ 12 ∷ 96 ∷ 0 ∷ 0 ∷ 144 ∷ 2 ∷ 1 ∷ 255 ∷ 241 ∷ 0 ∷ 0 ∷ 0 ∷ 0 ∷ 0 ∷ 0 ∷ []

abbrev pub frame_2 : List ℕ
frame_2 = 16 ∷ 2 ∷ 0 ∷ 28 ∷ 0 ∷ 0 ∷ 0 ∷ 128 ∷ 144 ∷ 1 ∷ 0 ∷ 0 ∷ 2 ∷ 1 ∷ 0 ∷ 0 ∷ 0 ∷ 16 ∷ 7 ∷ 0 ∷ 255 ∷ 241 ∷ 0 ∷ 0 ∷ 0 ∷ 36 ∷ 0 ∷ 2 ∷ 255 ∷ 1 ∷ 0 ∷ 0 ∷ []

abbrev pub frame_3 : List ℕ
frame_3 = 17 ∷ 2 ∷ 0 ∷ 20 ∷ 0 ∷ 9 ∷ 0 ∷ 128 ∷ 144 ∷ 1 ∷ 0 ∷ 0 ∷ 1 ∷ 1 ∷ 0 ∷ 0 ∷ 0 ∷ 16 ∷ 0 ∷ 1 ∷ 255 ∷ 241 ∷ 0 ∷ 0 ∷ 32 ∷ 0 ∷ 0 ∷ 0 ∷ []

abbrev pub frame_4 : List ℕ
frame_4 = 16 ∷ 2 ∷ 0 ∷ 20 ∷ 0 ∷ 0 ∷ 0 ∷ 128 ∷ 144 ∷ 1 ∷ 0 ∷ 0 ∷ 1 ∷ 1 ∷ 0 ∷ 0 ∷ 0 ∷ 16 ∷ 0 ∷ 1 ∷ 0 ∷ 1 ∷ 0 ∷ 0 ∷ []

abbrev pub frame_5 : List ℕ
frame_5 = 16 ∷ 2 ∷ 0 ∷ 20 ∷ 0 ∷ 0 ∷ 0 ∷ 128 ∷ 144 ∷ 1 ∷ 0 ∷ 0 ∷ 1 ∷ 1 ∷ 0 ∷ 0 ∷ 0 ∷ 16 ∷ 0 ∷ 1 ∷ 255 ∷ 241 ∷ 0 ∷ 0 ∷ []

abbrev pub frame_6 : List ℕ
frame_6 = 16 ∷ 0 ∷ 0 ∷ 104 ∷ 0 ∷ 0 ∷ 0 ∷ 0 ∷ 144 ∷ 1 ∷ 0 ∷ 0 ∷ 0 ∷ 16 ∷ 0 ∷ 0 ∷ 0 ∷ 0 ∷ 0 ∷ 0 ∷ 0 ∷ 0 ∷ 0 ∷ 0 ∷ 0 ∷ 0 ∷ 0 ∷ 0 ∷ 0 ∷ 0 ∷ 0 ∷ 0 ∷ 0 ∷ 0 ∷ 0 ∷ 0 ∷ 0 ∷ 0 ∷ 0 ∷ 0 ∷ 0 ∷ 0 ∷ 0 ∷ 0 ∷ 0 ∷ 0 ∷ 0 ∷ 0 ∷ 0 ∷ 0 ∷ 0 ∷ 0 ∷ 0 ∷ 0 ∷ 0 ∷ 0 ∷ 0 ∷ 0 ∷ 0 ∷ 0 ∷ 0 ∷ 0 ∷ 0 ∷ 0 ∷ 0 ∷ 0 ∷ 0 ∷ 0 ∷ 0 ∷ 0 ∷ 0 ∷ 0 ∷ 0 ∷ 0 ∷ 0 ∷ 0 ∷ 0 ∷ 0 ∷ 0 ∷ 0 ∷ 0 ∷ 0 ∷ 0 ∷ 0 ∷ 0 ∷ 0 ∷ 0 ∷ 0 ∷ 0 ∷ 0 ∷ 0 ∷ 0 ∷ 0 ∷ 0 ∷ 0 ∷ 0 ∷ 0 ∷ 0 ∷ 0 ∷ 0 ∷ 0 ∷ 0 ∷ 0 ∷ 0 ∷ 0 ∷ 0 ∷ 0 ∷ 0 ∷ []

abbrev pub frame_7 : List ℕ
frame_7 = 16 ∷ 0 ∷ 0 ∷ 32 ∷ 0 ∷ 0 ∷ 5 ∷ 128 ∷ 144 ∷ 1 ∷ 0 ∷ 1 ∷ 0 ∷ 32 ∷ 0 ∷ 1 ∷ 0 ∷ 0 ∷ 0 ∷ 0 ∷ 0 ∷ 0 ∷ 0 ∷ 0 ∷ 0 ∷ 0 ∷ 0 ∷ 0 ∷ 0 ∷ 0 ∷ 0 ∷ 0 ∷ 0 ∷ 0 ∷ 0 ∷ 0 ∷ []

abbrev pub frame_8 : List ℕ
frame_8 = 16 ∷ 0 ∷ 0 ∷ 104 ∷ 0 ∷ 0 ∷ 0 ∷ 129 ∷ 0 ∷ 0 ∷ 0 ∷ 0 ∷ 0 ∷ 0 ∷ 0 ∷ 0 ∷ 0 ∷ 0 ∷ 0 ∷ 0 ∷ 0 ∷ 0 ∷ 0 ∷ 0 ∷ 0 ∷ 0 ∷ 0 ∷ 0 ∷ 0 ∷ 0 ∷ 0 ∷ 0 ∷ 0 ∷ 0 ∷ 0 ∷ 0 ∷ 0 ∷ 0 ∷ 0 ∷ 0 ∷ 0 ∷ 0 ∷ 0 ∷ 0 ∷ 0 ∷ 0 ∷ 0 ∷ 0 ∷ 0 ∷ 0 ∷ 0 ∷ 0 ∷ 0 ∷ 0 ∷ 0 ∷ 0 ∷ 0 ∷ 0 ∷ 0 ∷ 0 ∷ 0 ∷ 0 ∷ 0 ∷ 0 ∷ 0 ∷ 0 ∷ 0 ∷ 0 ∷ 0 ∷ 0 ∷ 0 ∷ 0 ∷ 0 ∷ 0 ∷ 0 ∷ 0 ∷ 0 ∷ 0 ∷ 0 ∷ 0 ∷ 0 ∷ 0 ∷ 0 ∷ 0 ∷ 0 ∷ 0 ∷ 0 ∷ 0 ∷ 0 ∷ 0 ∷ 0 ∷ 0 ∷ 0 ∷ 0 ∷ 0 ∷ 0 ∷ 0 ∷ 0 ∷ 0 ∷ 0 ∷ 0 ∷ 0 ∷ 0 ∷ 0 ∷ 0 ∷ 0 ∷ 0 ∷ 0 ∷ []

abbrev pub config : Config
config = config_of (narrow ∷ offset ∷ [])

abbrev pub events : List Event
events = arrives Ru 5299200000 frame_1
    ∷ cell Ru 5950350000 16 (slot_at (negsuc 0) 0 0) 13 2 9 4095 missing
    ∷ arrives Ru 14745600000 frame_2
    ∷ arrives Ru 14747136000 frame_3
    ∷ arrives Ru 14748672000 frame_4
    ∷ arrives Du 14750208000 frame_5
    ∷ arrives Ru 14899200000 frame_6
    ∷ arrives Ru 14914560000 frame_7
    ∷ arrives Ru 15283200000 frame_8
    ∷ cell Ru 15360000000 0 (slot_at (pos 1) 0 0) 0 0 1 4095 missing
    ∷ cell Ru 15360000000 0 (slot_at (pos 1) 0 0) 0 1 1 4095 missing
    ∷ cell Ru 15360000000 0 (slot_at (pos 1) 0 0) 0 2 1 4095 missing
    ∷ cell Ru 15360000000 0 (slot_at (pos 1) 0 0) 0 3 1 4095 missing
    ∷ cell Ru 15415600000 0 (slot_at (pos 1) 0 0) 1 0 2 4080 missing
    ∷ cell Ru 15415600000 0 (slot_at (pos 1) 0 0) 1 1 2 4080 missing
    ∷ count Ru counter.Frames 7
    ∷ count Ru counter.FramesRefused 1
    ∷ count Ru counter.Messages 7
    ∷ count Ru counter.UnknownEndpoint 1
    ∷ count Ru counter.CRepeat 1
    ∷ count Ru counter.CAccepted 3
    ∷ count Ru counter.FStored 2
    ∷ count Ru counter.FWhole 1
    ∷ count Ru counter.URefused 1
    ∷ count Ru counter.Missing 7
    ∷ count Du counter.Frames 1
    ∷ count Du counter.Messages 1
    ∷ count Du counter.WrongWay 1 ∷ []

abbrev pub reasoned : Reasoned
reasoned = record {
  whys = line.WhyMissing (record {
    side = Ru;
    at = record { 0 = pos 5950350000 };
    place = record { id = 16; slot = slot_at (negsuc 0) 0 0; symbol = 13 };
    prb = 2;
    num = 1;
    section = 9;
  }) 4095 (reason.NoData None)
      ∷ line.WhyMissing (run Ru 15360000000 0 0 0 4 1) 4095 (reason.Unfinished 0 1 6)
      ∷ line.WhyMissing (run Ru 15415600000 0 1 0 2 2) 4080 (reason.Refused 7)
      ∷ line.WhySilent (run Ru 15470400000 0 2 0 2 3) 4095 4 reason.NoCommand
      ∷ [];
  sums = λ side e. if same_side side Ru then (if e.id == 0 then line.MissingCells Ru 0 word.Refused 2 ∷ line.MissingCells Ru 0 word.Unfinished 4
      ∷ line.SilentPrbs Ru 0 word.NoCommand 2 ∷ [] else line.MissingCells Ru 16 word.NoData 1 ∷ []) else [];
}

abbrev pub text : List ℕ
text = codes "explain 1\n"
    ++ codes "window t1a_up 234000 345000\n"
    ++ codes "window t1a_cp_dl 359000 470000\n"
    ++ codes "window t1a_cp_ul 225000 470000\n"
    ++ codes "window t2a_up 134000 345000\n"
    ++ codes "window t2a_cp_dl 259000 470000\n"
    ++ codes "window t2a_cp_ul 125000 470000\n"
    ++ codes "window ta3 50000 171000\n"
    ++ codes "window ta4 50000 271000\n"
    ++ codes "endpoint 0000 ordinary 30 4 static none\n"
    ++ codes "endpoint 0010 offset 1.25 6 static bfp9 65535 3168\n"
    ++ codes "frame 1 dl 5299200000 32 ok\n"
    ++ codes "command 1 0010 place=0 seq=0 sub=0 e=1 ok\n"
    ++ codes "c 1 0010 -1 0 0 13 section=9 prb=2 num=1 symbols=1 mask=fff accepted since=46074 until=164925\n"
    ++ codes "dl 5950350000 0010 -1 0 0 13 prb=2 num=1 section=9 mask=fff missing\n"
    ++ codes "frame 2 dl 14745600000 32 ok\n"
    ++ codes "command 2 0000 place=0 seq=0 sub=0 e=1 ok\n"
    ++ codes "c 2 0000 1 0 0 0 section=1 prb=7 num=0 symbols=1 mask=fff accepted since=70000 until=141000\n"
    ++ codes "c 2 0000 1 0 0 1 section=2 prb=0 num=2 symbols=1 mask=ff0 accepted since=70000 until=141000\n"
    ++ codes "frame 3 dl 14747136000 28 Revision at=24\n"
    ++ codes "unknown 3 0009 place=0 seq=0 sub=0 e=1 type=2\n"
    ++ codes "frame 4 dl 14748672000 24 ok\n"
    ++ codes "command 4 0000 place=0 seq=0 sub=0 e=1 ok\n"
    ++ codes "c 4 0000 1 0 0 0 section=1 prb=0 num=1 symbols=1 mask=000 repeat since=72000 until=139000\n"
    ++ codes "frame 5 ul 14750208000 24 ok\n"
    ++ codes "command 5 0000 place=0 seq=0 sub=0 e=1 wrong_way\n"
    ++ codes "frame 6 dl 14899200000 108 ok\n"
    ++ codes "data 6 0000 place=0 seq=0 sub=0 e=0 bytes=100 stored\n"
    ++ codes "frame 7 dl 14914560000 36 ok\n"
    ++ codes "data 7 0000 place=0 seq=5 sub=0 e=1 bytes=28 whole\n"
    ++ codes "whole 7 0000 1 0 0 1 pieces=1 bytes=28 Truncated at=28\n"
    ++ codes "frame 8 dl 15283200000 108 ok\n"
    ++ codes "data 8 0000 place=0 seq=0 sub=1 e=1 bytes=100 stored\n"
    ++ codes "dl 15360000000 0000 1 0 0 0 prb=0 num=4 section=1 mask=fff missing\n"
    ++ codes "dl 15415600000 0000 1 0 0 1 prb=0 num=2 section=2 mask=ff0 missing\n"
    ++ codes "why dl 5950350000 0010 -1 0 0 13 prb=2 num=1 section=9 mask=fff missing nodata\n"
    ++ codes "why dl 15360000000 0000 1 0 0 0 prb=0 num=4 section=1 mask=fff missing unfinished seq=0 pieces=1 from=6\n"
    ++ codes "why dl 15415600000 0000 1 0 0 1 prb=0 num=2 section=2 mask=ff0 missing refused from=7\n"
    ++ codes "why dl 15470400000 0000 1 0 0 2 prb=0 num=2 section=3 mask=fff line=4 silent nocommand\n"
    ++ codes "margin ru c 0000 ontime=3 since=70000 until=139000\n"
    ++ codes "margin ru c 0010 ontime=1 since=46074 until=164925\n"
    ++ codes "reason dl 0000 missing refused 2\n"
    ++ codes "reason dl 0000 missing unfinished 4\n"
    ++ codes "reason dl 0000 silent nocommand 2\n"
    ++ codes "reason dl 0010 missing nodata 1\n"
    ++ codes "count ru frames 7\n"
    ++ codes "count ru frames_refused 1\n"
    ++ codes "count ru messages 7\n"
    ++ codes "count ru unknown_endpoint 1\n"
    ++ codes "count ru c_repeat 1\n"
    ++ codes "count ru c_accepted 3\n"
    ++ codes "count ru f_stored 2\n"
    ++ codes "count ru f_whole 1\n"
    ++ codes "count ru u_refused 1\n"
    ++ codes "count ru missing 7\n"
    ++ codes "count du frames 1\n"
    ++ codes "count du messages 1\n"
    ++ codes "count du wrong_way 1\n"
    ++ codes "end\n"

pub record CornersAreAsWorked : Type 0 where
  pub is : explain_of false config reasoned events ≡ text
