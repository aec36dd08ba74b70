-- Both directions of two endpoints; an uplink frame arrives twice, and a command arrives at the distributed unit. Which samples the frames have
-- is not told.
use Rattle.std.specs.Prelude.{◌≡◌, ℕ, pos, false, List, [], ◌∷◌, ◌++◌, codes}
use Rattle.fault_counters.specs.declared.kinds.Counter.TheVariants as counter
use Rattle.air_source.specs.declared.events.Event.{Event}
use Rattle.air_source.specs.declared.events.Side.TheVariants.{Ru, Du}
use Rattle.window_config.specs.declared.config.Config.{Config}
use Rattle.explain_model.specs.Text.{Reasoned, explain_of}
use Rattle.worked_explanations.specs.Common.{arrives, cell, config_of, count, nothing, shown, slot_at, second}
use Rattle.plan_model.specs.Examples.{usual}

abbrev pub frame_1 : List ℕ
frame_1 = 16 ∷ 2 ∷ 0 ∷ 20 ∷ 0 ∷ 0 ∷ 0 ∷ 128 ∷ 144 ∷ 1 ∷ 0 ∷ 0 ∷ 1 ∷ 1 ∷ 0 ∷ 0 ∷ 0 ∷ 16 ∷ 0 ∷ 1 ∷ 255 ∷ 241 ∷ 0 ∷ 0 ∷ []

abbrev pub frame_2 : List ℕ
frame_2 = 16 ∷ 2 ∷ 0 ∷ 20 ∷ 0 ∷ 0 ∷ 0 ∷ 128 ∷ 16 ∷ 1 ∷ 0 ∷ 2 ∷ 1 ∷ 1 ∷ 0 ∷ 0 ∷ 0 ∷ 32 ∷ 0 ∷ 1 ∷ 255 ∷ 1 ∷ 0 ∷ 0 ∷ []

abbrev pub frame_3 : List ℕ
frame_3 = 16 ∷ 2 ∷ 0 ∷ 20 ∷ 0 ∷ 1 ∷ 0 ∷ 128 ∷ 16 ∷ 1 ∷ 0 ∷ 2 ∷ 1 ∷ 1 ∷ 145 ∷ 0 ∷ 0 ∷ 48 ∷ 105 ∷ 1 ∷ 255 ∷ 242 ∷ 0 ∷ 0 ∷ []

abbrev pub frame_4 : List ℕ
frame_4 = 16 ∷ 0 ∷ 0 ∷ 60 ∷ 0 ∷ 0 ∷ 0 ∷ 128 ∷ 144 ∷ 1 ∷ 0 ∷ 0 ∷ 0 ∷ 16 ∷ 0 ∷ 1 ∷ 0 ∷ 0 ∷ 0 ∷ 0 ∷ 0 ∷ 1 ∷ 255 ∷ 255 ∷ 0 ∷ 2 ∷ 255 ∷ 254 ∷ 0 ∷ 3 ∷ 255 ∷ 253 ∷ 0 ∷ 4 ∷ 255 ∷ 252 ∷ 0 ∷ 5 ∷ 255 ∷ 251 ∷ 0 ∷ 6 ∷ 255 ∷ 250 ∷ 0 ∷ 7 ∷ 255 ∷ 249 ∷ 0 ∷ 8 ∷ 255 ∷ 248 ∷ 0 ∷ 9 ∷ 255 ∷ 247 ∷ 0 ∷ 10 ∷ 255 ∷ 246 ∷ 0 ∷ 11 ∷ 255 ∷ 245 ∷ []

abbrev pub frame_5 : List ℕ
frame_5 = 16 ∷ 2 ∷ 0 ∷ 20 ∷ 0 ∷ 0 ∷ 0 ∷ 128 ∷ 16 ∷ 1 ∷ 0 ∷ 0 ∷ 1 ∷ 1 ∷ 0 ∷ 0 ∷ 0 ∷ 80 ∷ 0 ∷ 1 ∷ 255 ∷ 241 ∷ 0 ∷ 0 ∷ []

abbrev pub frame_6 : List ℕ
frame_6 = 16 ∷ 0 ∷ 0 ∷ 60 ∷ 0 ∷ 0 ∷ 0 ∷ 128 ∷ 16 ∷ 1 ∷ 0 ∷ 2 ∷ 0 ∷ 32 ∷ 0 ∷ 1 ∷ 0 ∷ 0 ∷ 0 ∷ 0 ∷ 0 ∷ 1 ∷ 255 ∷ 255 ∷ 0 ∷ 2 ∷ 255 ∷ 254 ∷ 0 ∷ 3 ∷ 255 ∷ 253 ∷ 0 ∷ 4 ∷ 255 ∷ 252 ∷ 0 ∷ 5 ∷ 255 ∷ 251 ∷ 0 ∷ 6 ∷ 255 ∷ 250 ∷ 0 ∷ 7 ∷ 255 ∷ 249 ∷ 0 ∷ 8 ∷ 255 ∷ 248 ∷ 0 ∷ 9 ∷ 255 ∷ 247 ∷ 0 ∷ 10 ∷ 255 ∷ 246 ∷ 0 ∷ 11 ∷ 255 ∷ 245 ∷ []

abbrev pub frame_7 : List ℕ
frame_7 = 16 ∷ 0 ∷ 0 ∷ 42 ∷ 0 ∷ 1 ∷ 0 ∷ 128 ∷ 16 ∷ 1 ∷ 0 ∷ 2 ∷ 0 ∷ 48 ∷ 105 ∷ 1 ∷ 145 ∷ 0 ∷ 0 ∷ 0 ∷ 0 ∷ 0 ∷ 0 ∷ 0 ∷ 0 ∷ 0 ∷ 0 ∷ 0 ∷ 0 ∷ 0 ∷ 0 ∷ 0 ∷ 0 ∷ 0 ∷ 0 ∷ 0 ∷ 0 ∷ 0 ∷ 0 ∷ 0 ∷ 0 ∷ 0 ∷ 0 ∷ 0 ∷ 0 ∷ 0 ∷ []

abbrev pub frame_8 : List ℕ
frame_8 = 16 ∷ 0 ∷ 0 ∷ 42 ∷ 0 ∷ 1 ∷ 0 ∷ 128 ∷ 16 ∷ 1 ∷ 0 ∷ 2 ∷ 0 ∷ 48 ∷ 105 ∷ 1 ∷ 145 ∷ 0 ∷ 0 ∷ 0 ∷ 0 ∷ 0 ∷ 0 ∷ 0 ∷ 0 ∷ 0 ∷ 0 ∷ 0 ∷ 0 ∷ 0 ∷ 0 ∷ 0 ∷ 0 ∷ 0 ∷ 0 ∷ 0 ∷ 0 ∷ 0 ∷ 0 ∷ 0 ∷ 0 ∷ 0 ∷ 0 ∷ 0 ∷ 0 ∷ 0 ∷ []

abbrev pub frame_9 : List ℕ
frame_9 = 16 ∷ 0 ∷ 0 ∷ 42 ∷ 0 ∷ 1 ∷ 1 ∷ 128 ∷ 16 ∷ 1 ∷ 0 ∷ 3 ∷ 0 ∷ 48 ∷ 105 ∷ 1 ∷ 145 ∷ 0 ∷ 0 ∷ 0 ∷ 0 ∷ 0 ∷ 0 ∷ 0 ∷ 0 ∷ 0 ∷ 0 ∷ 0 ∷ 0 ∷ 0 ∷ 0 ∷ 0 ∷ 0 ∷ 0 ∷ 0 ∷ 0 ∷ 0 ∷ 0 ∷ 0 ∷ 0 ∷ 0 ∷ 0 ∷ 0 ∷ 0 ∷ 0 ∷ 0 ∷ []

abbrev pub config : Config
config = config_of (usual ∷ second ∷ [])

abbrev pub events : List Event
events = arrives Ru 14714880000 frame_1
    ∷ arrives Ru 14825280000 frame_2
    ∷ arrives Ru 14825280000 frame_3
    ∷ arrives Ru 14906880000 frame_4
    ∷ cell Ru 15360000000 0 (slot_at (pos 1) 0 0) 0 0 1 4095 shown
    ∷ arrives Du 15360000000 frame_5
    ∷ arrives Du 15624000000 frame_6
    ∷ arrives Du 15624000000 frame_7
    ∷ arrives Du 15639360000 frame_8
    ∷ arrives Du 15678800000 frame_9
    ∷ cell Du 15470400000 0 (slot_at (pos 1) 0 0) 2 0 2 4080 shown
    ∷ cell Du 15470400000 1 (slot_at (pos 1) 0 0) 2 105 3 4095 shown
    ∷ cell Du 15525200000 1 (slot_at (pos 1) 0 0) 3 105 3 4095 shown
    ∷ count Ru counter.Frames 4
    ∷ count Ru counter.Messages 4
    ∷ count Ru counter.CAccepted 3
    ∷ count Ru counter.FWhole 1
    ∷ count Ru counter.UTaken 1
    ∷ count Ru counter.Cells 1
    ∷ count Du counter.Frames 5
    ∷ count Du counter.Messages 5
    ∷ count Du counter.WrongWay 1
    ∷ count Du counter.FWhole 3
    ∷ count Du counter.FRepeat 1
    ∷ count Du counter.UTaken 3
    ∷ count Du counter.Cells 3 ∷ []

abbrev pub reasoned : Reasoned
reasoned = nothing

abbrev pub text : List ℕ
text = codes "explain 1\n"
    ++ codes "window t1a_up 234000 345000\n"
    ++ codes "window t1a_cp_dl 359000 470000\n"
    ++ codes "window t1a_cp_ul 225000 470000\n"
    ++ codes "window t2a_up 134000 345000\n"
    ++ codes "window t2a_cp_dl 259000 470000\n"
    ++ codes "window t2a_cp_ul 125000 470000\n"
    ++ codes "window ta3 50000 171000\n"
    ++ codes "window ta4 50000 271000\n"
    ++ codes "endpoint 0000 ordinary 30 106 static none\n"
    ++ codes "endpoint 0001 ordinary 30 106 dynamic bfp9\n"
    ++ codes "frame 1 dl 14714880000 24 ok\n"
    ++ codes "command 1 0000 place=0 seq=0 sub=0 e=1 ok\n"
    ++ codes "c 1 0000 1 0 0 0 section=1 prb=0 num=1 symbols=1 mask=fff accepted since=50000 until=161000\n"
    ++ codes "frame 2 dl 14825280000 24 ok\n"
    ++ codes "command 2 0000 place=0 seq=0 sub=0 e=1 ok\n"
    ++ codes "c 2 0000 1 0 0 2 section=2 prb=0 num=1 symbols=1 mask=ff0 uplink accepted since=50000 until=295000\n"
    ++ codes "frame 3 dl 14825280000 24 ok\n"
    ++ codes "command 3 0001 place=0 seq=0 sub=0 e=1 ok\n"
    ++ codes "c 3 0001 1 0 0 2 section=3 prb=105 num=1 symbols=2 mask=fff uplink accepted since=50000 until=295000\n"
    ++ codes "frame 4 dl 14906880000 64 ok\n"
    ++ codes "data 4 0000 place=0 seq=0 sub=0 e=1 bytes=56 whole\n"
    ++ codes "u 4 0000 1 0 0 0 section=1 prb=0 num=1 taken since=50000 until=161000\n"
    ++ codes "dl 15360000000 0000 1 0 0 0 prb=0 num=1 section=1 mask=fff shown from=4\n"
    ++ codes "frame 5 ul 15360000000 24 ok\n"
    ++ codes "command 5 0000 place=0 seq=0 sub=0 e=1 wrong_way\n"
    ++ codes "frame 6 ul 15624000000 64 ok\n"
    ++ codes "data 6 0000 place=0 seq=0 sub=0 e=1 bytes=56 whole\n"
    ++ codes "u 6 0000 1 0 0 2 section=2 prb=0 num=1 taken since=50000 until=171000\n"
    ++ codes "frame 7 ul 15624000000 46 ok\n"
    ++ codes "data 7 0001 place=0 seq=0 sub=0 e=1 bytes=38 whole\n"
    ++ codes "u 7 0001 1 0 0 2 section=3 prb=105 num=1 taken since=50000 until=171000\n"
    ++ codes "frame 8 ul 15639360000 46 ok\n"
    ++ codes "data 8 0001 place=0 seq=0 sub=0 e=1 bytes=38 repeat\n"
    ++ codes "frame 9 ul 15678800000 46 ok\n"
    ++ codes "data 9 0001 place=0 seq=1 sub=0 e=1 bytes=38 whole\n"
    ++ codes "u 9 0001 1 0 0 3 section=3 prb=105 num=1 taken since=50000 until=171000\n"
    ++ codes "ul 15470400000 0000 1 0 0 2 prb=0 num=1 section=2 mask=ff0 shown from=6\n"
    ++ codes "ul 15470400000 0001 1 0 0 2 prb=105 num=1 section=3 mask=fff shown from=7\n"
    ++ codes "ul 15525200000 0001 1 0 0 3 prb=105 num=1 section=3 mask=fff shown from=9\n"
    ++ codes "margin ru c 0000 ontime=1 since=50000 until=161000\n"
    ++ codes "margin ru cul 0000 ontime=1 since=50000 until=295000\n"
    ++ codes "margin ru cul 0001 ontime=1 since=50000 until=295000\n"
    ++ codes "margin ru u 0000 ontime=1 since=50000 until=161000\n"
    ++ codes "margin du u 0000 ontime=1 since=50000 until=171000\n"
    ++ codes "margin du u 0001 ontime=2 since=50000 until=171000\n"
    ++ codes "reason dl 0000 shown 1\n"
    ++ codes "reason ul 0000 shown 1\n"
    ++ codes "reason ul 0001 shown 2\n"
    ++ codes "count ru frames 4\n"
    ++ codes "count ru messages 4\n"
    ++ codes "count ru c_accepted 3\n"
    ++ codes "count ru f_whole 1\n"
    ++ codes "count ru u_taken 1\n"
    ++ codes "count ru cells 1\n"
    ++ codes "count du frames 5\n"
    ++ codes "count du messages 5\n"
    ++ codes "count du wrong_way 1\n"
    ++ codes "count du f_whole 3\n"
    ++ codes "count du f_repeat 1\n"
    ++ codes "count du u_taken 3\n"
    ++ codes "count du cells 3\n"
    ++ codes "end\n"

pub record BothWaysAreAsWorked : Type 0 where
  pub is : explain_of false config reasoned events ≡ text
