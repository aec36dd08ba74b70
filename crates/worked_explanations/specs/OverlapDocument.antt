-- Two commands of different section ids name one PRB: the first has it, and the data is for the second.
use Rattle.std.specs.Prelude.{◌≡◌, ℕ, pos, false, List, [], ◌∷◌, ◌++◌, codes}
use Rattle.fault_counters.specs.declared.kinds.Counter.TheVariants as counter
use Rattle.air_source.specs.declared.events.Event.{Event}
use Rattle.air_source.specs.declared.events.Side.TheVariants.{Ru}
use Rattle.window_config.specs.declared.config.Config.{Config}
use Rattle.explain_model.specs.Text.{Reasoned, explain_of}
use Rattle.worked_explanations.specs.Common.{arrives, cell, config_of, count, missing, slot_at, run, sums_at}
use Rattle.plan_model.specs.Examples.{usual}
use Rattle.explain_model.specs.declared.values.ExplainLine.TheVariants as line
use Rattle.explain_model.specs.declared.reasons.Reason.TheVariants as reason
use Rattle.explain_model.specs.declared.reasons.ReasonWord.TheVariants as word

abbrev pub frame_1 : List ℕ
frame_1 = 16 ∷ 2 ∷ 0 ∷ 20 ∷ 0 ∷ 0 ∷ 0 ∷ 128 ∷ 144 ∷ 1 ∷ 0 ∷ 0 ∷ 1 ∷ 1 ∷ 0 ∷ 0 ∷ 0 ∷ 16 ∷ 0 ∷ 1 ∷ 255 ∷ 241 ∷ 0 ∷ 0 ∷ []

abbrev pub frame_2 : List ℕ
frame_2 = 16 ∷ 2 ∷ 0 ∷ 20 ∷ 0 ∷ 0 ∷ 0 ∷ 128 ∷ 144 ∷ 1 ∷ 0 ∷ 0 ∷ 1 ∷ 1 ∷ 0 ∷ 0 ∷ 0 ∷ 32 ∷ 0 ∷ 1 ∷ 255 ∷ 241 ∷ 0 ∷ 0 ∷ []

abbrev pub frame_3 : List ℕ
frame_3 = 16 ∷ 0 ∷ 0 ∷ 60 ∷ 0 ∷ 0 ∷ 0 ∷ 128 ∷ 144 ∷ 1 ∷ 0 ∷ 0 ∷ 0 ∷ 32 ∷ 0 ∷ 1 ∷ 0 ∷ 0 ∷ 0 ∷ 0 ∷ 0 ∷ 1 ∷ 255 ∷ 255 ∷ 0 ∷ 2 ∷ 255 ∷ 254 ∷ 0 ∷ 3 ∷ 255 ∷ 253 ∷ 0 ∷ 4 ∷ 255 ∷ 252 ∷ 0 ∷ 5 ∷ 255 ∷ 251 ∷ 0 ∷ 6 ∷ 255 ∷ 250 ∷ 0 ∷ 7 ∷ 255 ∷ 249 ∷ 0 ∷ 8 ∷ 255 ∷ 248 ∷ 0 ∷ 9 ∷ 255 ∷ 247 ∷ 0 ∷ 10 ∷ 255 ∷ 246 ∷ 0 ∷ 11 ∷ 255 ∷ 245 ∷ []

abbrev pub config : Config
config = config_of (usual ∷ [])

abbrev pub events : List Event
events = arrives Ru 14745600000 frame_1
    ∷ arrives Ru 14760960000 frame_2
    ∷ arrives Ru 14899200000 frame_3
    ∷ cell Ru 15360000000 0 (slot_at (pos 1) 0 0) 0 0 1 4095 missing
    ∷ count Ru counter.Frames 3
    ∷ count Ru counter.Messages 3
    ∷ count Ru counter.COverlap 1
    ∷ count Ru counter.CAccepted 1
    ∷ count Ru counter.FWhole 1
    ∷ count Ru counter.UTaken 1
    ∷ count Ru counter.Missing 1 ∷ []

abbrev pub reasoned : Reasoned
reasoned = record {
  whys = line.WhyMissing (run Ru 15360000000 0 0 0 1 1) 4095 (reason.Other 2 3) ∷ line.Unused (run Ru 15360000000 0 0 0 1 2) 3 ∷ [];
  sums = sums_at Ru (line.MissingCells Ru 0 word.Other 1 ∷ []);
}

abbrev pub text : List ℕ
text = codes "explain 1\n"
    ++ codes "window t1a_up 234000 345000\n"
    ++ codes "window t1a_cp_dl 359000 470000\n"
    ++ codes "window t1a_cp_ul 225000 470000\n"
    ++ codes "window t2a_up 134000 345000\n"
    ++ codes "window t2a_cp_dl 259000 470000\n"
    ++ codes "window t2a_cp_ul 125000 470000\n"
    ++ codes "window ta3 50000 171000\n"
    ++ codes "window ta4 50000 271000\n"
    ++ codes "endpoint 0000 ordinary 30 106 static none\n"
    ++ codes "frame 1 dl 14745600000 24 ok\n"
    ++ codes "command 1 0000 place=0 seq=0 sub=0 e=1 ok\n"
    ++ codes "c 1 0000 1 0 0 0 section=1 prb=0 num=1 symbols=1 mask=fff accepted since=70000 until=141000\n"
    ++ codes "frame 2 dl 14760960000 24 ok\n"
    ++ codes "command 2 0000 place=0 seq=0 sub=0 e=1 ok\n"
    ++ codes "c 2 0000 1 0 0 0 section=2 prb=0 num=1 symbols=1 mask=fff overlap since=80000 until=131000 with=1 symbol=0 prb=0\n"
    ++ codes "frame 3 dl 14899200000 64 ok\n"
    ++ codes "data 3 0000 place=0 seq=0 sub=0 e=1 bytes=56 whole\n"
    ++ codes "u 3 0000 1 0 0 0 section=2 prb=0 num=1 taken since=45000 until=166000\n"
    ++ codes "dl 15360000000 0000 1 0 0 0 prb=0 num=1 section=1 mask=fff missing\n"
    ++ codes "why dl 15360000000 0000 1 0 0 0 prb=0 num=1 section=1 mask=fff missing other with=2 from=3\n"
    ++ codes "unused dl 15360000000 0000 1 0 0 0 prb=0 num=1 section=2 from=3\n"
    ++ codes "margin ru c 0000 ontime=2 since=70000 until=131000\n"
    ++ codes "margin ru u 0000 ontime=1 since=45000 until=166000\n"
    ++ codes "reason dl 0000 missing other 1\n"
    ++ codes "count ru frames 3\n"
    ++ codes "count ru messages 3\n"
    ++ codes "count ru c_overlap 1\n"
    ++ codes "count ru c_accepted 1\n"
    ++ codes "count ru f_whole 1\n"
    ++ codes "count ru u_taken 1\n"
    ++ codes "count ru missing 1\n"
    ++ codes "end\n"

pub record OverlapsAreAsWorked : Type 0 where
  pub is : explain_of false config reasoned events ≡ text
