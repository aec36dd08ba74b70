-- Uplink data arrive one nanosecond after the end of their window.
use Rattle.std.specs.Prelude.{◌≡◌, ℕ, pos, false, List, [], ◌∷◌, ◌++◌, codes}
use Rattle.fault_counters.specs.declared.kinds.Counter.TheVariants as counter
use Rattle.air_source.specs.declared.events.Event.{Event}
use Rattle.air_source.specs.declared.events.Side.TheVariants.{Ru, Du}
use Rattle.window_config.specs.declared.config.Config.{Config}
use Rattle.explain_model.specs.Text.{Reasoned, explain_of}
use Rattle.worked_explanations.specs.Common.{arrives, cell, config_of, count, missing, slot_at, run, sums_at}
use Rattle.plan_model.specs.Examples.{usual}
use Rattle.explain_model.specs.declared.values.ExplainLine.TheVariants as line
use Rattle.explain_model.specs.declared.reasons.Reason.TheVariants as reason
use Rattle.explain_model.specs.declared.reasons.ReasonWord.TheVariants as word

abbrev pub frame_1 : List ℕ
frame_1 = 16 ∷ 2 ∷ 0 ∷ 20 ∷ 0 ∷ 0 ∷ 0 ∷ 128 ∷ 16 ∷ 1 ∷ 0 ∷ 0 ∷ 1 ∷ 1 ∷ 0 ∷ 0 ∷ 0 ∷ 80 ∷ 0 ∷ 1 ∷ 255 ∷ 241 ∷ 0 ∷ 0 ∷ []

abbrev pub frame_2 : List ℕ
frame_2 = 16 ∷ 0 ∷ 0 ∷ 60 ∷ 0 ∷ 0 ∷ 0 ∷ 128 ∷ 16 ∷ 1 ∷ 0 ∷ 0 ∷ 0 ∷ 80 ∷ 0 ∷ 1 ∷ 0 ∷ 0 ∷ 0 ∷ 0 ∷ 0 ∷ 1 ∷ 255 ∷ 255 ∷ 0 ∷ 2 ∷ 255 ∷ 254 ∷ 0 ∷ 3 ∷ 255 ∷ 253 ∷ 0 ∷ 4 ∷ 255 ∷ 252 ∷ 0 ∷ 5 ∷ 255 ∷ 251 ∷ 0 ∷ 6 ∷ 255 ∷ 250 ∷ 0 ∷ 7 ∷ 255 ∷ 249 ∷ 0 ∷ 8 ∷ 255 ∷ 248 ∷ 0 ∷ 9 ∷ 255 ∷ 247 ∷ 0 ∷ 10 ∷ 255 ∷ 246 ∷ 0 ∷ 11 ∷ 255 ∷ 245 ∷ []

abbrev pub config : Config
config = config_of (usual ∷ [])

abbrev pub events : List Event
events = arrives Ru 14714880000 frame_1
    ∷ cell Du 15360000000 0 (slot_at (pos 1) 0 0) 0 0 5 4095 missing
    ∷ arrives Du 15776257536 frame_2
    ∷ count Ru counter.Frames 1
    ∷ count Ru counter.Messages 1
    ∷ count Ru counter.CAccepted 1
    ∷ count Du counter.Frames 1
    ∷ count Du counter.Messages 1
    ∷ count Du counter.FWhole 1
    ∷ count Du counter.ULate 1
    ∷ count Du counter.Missing 1 ∷ []

abbrev pub reasoned : Reasoned
reasoned = record {
  whys = line.WhyMissing (run Du 15360000000 0 0 0 1 5) 4095 (reason.Late 1 2) ∷ [];
  sums = sums_at Du (line.MissingCells Du 0 word.Late 1 ∷ []);
}

abbrev pub text : List ℕ
text = codes "explain 1\n"
    ++ codes "window t1a_up 234000 345000\n"
    ++ codes "window t1a_cp_dl 359000 470000\n"
    ++ codes "window t1a_cp_ul 225000 470000\n"
    ++ codes "window t2a_up 134000 345000\n"
    ++ codes "window t2a_cp_dl 259000 470000\n"
    ++ codes "window t2a_cp_ul 125000 470000\n"
    ++ codes "window ta3 50000 171000\n"
    ++ codes "window ta4 50000 271000\n"
    ++ codes "endpoint 0000 ordinary 30 106 static none\n"
    ++ codes "frame 1 dl 14714880000 24 ok\n"
    ++ codes "command 1 0000 place=0 seq=0 sub=0 e=1 ok\n"
    ++ codes "c 1 0000 1 0 0 0 section=5 prb=0 num=1 symbols=1 mask=fff uplink accepted since=50000 until=295000\n"
    ++ codes "ul 15360000000 0000 1 0 0 0 prb=0 num=1 section=5 mask=fff missing\n"
    ++ codes "frame 2 ul 15776257536 64 ok\n"
    ++ codes "data 2 0000 place=0 seq=0 sub=0 e=1 bytes=56 whole\n"
    ++ codes "u 2 0000 1 0 0 0 section=5 prb=0 num=1 late since=221001 until=-1\n"
    ++ codes "why ul 15360000000 0000 1 0 0 0 prb=0 num=1 section=5 mask=fff missing late by=1 from=2\n"
    ++ codes "margin ru cul 0000 ontime=1 since=50000 until=295000\n"
    ++ codes "margin du u 0000 ontime=0 late=1 lateby=1\n"
    ++ codes "reason ul 0000 missing late 1\n"
    ++ codes "count ru frames 1\n"
    ++ codes "count ru messages 1\n"
    ++ codes "count ru c_accepted 1\n"
    ++ codes "count du frames 1\n"
    ++ codes "count du messages 1\n"
    ++ codes "count du f_whole 1\n"
    ++ codes "count du u_late 1\n"
    ++ codes "count du missing 1\n"
    ++ codes "end\n"

pub record LateUplinkDataAreAsWorked : Type 0 where
  pub is : explain_of false config reasoned events ≡ text
