-- Data of three PRBs leave in two fragments, and the second is lost on its way: the lines of the faults.
use Rattle.std.specs.Prelude.{◌≡◌, ℕ, pos, true, List, [], ◌∷◌, ◌++◌, codes}
use Rattle.fault_counters.specs.declared.kinds.Counter.TheVariants as counter
use Rattle.air_source.specs.declared.events.Event.{Event}
use Rattle.air_source.specs.declared.events.Side.TheVariants.{Ru}
use Rattle.window_config.specs.declared.config.Config.{Config}
use Rattle.explain_model.specs.Text.{Reasoned, explain_of}
use Rattle.worked_explanations.specs.Common.{arrives, cell, config_of, count, missing, slot_at, run, sums_at}
use Rattle.plan_model.specs.Examples.{usual}
use Rattle.explain_model.specs.declared.values.ExplainLine.TheVariants as line
use Rattle.explain_model.specs.declared.reasons.Reason.TheVariants as reason
use Rattle.explain_model.specs.declared.reasons.ReasonWord.TheVariants as word

abbrev pub frame_1 : List ℕ
frame_1 = 16 ∷ 2 ∷ 0 ∷ 20 ∷ 0 ∷ 0 ∷ 0 ∷ 128 ∷ 144 ∷ 1 ∷ 0 ∷ 0 ∷ 1 ∷ 1 ∷ 0 ∷ 0 ∷ 0 ∷ 16 ∷ 0 ∷ 3 ∷ 255 ∷ 241 ∷ 0 ∷ 0 ∷ []

abbrev pub frame_2 : List ℕ
frame_2 = 16 ∷ 0 ∷ 0 ∷ 132 ∷ 0 ∷ 0 ∷ 0 ∷ 0 ∷ 144 ∷ 1 ∷ 0 ∷ 0 ∷ 0 ∷ 16 ∷ 0 ∷ 3 ∷ 0 ∷ 0 ∷ 0 ∷ 0 ∷ 0 ∷ 1 ∷ 255 ∷ 255 ∷ 0 ∷ 2 ∷ 255 ∷ 254 ∷ 0 ∷ 3 ∷ 255 ∷ 253 ∷ 0 ∷ 4 ∷ 255 ∷ 252 ∷ 0 ∷ 5 ∷ 255 ∷ 251 ∷ 0 ∷ 6 ∷ 255 ∷ 250 ∷ 0 ∷ 7 ∷ 255 ∷ 249 ∷ 0 ∷ 8 ∷ 255 ∷ 248 ∷ 0 ∷ 9 ∷ 255 ∷ 247 ∷ 0 ∷ 10 ∷ 255 ∷ 246 ∷ 0 ∷ 11 ∷ 255 ∷ 245 ∷ 0 ∷ 0 ∷ 0 ∷ 0 ∷ 0 ∷ 1 ∷ 255 ∷ 255 ∷ 0 ∷ 2 ∷ 255 ∷ 254 ∷ 0 ∷ 3 ∷ 255 ∷ 253 ∷ 0 ∷ 4 ∷ 255 ∷ 252 ∷ 0 ∷ 5 ∷ 255 ∷ 251 ∷ 0 ∷ 6 ∷ 255 ∷ 250 ∷ 0 ∷ 7 ∷ 255 ∷ 249 ∷ 0 ∷ 8 ∷ 255 ∷ 248 ∷ 0 ∷ 9 ∷ 255 ∷ 247 ∷ 0 ∷ 10 ∷ 255 ∷ 246 ∷ 0 ∷ 11 ∷ 255 ∷ 245 ∷ 0 ∷ 0 ∷ 0 ∷ 0 ∷ 0 ∷ 1 ∷ 255 ∷ 255 ∷ 0 ∷ 2 ∷ 255 ∷ 254 ∷ 0 ∷ 3 ∷ 255 ∷ 253 ∷ 0 ∷ 4 ∷ 255 ∷ 252 ∷ 0 ∷ 5 ∷ 255 ∷ 251 ∷ []

abbrev pub config : Config
config = config_of (usual ∷ [])

abbrev pub events : List Event
events = arrives Ru 14714880000 frame_1
    ∷ arrives Ru 14906880000 frame_2
    ∷ cell Ru 15360000000 0 (slot_at (pos 1) 0 0) 0 0 1 4095 missing
    ∷ cell Ru 15360000000 0 (slot_at (pos 1) 0 0) 0 1 1 4095 missing
    ∷ cell Ru 15360000000 0 (slot_at (pos 1) 0 0) 0 2 1 4095 missing
    ∷ count Ru counter.Frames 2
    ∷ count Ru counter.Messages 2
    ∷ count Ru counter.CAccepted 1
    ∷ count Ru counter.FStored 1
    ∷ count Ru counter.Missing 3 ∷ []

abbrev pub reasoned : Reasoned
reasoned = record {
  whys = line.WhyMissing (run Ru 15360000000 0 0 0 3 1) 4095 (reason.Unfinished 0 1 2) ∷ [];
  sums = sums_at Ru (line.MissingCells Ru 0 word.Unfinished 3 ∷ []);
}

abbrev pub text : List ℕ
text = codes "explain 1 faults\n"
    ++ codes "why dl 15360000000 0000 1 0 0 0 prb=0 num=3 section=1 mask=fff missing unfinished seq=0 pieces=1 from=2\n"
    ++ codes "margin ru c 0000 ontime=1 since=50000 until=161000\n"
    ++ codes "reason dl 0000 missing unfinished 3\n"
    ++ codes "count ru frames 2\n"
    ++ codes "count ru messages 2\n"
    ++ codes "count ru c_accepted 1\n"
    ++ codes "count ru f_stored 1\n"
    ++ codes "count ru missing 3\n"
    ++ codes "end\n"

pub record LostFragmentsAreAsWorked : Type 0 where
  pub is : explain_of true config reasoned events ≡ text
