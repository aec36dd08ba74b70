-- The definitions at values that were worked out by hand. The endpoint has id 0, 30 kHz and 106 PRBs, the slot is slot 0 of subframe 0 of frame 1,
-- whose symbol 0 starts at 15,360,000,000 ticks; where nothing else is said, the cells are those of symbol 0.
use Rattle.std.specs.Prelude.{◌≡◌, ℕ, ℤ, pos, negsuc, ◌*◌, Bool, true, false, List, [], ◌∷◌, Some, None}
use Rattle.ecpri_fragments.specs.declared.verdict.Verdict.{Verdict}
use Rattle.ecpri_fragments.specs.declared.verdict.Verdict.TheVariants as fragment
use Rattle.air_source.specs.declared.events.Side.{Side}
use Rattle.air_source.specs.declared.events.Side.TheVariants.{Ru, Du}
use Rattle.window_config.specs.Usual.{usual_delays}
use Rattle.window_config.specs.declared.config.Config.{Config}
use Rattle.window_config.specs.declared.plan.PlanKind.TheVariants.{Down, Up, Idle}
use Rattle.window_config.specs.declared.verdicts.Class.{Class}
use Rattle.window_config.specs.declared.verdicts.Class.TheVariants.{OnTime, Late, Early}
use Rattle.unit_model.specs.Reports.{hold_of}
use Rattle.unit_model.specs.declared.verdicts.CommandVerdict.{CommandVerdict}
use Rattle.unit_model.specs.declared.verdicts.CommandVerdict.TheVariants as command
use Rattle.plan_model.specs.Examples.{config_with, slot_0, usual, worked_line}
use Rattle.plan_model.specs.Lines.{planned}
use Rattle.explain_model.specs.declared.places.PrbRun.{PrbRun}
use Rattle.explain_model.specs.declared.reasons.Reason.{Reason}
use Rattle.explain_model.specs.declared.reasons.Reason.TheVariants as reason
use Rattle.explain_model.specs.declared.reasons.ReasonWord.TheVariants as word
use Rattle.explain_model.specs.declared.values.ExplainLine.{ExplainLine}
use Rattle.explain_model.specs.declared.values.ExplainLine.TheVariants as line
use Rattle.explain_model.specs.declared.data.DataRecord.{DataRecord}
use Rattle.explain_model.specs.declared.headers.BeginningRecord.{BeginningRecord}
use Rattle.explain_model.specs.declared.headers.HeaderWhy.TheVariants.{Refused, WrongWay}
use Rattle.explain_model.specs.declared.sections.CommandRecord.{CommandRecord}
use Rattle.explain_model.specs.Fragments.{NumberedFragment, beginnings_after, repeated_after}
use Rattle.explain_model.specs.Missing.{missing_cells, missing_lines}
use Rattle.explain_model.specs.SilentReasons.{Kept, missing_reason}
use Rattle.explain_model.specs.Records.{distance_in}
use Rattle.explain_model.specs.Seen.{Seen, seen_key}
use Rattle.explain_model.specs.Silent.{silent_lines_of, silent_symbols}
use Rattle.explain_model.specs.Sums.{missing_sums, silent_sums}
use Rattle.explain_model.specs.Unused.{unused_symbols, unused_lines_of}

abbrev pub worked : Config
worked = config_with 1

-- a missing cell of symbol 0, under section 1
abbrev pub missing_at : Side → ℕ → Seen
missing_at side prb = record { side = side; at = record { 0 = pos 15360000000 }; id = 0; slot = slot_0; symbol = 0; prb = prb; section = 1; mask = 4095; shown = false }

abbrev pub run_at : Side → ℕ → ℕ → ℕ → PrbRun
run_at side prb num section = record {
  side = side;
  at = record { 0 = pos 15360000000 };
  place = record { id = 0; slot = slot_0; symbol = 0 };
  prb = prb;
  num = num;
  section = section;
}

-- data for PRB 0, and for so many from it on
abbrev pub data_for : Side → ℕ → ℕ → ℕ → Class → ℕ → DataRecord
data_for side prbs section number class distance = record {
  side = side;
  ep = 0;
  slot = slot_0;
  symbol = 0;
  first_prb = 0;
  prbs = prbs;
  section = section;
  number = number;
  class = class;
  distance = distance;
}

-- a command for the twelve elements of PRB 0
abbrev pub command_for : Bool → ℕ → CommandVerdict → ℕ → CommandRecord
command_for down number verdict distance = record {
  ep = 0;
  down = down;
  slot = slot_0;
  symbol = 0;
  num_symbol = 1;
  start_prb = 0;
  num_prb = 1;
  mask = 4095;
  number = number;
  verdict = verdict;
  distance = distance;
}

abbrev pub nothing : Kept
nothing = record { given = []; commanded = []; headers = []; repeated = []; begun = [] }

abbrev pub lines_for : Kept → List Seen → List ExplainLine
lines_for all cells = missing_lines (missing_cells worked all cells)

-- ---- a block of another section id: the cell says so, and the block is unused

abbrev pub overlapped : Kept
overlapped = record nothing {
  given = data_for Ru 1 2 3 OnTime 0 ∷ [];
  commanded = command_for true 1 command.Accepted 0 ∷ command_for true 2 command.Overlap 0 ∷ [];
}

pub record OverlapIsAsWorked : Type 0 where
  pub why : lines_for overlapped (missing_at Ru 0 ∷ []) ≡ line.WhyMissing (run_at Ru 0 1 1) 4095 (reason.Other 2 3) ∷ []
  pub unused : unused_lines_of (unused_symbols worked.endpoints overlapped.given (missing_at Ru 0 ∷ [])) ≡ line.Unused (run_at Ru 0 1 2) 3 ∷ []
  pub sums : missing_sums (missing_cells worked overlapped (missing_at Ru 0 ∷ [])) Ru 0 ≡ line.MissingCells Ru 0 word.Other 1 ∷ []
  -- the record of one unit says nothing at the other
  pub other_unit : lines_for overlapped (missing_at Du 0 ∷ []) ≡ line.WhyMissing (run_at Du 0 1 1) 4095 reason.NoCommand ∷ []

-- ---- a lost fragment: three cells, one line

abbrev pub beginning_of : ℕ → ℕ → ℕ → BeginningRecord
beginning_of seq pieces number = record { side = Ru; ep = 0; slot = slot_0; symbol = 0; seq = seq; pieces = pieces; number = number }

abbrev pub unfinished : Kept
unfinished = record nothing { begun = beginning_of 0 1 2 ∷ [] }

abbrev pub three_cells : List Seen
three_cells = missing_at Ru 0 ∷ missing_at Ru 1 ∷ missing_at Ru 2 ∷ []

pub record LostFragmentIsAsWorked : Type 0 where
  pub why : lines_for unfinished three_cells ≡ line.WhyMissing (run_at Ru 0 3 1) 4095 (reason.Unfinished 0 1 2) ∷ []
  pub sums : missing_sums (missing_cells worked unfinished three_cells) Ru 0 ≡ line.MissingCells Ru 0 word.Unfinished 3 ∷ []
  -- of two the one that was received last
  pub last : missing_reason (record nothing { begun = beginning_of 0 1 2 ∷ beginning_of 7 3 4 ∷ [] }) (seen_key worked (missing_at Ru 0)) 0 ≡ reason.Unfinished 7 3 4

-- ---- late uplink data, by one tick

pub record LateIsAsWorked : Type 0 where
  pub distance : distance_in Late (record { since = pos 221001; until = negsuc 0 }) ≡ 1
  pub why : lines_for (record nothing { given = data_for Du 1 1 2 Late 1 ∷ [] }) (missing_at Du 0 ∷ []) ≡ line.WhyMissing (run_at Du 0 1 1) 4095 (reason.Late 1 2) ∷ []

-- ---- which of several

abbrev pub reason_for : Kept → Side → ℕ → Reason
reason_for all side prb = missing_reason all (seen_key worked (missing_at side prb)) prb

pub record NearestIsAsWorked : Type 0 where
  -- the least distance, whichever was received first; at one distance the first
  pub nearest : reason_for (record nothing { given = data_for Ru 1 1 4 Early 9 ∷ data_for Ru 1 1 5 Late 3 ∷ data_for Ru 1 1 6 Early 3 ∷ [] }) Ru 0 ≡ reason.Late 3 5
  -- data for other PRBs say nothing
  pub uncovered : reason_for (record nothing { given = data_for Ru 1 1 4 Late 9 ∷ [] }) Ru 1 ≡ reason.NoData None
  -- a refusal counts only where no data were late or early, and the first counts
  pub headers : reason_for (record nothing { headers = record { side = Ru; ep = 0; slot = slot_0; symbol = 0; number = 7; why = WrongWay } ∷ record { side = Ru; ep = 0; slot = slot_0; symbol = 0; number = 8; why = Refused } ∷ [] }) Ru 0
      ≡ reason.WrongWay 7
  -- an uplink cell that was asked for, that was not, and that was too late
  pub asked : reason_for (record nothing { commanded = command_for false 1 command.Late 5 ∷ command_for false 2 command.Accepted 0 ∷ [] }) Du 0 ≡ reason.NoData (Some 2)
  pub lost : reason_for nothing Du 0 ≡ reason.NoCommand
  pub late : reason_for (record nothing { commanded = command_for false 1 command.Late 5 ∷ command_for false 2 command.Repeat 0 ∷ command_for true 3 command.Late 0 ∷ [] }) Du 0 ≡ reason.CommandRepeat 2

-- ---- a planned PRB that is silent in part

-- a cell whose first eight elements are in use
abbrev pub part_shown : Seen
part_shown = record (missing_at Ru 0) { mask = 4080; shown = true }

abbrev pub silent_for : List CommandRecord → List Seen → List ExplainLine
silent_for commands cells = silent_lines_of (silent_symbols commands cells (4 ∷ []) (planned worked.endpoints (worked_line Down 0 2 4095 3 ∷ [])))

pub record SilentIsAsWorked : Type 0 where
  -- no command was received
  pub lost : silent_for [] [] ≡ line.WhySilent (run_at Ru 0 2 3) 4095 4 reason.NoCommand ∷ []
  -- four elements of one PRB and twelve of the next are two runs
  pub part : silent_for [] (part_shown ∷ []) ≡ line.WhySilent (run_at Ru 0 1 3) 15 4 reason.NoCommand ∷ line.WhySilent (run_at Ru 1 1 3) 4095 4 reason.NoCommand ∷ []
  -- a command that was late names one of the two
  pub late : silent_for (command_for true 1 command.Late 5 ∷ []) [] ≡ line.WhySilent (run_at Ru 0 1 3) 4095 4 (reason.CommandLate 5 1) ∷ line.WhySilent (run_at Ru 1 1 3) 4095 4 reason.NoCommand ∷ []
  pub sums : silent_sums (silent_symbols [] [] (4 ∷ []) (planned worked.endpoints (worked_line Down 0 2 4095 3 ∷ []))) Ru 0 ≡ line.SilentPrbs Ru 0 word.NoCommand 2 ∷ []
  -- idle and uplink lines have none
  pub others : silent_lines_of (silent_symbols [] [] (4 ∷ 5 ∷ []) (planned worked.endpoints (worked_line Idle 0 2 4095 3 ∷ worked_line Up 0 2 4095 3 ∷ []))) ≡ []

-- ---- fragments

-- a downlink header of frame 1, slot 0, symbol 0, and what follows it
abbrev pub first_of_message : ℕ → List ℕ
first_of_message prb = 0x90 ∷ 1 ∷ 0 ∷ 0 ∷ 0 ∷ 0x10 ∷ prb ∷ 1 ∷ []

-- a fragment of sequence id 0 that was received at so many nanoseconds
abbrev pub came : ℕ → ℕ → Bool → ℕ → List ℕ → Verdict → NumberedFragment
came number at last sub bytes verdict = record {
  number = number;
  endpoint = usual;
  fragment = record { ep = 0; seq = 0; at = pos (at * 1536); last = last; sub = sub; bytes = bytes };
  verdict = verdict;
}

abbrev pub held : ℤ
held = hold_of Ru usual_delays

pub record FragmentsAreAsWorked : Type 0 where
  -- the second part is received after the generation of the first has ended: that stays unfinished, with one piece
  pub too_late : beginnings_after Ru held [] (came 6 9700000 false 0 (first_of_message 0) fragment.Stored ∷ came 8 9950000 true 1 [] fragment.Stored ∷ []) ≡ beginning_of 0 1 6 ∷ []
  -- in time it makes the message whole
  pub in_time : beginnings_after Ru held [] (came 6 9700000 false 0 (first_of_message 0) fragment.Stored ∷ came 8 9700001 true 1 [] fragment.Whole ∷ []) ≡ []
  -- another piece is received, and the message still has no end
  pub two_pieces : beginnings_after Ru held [] (came 6 9700000 false 0 (first_of_message 0) fragment.Stored ∷ came 8 9700001 false 1 [] fragment.Stored ∷ []) ≡ beginning_of 0 2 6 ∷ []
  -- a copy of what is stored is no other message; one with another first PRB is
  pub a_copy : repeated_after Ru held [] (came 6 9700000 true 0 (first_of_message 0) fragment.Whole ∷ came 8 9700001 true 0 (first_of_message 0) fragment.Repeat ∷ []) ≡ []
  pub another : repeated_after Ru held [] (came 6 9700000 true 0 (first_of_message 0) fragment.Whole ∷ came 8 9700001 true 0 (first_of_message 1) fragment.Repeat ∷ [])
      ≡ record { side = Ru; ep = 0; slot = slot_0; symbol = 0; seq = 0; number = 8 } ∷ []
  -- it is compared with the one that is stored, and not with the one before it
  pub the_standing : repeated_after Ru held []
      (came 6 9700000 true 0 (first_of_message 0) fragment.Whole ∷ came 8 9700001 true 0 (first_of_message 1) fragment.Repeat ∷ came 9 9700002 true 0 (first_of_message 1) fragment.Repeat ∷ [])
      ≡ record { side = Ru; ep = 0; slot = slot_0; symbol = 0; seq = 0; number = 8 } ∷ record { side = Ru; ep = 0; slot = slot_0; symbol = 0; seq = 0; number = 9 } ∷ []

pub record AreAsWorked : Type 0 where
  pub overlap : OverlapIsAsWorked
  pub lost_fragment : LostFragmentIsAsWorked
  pub late : LateIsAsWorked
  pub nearest : NearestIsAsWorked
  pub silent : SilentIsAsWorked
  pub fragments : FragmentsAreAsWorked
