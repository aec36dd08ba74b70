-- What was drawn of a text.
use Rattle.std.proofs.Common.{◌≡◌, ◌≢◌, ℕ, ◌≤◌, List, [], ◌++◌, length, Option, arith}
use Rattle.fh_base.specs.Told.{WritesPart}
use Rattle.fh_base.proofs.Progress.{front_none}
use Rattle.fh_base.proofs.Parts.{front_part}
use Rattle.pictures.proofs.Flows.{row_downlink_commands, row_uplink_commands, row_downlink_data, row_uplink_data}
use Rattle.pictures.proofs.Tallying.{tally_length}
use Rattle.pictures.specs.Rows.{of_flow, rows_of}
use Rattle.pictures.specs.Tallies.{Tally, tally_of}
use Rattle.pictures.specs.declared.arrivals.Arrival.{Arrival}
use Rattle.pictures.specs.declared.arrivals.Flow.TheVariants.{DownlinkCommands, UplinkCommands, DownlinkData, UplinkData}
use Rattle.pictures.specs.declared.rows.Rows.{Rows}
use Rattle.pictures.specs.declared.windows.Windows.{Windows}
use Rattle.pictures.specs.Opening.{closing_text}
use Rattle.pictures.specs.WindowPicture.{HasColumns, commands_text, data_text, foot_text, head_text, windows_picture}
use Rattle.pictures.proofs.Writing.{append_some, closing_some}

-- ---- columns

columns_few : (came : List Arrival) (t : Tally) → t ≡ tally_of came → length t.columns ≤ 1041
columns_few came t is = omega (arith, tally_length came t is)

pub rows_columns : (came : List Arrival) (r : Rows) → r ≡ rows_of came → HasColumns r
rows_columns came r is = record {
  downlink_commands = columns_few (of_flow DownlinkCommands came) r.downlink_commands (row_downlink_commands r came is);
  uplink_commands = columns_few (of_flow UplinkCommands came) r.uplink_commands (row_uplink_commands r came is);
  downlink_data = columns_few (of_flow DownlinkData came) r.downlink_data (row_downlink_data r came is);
  uplink_data = columns_few (of_flow UplinkData came) r.uplink_data (row_uplink_data r came is);
}

-- ---- nothing was written yet

foot_some : (ws : Windows) → foot_text ws ≢ []
unfolding foot_text
foot_some ws = append_some _ closing_text closing_some

pub nothing_yet : (ws : Windows) (rows : Rows) (old : Option (List ℕ)) → WritesPart old old (windows_picture ws rows)
unfolding windows_picture
nothing_yet ws rows old =
    front_part old old (head_text ws ++ commands_text ws rows ++ data_text ws rows) (foot_text ws) (foot_some ws) (front_none old (head_text ws ++ commands_text ws rows ++ data_text ws rows))
