-- The definitions compute what was worked out by hand.
use Rattle.std.proofs.Common.{refl}
use Rattle.std.specs.Fmt.{digits}
use Rattle.bfp_codec.specs.Field.{field}
use Rattle.fh_base.specs.Frame.{absolute_frame}
use Rattle.cplane_sections.specs.Message.{sections_of}
use Rattle.cplane_sections.specs.Tests.{walked, checked}
use Rattle.fh_base.specs.Lists.{every, some, onto}
use Rattle.unit_model.specs.Meetings.{meet, meetings, commands, fragments}
use Rattle.unit_model.specs.Commands.{command_verdict, accepted}
use Rattle.unit_model.specs.Claims.{claim_at, every_cell, some_cell, repeats, overlaps}
use Rattle.unit_model.specs.Blocks.{block_at, every_data_cell, has_all, data_verdict, timely}
use Rattle.unit_model.specs.Decoding.{gathered, decode, data_sections}
use Rattle.unit_model.specs.Radiated.{id_from}
use Rattle.unit_model.specs.Judgements.{judged_commands, judged_data, judged_whole, judged_in}
use Rattle.unit_model.specs.Heard.{arrivals_heard}
use Rattle.explain_model.specs.Stories.{arrival_count, told_after, stories_in}
use Rattle.explain_model.specs.Pieces.{pieces}
use Rattle.explain_model.specs.Timings.{control_timing, heading_slot, data_timing}
use Rattle.explain_model.specs.Judged.{judged_after, last_place, accepted_in, first_at, clash_in, gives, has_block, passing, fresh_count}
use Rattle.explain_model.specs.Messages.{message_lines}
use Rattle.explain_model.specs.Sections.{control_line, symbol_named, whole_line, data_line, judged_lines, story_lines}
use Rattle.explain_model.specs.Cells.{some_gives, giver_in, entries_after, lines_in}
use Rattle.explain_model.specs.Margins.{dated, margin_of, margin_lines}
use Rattle.explain_model.specs.Text.{shown_count, explain_of}
use Rattle.explain_model.specs.Lines.{line_text, margin_text, endpoint_text, whole_text, control_place_text, control_text, data_text}
use Rattle.explain_model.specs.Places.{run_text, message_text, timing_text, clash_text}
use Rattle.explain_model.specs.Reasons.{reason_text}
use Rattle.explain_model.specs.Faults.{is_fault}
use Rattle.air_source.specs.UnitLines.{delay_text, count_text}
use Rattle.worked_explanations.specs.OneCommand.{OneCommandAreAsWorked}
use Rattle.worked_explanations.specs.BothWays.{BothWaysAreAsWorked}
use Rattle.worked_explanations.specs.OverlapDocument.{OverlapsAreAsWorked}
use Rattle.worked_explanations.specs.LostFragment.{LostFragmentsAreAsWorked}
use Rattle.worked_explanations.specs.LateUplink.{LateUplinkDataAreAsWorked}
use Rattle.worked_explanations.specs.Corners.{CornersAreAsWorked}

pub one_command : OneCommandAreAsWorked
unfolding digits field absolute_frame sections_of walked checked every some onto meet meetings commands fragments command_verdict accepted claim_at every_cell some_cell repeats overlaps block_at every_data_cell has_all data_verdict timely gathered decode data_sections id_from judged_commands judged_data judged_whole judged_in arrivals_heard arrival_count told_after stories_in pieces control_timing heading_slot data_timing judged_after last_place accepted_in first_at clash_in gives has_block passing fresh_count message_lines control_line symbol_named whole_line data_line judged_lines story_lines some_gives giver_in entries_after lines_in dated margin_of margin_lines shown_count explain_of line_text endpoint_text whole_text control_place_text control_text data_text run_text message_text timing_text clash_text reason_text is_fault delay_text count_text margin_text
one_command = record { is = refl }

pub both_ways : BothWaysAreAsWorked
unfolding digits field absolute_frame sections_of walked checked every some onto meet meetings commands fragments command_verdict accepted claim_at every_cell some_cell repeats overlaps block_at every_data_cell has_all data_verdict timely gathered decode data_sections id_from judged_commands judged_data judged_whole judged_in arrivals_heard arrival_count told_after stories_in pieces control_timing heading_slot data_timing judged_after last_place accepted_in first_at clash_in gives has_block passing fresh_count message_lines control_line symbol_named whole_line data_line judged_lines story_lines some_gives giver_in entries_after lines_in dated margin_of margin_lines shown_count explain_of line_text endpoint_text whole_text control_place_text control_text data_text run_text message_text timing_text clash_text reason_text is_fault delay_text count_text margin_text
both_ways = record { is = refl }

pub overlap : OverlapsAreAsWorked
unfolding digits field absolute_frame sections_of walked checked every some onto meet meetings commands fragments command_verdict accepted claim_at every_cell some_cell repeats overlaps block_at every_data_cell has_all data_verdict timely gathered decode data_sections id_from judged_commands judged_data judged_whole judged_in arrivals_heard arrival_count told_after stories_in pieces control_timing heading_slot data_timing judged_after last_place accepted_in first_at clash_in gives has_block passing fresh_count message_lines control_line symbol_named whole_line data_line judged_lines story_lines some_gives giver_in entries_after lines_in dated margin_of margin_lines shown_count explain_of line_text endpoint_text whole_text control_place_text control_text data_text run_text message_text timing_text clash_text reason_text is_fault delay_text count_text margin_text
overlap = record { is = refl }

pub lost_fragment : LostFragmentsAreAsWorked
unfolding digits field absolute_frame sections_of walked checked every some onto meet meetings commands fragments command_verdict accepted claim_at every_cell some_cell repeats overlaps block_at every_data_cell has_all data_verdict timely gathered decode data_sections id_from judged_commands judged_data judged_whole judged_in arrivals_heard arrival_count told_after stories_in pieces control_timing heading_slot data_timing judged_after last_place accepted_in first_at clash_in gives has_block passing fresh_count message_lines control_line symbol_named whole_line data_line judged_lines story_lines some_gives giver_in entries_after lines_in dated margin_of margin_lines shown_count explain_of line_text endpoint_text whole_text control_place_text control_text data_text run_text message_text timing_text clash_text reason_text is_fault delay_text count_text margin_text
lost_fragment = record { is = refl }

pub late_uplink : LateUplinkDataAreAsWorked
unfolding digits field absolute_frame sections_of walked checked every some onto meet meetings commands fragments command_verdict accepted claim_at every_cell some_cell repeats overlaps block_at every_data_cell has_all data_verdict timely gathered decode data_sections id_from judged_commands judged_data judged_whole judged_in arrivals_heard arrival_count told_after stories_in pieces control_timing heading_slot data_timing judged_after last_place accepted_in first_at clash_in gives has_block passing fresh_count message_lines control_line symbol_named whole_line data_line judged_lines story_lines some_gives giver_in entries_after lines_in dated margin_of margin_lines shown_count explain_of line_text endpoint_text whole_text control_place_text control_text data_text run_text message_text timing_text clash_text reason_text is_fault delay_text count_text margin_text
late_uplink = record { is = refl }

pub corners : CornersAreAsWorked
unfolding digits field absolute_frame sections_of walked checked every some onto meet meetings commands fragments command_verdict accepted claim_at every_cell some_cell repeats overlaps block_at every_data_cell has_all data_verdict timely gathered decode data_sections id_from judged_commands judged_data judged_whole judged_in arrivals_heard arrival_count told_after stories_in pieces control_timing heading_slot data_timing judged_after last_place accepted_in first_at clash_in gives has_block passing fresh_count message_lines control_line symbol_named whole_line data_line judged_lines story_lines some_gives giver_in entries_after lines_in dated margin_of margin_lines shown_count explain_of line_text endpoint_text whole_text control_place_text control_text data_text run_text message_text timing_text clash_text reason_text is_fault delay_text count_text margin_text
corners = record { is = refl }
