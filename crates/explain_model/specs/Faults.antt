-- Which lines are in the text of the faults.
use Rattle.std.specs.Prelude.{Bool, true, false, is_some}
use Rattle.ecpri_fragments.specs.declared.verdict.Verdict.{Verdict}
use Rattle.ecpri_fragments.specs.declared.verdict.Verdict.TheVariants as fragment
use Rattle.explain_model.specs.declared.values.CommandAnswer.{CommandAnswer}
use Rattle.explain_model.specs.declared.values.CommandAnswer.TheVariants as answer
use Rattle.explain_model.specs.declared.values.ExplainLine.{ExplainLine}
use Rattle.explain_model.specs.declared.values.ExplainLine.TheVariants as line
use Rattle.unit_model.specs.declared.verdicts.CommandVerdict.{CommandVerdict}
use Rattle.unit_model.specs.declared.verdicts.CommandVerdict.TheVariants as command
use Rattle.unit_model.specs.declared.verdicts.DataVerdict.{DataVerdict}
use Rattle.unit_model.specs.declared.verdicts.DataVerdict.TheVariants as given

abbrev pub is_answer_fault : CommandAnswer → Bool
is_answer_fault answer.Read = false
is_answer_fault _ = true

abbrev pub is_command_fault : CommandVerdict → Bool
is_command_fault command.Accepted = false
is_command_fault _ = true

abbrev pub is_data_fault : DataVerdict → Bool
is_data_fault given.Taken = false
is_data_fault _ = true

abbrev pub is_fragment_fault : Verdict → Bool
is_fragment_fault fragment.Stored = false
is_fragment_fault fragment.Whole = false
is_fragment_fault _ = true

-- the line is in the text of the faults: all are but those that tell what went well
unfoldable pub is_fault : ExplainLine → Bool
is_fault (line.Window name range) = false
is_fault (line.Endpoint e) = false
is_fault (line.Frame number side at bytes refusal) = is_some refusal
is_fault (line.Measure number place size) = false
is_fault (line.Command message said) = is_answer_fault said
is_fault (line.Control c) = is_command_fault c.verdict
is_fault (line.Fragment message bytes verdict) = is_fragment_fault verdict
is_fault (line.Data d) = is_data_fault d.verdict
is_fault (line.Cells run mask word) = false
is_fault (line.Delay at side id value) = false
is_fault _ = true
