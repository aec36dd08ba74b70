use Rattle.fh_document.proofs.WidthSums.{same_numbers}
use Rattle.fh_document.proofs.config_lines.default_widths.Goals as goal

pub returns : goal.returns
returns c = same_numbers 4 4 4 4 _ _
