use Rattle.ru_buffers.proofs.FoundLemmas.{found_message}
use Rattle.ru_buffers.proofs.finding.find_message.Goals as goal

pub returns : goal.returns
returns c = found_message c.args.cells.now c.args.cursor.now c.next_job.result c.next_job.ensures.found c.next_job.ensures.none
