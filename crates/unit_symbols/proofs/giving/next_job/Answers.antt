use Rattle.unit_symbols.proofs.StepLemmas.{found_first, none_found, some_found}
use Rattle.unit_symbols.proofs.giving.next_job.Goals as goal

pub returns-in_err-symbol-clause-none : goal.returns-in_err-symbol-clause-none
returns-in_err-symbol-clause-none c = rw c.from_residual.ensures (none_found c.args.cells.now c.args.cursor.now c.in_err-symbol.ensures.first)

pub returns-in_err-job-clause-none : goal.returns-in_err-job-clause-none
returns-in_err-job-clause-none c =
    absurd (some_found c.args.cells.now c.args.cursor.now c.in_ok-symbol.symbol c.uplink-uplink.result.now (rw c.ring.ensures.ring c.uplink-uplink.ensures.value) c.in_ok-symbol.ensures.first c.in_err-job.ensures)

pub returns-clause-found : goal.returns-clause-found
returns-clause-found c =
    found_first c.args.cells.now c.args.cursor.now c.in_ok-symbol.symbol c.uplink-uplink.result.now c.in_ok-job.job (rw c.ring.ensures.ring c.uplink-uplink.ensures.value) c.uplink-uplink.ensures.few
    c.in_ok-symbol.ensures.first c.in_ok-job.ensures
