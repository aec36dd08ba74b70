use Rattle.std.proofs.Common.{◌+◌, ◌∙◌, List, ap, subst}
use Rattle.air_source.specs.declared.events.AirCell.{AirCell}
use Rattle.fault_counters.specs.Counts.{capped, count_of, once}
use Rattle.fault_counters.specs.declared.kinds.Counter.{Counter}
use Rattle.unit_symbols.specs.DueSymbols.{CountsTold}
use Rattle.unit_symbols.proofs.CountLemmas.{counts_one}
use Rattle.unit_symbols.proofs.reporting.tell_cell.Goals as goal

pub returns-in_ok-cell-in-Some-clause-counts : goal.returns-in_ok-cell-in-Some-clause-counts
returns-in_ok-cell-in-Some-clause-counts g c =
    subst (λ (told : List AirCell). CountsTold told c.args.counters.now c.add.new.self) c.in-Some.ensures
    (counts_one c.in-Some.cell c.args.counters.now c.add.new.self
    (λ k. c.add.ensures.each k ∙ ap (λ (x : Counter). capped (count_of c.args.counters.now k + once x k)) c.block_counter.ensures))
