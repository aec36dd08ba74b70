use Rattle.std.proofs.Common.{◌≡◌, arith, length}
use Rattle.std.proofs.lemmas.Bool.Decides.{nat_tests}
use Rattle.unit_symbols.proofs.LeftLemmas.{none_in_slot}
use Rattle.unit_symbols.proofs.due_jobs.JobCursorSymbolTest.look_up.Goals as goal

pub returns-then-is_empty-clause-none : goal.returns-then-is_empty-clause-none
returns-then-is_empty-clause-none c =
    let none : length c.uplink-uplink.result.now ≡ 0 = grind (arith, nat_tests) in
    none_in_slot c.args.cells.now c.args.self.now c.args.place.now.ep c.args.place.now.slot c.uplink-uplink.result.now (rw c.requires.there c.uplink-uplink.ensures.value) none

pub returns-else-is_empty-clause-some : goal.returns-else-is_empty-clause-some
returns-else-is_empty-clause-some c = rw c.requires.there c.uplink-uplink.ensures.value
