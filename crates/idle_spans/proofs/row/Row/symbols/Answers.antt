use Rattle.std.proofs.Common.{◌≤◌, length, arith}
use Rattle.idle_spans.proofs.TableLemmas.{marks_few}
use Rattle.idle_spans.proofs.row.Row.symbols.Goals as goal

pub returns-clause-few : goal.returns-clause-few
returns-clause-few c =
    let few : length c.self.inside.marks.items ≤ 22400 =
    marks_few (record { endpoint = c.self.inside.endpoint; first = c.self.inside.first; last = c.self.inside.last; marks = c.self.inside.marks.items }) c.self.invariant in
    omega (arith, c.len.ensures, few)
