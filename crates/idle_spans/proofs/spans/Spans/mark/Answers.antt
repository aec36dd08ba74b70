use Rattle.idle_spans.proofs.TableLemmas.{spans_stand}
use Rattle.idle_spans.proofs.spans.Spans.mark.Goals as goal

pub returns-clause-stands : goal.returns-clause-stands
returns-clause-stands c config first last cells stands = spans_stand c.args.self.now _ config first last cells _ stands c.mark_row.ensures
