use Rattle.std.proofs.Common.{◌∙◌, sym}
use Rattle.pcap_export.proofs.Runs.{no_ways, read}
use Rattle.pcap_export.proofs.running.work.Goals as goal
use Rattle.fh_base.proofs.Known.{not_long}

pub returns-in_default-clause-outcome : goal.returns-in_default-clause-outcome
returns-in_default-clause-outcome g c = no_ways _ _ _ _ _ (sym c.ways_of.ensures ∙ c.in_default.is)

pub returns-in-Ok-clause-outcome : goal.returns-in-Ok-clause-outcome
returns-in-Ok-clause-outcome g c =
    let w = c.in-Ok.ensures.whole in
    read _ c.in-Some.ways c.as_slice.result.now w.came _ _ _ _ _ _ _ _ _ (sym c.ways_of.ensures ∙ c.in-Some.is) (c.as_slice.ensures ∙ w.ok.0)
    c.export.ensures w.taken w.ok.1 (not_long _ _ _ _ w.too_long) c.in-Ok.ensures.cause
