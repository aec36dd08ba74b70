use Rattle.document_traffic.proofs.CountedLemmas.{counters_have_counted}
use Rattle.document_traffic.proofs.ExchangedLemmas.{delay_events_are_known}
use Rattle.document_traffic.proofs.measured_traffic.delays_are_told.Goals as goal

pub returns : goal.returns
returns c = λ d is. record { delays = delay_events_are_known d is; counts = counters_have_counted d is }
