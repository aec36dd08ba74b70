use Rattle.std.proofs.Common.{sym, subst}
use Rattle.fh_document.specs.Answered.{Reads}
use Rattle.fh_document.specs.Lines.{keyword_line, setting_line}
use Rattle.fh_document.specs.EndpointLines.{endpoint_line}
use Rattle.fh_document.proofs.Answering.{reads_refused}
use Rattle.fh_document.proofs.reading.keyword_line.Goals as goal

pub returns-in-Configure : goal.returns-in-Configure
returns-in-Configure c =
    subst (λ k. Reads (keyword_line c.args.reading.now c.args.n k c.args.words.now) c.refused.result c.setting_line.new.reading) (sym c.in-Configure.is)
    (reads_refused (setting_line c.args.reading.now c.in-Configure.setting c.args.words.now) c.setting_line.result c.refused.result c.setting_line.new.reading
    c.refused.ensures c.setting_line.ensures)

pub returns-in-Endpoint : goal.returns-in-Endpoint
returns-in-Endpoint c =
    subst (λ k. Reads (keyword_line c.args.reading.now c.args.n k c.args.words.now) c.refused-in-Endpoint.result c.endpoint_line.new.reading) (sym c.in-Endpoint.is)
    (reads_refused (endpoint_line c.args.reading.now c.args.words.now) c.endpoint_line.result c.refused-in-Endpoint.result c.endpoint_line.new.reading
    c.refused-in-Endpoint.ensures c.endpoint_line.ensures)
