-- A document that was read has the widths of its numbers.
use Rattle.std.specs.Prelude.{◌<◌, ◌^◌}
use Rattle.std.proofs.lemmas.List.Elements.{All-weaker}
use Rattle.fh_document.specs.Proper.{IsDocument, IsPlanLine}
use Rattle.fh_document.specs.declared.document.Document.{Document}
use Rattle.window_config.specs.declared.plan.PlanLine.{PlanLine}
use Rattle.document_traffic.specs.Laws.{HasWidths}

abbrev HasNumber : PlanLine → Type 0
HasNumber l = l.num_prb < 2 ^ 8

pub widths_are : (d : Document) → IsDocument d → HasWidths d
widths_are d h = record { ids = h.ids; num_prbs = All-weaker IsPlanLine HasNumber (λ l line. line.num_prb) d.plan h.plan }
