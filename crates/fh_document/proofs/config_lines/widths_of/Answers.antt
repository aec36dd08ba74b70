use Rattle.std.proofs.Common.{refl}
use Rattle.fh_document.proofs.WidthSums.{widths_ok, summed_err}
use Rattle.fh_document.proofs.config_lines.widths_of.Goals as goal

pub returns-in-Ok : goal.returns-in-Ok
returns-in-Ok c =
    let ok = c.in-Ok.ensures.ok in
    widths_ok c.in-Ok.widths c.args.du c.args.band c.args.carrier c.args.port ok.0 ok.1 ok.2 ok.3

pub returns-in-Err : goal.returns-in-Err
returns-in-Err c = summed_err c.args.du c.args.band c.args.carrier c.args.port _ refl c.in-Err.ensures.variant.1
