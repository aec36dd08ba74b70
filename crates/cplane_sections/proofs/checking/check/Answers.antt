use Rattle.std.proofs.Common.{sym, arith}
use Rattle.cplane_sections.proofs.Onward.{check_passes}
use Rattle.cplane_sections.proofs.Admitted.{admitted, fits}
use Rattle.cplane_sections.proofs.checking.check.Goals as goal

pub returns-clause-passed : goal.returns-clause-passed
returns-clause-passed c = record {
  shape = c.args.shape;
  symbols = omega arith;
  is = check_passes c.args.shape c.in_ok-head.head c.args.bytes.now c.in_ok-end.end (sym c.in_ok-head.ensures.value) (sym c.in_ok-end.ensures.value) c.if-end-bytes.false;
}

pub returns-clause-admitted : goal.returns-clause-admitted
returns-clause-admitted c =
    admitted c.args.shape c.in_ok-head.head c.args.bytes.now (check_passes c.args.shape c.in_ok-head.head c.args.bytes.now c.in_ok-end.end (sym c.in_ok-head.ensures.value) (sym c.in_ok-end.ensures.value) c.if-end-bytes.false)

pub returns-clause-fits : goal.returns-clause-fits
returns-clause-fits c =
    fits c.args.shape c.in_ok-head.head c.args.bytes.now (check_passes c.args.shape c.in_ok-head.head c.args.bytes.now c.in_ok-end.end (sym c.in_ok-head.ensures.value) (sym c.in_ok-end.ensures.value) c.if-end-bytes.false)
