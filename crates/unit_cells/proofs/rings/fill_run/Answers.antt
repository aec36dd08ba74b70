use Rattle.std.proofs.Common.{◌≡◌, length}
use Rattle.slot_rings.specs.Runs.{packed_samples}
use Rattle.slot_rings.proofs.RunLemmas.{run_length}
use Rattle.unit_cells.proofs.StepLemmas.{below_count, filled, out_count}
use Rattle.unit_cells.proofs.rings.fill_run.Goals as goal

pub returns : goal.returns
returns c =
    let run = c.args.run.now in
    let many : length (packed_samples run) ≡ run.count = run_length run.method run.count run.bytes.now in
    filled c.args.slot c.args.symbol c.args.first run.id (packed_samples run) c.args.ring.now c.open.new.self c.fill_run.new.self c.open.ensures.claims c.open.ensures.blocks c.open.ensures.reported
    c.open.ensures.uplink c.open.ensures.touches (record {
      here = λ ep k below. c.fill_run.ensures.here ep k (below_count k (length (packed_samples run)) run.count many below);
      others = λ cell is at ne. c.fill_run.ensures.others cell is at (λ s. out_count c.args.first (length (packed_samples run)) run.count cell.prb many (ne s));
      has = c.fill_run.ensures.has;
      claims = c.fill_run.ensures.claims;
      reported = c.fill_run.ensures.reported;
      uplink = c.fill_run.ensures.uplink;
      touches = c.fill_run.ensures.touches;
    })
