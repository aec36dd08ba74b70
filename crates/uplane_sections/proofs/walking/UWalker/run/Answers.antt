use Rattle.std.proofs.Common.{◌≡◌, ◌*◌, length, take, ap, arith}
use Rattle.std.proofs.lemmas.List.{length-take-le}
use Rattle.bfp_codec.specs.Layout.{length_of}
use Rattle.uplane_sections.specs.declared.phases.Phase.{Phase}
use Rattle.uplane_sections.specs.Phases.{method_in_phase}
use Rattle.uplane_sections.proofs.Runs.{run_tells, run_within}
use Rattle.uplane_sections.proofs.walking.UWalker.run.Goals as goal

pub returns-in-Inside-clause-tells : goal.returns-in-Inside-clause-tells
returns-in-Inside-clause-tells c rest =
    let w = c.args.self.now in
    let piece = c.args.piece.now in
    let i = c.in-Inside in
    let n = c.min-count.result in
    let used = n * c.block_len-len.result in
    let least = w.phase_least in
    let same : length_of (method_in_phase w.phase) ≡ length_of i.method = ap (λ (p : Phase). length_of (method_in_phase p)) i.is in
    let within = run_within n i.left c.block_len-len.result (length piece) (omega (arith, least, same, c.block_len-len.ensures.value)) c.min-count.ensures in
    run_tells w.format w.prbs w.shape w.phase c.inside-self.result i.method i.symbol w.start i.prb i.left n used w.there w.held (take used piece) rest i.is (omega (arith, c.if-self-ne0.false)) (omega (arith, c.min-count.ensures))
    (length-take-le used piece within) (ap (λ k. n * k) c.block_len-len.ensures.value) (c.inside-self.ensures.leads w.format w.prbs w.shape)
