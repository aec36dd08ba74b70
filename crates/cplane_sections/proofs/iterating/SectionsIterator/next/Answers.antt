use Rattle.std.proofs.Common.{ap, arith}
use Rattle.cplane_sections.specs.Header.{kind_of}
use Rattle.cplane_sections.specs.Message.{sections_of}
use Rattle.cplane_sections.proofs.Onward.{passes_on}
use Rattle.cplane_sections.proofs.iterating.SectionsIterator.next.Goals as goal

pub returns-then-self-eq0-clause-steps : goal.returns-then-self-eq0-clause-steps
unfolding sections_of
returns-then-self-eq0-clause-steps c =
    let it = c.args.self.now in
    let none = ap (λ n. sections_of n (kind_of it.body) it.bytes.now it.place it.symbol) c.if-self-eq0.true in
    (none, none)

pub passed_at-section-requires : goal.passed_at-section-requires
passed_at-section-requires c =
    let it = c.args.self.now in
    passes_on it.left (kind_of it.body) it.bytes.now it.place it.symbol (omega (arith, c.if-self-eq0.false)) it.passes
