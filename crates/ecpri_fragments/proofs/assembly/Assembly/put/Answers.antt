use Rattle.std.proofs.Common.{◌+◌, ◌*◌, ◌<◌, ℤ, length, sym, ap, ◌∙◌, arith, rules}
use mir.Syntax.{w8}
use mir.Val.{Fits}
use Rattle.fh_base.specs.declared.values.Ticks.{Ticks}
use Rattle.ecpri_fragments.specs.Generations.{fragment}
use Rattle.ecpri_fragments.specs.Verdicts.{verdict_on}
use Rattle.ecpri_fragments.specs.Assemblies.{StandsFor}
use Rattle.ecpri_fragments.proofs.Steps.{repeat_is, repeat_stands}
use Rattle.ecpri_fragments.proofs.assembly.Assembly.put.Goals as goal

pub returns-then-repeats-clause-took : goal.returns-then-repeats-clause-took
unfolding StandsFor
returns-then-repeats-clause-took c =
    let mid = c.finish_last.new.self in
    let a = fragment c.args.ep c.args.at c.args.seq c.args.bytes.now in
    let b : Fits w8 c.args.seq.seq = search rules in
    let low : a.seq < 256 = omega (arith, b) in
    let same = c.finish_last.ensures.same in
    let room : a.ep * 256 + a.seq < length mid.pool.numbers.items = omega (arith, b, c.requires.endpoint, same.1, mid.per_endpoint, mid.pool.numbers.ok.0) in
    let within : a.ep * 256 + a.seq < length mid.done.items = omega (arith, b, c.requires.endpoint, same.1, mid.done_per_endpoint, mid.done.ok.0) in
    record {
      hold = ap (λ (t : Ticks). t.0) same.0;
      endpoints = same.1;
      stands = λ arrivals s. repeat_stands mid.pool.numbers.items mid.done.items mid.pool.places.items mid.hold.0 arrivals a low room within (λ n d e f. sym (c.repeats.ensures n d e f) ∙ c.if-repeats.true) (c.finish_last.ensures.stands arrivals s);
      rests = λ arrivals s r. c.finish_last.ensures.stands arrivals s;
    }

pub returns-then-repeats-clause-verdict : goal.returns-then-repeats-clause-verdict
unfolding StandsFor
returns-then-repeats-clause-verdict c arrivals s =
    let mid = c.finish_last.new.self in
    let a = fragment c.args.ep c.args.at c.args.seq c.args.bytes.now in
    let b : Fits w8 c.args.seq.seq = search rules in
    let low : a.seq < 256 = omega (arith, b) in
    let same = c.finish_last.ensures.same in
    let room : a.ep * 256 + a.seq < length mid.pool.numbers.items = omega (arith, b, c.requires.endpoint, same.1, mid.per_endpoint, mid.pool.numbers.ok.0) in
    let within : a.ep * 256 + a.seq < length mid.done.items = omega (arith, b, c.requires.endpoint, same.1, mid.done_per_endpoint, mid.done.ok.0) in
    let e = repeat_is mid.pool.numbers.items mid.done.items mid.pool.places.items mid.hold.0 arrivals a low room within (λ n d e f. sym (c.repeats.ensures n d e f) ∙ c.if-repeats.true) (c.finish_last.ensures.stands arrivals s) in
    sym e ∙ ap (λ (h : ℤ). verdict_on h a arrivals) (ap (λ (t : Ticks). t.0) same.0)
