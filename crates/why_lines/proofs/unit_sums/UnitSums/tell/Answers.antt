-- Word by word.
use Rattle.std.proofs.Common.{◌≡◌, ◌<◌, ◌≤◌, ℕ, List, length, refl, ap, subst, ◌∙◌, arith, rules}
use Rattle.std.specs.List.{flat_map}
use Rattle.std.proofs.lemmas.List.{take_all}
use Rattle.explain_model.specs.declared.values.ExplainLine.{ExplainLine}
use Rattle.explain_heard.specs.Stops.{StopsInLine}
use Rattle.why_lines.specs.Counting.{unit_lines, word_lines}
use Rattle.why_lines.proofs.ReasonTellLemmas.{one_more, stops_there}
use Rattle.why_lines.proofs.unit_sums.UnitSums.tell.Goals as goal

inside : (n i : ℕ) → n ≡ 25 → i < 25 → i < n
inside n i is lt = omega (arith, is, lt)

past : (n i : ℕ) → n ≡ 25 → 25 ≤ i → n ≤ i
past n i is most = omega (arith, is, most)

pub loop-word-init : goal.loop-word-init
loop-word-init g c = record {
  heard = g.met.W.LineSink.grew_none c.args.out.now;
  same = g.met.W.LineSink.same_none c.args.out.now;
  still = refl;
}

pub loop-word-preserved : goal.loop-word-preserved
loop-word-preserved g c = record {
  heard =
      one_more g.W.LineSink.grew g.met.W.LineSink.grew_more (word_lines c.args.self.now) c.told-word-items.result c.loop-word.word-index _
      (inside (length c.told-word-items.result) c.loop-word.word-index (ap length c.told-word-items.ensures) c.loop-word-test.true)
      c.args.out.now c.loop-word.out c.tell_word.new.out c.loop-word.invariant.heard c.in_ok-tell_word.ensures.heard;
  same = g.met.W.LineSink.same_more _ _ _ c.loop-word.invariant.same c.in_ok-tell_word.ensures.same;
  still = c.in_ok-tell_word.ensures.cause ∙ c.loop-word.invariant.still;
}

pub returns-in_err-tell_word-clause-stop : goal.returns-in_err-tell_word-clause-stop
unfolding unit_lines
returns-in_err-tell_word-clause-stop g c =
    let stop = subst (λ (ls : List ExplainLine). StopsInLine g.W.LineSink.grew (g.W.LineSink.stopped c.in_err-tell_word.field-0.0) ls c.args.out.now c.tell_word.new.out)
    (ap (flat_map (word_lines c.args.self.now)) c.told-word-items.ensures)
    (stops_there g.W.LineSink.grew g.met.W.LineSink.grew_more (word_lines c.args.self.now) (g.W.LineSink.stopped c.in_err-tell_word.field-0.0) c.told-word-items.result c.loop-word.word-index _
    (inside (length c.told-word-items.result) c.loop-word.word-index (ap length c.told-word-items.ensures) c.loop-word-test.true)
    c.args.out.now c.loop-word.out c.tell_word.new.out c.loop-word.invariant.heard c.in_err-tell_word.ensures.stop) in
    search (rules, stop)

pub returns-clause-heard : goal.returns-clause-heard
unfolding unit_lines
returns-clause-heard g c =
    subst (λ (ls : List ExplainLine). g.W.LineSink.grew c.args.out.now ls c.loop-word.out)
    (ap (flat_map (word_lines c.args.self.now))
    (take_all c.loop-word.word-index c.told-word-items.result
    (past (length c.told-word-items.result) c.loop-word.word-index (ap length c.told-word-items.ensures) c.loop-word-test.false)
    ∙ c.told-word-items.ensures))
    c.loop-word.invariant.heard
