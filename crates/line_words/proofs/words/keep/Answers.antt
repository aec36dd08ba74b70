use Rattle.std.proofs.Common.{◌≡◌, ◌∷◌, ◌++◌, ◌<◌, ap, sym, ◌∙◌, length, map, take, length-take, arith, rules}
use Rattle.std.specs.Prelude.{◌==◌}
use Rattle.std.specs.List.{slice_split}
use Rattle.line_words.specs.declared.words.TheConstants.{KEPT}
use Rattle.line_words.specs.Words.{words_of, parts_left, left_length}
use Rattle.line_words.proofs.Cuts.{words_left, next_word, shorter}
use Rattle.line_words.proofs.WordSteps.{all_kept}
use Rattle.line_words.proofs.words.keep.Goals as goal

pub words-preserved-then-not-is_empty : goal.words-preserved-then-not-is_empty
words-preserved-then-not-is_empty c =
    let word = c.cut_near.result.0 in
    let rest = c.cut_near.result.1 in
    let some : 0 < length word.now = search rules in
    let left : words_left c.words.rest ≡ word.now ∷ words_left rest =
    ap words_left c.in-Some.is ∙ next_word (slice_split (λ b. b == 32) c.in-Some.text.now) word.now (parts_left 32 rest) c.cut_near.ensures.parts some in
    record {
      counted = omega (arith, ap length left, c.words.invariant.counted);
      fits = omega (arith, c.words.invariant.fits, ap left_length c.in-Some.is, shorter c.in-Some.text.now rest c.cut_near.ensures.shorter);
      kept = c.keep_word.ensures.word (words_left rest)
          ∙ ap (λ ws. take KEPT (map (λ x. x.now) (take c.words.count c.words.kept) ++ ws)) (sym left)
          ∙ c.words.invariant.kept;
      size = c.keep_word.ensures.size;
    }

pub returns-clause-first : goal.returns-clause-first
returns-clause-first c =
    all_kept (λ x. x.now) (take c.words.count c.words.kept) (words_of c.args.line.now) (omega (arith, length-take c.words.count c.words.kept, c.words.invariant.size))
    (ap (λ rest. take KEPT (map (λ x. x.now) (take c.words.count c.words.kept) ++ words_left rest)) (sym c.in_default.is) ∙ c.words.invariant.kept)
