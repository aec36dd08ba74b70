use Rattle.std.proofs.Common.{◌≡◌, ◌++◌, List, ℕ, ap, sym, subst, ◌∙◌}
use Rattle.std.specs.Str.{IsUtf8}
use Rattle.capture_show.specs.Lines.{word_text}
use Rattle.capture_show.proofs.Ascii.{word_utf8}
use Rattle.capture_show.proofs.objects.word_value.Goals as goal

pub unreachable-requires : goal.unreachable-requires
unreachable-requires c =
    let is : c.as_slice.result.now ≡ word_text c.args.word = c.as_slice.ensures.bytes ∙ c.put_word.ensures.text ∙ ap (λ t. t ++ word_text c.args.word) c.new-line.ensures in
    c.in-Err.ensures.cases.0 (subst (λ (t : List ℕ). IsUtf8 t) (sym is) (word_utf8 c.args.word))
