use Rattle.std.proofs.Common.{ℕ, List, [], ◌∷◌, ◌++◌, codes, decimal, sym, ap, ◌∙◌, append-nil}
use Rattle.std.specs.Fmt.{signed_decimal}
use Rattle.fh_base.specs.Words.{hex3_text, hex4_text}
use Rattle.fh_document.specs.LineWords.{plan_kind_word}
use Rattle.idle_text.specs.Lines.{plan_line_text}
use Rattle.idle_text.proofs.JoinedLemmas.{behind_spaces, one_word, spaced_is}
use Rattle.idle_text.proofs.lines.put_plan_line.Goals as goal

pub returns : goal.returns
unfolding plan_line_text
returns c =
    let l = c.args.l.now in
    let v12 : List (List ℕ) = decimal l.beam ∷ [] in
    let v11 : List (List ℕ) = decimal l.section ∷ v12 in
    let v10 : List (List ℕ) = hex3_text l.mask ∷ v11 in
    let v9 : List (List ℕ) = decimal l.num_prb ∷ v10 in
    let v8 : List (List ℕ) = decimal l.start_prb ∷ v9 in
    let v7 : List (List ℕ) = decimal l.count ∷ v8 in
    let v6 : List (List ℕ) = decimal l.symbol ∷ v7 in
    let v5 : List (List ℕ) = decimal l.slot.slot ∷ v6 in
    let v4 : List (List ℕ) = decimal l.slot.subframe ∷ v5 in
    let v3 : List (List ℕ) = signed_decimal l.slot.frame ∷ v4 in
    let v2 : List (List ℕ) = hex4_text l.id ∷ v3 in
    let v1 : List (List ℕ) = plan_kind_word l.kind ∷ v2 in
    let kind = c.word.ensures ∙ ap (λ (w : List ℕ). c.text.new.self ++ 32 ∷ w) c.kind_word.ensures.word in
    let all =
    sym (append-nil _)
    ∙ one_word _ _ (decimal l.beam) [] c.spaced-8.ensures.text
    ∙ one_word _ _ (decimal l.section) v12 c.spaced-7.ensures.text
    ∙ one_word _ _ (hex3_text l.mask) v11 c.mask_word.ensures.text
    ∙ one_word _ _ (decimal l.num_prb) v10 c.spaced-6.ensures.text
    ∙ one_word _ _ (decimal l.start_prb) v9 c.spaced-5.ensures.text
    ∙ one_word _ _ (decimal l.count) v8 c.spaced-4.ensures.text
    ∙ one_word _ _ (decimal l.symbol) v7 c.spaced-3.ensures.text
    ∙ one_word _ _ (decimal l.slot.slot) v6 c.spaced-2.ensures.text
    ∙ one_word _ _ (decimal l.slot.subframe) v5 c.spaced.ensures.text
    ∙ one_word _ _ (signed_decimal l.slot.frame) v4 c.frame_word.ensures.text
    ∙ one_word _ _ (hex4_text l.id) v3 c.id_word.ensures.text
    ∙ one_word _ _ (plan_kind_word l.kind) v2 kind
    ∙ ap (λ (t : List ℕ). t ++ behind_spaces v1) (c.text.ensures ∙ ap (λ (t : List ℕ). t ++ codes "plan") c.requires)
    ∙ sym (spaced_is (codes "plan") v1) in
    c.text-2.ensures ∙ ap (λ (t : List ℕ). t ++ codes "\n") all
