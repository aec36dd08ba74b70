-- One line of a document, by its words.
use Rattle.std.proofs.Common.{◌≡◌, ℕ, ◌≢◌, ◌≤◌, List, true, false, nat_lt, Some, ap, ◌∙◌, arith}
use Rattle.std.specs.Prelude.{◌==◌}
use Rattle.std.specs.List.{list_all}
use Rattle.std.proofs.lemmas.Bool.Decides.{nat_tests}
use Rattle.fh_document.specs.declared.refusals.DocWhy.TheVariants as why
use Rattle.fh_document.specs.Keywords.{keyword_of, rank_of}
use Rattle.fh_document.specs.Lines.{reached, comes_late, is_skipped, keyword_line, ordered_line, later_line, words_line, line_of}
use Rattle.fh_document.specs.Steps.{Said, Kind}
use Rattle.fh_document.specs.Words.{is_text}
use Rattle.fh_document.specs.Joined.{is_word, spaced}
use Rattle.fh_document.proofs.Tests.{if_true, then_some}
use Rattle.fh_document.proofs.JoinLemmas.{words_are, words_text}
use Rattle.fh_base.proofs.Orders.{if_not}

other : (n : ℕ) → n ≢ 1 → (n == 1) ≡ false
other n h = grind (arith, nat_tests)

in_time : (rank latest : ℕ) → latest ≤ rank → nat_lt rank latest ≡ false
in_time rank latest h = grind (arith, nat_tests)

-- a line of words after line 1, of a kind that may be there
pub line_is : (r : Said) (n : ℕ) (k : Kind) (ws : List (List ℕ)) → n ≢ 1 → list_all is_word ws ≡ true → is_skipped ws ≡ false → keyword_of r.version ws ≡ Some k
    → reached r ≤ rank_of k → line_of r n (spaced ws) ≡ keyword_line r n k ws
unfolding line_of
line_is r n k ws later words some keyword order =
    if_true (is_text (spaced ws)) _ _ (words_text ws words)
    ∙ ap (words_line r n) (words_are ws words)
    ∙ if_not (n == 1) _ (later_line r n ws) (other n later)
    ∙ if_not (is_skipped ws) _ _ some
    ∙ then_some (keyword_of r.version ws) why.UnknownWord k (λ x. ordered_line r n x ws) keyword
    ∙ if_not (comes_late r k) _ _ (in_time (rank_of k) (reached r) order)
