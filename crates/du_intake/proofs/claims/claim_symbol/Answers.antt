-- Line by line.
use Rattle.std.proofs.Common.{◌≡◌, ◌≤◌, List, get_or, length, subst, sym, ◌∙◌, take, ◌+◌, ℕ}
use Rattle.std.proofs.lemmas.Option.{slice_get-get_or}
use Rattle.du_intake.specs.Rows.{IsRowOf}
use Rattle.du_intake.specs.declared.claims.PlannedClaim.{PlannedClaim}
use Rattle.du_intake.proofs.ListingLemmas.{blank}
use Rattle.du_intake.proofs.RowLemmas.{row_claimed, row_none, row_skipped}
use Rattle.du_intake.proofs.claims.claim_symbol.Goals as goal
use Rattle.du_intake.proofs.claims.claim_symbol.Goals.{else-has_symbol, then-has_symbol}

pub loop-line-init : goal.loop-line-init
loop-line-init c = record { len = c.clear.ensures.len; claims = row_none c.clear.new.row c.args.symbol c.clear.ensures.none }

pub claim_line-requires : goal.claim_line-requires
claim_line-requires c =
    let l = get_or c.args.lines.now c.loop-line.line-index blank in
    subst (λ (n : ℕ). l.first_prb + l.prbs ≤ n) (sym c.loop-line.invariant.len)
    (c.requires.inside c.loop-line.line-index l (slice_get-get_or c.args.lines.now c.loop-line.line-index blank c.loop-line-test.true))

pub loop-line-preserved : goal.loop-line-preserved
loop-line-preserved c =
    elim c.if-has_symbol.branch [
      | then-has_symbol w ↦ record {
        len = subst (λ (xs : List PlannedClaim). length xs ≡ length c.args.row.now) (sym w.row-is) (w.claim_line.ensures.len ∙ c.loop-line.invariant.len);
        claims =
            subst (IsRowOf (take (c.loop-line.line-index + 1) c.args.lines.now) c.args.symbol) (sym w.row-is)
            (row_claimed c.args.lines.now c.loop-line.line-index blank c.args.symbol c.loop-line.row w.claim_line.new.row c.loop-line-test.true c.requires.twelve c.requires.one
            c.loop-line.invariant.claims (sym w.if-has_symbol.ensures) w.claim_line.ensures.claims);
      }
      | else-has_symbol w ↦ record {
        len = subst (λ (xs : List PlannedClaim). length xs ≡ length c.args.row.now) (sym w.row-is) c.loop-line.invariant.len;
        claims =
            subst (IsRowOf (take (c.loop-line.line-index + 1) c.args.lines.now) c.args.symbol) (sym w.row-is)
            (row_skipped c.args.lines.now c.loop-line.line-index blank c.args.symbol c.loop-line.row c.loop-line-test.true c.loop-line.invariant.claims (sym w.if-has_symbol.ensures));
      }
    ]
