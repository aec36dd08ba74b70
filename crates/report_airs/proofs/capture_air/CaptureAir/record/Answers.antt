use Rattle.std.proofs.Common.{rules, ◌≡◌, ◌<◌, ◌≤◌, ◌++◌, List, ℕ, length, sym, ap, arith}
use Rattle.std.proofs.lemmas.Result.{IfErr-weaker, on_ok_weaker}
use Rattle.fh_base.proofs.Causes.{counts_later}
use Rattle.fh_base.specs.declared.owed.TheConstants.{ROOM}
use Rattle.report_airs.proofs.Recording.{both_recorded, in_first, in_second}
use Rattle.report_airs.proofs.capture_air.CaptureAir.record.Goals as goal

-- the bytes before the frame are as computed
before_frame : (head bytes frame : List ℕ) → head ≡ bytes → bytes ++ frame ≡ head ++ frame
before_frame head bytes frame is = ap (λ t. t ++ frame) (sym is)

-- there are some, and fewer than the room
some_head : (n : ℕ) → n ≡ 13 → 0 < n
some_head n is = omega (arith, is)

short_head : (n : ℕ) → n ≡ 13 → n ≤ ROOM
short_head n is = omega (arith, is)

pub returns-in_err-owe-clause-stop : goal.returns-in_err-owe-clause-stop
returns-in_err-owe-clause-stop g c =
    let same : c.owe.result ≡ c.from_residual.result = search rules in
    rw (sym same) (IfErr-weaker c.owe.result _ _ (λ f stop.
    in_first c.record_head.result c.args.frame.now _ f _ _ _ _ _ _ _ (before_frame _ _ c.args.frame.now c.record_head.ensures) stop) c.owe.ensures.stop)

pub returns-clause-recorded : goal.returns-clause-recorded
returns-clause-recorded g c =
    let size = ap length c.record_head.ensures in
    on_ok_weaker c.owe_frame.result (λ second.
    both_recorded c.record_head.result c.args.frame.now _ _ _ _ _ _ _ (before_frame _ _ c.args.frame.now c.record_head.ensures) c.in_ok-owe.ensures.carried
    (c.in_ok-owe.ensures.owing (some_head _ size) (short_head _ size)) second) c.owe_frame.ensures.recorded

pub returns-clause-stop : goal.returns-clause-stop
returns-clause-stop g c =
    IfErr-weaker c.owe_frame.result _ _ (λ f stop.
    in_second c.record_head.result c.args.frame.now _ f _ _ _ _ _ _ _ _ _ _ _ (before_frame _ _ c.args.frame.now c.record_head.ensures) c.in_ok-owe.ensures.carried
    (counts_later _ _ _ c.owe.ensures.cause) (counts_later _ _ _ c.owe.ensures.refusal) stop) c.owe_frame.ensures.stop
