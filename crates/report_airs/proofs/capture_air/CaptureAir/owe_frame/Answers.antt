use Rattle.std.proofs.Common.{rules, ◌≡◌, ◌<◌, ◌≤◌, ◌+◌, ◌-◌, ℕ, length, sym, arith}
use Rattle.std.proofs.lemmas.Result.{IfErr-weaker}
use Rattle.fh_base.proofs.Causes.{counts_later}
use Rattle.fh_base.specs.declared.owed.TheConstants.{ROOM}
use Rattle.report_airs.proofs.Recording.{in_first, in_second, last_recorded, ok_both}
use Rattle.report_airs.proofs.capture_air.CaptureAir.owe_frame.Goals as goal

-- the last part of a frame has one byte
some_last : (last len : ℕ) → last + (len - 1) ≡ len → 0 < len → 0 < last
some_last last len parts some = omega (arith, parts, some)

short_last : (last len : ℕ) → last + (len - 1) ≡ len → 0 < len → last ≤ ROOM
short_last last len parts some = omega (arith, parts, some)

pub returns-in_err-owe-clause-stop : goal.returns-in_err-owe-clause-stop
returns-in_err-owe-clause-stop g c =
    let same : c.owe.result ≡ c.from_residual.result = search rules in
    rw (sym same) (IfErr-weaker c.owe.result _ _ (λ f stop.
    in_first c.split_at.result.0.now c.split_at.result.1.now c.args.frame.now f _ _ _ _ _ _ _ c.split_at.ensures.by_index.0 stop) c.owe.ensures.stop)

pub returns-clause-recorded : goal.returns-clause-recorded
returns-clause-recorded g c =
    let frame = c.args.frame.now in
    let last = c.split_at.result.1.now in
    let some : 0 < length frame = search rules in
    ok_both c.owe-2.result (λ carried owing.
    last_recorded c.split_at.result.0.now last frame _ _ _ _ _ _ c.split_at.ensures.by_index.0 c.in_ok-owe.ensures.carried carried
    (owing (some_last (length last) (length frame) c.split_at.ensures.back_len some) (short_last (length last) (length frame) c.split_at.ensures.back_len some)))
    c.owe-2.ensures.carried c.owe-2.ensures.owing

pub returns-clause-stop : goal.returns-clause-stop
returns-clause-stop g c =
    IfErr-weaker c.owe-2.result _ _ (λ f stop.
    in_second c.split_at.result.0.now c.split_at.result.1.now c.args.frame.now f _ _ _ _ _ _ _ _ _ _ _ c.split_at.ensures.by_index.0 c.in_ok-owe.ensures.carried
    (counts_later _ _ _ c.owe.ensures.cause) (counts_later _ _ _ c.owe.ensures.refusal) stop) c.owe-2.ensures.stop
