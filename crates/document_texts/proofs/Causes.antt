-- Causes of answers that are passed on.
use Rattle.std.proofs.Common.{◌≡◌, ℕ, Result, Ok, Err, subst, sym, true≢false}
use Rattle.std.specs.Prelude.{IsOk, MatchResult}
use Rattle.std.specs.Result.{IsErrAnd}
use Rattle.air_source.specs.Causes.{HasAirCause}
use Rattle.air_source.specs.declared.airs.AirFault.{AirFault}
use Rattle.air_source.specs.declared.airs.AirFault.TheVariants as air
use Rattle.fh_base.specs.Causes.{Counts, has_failed}
use Rattle.fh_base.specs.declared.fault.SinkFault.{SinkFault}
use Rattle.fh_base.specs.declared.fault.SinkFault.TheVariants as sink
use Rattle.fh_base.proofs.Causes.{counts_since}
use Rattle.fronthaul_replay.specs.Replay.{HasWriteCause}
use Rattle.fronthaul_replay.specs.declared.report.TextFault.{TextFault}
use Rattle.fronthaul_replay.specs.declared.report.TextFault.TheVariants as text
use Rattle.document_texts.specs.Faults.{HasShareCause, has_share_fault, of_air, of_sink, of_text}
use Rattle.document_texts.specs.declared.faults.ShareFault.{ShareFault}
use Rattle.document_texts.specs.declared.faults.ShareFault.TheVariants as share

-- where the count did not change, a cause since then is one since before
pub share_cause_since : {T : Type 0} (before middle now : ℕ) (r : Result T ShareFault) → middle ≡ before → HasShareCause middle now r → HasShareCause before now r
share_cause_since before middle now r still cause = counts_since (has_share_fault r) before middle now still cause

-- of want of memory, where the count did not change
pub share_wanted : {T : Type 0} (before now : ℕ) (r : Result T ShareFault) → IsErrAnd r (λ e. e ≡ share.NoMemory) → now ≡ before → HasShareCause before now r
share_wanted before now (Ok x) wants still = still
share_wanted before now (Err share.WriteFault) wants still = absurd (cc wants)
share_wanted before now (Err share.NoMemory) wants still = still

-- of an air's fault
pub share_of_air : {U : Type 0} (before now : ℕ) (f : AirFault) (r : Result U ShareFault) → IsErrAnd r (λ e. e ≡ of_air f)
    → (let one : Result (Unit {0}) AirFault = Err f in HasAirCause before now one) → HasShareCause before now r
share_of_air before now f (Ok x) passed cause = absurd passed
share_of_air before now air.Failed (Err share.WriteFault) passed cause = cause
share_of_air before now air.Failed (Err share.NoMemory) passed cause = absurd (cc passed)
share_of_air before now air.NoMemory (Err share.WriteFault) passed cause = absurd (cc passed)
share_of_air before now air.NoMemory (Err share.NoMemory) passed cause = cause

-- of a text's writer's fault
pub share_of_text : {U : Type 0} (before now : ℕ) (f : TextFault) (r : Result U ShareFault) → IsErrAnd r (λ e. e ≡ of_text f)
    → (let one : Result (Unit {0}) TextFault = Err f in HasWriteCause before now one) → HasShareCause before now r
share_of_text before now f (Ok x) passed cause = absurd passed
share_of_text before now text.WriteFault (Err share.WriteFault) passed cause = cause
share_of_text before now text.WriteFault (Err share.NoMemory) passed cause = absurd (cc passed)
share_of_text before now text.NoMemory (Err share.WriteFault) passed cause = absurd (cc passed)
share_of_text before now text.NoMemory (Err share.NoMemory) passed cause = cause

-- of an air's answer
pub share_air : {T U : Type 0} (before now : ℕ) (one : Result T AirFault) (two : Result U ShareFault) → MatchResult one (λ _. IsOk two) (λ f. IsErrAnd two (λ e. e ≡ of_air f))
    → HasAirCause before now one → HasShareCause before now two
share_air before now (Ok x) (Ok y) passed cause = cause
share_air before now (Ok x) (Err e) passed cause = absurd (true≢false (sym passed))
share_air before now (Err f) two passed cause = share_of_air before now f two passed cause

-- of a sink's answer
pub share_sink : {T U : Type 0} (before now : ℕ) (one : Result T SinkFault) (two : Result U ShareFault) → MatchResult one (λ _. IsOk two) (λ f. IsErrAnd two (λ e. e ≡ of_sink f))
    → Counts (has_failed one) before now → HasShareCause before now two
share_sink before now (Ok x) (Ok y) passed cause = cause
share_sink before now (Ok x) (Err e) passed cause = absurd (true≢false (sym passed))
share_sink before now (Err f) (Ok y) passed cause = absurd passed
share_sink before now (Err sink.Failed) (Err share.WriteFault) passed cause = cause
share_sink before now (Err sink.Failed) (Err share.NoMemory) passed cause = absurd (cc passed)
share_sink before now (Err sink.NoMemory) (Err share.WriteFault) passed cause = absurd (cc passed)
share_sink before now (Err sink.NoMemory) (Err share.NoMemory) passed cause = cause

-- of an answer that is passed on
pub share_same : {T : Type 0} (before now : ℕ) (one two : Result T ShareFault) → one ≡ two → HasShareCause before now one → HasShareCause before now two
share_same before now one two same cause = subst (λ (r : Result _ ShareFault). HasShareCause before now r) same cause
