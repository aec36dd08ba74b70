-- What the writer of a text answers where a replay stopped.
use Rattle.std.proofs.Common.{◌≡◌, ℕ, List, ◌⊎◌, refl, sym, subst, Result, Ok, Err, IfErr, true≢false}
use Rattle.std.specs.Prelude.{IsOk, MatchResult}
use Rattle.std.specs.Result.{IsErrAnd, OnOk, is_ok}
use Rattle.air_source.specs.Causes.{HasAirCause}
use Rattle.air_source.specs.Stops.{GrewSome, StopsIn}
use Rattle.air_source.specs.declared.airs.AirFault.{AirFault}
use Rattle.air_source.specs.declared.airs.AirFault.TheVariants as air
use Rattle.air_source.specs.declared.events.Event.{Event}
use Rattle.air_source.proofs.Causes.{air_cause_since}
use Rattle.fronthaul_replay.specs.Cut.{CutBy}
use Rattle.fronthaul_replay.specs.Faults.{replay_fault, text_fault}
use Rattle.fronthaul_replay.specs.Replay.{HasReplayCause, HasWriteCause}
use Rattle.fronthaul_replay.specs.declared.replays.ReplayFault.{ReplayFault}
use Rattle.fronthaul_replay.specs.declared.replays.ReplayFault.TheVariants as replay
use Rattle.fronthaul_replay.specs.declared.report.TextFault.{TextFault}
use Rattle.fronthaul_replay.specs.declared.report.TextFault.TheVariants as text

-- how far the air heard the events
pub cut_from : {A T : Type 0} (grew : A → List Event → A → Type 0) (stopped : AirFault → A → Event → A → Type 0) (events : List Event) (old new : A) (f : ReplayFault) (r : Result T TextFault)
    → IsErrAnd r (λ e. e ≡ text_fault f)
    → (f ≡ replay.AirFailed → StopsIn grew (stopped air.Failed) events old new)
    → (f ≡ replay.NoMemory → GrewSome grew events old new ⊎ StopsIn grew (stopped air.NoMemory) events old new)
    → IfErr r (λ t. CutBy t grew stopped events old new)
cut_from grew stopped events old new f (Ok x) passed stops halts = tt
cut_from grew stopped events old new replay.AirFailed (Err e) passed stops halts = subst (λ t. CutBy t grew stopped events old new) (sym passed) (stops refl)
cut_from grew stopped events old new replay.NoMemory (Err e) passed stops halts = subst (λ t. CutBy t grew stopped events old new) (sym passed) (halts refl)

-- ---- causes

-- of the air's answer, under the replay's name of the fault
pub replay_cause : {T U : Type 0} (before now : ℕ) (one : Result T AirFault) (two : Result U ReplayFault) → MatchResult one (λ _. IsOk two) (λ f. IsErrAnd two (λ e. e ≡ replay_fault f))
    → HasAirCause before now one → HasReplayCause before now two
replay_cause before now (Ok x) (Ok y) passed cause = cause
replay_cause before now (Ok x) (Err e) passed cause = absurd (true≢false (sym passed))
replay_cause before now (Err f) (Ok y) passed cause = absurd passed
replay_cause before now (Err air.Failed) (Err replay.AirFailed) passed cause = cause
replay_cause before now (Err air.Failed) (Err replay.NoMemory) passed cause = absurd (cc passed)
replay_cause before now (Err air.NoMemory) (Err replay.AirFailed) passed cause = absurd (cc passed)
replay_cause before now (Err air.NoMemory) (Err replay.NoMemory) passed cause = cause

-- the air stopped so, where the replay did under its name of the fault
pub air_stopped : {T U : Type 0} (fault : AirFault) (one : Result T AirFault) (two : Result U ReplayFault) → MatchResult one (λ _. IsOk two) (λ f. IsErrAnd two (λ e. e ≡ replay_fault f))
    → two ≡ Err (replay_fault fault) → one ≡ Err fault
air_stopped fault (Ok x) (Ok y) passed stopped = absurd (cc stopped)
air_stopped fault (Ok x) (Err e) passed stopped = absurd (true≢false (sym passed))
air_stopped fault (Err f) (Ok y) passed stopped = absurd passed
air_stopped air.Failed (Err air.Failed) (Err e) passed stopped = refl
air_stopped air.NoMemory (Err air.NoMemory) (Err e) passed stopped = refl
air_stopped air.Failed (Err air.NoMemory) (Err replay.AirFailed) passed stopped = absurd (cc passed)
air_stopped air.Failed (Err air.NoMemory) (Err replay.NoMemory) passed stopped = absurd (cc stopped)
air_stopped air.NoMemory (Err air.Failed) (Err replay.AirFailed) passed stopped = absurd (cc stopped)
air_stopped air.NoMemory (Err air.Failed) (Err replay.NoMemory) passed stopped = absurd (cc passed)

-- what holds where it reaches its end holds where its answer is passed on
pub ok_passed : {T U D E : Type 0} (one : Result T D) (two : Result U E) (P : Type 0) → is_ok two ≡ is_ok one → OnOk one P → OnOk two P
ok_passed one (Err e) P same holds = tt
ok_passed (Err d) (Ok y) P same holds = absurd (true≢false same)
ok_passed (Ok x) (Ok y) P same holds = holds

-- of want of memory, where the count did not change
pub replay_wanted : {T : Type 0} (before now : ℕ) (r : Result T ReplayFault) → IsErrAnd r (λ e. e ≡ replay.NoMemory) → now ≡ before → HasReplayCause before now r
replay_wanted before now (Ok x) wants still = still
replay_wanted before now (Err replay.AirFailed) wants still = absurd (cc wants)
replay_wanted before now (Err replay.NoMemory) wants still = still

pub write_wanted : {T : Type 0} (before now : ℕ) (r : Result T TextFault) → IsErrAnd r (λ e. e ≡ text.NoMemory) → now ≡ before → HasWriteCause before now r
write_wanted before now (Ok x) wants still = still
write_wanted before now (Err text.WriteFault) wants still = absurd (cc wants)
write_wanted before now (Err text.NoMemory) wants still = still

-- of the replay's fault, under the name of the text's writer
pub write_cause : {U : Type 0} (before now : ℕ) (f : ReplayFault) (r : Result U TextFault) → IsErrAnd r (λ e. e ≡ text_fault f)
    → (let one : Result (Unit {0}) ReplayFault = Err f in HasReplayCause before now one) → HasWriteCause before now r
write_cause before now f (Ok x) passed cause = absurd passed
write_cause before now replay.AirFailed (Err text.WriteFault) passed cause = cause
write_cause before now replay.AirFailed (Err text.NoMemory) passed cause = absurd (cc passed)
write_cause before now replay.NoMemory (Err text.WriteFault) passed cause = absurd (cc passed)
write_cause before now replay.NoMemory (Err text.NoMemory) passed cause = cause

-- of the air's last answer, where the count did not change before it
pub last_cause : {T U : Type 0} (before middle now : ℕ) (one : Result T AirFault) (two : Result U TextFault)
    → MatchResult one (λ _. IsOk two) (λ f. IsErrAnd two (λ e. e ≡ text_fault (replay_fault f)))
    → middle ≡ before → HasAirCause middle now one → HasWriteCause before now two
last_cause before middle now one two passed still cause = last_passed before now one two passed (air_cause_since before middle now one still cause)
  where
    last_passed : {T U : Type 0} (before now : ℕ) (one : Result T AirFault) (two : Result U TextFault)
        → MatchResult one (λ _. IsOk two) (λ f. IsErrAnd two (λ e. e ≡ text_fault (replay_fault f))) → HasAirCause before now one → HasWriteCause before now two
    last_passed before now (Ok x) (Ok y) passed cause = cause
    last_passed before now (Ok x) (Err e) passed cause = absurd (true≢false (sym passed))
    last_passed before now (Err f) (Ok y) passed cause = absurd passed
    last_passed before now (Err air.Failed) (Err text.WriteFault) passed cause = cause
    last_passed before now (Err air.Failed) (Err text.NoMemory) passed cause = absurd (cc passed)
    last_passed before now (Err air.NoMemory) (Err text.WriteFault) passed cause = absurd (cc passed)
    last_passed before now (Err air.NoMemory) (Err text.NoMemory) passed cause = cause

-- of an answer that is passed on
pub same_cause : {T : Type 0} (before now : ℕ) (one two : Result T TextFault) → one ≡ two → HasWriteCause before now one → HasWriteCause before now two
same_cause before now one two same cause = subst (λ (r : Result _ TextFault). HasWriteCause before now r) same cause
