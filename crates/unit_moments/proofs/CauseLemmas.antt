-- Causes of answers that are passed on.
use Rattle.std.proofs.Common.{◌≡◌, ℕ, Result, Ok, Err, subst}
use Rattle.std.specs.Result.{IsErrAnd}
use Rattle.air_source.specs.Causes.{HasAirCause}
use Rattle.air_source.specs.declared.airs.AirFault.{AirFault}
use Rattle.air_source.specs.declared.airs.AirFault.TheVariants.{Failed, NoMemory}
use Rattle.air_source.proofs.Causes.{air_cause_since}

-- an answer of a call before which the count did not change
pub cause_passed : {T : Type 0} (before middle now : ℕ) (one two : Result T AirFault) → one ≡ two → middle ≡ before → HasAirCause middle now one → HasAirCause before now two
cause_passed before middle now one two same still cause = subst (λ (r : Result _ AirFault). HasAirCause before now r) same (air_cause_since before middle now one still cause)

-- an answer that is handed on with another value
pub fault_handed_on : {T : Type 0} (one two : AirFault) (result : Result T AirFault) → IsErrAnd result (λ e. e ≡ one) → result ≡ Err two → one ≡ two
fault_handed_on one two (Ok value) is failed = absurd is
fault_handed_on one two (Err f) is failed = cc

pub cause_handed_on : {T : Type 0} (before now : ℕ) (one : AirFault) (result : Result T AirFault) → IsErrAnd result (λ e. e ≡ one)
    → (let given : Result (Unit {0}) AirFault = Err one in HasAirCause before now given) → HasAirCause before now result
cause_handed_on before now one (Ok value) is cause = absurd is
cause_handed_on before now Failed (Err Failed) is cause = cause
cause_handed_on before now Failed (Err NoMemory) is cause = absurd (cc is)
cause_handed_on before now NoMemory (Err Failed) is cause = absurd (cc is)
cause_handed_on before now NoMemory (Err NoMemory) is cause = cause

-- memory was wanted where the count did not change
pub cause_wanted : {T : Type 0} (before now : ℕ) (result : Result T AirFault) → IsErrAnd result (λ e. e ≡ NoMemory) → now ≡ before → HasAirCause before now result
cause_wanted before now (Ok value) wants still = still
cause_wanted before now (Err NoMemory) wants still = still
cause_wanted before now (Err Failed) wants still = absurd (cc wants)
