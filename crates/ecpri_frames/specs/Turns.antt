-- What one byte outside a payload leads to.
use Rattle.std.specs.Prelude.{◌≡◌, ℕ, ◌-◌, ◌≤◌, List, [], ◌∷◌, ◌++◌, Bool, true, false}
use Rattle.ecpri_frames.specs.declared.heads.Head.{Head}
use Rattle.ecpri_frames.specs.declared.phases.Phase.{Phase}
use Rattle.ecpri_frames.specs.declared.phases.Phase.TheVariants.{Body, Over, Faulty}
use Rattle.ecpri_frames.specs.declared.turns.Turn.{Turn}
use Rattle.ecpri_frames.specs.declared.turns.Turn.TheVariants.{On, Told, Bad}
use Rattle.ecpri_frames.specs.Messages.{behind_head, read_from}
use Rattle.ecpri_frames.specs.Phases.{Item, Start, telling, after, behind_payload, resumed}

-- the phases in which the next byte belongs to a header or to padding
abbrev pub is_outside : Phase → Bool
is_outside (Body head left) = false
is_outside Over = false
is_outside (Faulty place) = false
is_outside _ = true

-- the phase after the byte at `place`
abbrev pub turn_phase : Turn → ℕ → Phase
turn_phase (On phase) place = phase
turn_phase (Told phase head) place = phase
turn_phase Bad place = Faulty place

-- what the byte before the place `at` tells
abbrev pub turn_told : Turn → ℕ → List Item
turn_told (On phase) at = []
turn_told (Told phase head) at = Start (at - 4) head ∷ []
turn_told Bad at = []

-- a byte that tells nothing leads to no end, and after a header at least its four bytes are used
abbrev pub StaysOutside : Turn → ℕ → Type 0
StaysOutside (On phase) at = is_outside phase ≡ true
StaysOutside (Told phase head) at = 4 ≤ at
StaysOutside Bad at = Unit {0}

-- From old at the place `at` these bytes tell these items and lead to new, whatever follows.
abbrev pub Leads : Phase → ℕ → List ℕ → List Item → Phase → ℕ → Type 0
Leads old at bytes items new place = (rest : List ℕ) → resumed old at (bytes ++ rest) ≡ after items (resumed new place rest)

-- the phase is after the payload, or after the header, of a message
abbrev pub IsBehindPayload : Head → Phase → Type 0
IsBehindPayload head phase = (at : ℕ) (rest : List ℕ) → behind_payload at head rest ≡ resumed phase at rest

abbrev pub IsBehindHead : Head → Phase → Type 0
IsBehindHead head phase =
    (place at : ℕ) (rest : List ℕ) → telling (behind_head place at head rest (λ n. read_from at n rest)) ≡ after (Start place head ∷ []) (resumed phase at rest)
