-- Why no command claims an element: by the sections that name it and were not accepted (this project's profile).
use Rattle.std.specs.Prelude.{ℕ, ◌==◌, Bool, true, false, not, ◌&&◌, ◌||◌, nat_le, if◌then◌else◌, List, [], ◌∷◌, filter, Option, Some, None}
use Rattle.std.specs.List.{find}
use Rattle.unit_model.specs.Claims.{in_mask, is_from, same_way}
use Rattle.fh_base.specs.Lists.{some}
use Rattle.unit_model.specs.declared.verdicts.CommandVerdict.{CommandVerdict}
use Rattle.unit_model.specs.declared.verdicts.CommandVerdict.TheVariants as verdict
use Rattle.explain_model.specs.declared.reasons.Reason.{Reason}
use Rattle.explain_model.specs.declared.reasons.Reason.TheVariants as reason
use Rattle.explain_model.specs.declared.keys.SlotKey.{SlotKey}
use Rattle.explain_model.specs.declared.sections.CommandRecord.{CommandRecord}
use Rattle.explain_model.specs.Keys.{command_key, same_slot_key}

-- ---- the nearest of a list: of those with the least distance the first

abbrev pub nearer : {A : Type 0} → (A → ℕ) → A → Option A → Option A
nearer distance x None = Some x
nearer distance x (Some y) = if nat_le (distance x) (distance y) then Some x else Some y

unfoldable pub nearest : {A : Type 0} → (A → ℕ) → List A → Option A
nearest distance [] = None
nearest distance (x ∷ xs) = nearer distance x (nearest distance xs)

-- ---- what a section names

-- elements of one PRB in one symbol of a slot, in a direction
pub record Elements : Type 0 where
  pub key : SlotKey
  pub down : Bool
  pub symbol : ℕ
  pub prb : ℕ
  pub mask : ℕ

-- the masks have an element in common
abbrev pub share : ℕ → ℕ → Bool
share a b = some 0 12 (λ re. in_mask a re && in_mask b re)

-- numPrb 0 is all PRBs, whatever startPrb says
abbrev pub has_prb : CommandRecord → ℕ → Bool
has_prb r prb = (r.num_prb == 0) || is_from r.start_prb r.num_prb prb

-- it names one of them
unfoldable pub is_named_by : Elements → CommandRecord → Bool
is_named_by x r =
    same_slot_key (command_key r) x.key && (same_way r.down x.down
    && (is_from r.symbol r.num_symbol x.symbol && (has_prb r x.prb && share r.mask x.mask)))

abbrev pub is_accepted : CommandVerdict → Bool
is_accepted verdict.Accepted = true
is_accepted _ = false

-- ---- why

abbrev pub command_reason_by : CommandVerdict → ℕ → ℕ → Reason
command_reason_by verdict.Mismatch by from = reason.CommandMismatch from
command_reason_by verdict.Late by from = reason.CommandLate by from
command_reason_by verdict.Early by from = reason.CommandEarly by from
command_reason_by verdict.Range by from = reason.CommandRange from
command_reason_by verdict.Repeat by from = reason.CommandRepeat from
command_reason_by verdict.Overlap by from = reason.CommandOverlap from
command_reason_by verdict.Full by from = reason.CommandFull from
command_reason_by verdict.Accepted by from = reason.NoCommand

abbrev pub command_reason_of : Option CommandRecord → Reason
command_reason_of None = reason.NoCommand
command_reason_of (Some r) = command_reason_by r.verdict r.distance r.number

-- one that names an element and is not accepted
abbrev pub is_refused_for : Elements → CommandRecord → Bool
is_refused_for x r = is_named_by x r && not (is_accepted r.verdict)

-- the nearest of those that name an element and are not accepted
abbrev pub refused_command : List CommandRecord → Elements → Option CommandRecord
refused_command rs x = nearest (λ r. r.distance) (filter (is_refused_for x) rs)

unfoldable pub command_reason : List CommandRecord → Elements → Reason
command_reason rs x = command_reason_of (refused_command rs x)

-- ---- what was asked for

abbrev pub is_accepted_for : Elements → CommandRecord → Bool
is_accepted_for x r = is_named_by x r && is_accepted r.verdict

-- the first that names an element and is accepted
unfoldable pub accepted_command : List CommandRecord → Elements → Option CommandRecord
accepted_command rs x = find (is_accepted_for x) rs
