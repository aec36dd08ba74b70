-- The numbers of reasons, and the reasons of silent elements.
use Rattle.std.proofs.Common.{◌≡◌, ℕ, Bool, true, false, List, [], ◌∷◌, Option, Some, None, refl}
use Rattle.std.specs.Prelude.{cond, filter, nat_le, if◌then◌else◌}
use Rattle.std.specs.List.{AllByRecursion, find}
use Rattle.air_source.specs.declared.events.Side.{Side}
use Rattle.air_source.specs.declared.events.Side.TheVariants.{Du, Ru}
use Rattle.window_config.specs.declared.verdicts.Class.{Class}
use Rattle.window_config.specs.declared.verdicts.Class.TheVariants.{Early, Late, OnTime}
use Rattle.fh_base.specs.Lists.{or_else}
use Rattle.unit_model.specs.declared.verdicts.CommandVerdict.{CommandVerdict}
use Rattle.unit_model.specs.declared.verdicts.CommandVerdict.TheVariants as verdict
use Rattle.drawn_laws.specs.Drawable.{IsDrawnReason, IsShort, is_silent_word}
use Rattle.explain_model.specs.Reasons.{word_of}
use Rattle.explain_model.specs.declared.reasons.Reason.{Reason}
use Rattle.explain_model.specs.Keys.{beginning_key, header_key, repeated_key, same_symbol}
use Rattle.explain_model.specs.declared.data.DataRecord.{DataRecord}
use Rattle.explain_model.specs.declared.headers.BeginningRecord.{BeginningRecord}
use Rattle.explain_model.specs.declared.headers.HeaderRecord.{HeaderRecord}
use Rattle.explain_model.specs.declared.headers.HeaderWhy.{HeaderWhy}
use Rattle.explain_model.specs.declared.headers.HeaderWhy.TheVariants as header
use Rattle.explain_model.specs.declared.headers.RepeatedRecord.{RepeatedRecord}
use Rattle.explain_model.specs.declared.keys.SymbolKey.{SymbolKey}
use Rattle.explain_model.specs.declared.sections.CommandRecord.{CommandRecord}
use Rattle.explain_model.specs.Commanded.{Elements, accepted_command, command_reason, command_reason_by, command_reason_of, is_accepted_for, is_refused_for, nearer, nearest}
use Rattle.explain_model.specs.SilentReasons.{Kept, asked_of, came_reason, giver_of, gives_prb, header_by, header_of, header_reason, last_of, misses_prb, missing_reason, nothing_reason, or_reason, other_of, other_reason, repeated_of, repeated_reason, unfinished_of, unfinished_reason, untimely_by, untimely_of, untimely_reason, uplink_elements}
use Rattle.drawn_laws.proofs.Lists.{all_kept}
use Rattle.drawn_laws.proofs.Records.{AreShort, IsShortBegun, IsShortCommand, IsShortData, IsShortHeader, IsShortRepeated}

-- it holds of what is there
abbrev pub OfSome : {A : Type 0} → (A → Type 0) → Option A → Type 0
OfSome P None = Unit {0}
OfSome P (Some x) = P x

module _ {A : Type 0} (P : A → Type 0) where
  found_by : (b : Bool) (x : A) (o : Option A) → P x → OfSome P o → OfSome P (cond b (Some x) o)
  found_by true x o h k = h
  found_by false x o h k = k

  found_of : (p : A → Bool) (xs : List A) → AllByRecursion P xs → OfSome P (find p xs)
  found_of p [] h = tt
  found_of p (x ∷ xs) h = found_by (p x) x (find p xs) h.0 (found_of p xs h.1)

  nearer_by : (b : Bool) (x y : A) → P x → P y → OfSome P (if b then Some x else Some y)
  nearer_by true x y h k = h
  nearer_by false x y h k = k

  nearer_of : (distance : A → ℕ) (x : A) (o : Option A) → P x → OfSome P o → OfSome P (nearer distance x o)
  nearer_of distance x None h k = h
  nearer_of distance x (Some y) h k = nearer_by (nat_le (distance x) (distance y)) x y h k

  nearest_of : (distance : A → ℕ) (xs : List A) → AllByRecursion P xs → OfSome P (nearest distance xs)
  unfolding nearest
  nearest_of distance [] h = tt
  nearest_of distance (x ∷ xs) h = nearer_of distance x (nearest distance xs) h.0 (nearest_of distance xs h.1)

  either_of : (o p : Option A) → OfSome P o → OfSome P p → OfSome P (or_else o p)
  either_of None p h k = k
  either_of (Some x) p h k = h

  last_holds : (xs : List A) → AllByRecursion P xs → OfSome P (last_of xs)
  unfolding last_of
  last_holds [] h = tt
  last_holds (x ∷ xs) h = either_of (last_of xs) (Some x) (last_holds xs h.1) h.0

-- ---- commands

-- a reason that a silent element may have
pub record IsSilentReason (r : Reason) : Type 0 where
  pub drawn : IsDrawnReason r
  pub silent : is_silent_word (word_of r) ≡ true

by_verdict : (v : CommandVerdict) (by from : ℕ) → IsShort by → IsShort from → IsSilentReason (command_reason_by v by from)
by_verdict verdict.Mismatch by from h k = record { drawn = k; silent = refl }
by_verdict verdict.Late by from h k = record { drawn = (h, k); silent = refl }
by_verdict verdict.Early by from h k = record { drawn = (h, k); silent = refl }
by_verdict verdict.Range by from h k = record { drawn = k; silent = refl }
by_verdict verdict.Repeat by from h k = record { drawn = k; silent = refl }
by_verdict verdict.Overlap by from h k = record { drawn = k; silent = refl }
by_verdict verdict.Full by from h k = record { drawn = k; silent = refl }
by_verdict verdict.Accepted by from h k = record { drawn = tt; silent = refl }

by_record : (o : Option CommandRecord) → OfSome IsShortCommand o → IsSilentReason (command_reason_of o)
by_record None h = record { drawn = tt; silent = refl }
by_record (Some r) h = by_verdict r.verdict r.distance r.number h.distance h.number

pub command_drawn : (rs : List CommandRecord) (x : Elements) → AllByRecursion IsShortCommand rs → IsSilentReason (command_reason rs x)
unfolding command_reason
command_drawn rs x h =
    by_record (nearest (λ r. r.distance) (filter (is_refused_for x) rs)) (nearest_of IsShortCommand (λ r. r.distance) (filter (is_refused_for x) rs) (all_kept IsShortCommand (is_refused_for x) rs h))

-- ---- data

other_drawn : (o : Option DataRecord) → OfSome IsShortData o → OfSome IsDrawnReason (other_of o)
other_drawn None h = tt
other_drawn (Some r) h = (h.section, h.number)

by_class : (k : Class) (by from : ℕ) → IsShort by → IsShort from → OfSome IsDrawnReason (untimely_by k by from)
by_class OnTime by from h k = tt
by_class Late by from h k = (h, k)
by_class Early by from h k = (h, k)

untimely_drawn : (o : Option DataRecord) → OfSome IsShortData o → OfSome IsDrawnReason (untimely_of o)
untimely_drawn None h = tt
untimely_drawn (Some r) h = by_class r.class r.distance r.number h.distance h.number

by_why : (w : HeaderWhy) (from : ℕ) → IsShort from → IsDrawnReason (header_by w from)
by_why header.Refused from h = h
by_why header.WrongWay from h = h

header_drawn : (o : Option HeaderRecord) → OfSome IsShortHeader o → OfSome IsDrawnReason (header_of o)
header_drawn None h = tt
header_drawn (Some r) h = by_why r.why r.number h

repeated_drawn : (o : Option RepeatedRecord) → OfSome IsShortRepeated o → OfSome IsDrawnReason (repeated_of o)
repeated_drawn None h = tt
repeated_drawn (Some r) h = (h.seq, h.number)

unfinished_drawn : (o : Option BeginningRecord) → OfSome IsShortBegun o → OfSome IsDrawnReason (unfinished_of o)
unfinished_drawn None h = tt
unfinished_drawn (Some r) h = (h.seq, h.pieces, h.number)

asked_drawn : (o : Option CommandRecord) → OfSome IsShortCommand o → OfSome IsDrawnReason (asked_of o)
asked_drawn None h = tt
asked_drawn (Some r) h = h.number

or_drawn : (o : Option Reason) (r : Reason) → OfSome IsDrawnReason o → IsDrawnReason r → IsDrawnReason (or_reason o r)
or_drawn None r h k = k
or_drawn (Some x) r h k = h

-- ---- a missing cell

module _ (all : Kept) (short : AreShort all) (k : SymbolKey) (prb : ℕ) where
  other_is : OfSome IsDrawnReason (other_reason all.given k prb)
  unfolding other_reason giver_of
  other_is = other_drawn (find (gives_prb k prb) all.given) (found_of IsShortData (gives_prb k prb) all.given short.given)

  untimely_is : OfSome IsDrawnReason (untimely_reason all.given k prb)
  unfolding untimely_reason
  untimely_is =
      untimely_drawn (nearest (λ r. r.distance) (filter (misses_prb k prb) all.given))
      (nearest_of IsShortData (λ r. r.distance) (filter (misses_prb k prb) all.given) (all_kept IsShortData (misses_prb k prb) all.given short.given))

  header_is : OfSome IsDrawnReason (header_reason all.headers k)
  unfolding header_reason
  header_is = header_drawn (find (λ r. same_symbol (header_key r) k) all.headers) (found_of IsShortHeader (λ r. same_symbol (header_key r) k) all.headers short.headers)

  repeated_is : OfSome IsDrawnReason (repeated_reason all.repeated k)
  unfolding repeated_reason
  repeated_is = repeated_drawn (find (λ r. same_symbol (repeated_key r) k) all.repeated) (found_of IsShortRepeated (λ r. same_symbol (repeated_key r) k) all.repeated short.repeated)

  unfinished_is : OfSome IsDrawnReason (unfinished_reason all.begun k)
  unfolding unfinished_reason
  unfinished_is =
      unfinished_drawn (last_of (filter (λ r. same_symbol (beginning_key r) k) all.begun))
      (last_holds IsShortBegun (filter (λ r. same_symbol (beginning_key r) k) all.begun) (all_kept IsShortBegun (λ r. same_symbol (beginning_key r) k) all.begun short.begun))

  came_is : OfSome IsDrawnReason (came_reason all k prb)
  unfolding came_reason
  came_is =
      either_of IsDrawnReason (other_reason all.given k prb) _ other_is
      (either_of IsDrawnReason (untimely_reason all.given k prb) _ untimely_is
      (either_of IsDrawnReason (header_reason all.headers k) _ header_is
      (either_of IsDrawnReason (repeated_reason all.repeated k) (unfinished_reason all.begun k) repeated_is unfinished_is)))

  asked_is : OfSome IsDrawnReason (asked_of (accepted_command all.commanded (uplink_elements k prb)))
  unfolding accepted_command
  asked_is =
      asked_drawn (find (is_accepted_for (uplink_elements k prb)) all.commanded) (found_of IsShortCommand (is_accepted_for (uplink_elements k prb)) all.commanded short.commanded)

  nothing_is : (side : Side) → IsDrawnReason (nothing_reason all side k prb)
  nothing_is Ru = tt
  nothing_is Du =
      or_drawn (asked_of (accepted_command all.commanded (uplink_elements k prb))) (command_reason all.commanded (uplink_elements k prb)) asked_is
      (command_drawn all.commanded (uplink_elements k prb) short.commanded).drawn

  pub missing_drawn : IsDrawnReason (missing_reason all k prb)
  unfolding missing_reason
  missing_drawn = or_drawn (came_reason all k prb) (nothing_reason all k.side k prb) came_is (nothing_is k.side)
