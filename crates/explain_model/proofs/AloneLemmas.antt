-- Records of other symbols never matter.
use Rattle.std.proofs.Common.{◌≡◌, ℕ, Bool, true, false, List, [], ◌∷◌, refl, sym, ap, ap₂, ◌∙◌}
use Rattle.std.specs.Prelude.{filter, if◌then◌else◌, Option, Some}
use Rattle.std.specs.List.{find}
use Rattle.std.proofs.lemmas.Bool.{and_parts}
use Rattle.air_source.specs.declared.events.Side.{Side}
use Rattle.air_source.specs.declared.events.Side.TheVariants.{Ru, Du}
use Rattle.fh_base.specs.Lists.{or_else}
use Rattle.explain_model.specs.declared.reasons.Reason.{Reason}
use Rattle.explain_model.specs.Keys.{beginning_key, command_key, data_key, header_key, repeated_key, same_slot_key, same_symbol}
use Rattle.explain_model.specs.declared.data.DataRecord.{DataRecord}
use Rattle.explain_model.specs.declared.keys.SymbolKey.{SymbolKey}
use Rattle.explain_model.specs.declared.sections.CommandRecord.{CommandRecord}
use Rattle.explain_model.specs.Alone.{OthersNeverMatter}
use Rattle.explain_model.specs.Commanded.{Elements, accepted_command, command_reason, command_reason_of, is_accepted_for, is_named_by, is_refused_for, nearest}
use Rattle.explain_model.specs.SilentReasons.{Kept, asked_of, came_reason, covers_prb, gives_prb, giver_of, header_of, header_reason, last_of, misses_prb, missing_reason, nothing_reason, of_symbol, or_reason, other_of, other_reason, repeated_of, repeated_reason, unfinished_of, unfinished_reason, uplink_elements, untimely_of, untimely_reason}

-- where a test passes only what another test passes, the elements that fail the other make no difference
module _ {A : Type 0} (p q : A → Bool) (implies : (x : A) → p x ≡ true → q x ≡ true) where
  find_step : (x : A) (xs : List A) (b d : Bool) → q x ≡ b → p x ≡ d → find p (filter q xs) ≡ find p xs → find p (filter q (x ∷ xs)) ≡ find p (x ∷ xs)
  find_step x xs true d e f h =
      ap (λ (t : Bool). find p (if t then x ∷ filter q xs else filter q xs)) e
      ∙ ap₂ (λ (t : Bool) (r : Option A). if t then Some x else r) refl h
  find_step x xs false true e f h = absurd (let g = implies x f in cc)
  find_step x xs false false e f h =
      ap (λ (t : Bool). find p (if t then x ∷ filter q xs else filter q xs)) e
      ∙ h
      ∙ sym (ap (λ (t : Bool). if t then Some x else find p xs) f)

  pub find_alone : (xs : List A) → find p (filter q xs) ≡ find p xs
  find_alone [] = refl
  find_alone (x ∷ xs) = find_step x xs (q x) (p x) refl refl (find_alone xs)

  filter_step : (x : A) (xs : List A) (b d : Bool) → q x ≡ b → p x ≡ d → filter p (filter q xs) ≡ filter p xs → filter p (filter q (x ∷ xs)) ≡ filter p (x ∷ xs)
  filter_step x xs true d e f h =
      ap (λ (t : Bool). filter p (if t then x ∷ filter q xs else filter q xs)) e
      ∙ ap₂ (λ (t : Bool) (r : List A). if t then x ∷ r else r) refl h
  filter_step x xs false true e f h = absurd (let g = implies x f in cc)
  filter_step x xs false false e f h =
      ap (λ (t : Bool). filter p (if t then x ∷ filter q xs else filter q xs)) e
      ∙ h
      ∙ sym (ap (λ (t : Bool). if t then x ∷ filter p xs else filter p xs) f)

  pub filter_alone : (xs : List A) → filter p (filter q xs) ≡ filter p xs
  filter_alone [] = refl
  filter_alone (x ∷ xs) = filter_step x xs (q x) (p x) refl refl (filter_alone xs)

-- ---- data

module _ (k : SymbolKey) (prb : ℕ) where
  abbrev own : DataRecord → Bool
  own r = same_symbol (data_key r) k

  covered_own : (r : DataRecord) → covers_prb k prb r ≡ true → own r ≡ true
  unfolding covers_prb
  covered_own r h = (and_parts (own r) _ h).0

  giver_own : (r : DataRecord) → gives_prb k prb r ≡ true → own r ≡ true
  giver_own r h = covered_own r (and_parts (covers_prb k prb r) _ h).0

  misser_own : (r : DataRecord) → misses_prb k prb r ≡ true → own r ≡ true
  misser_own r h = covered_own r (and_parts (covers_prb k prb r) _ h).0

  pub giver_alone : (rs : List DataRecord) → giver_of (filter own rs) k prb ≡ giver_of rs k prb
  unfolding giver_of
  giver_alone rs = find_alone (gives_prb k prb) own giver_own rs

  other_alone : (rs : List DataRecord) → other_reason (filter own rs) k prb ≡ other_reason rs k prb
  unfolding other_reason
  other_alone rs = ap other_of (giver_alone rs)

  untimely_alone : (rs : List DataRecord) → untimely_reason (filter own rs) k prb ≡ untimely_reason rs k prb
  unfolding untimely_reason
  untimely_alone rs = ap (λ (xs : List DataRecord). untimely_of (nearest (λ r. r.distance) xs)) (filter_alone (misses_prb k prb) own misser_own rs)

-- ---- commands

module _ (x : Elements) where
  abbrev of_slot : CommandRecord → Bool
  of_slot r = same_slot_key (command_key r) x.key

  named_own : (r : CommandRecord) → is_named_by x r ≡ true → of_slot r ≡ true
  unfolding is_named_by
  named_own r h = (and_parts (of_slot r) _ h).0

  refused_own : (r : CommandRecord) → is_refused_for x r ≡ true → of_slot r ≡ true
  refused_own r h = named_own r (and_parts (is_named_by x r) _ h).0

  accepted_own : (r : CommandRecord) → is_accepted_for x r ≡ true → of_slot r ≡ true
  accepted_own r h = named_own r (and_parts (is_named_by x r) _ h).0

  pub commands_alone : (rs : List CommandRecord) → command_reason (filter of_slot rs) x ≡ command_reason rs x
  unfolding command_reason
  commands_alone rs = ap (λ (xs : List CommandRecord). command_reason_of (nearest (λ r. r.distance) xs)) (filter_alone (is_refused_for x) of_slot refused_own rs)

  pub accepted_alone : (rs : List CommandRecord) → accepted_command (filter of_slot rs) x ≡ accepted_command rs x
  unfolding accepted_command
  accepted_alone rs = find_alone (is_accepted_for x) of_slot accepted_own rs

-- ---- a cell

module _ (all : Kept) (k : SymbolKey) (prb : ℕ) where
  headers_alone : header_reason (of_symbol k all).headers k ≡ header_reason all.headers k
  unfolding header_reason
  headers_alone = ap header_of (find_alone (λ r. same_symbol (header_key r) k) (λ r. same_symbol (header_key r) k) (λ r h. h) all.headers)

  repeated_alone : repeated_reason (of_symbol k all).repeated k ≡ repeated_reason all.repeated k
  unfolding repeated_reason
  repeated_alone = ap repeated_of (find_alone (λ r. same_symbol (repeated_key r) k) (λ r. same_symbol (repeated_key r) k) (λ r h. h) all.repeated)

  unfinished_alone : unfinished_reason (of_symbol k all).begun k ≡ unfinished_reason all.begun k
  unfolding unfinished_reason
  unfinished_alone = ap (λ xs. unfinished_of (last_of xs)) (filter_alone (λ r. same_symbol (beginning_key r) k) (λ r. same_symbol (beginning_key r) k) (λ r h. h) all.begun)

  came_alone : came_reason (of_symbol k all) k prb ≡ came_reason all k prb
  unfolding came_reason
  came_alone =
      ap₂ or_else (other_alone k prb all.given)
      (ap₂ or_else (untimely_alone k prb all.given)
      (ap₂ or_else headers_alone (ap₂ or_else repeated_alone unfinished_alone)))

  nothing_alone : (side : Side) → nothing_reason (of_symbol k all) side k prb ≡ nothing_reason all side k prb
  nothing_alone Ru = refl
  nothing_alone Du =
      ap₂ (λ (a : Option CommandRecord) (r : Reason). or_reason (asked_of a) r) (accepted_alone (uplink_elements k prb) all.commanded) (commands_alone (uplink_elements k prb) all.commanded)

  pub missing_alone : missing_reason (of_symbol k all) k prb ≡ missing_reason all k prb
  unfolding missing_reason
  missing_alone = ap₂ or_reason came_alone (nothing_alone k.side)

pub others_never_matter : OthersNeverMatter
others_never_matter = record {
  missing = missing_alone;
  commands = λ rs x. commands_alone x rs;
  giver = λ rs k prb. giver_alone k prb rs;
}
