-- How the messages of each endpoint are numbered.
use Rattle.std.proofs.Common.{◌≡◌, ℕ, zero, suc, ◌+◌, ◌%◌, ◌<◌, ◌==◌, ◌&&◌, min, Bool, true, false, if◌then◌else◌, List, [], ◌∷◌, length, refl, sym, ap, ap₂, ◌∙◌, arith, inl, inr, Some, slice_index_or, slice_set, drop, take, ◌++◌}
use Rattle.std.proofs.lemmas.Bool.{and_parts, cases_Bool, cases_eq, eq-eqb, eqb-true, ne_eqb}
use Rattle.std.proofs.lemmas.List.{get_or-set_other, get_or-set_same, length-append, length-drop, length-take}
use Rattle.window_config.specs.declared.config.Config.{Config}
use Rattle.unit_model.specs.declared.jobs.UplinkJob.{UplinkJob}
use Rattle.plan_model.specs.Packs.{Message}
use Rattle.plan_model.specs.Departures.{departures_of}
use Rattle.plan_model.specs.declared.streams.Stream.TheVariants.{UpData}
use Rattle.fh_base.specs.declared.values.Slot.{Slot}
use Rattle.unit_model.specs.Claims.{same_slot}
use Rattle.uplink_model.specs.Messages.{frame_count, uplink_frames_before, number_behind, same_job_symbol}
use Rattle.uplink_path.specs.Sending.{wait_behind, wait_in}
use Rattle.unit_model.proofs.ClaimLemmas.{same_slot_is as slots_equal}

abbrev pub zeros : ℕ → List ℕ
zeros zero = []
zeros (suc n) = 0 ∷ zeros n

pub zero_at : (n ep : ℕ) → slice_index_or (zeros n) ep 0 ≡ 0
zero_at zero ep = refl
zero_at (suc n) zero = refl
zero_at (suc n) (suc ep) = zero_at n ep

pub none_numbered : (ep : ℕ) → slice_index_or (zeros 16) ep 0 ≡ number_behind ep [] % 256
none_numbered ep = zero_at 16 ep

pub none_waits : (c : Config) (j : UplinkJob) → 0 ≡ wait_behind c (uplink_frames_before c j [])
unfolding uplink_frames_before
none_waits c j = omega arith

-- ---- after one more message

number_next : (x n : ℕ) → x ≡ n % 256 → (x + 1) % 256 ≡ (1 + n) % 256
number_next x n is = omega (arith, is)

count_other : (n : ℕ) (t : Bool) → t ≡ false → n % 256 ≡ ((if t then 1 else 0) + n) % 256
count_other n t is = rw is (omega arith)

count_same : (n : ℕ) (t : Bool) → t ≡ true → (1 + n) % 256 ≡ ((if t then 1 else 0) + n) % 256
count_same n t is = rw is refl

pub numbers_next : (numbers : List ℕ) (m : Message UplinkJob) (ms : List (Message UplinkJob)) (at next : ℕ) → at ≡ m.first.ep → length numbers ≡ 16
    → ((ep : ℕ) → ep < 16 → slice_index_or numbers ep 0 ≡ number_behind ep ms % 256) → at < 16 → next ≡ (slice_index_or numbers at 0 + 1) % 256
    → (ep : ℕ) → ep < 16 → slice_index_or (slice_set numbers at next) ep 0 ≡ number_behind ep (m ∷ ms) % 256
numbers_next numbers m ms at next at_is size is within next_is ep below = elim (cases_eq at ep) [
  | inl same ↦
      ap (λ (k : ℕ). slice_index_or (slice_set numbers at next) k 0) (sym same)
      ∙ get_or-set_same numbers at next 0 (omega (arith, size, within))
      ∙ next_is ∙ number_next (slice_index_or numbers at 0) (number_behind at ms) (is at within)
      ∙ ap (λ (k : ℕ). (1 + number_behind k ms) % 256) same
      ∙ count_same (number_behind ep ms) (m.first.ep == ep) (eq-eqb m.first.ep ep (sym at_is ∙ same))
  | inr other ↦
      get_or-set_other numbers at ep next 0 (λ same. other (sym same))
      ∙ is ep below
      ∙ count_other (number_behind ep ms) (m.first.ep == ep) (ne_eqb m.first.ep ep (λ e. other (at_is ∙ e)))
]

alike : (a b : UplinkJob) → same_job_symbol a b ≡ true → (k : UplinkJob) → same_job_symbol k b ≡ same_job_symbol k a
alike a b is k =
    let (ep, rest) = and_parts (a.ep == b.ep) (same_slot a.slot b.slot && (a.symbol == b.symbol)) is in
    let (slot, symbol) = and_parts (same_slot a.slot b.slot) (a.symbol == b.symbol) rest in
    ap (λ (x : ℕ). (k.ep == x) && (same_slot k.slot b.slot && (k.symbol == b.symbol))) (sym (eqb-true a.ep b.ep ep))
    ∙ ap (λ (x : Slot). (k.ep == a.ep) && (same_slot k.slot x && (k.symbol == b.symbol))) (sym (slots_equal a.slot b.slot slot))
    ∙ ap (λ (x : ℕ). (k.ep == a.ep) && (same_slot k.slot a.slot && (k.symbol == x))) (sym (eqb-true a.symbol b.symbol symbol))

-- the frames before two jobs of one symbol are as many
same_before : (c : Config) (a b : UplinkJob) (ms : List (Message UplinkJob)) → same_job_symbol a b ≡ true → uplink_frames_before c b ms ≡ uplink_frames_before c a ms
unfolding uplink_frames_before
same_before c a b [] is = refl
same_before c a b (m ∷ ms) is =
    ap₂ (λ (t : Bool) (n : ℕ). if t then frame_count c m + n else 0) (alike a b is m.first) (same_before c a b ms is)

more_before : (c : Config) (m : Message UplinkJob) (j : UplinkJob) (ms : List (Message UplinkJob)) → same_job_symbol m.first j ≡ true
    → uplink_frames_before c j (m ∷ ms) ≡ uplink_frames_before c m.first ms + frame_count c m
unfolding uplink_frames_before
more_before c m j ms same =
    ap (λ (t : Bool). if t then frame_count c m + uplink_frames_before c j ms else 0) same
    ∙ ap (λ (n : ℕ). frame_count c m + n) (same_before c m.first j ms same) ∙ omega arith

fresh_before : (c : Config) (m : Message UplinkJob) (j : UplinkJob) (ms : List (Message UplinkJob)) → same_job_symbol m.first j ≡ false → uplink_frames_before c j (m ∷ ms) ≡ 0
unfolding uplink_frames_before
fresh_before c m j ms other = ap (λ (t : Bool). if t then frame_count c m + uplink_frames_before c j ms else 0) other

zero_waits : (c : Config) → 0 ≡ wait_behind c 0
zero_waits c = omega arith

pub waits_next : (c : Config) (m : Message UplinkJob) (ms : List (Message UplinkJob)) (first : UplinkJob) (wait : ℕ) → first ≡ m.first
    → wait ≡ wait_behind c (uplink_frames_before c m.first ms + frame_count c m)
    → (j : UplinkJob) → wait_in (Some (record { ep = first.ep; slot = first.slot; symbol = first.symbol; wait = wait })) j ≡ wait_behind c (uplink_frames_before c j (m ∷ ms))
waits_next c m ms first wait first_is is j =
    ap (λ (f : UplinkJob). if same_job_symbol f j then wait else 0) first_is
    ∙ elim (cases_Bool (same_job_symbol m.first j)) [
      | inl same ↦ ap (λ (t : Bool). if t then wait else 0) same ∙ is ∙ ap (wait_behind c) (sym (more_before c m j ms same))
      | inr other ↦ ap (λ (t : Bool). if t then wait else 0) other ∙ zero_waits c ∙ ap (wait_behind c) (sym (fresh_before c m j ms other))
    ]

pub capped_wait : (c : Config) (i w : ℕ) → w ≡ wait_behind c i → min w (departures_of c UpData).spread ≡ wait_behind c i
capped_wait c i w is = omega (arith, is)

-- the room for a frame stays as long as it was
pub room_stays : (len room : ℕ) (items now : List ℕ) → length items ≡ room → len ≡ room → length now ≡ room
    → length (take len (now ++ drop (length now) items)) ≡ room
room_stays len room items now was is same =
    let both = length-append now (drop (length now) items) in
    let rest = length-drop (length now) items in
    length-take len (now ++ drop (length now) items) ∙ omega (arith, both, rest, was, is, same)
