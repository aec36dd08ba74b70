-- Each frame of the radio unit is a piece of a message that has at most 128 of them.
use Rattle.std.proofs.Common.{◌≡◌, ℕ, ◌+◌, ◌≤◌, inl, inr, Bool, true, false, if◌then◌else◌, List, [], ◌∷◌, ◌++◌, length, map, Option, refl, ap, sym, subst, arith}
use Rattle.std.specs.Prelude.{All, ◌==◌, nat_le, nat_lt, sum}
use Rattle.std.specs.List.{fold}
use Rattle.std.specs.Option.{option_map_or}
use Rattle.std.proofs.lemmas.Bool.{and_parts, leb-true}
use Rattle.std.proofs.lemmas.List.Elements.{All-head, All-tail}
use Rattle.plan_model.specs.Packs.{Message, PartFields, alone, parts_of, same_symbol, size_of, takes, with_part}
use Rattle.plan_model.specs.Streams.{section_size}
use Rattle.unit_model.specs.ProperJobs.{IsProperJob}
use Rattle.unit_model.specs.declared.jobs.UplinkJob.{UplinkJob}
use Rattle.uplink_model.specs.Messages.{job_fields, messages_behind, uplink_messages_of, takes_job}
use Rattle.window_config.specs.Endpoints.{IsEndpoint}
use Rattle.window_config.specs.declared.config.Config.{Config}
use Rattle.window_config.specs.declared.endpoints.EndpointConfig.{EndpointConfig}
use Rattle.plan_model.proofs.SizeLemmas.{alone_few, section_few}
use Rattle.ecpri_fragments.specs.declared.place.TheConstants.{MESSAGE_BYTES}
use Rattle.fh_base.specs.Members.{IsIn}
use Rattle.fh_base.proofs.MadeLists.{at_in, in_all}

-- ---- a section alone

section_short : (es : List EndpointConfig) → All IsEndpoint es → (to : _) (j : UplinkJob) → IsProperJob es to j → size_of (job_fields es) (alone j) ≤ MESSAGE_BYTES
section_short es each to j proper =
    let e = proper.endpoint in
    let is = in_all IsEndpoint e es each (at_in j.ep e es proper.endpoint_is) in
    let size : section_size e j.num_prb ≡ (job_fields es).size j = sym (ap (λ (o : Option EndpointConfig). option_map_or (λ f. section_size f j.num_prb) o 0) proper.endpoint_is) in
    alone_few ((job_fields es).size j) (subst (λ (n : ℕ). n ≤ 13383) size (section_few e j.start_prb j.num_prb is.width is.most proper.prbs))

-- ---- messages

sizes_more : (size : UplinkJob → ℕ) (a : ℕ) (js : List UplinkJob) (j : UplinkJob) → fold ◌+◌ a (map size (js ++ j ∷ [])) ≡ fold ◌+◌ a (map size js) + size j
sizes_more size a [] j = refl
sizes_more size a (i ∷ js) j = sizes_more size (a + size i) js j

size_more : (s t p : ℕ) → s ≡ t + p → (4 + t) + p ≤ MESSAGE_BYTES → 4 + s ≤ MESSAGE_BYTES
size_more s t p e h = omega (arith, e, h)

module _ (c : Config) where
  abbrev f : PartFields UplinkJob
  f = job_fields c.endpoints

  abbrev IsShort : Message UplinkJob → Type 0
  IsShort m = size_of f m ≤ MESSAGE_BYTES

  taken_short : (m : Message UplinkJob) (j : UplinkJob) → takes_job c m j ≡ true → IsShort (with_part m j)
  taken_short m j h =
      let one = and_parts (m.first.ep == j.ep) (takes f c.pack m j) h in
      let two = and_parts (same_symbol f m.first j) _ one.1 in
      let three = and_parts (f.filter m.first == f.filter j) _ two.1 in
      let four = and_parts (nat_lt (length (parts_of m)) c.pack) (nat_le (size_of f m + f.size j) MESSAGE_BYTES) three.1 in
      size_more (sum (map f.size (parts_of (with_part m j)))) (sum (map f.size (parts_of m))) (f.size j) (sizes_more f.size 0 (parts_of m) j)
      (leb-true (size_of f m + f.size j) MESSAGE_BYTES four.1)

  short_behind : (m : Message UplinkJob) (js : List UplinkJob) → All (λ (j : UplinkJob). IsShort (alone j)) js → IsShort m → (x : Message UplinkJob) → IsIn x (messages_behind c m js) → IsShort x
  unfolding messages_behind
  short_behind m [] each short x i = elim i [ inl e ↦ subst IsShort (sym e) short | inr t ↦ absurd t ]
  short_behind m (j ∷ js) each short x i =
      let rest = All-tail (λ (k : UplinkJob). IsShort (alone k)) j js each in
      go (takes_job c m j) refl i (λ is. short_behind (with_part m j) js rest (taken_short m j is) x)
      (short_behind (alone j) js rest (All-head (λ (k : UplinkJob). IsShort (alone k)) j js each) x)
    where
      go : (b : Bool) → takes_job c m j ≡ b → IsIn x (if b then messages_behind c (with_part m j) js else m ∷ messages_behind c (alone j) js)
          → (takes_job c m j ≡ true → IsIn x (messages_behind c (with_part m j) js) → IsShort x) → (IsIn x (messages_behind c (alone j) js) → IsShort x) → IsShort x
      go true is n taken other = taken is n
      go false is n taken other = elim n [ inl e ↦ subst IsShort (sym e) short | inr t ↦ other t ]

  all_short : (js : List UplinkJob) → All (λ (j : UplinkJob). IsShort (alone j)) js → (x : Message UplinkJob) → IsIn x (uplink_messages_of c js) → IsShort x
  all_short [] each x i = absurd i
  all_short (j ∷ js) each x i =
      short_behind (alone j) js (All-tail (λ (k : UplinkJob). IsShort (alone k)) j js each) (All-head (λ (k : UplinkJob). IsShort (alone k)) j js each) x i

  -- of jobs that are proper
  pub messages_short : All IsEndpoint c.endpoints → (to : _) (js : List UplinkJob) → All (IsProperJob c.endpoints to) js → (x : Message UplinkJob) → IsIn x (uplink_messages_of c js)
      → size_of (job_fields c.endpoints) x ≤ MESSAGE_BYTES
  messages_short each to js proper = all_short js (λ k j lt. section_short c.endpoints each to _ (proper k j lt))
