-- An endpoint's messages have the numbers, and the frames before them, that they have among its own.
use Rattle.std.proofs.Common.{◌≡◌, ℕ, ◌+◌, inl, inr, Bool, true, false, ◌&&◌, ◌==◌, if◌then◌else◌, List, [], ◌∷◌, length, refl, ap, ap₂, sym, ◌∙◌, subst, arith, true≢false}
use Rattle.std.specs.Prelude.{filter}
use Rattle.std.proofs.lemmas.Bool.{eq-eqb, eqb-true}
use Rattle.std.specs.Cmp.{both_ways}
use Rattle.fh_base.specs.declared.values.Slot.{Slot}
use Rattle.window_config.specs.declared.config.Config.{Config}
use Rattle.unit_model.specs.Claims.{same_slot}
use Rattle.unit_model.specs.declared.jobs.UplinkJob.{UplinkJob}
use Rattle.plan_model.specs.Packs.{Message, Numbered, PartFields, numbered_behind as packs_numbered, frames_before as packs_before, same_symbol as same_part}
use Rattle.plan_model.proofs.SlotLemmas.{eqb_swap}
use Rattle.uplink_model.specs.Messages.{frame_count, uplink_frames_before, job_fields, number_behind, same_job_symbol}
use Rattle.uplink_laws.specs.Streams.{is_message_of, jobs_numbered_behind}
use Rattle.uplink_laws.proofs.StreamJobs.{IsTimed, MayPrecede}
use Rattle.uplink_laws.proofs.StreamMessages.{MayLead, passes, symbols_differ}
use Rattle.unit_model.proofs.ClaimLemmas.{same_slot_is as slots_equal, slot_self as slot_own}
use Rattle.fh_base.specs.Members.{IsIn}
use Rattle.fh_base.proofs.MemberLemmas.{of_filter, InOrder}

slot_swap : (a b : Slot) → same_slot a b ≡ same_slot b a
slot_swap a b =
    both_ways _ _
    (λ h. subst (λ (x : Slot). same_slot x a ≡ true) (slots_equal a b h) (slot_own a))
    (λ h. subst (λ (x : Slot). same_slot x b ≡ true) (slots_equal b a h) (slot_own b))

module _ (c : Config) (ep : ℕ) where
  abbrev f : PartFields UplinkJob
  f = job_fields c.endpoints

  abbrev is_own : Message UplinkJob → Bool
  is_own m = m.first.ep == ep

  -- of one endpoint, they are of one symbol by either word
  same_own : (m n : Message UplinkJob) → (m.first.ep == ep) ≡ true → (n.first.ep == ep) ≡ true → same_job_symbol n.first m.first ≡ same_part f m.first n.first
  same_own m n p q =
      ap (λ (b : Bool). b && (same_slot n.first.slot m.first.slot && (n.first.symbol == m.first.symbol)))
      (eq-eqb n.first.ep m.first.ep (eqb-true n.first.ep ep q ∙ sym (eqb-true m.first.ep ep p)))
      ∙ ap₂ ◌&&◌ (slot_swap n.first.slot m.first.slot) (eqb_swap n.first.symbol m.first.symbol)

  same_other : (m n : Message UplinkJob) → (m.first.ep == ep) ≡ true → (n.first.ep == ep) ≡ false → same_job_symbol n.first m.first ≡ false
  same_other m n p q = go (n.first.ep == m.first.ep) refl
    where
      go : (b : Bool) → (n.first.ep == m.first.ep) ≡ b → (b && (same_slot n.first.slot m.first.slot && (n.first.symbol == m.first.symbol))) ≡ false
      go false e = refl
      go true e = absurd (true≢false (sym (eq-eqb n.first.ep ep (eqb-true n.first.ep m.first.ep e ∙ eqb-true m.first.ep ep p)) ∙ q))

  number_is : (earlier : List (Message UplinkJob)) → number_behind ep earlier ≡ length (filter is_own earlier)
  number_is [] = refl
  number_is (m ∷ earlier) = go (m.first.ep == ep) (number_is earlier)
    where
      go : (b : Bool) → number_behind ep earlier ≡ length (filter is_own earlier)
          → (let n : ℕ = if b then 1 else 0 in n) + number_behind ep earlier ≡ length (let ms : List (Message UplinkJob) = if b then m ∷ filter is_own earlier else filter is_own earlier in ms)
      go true r = omega (arith, r)
      go false r = omega (arith, r)

  -- those before it, the newest first
  pub record AreBefore (m : Message UplinkJob) (earlier : List (Message UplinkJob)) : Type 0 where
    pub timed : (n : Message UplinkJob) → IsIn n earlier → IsTimed c.endpoints n.first
    pub before : (n : Message UplinkJob) → IsIn n earlier → MayPrecede n.first m.first
    pub order : InOrder (λ (x y : Message UplinkJob). MayPrecede y.first x.first) earlier

  no_frames : (m : Message UplinkJob) (ns : List (Message UplinkJob)) → ((n : Message UplinkJob) → IsIn n ns → same_part f m.first n.first ≡ false) → packs_before f (frame_count c) m ns ≡ 0
  unfolding packs_before
  no_frames m [] h = refl
  no_frames m (n ∷ ns) h = ap (λ (b : Bool). let k : ℕ = if b then frame_count c n + packs_before f (frame_count c) m ns else 0 in k) (h n (inl refl))

  frames_are : (m : Message UplinkJob) (earlier : List (Message UplinkJob)) → (m.first.ep == ep) ≡ true → IsTimed c.endpoints m.first → AreBefore m earlier
      → uplink_frames_before c m.first earlier ≡ packs_before f (frame_count c) m (filter is_own earlier)
  unfolding uplink_frames_before packs_before
  frames_are m [] e timed h = refl
  frames_are m (n ∷ earlier) e timed h =
      go (n.first.ep == ep) refl
      (frames_are m earlier e timed (record { timed = λ x i. h.timed x (inr i); before = λ x i. h.before x (inr i); order = h.order.1 }))
    where
      swapped : (x : Message UplinkJob) → same_part f x.first m.first ≡ false → same_part f m.first x.first ≡ false
      swapped x other = ap₂ ◌&&◌ (slot_swap m.first.slot x.first.slot) (eqb_swap m.first.symbol x.first.symbol) ∙ other

      apart : (n.first.ep == ep) ≡ false → (x : Message UplinkJob) → IsIn x (filter is_own earlier) → same_part f m.first x.first ≡ false
      apart q x i =
          let w = of_filter is_own x earlier i in
          let same : x.first.ep ≡ m.first.ep = eqb-true x.first.ep ep w.1 ∙ sym (eqb-true m.first.ep ep e) in
          swapped x
          (symbols_differ c.endpoints x.first m.first (h.timed x (inr w.0)) timed same
          (passes x.first n.first m.first (h.order.0 x w.0) (h.before n (inl refl)) same (λ s.
          true≢false (sym (eq-eqb n.first.ep ep (s ∙ eqb-true x.first.ep ep w.1)) ∙ q))))

      go : (b : Bool) → (n.first.ep == ep) ≡ b → uplink_frames_before c m.first earlier ≡ packs_before f (frame_count c) m (filter is_own earlier)
          → (let k : ℕ = if same_job_symbol n.first m.first then frame_count c n + uplink_frames_before c m.first earlier else 0 in k)
          ≡ packs_before f (frame_count c) m (let ms : List (Message UplinkJob) = if b then n ∷ filter is_own earlier else filter is_own earlier in ms)
      go true q rest =
          ap₂ (λ (b : Bool) (r : ℕ). let k : ℕ = if b then frame_count c n + r else 0 in k) (same_own m n e q) rest
      go false q rest =
          ap (λ (b : Bool). let k : ℕ = if b then frame_count c n + uplink_frames_before c m.first earlier else 0 in k) (same_other m n e q)
          ∙ sym (no_frames m (filter is_own earlier) (apart q))

  -- ---- all of them

  numbered_found : (earlier ms : List (Message UplinkJob)) → ((n : Message UplinkJob) → IsIn n ms → IsTimed c.endpoints n.first)
      → ((n : Message UplinkJob) → IsIn n ms → AreBefore n earlier) → InOrder MayLead ms
      → filter (is_message_of ep) (jobs_numbered_behind c earlier ms) ≡ packs_numbered f (frame_count c) (filter is_own earlier) (filter is_own ms)
  unfolding jobs_numbered_behind packs_numbered
  numbered_found earlier [] timed before order = refl
  numbered_found earlier (m ∷ ms) timed before order = go (m.first.ep == ep) refl (numbered_found (m ∷ earlier) ms (λ n i. timed n (inr i)) later order.1)
    where
      later : (n : Message UplinkJob) → IsIn n ms → AreBefore n (m ∷ earlier)
      later n i =
          let b = before n (inr i) in
          let here = before m (inl refl) in
          record {
            timed = λ x k. elim k [ inl e ↦ subst (λ (y : Message UplinkJob). IsTimed c.endpoints y.first) (sym e) (timed m (inl refl)) | inr t ↦ b.timed x t ];
            before = λ x k. elim k [ inl e ↦ subst (λ (y : Message UplinkJob). MayPrecede y.first n.first) (sym e) (order.0 n i) | inr t ↦ b.before x t ];
            order = (here.before, here.order);
          }

      go : (b : Bool) → (m.first.ep == ep) ≡ b
          → filter (is_message_of ep) (jobs_numbered_behind c (m ∷ earlier) ms)
          ≡ packs_numbered f (frame_count c) (let xs : List (Message UplinkJob) = if b then m ∷ filter is_own earlier else filter is_own earlier in xs) (filter is_own ms)
          → (let ns : List (Numbered UplinkJob) =
          if b then record { message = m; number = number_behind m.first.ep earlier; before = uplink_frames_before c m.first earlier } ∷ filter (is_message_of ep) (jobs_numbered_behind c (m ∷ earlier) ms)
          else filter (is_message_of ep) (jobs_numbered_behind c (m ∷ earlier) ms) in ns)
          ≡ packs_numbered f (frame_count c) (filter is_own earlier) (let xs : List (Message UplinkJob) = if b then m ∷ filter is_own ms else filter is_own ms in xs)
      go false e rest = rest
      go true e rest =
          ap₂ (λ (n : Numbered UplinkJob) (ns : List (Numbered UplinkJob)). n ∷ ns)
          (ap₂ (λ (k b : ℕ). let n : Numbered UplinkJob = record { message = m; number = k; before = b } in n)
          (ap (λ (k : ℕ). number_behind k earlier) (eqb-true m.first.ep ep e) ∙ number_is earlier)
          (frames_are m earlier e (timed m (inl refl)) (before m (inl refl))))
          rest

  none_before : (m : Message UplinkJob) → AreBefore m []
  none_before m = record { timed = λ n i. absurd i; before = λ n i. absurd i; order = tt }

  pub numbered_own : (ms : List (Message UplinkJob)) → ((n : Message UplinkJob) → IsIn n ms → IsTimed c.endpoints n.first) → InOrder MayLead ms
      → filter (is_message_of ep) (jobs_numbered_behind c [] ms) ≡ packs_numbered f (frame_count c) [] (filter is_own ms)
  numbered_own ms timed order = numbered_found [] ms timed (λ n i. none_before n) order
