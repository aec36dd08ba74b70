-- An endpoint's messages are the packs of its own jobs.
use Rattle.std.proofs.Common.{◌≡◌, ℕ, ℤ, ◌+◌, ◌≤◌, ◌≤ℤ◌, ◌<ℤ◌, ◌⊎◌, inl, inr, Bool, true, false, ◌&&◌, ◌==◌, nat_le, nat_lt, if◌then◌else◌, List, [], ◌∷◌, length, refl, ap, ap₂, sym, ◌∙◌, arith, true≢false}
use Rattle.std.specs.Prelude.{filter}
use Rattle.std.proofs.lemmas.Bool.{and_parts, cases_Bool, eq-eqb, eqb-true}
use Rattle.std.proofs.lemmas.Int.{by_lt_z, ints}
use Rattle.fh_base.specs.Air.{air_of}
use Rattle.fh_base.specs.declared.values.Slot.{Slot}
use Rattle.window_config.specs.declared.config.Config.{Config}
use Rattle.window_config.specs.declared.endpoints.EndpointConfig.{EndpointConfig}
use Rattle.unit_model.specs.Claims.{same_slot}
use Rattle.unit_model.specs.declared.jobs.UplinkJob.{UplinkJob}
use Rattle.unit_laws.proofs.FarLemmas.{endpoints_equal}
use Rattle.plan_model.specs.Packs.{Message, PartFields, alone, packs, packs_behind, parts_of, same_symbol, size_of, takes, with_part}
use Rattle.uplink_model.specs.Messages.{job_fields, messages_behind, uplink_messages_of, takes_job}
use Rattle.uplink_laws.proofs.StreamJobs.{IsTimed, MayPrecede}
use Rattle.unit_model.proofs.ClaimLemmas.{same_slot_is as slots_equal}
use Rattle.unit_model.specs.Terms.{MESSAGE_BYTES}
use Rattle.fh_base.specs.Members.{IsIn}
use Rattle.fh_base.proofs.MemberLemmas.{of_filter, InOrder}

-- ---- two jobs of an endpoint that start apart are of two symbols

pub symbols_differ : (es : List EndpointConfig) (x y : UplinkJob) → IsTimed es x → IsTimed es y → x.ep ≡ y.ep → x.s.0 <ℤ y.s.0 → same_symbol (job_fields es) x y ≡ false
symbols_differ es x y p q ep apart = elim (cases_Bool (same_symbol (job_fields es) x y)) [
  | inr is_not ↦ is_not
  | inl is ↦
      let w = and_parts (same_slot x.slot y.slot) (x.symbol == y.symbol) is in
      let slot : x.slot ≡ y.slot = slots_equal x.slot y.slot w.0 in
      let symbol : x.symbol ≡ y.symbol = eqb-true x.symbol y.symbol w.1 in
      let endpoint : p.endpoint ≡ q.endpoint = endpoints_equal es x.ep y.ep p.endpoint q.endpoint p.at q.at ep in
      let start : x.s.0 ≡ y.s.0 =
      p.starts
      ∙ ap (λ (e : EndpointConfig). air_of e.numerology x.slot x.symbol) endpoint
      ∙ ap₂ (λ (s : Slot) (k : ℕ). air_of q.endpoint.numerology s k) slot symbol
      ∙ sym q.starts in
      absurd (never x.s.0 y.s.0 start apart)
]
  where
    never : (a b : ℤ) → a ≡ b → a <ℤ b → ⊥
    never a b e h = omega (arith, ints, e, h)

-- between two of one endpoint that have one of another between them, time passes
pub passes : (x j y : UplinkJob) → MayPrecede x j → MayPrecede j y → x.ep ≡ y.ep → (j.ep ≡ x.ep → ⊥) → x.s.0 <ℤ y.s.0
passes x j y a b ep other = elim (order x.s.0 y.s.0) [
  | inl lt ↦ lt
  | inr ge ↦
      let first : x.s.0 ≡ j.s.0 = same x.s.0 j.s.0 y.s.0 a.start b.start ge in
      let second : j.s.0 ≡ y.s.0 = last x.s.0 j.s.0 y.s.0 a.start b.start ge in
      let low : x.ep ≤ j.ep = a.ep first in
      let high : j.ep ≤ y.ep = b.ep second in
      absurd (other (omega (arith, low, high, ep)))
]
  where
    order : (a b : ℤ) → (a <ℤ b) ⊎ (b ≤ℤ a)
    order a b = by_lt_z a b (λ lt. inl lt) (λ ge. inr ge)

    same : (a b c : ℤ) → a ≤ℤ b → b ≤ℤ c → c ≤ℤ a → a ≡ b
    same a b c p q r = omega (arith, ints, p, q, r)

    last : (a b c : ℤ) → a ≤ℤ b → b ≤ℤ c → c ≤ℤ a → b ≡ c
    last a b c p q r = omega (arith, ints, p, q, r)

-- ---- messages

module _ (c : Config) (ep : ℕ) where
  abbrev f : PartFields UplinkJob
  f = job_fields c.endpoints

  abbrev own : UplinkJob → Bool
  own j = j.ep == ep

  abbrev is_own : Message UplinkJob → Bool
  is_own m = m.first.ep == ep

  -- a message that takes none of these
  cut : (m : Message UplinkJob) (js : List UplinkJob) → ((j : UplinkJob) → IsIn j js → same_symbol f m.first j ≡ false) → packs_behind f c.pack m js ≡ m ∷ packs f c.pack js
  unfolding packs_behind
  cut m [] h = refl
  cut m (j ∷ js) h =
      ap (λ (b : Bool). if b && ((m.first.filter == j.filter) && (nat_lt (length (parts_of m)) c.pack && nat_le (size_of f m + f.size j) MESSAGE_BYTES))
      then packs_behind f c.pack (with_part m j) js else m ∷ packs_behind f c.pack (alone j) js) (h j (inl refl))

  -- what is found of an endpoint after a message, where that is its own and where it is not
  abbrev Finds : Bool → Message UplinkJob → List UplinkJob → Type 0
  Finds true m js = filter is_own (messages_behind c m js) ≡ packs_behind f c.pack m (filter own js)
  Finds false m js = filter is_own (messages_behind c m js) ≡ packs f c.pack (filter own js)

  takes_own : (m : Message UplinkJob) (j : UplinkJob) → (m.first.ep == ep) ≡ true → (j.ep == ep) ≡ true → takes_job c m j ≡ takes f c.pack m j
  takes_own m j p q =
      ap (λ (b : Bool). b && takes f c.pack m j) (eq-eqb m.first.ep j.ep (eqb-true m.first.ep ep p ∙ sym (eqb-true j.ep ep q)))

  takes_none : (m : Message UplinkJob) (j : UplinkJob) (b : Bool) → (m.first.ep == ep) ≡ b → (j.ep == ep) ≡ (if b then false else true) → takes_job c m j ≡ false
  takes_none m j b p q = elim (cases_Bool (m.first.ep == j.ep)) [
    | inr is_not ↦ ap (λ (t : Bool). t && takes f c.pack m j) is_not
    | inl is ↦ absurd (go b (sym p ∙ ap (λ (k : ℕ). k == ep) (eqb-true m.first.ep j.ep is) ∙ q))
  ]
    where
      go : (b : Bool) → b ≡ (if b then false else true) → ⊥
      go true h = true≢false h
      go false h = true≢false (sym h)

  finds : (m : Message UplinkJob) (js : List UplinkJob) (b : Bool) → (m.first.ep == ep) ≡ b
      → IsTimed c.endpoints m.first → ((j : UplinkJob) → IsIn j js → IsTimed c.endpoints j) → ((j : UplinkJob) → IsIn j js → MayPrecede m.first j) → InOrder MayPrecede js
      → Finds b m js
  unfolding messages_behind packs_behind
  finds m [] true e first timed before order = rw e refl
  finds m [] false e first timed before order = rw e refl
  finds m (j ∷ js) true e first timed before order =
      go (j.ep == ep) refl
      (finds (with_part m j) js true e first (λ k i. timed k (inr i)) (λ k i. before k (inr i)) order.1)
      (λ b k. finds (alone j) js b k (timed j (inl refl)) (λ x i. timed x (inr i)) order.0 order.1)
    where
      apart : (j.ep == ep) ≡ false → (x : UplinkJob) → IsIn x (filter own js) → same_symbol f m.first x ≡ false
      apart k x i =
          let w = of_filter own x js i in
          let same : m.first.ep ≡ x.ep = eqb-true m.first.ep ep e ∙ sym (eqb-true x.ep ep w.1) in
          symbols_differ c.endpoints m.first x first (timed x (inr w.0)) same
          (passes m.first j x (before j (inl refl)) (order.0 x w.0) same (λ s. true≢false (sym (eq-eqb j.ep ep (s ∙ eqb-true m.first.ep ep e)) ∙ k)))

      kept : (rest : List (Message UplinkJob)) → filter is_own (m ∷ rest) ≡ m ∷ filter is_own rest
      kept rest = rw e refl

      taken : (t : Bool) → Finds true (with_part m j) js → Finds true (alone j) js
          → filter is_own (let ms : List (Message UplinkJob) = if t then messages_behind c (with_part m j) js else m ∷ messages_behind c (alone j) js in ms)
          ≡ (let ms : List (Message UplinkJob) = if t then packs_behind f c.pack (with_part m j) (filter own js) else m ∷ packs_behind f c.pack (alone j) (filter own js) in ms)
      taken true joined next = joined
      taken false joined next = kept (messages_behind c (alone j) js) ∙ ap (λ (ms : List (Message UplinkJob)). m ∷ ms) next

      go : (b : Bool) → (j.ep == ep) ≡ b → Finds true (with_part m j) js → ((b : Bool) → (j.ep == ep) ≡ b → Finds b (alone j) js)
          → filter is_own (messages_behind c m (j ∷ js)) ≡ packs_behind f c.pack m (let xs : List UplinkJob = if b then j ∷ filter own js else filter own js in xs)
      go true k joined next =
          ap (λ (t : Bool). filter is_own (let ms : List (Message UplinkJob) = if t then messages_behind c (with_part m j) js else m ∷ messages_behind c (alone j) js in ms)) (takes_own m j e k)
          ∙ taken (takes f c.pack m j) joined (next true k)
      go false k joined next =
          ap (λ (t : Bool). filter is_own (let ms : List (Message UplinkJob) = if t then messages_behind c (with_part m j) js else m ∷ messages_behind c (alone j) js in ms)) (takes_none m j true e k)
          ∙ kept (messages_behind c (alone j) js)
          ∙ ap (λ (ms : List (Message UplinkJob)). m ∷ ms) (next false k)
          ∙ sym (cut m (filter own js) (apart k))
  finds m (j ∷ js) false e first timed before order =
      go (j.ep == ep) refl
      (finds (with_part m j) js false e first (λ k i. timed k (inr i)) (λ k i. before k (inr i)) order.1)
      (λ b k. finds (alone j) js b k (timed j (inl refl)) (λ x i. timed x (inr i)) order.0 order.1)
    where
      dropped : (rest : List (Message UplinkJob)) → filter is_own (m ∷ rest) ≡ filter is_own rest
      dropped rest = rw e refl

      taken : (t : Bool) → Finds false (with_part m j) js → Finds false (alone j) js
          → filter is_own (let ms : List (Message UplinkJob) = if t then messages_behind c (with_part m j) js else m ∷ messages_behind c (alone j) js in ms) ≡ packs f c.pack (filter own js)
      taken true joined next = joined
      taken false joined next = dropped (messages_behind c (alone j) js) ∙ next

      go : (b : Bool) → (j.ep == ep) ≡ b → Finds false (with_part m j) js → ((b : Bool) → (j.ep == ep) ≡ b → Finds b (alone j) js)
          → filter is_own (messages_behind c m (j ∷ js)) ≡ packs f c.pack (let xs : List UplinkJob = if b then j ∷ filter own js else filter own js in xs)
      go true k joined next =
          ap (λ (t : Bool). filter is_own (let ms : List (Message UplinkJob) = if t then messages_behind c (with_part m j) js else m ∷ messages_behind c (alone j) js in ms)) (takes_none m j false e k)
          ∙ dropped (messages_behind c (alone j) js) ∙ next true k
      go false k joined next = taken (takes_job c m j) joined (next false k)

  pub messages_found : (js : List UplinkJob) → ((j : UplinkJob) → IsIn j js → IsTimed c.endpoints j) → InOrder MayPrecede js
      → filter is_own (uplink_messages_of c js) ≡ packs f c.pack (filter own js)
  messages_found [] timed order = refl
  messages_found (j ∷ js) timed order = go (j.ep == ep) (finds (alone j) js (j.ep == ep) refl (timed j (inl refl)) (λ x i. timed x (inr i)) order.0 order.1)
    where
      go : (b : Bool) → Finds b (alone j) js
          → filter is_own (messages_behind c (alone j) js) ≡ packs f c.pack (let xs : List UplinkJob = if b then j ∷ filter own js else filter own js in xs)
      go true h = h
      go false h = h

-- ---- the first jobs of messages

-- one message may be before another where their first jobs may
abbrev pub MayLead : Message UplinkJob → Message UplinkJob → Type 0
MayLead m n = MayPrecede m.first n.first

module _ (c : Config) where
  first_from : (m : Message UplinkJob) (js : List UplinkJob) (n : Message UplinkJob) → IsIn n (messages_behind c m js) → (n.first ≡ m.first) ⊎ IsIn n.first js
  unfolding messages_behind
  first_from m [] n i = elim i [ inl e ↦ inl (ap (λ (x : Message UplinkJob). x.first) e) | inr t ↦ absurd t ]
  first_from m (j ∷ js) n i = go (takes_job c m j) i (first_from (with_part m j) js n) (first_from (alone j) js n)
    where
      go : (b : Bool) → IsIn n (let ms : List (Message UplinkJob) = if b then messages_behind c (with_part m j) js else m ∷ messages_behind c (alone j) js in ms)
          → (IsIn n (messages_behind c (with_part m j) js) → (n.first ≡ m.first) ⊎ IsIn n.first js) → (IsIn n (messages_behind c (alone j) js) → (n.first ≡ j) ⊎ IsIn n.first js)
          → (n.first ≡ m.first) ⊎ IsIn n.first (j ∷ js)
      go true k joined next = elim (joined k) [ inl e ↦ inl e | inr t ↦ inr (inr t) ]
      go false k joined next = elim k [
        | inl e ↦ inl (ap (λ (x : Message UplinkJob). x.first) e)
        | inr t ↦ elim (next t) [ inl e ↦ inr (inl e) | inr u ↦ inr (inr u) ]
      ]

  pub message_first : (js : List UplinkJob) (n : Message UplinkJob) → IsIn n (uplink_messages_of c js) → IsIn n.first js
  message_first [] n i = absurd i
  message_first (j ∷ js) n i = elim (first_from (alone j) js n i) [ inl e ↦ inl e | inr t ↦ inr t ]

  behind_order : (m : Message UplinkJob) (js : List UplinkJob) → ((j : UplinkJob) → IsIn j js → MayPrecede m.first j) → InOrder MayPrecede js → InOrder MayLead (messages_behind c m js)
  unfolding messages_behind
  behind_order m [] before order = (λ y i. absurd i, tt)
  behind_order m (j ∷ js) before order =
      go (takes_job c m j) (behind_order (with_part m j) js (λ k i. before k (inr i)) order.1) (behind_order (alone j) js order.0 order.1)
    where
      go : (b : Bool) → InOrder MayLead (messages_behind c (with_part m j) js) → InOrder MayLead (messages_behind c (alone j) js)
          → InOrder MayLead (let ms : List (Message UplinkJob) = if b then messages_behind c (with_part m j) js else m ∷ messages_behind c (alone j) js in ms)
      go true joined next = joined
      go false joined next = (
        λ n i. elim (first_from (alone j) js n i) [ inl e ↦ before n.first (inl e) | inr t ↦ before n.first (inr t) ],
        next,
      )

  pub messages_order : (js : List UplinkJob) → InOrder MayPrecede js → InOrder MayLead (uplink_messages_of c js)
  messages_order [] order = tt
  messages_order (j ∷ js) order = behind_order (alone j) js order.0 order.1
