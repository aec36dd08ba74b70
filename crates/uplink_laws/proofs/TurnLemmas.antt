-- Messages end in time, and of one symbol no frame overtakes another.
use Rattle.std.proofs.Common.{◌≡◌, ℕ, ℤ, pos, zero, suc, ◌+◌, ◌*◌, ◌<◌, ◌≤◌, ◌+ℤ◌, ◌≤ℤ◌, ◌<ℤ◌, min, inl, inr, Bool, true, false, ◌&&◌, ◌==◌, if◌then◌else◌, List, [], ◌∷◌, ◌++◌, Option, Some, None, refl, ap, ap₂, sym, ◌∙◌, subst, arith, true≢false}
use Rattle.std.specs.Prelude.{All}
use Rattle.std.specs.List.{slice_get}
use Rattle.std.specs.Option.{option_map_or}
use Rattle.std.proofs.Math.Nat.{mul-le-mul}
use Rattle.std.proofs.lemmas.Bool.{and_from, and_parts, cases_Bool, eq-eqb, eqb-true}
use Rattle.std.proofs.lemmas.Int.{ints}
use Rattle.fh_base.specs.Air.{air_of}
use Rattle.fh_base.specs.declared.values.Slot.{Slot}
use Rattle.window_config.specs.Windows.{ticks_of_ns}
use Rattle.window_config.specs.declared.config.Config.{Config}
use Rattle.window_config.specs.declared.endpoints.EndpointConfig.{EndpointConfig}
use Rattle.air_source.specs.declared.links.LinkFrame.{LinkFrame}
use Rattle.unit_model.specs.Claims.{same_slot}
use Rattle.fh_base.specs.Lists.{each, onto}
use Rattle.unit_model.specs.Radiated.{first_clock}
use Rattle.unit_model.specs.Sweeps.{sweep}
use Rattle.unit_model.specs.Uplink.{jobs, symbol_jobs}
use Rattle.unit_model.specs.declared.jobs.UplinkJob.{UplinkJob}
use Rattle.unit_laws.proofs.FarLemmas.{endpoints_equal}
use Rattle.unit_laws.proofs.SentLemmas.{jobs_append}
use Rattle.plan_model.specs.Departures.{departure, departures_of}
use Rattle.plan_model.specs.Packs.{Message, alone, same_symbol as same_part, with_part}
use Rattle.plan_model.specs.declared.departures.Departures.{Departures}
use Rattle.plan_model.specs.declared.streams.Stream.TheVariants.{UpData}
use Rattle.uplink_model.specs.Frames.{Antenna, uplink_frame_of, uplink_frames_from, uplink_message_frames}
use Rattle.uplink_model.specs.Messages.{frame_count, uplink_frames_before, job_fields, messages_behind, uplink_messages_of, number_behind, same_job_symbol, takes_job}
use Rattle.uplink_laws.specs.Runs.{FramesLeaveInTa3, FramesLeaveInTurn, MessagesEndInTime, NoneOvertakes, is_job_in}
use Rattle.uplink_laws.proofs.StreamJobs.{IsSweptJob, IsTimed, job_swept, swept_jobs, symbol_job, timed_job}
use Rattle.uplink_laws.proofs.ListLemmas.{order_all, order_before, order_rest, pairs_of}
use Rattle.uplink_laws.proofs.StreamMessages.{message_first, symbols_differ}
use Rattle.uplink_laws.proofs.RunLemmas.{jobs_stand_together}
use Rattle.unit_model.proofs.ClaimLemmas.{same_slot_is as slots_equal, slot_self as slot_own}
use Rattle.fh_base.specs.Members.{IsIn}
use Rattle.fh_base.proofs.MemberLemmas.{in_either, in_right, all_of, InOrder, order_join}
use Rattle.fh_base.proofs.MadeLists.{in_all, of_each}
use Rattle.fh_base.proofs.EachLemmas.{gap_is}
use Rattle.air_source.specs.Grown.{grown_none}

-- ---- messages that end where the symbol does

module _ (c : Config) where
  -- a job of another symbol
  abbrev AreApart : UplinkJob → UplinkJob → Type 0
  AreApart x y = ((x.ep == y.ep) && same_part (job_fields c.endpoints) x y) ≡ false

  takes_none : (m : Message UplinkJob) (y : UplinkJob) → AreApart m.first y → takes_job c m y ≡ false
  takes_none m y h = go (m.first.ep == y.ep) (same_part (job_fields c.endpoints) m.first y) _ h
    where
      go : (a b rest : Bool) → (a && b) ≡ false → (a && (b && rest)) ≡ false
      go true true rest h = absurd (true≢false h)
      go true false rest h = refl
      go false b rest h = refl

  behind_split : (m : Message UplinkJob) (xs : List UplinkJob) (y : UplinkJob) (ys : List UplinkJob) → AreApart m.first y → ((x : UplinkJob) → IsIn x xs → AreApart x y)
      → messages_behind c m (xs ++ y ∷ ys) ≡ messages_behind c m xs ++ uplink_messages_of c (y ∷ ys)
  unfolding messages_behind
  behind_split m [] y ys h k =
      ap (λ (b : Bool). let ms : List (Message UplinkJob) = if b then messages_behind c (with_part m y) ys else m ∷ messages_behind c (alone y) ys in ms) (takes_none m y h)
  behind_split m (x ∷ xs) y ys h k =
      go (takes_job c m x) (behind_split (with_part m x) xs y ys h (λ z i. k z (inr i))) (behind_split (alone x) xs y ys (k x (inl refl)) (λ z i. k z (inr i)))
    where
      go : (b : Bool) → messages_behind c (with_part m x) (xs ++ y ∷ ys) ≡ messages_behind c (with_part m x) xs ++ uplink_messages_of c (y ∷ ys)
          → messages_behind c (alone x) (xs ++ y ∷ ys) ≡ messages_behind c (alone x) xs ++ uplink_messages_of c (y ∷ ys)
          → (let ms : List (Message UplinkJob) = if b then messages_behind c (with_part m x) (xs ++ y ∷ ys) else m ∷ messages_behind c (alone x) (xs ++ y ∷ ys) in ms)
          ≡ (let ms : List (Message UplinkJob) = if b then messages_behind c (with_part m x) xs else m ∷ messages_behind c (alone x) xs in ms) ++ uplink_messages_of c (y ∷ ys)
      go true joined next = joined
      go false joined next = ap (λ (ms : List (Message UplinkJob)). m ∷ ms) next

  pub messages_split : (xs : List UplinkJob) (y : UplinkJob) (ys : List UplinkJob) → ((x : UplinkJob) → IsIn x xs → AreApart x y)
      → uplink_messages_of c (xs ++ y ∷ ys) ≡ uplink_messages_of c xs ++ uplink_messages_of c (y ∷ ys)
  messages_split [] y ys h = refl
  messages_split (x ∷ xs) y ys h = behind_split (alone x) xs y ys (h x (inl refl)) (λ z i. h z (inr i))

  later_apart : (x y : UplinkJob) → IsTimed c.endpoints x → IsTimed c.endpoints y → x.s.0 <ℤ y.s.0 → AreApart x y
  later_apart x y p q h = elim (cases_Bool (x.ep == y.ep)) [
    | inr other ↦ ap (λ (b : Bool). b && same_part (job_fields c.endpoints) x y) other
    | inl same ↦ ap₂ ◌&&◌ same (symbols_differ c.endpoints x y p q (eqb-true x.ep y.ep same) h)
  ]

pub messages_end_in_time : MessagesEndInTime
messages_end_in_time c accepted to later low high =
    let es = c.endpoints in
    ap (uplink_messages_of c) (jobs_append es accepted to later low high)
    ∙ go (sweep (symbol_jobs accepted) es (to +ℤ pos 1) (later +ℤ pos 1)) (swept_jobs accepted es (to +ℤ pos 1) (later +ℤ pos 1))
  where
    before : (a b to : ℤ) → a <ℤ (to +ℤ pos 1) → (to +ℤ pos 1) ≤ℤ b → a <ℤ b
    before a b to p q = omega (arith, ints, p, q)

    go : (rest : List UplinkJob) → ((j : UplinkJob) → IsIn j rest → IsSweptJob c.endpoints (to +ℤ pos 1) (later +ℤ pos 1) j)
        → uplink_messages_of c (jobs c.endpoints accepted to ++ rest) ≡ uplink_messages_of c (jobs c.endpoints accepted to) ++ uplink_messages_of c rest
    go [] h = ap (uplink_messages_of c) (sym (grown_none (jobs c.endpoints accepted to))) ∙ grown_none (uplink_messages_of c (jobs c.endpoints accepted to))
    go (y ∷ ys) h =
        messages_split c (jobs c.endpoints accepted to) y ys (λ x i.
        (let a = job_swept accepted c.endpoints to x i in
        let b = h y (inl refl) in
        later_apart c x y (timed_job c.endpoints first_clock (to +ℤ pos 1) x a) (timed_job c.endpoints (to +ℤ pos 1) (later +ℤ pos 1) y b) (before x.s.0 y.s.0 to a.high b.low)))

-- ---- when the frames of a message leave

record LeavesAt (c : Config) (earlier : List (Message UplinkJob)) (m : Message UplinkJob) (f : LinkFrame) : Type 0 where
  sub : ℕ
  below : sub < frame_count c m
  at : f.at.0 ≡ departure (departures_of c UpData) m.first.s.0 (uplink_frames_before c m.first earlier + sub)

leaves_at : (c : Config) (antenna : Antenna) (earlier : List (Message UplinkJob)) (m : Message UplinkJob) (f : LinkFrame) → IsIn f (uplink_message_frames c antenna earlier m) → LeavesAt c earlier m f
unfolding uplink_message_frames
leaves_at c antenna earlier m f i = go (slice_get c.endpoints m.first.ep) i
  where
    go : (o : Option EndpointConfig)
        → IsIn f (option_map_or (λ e. uplink_frames_from c antenna e m (number_behind m.first.ep earlier) (uplink_frames_before c m.first earlier) 0 (frame_count c m)) o [])
        → LeavesAt c earlier m f
    go None k = absurd k
    go (Some e) k =
        let w = of_each f 0 (frame_count c m) (λ n. uplink_frame_of c antenna e m (number_behind m.first.ep earlier) (uplink_frames_before c m.first earlier) n ∷ []) k in
        let below = w.2 in
        record {
          sub = w.0;
          below = omega (arith, below);
          at = elim w.3 [ inl e ↦ ap (λ (x : LinkFrame). x.at.0) e | inr t ↦ absurd t ];
        }

wait_rises : (gap spread i j : ℕ) → i ≤ j → min (i * gap) spread ≤ min (j * gap) spread
wait_rises gap spread i j h = go (i * gap) (j * gap) (mul-le-mul h (same gap))
  where
    same : (n : ℕ) → n ≤ n
    same n = omega arith

    go : (a b : ℕ) → a ≤ b → min a spread ≤ min b spread
    go a b h = omega (arith, h)

leaves_later : (d : Departures) (s : ℤ) (i j : ℕ) → i ≤ j → departure d s i ≤ℤ departure d s j
leaves_later d s i j h = go (s +ℤ d.from.0) (min (i * d.gap) d.spread) (min (j * d.gap) d.spread) (wait_rises d.gap d.spread i j h)
  where
    go : (a : ℤ) (m n : ℕ) → m ≤ n → (a +ℤ pos m) ≤ℤ (a +ℤ pos n)
    go a m n h = omega (arith, ints, h)

pub frames_leave_in_ta3 : FramesLeaveInTa3
frames_leave_in_ta3 c antenna earlier m limits =
    let low = ticks_of_ns c.delays.ta3.min in
    let high = ticks_of_ns c.delays.ta3.max in
    all_of (λ (f : LinkFrame). ((m.first.s.0 +ℤ low) ≤ℤ f.at.0) × (f.at.0 ≤ℤ (m.first.s.0 +ℤ high))) (uplink_message_frames c antenna earlier m) (λ f i.
    (let w = leaves_at c antenna earlier m f i in
    let d = departures_of c UpData in
    let wait = (uplink_frames_before c m.first earlier + w.sub) * d.gap in
    let ends = gap_is low high (in_ticks c.delays.ta3.min c.delays.ta3.max limits.ta3.order) in
    (from m.first.s.0 low wait d.spread f.at.0 w.at, to m.first.s.0 low high wait d.spread f.at.0 ends w.at)))
  where
    in_ticks : (a b : ℤ) → a ≤ℤ b → ticks_of_ns a ≤ℤ ticks_of_ns b
    in_ticks a b h = omega (arith, ints, h)

    from : (s low : ℤ) (wait spread : ℕ) (at : ℤ) → at ≡ (s +ℤ low) +ℤ pos (min wait spread) → (s +ℤ low) ≤ℤ at
    from s low wait spread at e = omega (arith, ints, e)

    to : (s low high : ℤ) (wait spread : ℕ) (at : ℤ) → low +ℤ pos spread ≡ high → at ≡ (s +ℤ low) +ℤ pos (min wait spread) → at ≤ℤ (s +ℤ high)
    to s low high wait spread at g e = omega (arith, ints, g, e)

turn_of_each : (make : ℕ → LinkFrame) → ((i j : ℕ) → i ≤ j → (make i).at.0 ≤ℤ (make j).at.0) → (from n : ℕ) → InOrder (λ f g. f.at.0 ≤ℤ g.at.0) (each from n (λ k. make k ∷ []))
unfolding each
turn_of_each make rises from zero = tt
turn_of_each make rises from (suc n) = (
  λ g i. (let w = of_each g (from + 1) n (λ k. make k ∷ []) i in
      let low = w.1 in
      elim w.3 [ inl e ↦ subst (λ (x : LinkFrame). (make from).at.0 ≤ℤ x.at.0) (sym e) (rises from w.0 (omega (arith, low))) | inr t ↦ absurd t ]),
  turn_of_each make rises (from + 1) n,
)

pub frames_leave_in_turn : FramesLeaveInTurn
unfolding uplink_message_frames
frames_leave_in_turn c antenna earlier m = pairs_of (λ (f g : LinkFrame). f.at.0 ≤ℤ g.at.0) (uplink_message_frames c antenna earlier m) (go (slice_get c.endpoints m.first.ep))
  where
    go : (o : Option EndpointConfig)
        → InOrder (λ (f g : LinkFrame). f.at.0 ≤ℤ g.at.0) (option_map_or (λ e. uplink_frames_from c antenna e m (number_behind m.first.ep earlier) (uplink_frames_before c m.first earlier) 0 (frame_count c m)) o [])
    go None = tt
    go (Some e) =
        turn_of_each (uplink_frame_of c antenna e m (number_behind m.first.ep earlier) (uplink_frames_before c m.first earlier)) (λ i j h.
        leaves_later (departures_of c UpData) m.first.s.0 (uplink_frames_before c m.first earlier + i) (uplink_frames_before c m.first earlier + j) (omega (arith, h))) 0 (frame_count c m)

-- ---- none overtakes

-- what does not pass a test is before the first that does
strip : {A : Type 0} (t : A → Bool) (xs ys before : List A) (m : A) (rest : List A) → ((x : A) → IsIn x xs → t x ≡ false) → t m ≡ true → xs ++ ys ≡ before ++ m ∷ rest
    → (b : List A) × (ys ≡ b ++ m ∷ rest)
strip t [] ys before m rest none is e = (before, e)
strip t (x ∷ xs) ys [] m rest none is e = let same : x ≡ m = cc in absurd (true≢false (sym is ∙ ap t (sym same) ∙ none x (inl refl)))
strip t (x ∷ xs) ys (b ∷ before) m rest none is e = let tail : xs ++ ys ≡ before ++ m ∷ rest = cc in strip t xs ys before m rest (λ z i. none z (inr i)) is tail

-- where those that pass are first, all before one that passes do
pass_before : {A : Type 0} (t : A → Bool) (ys zs before between after : List A) (m n : A) → ((x : A) → IsIn x ys → t x ≡ true) → ((x : A) → IsIn x zs → t x ≡ false)
    → ys ++ zs ≡ before ++ (m ∷ (between ++ (n ∷ after))) → t n ≡ true → (x : A) → IsIn x between → t x ≡ true
pass_before {A = A} t ys zs before between after m n all none e is x i =
    let Q : A → A → Type 0 = λ a b. t b ≡ true → t a ≡ true in
    let order : InOrder Q (ys ++ zs) =
    order_join Q ys zs (order_all Q ys (λ a b k l h. all a k)) (order_all Q zs (λ a b k l h. absurd (true≢false (sym h ∙ none b l)))) (λ a b k l h. all a k) in
    order_before Q between after x n (order_rest Q before (m ∷ (between ++ (n ∷ after))) (subst (InOrder Q) e order)).1 i is

module _ (c : Config) where
  -- of a symbol
  abbrev of_symbol : UplinkJob → UplinkJob → Bool
  of_symbol j = is_job_in j.ep j.slot j.symbol

  is_own : (j : UplinkJob) → of_symbol j j ≡ true
  is_own j = and_from _ _ (eq-eqb j.ep j.ep refl) (and_from _ _ (slot_own j.slot) (eq-eqb j.symbol j.symbol refl))

  record SameSymbol (x y : UplinkJob) : Type 0 where
    ep : x.ep ≡ y.ep
    slot : x.slot ≡ y.slot
    symbol : x.symbol ≡ y.symbol

  of_same : (x y : UplinkJob) → same_job_symbol x y ≡ true → SameSymbol x y
  of_same x y h =
      let one = and_parts (x.ep == y.ep) _ h in
      let two = and_parts (same_slot x.slot y.slot) (x.symbol == y.symbol) one.1 in
      record { ep = eqb-true x.ep y.ep one.0; slot = slots_equal x.slot y.slot two.0; symbol = eqb-true x.symbol y.symbol two.1 }

  -- another test of the same: `is_job_in` and `same_job_symbol` are one word but for the order of their arguments
  in_same : (x y : UplinkJob) → of_symbol y x ≡ true → SameSymbol x y
  in_same x y h = of_same x y h

  same_in : (x y : UplinkJob) → SameSymbol x y → of_symbol y x ≡ true
  same_in x y w =
      ap₂ (λ (k : ℕ) (s : Slot). (x.ep == k) && (same_slot x.slot s && (x.symbol == y.symbol))) (sym w.ep) (sym w.slot)
      ∙ ap (λ (k : ℕ). (x.ep == x.ep) && (same_slot x.slot x.slot && (x.symbol == k))) (sym w.symbol) ∙ is_own x

  apart_by : (j x y : UplinkJob) → of_symbol j x ≡ false → of_symbol j y ≡ true → AreApart c x y
  apart_by j x y p q = elim (cases_Bool ((x.ep == y.ep) && same_part (job_fields c.endpoints) x y)) [
    | inr is_not ↦ is_not
    | inl is ↦ (let a = of_same x y is in
        let b = in_same y j q in
        absurd (true≢false (sym (same_in x j (record { ep = a.ep ∙ b.ep; slot = a.slot ∙ b.slot; symbol = a.symbol ∙ b.symbol })) ∙ p)))
  ]

  apart_swap : (j x y : UplinkJob) → of_symbol j x ≡ true → of_symbol j y ≡ false → AreApart c x y
  apart_swap j x y p q = elim (cases_Bool ((x.ep == y.ep) && same_part (job_fields c.endpoints) x y)) [
    | inr is_not ↦ is_not
    | inl is ↦ (let a = of_same x y is in
        let b = in_same x j p in
        absurd (true≢false (sym (same_in y j (record { ep = sym a.ep ∙ b.ep; slot = sym a.slot ∙ b.slot; symbol = sym a.symbol ∙ b.symbol })) ∙ q)))
  ]

  -- the messages of a run of jobs are in one run
  messages_run : (j : UplinkJob) (xs ys zs : List UplinkJob) → ((x : UplinkJob) → IsIn x xs → of_symbol j x ≡ false) → ((x : UplinkJob) → IsIn x ys → of_symbol j x ≡ true)
      → ((x : UplinkJob) → IsIn x zs → of_symbol j x ≡ false) → IsIn j (xs ++ (ys ++ zs)) → uplink_messages_of c (xs ++ (ys ++ zs)) ≡ uplink_messages_of c xs ++ (uplink_messages_of c ys ++ uplink_messages_of c zs)
  messages_run j xs [] zs p q r i = absurd (true≢false (sym (is_own j) ∙ elim (in_either j xs zs i) [ inl l ↦ p j l | inr k ↦ r j k ]))
  messages_run j xs (y ∷ ys) zs p q r i =
      messages_split c xs y (ys ++ zs) (λ x k. apart_by j x y (p x k) (q y (inl refl)))
      ∙ ap (λ (ms : List (Message UplinkJob)). uplink_messages_of c xs ++ ms) (go zs r)
    where
      go : (zs : List UplinkJob) → ((x : UplinkJob) → IsIn x zs → of_symbol j x ≡ false) → uplink_messages_of c ((y ∷ ys) ++ zs) ≡ uplink_messages_of c (y ∷ ys) ++ uplink_messages_of c zs
      go [] h = ap (uplink_messages_of c) (sym (grown_none (y ∷ ys))) ∙ grown_none (uplink_messages_of c (y ∷ ys))
      go (z ∷ zs) h = messages_split c (y ∷ ys) z zs (λ x k. apart_swap j x z (q x k) (h z (inl refl)))

  -- ---- counts

  same_before : (j k : UplinkJob) (earlier : List (Message UplinkJob)) → SameSymbol j k → uplink_frames_before c j earlier ≡ uplink_frames_before c k earlier
  unfolding uplink_frames_before
  same_before j k [] w = refl
  same_before j k (m ∷ earlier) w =
      ap₂ (λ (b : Bool) (n : ℕ). let r : ℕ = if b then frame_count c m + n else 0 in r)
      (ap₂ (λ (p : ℕ) (s : Slot). (m.first.ep == p) && (same_slot m.first.slot s && (m.first.symbol == j.symbol))) w.ep w.slot
      ∙ ap (λ (y : ℕ). (m.first.ep == k.ep) && (same_slot m.first.slot k.slot && (m.first.symbol == y))) w.symbol)
      (same_before j k earlier w)

  one_more : (j : UplinkJob) (m : Message UplinkJob) (earlier : List (Message UplinkJob)) → same_job_symbol m.first j ≡ true
      → uplink_frames_before c j (m ∷ earlier) ≡ frame_count c m + uplink_frames_before c j earlier
  unfolding uplink_frames_before
  one_more j m earlier h = ap (λ (b : Bool). let r : ℕ = if b then frame_count c m + uplink_frames_before c j earlier else 0 in r) h

  no_fewer : (j : UplinkJob) (xs earlier : List (Message UplinkJob)) → ((x : Message UplinkJob) → IsIn x xs → same_job_symbol x.first j ≡ true)
      → uplink_frames_before c j earlier ≤ uplink_frames_before c j (onto earlier xs)
  unfolding onto
  no_fewer j [] earlier h = omega arith
  no_fewer j (x ∷ xs) earlier h =
      let more = one_more j x earlier (h x (inl refl)) in
      let rest = no_fewer j xs (x ∷ earlier) (λ y i. h y (inr i)) in
      omega (arith, more, rest)

pub none_overtakes : NoneOvertakes
none_overtakes c antenna accepted to before between after m n is same =
    let es = c.endpoints in
    let all = uplink_messages_of c (jobs es accepted to) in
    let j = m.first in
    let there : IsIn m all = subst (λ (ms : List (Message UplinkJob)). IsIn m ms) (sym is) (in_right m before (m ∷ (between ++ (n ∷ after))) (inl refl)) in
    let n_there : IsIn n all =
    subst (λ (ms : List (Message UplinkJob)). IsIn n ms) (sym is) (in_right n before (m ∷ (between ++ (n ∷ after))) (inr (in_right n between (n ∷ after) (inl refl)))) in
    let w = job_swept accepted es to j (message_first c (jobs es accepted to) m there) in
    let v = job_swept accepted es to n.first (message_first c (jobs es accepted to) n n_there) in
    let one = of_same c m.first n.first same in
    let start : m.first.s.0 ≡ n.first.s.0 = one_start w v one in
    let run = jobs_stand_together es accepted to j.ep w.endpoint j.slot j.symbol w.at w.slot w.symbol (subst (λ z. first_clock ≤ℤ z) w.starts w.low) (by_end (air_of w.endpoint.numerology j.slot j.symbol) to (subst (λ z. z <ℤ (to +ℤ pos 1)) w.starts w.high)) in
    let ys = symbol_jobs accepted j.ep w.endpoint j.slot j.symbol in
    let pass : (x : UplinkJob) → IsIn x ys → is_job_in j.ep j.slot j.symbol x ≡ true = λ x i. (let u = symbol_job accepted j.ep w.endpoint j.slot j.symbol x i in
    ap (λ (z : UplinkJob). is_job_in j.ep j.slot j.symbol z) u.1 ∙ is_own c j) in
    let none_before = in_all_of run.before run.none_before in
    let none_after = in_all_of run.after run.none_after in
    let inside : IsIn j (run.before ++ (ys ++ run.after)) = subst (λ (js : List UplinkJob). IsIn j js) run.is (message_first c (jobs es accepted to) m there) in
    let parts : uplink_messages_of c run.before ++ (uplink_messages_of c ys ++ uplink_messages_of c run.after) ≡ before ++ (m ∷ (between ++ (n ∷ after))) =
    sym (messages_run c j run.before ys run.after none_before pass none_after inside) ∙ ap (uplink_messages_of c) (sym run.is) ∙ is in
    let test : Message UplinkJob → Bool = λ x. is_job_in j.ep j.slot j.symbol x.first in
    let rest = strip test (uplink_messages_of c run.before) (uplink_messages_of c ys ++ uplink_messages_of c run.after) before m (between ++ (n ∷ after)) (λ x i. none_before x.first (message_first c run.before x i)) (is_own c j) parts in
    let n_in : test n ≡ true = same_in c n.first j (record { ep = sym one.ep; slot = sym one.slot; symbol = sym one.symbol }) in
    let inner : (x : Message UplinkJob) → IsIn x between → test x ≡ true =
    pass_before test (uplink_messages_of c ys) (uplink_messages_of c run.after) rest.0 between after m n (λ x i. pass x.first (message_first c ys x i)) (λ x i. none_after x.first (message_first c run.after x i)) rest.1 n_in in
    let of_n : (x : Message UplinkJob) → IsIn x between → same_job_symbol x.first n.first ≡ true = λ x i. (let u = in_same c x.first j (inner x i) in
    same_in c x.first n.first (record { ep = u.ep ∙ one.ep; slot = u.slot ∙ one.slot; symbol = u.symbol ∙ one.symbol })) in
    let earlier = onto [] before in
    let more = one_more c n.first m earlier same in
    let same_count = same_before c m.first n.first earlier one in
    let fewer = no_fewer c n.first between (m ∷ earlier) of_n in
    all_of (λ (f : LinkFrame). All (λ (g : LinkFrame). f.at.0 ≤ℤ g.at.0) (uplink_message_frames c antenna (onto (m ∷ earlier) between) n)) (uplink_message_frames c antenna earlier m) (λ f i.
    all_of (λ (g : LinkFrame). f.at.0 ≤ℤ g.at.0) (uplink_message_frames c antenna (onto (m ∷ earlier) between) n) (λ g k.
    (let a = leaves_at c antenna earlier m f i in
    let b = leaves_at c antenna (onto (m ∷ earlier) between) n g k in
    let under = a.below in
    let order : uplink_frames_before c m.first earlier + a.sub ≤ uplink_frames_before c n.first (onto (m ∷ earlier) between) + b.sub = omega (arith, under, more, same_count, fewer) in
    subst (λ z. z ≤ℤ g.at.0) (sym a.at) (subst (λ z. departure (departures_of c UpData) m.first.s.0 (uplink_frames_before c m.first earlier + a.sub) ≤ℤ z) (sym (b.at
    ∙ ap (λ (s : ℤ). departure (departures_of c UpData) s (uplink_frames_before c n.first (onto (m ∷ earlier) between) + b.sub)) (sym start)))
    (leaves_later (departures_of c UpData) m.first.s.0 (uplink_frames_before c m.first earlier + a.sub) (uplink_frames_before c n.first (onto (m ∷ earlier) between) + b.sub) order)))))
  where
    by_end : (a b : ℤ) → a <ℤ (b +ℤ pos 1) → a ≤ℤ b
    by_end a b h = omega (arith, ints, h)

    in_all_of : (xs : List UplinkJob) → All (λ x. is_job_in m.first.ep m.first.slot m.first.symbol x ≡ false) xs → (x : UplinkJob) → IsIn x xs → is_job_in m.first.ep m.first.slot m.first.symbol x ≡ false
    in_all_of xs h x i = in_all (λ (y : UplinkJob). is_job_in m.first.ep m.first.slot m.first.symbol y ≡ false) x xs h i

    one_start : IsSweptJob c.endpoints first_clock (to +ℤ pos 1) m.first → IsSweptJob c.endpoints first_clock (to +ℤ pos 1) n.first → SameSymbol c m.first n.first
        → m.first.s.0 ≡ n.first.s.0
    one_start w v one =
        w.starts
        ∙ ap (λ (e : EndpointConfig). air_of e.numerology m.first.slot m.first.symbol) (endpoints_equal c.endpoints m.first.ep n.first.ep w.endpoint v.endpoint w.at v.at one.ep)
        ∙ ap₂ (λ (s : Slot) (y : ℕ). air_of v.endpoint.numerology s y) one.slot one.symbol
        ∙ sym v.starts
