-- What a unit counts of delay measurement is what both units' exchanges give, and the messages that are too short.
use Rattle.std.proofs.Common.{◌≡◌, ℕ, zero, suc, ℤ, pos, ◌+◌, ◌+ℤ◌, ltb, Bool, true, false, if◌then◌else◌, List, [], ◌∷◌, ◌++◌, length, refl, sym, ap, ap₂, ◌∙◌, subst, arith, inl, inr}
use Rattle.std.specs.Prelude.{filter, map}
use Rattle.std.specs.List.{flat_map}
use Rattle.std.proofs.lemmas.Bool.{cases_Bool}
use Rattle.air_source.specs.Units.{same_side}
use Rattle.air_source.specs.declared.events.Side.{Side}
use Rattle.air_source.specs.declared.events.Side.TheVariants.{Ru, Du}
use Rattle.delay_laws.proofs.Quiet.{before}
use Rattle.delay_laws.specs.Ticks.{Begin, Hearing, Setting, State, arriving, begin_heard, came_heard, due, exchange_of, hearing, landing, state, told_all, told_one}
use Rattle.delay_measure.specs.After.{Told, begins, comes, exchange_after, id_of}
use Rattle.delay_measure.specs.Payload.{message_of}
use Rattle.delay_measure.specs.declared.message.DelayMessage.{DelayMessage}
use Rattle.fh_document.specs.declared.document.Document.{Document}
use Rattle.document_traffic.specs.Laws.{IsReplayable}
use Rattle.ecpri_frames.specs.Gathering.{whole_messages}
use Rattle.ecpri_frames.specs.Messages.{Message, is_delay}
use Rattle.fault_counters.specs.Counts.{capped, once, times}
use Rattle.fault_counters.specs.declared.kinds.Counter.{Counter}
use Rattle.fault_counters.specs.declared.kinds.Counter.TheVariants.{DelayShort}
use Rattle.replay_laws.proofs.CameLemmas.{next_first, none_first}
use Rattle.replay_laws.specs.Events.{all_counted, is_measured, number_of}
use Rattle.replay_laws.specs.Moments.{all_arrivals, arrivals_in, landing_at}
use Rattle.unit_model.proofs.CountLemmas.{times-append}
use Rattle.fh_base.specs.Lists.{onto}
use Rattle.unit_model.specs.Meetings.{Arrival}
use Rattle.unit_model.specs.Radiated.{first_clock}
use Rattle.unit_model.specs.Times.{tick_count}
use Rattle.document_traffic.proofs.SideLemmas.{all_told, begins_told, cleared, follows_one, frames_told, messages_of, others_pass, either_told}
use Rattle.document_traffic.proofs.TurnLemmas.{after_is, comes_as_told, comes_in, doings_next, doings_zero, heard_next, nothing_heard, own, side_in}
use Rattle.document_traffic.specs.Doings.{Doings, counted_then, forgotten, told_in, with_begins, with_frame, with_frames, with_message, with_messages}
use Rattle.document_traffic.specs.Exchanged.{counted_of, delays_counted, is_short, short_counted, shorts_of}
use Rattle.document_traffic.specs.Measured.{delay_messages, delays_of, exchanges}
use Rattle.document_traffic.specs.Replayed.{doings_in, landings_for, traffic_of}
use Rattle.document_traffic.specs.Sides.{IsSideOf, heard_at}
use Rattle.fh_base.proofs.Orders.{one_moved}

module _ (w : Setting) (k : Counter) where
  -- a unit counted this of what both heard, and of so many messages that are too short
  abbrev Tallies : Side → Hearing → Doings → ℕ → Type 0
  Tallies side h x shorts = times x.counted k ≡ times (counted_of w side h.heard) k + shorts

  -- ---- one thing more is told

  sums : (a b c d e : ℕ) → d ≡ b + c → e ≡ a + b → a + d ≡ e + c
  sums a b c d e h g = omega (arith, h, g)

  counts_more : (its same counted earlier : List Counter) (shorts : ℕ) → its ≡ same → times counted k ≡ times earlier k + shorts → times (its ++ counted) k ≡ times (same ++ earlier) k + shorts
  counts_more its same counted earlier shorts is tally =
      times-append its counted k
      ∙ ap (λ (xs : List Counter). times xs k + times counted k) is
      ∙ sums (times same k) (times earlier k) shorts (times counted k) (times (same ++ earlier) k) tally (times-append same earlier k)

  counted_same : (side : Side) (h : Hearing) (x : Doings) (one : Told) → IsSideOf side h x
      → counted_then (w.comps side) (exchange_after (w.comps side).sending (w.comps side).receiving x.told (id_of one)) one ≡ counted_then (w.comps side) (exchange_of w h.heard side (id_of one)) one
  counted_same side h x one s = ap (λ (told : List Told). counted_then (w.comps side) (exchange_after (w.comps side).sending (w.comps side).receiving told (id_of one)) one) s.told

  one_counted : (side : Side) (h : Hearing) (x : Doings) (one : Told) (shorts : ℕ) → IsSideOf side h x → Tallies side h x shorts
      → Tallies side (told_one w h (heard_at side one)) (told_in (w.comps side) x one) shorts
  one_counted Ru h x one shorts s tally =
      counts_more (counted_then (w.comps Ru) (exchange_after (w.comps Ru).sending (w.comps Ru).receiving x.told (id_of one)) one)
      (counted_then (w.comps Ru) (exchange_of w h.heard Ru (id_of one)) one) x.counted (counted_of w Ru h.heard) shorts (counted_same Ru h x one s) tally
  one_counted Du h x one shorts s tally =
      counts_more (counted_then (w.comps Du) (exchange_after (w.comps Du).sending (w.comps Du).receiving x.told (id_of one)) one)
      (counted_then (w.comps Du) (exchange_of w h.heard Du (id_of one)) one) x.counted (counted_of w Du h.heard) shorts (counted_same Du h x one s) tally

  either_counted : (side to : Side) (h : Hearing) (x : Doings) (one : Told) (shorts : ℕ) → IsSideOf side h x → Tallies side h x shorts
      → Tallies side (told_one w h (heard_at to one)) (if same_side side to then told_in (w.comps side) x one else x) shorts
  either_counted Ru Ru h x one shorts s tally = one_counted Ru h x one shorts s tally
  either_counted Ru Du h x one shorts s tally = tally
  either_counted Du Ru h x one shorts s tally = tally
  either_counted Du Du h x one shorts s tally = one_counted Du h x one shorts s tally

  -- the other unit is told something
  others_counted : (side to : Side) → same_side side to ≡ false → (t : ℤ) (h : Hearing) (x : Doings) (ms : List DelayMessage) (shorts : ℕ) → Tallies side h x shorts
      → Tallies side (told_all w h (map (came_heard to t) ms)) x shorts
  others_counted side to other t h x [] shorts tally = tally
  others_counted side to other t h x (m ∷ ms) shorts tally =
      others_counted side to other t (told_one w h (came_heard to t m)) x ms shorts (go (same_side side to) other)
    where
      go : (b : Bool) → b ≡ false
          → times x.counted k ≡ times ((if b then counted_then (w.comps side) (exchange_of w h.heard side m.id) (comes t m) else []) ++ counted_of w side h.heard) k + shorts
      go true e = absurd cc
      go false e = tally

  begins_counted : (side : Side) (h : Hearing) (x : Doings) (bs : List Begin) (shorts : ℕ) → IsSideOf side h x → Tallies side h x shorts
      → Tallies side (told_all w h (map begin_heard bs)) (with_begins (w.comps side) x (filter (λ b. same_side side b.side) bs)) shorts
  begins_counted side h x [] shorts s tally = tally
  begins_counted side h x (b ∷ bs) shorts s tally =
      let one = begins b.at b.id b.kind in
      let next = told_in (w.comps side) x one in
      let later = told_one w h (begin_heard b) in
      let is = either_told w side b.side h x one s in
      let counts = either_counted side b.side h x one shorts s tally in
      elim (cases_Bool (same_side side b.side)) [
        | inl its ↦ rw its (begins_counted side later next bs shorts (subst (λ (to : Bool). IsSideOf side later (if to then next else x)) its is) (subst (λ (to : Bool). Tallies side later (if to then next else x) shorts) its counts))
        | inr others ↦ rw others (begins_counted side later x bs shorts (subst (λ (to : Bool). IsSideOf side later (if to then next else x)) others is) (subst (λ (to : Bool). Tallies side later (if to then next else x) shorts) others counts))
      ]

  -- ---- a message is received

  -- of a message that is too short its counter counts one
  short_if : Bool → ℕ
  short_if b = if b then once DelayShort k else 0

  one_short : (counted : ℕ) (earlier shorts more : ℕ) → counted ≡ earlier + shorts → counted + more ≡ earlier + (shorts + more)
  one_short counted earlier shorts more h = omega (arith, h)

  none_short : (earlier shorts : ℕ) → earlier + shorts ≡ earlier + (shorts + 0)
  none_short earlier shorts = omega arith

  message_counted : (side : Side) (t : ℤ) (h : Hearing) (x : Doings) (m : Message) (shorts : ℕ) → IsSideOf side h x → Tallies side h x shorts
      → Tallies side (told_all w h (map (came_heard side t) (delays_of m))) (with_message (w.comps side) t x m) (shorts + short_if (is_short m))
  unfolding short_if
  message_counted side t h x m shorts s tally =
      let earlier = times (counted_of w side h.heard) k in
      elim (cases_Bool (is_delay m)) [
        | inl is ↦ elim (cases_Bool (ltb (length m.payload) 20)) [
          | inl short ↦ rw (is, short) (one_short (times x.counted k) earlier shorts (once DelayShort k) tally)
          | inr whole ↦ (let counts = one_counted side h x (comes t (message_of m.payload)) shorts s tally in rw (is, whole) (counts ∙ none_short _ shorts))
        ]
        | inr not_it ↦ rw not_it (tally ∙ none_short earlier shorts)
      ]

  -- ---- messages and frames, one after the other

  shorts_in : List Message → List Counter
  shorts_in ms = map short_counted (filter is_short ms)

  shorts_first : (m : Message) (ms : List Message) → times (shorts_in (m ∷ ms)) k ≡ short_if (is_short m) + times (shorts_in ms) k
  unfolding short_if shorts_in
  shorts_first m ms = go (is_short m)
    where
      go : (b : Bool) → times (map short_counted (if b then m ∷ filter is_short ms else filter is_short ms)) k ≡ (if b then once DelayShort k else 0) + times (map short_counted (filter is_short ms)) k
      go true = omega arith
      go false = omega arith

  parts : (shorts one rest all : ℕ) → all ≡ one + rest → (shorts + one) + rest ≡ shorts + all
  parts shorts one rest all h = omega (arith, h)

  nothing_more : (shorts : ℕ) → shorts ≡ shorts + 0
  nothing_more shorts = omega arith

  messages_counted : (side : Side) (t : ℤ) (h : Hearing) (x : Doings) (ms : List Message) (shorts : ℕ) → IsSideOf side h x → Tallies side h x shorts
      → Tallies side (told_all w h (map (came_heard side t) (flat_map delays_of ms))) (with_messages (w.comps side) t x ms) (shorts + times (shorts_in ms) k)
  unfolding shorts_in
  messages_counted side t h x [] shorts s tally = tally ∙ ap (λ (n : ℕ). times (counted_of w side h.heard) k + n) (nothing_more shorts)
  messages_counted side t h x (m ∷ ms) shorts s tally =
      let next = with_message (w.comps side) t x m in
      let later = told_all w h (map (came_heard side t) (delays_of m)) in
      let one = short_if (is_short m) in
      let all = messages_counted side t later next ms (shorts + one) (follows_one w side t h x m s).0 (message_counted side t h x m shorts s tally) in
      subst (λ (g : Hearing). Tallies side g (with_messages (w.comps side) t next ms) (shorts + times (shorts_in (m ∷ ms)) k)) (sym (all_told w side t h (delays_of m) (flat_map delays_of ms)))
      (all ∙ ap (λ (n : ℕ). times (counted_of w side (told_all w later (map (came_heard side t) (flat_map delays_of ms))).heard) k + n)
      (parts shorts one (times (shorts_in ms) k) (times (shorts_in (m ∷ ms)) k) (shorts_first m ms)))

  -- the messages of these frames that are too short
  abbrev shorts_among : List Arrival → ℕ
  shorts_among arrivals = times (flat_map (λ a. shorts_of a.frame) arrivals) k

  frames_counted : (side : Side) (t : ℤ) (h : Hearing) (x : Doings) (arrivals : List Arrival) (shorts : ℕ) → IsSideOf side h x → Tallies side h x shorts
      → Tallies side (told_all w h (map (came_heard side t) (messages_of arrivals))) (with_frames (w.comps side) t x arrivals) (shorts + shorts_among arrivals)
  unfolding shorts_in
  frames_counted side t h x [] shorts s tally = tally ∙ ap (λ (n : ℕ). times (counted_of w side h.heard) k + n) (nothing_more shorts)
  frames_counted side t h x (a ∷ more) shorts s tally =
      let ms = delay_messages a.frame in
      let next = with_frame (w.comps side) t x a.frame in
      let later = told_all w h (map (came_heard side t) ms) in
      let one = times (shorts_of a.frame) k in
      let its = messages_counted side t h (forgotten x) (whole_messages a.frame) shorts (cleared side h x s) tally in
      let all = frames_counted side t later next more (shorts + one) (frames_told w side h x t a.frame s) its in
      subst (λ (g : Hearing). Tallies side g (with_frames (w.comps side) t next more) (shorts + shorts_among (a ∷ more))) (sym (all_told w side t h ms (messages_of more)))
      (all ∙ ap (λ (n : ℕ). times (counted_of w side (told_all w later (map (came_heard side t) (messages_of more))).heard) k + n)
      (parts shorts one (shorts_among more) (shorts_among (a ∷ more)) (times-append (shorts_of a.frame) (flat_map (λ b. shorts_of b.frame) more) k)))

  -- ---- a tick

  tick_counted : (side : Side) (t : ℤ) (s : State) (x : Doings) (arrivals : List Arrival) (shorts : ℕ) → messages_of arrivals ≡ landing (s.sent side) t ++ w.others side t
      → IsSideOf side (before s) x → Tallies side (before s) x shorts
      → Tallies side (hearing w t s) (with_frames (w.comps side) t (with_begins (w.comps side) x (filter (λ b. same_side side b.side) (due t w.begins))) arrivals) (shorts + shorts_among arrivals)
  unfolding hearing
  tick_counted Ru t s x arrivals shorts come is tally =
      let bs = due t w.begins in
      let begun = told_all w (before s) (map begin_heard bs) in
      let started = with_begins (w.comps Ru) x (filter (λ b. same_side Ru b.side) bs) in
      let ended = with_frames (w.comps Ru) t started arrivals in
      let its = frames_counted Ru t begun started arrivals shorts (begins_told w Ru (before s) x bs is) (begins_counted Ru (before s) x bs shorts is tally) in
      others_counted Ru Du refl t (told_all w begun (arriving w s Ru t)) ended (landing (s.sent Du) t ++ w.others Du t) (shorts + shorts_among arrivals)
      (subst (λ (ms : List DelayMessage). Tallies Ru (told_all w begun (map (came_heard Ru t) ms)) ended (shorts + shorts_among arrivals)) come its)
  tick_counted Du t s x arrivals shorts come is tally =
      let bs = due t w.begins in
      let begun = told_all w (before s) (map begin_heard bs) in
      let started = with_begins (w.comps Du) x (filter (λ b. same_side Du b.side) bs) in
      let ended = with_frames (w.comps Du) t started arrivals in
      let both = told_all w begun (arriving w s Ru t) in
      let radio = landing (s.sent Ru) t ++ w.others Ru t in
      let passed = others_pass w Ru t begun started radio (begins_told w Du (before s) x bs is) in
      let counts = others_counted Du Ru refl t begun started radio shorts (begins_counted Du (before s) x bs shorts is tally) in
      subst (λ (ms : List DelayMessage). Tallies Du (told_all w both (map (came_heard Du t) ms)) ended (shorts + shorts_among arrivals)) come (frames_counted Du t both started arrivals shorts passed counts)

-- ---- tick by tick

among_onto : (k : Counter) (earlier xs : List Arrival)
    → times (flat_map (λ a. shorts_of a.frame) (onto earlier xs)) k ≡ times (flat_map (λ a. shorts_of a.frame) earlier) k + times (flat_map (λ a. shorts_of a.frame) xs) k
unfolding onto
among_onto k earlier [] = omega arith
among_onto k earlier (x ∷ xs) =
    let all = among_onto k (x ∷ earlier) xs in
    let front = times-append (shorts_of x.frame) (flat_map (λ a. shorts_of a.frame) earlier) k in
    let back = times-append (shorts_of x.frame) (flat_map (λ a. shorts_of a.frame) xs) k in
    join _ _ _ _ _ _ all front back
  where
    join : (whole one earlier rest this that : ℕ) → whole ≡ this + rest → this ≡ one + earlier → that ≡ one + rest → whole ≡ earlier + that
    join whole one earlier rest this that a b c = omega (arith, a, b, c)

module _ (d : Document) (is : IsReplayable d) (side : Side) (k : Counter) where
  counted_in : (n m : ℕ) → n + m ≡ tick_count
      → Tallies (own d) k side (before (state (own d) first_clock n)) (doings_in d side n) (shorts_among (own d) k (arrivals_in (landings_for side d) n))
  counted_in zero m count =
      ap (λ (x : Doings). times x.counted k) (doings_zero d side)
      ∙ sym (ap₂ (λ heard arrivals. times (counted_of (own d) side heard) k + times (flat_map (λ a. shorts_of a.frame) arrivals) k) (nothing_heard (own d) first_clock) (none_first (landings_for side d)))
  counted_in (suc n) m count =
      let t : ℤ = first_clock +ℤ pos n in
      let s = state (own d) first_clock n in
      let here = one_moved n m tick_count count in
      let told = comes_as_told d is in
      let landed = landing_at (landings_for side d) t in
      let earlier = arrivals_in (landings_for side d) n in
      let now = tick_counted (own d) k side t s (doings_in d side n) landed (shorts_among (own d) k earlier) (comes_in d is told side n (suc m) here) (side_in d is told side n (suc m) here)
      (counted_in n (suc m) here) in
      ap (λ (x : Doings). times x.counted k) (doings_next d side n ∙ after_is d side t (doings_in d side n))
      ∙ now
      ∙ ap₂ (λ heard shorts. times (counted_of (own d) side heard) k + shorts) (sym (heard_next (own d) first_clock n))
      (sym (among_onto k earlier landed) ∙ sym (ap (λ (xs : List Arrival). times (flat_map (λ a. shorts_of a.frame) xs) k) (next_first (landings_for side d) n)))

  whole : (n : ℕ) → n + 0 ≡ n
  whole n = omega arith

  all_counted_as : times ((traffic_of d).counted side) k ≡ times (delays_counted d side) k
  all_counted_as =
      counted_in tick_count 0 (whole tick_count)
      ∙ sym (times-append (counted_of (own d) side (exchanges d).heard) (flat_map (λ a. shorts_of a.frame) (all_arrivals (landings_for side d))) k)

pub counters_have_counted : (d : Document) → IsReplayable d → (side : Side) (k : Counter) → is_measured k ≡ true → number_of side d.config (traffic_of d) k ≡ capped (times (delays_counted d side) k)
unfolding number_of
counters_have_counted d is side k measured =
    let x = traffic_of d in
    ap (λ (b : Bool). capped (times (if b then x.counted side else all_counted side d.config x) k)) measured
    ∙ ap capped (all_counted_as d is side k)
