-- The messages of a valid plan, whose windows pass the check, are sound flows.
use Rattle.std.proofs.Common.{◌≡◌, ℕ, ℤ, pos, zero, suc, ◌+◌, ◌-◌, ◌*◌, ◌/◌, ◌<◌, ◌≤◌, ◌+ℤ◌, ◌*ℤ◌, ◌-ℤ◌, ◌≤ℤ◌, ◌<ℤ◌, ◌⊎◌, min, inl, inr, Bool, true, false, ◌&&◌, nat_lt, int_le, if◌then◌else◌, List, [], ◌∷◌, length, drop, Option, Some, None, refl, ap, ap₂, sym, ◌∙◌, subst, arith}
use Rattle.std.specs.Prelude.{All}
use Rattle.std.specs.Int.{int_gap}
use Rattle.std.specs.List.{slice_get}
use Rattle.std.specs.Option.{option_map_or}
use Rattle.std.proofs.lemmas.Bool.{cases_Bool, cases_eq}
use Rattle.std.proofs.Math.Nat.{div-lt_iff_lt-mul}
use Rattle.std.proofs.lemmas.Int.{ints}
use Rattle.fh_base.specs.Air.{air_of}
use Rattle.fh_base.specs.declared.values.Slot.{Slot}
use Rattle.fragment_laws.specs.Flow.{IsDistant, IsSound, size_to, sent_at as flow_sent_at}
use Rattle.window_config.specs.Configs.{IsConfig}
use Rattle.window_config.specs.Plans.{IsPlanLine}
use Rattle.window_config.specs.Relations.{PassesCheck}
use Rattle.window_config.specs.Windows.{ticks_of_ns}
use Rattle.window_config.specs.declared.config.Config.{Config}
use Rattle.window_config.specs.declared.endpoints.EndpointConfig.{EndpointConfig}
use Rattle.window_config.specs.declared.plan.PlanLine.{PlanLine}
use Rattle.unit_model.specs.Proper.{IsAt}
use Rattle.unit_model.specs.Radiated.{first_clock}
use Rattle.unit_model.specs.Sweeps.{of_endpoint}
use Rattle.unit_model.specs.Times.{end_of_time}
use Rattle.unit_model.proofs.SweepLemmas.{of_endpoint_related}
use Rattle.unit_laws.proofs.FarLemmas.{endpoints_equal}
use Rattle.plan_model.specs.Dense.{dense_from, dense_in, down_distance, up_distance, first_near, is_near, lesser, sending_of, sendings}
use Rattle.plan_model.specs.Departures.{departures_of, sent_at, start_of_part}
use Rattle.plan_model.specs.Lines.{planned}
use Rattle.plan_model.specs.Packs.{Message, Numbered, alone, packs, size_of}
use Rattle.plan_model.specs.Streams.{Part, frames_in, messages_of, part_fields, parts_in, section_size, symbol_parts}
use Rattle.plan_model.specs.Valid.{IsValid}
use Rattle.plan_model.specs.declared.dense.Dense.{Dense}
use Rattle.plan_model.specs.declared.dense.Sending.{Sending}
use Rattle.plan_model.specs.declared.lines.PlannedLine.{PlannedLine}
use Rattle.plan_model.specs.declared.streams.Stream.{Stream}
use Rattle.plan_model.specs.declared.streams.Stream.TheVariants.{DownData, UpData}
use Rattle.plan_model.proofs.SizeLemmas.{alone_few, section_few}
use Rattle.schedule_laws.specs.Flows.{bounds_of, flow_of, messages_at}
use Rattle.schedule_laws.specs.Premise.{Texts}
use Rattle.plan_model.proofs.LineLemmas.{IsGoodLine, good, part_line}
use Rattle.plan_model.proofs.SweptLists.{IsAll, all_kept}
use Rattle.schedule_laws.proofs.OrderLemmas.{all_short, number_is, numbered_rising, packs_rising, rising_at}
use Rattle.plan_model.proofs.SchedulePackLemmas.{message_from}
use Rattle.plan_model.proofs.PlanLemmas.{valid_apart}
use Rattle.plan_model.proofs.SentLemmas.{part_is, symbol_part}
use Rattle.fh_base.proofs.Orders.{le_false}
use Rattle.fh_base.specs.declared.nanoseconds.TheConstants.{NANOSECOND}
use Rattle.window_config.specs.declared.config.TheConstants.{LEAST_FRAGMENT}
use Rattle.ecpri_fragments.specs.declared.place.TheConstants.{MESSAGE_BYTES}
use Rattle.fh_base.specs.Members.{IsIn}
use Rattle.fh_base.proofs.MadeLists.{at_in}
use Rattle.fh_base.proofs.EachLemmas.{gap_is}
use Rattle.fh_base.proofs.RisingLemmas.{IsRising, below_get, get_below, get_drop, get_map, ticks_rising}

-- ---- none is dense

pub no_lesser : (x y : Option Dense) → lesser x y ≡ None → (x ≡ None) × (y ≡ None)
no_lesser None y h = (refl, h)
no_lesser (Some p) None h = absurd cc
no_lesser (Some p) (Some q) h = absurd (go (nat_lt q.number p.number) h)
  where
    go : (b : Bool) → (let o : Option Dense = if b then Some q else Some p in o) ≡ None → ⊥
    go true e = cc
    go false e = cc

near_none : (b : Bool) (d : Dense) (rest : Option Dense) → (let o : Option Dense = if b then Some d else rest in o) ≡ None → (b ≡ false) × (rest ≡ None)
near_none true d rest h = absurd cc
near_none false d rest h = (refl, h)

pub not_near : (distance : ℤ) (k j : ℕ) (xs ys : List Sending) (a b : Sending) → first_near distance k xs ys ≡ None → slice_get xs j ≡ Some a → slice_get ys j ≡ Some b
    → is_near distance a.at.0 b.at.0 ≡ false
unfolding first_near
not_near distance k j [] ys a b h p q = absurd cc
not_near distance k j (x ∷ xs) [] a b h p q = absurd cc
not_near distance k zero (x ∷ xs) (y ∷ ys) a b h p q =
    let e : x ≡ a = cc in
    let f : y ≡ b = cc in
    ap₂ (λ (s t : Sending). is_near distance s.at.0 t.at.0) (sym e) (sym f) ∙ (near_none (is_near distance x.at.0 y.at.0) (record { number = k; line = y.line }) (first_near distance (k + 1) xs ys) h).0
not_near distance k (suc j) (x ∷ xs) (y ∷ ys) a b h p q =
    not_near distance (k + 1) j xs ys a b (near_none (is_near distance x.at.0 y.at.0) (record { number = k; line = y.line }) (first_near distance (k + 1) xs ys) h).1 p q

pub none_dense : (c : Config) (ps : List PlannedLine) (stream : Stream) (distance : ℤ) (start i : ℕ) (es : List EndpointConfig) (e : EndpointConfig)
    → dense_from c ps stream distance start es ≡ None → IsAt es i e → dense_in distance (sendings c ps stream (start + i) e) ≡ None
unfolding dense_from
none_dense c ps stream distance start i [] e h at = absurd cc
none_dense c ps stream distance start zero (f ∷ es) e h at =
    let same : f ≡ e = cc in
    let here : start + 0 ≡ start = omega arith in
    ap₂ (λ k (g : EndpointConfig). dense_in distance (sendings c ps stream k g)) here (sym same)
    ∙ (no_lesser (dense_in distance (sendings c ps stream start f)) (dense_from c ps stream distance (start + 1) es) h).0
none_dense c ps stream distance start (suc i) (f ∷ es) e h at =
    let there : start + suc i ≡ start + 1 + i = omega arith in
    ap (λ k. dense_in distance (sendings c ps stream k e)) there
    ∙ none_dense c ps stream distance (start + 1) i es e (no_lesser (dense_in distance (sendings c ps stream start f)) (dense_from c ps stream distance (start + 1) es) h).1 at

beyond : (x y d h fast slow : ℤ) → d ≡ (h +ℤ (slow -ℤ fast)) *ℤ pos NANOSECOND → d <ℤ (y -ℤ x) → (x +ℤ (h *ℤ pos NANOSECOND +ℤ (slow *ℤ pos NANOSECOND -ℤ fast *ℤ pos NANOSECOND))) <ℤ y
beyond x y d h fast slow e l = omega (arith, ints, e, l)

pub distant : (x y h fast slow : ℤ) → is_near ((h +ℤ (slow -ℤ fast)) *ℤ pos NANOSECOND) x y ≡ false
    → ((x +ℤ (h *ℤ pos NANOSECOND +ℤ (slow *ℤ pos NANOSECOND -ℤ fast *ℤ pos NANOSECOND))) <ℤ y) ⊎ ((y +ℤ (h *ℤ pos NANOSECOND +ℤ (slow *ℤ pos NANOSECOND -ℤ fast *ℤ pos NANOSECOND))) <ℤ x)
distant x y h fast slow e = elim (cases_Bool (int_le (x -ℤ y) ((h +ℤ (slow -ℤ fast)) *ℤ pos NANOSECOND))) [
  | inr far ↦ inr (beyond y x ((h +ℤ (slow -ℤ fast)) *ℤ pos NANOSECOND) h fast slow refl (le_false (x -ℤ y) ((h +ℤ (slow -ℤ fast)) *ℤ pos NANOSECOND) far))
  | inl near ↦
      let other : int_le (y -ℤ x) ((h +ℤ (slow -ℤ fast)) *ℤ pos NANOSECOND) ≡ false = sym (ap (λ b. b && int_le (y -ℤ x) ((h +ℤ (slow -ℤ fast)) *ℤ pos NANOSECOND)) near) ∙ e in
      inl (beyond x y ((h +ℤ (slow -ℤ fast)) *ℤ pos NANOSECOND) h fast slow refl (le_false (y -ℤ x) ((h +ℤ (slow -ℤ fast)) *ℤ pos NANOSECOND) other))
]

-- ---- sizes

-- a line's section alone is short enough
pub section_short : (es : List EndpointConfig) (x : Part) → IsGoodLine es x.planned → size_of part_fields (alone x) ≤ MESSAGE_BYTES
section_short es x g =
    let e = x.planned.endpoint in
    alone_few (section_size e x.planned.line.num_prb) (section_few e x.planned.line.start_prb x.planned.line.num_prb g.endpoint.width g.endpoint.most g.prbs)

-- and has a frame at least
pub some_frames : (c : Config) (m : Message Part) → LEAST_FRAGMENT ≤ c.fragment → 0 < frames_in c DownData m
some_frames c m h = some_quotient (size_of part_fields m) c.fragment h (size_some m)
  where
    at_least : (n : ℕ) → 4 ≤ 4 + n
    at_least n = omega arith

    size_some : (m : Message Part) → 4 ≤ size_of part_fields m
    size_some m = at_least _

    some_quotient : (s f : ℕ) → LEAST_FRAGMENT ≤ f → 4 ≤ s → 0 < (s + (f - 1)) / f
    some_quotient s f h k = elim (cases_eq ((s + (f - 1)) / f) 0) [
      | inl e ↦
          let less : (s + (f - 1)) / f < 1 = omega (arith, e) in
          let under : s + (f - 1) < 1 * f = (div-lt_iff_lt-mul (omega (arith, h))).0 less in
          absurd (omega (arith, h, k, under))
      | inr ne ↦ omega (arith, ne)
    ]

-- ---- the flows

module _ (c : Config) (lines : List PlanLine) (config : IsConfig c) (fit : All IsPlanLine lines) (valid : IsValid c lines) (check : PassesCheck c.delays) (text : Texts) where
  abbrev ps : List PlannedLine
  ps = planned c.endpoints lines

  line_good : (p : PlannedLine) → IsIn p ps → IsGoodLine c.endpoints p
  line_good p m = good c lines config fit valid p m

  -- when a part's symbol starts
  part_start : (ep : ℕ) (e : EndpointConfig) (slot : Slot) (symbol : ℕ) (x : Part) → IsAt c.endpoints ep e → IsIn x (symbol_parts DownData ps ep slot symbol)
      → start_of_part x ≡ air_of e.numerology slot symbol
  part_start ep e slot symbol x at m =
      let w = symbol_part ps DownData tt ep e slot symbol x m in
      let place = part_line DownData tt x.planned ep slot symbol w.1 in
      let g = line_good x.planned w.0 in
      let same = endpoints_equal c.endpoints x.planned.ep ep x.planned.endpoint e g.at at place.ep_is in
      ap (λ (f : EndpointConfig). air_of f.numerology x.planned.line.slot x.symbol) same
      ∙ ap₂ (λ (s : Slot) (y : ℕ). air_of e.numerology s y) place.slot_is w.2

  parts_rising : (ep : ℕ) (e : EndpointConfig) → IsAt c.endpoints ep e → IsRising (λ x. start_of_part x) (parts_in ps DownData ep e)
  unfolding parts_in
  parts_rising ep e at =
      ticks_rising (λ x. start_of_part x) first_clock (int_gap first_clock (end_of_time +ℤ pos 1)) (of_endpoint (symbol_parts DownData ps ep) e) (λ t.
      of_endpoint_related (IsAll (λ x. start_of_part x ≡ t)) (all_kept (λ x. start_of_part x ≡ t)) (symbol_parts DownData ps ep) (symbol_parts DownData ps ep) e t
      (λ slot symbol low high is_slot is_symbol starts x m. part_start ep e slot symbol x at m ∙ starts))

  messages_rising : (ep : ℕ) (e : EndpointConfig) → IsAt c.endpoints ep e → IsRising (λ n. start_of_part n.message.first) (messages_of c ps DownData ep e)
  unfolding messages_of
  messages_rising ep e at =
      numbered_rising part_fields (frames_in c DownData) (λ m. start_of_part m.first) (packs part_fields c.pack (parts_in ps DownData ep e))
      (packs_rising part_fields c.pack (λ x. start_of_part x) (parts_in ps DownData ep e) (parts_rising ep e at))

  message_short : (ep : ℕ) (e : EndpointConfig) (n : Numbered Part) → IsIn n (messages_of c ps DownData ep e) → size_of part_fields n.message ≤ MESSAGE_BYTES
  unfolding messages_of
  message_short ep e n m =
      let parts = parts_in ps DownData ep e in
      all_short part_fields c.pack parts n.message (λ x i. section_short c.endpoints x (line_good x.planned (part_is ps DownData tt ep e x i).from))
      (message_from part_fields (frames_in c DownData) (packs part_fields c.pack parts) n m)

  pub message_number : (ep : ℕ) (e : EndpointConfig) (k : ℕ) (n : Numbered Part) → slice_get (messages_of c ps DownData ep e) k ≡ Some n → n.number ≡ k
  unfolding messages_of
  message_number ep e k n h = number_is part_fields (frames_in c DownData) (packs part_fields c.pack (parts_in ps DownData ep e)) k n h

  -- ---- one message

  pub record Here (ep j : ℕ) : Type 0 where
    pub e : EndpointConfig
    pub at : IsAt c.endpoints ep e
    pub n : Numbered Part
    pub got : slice_get (messages_of c ps DownData ep e) j ≡ Some n
    pub there : IsIn n (messages_of c ps DownData ep e)
    pub number : n.number ≡ j

  at_endpoint : (ep : ℕ) (e : EndpointConfig) → IsAt c.endpoints ep e → messages_at c ps ep ≡ messages_of c ps DownData ep e
  at_endpoint ep e at = ap (λ (o : Option EndpointConfig). option_map_or (λ f. messages_of c ps DownData ep f) o []) at

  here_at : (ep j : ℕ) (e : EndpointConfig) → IsAt c.endpoints ep e → j < length (messages_of c ps DownData ep e) → Here ep j
  here_at ep j e at h =
      let w = get_below j (messages_of c ps DownData ep e) h in
      record { e = e; at = at; n = w.0; got = w.1; there = at_in j w.0 (messages_of c ps DownData ep e) w.1; number = message_number ep e j w.0 w.1 }

  here_by : (ep j : ℕ) (o : Option EndpointConfig) → slice_get c.endpoints ep ≡ o → j < length (option_map_or (λ f. messages_of c ps DownData ep f) o []) → Here ep j
  here_by ep j None e h = absurd (omega (arith, h))
  here_by ep j (Some f) e h = here_at ep j f e h

  pub here : (ep j : ℕ) → j < (flow_of c ps text ep).count → Here ep j
  here ep j h = here_by ep j (slice_get c.endpoints ep) refl h

  -- what the flow tells of it
  got_at : (ep j : ℕ) (w : Here ep j) → slice_get (messages_at c ps ep) j ≡ Some w.n
  got_at ep j w = ap (λ (ns : List (Numbered Part)). slice_get ns j) (at_endpoint ep w.e w.at) ∙ w.got

  pub below_at : (ep j : ℕ) → Here ep j → j < (flow_of c ps text ep).count
  below_at ep j w = below_get j w.n (messages_at c ps ep) (got_at ep j w)

  pub pieces_at : (ep j : ℕ) (w : Here ep j) → (flow_of c ps text ep).pieces j ≡ frames_in c DownData w.n.message
  pieces_at ep j w = ap (λ (o : Option (Numbered Part)). option_map_or (λ n. frames_in c DownData n.message) o 0) (got_at ep j w)

  low_at : (ep j : ℕ) (w : Here ep j) → (flow_of c ps text ep).low j ≡ start_of_part w.n.message.first +ℤ (departures_of c DownData).from.0
  low_at ep j w = ap (λ (o : Option (Numbered Part)). option_map_or (λ n. start_of_part n.message.first +ℤ (departures_of c DownData).from.0) o (pos 0)) (got_at ep j w)

  before_at : (ep j : ℕ) (w : Here ep j) → (flow_of c ps text ep).before j ≡ w.n.before
  before_at ep j w = ap (λ (o : Option (Numbered Part)). option_map_or (λ n. n.before) o 0) (got_at ep j w)

  pub leaves_at : (ep j sub : ℕ) (w : Here ep j) → flow_sent_at (flow_of c ps text ep) j sub ≡ sent_at c DownData w.n sub
  leaves_at ep j sub w =
      ap₂ (λ (l : ℤ) (b : ℕ). l +ℤ pos (min ((b + sub) * (departures_of c DownData).gap) (departures_of c DownData).spread)) (low_at ep j w) (before_at ep j w)

  -- ---- soundness

  rising_low : (ep j k : ℕ) → j ≤ k → k < (flow_of c ps text ep).count → (flow_of c ps text ep).low j ≤ℤ (flow_of c ps text ep).low k
  rising_low ep j k le h =
      let a = here ep j (omega (arith, le, h)) in
      let b = here ep k h in
      let same = endpoints_equal c.endpoints ep ep a.e b.e a.at b.at refl in
      let got_b : slice_get (messages_of c ps DownData ep a.e) k ≡ Some b.n = subst (λ (e : EndpointConfig). slice_get (messages_of c ps DownData ep e) k ≡ Some b.n) (sym same) b.got in
      let r = rising_at (λ (n : Numbered Part). start_of_part n.message.first) (messages_of c ps DownData ep a.e) j k a.n b.n (messages_rising ep a.e a.at) a.got got_b le in
      subst (λ x. x ≤ℤ (flow_of c ps text ep).low k) (sym (low_at ep j a))
      (subst (λ y. (start_of_part a.n.message.first +ℤ (departures_of c DownData).from.0) ≤ℤ y) (sym (low_at ep k b)) (both (start_of_part a.n.message.first) (start_of_part b.n.message.first) (departures_of c DownData).from.0 r))
    where
      both : (x y z : ℤ) → x ≤ℤ y → (x +ℤ z) ≤ℤ (y +ℤ z)
      both x y z h = omega (arith, ints, h)

  abbrev IsApart : ℤ → ℤ → Type 0
  IsApart s t = ((s +ℤ ((bounds_of c).hold +ℤ ((bounds_of c).slow -ℤ (bounds_of c).fast))) <ℤ t) ⊎ ((t +ℤ ((bounds_of c).hold +ℤ ((bounds_of c).slow -ℤ (bounds_of c).fast))) <ℤ s)

  apart_at : (ep j : ℕ) → j + 256 < (flow_of c ps text ep).count → IsDistant (bounds_of c) (flow_of c ps text ep) j (j + 256)
  apart_at ep j h =
      let a = here ep j (omega (arith, h)) in
      let b = here ep (j + 256) h in
      let same = endpoints_equal c.endpoints ep ep a.e b.e a.at b.at refl in
      let all = messages_of c ps DownData ep a.e in
      let got_b : slice_get all (j + 256) ≡ Some b.n = subst (λ (e : EndpointConfig). slice_get (messages_of c ps DownData ep e) (j + 256) ≡ Some b.n) (sym same) b.got in
      let none = (no_lesser (dense_from c ps DownData (down_distance c.delays) 0 c.endpoints) (dense_from c ps UpData (up_distance c.delays) 0 c.endpoints) (valid_apart c lines valid)).0 in
      let here_ep : 0 + ep ≡ ep = omega arith in
      let none_here : dense_in (down_distance c.delays) (sendings c ps DownData ep a.e) ≡ None =
      ap (λ k. dense_in (down_distance c.delays) (sendings c ps DownData k a.e)) (sym here_ep) ∙ none_dense c ps DownData (down_distance c.delays) 0 ep c.endpoints a.e none a.at in
      let sent_list = sendings c ps DownData ep a.e in
      let x = get_map (sending_of c DownData) j a.n all a.got in
      let y = get_drop 256 j (j + 256) sent_list (omega arith) ∙ get_map (sending_of c DownData) (j + 256) b.n all got_b in
      let far = not_near (down_distance c.delays) 256 j sent_list (drop 256 sent_list) (sending_of c DownData a.n) (sending_of c DownData b.n) none_here x y in
      let times = distant (sent_at c DownData a.n 0) (sent_at c DownData b.n 0) c.delays.hold_dl c.delays.t12.min c.delays.t12.max far in
      subst (λ s. IsApart s (flow_sent_at (flow_of c ps text ep) (j + 256) 0)) (sym (leaves_at ep j 0 a)) (subst (λ s. IsApart (sent_at c DownData a.n 0) s) (sym (leaves_at ep (j + 256) 0 b)) times)

  -- a generation holds as long as a message's frames may be apart
  hold_covers : (least most fast slow hold : ℤ) (spread : ℕ) → least *ℤ pos NANOSECOND +ℤ pos spread ≡ most *ℤ pos NANOSECOND → ((most -ℤ least) +ℤ (slow -ℤ fast)) ≤ℤ hold
      → (pos spread +ℤ (slow *ℤ pos NANOSECOND -ℤ fast *ℤ pos NANOSECOND)) ≤ℤ (hold *ℤ pos NANOSECOND)
  hold_covers least most fast slow hold spread e h = omega (arith, ints, e, h)

  in_order_ns : (a b : ℤ) → a ≤ℤ b → (a *ℤ pos NANOSECOND) ≤ℤ (b *ℤ pos NANOSECOND)
  in_order_ns a b h = omega (arith, ints, h)

  -- the bytes of a message are as many as its fragments have
  abbrev pub AreLong : Type 0
  AreLong = (ep : ℕ) (e : EndpointConfig) (n : Numbered Part) → IsAt c.endpoints ep e → IsIn n (messages_of c ps DownData ep e)
      → size_to (text ep n.number) (frames_in c DownData n.message) ≡ size_of part_fields n.message

  short_at : AreLong → (ep j : ℕ) → j < (flow_of c ps text ep).count → size_to (text ep j) ((flow_of c ps text ep).pieces j) ≤ MESSAGE_BYTES
  short_at long ep j h =
      let a = here ep j h in
      let size = long ep a.e a.n a.at a.there in
      let is : size_to (text ep j) ((flow_of c ps text ep).pieces j) ≡ size_of part_fields a.n.message =
      ap₂ (λ (k m : ℕ). size_to (text ep k) m) (sym a.number) (pieces_at ep j a) ∙ size in
      subst (λ m. m ≤ MESSAGE_BYTES) (sym is) (message_short ep a.e a.n a.there)

  pub sound : AreLong → (ep : ℕ) → IsSound (bounds_of c) (flow_of c ps text ep)
  sound long ep = record {
    delays = in_order_ns c.delays.t12.min c.delays.t12.max config.delays.t12.order;
    hold = hold_covers c.delays.t1a_up.min c.delays.t1a_up.max c.delays.t12.min c.delays.t12.max c.delays.hold_dl (departures_of c DownData).spread
        (gap_is (ticks_of_ns c.delays.t1a_up.min) (ticks_of_ns c.delays.t1a_up.max) (in_order_ns c.delays.t1a_up.min c.delays.t1a_up.max config.delays.t1a_up.order)) check.hold_dl;
    rising = rising_low ep;
    not_dense = apart_at ep;
    some = λ j h. (let a = here ep j h in subst (λ m. 0 < m) (sym (pieces_at ep j a)) (some_frames c a.n.message config.fragment_low));
    short = short_at long ep;
  }
