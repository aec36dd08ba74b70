-- The uplink messages of a valid plan, whose windows pass the check, are sound flows.
use Rattle.std.proofs.Common.{◌≡◌, ℕ, ℤ, pos, ◌+◌, ◌*◌, ◌<◌, ◌≤◌, ◌+ℤ◌, ◌*ℤ◌, ◌-ℤ◌, ◌≤ℤ◌, ◌<ℤ◌, ◌⊎◌, min, List, [], length, drop, Option, Some, None, refl, ap, ap₂, sym, ◌∙◌, subst, arith}
use Rattle.std.specs.Prelude.{All}
use Rattle.std.specs.Int.{int_gap}
use Rattle.std.specs.List.{slice_get}
use Rattle.std.specs.Option.{option_map_or}
use Rattle.std.proofs.lemmas.Int.{ints}
use Rattle.fh_base.specs.Air.{air_of}
use Rattle.fh_base.specs.declared.values.Slot.{Slot}
use Rattle.fragment_laws.specs.Flow.{IsDistant, IsSound, size_to, sent_at as flow_sent_at}
use Rattle.window_config.specs.Configs.{IsConfig}
use Rattle.window_config.specs.Plans.{IsPlanLine}
use Rattle.window_config.specs.Relations.{PassesCheck}
use Rattle.window_config.specs.Windows.{ticks_of_ns}
use Rattle.window_config.specs.declared.config.Config.{Config}
use Rattle.window_config.specs.declared.endpoints.EndpointConfig.{EndpointConfig}
use Rattle.window_config.specs.declared.plan.PlanLine.{PlanLine}
use Rattle.unit_model.specs.Proper.{IsAt}
use Rattle.unit_model.specs.Radiated.{first_clock}
use Rattle.unit_model.specs.Sweeps.{of_endpoint}
use Rattle.unit_model.specs.Times.{end_of_time}
use Rattle.unit_model.proofs.SweepLemmas.{of_endpoint_related}
use Rattle.unit_laws.proofs.FarLemmas.{endpoints_equal}
use Rattle.plan_model.specs.Dense.{dense_from, dense_in, down_distance, sending_of, sendings, up_distance}
use Rattle.plan_model.specs.Departures.{departures_of, sent_at, start_of_part}
use Rattle.plan_model.specs.Lines.{planned}
use Rattle.plan_model.specs.Packs.{Numbered, packs, size_of}
use Rattle.plan_model.specs.Streams.{Part, frames_in, messages_of, part_fields, parts_in, symbol_parts}
use Rattle.plan_model.specs.Valid.{IsValid}
use Rattle.plan_model.specs.declared.lines.PlannedLine.{PlannedLine}
use Rattle.plan_model.specs.declared.streams.Stream.TheVariants.{DownData, UpData}
use Rattle.schedule_laws.proofs.FlowLemmas.{distant, no_lesser, none_dense, not_near, some_frames}
use Rattle.plan_model.proofs.LineLemmas.{good}
use Rattle.plan_model.proofs.SweptLists.{IsAll, all_kept}
use Rattle.schedule_laws.proofs.OrderLemmas.{numbered_rising, packs_rising, rising_at}
use Rattle.plan_model.proofs.PlanLemmas.{valid_apart}
use Rattle.uplink_model.specs.Frames.{Antenna}
use Rattle.uplink_laws.specs.Flows.{uplink_bounds_of, uplink_flow_of, fragment_text, uplink_messages_at, flow_start_at, text_of}
use Rattle.uplink_laws.proofs.PartLemmas.{message_number, message_short, sent_in, symbol_part}
use Rattle.fh_base.specs.declared.nanoseconds.TheConstants.{NANOSECOND}
use Rattle.ecpri_fragments.specs.declared.place.TheConstants.{MESSAGE_BYTES}
use Rattle.fh_base.specs.Members.{IsIn}
use Rattle.fh_base.proofs.MadeLists.{at_in}
use Rattle.fh_base.proofs.EachLemmas.{gap_is}
use Rattle.fh_base.proofs.RisingLemmas.{IsRising, below_get, get_below, get_drop, get_map, ticks_rising}

-- ---- the flows

module _ (c : Config) (lines : List PlanLine) (config : IsConfig c) (fit : All IsPlanLine lines) (valid : IsValid c lines) (check : PassesCheck c.delays) (antenna : Antenna) where
  abbrev ps : List PlannedLine
  ps = planned c.endpoints lines

  -- when a part's symbol starts
  part_start : (ep : ℕ) (e : EndpointConfig) (slot : Slot) (symbol : ℕ) (x : Part) → IsAt c.endpoints ep e → IsIn x (symbol_parts UpData ps ep slot symbol)
      → start_of_part x ≡ air_of e.numerology slot symbol
  part_start ep e slot symbol x at m =
      let w = symbol_part ps ep e slot symbol x m in
      let s = sent_in x.planned ep slot symbol w.1 in
      let g = good c lines config fit valid x.planned w.0 in
      let same = endpoints_equal c.endpoints x.planned.ep ep x.planned.endpoint e g.at at s.ep_is in
      ap (λ (f : EndpointConfig). air_of f.numerology x.planned.line.slot x.symbol) same
      ∙ ap₂ (λ (t : Slot) (y : ℕ). air_of e.numerology t y) s.slot_is w.2

  parts_rising : (ep : ℕ) (e : EndpointConfig) → IsAt c.endpoints ep e → IsRising (λ x. start_of_part x) (parts_in ps UpData ep e)
  unfolding parts_in
  parts_rising ep e at =
      ticks_rising (λ x. start_of_part x) first_clock (int_gap first_clock (end_of_time +ℤ pos 1)) (of_endpoint (symbol_parts UpData ps ep) e) (λ t.
      of_endpoint_related (IsAll (λ x. start_of_part x ≡ t)) (all_kept (λ x. start_of_part x ≡ t)) (symbol_parts UpData ps ep) (symbol_parts UpData ps ep) e t
      (λ slot symbol low high is_slot is_symbol starts x m. part_start ep e slot symbol x at m ∙ starts))

  messages_rising : (ep : ℕ) (e : EndpointConfig) → IsAt c.endpoints ep e → IsRising (λ n. start_of_part n.message.first) (messages_of c ps UpData ep e)
  unfolding messages_of
  messages_rising ep e at =
      numbered_rising part_fields (frames_in c UpData) (λ m. start_of_part m.first) (packs part_fields c.pack (parts_in ps UpData ep e))
      (packs_rising part_fields c.pack (λ x. start_of_part x) (parts_in ps UpData ep e) (parts_rising ep e at))

  -- ---- one message

  pub record Here (ep j : ℕ) : Type 0 where
    pub e : EndpointConfig
    pub at : IsAt c.endpoints ep e
    pub n : Numbered Part
    pub got : slice_get (messages_of c ps UpData ep e) j ≡ Some n
    pub there : IsIn n (messages_of c ps UpData ep e)
    pub number : n.number ≡ j

  at_endpoint : (ep : ℕ) (e : EndpointConfig) → IsAt c.endpoints ep e → uplink_messages_at c ps ep ≡ messages_of c ps UpData ep e
  at_endpoint ep e at = ap (λ (o : Option EndpointConfig). option_map_or (λ f. messages_of c ps UpData ep f) o []) at

  here_at : (ep j : ℕ) (e : EndpointConfig) → IsAt c.endpoints ep e → j < length (messages_of c ps UpData ep e) → Here ep j
  here_at ep j e at h =
      let w = get_below j (messages_of c ps UpData ep e) h in
      record { e = e; at = at; n = w.0; got = w.1; there = at_in j w.0 (messages_of c ps UpData ep e) w.1; number = message_number c lines config fit valid ep e j w.0 w.1 }

  here_by : (ep j : ℕ) (o : Option EndpointConfig) → slice_get c.endpoints ep ≡ o → j < length (option_map_or (λ f. messages_of c ps UpData ep f) o []) → Here ep j
  here_by ep j None e h = absurd (omega (arith, h))
  here_by ep j (Some f) e h = here_at ep j f e h

  pub here : (ep j : ℕ) → j < (uplink_flow_of c antenna ps ep).count → Here ep j
  here ep j h = here_by ep j (slice_get c.endpoints ep) refl h

  -- what the flow tells of it
  got_at : (ep j : ℕ) (w : Here ep j) → slice_get (uplink_messages_at c ps ep) j ≡ Some w.n
  got_at ep j w = ap (λ (ns : List (Numbered Part)). slice_get ns j) (at_endpoint ep w.e w.at) ∙ w.got

  pub below_at : (ep j : ℕ) → Here ep j → j < (uplink_flow_of c antenna ps ep).count
  below_at ep j w = below_get j w.n (uplink_messages_at c ps ep) (got_at ep j w)

  pub pieces_at : (ep j : ℕ) (w : Here ep j) → (uplink_flow_of c antenna ps ep).pieces j ≡ frames_in c UpData w.n.message
  pieces_at ep j w = ap (λ (o : Option (Numbered Part)). option_map_or (λ n. frames_in c UpData n.message) o 0) (got_at ep j w)

  pub starts_at : (ep j : ℕ) (w : Here ep j) → flow_start_at c ps ep j ≡ start_of_part w.n.message.first
  starts_at ep j w = ap (λ (o : Option (Numbered Part)). option_map_or (λ n. start_of_part n.message.first) o (pos 0)) (got_at ep j w)

  before_at : (ep j : ℕ) (w : Here ep j) → (uplink_flow_of c antenna ps ep).before j ≡ w.n.before
  before_at ep j w = ap (λ (o : Option (Numbered Part)). option_map_or (λ n. n.before) o 0) (got_at ep j w)

  pub text_at : (ep j : ℕ) (w : Here ep j) → text_of c antenna ps ep j ≡ fragment_text c antenna w.e w.n
  text_at ep j w =
      ap {B = ℕ → List ℕ} (λ (o : Option EndpointConfig) (sub : ℕ). option_map_or (λ e. option_map_or (λ n. fragment_text c antenna e n sub) (slice_get (messages_of c ps UpData ep e) j) []) o []) w.at
      ∙ ap {B = ℕ → List ℕ} (λ (o : Option (Numbered Part)) (sub : ℕ). option_map_or (λ n. fragment_text c antenna w.e n sub) o []) w.got

  pub leaves_at : (ep j sub : ℕ) (w : Here ep j) → flow_sent_at (uplink_flow_of c antenna ps ep) j sub ≡ sent_at c UpData w.n sub
  leaves_at ep j sub w =
      ap₂ (λ (s : ℤ) (b : ℕ). (s +ℤ (departures_of c UpData).from.0) +ℤ pos (min ((b + sub) * (departures_of c UpData).gap) (departures_of c UpData).spread)) (starts_at ep j w) (before_at ep j w)

  -- ---- soundness

  rising_low : (ep j k : ℕ) → j ≤ k → k < (uplink_flow_of c antenna ps ep).count → (uplink_flow_of c antenna ps ep).low j ≤ℤ (uplink_flow_of c antenna ps ep).low k
  rising_low ep j k le h =
      let a = here ep j (omega (arith, le, h)) in
      let b = here ep k h in
      let same = endpoints_equal c.endpoints ep ep a.e b.e a.at b.at refl in
      let got_b : slice_get (messages_of c ps UpData ep a.e) k ≡ Some b.n = subst (λ (e : EndpointConfig). slice_get (messages_of c ps UpData ep e) k ≡ Some b.n) (sym same) b.got in
      let r = rising_at (λ (n : Numbered Part). start_of_part n.message.first) (messages_of c ps UpData ep a.e) j k a.n b.n (messages_rising ep a.e a.at) a.got got_b le in
      both (flow_start_at c ps ep j) (flow_start_at c ps ep k) (departures_of c UpData).from.0
      (subst (λ x. x ≤ℤ flow_start_at c ps ep k) (sym (starts_at ep j a)) (subst (λ y. start_of_part a.n.message.first ≤ℤ y) (sym (starts_at ep k b)) r))
    where
      both : (x y z : ℤ) → x ≤ℤ y → (x +ℤ z) ≤ℤ (y +ℤ z)
      both x y z h = omega (arith, ints, h)

  abbrev IsFar : ℤ → ℤ → Type 0
  IsFar s t = ((s +ℤ ((uplink_bounds_of c).hold +ℤ ((uplink_bounds_of c).slow -ℤ (uplink_bounds_of c).fast))) <ℤ t) ⊎ ((t +ℤ ((uplink_bounds_of c).hold +ℤ ((uplink_bounds_of c).slow -ℤ (uplink_bounds_of c).fast))) <ℤ s)

  apart_at : (ep j : ℕ) → j + 256 < (uplink_flow_of c antenna ps ep).count → IsDistant (uplink_bounds_of c) (uplink_flow_of c antenna ps ep) j (j + 256)
  apart_at ep j h =
      let a = here ep j (omega (arith, h)) in
      let b = here ep (j + 256) h in
      let same = endpoints_equal c.endpoints ep ep a.e b.e a.at b.at refl in
      let all = messages_of c ps UpData ep a.e in
      let got_b : slice_get all (j + 256) ≡ Some b.n = subst (λ (e : EndpointConfig). slice_get (messages_of c ps UpData ep e) (j + 256) ≡ Some b.n) (sym same) b.got in
      let none = (no_lesser (dense_from c ps DownData (down_distance c.delays) 0 c.endpoints) (dense_from c ps UpData (up_distance c.delays) 0 c.endpoints) (valid_apart c lines valid)).1 in
      let here_ep : 0 + ep ≡ ep = omega arith in
      let none_here : dense_in (up_distance c.delays) (sendings c ps UpData ep a.e) ≡ None =
      ap (λ k. dense_in (up_distance c.delays) (sendings c ps UpData k a.e)) (sym here_ep) ∙ none_dense c ps UpData (up_distance c.delays) 0 ep c.endpoints a.e none a.at in
      let sent_list = sendings c ps UpData ep a.e in
      let x = get_map (sending_of c UpData) j a.n all a.got in
      let y = get_drop 256 j (j + 256) sent_list (omega arith) ∙ get_map (sending_of c UpData) (j + 256) b.n all got_b in
      let far = not_near (up_distance c.delays) 256 j sent_list (drop 256 sent_list) (sending_of c UpData a.n) (sending_of c UpData b.n) none_here x y in
      let times = distant (sent_at c UpData a.n 0) (sent_at c UpData b.n 0) c.delays.hold_ul c.delays.t34.min c.delays.t34.max far in
      subst (λ s. IsFar s (flow_sent_at (uplink_flow_of c antenna ps ep) (j + 256) 0)) (sym (leaves_at ep j 0 a)) (subst (λ s. IsFar (sent_at c UpData a.n 0) s) (sym (leaves_at ep (j + 256) 0 b)) times)

  -- a generation holds as long as a message's frames may be apart
  hold_covers : (least most fast slow hold : ℤ) (spread : ℕ) → least *ℤ pos NANOSECOND +ℤ pos spread ≡ most *ℤ pos NANOSECOND → ((most -ℤ least) +ℤ (slow -ℤ fast)) ≤ℤ hold
      → (pos spread +ℤ (slow *ℤ pos NANOSECOND -ℤ fast *ℤ pos NANOSECOND)) ≤ℤ (hold *ℤ pos NANOSECOND)
  hold_covers least most fast slow hold spread e h = omega (arith, ints, e, h)

  pub in_order_ns : (a b : ℤ) → a ≤ℤ b → (a *ℤ pos NANOSECOND) ≤ℤ (b *ℤ pos NANOSECOND)
  in_order_ns a b h = omega (arith, ints, h)

  -- the bytes of a message are as many as its fragments have
  abbrev pub AreLong : Type 0
  AreLong = (ep j : ℕ) (w : Here ep j) → size_to (text_of c antenna ps ep j) (frames_in c UpData w.n.message) ≡ size_of part_fields w.n.message

  short_at : AreLong → (ep j : ℕ) → j < (uplink_flow_of c antenna ps ep).count → size_to (text_of c antenna ps ep j) ((uplink_flow_of c antenna ps ep).pieces j) ≤ MESSAGE_BYTES
  short_at long ep j h =
      let a = here ep j h in
      let is : size_to (text_of c antenna ps ep j) ((uplink_flow_of c antenna ps ep).pieces j) ≡ size_of part_fields a.n.message =
      ap (λ m. size_to (text_of c antenna ps ep j) m) (pieces_at ep j a) ∙ long ep j a in
      subst (λ m. m ≤ MESSAGE_BYTES) (sym is) (message_short c lines config fit valid ep a.e a.n a.at a.there)

  pub sound : AreLong → (ep : ℕ) → IsSound (uplink_bounds_of c) (uplink_flow_of c antenna ps ep)
  sound long ep = record {
    delays = in_order_ns c.delays.t34.min c.delays.t34.max config.delays.t34.order;
    hold = hold_covers c.delays.ta3.min c.delays.ta3.max c.delays.t34.min c.delays.t34.max c.delays.hold_ul (departures_of c UpData).spread
        (gap_is (ticks_of_ns c.delays.ta3.min) (ticks_of_ns c.delays.ta3.max) (in_order_ns c.delays.ta3.min c.delays.ta3.max config.delays.ta3.order)) check.hold_ul;
    rising = rising_low ep;
    not_dense = apart_at ep;
    some = λ j h. (let a = here ep j h in subst (λ m. 0 < m) (sym (pieces_at ep j a)) (some_frames c a.n.message config.fragment_low));
    short = short_at long ep;
  }
