-- What was received at the distributed unit: copies of the frames of a plan's uplink stream, each read as its fragment.
use Rattle.std.proofs.Common.{◌≡◌, ℕ, ℤ, ◌+◌, ◌<◌, ◌+ℤ◌, ◌≤ℤ◌, inl, inr, ◌==◌, List, [], ◌∷◌, map, Option, Some, None, refl, ap, sym, ◌∙◌, subst, arith}
use Rattle.std.specs.Prelude.{filter}
use Rattle.std.specs.List.{slice_get}
use Rattle.std.specs.Option.{option_map_or}
use Rattle.std.proofs.lemmas.Bool.{eq-eqb}
use Rattle.air_source.specs.declared.events.Side.TheVariants.{Du}
use Rattle.air_source.specs.declared.links.LinkFrame.{LinkFrame}
use Rattle.ecpri_fragments.specs.Generations.{Fragment}
use Rattle.ecpri_frames.specs.Gathering.{whole_messages}
use Rattle.fragment_laws.specs.Apart.{IsFalling}
use Rattle.fragment_laws.specs.Flow.{Bounds, Flow, IsCopyOf as IsFragmentCopy, IsDelivered, IsSound, size_to}
use Rattle.window_config.specs.Relations.{PassesCheck}
use Rattle.window_config.specs.Windows.{ticks_of_ns}
use Rattle.window_config.specs.declared.config.Config.{Config}
use Rattle.window_config.specs.declared.endpoints.EndpointConfig.{EndpointConfig}
use Rattle.window_config.specs.declared.plan.PlanLine.{PlanLine}
use Rattle.fh_base.specs.Lists.{onto}
use Rattle.unit_model.specs.Meetings.{Arrival, Meeting, Piece, fragments, meetings, met_in}
use Rattle.unit_model.specs.Proper.{IsAt}
use Rattle.unit_model.specs.Times.{end_of_time}
use Rattle.unit_model.specs.declared.jobs.UplinkJob.{UplinkJob}
use Rattle.plan_model.specs.Departures.{sent_at}
use Rattle.plan_model.specs.Lines.{planned}
use Rattle.plan_model.specs.Packs.{Message, Numbered}
use Rattle.plan_model.specs.Streams.{Part, frames_in, messages_of}
use Rattle.plan_model.specs.declared.lines.PlannedLine.{PlannedLine}
use Rattle.plan_model.specs.declared.streams.Stream.TheVariants.{UpData}
use Rattle.schedule_laws.specs.Premise.{AreInOrder}
use Rattle.plan_model.proofs.SweptLists.{in_joined, of_joined}
use Rattle.sent_frames.specs.Messages.{Source}
use Rattle.uplink_model.specs.Frames.{Antenna, uplink_frame_of, frames_behind, uplink_frames_from, uplink_message_frames}
use Rattle.uplink_model.specs.Messages.{frame_count, uplink_frames_before, uplink_messages_of as job_messages, number_behind}
use Rattle.uplink_laws.specs.Streams.{frame_for, message_frames_for, planned_frames, stream_frames_for}
use Rattle.uplink_laws.proofs.StreamLemmas.{frames_are_the_stream}
use Rattle.uplink_laws.specs.Flows.{uplink_bounds_of, uplink_flow_of}
use Rattle.uplink_laws.specs.Sent.{IsSendable}
use Rattle.uplink_laws.specs.Premise.{BothArrive, CommandsArrive, IsUplinkCopy, frames_of, jobs_of}
use Rattle.uplink_laws.proofs.FlowLemmas.{Here, below_at, here, leaves_at, pieces_at, sound, text_at}
use Rattle.uplink_laws.proofs.JobLemmas.{jobs_planned}
use Rattle.uplink_laws.proofs.PartLemmas.{message_number}
use Rattle.uplink_laws.proofs.ReadLemmas.{fragment_at, frame_read, size_is}
use Rattle.fh_base.specs.Members.{IsIn}
use Rattle.fh_base.proofs.MemberLemmas.{in_either, in_filter, of_filter, get_in, the_one}
use Rattle.fh_base.proofs.MadeLists.{in_each, in_map, of_each, of_map}

-- ---- each frame is of an endpoint

frame_endpoint : (c : Config) (antenna : Antenna) (earlier ms : List (Message UplinkJob)) (f : LinkFrame) → IsIn f (frames_behind c antenna earlier ms) → (e : EndpointConfig) × IsAt c.endpoints f.ep e
unfolding frames_behind uplink_message_frames
frame_endpoint c antenna earlier [] f m = absurd m
frame_endpoint c antenna earlier (x ∷ ms) f m = elim (in_either f (uplink_message_frames c antenna earlier x) (frames_behind c antenna (x ∷ earlier) ms) m) [
  | inl here ↦ go (slice_get c.endpoints x.first.ep) refl here
  | inr there ↦ frame_endpoint c antenna (x ∷ earlier) ms f there
]
  where
    go : (o : Option EndpointConfig) → slice_get c.endpoints x.first.ep ≡ o
        → IsIn f (option_map_or (λ e. uplink_frames_from c antenna e x (number_behind x.first.ep earlier) (uplink_frames_before c x.first earlier) 0 (frame_count c x)) o [])
        → (e : EndpointConfig) × IsAt c.endpoints f.ep e
    go None at i = absurd i
    go (Some e) at i =
        let number = number_behind x.first.ep earlier in
        let before = uplink_frames_before c x.first earlier in
        let w = of_each f 0 (frame_count c x) (λ k. uplink_frame_of c antenna e x number before k ∷ []) i in
        let is = the_one f (uplink_frame_of c antenna e x number before w.0) w.3 in
        (e, subst (λ (g : LinkFrame). IsAt c.endpoints g.ep e) (sym is) at)

-- ---- one arrival more

abbrev pub read_of : Config → Arrival → List Meeting
read_of c a = met_in Du c.endpoints a.at (whole_messages a.frame)

pub fragments_piece : (c : Config) (a : Arrival) (earlier : List Arrival) (e : EndpointConfig) (x : Fragment) → read_of c a ≡ Piece e x ∷ []
    → fragments (meetings Du c.endpoints (a ∷ earlier)) ≡ x ∷ fragments (meetings Du c.endpoints earlier)
unfolding meetings onto fragments
fragments_piece c a earlier e x h = ap (λ (ms : List Meeting). fragments (onto (meetings Du c.endpoints earlier) ms)) h

-- ---- what is sent for the commands that were received

module _ (c : Config) (lines : List PlanLine) (source : Source) (antenna : Antenna) (down : List Arrival) (s : IsSendable c lines source) (check : PassesCheck c.delays)
    (h : CommandsArrive c (planned c.endpoints lines) source down) where
  abbrev plan : List PlannedLine
  plan = planned c.endpoints lines

  abbrev stream_at : ℕ → EndpointConfig → List (Numbered Part)
  stream_at ep e = messages_of c plan UpData ep e

  frames_same : frames_of c antenna (jobs_of c down) ≡ planned_frames c antenna plan
  frames_same = ap (λ (js : List UplinkJob). frames_behind c antenna [] (job_messages c js)) ((jobs_planned c lines source down s check h).jobs_are end_of_time)

  -- a frame of a message
  pub record IsOf (f : LinkFrame) : Type 0 where
    pub e : EndpointConfig
    pub at : IsAt c.endpoints f.ep e
    pub n : Numbered Part
    pub there : IsIn n (stream_at f.ep e)
    pub sub : ℕ
    pub below : sub < frames_in c UpData n.message
    pub is : f ≡ frame_for c antenna f.ep e n sub

  pub frame_is : (f : LinkFrame) → IsIn f (frames_of c antenna (jobs_of c down)) → IsOf f
  frame_is f m =
      let e = frame_endpoint c antenna [] (job_messages c (jobs_of c down)) f m in
      let there : IsIn f (planned_frames c antenna plan) = subst (λ (fs : List LinkFrame). IsIn f fs) frames_same m in
      let own : IsIn f (filter (λ (g : LinkFrame). g.ep == f.ep) (planned_frames c antenna plan)) = in_filter (λ (g : LinkFrame). g.ep == f.ep) f (planned_frames c antenna plan) there (eq-eqb f.ep f.ep refl) in
      let of_stream : IsIn f (stream_frames_for c antenna plan f.ep e.0) = subst (λ (fs : List LinkFrame). IsIn f fs) (frames_are_the_stream c antenna lines f.ep e.0 e.1) own in
      let w = of_joined f (map (message_frames_for c antenna f.ep e.0) (stream_at f.ep e.0)) of_stream in
      let n = of_map (message_frames_for c antenna f.ep e.0) w.0 (stream_at f.ep e.0) w.1 in
      let k = of_each f 0 (frames_in c UpData n.0.message) (λ sub. frame_for c antenna f.ep e.0 n.0 sub ∷ []) (subst (λ (fs : List LinkFrame). IsIn f fs) n.2 w.2) in
      record {
        e = e.0;
        at = e.1;
        n = n.0;
        there = n.1;
        sub = k.0;
        below = (let b = k.2 in omega (arith, b));
        is = the_one f (frame_for c antenna f.ep e.0 n.0 k.0) k.3;
      }

  pub frame_there : (ep : ℕ) (e : EndpointConfig) (n : Numbered Part) (sub : ℕ) → IsAt c.endpoints ep e → IsIn n (stream_at ep e) → sub < frames_in c UpData n.message
      → IsIn (frame_for c antenna ep e n sub) (frames_of c antenna (jobs_of c down))
  frame_there ep e n sub at there below =
      let f = frame_for c antenna ep e n sub in
      let of_stream : IsIn f (stream_frames_for c antenna plan ep e) =
      in_joined f (message_frames_for c antenna ep e n) (map (message_frames_for c antenna ep e) (stream_at ep e))
      (in_map (message_frames_for c antenna ep e) n (stream_at ep e) there)
      (in_each f 0 (frames_in c UpData n.message) sub (λ k. frame_for c antenna ep e n k ∷ []) (omega arith) (omega (arith, below)) (inl refl)) in
      let own : IsIn f (filter (λ (g : LinkFrame). g.ep == ep) (planned_frames c antenna plan)) = subst (λ (fs : List LinkFrame). IsIn f fs) (sym (frames_are_the_stream c antenna lines ep e at)) of_stream in
      subst (λ (fs : List LinkFrame). IsIn f fs) (sym frames_same) (of_filter (λ (g : LinkFrame). g.ep == ep) f (planned_frames c antenna plan) own).0

-- ---- all that was received

module _ (c : Config) (lines : List PlanLine) (source : Source) (antenna : Antenna) (down up : List Arrival) (h : BothArrive c lines source antenna down up) where
  abbrev ps : List PlannedLine
  ps = planned c.endpoints lines

  abbrev IsSent : LinkFrame → Type 0
  IsSent f = IsOf c lines source antenna down h.sendable h.check h.down_arrive f

  abbrev fragment : ℕ → EndpointConfig → Numbered Part → ℕ → ℤ → Fragment
  fragment ep e n sub t = fragment_at c lines source h.sendable antenna h.can ep e n sub t

  -- an arrival: it is read as a fragment of a message, which left within T34 before it
  pub record Came (a : Arrival) : Type 0 where
    pub ep : ℕ
    pub e : EndpointConfig
    pub at : IsAt c.endpoints ep e
    pub n : Numbered Part
    pub there : IsIn n (messages_of c ps UpData ep e)
    pub sub : ℕ
    pub below : sub < frames_in c UpData n.message
    pub read : read_of c a ≡ Piece e (fragment ep e n sub a.at) ∷ []
    pub from : (sent_at c UpData n sub +ℤ ticks_of_ns c.delays.t34.min) ≤ℤ a.at
    pub to : a.at ≤ℤ (sent_at c UpData n sub +ℤ ticks_of_ns c.delays.t34.max)

  -- such a frame is read so
  read_as : (ep : ℕ) (e : EndpointConfig) (n : Numbered Part) (sub : ℕ) (a : Arrival) → IsAt c.endpoints ep e → IsIn n (messages_of c ps UpData ep e) → sub < frames_in c UpData n.message
      → a.frame ≡ (frame_for c antenna ep e n sub).frame → read_of c a ≡ Piece e (fragment ep e n sub a.at) ∷ []
  read_as ep e n sub a at there below bytes =
      ap (λ (bs : List ℕ). met_in Du c.endpoints a.at (whole_messages bs)) bytes ∙ frame_read c lines source h.sendable antenna h.can ep e n at there sub a.at below

  frame_came : (f : LinkFrame) (a : Arrival) → IsSent f → IsUplinkCopy c f a → Came a
  frame_came f a w copy =
      let at_is : f.at.0 ≡ sent_at c UpData w.n w.sub = ap (λ (g : LinkFrame). g.at.0) w.is in
      record {
        ep = f.ep;
        e = w.e;
        at = w.at;
        n = w.n;
        there = w.there;
        sub = w.sub;
        below = w.below;
        read = read_as f.ep w.e w.n w.sub a w.at w.there w.below (copy.bytes ∙ ap (λ (g : LinkFrame). g.frame) w.is);
        from = subst (λ t. (t +ℤ ticks_of_ns c.delays.t34.min) ≤ℤ a.at) at_is copy.from;
        to = subst (λ t. a.at ≤ℤ (t +ℤ ticks_of_ns c.delays.t34.max)) at_is copy.to;
      }

  pub came : (a : Arrival) → IsIn a up → Came a
  came a m = let w = h.up_arrive.came a m in frame_came w.0 a (frame_is c lines source antenna down h.sendable h.check h.down_arrive w.0 w.1) w.2

  -- ---- their fragments

  -- a fragment that was received is that of an arrival
  pub record Heard (arrivals : List Arrival) (x : Fragment) : Type 0 where
    pub a : Arrival
    pub there : IsIn a arrivals
    pub of : Came a
    pub is : x ≡ fragment of.ep of.e of.n of.sub a.at

  abbrev pub AllCame : List Arrival → Type 0
  AllCame arrivals = (a : Arrival) → IsIn a arrivals → Came a

  heard : (arrivals : List Arrival) → AllCame arrivals → (x : Fragment) → IsIn x (fragments (meetings Du c.endpoints arrivals)) → Heard arrivals x
  unfolding meetings fragments
  heard [] all x m = absurd m
  heard (a ∷ earlier) all x m =
      let w = all a (inl refl) in
      elim (subst (λ (xs : List Fragment). IsIn x xs) (fragments_piece c a earlier w.e (fragment w.ep w.e w.n w.sub a.at) w.read) m) [
        | inl here ↦ record { a = a; there = inl refl; of = w; is = here }
        | inr there ↦ (let y = heard earlier (λ b n. all b (inr n)) x there in record { a = y.a; there = inr y.there; of = y.of; is = y.is })
      ]

  told : (arrivals : List Arrival) → AllCame arrivals → (a : Arrival) (e : EndpointConfig) (x : Fragment) → IsIn a arrivals → read_of c a ≡ Piece e x ∷ []
      → IsIn x (fragments (meetings Du c.endpoints arrivals))
  told [] all a e x m r = absurd m
  told (b ∷ earlier) all a e x m r = elim m [
    | inl here ↦
        let r_b : read_of c b ≡ Piece e x ∷ [] = ap (read_of c) (sym here) ∙ r in
        subst (λ (xs : List Fragment). IsIn x xs) (sym (fragments_piece c b earlier e x r_b)) (inl refl)
    | inr there ↦
        let w = all b (inl refl) in
        subst (λ (xs : List Fragment). IsIn x xs) (sym (fragments_piece c b earlier w.e (fragment w.ep w.e w.n w.sub b.at) w.read))
        (inr (told earlier (λ y n. all y (inr n)) a e x there r))
  ]

  falling : (arrivals : List Arrival) → AllCame arrivals → AreInOrder arrivals → IsFalling (fragments (meetings Du c.endpoints arrivals))
  unfolding meetings fragments
  falling [] all order = tt
  falling (a ∷ earlier) all order =
      let w = all a (inl refl) in
      let before = λ (b : Arrival) (n : IsIn b earlier). all b (inr n) in
      subst IsFalling (sym (fragments_piece c a earlier w.e (fragment w.ep w.e w.n w.sub a.at) w.read)) (
        λ x m. (let y = heard earlier before x m in subst (λ (z : Fragment). z.at ≤ℤ a.at) (sym y.is) (order.0 y.a y.there)),
        falling earlier before order.1,
      )

  -- ---- as a flow

  abbrev pub flow : ℕ → Flow
  flow = uplink_flow_of c antenna ps

  abbrev pub b : Bounds
  b = uplink_bounds_of c

  abbrev pub IsHere : ℕ → ℕ → Type 0
  IsHere ep j = Here c lines h.sendable.config h.sendable.lines_fit h.sendable.valid h.check antenna ep j

  pub here_of : (ep : ℕ) (e : EndpointConfig) (n : Numbered Part) → IsAt c.endpoints ep e → IsIn n (messages_of c ps UpData ep e) → IsHere ep n.number
  here_of ep e n at there =
      let w = get_in n (messages_of c ps UpData ep e) there in
      let number = message_number c lines h.sendable.config h.sendable.lines_fit h.sendable.valid ep e w.0 n w.1 in
      record { e = e; at = at; n = n; got = ap (λ k. slice_get (messages_of c ps UpData ep e) k) number ∙ w.1; there = there; number = refl }

  pub here_message : (ep : ℕ) (e : EndpointConfig) (n : Numbered Part) (at : IsAt c.endpoints ep e) (there : IsIn n (messages_of c ps UpData ep e)) → (here_of ep e n at there).n ≡ n
  unfolding here_of
  here_message ep e n at there = refl

  pub sounds : (ep : ℕ) → IsSound (uplink_bounds_of c) (uplink_flow_of c antenna (planned c.endpoints lines) ep)
  sounds =
      sound c lines h.sendable.config h.sendable.lines_fit h.sendable.valid h.check antenna (λ ep j w.
      ap (λ (t : ℕ → List ℕ). size_to t (frames_in c UpData w.n.message)) (text_at c lines h.sendable.config h.sendable.lines_fit h.sendable.valid h.check antenna ep j w)
      ∙ size_is c lines source h.sendable antenna h.can ep w.e w.n w.at w.there)

  -- a copy of a frame is one of the flow's
  copy_of : (ep : ℕ) (e : EndpointConfig) (n : Numbered Part) (sub : ℕ) (t : ℤ) → IsAt c.endpoints ep e → IsIn n (messages_of c ps UpData ep e) → sub < frames_in c UpData n.message
      → (sent_at c UpData n sub +ℤ ticks_of_ns c.delays.t34.min) ≤ℤ t → t ≤ℤ (sent_at c UpData n sub +ℤ ticks_of_ns c.delays.t34.max)
      → IsFragmentCopy b (flow ep) n.number (fragment ep e n sub t)
  unfolding here_of
  copy_of ep e n sub t at there below from to =
      let k = here_of ep e n at there in
      let pieces = pieces_at c lines h.sendable.config h.sendable.lines_fit h.sendable.valid h.check antenna ep n.number k in
      let leaves = leaves_at c lines h.sendable.config h.sendable.lines_fit h.sendable.valid h.check antenna ep n.number sub k in
      let text = text_at c lines h.sendable.config h.sendable.lines_fit h.sendable.valid h.check antenna ep n.number k in
      record {
        below = below_at c lines h.sendable.config h.sendable.lines_fit h.sendable.valid h.check antenna ep n.number k;
        sub = subst (λ m. sub < m) (sym pieces) below;
        id = refl;
        last = ap (λ m. sub + 1 == m) (sym pieces);
        bytes = ap (λ (t : ℕ → List ℕ). t sub) (sym text);
        from = subst (λ s. (s +ℤ ticks_of_ns c.delays.t34.min) ≤ℤ t) (sym leaves) from;
        to = subst (λ s. t ≤ℤ (s +ℤ ticks_of_ns c.delays.t34.max)) (sym leaves) to;
      }

  abbrev pub all : List Fragment
  all = fragments (meetings Du c.endpoints up)

  flow_came : (x : Fragment) → IsIn x all → (j : ℕ) × IsFragmentCopy b (flow x.ep) j x
  flow_came x m =
      let y = heard up came x m in
      let w = y.of in
      (w.n.number, subst (λ (z : Fragment). IsFragmentCopy b (flow z.ep) w.n.number z) (sym y.is) (copy_of w.ep w.e w.n w.sub y.a.at w.at w.there w.below w.from w.to))

  flow_every : (ep j sub : ℕ) → j < (flow ep).count → sub < (flow ep).pieces j → (x : Fragment) × IsIn x all × (x.ep ≡ ep) × (x.sub ≡ sub) × IsFragmentCopy b (flow ep) j x
  flow_every ep j sub below less =
      let a = here c lines h.sendable.config h.sendable.lines_fit h.sendable.valid h.check antenna ep j below in
      let pieces = pieces_at c lines h.sendable.config h.sendable.lines_fit h.sendable.valid h.check antenna ep j a in
      let less_n : sub < frames_in c UpData a.n.message = subst (λ m. sub < m) pieces less in
      let f = frame_for c antenna ep a.e a.n sub in
      let got = h.up_arrive.every f (frame_there c lines source antenna down h.sendable h.check h.down_arrive ep a.e a.n sub a.at a.there less_n) in
      let copy = got.2 in (
        fragment ep a.e a.n sub got.0.at,
        told up came got.0 a.e (fragment ep a.e a.n sub got.0.at) got.1 (read_as ep a.e a.n sub got.0 a.at a.there less_n copy.bytes),
        refl,
        refl,
        subst (λ i. IsFragmentCopy b (flow ep) i (fragment ep a.e a.n sub got.0.at)) a.number (copy_of ep a.e a.n sub got.0.at a.at a.there less_n copy.from copy.to),
      )

  pub delivered : IsDelivered (uplink_bounds_of c) (uplink_flow_of c antenna (planned c.endpoints lines)) (fragments (meetings Du c.endpoints up))
  delivered = record { falling = falling up came h.up_arrive.in_order; came = flow_came; every = flow_every }
