-- The frames of a plan, as they are listed, are in their order.
use Rattle.std.proofs.Common.{◌≡◌, ℕ, ℤ, pos, zero, suc, ◌+◌, ◌<◌, ◌≤◌, ◌+ℤ◌, ◌≤ℤ◌, inl, inr, List, [], ◌∷◌, ◌++◌, map, length, refl, ap, sym, ◌∙◌, subst, arith}
use Rattle.std.specs.Ordering.{int_eq}
use Rattle.std.proofs.lemmas.Bool.Decides.{Decides-int_eq}
use Rattle.std.proofs.lemmas.Int.{ints}
use Rattle.window_config.specs.declared.config.Config.{Config}
use Rattle.window_config.specs.declared.endpoints.EndpointConfig.{EndpointConfig}
use Rattle.fh_base.specs.Lists.{each, each_tick}
use Rattle.plan_model.specs.Packs.{Message, Numbered, PartFields, numbered_behind, packs}
use Rattle.plan_model.specs.Sent.{SentFrame, endpoint_frames, frame_of, frames_from, message_frames, stream_frames}
use Rattle.plan_model.specs.Streams.{Part, frames_in, messages_of, most_parts, part_fields, parts_in}
use Rattle.plan_model.specs.declared.lines.PlannedLine.{PlannedLine}
use Rattle.plan_model.specs.declared.streams.Stream.{Stream}
use Rattle.plan_model.specs.declared.streams.Stream.TheVariants.{DownCommands, UpCommands, DownData}
use Rattle.plan_model.specs.SentOrder.{stream_place, IsBehind, at_time}
use Rattle.plan_model.proofs.SweptLists.{of_joined}
use Rattle.unit_model.specs.Terms.{joined}
use Rattle.fh_base.specs.Members.{IsIn}
use Rattle.fh_base.proofs.MemberLemmas.{in_either, of_filter, InOrder, order_join}
use Rattle.fh_base.proofs.MadeLists.{of_each, of_map}

-- ---- all frames, as they are listed

-- of one message
pub of_message : (c : Config) (stream : Stream) (ep : ℕ) (e : EndpointConfig) (n : Numbered Part) (f : SentFrame) → IsIn f (message_frames c stream ep e n)
    → (sub : ℕ) × (sub < frames_in c stream n.message) × (f ≡ frame_of c stream ep e n sub)
of_message c stream ep e n f m =
    let k = of_each f 0 (frames_in c stream n.message) (λ sub. frame_of c stream ep e n sub ∷ []) m in
    (k.0, (let h = k.2 in omega (arith, h)), elim k.3 [ inl x ↦ x | inr t ↦ absurd t ])

subs_kept : (c : Config) (stream : Stream) (ep : ℕ) (e : EndpointConfig) (n : Numbered Part) (from count : ℕ)
    → InOrder IsBehind (each from count (λ sub. frame_of c stream ep e n sub ∷ []))
unfolding each
subs_kept c stream ep e n from zero = tt
subs_kept c stream ep e n from (suc count) = (
  λ g m.
      (let k = of_each g (from + 1) count (λ sub. frame_of c stream ep e n sub ∷ []) m in
      let is : g ≡ frame_of c stream ep e n k.0 = elim k.3 [ inl x ↦ x | inr t ↦ absurd t ] in
      subst (IsBehind (frame_of c stream ep e n from)) (sym is) (inr (refl, inr (refl, inr (refl, (let low = k.1 in omega (arith, low))))))),
  subs_kept c stream ep e n (from + 1) count,
)

-- numbers rise from that of the first on
abbrev pub AreNumbered : ℕ → List (Numbered Part) → Type 0
AreNumbered k [] = Unit {0}
AreNumbered k (n ∷ ns) = (n.number ≡ k) × AreNumbered (k + 1) ns

numbers_behind : (f : PartFields Part) (frames : Message Part → ℕ) (earlier ms : List (Message Part)) (k : ℕ) → length earlier ≡ k → AreNumbered k (numbered_behind f frames earlier ms)
unfolding numbered_behind
numbers_behind f frames earlier [] k e = tt
numbers_behind f frames earlier (m ∷ ms) k e = (e, numbers_behind f frames (m ∷ earlier) ms (k + 1) (omega (arith, e)))

pub are_numbered : (c : Config) (ps : List PlannedLine) (stream : Stream) (ep : ℕ) (e : EndpointConfig) → AreNumbered 0 (messages_of c ps stream ep e)
unfolding messages_of
are_numbered c ps stream ep e = numbers_behind part_fields (frames_in c stream) [] (packs part_fields (most_parts c stream) (parts_in ps stream ep e)) 0 refl

number_from : (k : ℕ) (ns : List (Numbered Part)) (n : Numbered Part) → AreNumbered k ns → IsIn n ns → k ≤ n.number
number_from k [] n h m = absurd m
number_from k (x ∷ ns) n h m = elim m [
  | inl e ↦ (let a = h.0 in let b = ap (λ (y : Numbered Part). y.number) e in omega (arith, a, b))
  | inr t ↦ (let a = number_from (k + 1) ns n h.1 t in omega (arith, a))
]

module _ (c : Config) (ps : List PlannedLine) where
  -- of one stream
  pub record IsOfStream (stream : Stream) (ep : ℕ) (f : SentFrame) : Type 0 where
    pub ep_is : f.ep ≡ ep
    pub stream_is : f.stream ≡ stream

  pub of_messages : (stream : Stream) (ep : ℕ) (e : EndpointConfig) (ns : List (Numbered Part)) (f : SentFrame) → IsIn f (joined (map (message_frames c stream ep e) ns))
      → (n : Numbered Part) × IsIn n ns × IsIn f (message_frames c stream ep e n)
  of_messages stream ep e ns f m =
      let w = of_joined f (map (message_frames c stream ep e) ns) m in
      let n = of_map (message_frames c stream ep e) w.0 ns w.1 in
      (n.0, n.1, subst (λ (xs : List SentFrame). IsIn f xs) n.2 w.2)

  messages_kept : (stream : Stream) (ep : ℕ) (e : EndpointConfig) (k : ℕ) (ns : List (Numbered Part)) → AreNumbered k ns → InOrder IsBehind (joined (map (message_frames c stream ep e) ns))
  messages_kept stream ep e k [] h = tt
  messages_kept stream ep e k (n ∷ ns) h =
      order_join IsBehind (message_frames c stream ep e n) (joined (map (message_frames c stream ep e) ns)) (subs_kept c stream ep e n 0 (frames_in c stream n.message))
      (messages_kept stream ep e (k + 1) ns h.1) (λ f g m i.
      (let x = of_message c stream ep e n f m in
      let w = of_messages stream ep e ns g i in
      let y = of_message c stream ep e w.0 g w.2 in
      let low = number_from (k + 1) ns w.0 h.1 w.1 in
      let here = h.0 in
      let less : n.number < w.0.number = omega (arith, low, here) in
      subst (λ (z : SentFrame). IsBehind z g) (sym x.2) (subst (IsBehind (frame_of c stream ep e n x.0)) (sym y.2) (inr (refl, inr (refl, inl less))))))

  stream_kept : (stream : Stream) (ep : ℕ) (e : EndpointConfig) → InOrder IsBehind (stream_frames c ps stream ep e)
  stream_kept stream ep e = messages_kept stream ep e 0 (messages_of c ps stream ep e) (are_numbered c ps stream ep e)

  of_stream : (stream : Stream) (ep : ℕ) (e : EndpointConfig) (f : SentFrame) → IsIn f (stream_frames c ps stream ep e) → IsOfStream stream ep f
  of_stream stream ep e f m =
      let w = of_messages stream ep e (messages_of c ps stream ep e) f m in
      let x = of_message c stream ep e w.0 f w.2 in
      record { ep_is = ap (λ (z : SentFrame). z.ep) x.2; stream_is = ap (λ (z : SentFrame). z.stream) x.2 }

  streams_behind : (a b : Stream) (ep : ℕ) (f g : SentFrame) → stream_place a < stream_place b → IsOfStream a ep f → IsOfStream b ep g → IsBehind f g
  streams_behind a b ep f g h x y =
      inr (x.ep_is ∙ sym y.ep_is, inl (subst (λ (s : Stream). stream_place s < stream_place g.stream) (sym x.stream_is) (subst (λ (s : Stream). stream_place a < stream_place s) (sym y.stream_is) h)))

  endpoint_kept : (ep : ℕ) (e : EndpointConfig) → InOrder IsBehind (endpoint_frames c ps ep e)
  endpoint_kept ep e =
      let down = stream_frames c ps DownCommands ep e in
      let up = stream_frames c ps UpCommands ep e in
      let data_ = stream_frames c ps DownData ep e in
      order_join IsBehind down (up ++ data_) (stream_kept DownCommands ep e)
      (order_join IsBehind up data_ (stream_kept UpCommands ep e) (stream_kept DownData ep e) (λ f g m n.
      streams_behind UpCommands DownData ep f g (omega arith) (of_stream UpCommands ep e f m) (of_stream DownData ep e g n)))
      (λ f g m n. elim (in_either g up data_ n) [
        | inl l ↦ streams_behind DownCommands UpCommands ep f g (omega arith) (of_stream DownCommands ep e f m) (of_stream UpCommands ep e g l)
        | inr r ↦ streams_behind DownCommands DownData ep f g (omega arith) (of_stream DownCommands ep e f m) (of_stream DownData ep e g r)
      ])

  ep_of : (ep : ℕ) (e : EndpointConfig) (f : SentFrame) → IsIn f (endpoint_frames c ps ep e) → f.ep ≡ ep
  ep_of ep e f m = elim (in_either f (stream_frames c ps DownCommands ep e) (stream_frames c ps UpCommands ep e ++ stream_frames c ps DownData ep e) m) [
    | inl a ↦ (of_stream DownCommands ep e f a).ep_is
    | inr r ↦ elim (in_either f (stream_frames c ps UpCommands ep e) (stream_frames c ps DownData ep e) r) [
      | inl a ↦ (of_stream UpCommands ep e f a).ep_is
      | inr b ↦ (of_stream DownData ep e f b).ep_is
    ]
  ]

  ep_from : (ep : ℕ) (es : List EndpointConfig) (f : SentFrame) → IsIn f (frames_from c ps ep es) → ep ≤ f.ep
  unfolding frames_from
  ep_from ep [] f m = absurd m
  ep_from ep (e ∷ es) f m = elim (in_either f (endpoint_frames c ps ep e) (frames_from c ps (ep + 1) es) m) [
    | inl a ↦ (let x = ep_of ep e f a in omega (arith, x))
    | inr r ↦ (let x = ep_from (ep + 1) es f r in omega (arith, x))
  ]

  pub frames_kept : (ep : ℕ) (es : List EndpointConfig) → InOrder IsBehind (frames_from c ps ep es)
  unfolding frames_from
  frames_kept ep [] = tt
  frames_kept ep (e ∷ es) =
      order_join IsBehind (endpoint_frames c ps ep e) (frames_from c ps (ep + 1) es) (endpoint_kept ep e) (frames_kept (ep + 1) es) (λ f g m n.
      (let x = ep_of ep e f m in let y = ep_from (ep + 1) es g n in inl (omega (arith, x, y))))

-- ---- tick by tick

pub time_is : (xs : List SentFrame) (t : ℤ) (f : SentFrame) → IsIn f (at_time xs t) → f.at ≡ t
time_is xs t f m = (Decides-int_eq f.at t).0 (of_filter (λ (g : SentFrame). int_eq g.at t) f xs m).1

pub later_than : (xs : List SentFrame) (from : ℤ) (count : ℕ) (f : SentFrame) → IsIn f (each_tick from count (at_time xs)) → from ≤ℤ f.at
unfolding each_tick
later_than xs from zero f m = absurd m
later_than xs from (suc n) f m = elim (in_either f (at_time xs from) (each_tick (from +ℤ pos 1) n (at_time xs)) m) [
  | inl l ↦ (let e = time_is xs from f l in omega (arith, ints, e))
  | inr r ↦ (let h = later_than xs (from +ℤ pos 1) n f r in omega (arith, ints, h))
]
