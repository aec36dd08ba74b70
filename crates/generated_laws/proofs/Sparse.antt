-- The messages of a sparse plan leave far apart.
use Rattle.std.proofs.Common.{◌≡◌, ℕ, ℤ, pos, zero, suc, ◌+◌, ◌*◌, ◌+ℤ◌, ◌-ℤ◌, ◌≤ℤ◌, ◌<ℤ◌, min, ◌⊎◌, inl, inr, Bool, true, false, ◌&&◌, ◌==◌, int_le, nat_le, if◌then◌else◌, List, [], ◌∷◌, map, filter, drop, Option, Some, None, refl, ap, ap₂, sym, ◌∙◌, subst, arith}
use Rattle.std.specs.Prelude.{⊤}
use Rattle.std.specs.Int.{int_gap}
use Rattle.std.proofs.lemmas.Bool.{and_parts, cases_Bool, eqb-true}
use Rattle.std.proofs.lemmas.Int.{ints}
use Rattle.std.proofs.lemmas.List.{drop-drop}
use Rattle.fh_base.specs.Air.{air_of}
use Rattle.fh_base.specs.declared.numerology.Numerology.{Numerology}
use Rattle.fh_base.specs.declared.values.Slot.{Slot}
use Rattle.fh_base.proofs.Orders.{le_true, not_true}
use Rattle.window_config.specs.declared.config.Config.{Config}
use Rattle.window_config.specs.declared.endpoints.EndpointConfig.{EndpointConfig}
use Rattle.unit_model.specs.Claims.{same_slot}
use Rattle.unit_model.specs.Commands.{is_uplink}
use Rattle.fh_base.specs.Lists.{AreRelated, in_order, put_in}
use Rattle.unit_model.specs.Radiated.{first_clock}
use Rattle.unit_model.specs.Terms.{MESSAGE_BYTES}
use Rattle.unit_model.specs.Times.{end_of_time}
use Rattle.unit_model.specs.declared.allocations.Allocation.{Allocation}
use Rattle.unit_model.proofs.ClaimLemmas.{same_slot_is}
use Rattle.plan_model.specs.Dense.{dense_from, dense_in, down_distance, first_near, is_near, lesser, sending_of, sendings, up_distance}
use Rattle.plan_model.specs.Departures.{departures_of, start_of_part}
use Rattle.plan_model.specs.Lines.{line_allocation}
use Rattle.plan_model.specs.Packs.{Message, alone, frames_before, numbered, numbered_behind, packs, packs_behind, same_symbol, size_of, with_part}
use Rattle.plan_model.specs.Streams.{Part, begins_in, frames_in, has_part, in_stream_order, lasts_in, messages_of, most_parts, part_fields, part_in, parts_in, symbol_parts}
use Rattle.plan_model.specs.declared.dense.Dense.{Dense}
use Rattle.plan_model.specs.declared.dense.Sending.{Sending}
use Rattle.plan_model.specs.declared.lines.PlannedLine.{PlannedLine}
use Rattle.plan_model.specs.declared.streams.Stream.{Stream}
use Rattle.plan_model.specs.declared.streams.Stream.TheVariants.{DownCommands, UpCommands, DownData, UpData}
use Rattle.generated_laws.specs.Sparse.{AreAlone, HasRoom, IsSpaced, SparsePlansAreNotDense}
use Rattle.generated_laws.proofs.Rising.{AreSpaced, all_spaced}
use Rattle.generated_laws.proofs.Told.{IsTold}
use Rattle.fh_base.specs.Members.{IsIn}
use Rattle.fh_base.proofs.MemberLemmas.{all_map, filter_none}

-- ---- the part of a symbol

-- the endpoint and the slot of a line that has a part in a symbol
pub named : (stream : Stream) (ep : ℕ) (slot : Slot) (symbol : ℕ) (a : Allocation) → has_part stream ep slot symbol a ≡ true → (a.ep ≡ ep) × (a.slot ≡ slot)
named DownCommands ep slot symbol a h =
    let b = and_parts a.down _ h in
    let c = and_parts (a.ep == ep) _ b.1 in (eqb-true a.ep ep c.0, same_slot_is a.slot slot (and_parts (same_slot a.slot slot) _ c.1).0)
named UpCommands ep slot symbol a h =
    let b = and_parts _ (begins_in ep slot symbol a) h in
    let c = and_parts (a.ep == ep) _ b.1 in (eqb-true a.ep ep c.0, same_slot_is a.slot slot (and_parts (same_slot a.slot slot) _ c.1).0)
named DownData ep slot symbol a h =
    let b = and_parts _ (lasts_in ep slot symbol a) h in
    let c = and_parts (a.ep == ep) _ b.1 in (eqb-true a.ep ep c.0, same_slot_is a.slot slot (and_parts (same_slot a.slot slot) _ c.1).0)
named UpData ep slot symbol a h =
    let b = and_parts (is_uplink a) _ h in
    let c = and_parts (a.ep == ep) _ b.1 in (eqb-true a.ep ep c.0, same_slot_is a.slot slot (and_parts (same_slot a.slot slot) _ c.1).0)

pub record TheOne {X : Type 0} (t : X → Bool) (xs : List X) : Type 0 where
  pub x : X
  pub there : IsIn x xs
  pub is : t x ≡ true
  pub all : filter t xs ≡ x ∷ []

-- of which no two pass a test, one passes or none
one_passes : {X : Type 0} (t : X → Bool) (xs : List X) → AreRelated (λ x y. t x ≡ true → t y ≡ true → ⊥) xs → (filter t xs ≡ []) ⊎ TheOne t xs
one_passes t [] h = inl refl
one_passes {X = X} t (x ∷ xs) h = go (t x) refl (one_passes t xs h.1)
  where
    go : (b : Bool) → t x ≡ b → (filter t xs ≡ []) ⊎ TheOne t xs → (filter t (x ∷ xs) ≡ []) ⊎ TheOne t (x ∷ xs)
    go true e later = inr (record {
      x = x;
      there = inl refl;
      is = e;
      all = ap (λ (b : Bool). let ys : List X = if b then x ∷ filter t xs else filter t xs in ys) e
          ∙ ap (λ (ys : List X). x ∷ ys) (filter_none t xs (all_map (λ y. t x ≡ true → t y ≡ true → ⊥) (λ y. t y ≡ false) (λ y f. not_true (t y) (f e)) xs h.0));
    })
    go false e later = elim later [
      | inl none ↦ inl (ap (λ (b : Bool). let ys : List X = if b then x ∷ filter t xs else filter t xs in ys) e ∙ none)
      | inr w ↦ inr (record { x = w.x; there = inr w.there; is = w.is; all = ap (λ (b : Bool). let ys : List X = if b then x ∷ filter t xs else filter t xs in ys) e ∙ w.all })
    ]

related_at : {X : Type 0} (R S : X → X → Type 0) → ((x y : X) → R x y → S x y) → (xs : List X) → AreRelated R xs → AreRelated S xs
related_at R S f [] h = tt
related_at R S f (x ∷ xs) h = (all_map (R x) (S x) (f x) xs h.0, related_at R S f xs h.1)

one_in_order : (stream : Stream) (p : PlannedLine) → in_stream_order stream (p ∷ []) ≡ p ∷ []
unfolding in_order put_in
one_in_order DownCommands p = refl
one_in_order UpCommands p = refl
one_in_order DownData p = refl
one_in_order UpData p = refl

none_in_order : (stream : Stream) → in_stream_order stream [] ≡ []
unfolding in_order
none_in_order DownCommands = refl
none_in_order UpCommands = refl
none_in_order DownData = refl
none_in_order UpData = refl

symbols_told : (lines : List PlannedLine) (stream : Stream) (ep : ℕ) (n : Numerology) → AreAlone stream lines → ((p : PlannedLine) → IsIn p lines → p.endpoint.numerology ≡ n)
    → IsTold (symbol_parts stream lines ep) n
unfolding symbol_parts
symbols_told lines stream ep n alone_are placed slot symbol =
    let t = λ (p : PlannedLine). has_part stream ep slot symbol (line_allocation p) in
    elim (one_passes t lines (related_at _ (λ p q. t p ≡ true → t q ≡ true → ⊥) (λ p q f. f ep slot symbol) lines alone_are)) [
      | inl none ↦ inl (ap (λ (ps : List PlannedLine). map (part_in symbol) (in_stream_order stream ps)) none ∙ ap (λ (ps : List PlannedLine). map (part_in symbol) ps) (none_in_order stream))
      | inr w ↦ inr (
        part_in symbol w.x,
        ap (λ (ps : List PlannedLine). map (part_in symbol) (in_stream_order stream ps)) w.all ∙ ap (λ (ps : List PlannedLine). map (part_in symbol) ps) (one_in_order stream w.x),
        ap₂ (λ (m : Numerology) (s : Slot). air_of m s symbol) (placed w.x w.there) (named stream ep slot symbol (line_allocation w.x) w.is).1,
      )
    ]

-- ---- one part a message

and_false : (a b : Bool) → (a && (true && (false && b))) ≡ false
and_false true b = refl
and_false false b = refl

alone_behind : (p : Part) (ps : List Part) → packs_behind part_fields 1 (alone p) ps ≡ alone p ∷ map alone ps
unfolding packs_behind
alone_behind p [] = refl
alone_behind p (q ∷ ps) =
    ap (λ (b : Bool). let ms : List (Message Part) = if b then packs_behind part_fields 1 (with_part (alone p) q) ps else alone p ∷ packs_behind part_fields 1 (alone q) ps in ms)
    (and_false (same_symbol part_fields p q) (nat_le (size_of part_fields (alone p) + part_fields.size q) MESSAGE_BYTES))
    ∙ ap (λ (ms : List (Message Part)). alone p ∷ ms) (alone_behind q ps)

pub each_alone : (ps : List Part) → packs part_fields 1 ps ≡ map alone ps
each_alone [] = refl
each_alone (p ∷ ps) = alone_behind p ps

one_part : (c : Config) (stream : Stream) → c.pack ≡ 1 → most_parts c stream ≡ 1
one_part c DownCommands h = refl
one_part c UpCommands h = refl
one_part c DownData h = h
one_part c UpData h = h

-- ---- when they leave

-- each leaves in its symbol's window, and the symbols start far apart
abbrev pub AreTimed : ℤ → ℕ → ℕ → ℤ → List Sending → Type 0
AreTimed from spread least low [] = ⊤
AreTimed from spread least low (s ∷ ss) =
    (z : ℤ) × (low ≤ℤ z) × ((z +ℤ from) ≤ℤ s.at.0) × (s.at.0 ≤ℤ ((z +ℤ from) +ℤ pos spread)) × AreTimed from spread least (z +ℤ pos least) ss

at_least : (s f : ℤ) (w : ℕ) → (s +ℤ f) ≤ℤ ((s +ℤ f) +ℤ pos w)
at_least s f w = omega (arith, ints)

at_most : (s f : ℤ) (x spread : ℕ) → ((s +ℤ f) +ℤ pos (min x spread)) ≤ℤ ((s +ℤ f) +ℤ pos spread)
at_most s f x spread = omega (arith, ints)

timed : (c : Config) (stream : Stream) (least : ℕ) (low : ℤ) (earlier : List (Message Part)) (xs : List Part) → AreSpaced least low xs
    → AreTimed (departures_of c stream).from.0 (departures_of c stream).spread least low (map (sending_of c stream) (numbered_behind part_fields (frames_in c stream) earlier (map alone xs)))
unfolding numbered_behind
timed c stream least low earlier [] h = tt
timed c stream least low earlier (x ∷ xs) h =
    let d = departures_of c stream in
    let before = (frames_before part_fields (frames_in c stream) (alone x) earlier + 0) * d.gap in (
      start_of_part x,
      h.0,
      at_least (start_of_part x) d.from.0 (min before d.spread),
      at_most (start_of_part x) d.from.0 before d.spread,
      timed c stream least (start_of_part x +ℤ pos least) (alone x ∷ earlier) xs h.1,
    )

-- ---- none is near

module _ (from : ℤ) (spread least : ℕ) where
  no_later : (a b : ℤ) (ss : List Sending) → a ≤ℤ b → AreTimed from spread least b ss → AreTimed from spread least a ss
  no_later a b [] h t = tt
  no_later a b (s ∷ ss) h t = (let k = t.1 in (t.0, sooner a b t.0 h k, t.2, t.3, t.4))
    where
      sooner : (a b z : ℤ) → a ≤ℤ b → b ≤ℤ z → a ≤ℤ z
      sooner a b z h k = omega (arith, ints, h, k)

  none_dropped : (low : ℤ) → (low +ℤ pos (0 * least)) ≤ℤ low
  none_dropped low = omega (arith, ints)

  one_dropped : (low z : ℤ) (k : ℕ) → low ≤ℤ z → (low +ℤ pos (suc k * least)) ≤ℤ ((z +ℤ pos least) +ℤ pos (k * least))
  one_dropped low z k h = (let e : suc k * least ≡ least + k * least = grind arith in omega (arith, ints, h, e))

  dropped : (k : ℕ) (low : ℤ) (ss : List Sending) → AreTimed from spread least low ss → AreTimed from spread least (low +ℤ pos (k * least)) (drop k ss)
  dropped zero low ss t = no_later (low +ℤ pos (0 * least)) low ss (none_dropped low) t
  dropped (suc k) low [] t = tt
  dropped (suc k) low (s ∷ ss) t =
      no_later (low +ℤ pos (suc k * least)) ((t.0 +ℤ pos least) +ℤ pos (k * least)) (drop k ss) (one_dropped low t.0 k t.1) (dropped k (t.0 +ℤ pos least) ss t.4)

  module _ (distance : ℤ) (m : ℕ) (room : (distance +ℤ pos spread) <ℤ pos (suc m * least)) where
    too_far : (a b z y : ℤ) → a ≤ℤ ((z +ℤ from) +ℤ pos spread) → ((z +ℤ pos least) +ℤ pos (m * least)) ≤ℤ y → (y +ℤ from) ≤ℤ b → (b -ℤ a) ≤ℤ distance → ⊥
    too_far a b z y h k l near = (let e : suc m * least ≡ least + m * least = grind arith in let r = room in omega (arith, ints, h, k, l, near, e, r))

    far : (a b z y : ℤ) → a ≤ℤ ((z +ℤ from) +ℤ pos spread) → ((z +ℤ pos least) +ℤ pos (m * least)) ≤ℤ y → (y +ℤ from) ≤ℤ b → is_near distance a b ≡ false
    far a b z y h k l = elim (cases_Bool (int_le (b -ℤ a) distance)) [
      | inl near ↦ absurd (too_far a b z y h k l (le_true (b -ℤ a) distance near))
      | inr other ↦ ap (λ t. int_le (a -ℤ b) distance && t) other ∙ neither (int_le (a -ℤ b) distance)
    ]
      where
        neither : (t : Bool) → (t && false) ≡ false
        neither true = refl
        neither false = refl

    none_near : (number : ℕ) (low : ℤ) (ss : List Sending) → AreTimed from spread least low ss → first_near distance number ss (drop (suc m) ss) ≡ None
    unfolding first_near
    none_near number low [] t = refl
    none_near number low (s ∷ ss) t = go (drop m ss) refl (dropped m (t.0 +ℤ pos least) ss t.4) (none_near (number + 1) (t.0 +ℤ pos least) ss t.4)
      where
        go : (ys : List Sending) → drop m ss ≡ ys → AreTimed from spread least ((t.0 +ℤ pos least) +ℤ pos (m * least)) ys → first_near distance (number + 1) ss (drop (suc m) ss) ≡ None
            → first_near distance number (s ∷ ss) ys ≡ None
        go [] e u later = refl
        go (y ∷ ys) e u later =
            let number_is : m + 1 ≡ suc m = omega arith in
            let tail : ys ≡ drop (suc m) ss = ap (drop 1) (sym e) ∙ drop-drop 1 m ss ∙ ap (λ k. drop k ss) number_is in
            ap (λ (b : Bool). let o : Option Dense = if b then Some (record { number = number; line = y.line }) else first_near distance (number + 1) ss ys in o)
            (far s.at.0 y.at.0 t.0 u.0 t.3 u.1 u.2)
            ∙ ap (first_near distance (number + 1) ss) tail ∙ later

-- ---- a stream, and all

no_time_yet : (t : ℤ) → first_clock ≤ℤ t → t <ℤ first_clock → ⊥
no_time_yet t h k = omega (arith, ints, h, k)

module _ (c : Config) (lines : List PlannedLine) (least : ℕ) (single : c.pack ≡ 1) where
  parts_spaced : (stream : Stream) (ep : ℕ) (e : EndpointConfig) → IsSpaced e.numerology least → AreAlone stream lines → ((p : PlannedLine) → IsIn p lines → p.endpoint.numerology ≡ e.numerology)
      → AreSpaced least first_clock (parts_in lines stream ep e)
  unfolding parts_in
  parts_spaced stream ep e spaced alone_are placed =
      all_spaced (symbol_parts stream lines ep) e least spaced (symbols_told lines stream ep e.numerology alone_are placed)
      first_clock (int_gap first_clock (end_of_time +ℤ pos 1)) first_clock (λ t h k. absurd (no_time_yet t h k))

  are_timed : (stream : Stream) (ep : ℕ) (e : EndpointConfig) → IsSpaced e.numerology least → AreAlone stream lines → ((p : PlannedLine) → IsIn p lines → p.endpoint.numerology ≡ e.numerology)
      → AreTimed (departures_of c stream).from.0 (departures_of c stream).spread least first_clock (sendings c lines stream ep e)
  unfolding messages_of
  are_timed stream ep e spaced alone_are placed =
      let xs = parts_in lines stream ep e in
      subst (λ (ms : List (Message Part)). AreTimed (departures_of c stream).from.0 (departures_of c stream).spread least first_clock (map (sending_of c stream) (numbered part_fields (frames_in c stream) ms)))
      (sym (ap (λ k. packs part_fields k xs) (one_part c stream single) ∙ each_alone xs))
      (timed c stream least first_clock [] xs (parts_spaced stream ep e spaced alone_are placed))

  stream_apart : (stream : Stream) (distance : ℤ) → HasRoom c stream least distance → AreAlone stream lines → (ep : ℕ) (e : EndpointConfig) → IsSpaced e.numerology least
      → ((p : PlannedLine) → IsIn p lines → p.endpoint.numerology ≡ e.numerology) → dense_in distance (sendings c lines stream ep e) ≡ None
  stream_apart stream distance room alone_are ep e spaced placed =
      none_near (departures_of c stream).from.0 (departures_of c stream).spread least distance 255 room 256 first_clock (sendings c lines stream ep e) (are_timed stream ep e spaced alone_are placed)

  none_from : (stream : Stream) (distance : ℤ) → HasRoom c stream least distance → AreAlone stream lines → (ep : ℕ) (es : List EndpointConfig)
      → ((e : EndpointConfig) → IsIn e es → IsSpaced e.numerology least)
      → ((e : EndpointConfig) → IsIn e es → (p : PlannedLine) → IsIn p lines → p.endpoint.numerology ≡ e.numerology)
      → dense_from c lines stream distance ep es ≡ None
  unfolding dense_from
  none_from stream distance room alone_are ep [] spaced placed = refl
  none_from stream distance room alone_are ep (e ∷ es) spaced placed =
      ap₂ (λ (x y : Option Dense). lesser x y) (stream_apart stream distance room alone_are ep e (spaced e (inl refl)) (placed e (inl refl)))
      (none_from stream distance room alone_are (ep + 1) es (λ f m. spaced f (inr m)) (λ f m. placed f (inr m)))

pub not_dense : SparsePlansAreNotDense
not_dense c lines least h =
    ap₂ (λ (x y : Option Dense). lesser x y)
    (none_from c lines least h.single DownData (down_distance c.delays) h.down_room h.down 0 c.endpoints h.spaced h.placed)
    (none_from c lines least h.single UpData (up_distance c.delays) h.up_room h.up 0 c.endpoints h.spaced h.placed)
