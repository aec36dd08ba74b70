-- A valid plan sends fewer than 2 ^ 40 frames.
use Rattle.std.proofs.Common.{◌≡◌, ℕ, ℤ, pos, zero, suc, ◌+◌, ◌*◌, ◌^◌, ◌<◌, ◌≤◌, ◌+ℤ◌, inl, inr, Bool, true, false, if◌then◌else◌, List, [], ◌∷◌, ◌++◌, length, map, length-append, refl, ap, sym, ◌∙◌, subst, arith}
use Rattle.std.specs.Cmp.{IsStrictWeakOrder}
use Rattle.std.specs.Int.{int_gap}
use Rattle.std.specs.List.Sorted.{IsStableBy, ties}
use Rattle.std.specs.Ordering.{int_eq}
use Rattle.std.specs.Prelude.{All}
use Rattle.std.proofs.lemmas.Bool.Decides.{Decides-int_eq}
use Rattle.std.proofs.lemmas.Int.{ints}
use Rattle.std.proofs.lemmas.List.{length-map}
use Rattle.std.proofs.lemmas.Nat.{mul-le}
use Rattle.std.proofs.lemmas.List.Elements.{All-head, All-tail}
use Rattle.fh_base.specs.Lists.{each_tick, in_order, put_in}
use Rattle.unit_model.specs.Proper.{IsAt}
use Rattle.unit_model.specs.Radiated.{first_clock}
use Rattle.unit_model.specs.Times.{end_of_time}
use Rattle.window_config.specs.Configs.{IsConfig}
use Rattle.window_config.specs.declared.config.Config.{Config}
use Rattle.window_config.specs.declared.endpoints.EndpointConfig.{EndpointConfig}
use Rattle.window_config.specs.declared.plan.TheConstants.{PLAN_LINES}
use Rattle.plan_model.specs.Packs.{Message, PartFields, alone, numbered_behind, packs, packs_behind, takes, with_part}
use Rattle.plan_model.specs.Sent.{SentFrame, frames_from, sent}
use Rattle.plan_model.specs.Streams.{frames_in, messages_of, most_parts, part_fields, parts_in}
use Rattle.plan_model.specs.declared.lines.PlannedLine.{PlannedLine}
use Rattle.plan_model.specs.declared.streams.Stream.{Stream}
use Rattle.plan_model.specs.declared.streams.Stream.TheVariants.{DownCommands, UpCommands, DownData}
use Rattle.plan_model.proofs.TickLemmas.{int_cases, ticks_same}
use Rattle.schedule_laws.specs.PlacedLines.{HasEndpoint, ArePlaced}
use Rattle.du_scheduler.specs.Parts.{listed, part_first, timed}
use Rattle.fh_base.proofs.OrderedLemmas.{in_order_keeps, in_order_ordered}
use Rattle.du_scheduler.proofs.PlanPartLemmas.{few_parts, part_ranks, parts_are}
use Rattle.schedule_laws.specs.TabledPlans.{IsTabledPlan}
use Rattle.schedule_laws.proofs.TabledLemmas.{has_endpoint, placed, short}
use Rattle.du_scheduler.specs.Turns.{IsRun, rest_of, turns}
use Rattle.du_scheduler.specs.declared.turns.Run.{Run}
use Rattle.du_scheduler.specs.Runs.{endpoint_runs, gap_ticks, rests_of, run_of, runs_from, runs_of, stream_runs, turn_of}
use Rattle.plan_model.specs.SentOrder.{at_time}
use Rattle.du_scheduler.proofs.ProperLemmas.{messages_are_runs}
use Rattle.du_scheduler.proofs.RunLemmas.{runs_are}
use Rattle.why_lines.proofs.OrderLemmas.{tied_apart}
use Rattle.fh_base.proofs.Orders.{int_below}

-- ---- going over all ticks finds no frame twice

one_tick : (x : SentFrame) (xs : List SentFrame) (from : ℤ) (count : ℕ) → length (each_tick from count (at_time (x ∷ xs))) ≤ suc (length (each_tick from count (at_time xs)))
unfolding each_tick
one_tick x xs from zero = omega arith
one_tick x xs from (suc n) = elim (int_cases x.at from) [
  | inl e ↦
      let here : int_eq x.at from ≡ true = (Decides-int_eq x.at from).1 e in
      let rest : each_tick (from +ℤ pos 1) n (at_time (x ∷ xs)) ≡ each_tick (from +ℤ pos 1) n (at_time xs) =
      ticks_same (from +ℤ pos 1) n (at_time (x ∷ xs)) (at_time xs) (λ k le. let other = int_below x.at k (omega (arith, ints)) in rw other refl) in
      let same = ap (λ (fs : List SentFrame). length (at_time xs from ++ fs)) rest in
      rw here (omega (arith, same))
  | inr ne ↦
      let later = one_tick x xs (from +ℤ pos 1) n in
      let a = length-append (at_time xs from) (each_tick (from +ℤ pos 1) n (at_time (x ∷ xs))) in
      let b = length-append (at_time xs from) (each_tick (from +ℤ pos 1) n (at_time xs)) in
      rw ne (omega (arith, later, a, b))
]

no_ticks : (from : ℤ) (count : ℕ) → length (each_tick from count (at_time [])) ≡ 0
unfolding each_tick
no_ticks from zero = refl
no_ticks from (suc n) = no_ticks (from +ℤ pos 1) n

ticks_few : (xs : List SentFrame) (from : ℤ) (count : ℕ) → length (each_tick from count (at_time xs)) ≤ length xs
ticks_few [] from count = let none = no_ticks from count in omega (arith, none)
ticks_few (x ∷ xs) from count =
    let one = one_tick x xs from count in
    let rest = ticks_few xs from count in
    omega (arith, one, rest)

-- ---- a symbol's parts are listed line by line

put_long : {X : Type 0} (below : X → X → Bool) (x : X) (xs : List X) → length (put_in below x xs) ≡ suc (length xs)
unfolding put_in
put_long below x [] = refl
put_long {X = X} below x (y ∷ ys) = go (below y x) (put_long below x ys)
  where
    go : (b : Bool) → length (put_in below x ys) ≡ suc (length ys) → length (let zs : List X = if b then y ∷ put_in below x ys else x ∷ y ∷ ys in zs) ≡ suc (suc (length ys))
    go true r = ap suc r
    go false r = refl

order_long : {X : Type 0} (below : X → X → Bool) (xs : List X) → length (in_order below xs) ≡ length xs
unfolding in_order
order_long below [] = refl
order_long below (x ∷ xs) = put_long below x (in_order below xs) ∙ ap suc (order_long below xs)

order_stable : {X : Type 0} (lt : X → X → Bool) → IsStrictWeakOrder lt → (xs : List X) → IsStableBy lt xs (in_order lt xs)
order_stable lt o xs = λ x. in_order_keeps lt (ties lt x) (λ a b ta tb. tied_apart lt o x a b ta tb) xs

parts_few : (stream : Stream) (ep : ℕ) (e : EndpointConfig) (ps : List PlannedLine) → ArePlaced ps → HasEndpoint ps ep e → length (parts_in ps stream ep e) ≤ 15 * length ps
parts_few stream ep e ps are has =
    let xs = map (timed stream) (listed stream ep ps) in
    let ys = in_order part_first xs in
    let is = parts_are stream e ep ps ys (order_stable part_first part_ranks xs) (in_order_ordered part_first part_ranks xs) are has in
    let few = few_parts stream ep ps xs ys refl (order_long part_first xs) are in
    let same : length ys ≡ length (parts_in ps stream ep e) = ap length is ∙ length-map (parts_in ps stream ep e) (timed stream) in
    omega (arith, few, same)

-- ---- each message has a part

packs_few_behind : {P : Type 0} (f : PartFields P) (most : ℕ) (m : Message P) (ps : List P) → length (packs_behind f most m ps) ≤ suc (length ps)
unfolding packs_behind
packs_few_behind f most m [] = omega arith
packs_few_behind {P = P} f most m (p ∷ ps) = go (takes f most m p) (packs_few_behind f most (with_part m p) ps) (packs_few_behind f most (alone p) ps)
  where
    go : (t : Bool) → length (packs_behind f most (with_part m p) ps) ≤ suc (length ps) → length (packs_behind f most (alone p) ps) ≤ suc (length ps)
        → length (let ms : List (Message P) = if t then packs_behind f most (with_part m p) ps else m ∷ packs_behind f most (alone p) ps in ms) ≤ suc (suc (length ps))
    go true taken begun = omega (arith, taken)
    go false taken begun = omega (arith, begun)

packs_few : {P : Type 0} (f : PartFields P) (most : ℕ) (ps : List P) → length (packs f most ps) ≤ length ps
packs_few f most [] = omega arith
packs_few f most (p ∷ ps) = packs_few_behind f most (alone p) ps

numbers_few : {P : Type 0} (f : PartFields P) (frames : Message P → ℕ) (earlier ms : List (Message P)) → length (numbered_behind f frames earlier ms) ≡ length ms
unfolding numbered_behind
numbers_few f frames earlier [] = refl
numbers_few f frames earlier (m ∷ ms) = ap suc (numbers_few f frames (m ∷ earlier) ms)

messages_few : (c : Config) (stream : Stream) (ep : ℕ) (e : EndpointConfig) (ps : List PlannedLine) → ArePlaced ps → HasEndpoint ps ep e → length (messages_of c ps stream ep e) ≤ 15 * length ps
unfolding messages_of
messages_few c stream ep e ps are has =
    let parts = parts_in ps stream ep e in
    let numbers = numbers_few part_fields (frames_in c stream) [] (packs part_fields (most_parts c stream) parts) in
    let few = packs_few part_fields (most_parts c stream) parts in
    let most = parts_few stream ep e ps are has in
    omega (arith, numbers, few, most)

-- ---- of all endpoints

runs_few : (c : Config) (stream : Stream) (ep : ℕ) (e : EndpointConfig) (ps : List PlannedLine) → ArePlaced ps → HasEndpoint ps ep e → length (stream_runs c ps stream ep e) ≤ 15 * length ps
runs_few c stream ep e ps are has =
    let few = messages_few c stream ep e ps are has in
    let same = length-map (messages_of c ps stream ep e) (run_of c stream ep) in
    omega (arith, few, same)

endpoint_few : (c : Config) (ep : ℕ) (e : EndpointConfig) (ps : List PlannedLine) → ArePlaced ps → HasEndpoint ps ep e → length (endpoint_runs c ps ep e) ≤ 45 * length ps
endpoint_few c ep e ps are has =
    let down = runs_few c DownCommands ep e ps are has in
    let up = runs_few c UpCommands ep e ps are has in
    let here = runs_few c DownData ep e ps are has in
    let a = length-append (stream_runs c ps DownCommands ep e) (stream_runs c ps UpCommands ep e ++ stream_runs c ps DownData ep e) in
    let b = length-append (stream_runs c ps UpCommands ep e) (stream_runs c ps DownData ep e) in
    omega (arith, down, up, here, a, b)

one_endpoint : (n k all first rest : ℕ) → all ≡ first + rest → first ≤ 45 * n → rest ≤ k * (45 * n) → all ≤ suc k * (45 * n)
one_endpoint n k all first rest sum a b =
    let one = one_more k (45 * n) in
    omega (arith, sum, a, b, one)
  where
    one_more : (i m : ℕ) → suc i * m ≡ m + i * m
    one_more i m = omega arith

all_few : (c : Config) (start : ℕ) (es : List EndpointConfig) (ps : List PlannedLine) → ArePlaced ps → ((i : ℕ) (e : EndpointConfig) → IsAt es i e → HasEndpoint ps (start + i) e)
    → length (runs_from c ps start es) ≤ length es * (45 * length ps)
unfolding runs_from
all_few c start [] ps are has = omega arith
all_few c start (e ∷ es) ps are has =
    let here : start + 0 ≡ start = omega arith in
    let first = endpoint_few c start e ps are (subst (λ k. HasEndpoint ps k e) here (has 0 e refl)) in
    let rest = all_few c (start + 1) es ps are (λ i f at. (let there : start + suc i ≡ start + 1 + i = omega arith in subst (λ k. HasEndpoint ps k f) there (has (suc i) f at))) in
    one_endpoint (length ps) (length es) _ _ _ (length-append (endpoint_runs c ps start e) (runs_from c ps (start + 1) es)) first rest

-- ---- their frames

turns_long : (gap : ℕ) (r : Run) (k n : ℕ) → length (turns gap r k n) ≡ n
turns_long gap r k zero = refl
turns_long gap r k (suc n) = ap suc (turns_long gap r (k + 1) n)

rests_few : (gap : ℕ) (rs : List Run) → All IsRun rs → length (rests_of gap rs) ≤ 128 * length rs
rests_few gap [] all = omega arith
rests_few gap (r ∷ rs) all =
    let rest = rests_few gap rs (All-tail IsRun r rs all) in
    let own = turns_long gap r 0 r.left in
    let most = (All-head IsRun r rs all).subs in
    let sum = length-append (rest_of gap r) (rests_of gap rs) in
    omega (arith, rest, own, most, sum)

most_of : (frames runs endpoints lines : ℕ) → frames ≤ 128 * runs → runs ≤ endpoints * (45 * lines) → endpoints ≤ 16 → lines ≤ PLAN_LINES → frames < 2 ^ 40
most_of frames runs endpoints lines a b few most =
    let all : endpoints * (45 * lines) ≤ 16 * (45 * 65536) = mul-le endpoints (45 * lines) 16 (45 * 65536) few (omega (arith, most)) in
    omega (arith, a, b, all)

pub sent_few : (c : Config) (ps : List PlannedLine) → IsConfig c → IsTabledPlan c ps → length (sent c ps) < 2 ^ 40
unfolding sent
sent_few c ps config plan =
    let frames = frames_from c ps 0 c.endpoints in
    let swept = ticks_few frames first_clock (int_gap first_clock (end_of_time +ℤ pos 1)) in
    let same : length (rests_of (gap_ticks c) (runs_of c ps)) ≡ length frames = ap length (runs_are c ps 0 c.endpoints) ∙ length-map frames turn_of in
    let runs = subst (λ (qs : List PlannedLine). All IsRun (runs_of c qs)) (sym plan.is) (messages_are_runs c plan.lines config plan.fit plan.valid) in
    let rests = rests_few (gap_ticks c) (runs_of c ps) runs in
    let few = all_few c 0 c.endpoints ps (placed c ps config plan) (λ i e at. (let here : 0 + i ≡ i = omega arith in has_endpoint c ps config plan (0 + i) e (subst (λ k. IsAt c.endpoints k e) (sym here) at))) in
    let lines = (short c ps plan).few in
    let most = most_of (length (rests_of (gap_ticks c) (runs_of c ps))) (length (runs_of c ps)) (length c.endpoints) (length ps) rests few config.endpoints.few lines in
    omega (arith, swept, same, most)
