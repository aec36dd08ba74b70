-- The streams of all endpoints.
use Rattle.std.proofs.Common.{◌≡◌, ℕ, zero, suc, ◌+◌, ◌*◌, ◌<◌, ◌≤◌, inl, inr, List, [], ◌∷◌, ◌++◌, length, map, drop, drop-cons, get_or, append_assoc, Some, refl, ap, ap₂, sym, ◌∙◌, subst, arith}
use Rattle.std.specs.Prelude.{All, slice_get}
use Rattle.std.proofs.lemmas.Bool.{cases_eq}
use Rattle.std.proofs.lemmas.List.{append-nil, drop_all, length-append}
use Rattle.std.proofs.lemmas.Option.{slice_get-get_or, slice_get_within}
use Rattle.window_config.specs.Configs.{IsConfig}
use Rattle.window_config.specs.declared.config.Config.{Config}
use Rattle.window_config.specs.declared.endpoints.EndpointConfig.{EndpointConfig}
use Rattle.unit_model.specs.Proper.{IsAt}
use Rattle.plan_model.specs.Packs.{Message, parts_of}
use Rattle.plan_model.specs.Sent.{SentFrame, sent}
use Rattle.plan_model.specs.Streams.{Part}
use Rattle.plan_model.specs.declared.lines.PlannedLine.{PlannedLine}
use Rattle.plan_model.specs.declared.streams.Stream.{Stream}
use Rattle.plan_model.specs.declared.streams.Stream.TheVariants.{DownCommands, UpCommands, DownData, UpData}
use Rattle.du_scheduler.specs.Turns.{IsRun}
use Rattle.plan_model.specs.SentOrder.{stream_place}
use Rattle.du_scheduler.specs.declared.turns.Run.{Run}
use Rattle.du_scheduler.specs.declared.turns.Turn.{Turn}
use Rattle.plan_model.proofs.SentLemmas.{IsSentStream, sent_is}
use Rattle.du_scheduler.specs.Runs.{IsOrderOf, endpoint_runs, gap_ticks, rests_of, runs_from, runs_of, turn_of}
use Rattle.du_scheduler.proofs.OrderLemmas.{sent_is_in_order}
use Rattle.du_scheduler.proofs.ProperLemmas.{messages_are_runs}
use Rattle.du_scheduler.specs.Kept.{placed_line, HasMessage, message_in}
use Rattle.schedule_laws.specs.TabledPlans.{IsTabledPlan}
use Rattle.du_scheduler.specs.Tables.{IsKeptInTable, IsTable, AddsEndpoint}
use Rattle.du_scheduler.specs.declared.kept.StreamParts.{StreamParts}
use Rattle.du_scheduler.specs.declared.tables.Table.{Table}
use Rattle.du_scheduler.proofs.MessageLemmas.{message_is}
use Rattle.fh_base.specs.Members.{IsIn}

get_left : {X : Type 0} (xs ys : List X) (k : ℕ) (x : X) → slice_get xs k ≡ Some x → slice_get (xs ++ ys) k ≡ Some x
get_left [] ys k x h = cc
get_left (z ∷ xs) ys zero x h = h
get_left (z ∷ xs) ys (suc k) x h = get_left xs ys k x h

get_right : {X : Type 0} (xs ys : List X) (k : ℕ) → slice_get (xs ++ ys) (length xs + k) ≡ slice_get ys k
get_right [] ys k = let e : 0 + k ≡ k = omega arith in ap (slice_get ys) e
get_right (z ∷ xs) ys k = let e : suc (length xs) + k ≡ suc (length xs + k) = omega arith in ap (slice_get (z ∷ (xs ++ ys))) e ∙ get_right xs ys k

pub join_three : {X : Type 0} (old a b d one two new : List X) → one ≡ old ++ a → two ≡ one ++ b → new ≡ two ++ d → new ≡ old ++ (a ++ (b ++ d))
join_three {X = X} old a b d one two new one_is two_is new_is =
    new_is ∙ ap (λ (xs : List X). xs ++ d) (two_is ∙ ap (λ (xs : List X). xs ++ b) one_is) ∙ append_assoc (old ++ a) b d ∙ append_assoc old a (b ++ d)

pub runs_three : {X : Type 0} (old a b d x y z one two new : List X) → one ≡ old ++ a → two ≡ one ++ b → new ≡ two ++ d → a ≡ x → b ≡ y → d ≡ z → new ≡ old ++ (x ++ (y ++ z))
runs_three {X = X} old a b d x y z one two new one_is two_is new_is a_is b_is d_is =
    join_three old a b d one two new one_is two_is new_is
    ∙ ap (λ (xs : List X). old ++ xs) (ap₂ (λ (us vs : List X). us ++ vs) a_is (ap₂ (λ (us vs : List X). us ++ vs) b_is d_is))

-- ---- endpoint after endpoint

-- the streams of the endpoints before this one are kept, and their messages are those before the others'
pub record IsFilled (c : Config) (ps : List PlannedLine) (ep : ℕ) (streams : List StreamParts) (runs : List Run) : Type 0 where
  pub count : length streams ≡ 3 * ep
  pub each : (stream : Stream) (i : ℕ) (e : EndpointConfig) → stream_place stream < 3 → IsAt c.endpoints i e → i < ep → IsKeptInTable c ps stream i e streams
  pub rest : runs ++ runs_from c ps ep (drop ep c.endpoints) ≡ runs_of c ps

module _ (c : Config) (ps : List PlannedLine) (ep : ℕ) (old new : List StreamParts) (count : length old ≡ 3 * ep) (e : EndpointConfig) (adds : AddsEndpoint c ps ep e old new) where
  abbrev added : List StreamParts
  added = adds.down_commands ∷ adds.up_commands ∷ adds.down_data ∷ []

  at_place : (k : ℕ) (x : StreamParts) → slice_get added k ≡ Some x → slice_get new (3 * ep + k) ≡ Some x
  at_place k x h = ap₂ (λ (xs : List StreamParts) (n : ℕ). slice_get xs (n + k)) adds.is (sym count) ∙ get_right old added k ∙ h

  own : (stream : Stream) → stream_place stream < 3 → IsKeptInTable c ps stream ep e new
  own DownCommands s = record { kept = adds.down_commands; at = at_place 0 adds.down_commands refl; is = adds.are_down_commands }
  own UpCommands s = record { kept = adds.up_commands; at = at_place 1 adds.up_commands refl; is = adds.are_up_commands }
  own DownData s = record { kept = adds.down_data; at = at_place 2 adds.down_data refl; is = adds.are_down_data }
  own UpData s = absurd (omega (arith, s))

  still : (stream : Stream) (i : ℕ) (f : EndpointConfig) → IsKeptInTable c ps stream i f old → IsKeptInTable c ps stream i f new
  still stream i f k = record {
    kept = k.kept;
    at = ap (λ (xs : List StreamParts). slice_get xs (3 * i + stream_place stream)) adds.is ∙ get_left old added (3 * i + stream_place stream) k.kept k.at;
    is = k.is;
  }

  counted : length new ≡ 3 * (ep + 1)
  counted =
      let a = ap length adds.is in
      let b = length-append old added in
      omega (arith, a, b, count)

pub filled_more : (c : Config) (ps : List PlannedLine) (ep : ℕ) (old new : List StreamParts) (before runs : List Run) (d : EndpointConfig) → IsFilled c ps ep old before → ep < length c.endpoints
    → ((e : EndpointConfig) → IsAt c.endpoints ep e → AddsEndpoint c ps ep e old new) → ((e : EndpointConfig) → IsAt c.endpoints ep e → runs ≡ before ++ endpoint_runs c ps ep e)
    → IsFilled c ps (ep + 1) new runs
unfolding runs_from
filled_more c ps ep old new before runs d f below adds more = record { count = counted c ps ep old new f.count here (adds here at); each = each; rest = rest }
  where
    here : EndpointConfig
    here = get_or c.endpoints ep d

    at : IsAt c.endpoints ep (get_or c.endpoints ep d)
    at = slice_get-get_or c.endpoints ep d below

    each : (stream : Stream) (i : ℕ) (e : EndpointConfig) → stream_place stream < 3 → IsAt c.endpoints i e → i < ep + 1 → IsKeptInTable c ps stream i e new
    each stream i e s is within = elim (cases_eq i ep) [
      | inl same ↦
          let at_ep : IsAt c.endpoints ep e = ap (slice_get c.endpoints) (sym same) ∙ is in
          subst (λ (k : ℕ). IsKeptInTable c ps stream k e new) (sym same) (own c ps ep old new f.count e (adds e at_ep) stream s)
      | inr other ↦ still c ps ep old new f.count (get_or c.endpoints ep d) (adds (get_or c.endpoints ep d) at) stream i e (f.each stream i e s is (omega (arith, other, within)))
    ]

    rest : runs ++ runs_from c ps (ep + 1) (drop (ep + 1) c.endpoints) ≡ runs_of c ps
    rest =
        let e : suc ep ≡ ep + 1 = omega arith in
        let split : drop ep c.endpoints ≡ get_or c.endpoints ep d ∷ drop (ep + 1) c.endpoints = drop-cons c.endpoints ep d below ∙ ap (λ (n : ℕ). get_or c.endpoints ep d ∷ drop n c.endpoints) e in
        ap (λ (rs : List Run). rs ++ runs_from c ps (ep + 1) (drop (ep + 1) c.endpoints)) (more (get_or c.endpoints ep d) at)
        ∙ append_assoc before (endpoint_runs c ps ep (get_or c.endpoints ep d)) (runs_from c ps (ep + 1) (drop (ep + 1) c.endpoints))
        ∙ ap (λ (es : List EndpointConfig). before ++ runs_from c ps ep es) (sym split) ∙ f.rest

pub filled_table : (c : Config) (ps : List PlannedLine) (ep : ℕ) (streams : List StreamParts) (runs : List Run) → IsFilled c ps ep streams runs → length c.endpoints ≤ ep
    → (stream : Stream) (i : ℕ) (e : EndpointConfig) → stream_place stream < 3 → IsAt c.endpoints i e → IsKeptInTable c ps stream i e streams
filled_table c ps ep streams runs f end stream i e s at = f.each stream i e s at (let w = slice_get_within c.endpoints i e at in omega (arith, w, end))

pub filled_runs : (c : Config) (ps : List PlannedLine) (ep : ℕ) (streams : List StreamParts) (runs : List Run) → IsFilled c ps ep streams runs → length c.endpoints ≤ ep → runs ≡ runs_of c ps
unfolding runs_from
filled_runs c ps ep streams runs f end =
    sym (append-nil runs) ∙ ap (λ (es : List EndpointConfig). runs ++ runs_from c ps ep es) (sym (drop_all ep c.endpoints end)) ∙ f.rest

pub runs_fit : (c : Config) (ps : List PlannedLine) (runs : List Run) → IsConfig c → IsTabledPlan c ps → runs ≡ runs_of c ps → All IsRun runs
runs_fit c ps runs config plan is =
    subst (All IsRun) (sym is) (subst (λ (xs : List PlannedLine). All IsRun (runs_of c xs)) (sym plan.is) (messages_are_runs c plan.lines config plan.fit plan.valid))

pub runs_ordered : (c : Config) (ps : List PlannedLine) (runs : List Run) (gap : ℕ) → IsConfig c → IsTabledPlan c ps → runs ≡ runs_of c ps → gap ≡ gap_ticks c
    → IsOrderOf (rests_of gap runs) (map turn_of (sent c ps))
runs_ordered c ps runs gap config plan is gap_is =
    subst (λ (g : ℕ). IsOrderOf (rests_of g runs) (map turn_of (sent c ps))) (sym gap_is)
    (subst (λ (rs : List Run). IsOrderOf (rests_of (gap_ticks c) rs) (map turn_of (sent c ps))) (sym is)
    (subst (λ (xs : List PlannedLine). IsOrderOf (rests_of (gap_ticks c) (runs_of c xs)) (map turn_of (sent c xs))) (sym plan.is) (sent_is_in_order c plan.lines config plan.fit plan.valid)))

-- ---- the message of a frame

sent_place : (stream : Stream) → IsSentStream stream → stream_place stream < 3
sent_place DownCommands s = omega arith
sent_place UpCommands s = omega arith
sent_place DownData s = omega arith
sent_place UpData s = absurd s

pub record IsFrameOf (t : Table) (u : Turn) (f : SentFrame) : Type 0 where
  pub kept : StreamParts
  pub at : (place : ℕ) → place ≡ stream_place u.stream → slice_get t.streams.items (3 * u.endpoint + place) ≡ Some kept
  pub has : HasMessage kept u.number
  pub is : message_in kept u.number ≡ map placed_line (parts_of f.message)

pub frame_is : (c : Config) (ps : List PlannedLine) (t : Table) (u : Turn) (f : SentFrame) → IsTable c ps t → IsIn f (sent c ps) → u ≡ turn_of f → IsFrameOf t u f
frame_is c ps t u f table there u_is =
    let o = sent_is c ps f there in
    let k = table f.stream f.ep f.endpoint (sent_place f.stream o.is_sent) o.at in
    let m = message_is c ps f.stream f.ep f.endpoint k.kept o.n k.is o.there in
    let number : o.n.number ≡ f.number = sym (ap (λ (x : SentFrame). x.number) o.is) in
    let message : o.n.message ≡ f.message = sym (ap (λ (x : SentFrame). x.message) o.is) in
    subst (λ (w : Turn). IsFrameOf t w f) (sym u_is) (record {
      kept = k.kept;
      at = λ place is. ap (λ (n : ℕ). slice_get t.streams.items (3 * f.ep + n)) is ∙ k.at;
      has = subst (HasMessage k.kept) number m.has;
      is = ap (message_in k.kept) (sym number) ∙ m.is ∙ ap (λ (x : Message Part). map placed_line (parts_of x)) message;
    })
