use Rattle.std.proofs.Common.{◌≡◌, ℕ, ◌+◌, ◌∙◌, min, refl, rules, sym, subst, ap, List, [], ◌++◌, get_or, slice_index_or}
use Rattle.std.specs.Option.{option_map_or}
use Rattle.std.proofs.lemmas.List.{length-set}
use Rattle.air_source.specs.declared.links.LinkFrame.{LinkFrame}
use Rattle.window_config.specs.declared.config.Config.{Config as SpecConfig}
use Rattle.window_config.specs.declared.endpoints.EndpointConfig.{EndpointConfig}
use Rattle.plan_model.specs.Packs.{Message}
use Rattle.unit_model.specs.declared.jobs.UplinkJob.{UplinkJob as SpecJob}
use Rattle.plan_model.proofs.ListLemmas.{endpoint_is}
use Rattle.uplink_model.specs.Frames.{Antenna, uplink_frames_from, uplink_message_frames}
use Rattle.uplink_model.specs.Messages.{frame_count, uplink_frames_before, number_behind}
use Rattle.uplink_path.specs.Emitting.{AreNumbered}
use Rattle.uplink_path.specs.Opened.{IsProperMessage}
use Rattle.uplink_path.specs.Packing.{IsPacked}
use Rattle.uplink_path.specs.Sending.{IsBehind, SentSome, wait_in}
use Rattle.uplink_path.specs.declared.pending.Pending.{Pending}
use Rattle.uplink_path.specs.declared.uplink.Uplink.{Uplink}
use Rattle.uplink_path.proofs.NumberLemmas.{capped_wait, numbers_next, room_stays, waits_next}
use Rattle.uplink_path.proofs.SendableLemmas.{can_be_sent, endpoint_read, within_16}
use Rattle.uplink_path.proofs.uplink.Uplink.send.Goals as goal
use Rattle.fh_base.proofs.CommonLemmas.{on_err}

pub bounds-self-first-2 : goal.bounds-self-first-2
bounds-self-first-2 g c =
    let (k, ms, m, n, packed, proper) = c.requires.some in
    rw packed.first (within_16 k.endpoints m.first.ep proper.first.endpoint proper.first.endpoint_is n.config.endpoints.few)

-- the endpoint as it is read
read : {F : Type 0} (k : SpecConfig) (u : Uplink F) (ms : List (Message SpecJob)) (p : Pending) (m : Message SpecJob) (x : EndpointConfig) → AreNumbered k u ms → IsPacked k p m
    → (proper : IsProperMessage k m) → x ≡ get_or u.endpoints.items p.first.ep x → x ≡ proper.first.endpoint
read k u ms p m x n packed proper is =
    endpoint_read k.endpoints m.first.ep p.first.ep proper.first.endpoint x proper.first.endpoint_is (ap (λ (j : SpecJob). j.ep) packed.first)
    (is ∙ ap (λ (l : List EndpointConfig). get_or l p.first.ep x) n.endpoints)

pub send_message-requires-clause-sendable : goal.send_message-requires-clause-sendable
send_message-requires-clause-sendable g c =
    let (k, ms, m, n, packed, proper) = c.requires.some in
    let is = read k c.args.self.now ms c.args.message.now m c.index.result.now n packed proper c.index.ensures in
    can_be_sent k c.args.self.now ms c.args.message.now m c.index.result.now n packed proper is
    (rw is (endpoint_is k.endpoints m.first.ep proper.first.endpoint n.config.endpoints.each proper.first.endpoint_is))

behind : {F : Type 0} (k : SpecConfig) (u : Uplink F) (ms : List (Message SpecJob)) (p : Pending) (m : Message SpecJob) (wait : ℕ) → AreNumbered k u ms → IsPacked k p m
    → IsProperMessage k m → wait ≡ min (wait_in u.run p.first) u.rules.departures.spread
    → IsBehind k u.rules p (slice_index_or u.numbers p.first.ep 0) wait m (number_behind m.first.ep ms) (uplink_frames_before k m.first ms)
behind k u ms p m wait n packed proper is = record {
  rules = n.rules;
  packed = packed;
  number_is = ap (λ (j : SpecJob). slice_index_or u.numbers j.ep 0) packed.first
      ∙ n.numbers m.first.ep (within_16 k.endpoints m.first.ep proper.first.endpoint proper.first.endpoint_is n.config.endpoints.few);
  wait_is = is ∙ ap (λ (j : SpecJob). min (wait_in u.run j) u.rules.departures.spread) packed.first
      ∙ ap (λ (r : _). min (wait_in u.run m.first) r.departures.spread) n.rules ∙ capped_wait k (uplink_frames_before k m.first ms) (wait_in u.run m.first) (n.wait m.first);
}

frames_are : (k : SpecConfig) (answer : Antenna) (ms : List (Message SpecJob)) (m : Message SpecJob) (proper : IsProperMessage k m) (x : EndpointConfig) → x ≡ proper.first.endpoint
    → uplink_frames_from k answer x m (number_behind m.first.ep ms) (uplink_frames_before k m.first ms) 0 (frame_count k m) ≡ uplink_message_frames k answer ms m
unfolding uplink_message_frames
frames_are k answer ms m proper x is =
    ap (λ (e : EndpointConfig). uplink_frames_from k answer e m (number_behind m.first.ep ms) (uplink_frames_before k m.first ms) 0 (frame_count k m)) is
    ∙ sym (ap (λ o. option_map_or (λ e. uplink_frames_from k answer e m (number_behind m.first.ep ms) (uplink_frames_before k m.first ms) 0 (frame_count k m)) o []) proper.first.endpoint_is)

pub returns-clause-sent : goal.returns-clause-sent
returns-clause-sent g c k answer ms m said n packed proper =
    let b = behind k c.args.self.now ms c.args.message.now m c.min-wait.result n packed proper (c.min-wait.ensures ∙ ap (λ (w : ℕ). min w c.args.self.now.rules.departures.spread) c.wait_in.ensures) in
    let is = read k c.args.self.now ms c.args.message.now m c.index.result.now n packed proper c.index.ensures in
    c.in_ok-next.ensures.sent k answer m (number_behind m.first.ep ms) (uplink_frames_before k m.first ms) said b
    ∙ ap (λ (l : List LinkFrame). g.L.Link.sent c.args.link.now ++ l) (frames_are k answer ms m proper c.index.result.now is)

pub returns-in_err-next-clause-err : goal.returns-in_err-next-clause-err
returns-in_err-next-clause-err g c k answer ms m said n packed proper =
    let b = behind k c.args.self.now ms c.args.message.now m c.min-wait.result n packed proper (c.min-wait.ensures ∙ ap (λ (w : ℕ). min w c.args.self.now.rules.departures.spread) c.wait_in.ensures) in
    let is = read k c.args.self.now ms c.args.message.now m c.index.result.now n packed proper c.index.ensures in
    on_err c.from_residual.result _
    (subst (λ (l : List LinkFrame). SentSome l (g.L.Link.sent c.args.link.now) (g.L.Link.sent c.send_message.new.link)) (frames_are k answer ms m proper c.index.result.now is)
    (c.in_err-next.ensures.err k answer m (number_behind m.first.ep ms) (uplink_frames_before k m.first ms) said b))

pub returns-clause-numbered : goal.returns-clause-numbered
returns-clause-numbered g c k ms m n packed proper =
    let u = c.args.self.now in
    let b = behind k u ms c.args.message.now m c.min-wait.result n packed proper (c.min-wait.ensures ∙ ap (λ (w : ℕ). min w u.rules.departures.spread) c.wait_in.ensures) in
    let at_is = ap (λ (j : SpecJob). j.ep) packed.first in
    record {
      config = n.config;
      rules = n.rules;
      kept = n.kept;
      endpoints = n.endpoints;
      room = room_stays u.buffer.len (8 + k.fragment) u.buffer.items c.send_message.new.buffer n.room (search rules) (c.in_ok-next.ensures.len ∙ search rules);
      size = length-set u.numbers c.args.message.now.first.ep _ ∙ n.size;
      numbers = numbers_next u.numbers m ms c.args.message.now.first.ep _ at_is n.size n.numbers
          (rw packed.first (within_16 k.endpoints m.first.ep proper.first.endpoint proper.first.endpoint_is n.config.endpoints.few)) refl;
      wait = waits_next k m ms c.args.message.now.first c.in_ok-next.next packed.first (c.in_ok-next.ensures.wait k m (number_behind m.first.ep ms) (uplink_frames_before k m.first ms) b);
    }
