-- The frames of a message, one after the other.
use Rattle.std.proofs.Common.{◌≡◌, ℕ, ℤ, suc, ◌+◌, ◌*◌, ◌-◌, ◌<◌, ◌==◌, min, List, [], ◌∷◌, ◌++◌, refl, sym, ap, ◌∙◌, arith, append_assoc, append-nil}
use Rattle.window_config.specs.declared.config.Config.{Config}
use Rattle.window_config.specs.declared.endpoints.EndpointConfig.{EndpointConfig}
use Rattle.air_source.specs.declared.links.LinkFrame.{LinkFrame}
use Rattle.fh_base.specs.Lists.{each}
use Rattle.unit_model.specs.declared.jobs.UplinkJob.{UplinkJob}
use Rattle.plan_model.specs.Departures.{departure}
use Rattle.plan_model.specs.Packs.{Message, size_of}
use Rattle.plan_model.specs.declared.sizes.MessageSize.{MessageSize}
use Rattle.frame_bytes.specs.Cuts.{piece_frame}
use Rattle.frame_bytes.specs.Messages.{message_of}
use Rattle.uplink_model.specs.Frames.{Antenna, uplink_frame_of, head_of, samples_of}
use Rattle.uplink_model.specs.Messages.{frame_count, job_fields}
use Rattle.uplink_path.specs.Packing.{sections_in}
use Rattle.uplink_path.specs.Sending.{IsBehind, SentSome, wait_behind}
use Rattle.uplink_path.specs.declared.pending.Pending.{Pending}
use Rattle.uplink_path.specs.declared.rules.Rules.{Rules}
use Rattle.frame_bytes.specs.Headers.{carrier_of}
use Rattle.ecpri_fragments.specs.Pieces.{piece_count}
use Rattle.fh_base.proofs.EachLemmas.{each_zero}

-- ---- frames

frame_is :
    (c : Config) (answer : Antenna) (e : EndpointConfig) (r : Rules) (p : Pending) (number wait : ℕ) (m : Message UplinkJob) (n before sub count : ℕ) (at : ℤ) (bytes : List ℕ)
    → IsBehind c r p number wait m n before → count ≡ piece_count r.fragment p.size.bytes → at ≡ departure r.departures p.first.s.0 (before + sub)
    → bytes ≡ piece_frame e.id (record { seq = number; last = sub + 1 == count; sub = sub }) (sub * r.fragment) (min (sub * r.fragment + r.fragment) p.size.bytes)
    (message_of (carrier_of e) (samples_of answer e p.first) (head_of p.first) (sections_in p))
    → (let f : LinkFrame = record { at = record { 0 = at }; ep = p.first.ep; frame = bytes } in f) ≡ uplink_frame_of c answer e m n before sub
frame_is c answer e r p number wait m n before sub count at bytes b count_is at_is bytes_is =
    rw (at_is, bytes_is, count_is, b.number_is, b.rules, b.packed.sections, b.packed.size, b.packed.first) refl

-- a piece ends where the next one begins, or where the message ends
pub ends_at : (answer : Antenna) (e : EndpointConfig) (p : Pending) (number sub count fragment end : ℕ) → end ≡ min (sub * fragment + fragment) p.size.bytes
    → piece_frame e.id (record { seq = number; last = sub + 1 == count; sub = sub }) (sub * fragment) end (message_of (carrier_of e) (samples_of answer e p.first) (head_of p.first) (sections_in p))
    ≡ piece_frame e.id (record { seq = number; last = sub + 1 == count; sub = sub }) (sub * fragment) (min (sub * fragment + fragment) p.size.bytes)
    (message_of (carrier_of e) (samples_of answer e p.first) (head_of p.first) (sections_in p))
ends_at answer e p number sub count fragment end is =
    ap (λ (x : ℕ). piece_frame e.id (record { seq = number; last = sub + 1 == count; sub = sub }) (sub * fragment) x
    (message_of (carrier_of e) (samples_of answer e p.first) (head_of p.first) (sections_in p))) is

-- the frames before `sub` were handed over, and these are left
pub record HandedUpTo (f : ℕ → List LinkFrame) (sub count : ℕ) (old new : List LinkFrame) : Type 0 where
  pub front : List LinkFrame
  pub is : each 0 count f ≡ front ++ each sub (count - sub) f
  pub sent : new ≡ old ++ front

pub none_handed : (f : ℕ → List LinkFrame) (count : ℕ) (old : List LinkFrame) → HandedUpTo f 0 count old old
none_handed f count old = record { front = []; is = ap (λ (n : ℕ). each 0 n f) (omega arith); sent = sym (append-nil old) }

each_next : (f : ℕ → List LinkFrame) (sub left : ℕ) → each sub (suc left) f ≡ f sub ++ each (sub + 1) left f
unfolding each
each_next f sub left = refl

pub one_handed : (f : ℕ → List LinkFrame) (sub count : ℕ) (old now after : List LinkFrame) → sub < count → after ≡ now ++ f sub → HandedUpTo f sub count old now
    → HandedUpTo f (sub + 1) count old after
one_handed f sub count old now after below more h =
    let count_is : count - sub ≡ suc (count - (sub + 1)) = omega (arith, below) in
    record {
      front = h.front ++ f sub;
      is = h.is ∙ ap (λ (n : ℕ). h.front ++ each sub n f) count_is ∙ ap (λ (l : List LinkFrame). h.front ++ l) (each_next f sub (count - (sub + 1)))
          ∙ sym (append_assoc h.front (f sub) (each (sub + 1) (count - (sub + 1)) f));
      sent = more ∙ ap (λ (l : List LinkFrame). l ++ f sub) h.sent ∙ append_assoc old h.front (f sub);
    }

pub all_handed : (f : ℕ → List LinkFrame) (sub count : ℕ) (old new : List LinkFrame) → sub ≡ count → HandedUpTo f sub count old new → new ≡ old ++ each 0 count f
all_handed f sub count old new over h =
    let none : count - sub ≡ 0 = omega (arith, over) in
    h.sent ∙ ap (λ (l : List LinkFrame). old ++ l)
    (sym (append-nil h.front) ∙ ap (λ (l : List LinkFrame). h.front ++ l) (sym (each_zero sub f)) ∙ ap (λ (n : ℕ). h.front ++ each sub n f) (sym none) ∙ sym h.is)

pub some_handed : (f : ℕ → List LinkFrame) (sub count : ℕ) (old new : List LinkFrame) → HandedUpTo f sub count old new → SentSome (each 0 count f) old new
some_handed f sub count old new h = record { front = h.front; rest = each sub (count - sub) f; is = h.is; sent = h.sent }

-- a frame of the message was handed over
pub frame_handed :
    (c : Config) (answer : Antenna) (e : EndpointConfig) (r : Rules) (p : Pending) (number wait : ℕ) (m : Message UplinkJob) (n before sub count : ℕ) (at : ℤ) (bytes : List ℕ)
    (old now after : List LinkFrame)
    → IsBehind c r p number wait m n before → count ≡ piece_count r.fragment p.size.bytes → at ≡ departure r.departures p.first.s.0 (before + sub)
    → bytes ≡ piece_frame e.id (record { seq = number; last = sub + 1 == count; sub = sub }) (sub * r.fragment) (min (sub * r.fragment + r.fragment) p.size.bytes)
    (message_of (carrier_of e) (samples_of answer e p.first) (head_of p.first) (sections_in p))
    → sub < count → after ≡ now ++ (let f : LinkFrame = record { at = record { 0 = at }; ep = p.first.ep; frame = bytes } in f) ∷ []
    → HandedUpTo (λ k. uplink_frame_of c answer e m n before k ∷ []) sub count old now → HandedUpTo (λ k. uplink_frame_of c answer e m n before k ∷ []) (sub + 1) count old after
frame_handed c answer e r p number wait m n before sub count at bytes old now after b count_is at_is bytes_is below more h =
    one_handed (λ k. uplink_frame_of c answer e m n before k ∷ []) sub count old now after below
    (more ∙ ap (λ (f : LinkFrame). now ++ f ∷ []) (frame_is c answer e r p number wait m n before sub count at bytes b count_is at_is bytes_is)) h

pub count_as : (c : Config) (r : Rules) (p : Pending) (number wait : ℕ) (m : Message UplinkJob) (n before count : ℕ) → IsBehind c r p number wait m n before
    → count ≡ piece_count r.fragment p.size.bytes → count ≡ frame_count c m
count_as c r p number wait m n before count b is = is ∙ ap (λ (s : MessageSize). piece_count r.fragment s.bytes) b.packed.size ∙ ap (λ (x : Rules). piece_count x.fragment (size_of (job_fields c.endpoints) m)) b.rules

-- ---- how long frames wait

pub wait_next : (c : Config) (r : Rules) (p : Pending) (number wait : ℕ) (m : Message UplinkJob) (n before i next : ℕ) → IsBehind c r p number wait m n before
    → next ≡ min ((i + 1) * r.departures.gap) r.departures.spread → next ≡ wait_behind c (i + 1)
wait_next c r p number wait m n before i next b is = is ∙ ap (λ (x : Rules). min ((i + 1) * x.departures.gap) x.departures.spread) b.rules

pub wait_now : (c : Config) (r : Rules) (p : Pending) (number wait : ℕ) (m : Message UplinkJob) (n before i next : ℕ) → IsBehind c r p number wait m n before
    → next ≡ wait_behind c i → next ≡ min (i * r.departures.gap) r.departures.spread
wait_now c r p number wait m n before i next b is = is ∙ ap (λ (x : Rules). min (i * x.departures.gap) x.departures.spread) (sym b.rules)

pub at_start : (c : Config) (before wait : ℕ) → wait ≡ wait_behind c before → wait ≡ wait_behind c (before + 0)
at_start c before wait is = is ∙ ap (wait_behind c) (omega arith)
