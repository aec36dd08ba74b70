-- A job is taken into the message that is open, or opens its own.
use Rattle.std.proofs.Common.{◌≡◌, ℕ, ◌<◌, ◌≤◌, ◌==◌, Bool, true, false, if◌then◌else◌, List, [], ◌∷◌, ◌++◌, refl, sym, ap, ◌∙◌, arith, subst, append-nil, get_or, Option, None}
use Rattle.std.proofs.lemmas.Bool.{and_parts, eqb-true}
use Rattle.std.proofs.lemmas.List.Elements.{All-append, All-cons, All-nil}
use Rattle.std.proofs.lemmas.Option.{get_or_from_slice_get}
use Rattle.fh_base.specs.Carrier.{is_outside}
use Rattle.air_source.specs.Answers.{AnswersBy}
use Rattle.air_source.specs.declared.links.LinkFrame.{LinkFrame}
use Rattle.air_source.specs.declared.places.RePlace.{RePlace}
use Rattle.bfp_codec.specs.declared.samples.Wide.{Wide}
use Rattle.window_config.specs.Configs.{IsConfig}
use Rattle.window_config.specs.declared.config.Config.{Config}
use Rattle.window_config.specs.declared.endpoints.EndpointConfig.{EndpointConfig}
use Rattle.unit_model.specs.Proper.{IsAt}
use Rattle.unit_model.specs.declared.jobs.UplinkJob.{UplinkJob}
use Rattle.fh_base.proofs.OntoLemmas.{onto_none, onto_one}
use Rattle.plan_model.specs.Packs.{Message, alone, parts_of, takes, with_part}
use Rattle.plan_model.specs.Sizes.{measured}
use Rattle.plan_model.specs.declared.sizes.MessageSize.{MessageSize}
use Rattle.plan_model.proofs.PackLemmas.{IsWithin, takes_room}
use Rattle.uplink_model.specs.Frames.{Antenna, frames_behind, uplink_message_frames}
use Rattle.uplink_model.specs.Messages.{job_fields, messages_behind, takes_job}
use Rattle.uplink_path.specs.Emitting.{AreNumbered}
use Rattle.uplink_path.specs.Opened.{CanTake, IsPartOf, IsProperMessage, StoppedAtJob, TookJob, messages_from}
use Rattle.uplink_path.specs.Packing.{IsPacked}
use Rattle.uplink_path.specs.Sending.{SentSome}
use Rattle.uplink_path.specs.declared.pending.Pending.{Pending}
use Rattle.uplink_path.specs.declared.uplink.Uplink.{Uplink}
use Rattle.uplink_path.proofs.CloseLemmas.{OpenIs}
use Rattle.uplink_path.proofs.SendableLemmas.{endpoint_read}
use Rattle.ecpri_fragments.specs.declared.place.TheConstants.{MESSAGE_BYTES}

-- ---- what a message takes

-- a job that it takes is of its endpoint, and has room
pub taking : (c : Config) (m : Message UplinkJob) (j : UplinkJob) → takes_job c m j ≡ true
    → (j.ep ≡ m.first.ep) × IsWithin c.pack (measured (job_fields c.endpoints) (with_part m j))
taking c m j is =
    let f = job_fields c.endpoints in
    let (ep, as_part) = and_parts (m.first.ep == j.ep) (takes f c.pack m j) is in
    (sym (eqb-true m.first.ep j.ep ep), takes_room f c.pack m j as_part)

-- ---- proper messages

one_part : (c : Config) (j : UplinkJob) (can : CanTake c j) → IsPartOf can.proper.endpoint j.ep j
one_part c j can = record { ep_is = refl; start_prb = can.proper.start_prb; prbs = can.proper.prbs }

pub proper_alone : (c : Config) (p : Pending) (j : UplinkJob) → CanTake c j → IsPacked c p (alone j) → p.size.bytes ≤ MESSAGE_BYTES → IsProperMessage c (alone j)
proper_alone c p j can packed short = record {
  to = can.to;
  first = can.proper;
  high = can.high;
  parts = All-cons (IsPartOf can.proper.endpoint j.ep) j [] (one_part c j can) (All-nil (IsPartOf can.proper.endpoint j.ep));
  size = subst (λ (s : MessageSize). s.bytes ≤ MESSAGE_BYTES) packed.size short;
  few = omega arith;
}

same_endpoint : (c : Config) (m : Message UplinkJob) (j : UplinkJob) (proper : IsProperMessage c m) (can : CanTake c j) → j.ep ≡ m.first.ep
    → can.proper.endpoint ≡ proper.first.endpoint
same_endpoint c m j proper can same =
    let x = proper.first.endpoint in
    sym (get_or_from_slice_get c.endpoints j.ep can.proper.endpoint x can.proper.endpoint_is)
    ∙ ap (λ (k : ℕ). get_or c.endpoints k x) same ∙ get_or_from_slice_get c.endpoints m.first.ep x x proper.first.endpoint_is

part_as : (e x : EndpointConfig) (ep : ℕ) (j : UplinkJob) → j.ep ≡ ep → x ≡ e → j.start_prb < 1024 → is_outside x.prbs j.start_prb j.num_prb ≡ false → IsPartOf e ep j
part_as e x ep j same is low prbs =
    record { ep_is = same; start_prb = low; prbs = subst (λ (y : EndpointConfig). is_outside y.prbs j.start_prb j.num_prb ≡ false) is prbs }

pub proper_with : (c : Config) (m : Message UplinkJob) (j : UplinkJob) → IsConfig c → IsProperMessage c m → CanTake c j → takes_job c m j ≡ true
    → IsProperMessage c (with_part m j)
proper_with c m j good proper can is =
    let (same, within) = taking c m j is in
    let e = proper.first.endpoint in
    record {
      to = proper.to;
      first = proper.first;
      high = proper.high;
      parts = All-append (IsPartOf e m.first.ep) (parts_of m) (j ∷ []) proper.parts
          (All-cons (IsPartOf e m.first.ep) j [] (part_as e can.proper.endpoint m.first.ep j same (same_endpoint c m j proper can same) can.proper.start_prb can.proper.prbs)
          (All-nil (IsPartOf e m.first.ep)));
      size = within.bytes;
      few = let few = within.parts in omega (arith, few, good.pack_high);
    }

-- ---- the job's endpoint as it is read

pub job_endpoint : {F : Type 0} (c : Config) (u : Uplink F) (ms : List (Message UplinkJob)) (j : UplinkJob) (x : EndpointConfig) → AreNumbered c u ms → (can : CanTake c j)
    → x ≡ get_or u.endpoints.items j.ep x → IsAt c.endpoints j.ep x
job_endpoint c u ms j x n can is =
    let same = endpoint_read c.endpoints j.ep j.ep can.proper.endpoint x can.proper.endpoint_is refl (is ∙ ap (λ (l : List EndpointConfig). get_or l j.ep x) n.endpoints) in
    subst (λ (e : EndpointConfig). IsAt c.endpoints j.ep e) (sym same) can.proper.endpoint_is

-- ---- a job was taken

pub none_more : (c : Config) (antenna : Antenna) (ms : List (Message UplinkJob)) (old : List LinkFrame) → old ≡ old ++ frames_behind c antenna ms []
unfolding frames_behind
none_more c antenna ms old = sym (append-nil old)

one_more : (c : Config) (antenna : Antenna) (ms : List (Message UplinkJob)) (m : Message UplinkJob) → uplink_message_frames c antenna ms m ≡ frames_behind c antenna ms (m ∷ [])
unfolding frames_behind
one_more c antenna ms m = sym (append-nil (uplink_message_frames c antenna ms m))

goes_on : (c : Config) (m : Message UplinkJob) (j : UplinkJob) → takes_job c m j ≡ true → (js : List UplinkJob)
    → messages_behind c m (j ∷ js) ≡ messages_behind c (with_part m j) js
unfolding messages_behind
goes_on c m j is js = ap (λ (b : Bool). if b then messages_behind c (with_part m j) js else m ∷ messages_behind c (alone j) js) is

begins : (c : Config) (m : Message UplinkJob) (j : UplinkJob) → takes_job c m j ≡ false → (js : List UplinkJob)
    → messages_behind c m (j ∷ js) ≡ m ∷ messages_behind c (alone j) js
unfolding messages_behind
begins c m j is js = ap (λ (b : Bool). if b then messages_behind c (with_part m j) js else m ∷ messages_behind c (alone j) js) is

-- into the message that is open
pub took_with : {F : Type 0} (post : RePlace → Wide → Type 0) (c : Config) (ms : List (Message UplinkJob)) (p q : Pending) (om : Option (Message UplinkJob)) (j : UplinkJob) (u : Uplink F) (old : List LinkFrame)
    → AreNumbered c u ms → (o : OpenIs c p om) → CanTake c j → takes_job c o.message j ≡ true → IsPacked c q (with_part o.message j)
    → TookJob post c ms om j u q old old
took_with post c ms p q om j u old n o can is packed = record {
  closed = [];
  message = with_part o.message j;
  is = λ js. ap (λ (x : Option (Message UplinkJob)). messages_from c x (j ∷ js)) o.is ∙ goes_on c o.message j is js;
  packed = packed;
  proper = proper_with c o.message j n.config o.proper can is;
  sent = λ antenna said. none_more c antenna ms old;
  numbered = subst (λ (l : List (Message UplinkJob)). AreNumbered c u l) (sym (onto_none ms)) n;
}

-- the one that is open was closed
pub took_anew : {F : Type 0} (post : RePlace → Wide → Type 0) (c : Config) (ms : List (Message UplinkJob)) (p q : Pending) (om : Option (Message UplinkJob)) (j : UplinkJob) (u : Uplink F) (old new : List LinkFrame)
    → (o : OpenIs c p om) → CanTake c j → takes_job c o.message j ≡ false → IsPacked c q (alone j) → q.size.bytes ≤ MESSAGE_BYTES
    → ((antenna : Antenna) → AnswersBy post antenna → new ≡ old ++ uplink_message_frames c antenna ms o.message) → AreNumbered c u (o.message ∷ ms)
    → TookJob post c ms om j u q old new
took_anew post c ms p q om j u old new o can is packed short sent n = record {
  closed = o.message ∷ [];
  message = alone j;
  is = λ js. ap (λ (x : Option (Message UplinkJob)). messages_from c x (j ∷ js)) o.is ∙ begins c o.message j is js;
  packed = packed;
  proper = proper_alone c q j can packed short;
  sent = λ antenna said. sent antenna said ∙ ap (λ (l : List LinkFrame). old ++ l) (one_more c antenna ms o.message);
  numbered = subst (λ (l : List (Message UplinkJob)). AreNumbered c u l) (sym (onto_one ms o.message [] ∙ onto_none (o.message ∷ ms))) n;
}

-- none was open
pub took_first : {F : Type 0} (post : RePlace → Wide → Type 0) (c : Config) (ms : List (Message UplinkJob)) (q : Pending) (om : Option (Message UplinkJob)) (j : UplinkJob) (u : Uplink F) (old : List LinkFrame)
    → om ≡ None → CanTake c j → IsPacked c q (alone j) → q.size.bytes ≤ MESSAGE_BYTES → AreNumbered c u ms → TookJob post c ms om j u q old old
took_first post c ms q om j u old none can packed short n = record {
  closed = [];
  message = alone j;
  is = λ js. ap (λ (x : Option (Message UplinkJob)). messages_from c x (j ∷ js)) none;
  packed = packed;
  proper = proper_alone c q j can packed short;
  sent = λ antenna said. none_more c antenna ms old;
  numbered = subst (λ (l : List (Message UplinkJob)). AreNumbered c u l) (sym (onto_none ms)) n;
}

pub stopped : (c : Config) (ms : List (Message UplinkJob)) (antenna : Antenna) (p : Pending) (om : Option (Message UplinkJob)) (j : UplinkJob) (old new : List LinkFrame) (o : OpenIs c p om)
    → takes_job c o.message j ≡ false → SentSome (uplink_message_frames c antenna ms o.message) old new → StoppedAtJob c ms antenna om j old new
stopped c ms antenna p om j old new o is some = record {
  closed = o.message ∷ [];
  rest = λ js. messages_behind c (alone j) js;
  is = λ js. ap (λ (x : Option (Message UplinkJob)). messages_from c x (j ∷ js)) o.is ∙ begins c o.message j is js;
  some = subst (λ (l : List LinkFrame). SentSome l old new) (one_more c antenna ms o.message) some;
}
