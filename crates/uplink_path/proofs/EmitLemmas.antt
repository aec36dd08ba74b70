-- The jobs of a unit are taken one after the other, and their messages are sent.
use Rattle.std.proofs.Common.{◌≡◌, suc, ◌<◌, List, [], ◌∷◌, ◌++◌, length, refl, sym, ap, ◌∙◌, arith, subst, append_assoc, append-nil, Option, Some, None, Result, Ok, Err, OnOk, OnErr}
use Rattle.air_source.specs.Answers.{AnswersBy}
use Rattle.air_source.specs.declared.links.LinkFrame.{LinkFrame}
use Rattle.air_source.specs.declared.places.RePlace.{RePlace}
use Rattle.bfp_codec.specs.declared.samples.Wide.{Wide}
use Rattle.window_config.specs.declared.config.Config.{Config}
use Rattle.fh_base.specs.Lists.{onto}
use Rattle.unit_model.specs.ProperJobs.{IsProperJob}
use Rattle.unit_model.specs.Standing.{History, handed, owed_until}
use Rattle.unit_model.specs.declared.jobs.UplinkJob.{UplinkJob}
use Rattle.fh_base.proofs.OntoLemmas.{onto-append, onto_none}
use Rattle.plan_model.specs.Packs.{Message}
use Rattle.ru_buffers.specs.Calls.{GivesJob, StandsFor}
use Rattle.ru_buffers.specs.Units.{left_up_to}
use Rattle.ru_buffers.specs.declared.unit.Ru.{Ru}
use Rattle.uplink_model.specs.Frames.{Antenna, frames_behind}
use Rattle.uplink_model.specs.Messages.{messages_behind, uplink_messages_of}
use Rattle.uplink_model.proofs.MessageLemmas.{frames_both}
use Rattle.uplink_path.specs.Emitting.{AreNumbered, SentAll, SentFirst, given_too}
use Rattle.uplink_path.specs.Opened.{CanPack, CanTake, IsOpen, StoppedAtJob, TookJob, messages_from}
use Rattle.uplink_path.specs.Sending.{SentSome}
use Rattle.uplink_path.specs.declared.pending.Pending.{Pending}
use Rattle.uplink_path.specs.declared.uplink.Uplink.{Uplink}
use Rattle.uplink_path.proofs.TakeLemmas.{none_more}

-- these jobs were taken: the messages that they closed were sent, and the unit stands for the jobs as given
pub record Taken {F : Type 0} (post : RePlace → Wide → Type 0) (c : Config) (h : History) (ms : List (Message UplinkJob)) (u : Uplink F) (ru : Ru) (opened : Option Pending)
    (old new : List LinkFrame) : Type 0 where
  pub given : List UplinkJob
  pub jobs : owed_until c h h.clock ≡ given ++ owed_until c (given_too h given) h.clock
  pub closed : List (Message UplinkJob)
  pub message : Option (Message UplinkJob)
  pub is : (js : List UplinkJob) → uplink_messages_of c (given ++ js) ≡ closed ++ messages_from c message js
  pub is_open : IsOpen c opened message
  pub sent : (antenna : Antenna) → AnswersBy post antenna → new ≡ old ++ frames_behind c antenna ms closed
  pub numbered : AreNumbered c u (onto ms closed)
  pub stands : StandsFor c ru (given_too h given)

-- ---- histories

none_too : (h : History) → given_too h [] ≡ h
none_too h = ap (λ (js : List UplinkJob). (let k : History = record { clock = h.clock; arrivals = h.arrivals; reported = h.reported; given = js } in k)) (append-nil h.given)

one_too : (h : History) (given : List UplinkJob) (job : UplinkJob) → handed (given_too h given) job ≡ given_too h (given ++ job ∷ [])
one_too h given job =
    ap (λ (js : List UplinkJob). (let k : History = record { clock = h.clock; arrivals = h.arrivals; reported = h.reported; given = js } in k)) (append_assoc h.given given (job ∷ []))

-- ---- before any

pub none_taken : {F : Type 0} (post : RePlace → Wide → Type 0) (c : Config) (h : History) (ms : List (Message UplinkJob)) (u : Uplink F) (ru : Ru) (opened : Option Pending) (old : List LinkFrame)
    → opened ≡ None → AreNumbered c u ms → StandsFor c ru h → Taken post c h ms u ru opened old old
none_taken post c h ms u ru opened old is n stands = record {
  given = [];
  jobs = ap (λ (k : History). owed_until c k h.clock) (sym (none_too h));
  closed = [];
  message = None;
  is = λ js. refl;
  is_open = subst (λ (o : Option Pending). IsOpen c o None) (sym is) tt;
  sent = λ antenna said. none_more c antenna ms old;
  numbered = subst (λ (l : List (Message UplinkJob)). AreNumbered c u l) (sym (onto_none ms)) n;
  stands = subst (λ (k : History). StandsFor c ru k) (sym (none_too h)) stands;
}

-- ---- one more

-- what is left once a job was given too
more_given : (c : Config) (h : History) (given : List UplinkJob) (job : UplinkJob) → owed_until c h h.clock ≡ given ++ owed_until c (given_too h given) h.clock
    → owed_until c (given_too h given) h.clock ≡ job ∷ owed_until c (handed (given_too h given) job) h.clock
    → owed_until c h h.clock ≡ (given ++ job ∷ []) ++ owed_until c (given_too h (given ++ job ∷ [])) h.clock
more_given c h given job jobs first =
    jobs ∙ ap (λ (l : List UplinkJob). given ++ l) (first ∙ ap (λ (k : History). job ∷ owed_until c k h.clock) (one_too h given job))
    ∙ sym (append_assoc given (job ∷ []) (owed_until c (given_too h (given ++ job ∷ [])) h.clock))

more_messages : (c : Config) (given : List UplinkJob) (job : UplinkJob) (closed more : List (Message UplinkJob)) (message : Option (Message UplinkJob)) (rest : List UplinkJob → List (Message UplinkJob))
    → ((js : List UplinkJob) → uplink_messages_of c (given ++ js) ≡ closed ++ messages_from c message js)
    → ((js : List UplinkJob) → messages_from c message (job ∷ js) ≡ more ++ rest js)
    → (js : List UplinkJob) → uplink_messages_of c ((given ++ job ∷ []) ++ js) ≡ (closed ++ more) ++ rest js
more_messages c given job closed more message rest is next js =
    ap (uplink_messages_of c) (append_assoc given (job ∷ []) js) ∙ is (job ∷ js) ∙ ap (λ (l : List (Message UplinkJob)). closed ++ l) (next js)
    ∙ sym (append_assoc closed more (rest js))

more_sent : (c : Config) (antenna : Antenna) (ms closed more : List (Message UplinkJob)) (old now after : List LinkFrame) → now ≡ old ++ frames_behind c antenna ms closed
    → after ≡ now ++ frames_behind c antenna (onto ms closed) more → after ≡ old ++ frames_behind c antenna ms (closed ++ more)
more_sent c antenna ms closed more old now after before next =
    next ∙ ap (λ (l : List LinkFrame). l ++ frames_behind c antenna (onto ms closed) more) before
    ∙ append_assoc old (frames_behind c antenna ms closed) (frames_behind c antenna (onto ms closed) more)
    ∙ ap (λ (l : List LinkFrame). old ++ l) (sym (frames_both c antenna ms closed more))

more_stands : (c : Config) (h : History) (given : List UplinkJob) (job : UplinkJob) (ru : Ru) → StandsFor c ru (handed (given_too h given) job) → StandsFor c ru (given_too h (given ++ job ∷ []))
more_stands c h given job ru stands = subst (λ (k : History). StandsFor c ru k) (one_too h given job) stands

pub one_taken : {F : Type 0} (post now_post : RePlace → Wide → Type 0) (c : Config) (h : History) (ms : List (Message UplinkJob)) (u v : Uplink F) (ru next : Ru) (opened : Option Pending) (p : Pending) (job : UplinkJob)
    (old now after : List LinkFrame)
    → (t : Taken post c h ms u ru opened old now) → GivesJob c (given_too h t.given) job next → TookJob now_post c (onto ms t.closed) t.message job v p now after
    → ((antenna : Antenna) → AnswersBy post antenna → AnswersBy now_post antenna) → Taken post c h ms v next (Some p) old after
one_taken post now_post c h ms u v ru next opened p job old now after t gives took as_said = record {
  given = t.given ++ job ∷ [];
  jobs = more_given c h t.given job t.jobs gives.first;
  closed = t.closed ++ took.closed;
  message = Some took.message;
  is = more_messages c t.given job t.closed took.closed t.message (λ js. messages_behind c took.message js) t.is took.is;
  is_open = (took.packed, took.proper);
  sent = λ antenna said. more_sent c antenna ms t.closed took.closed old now after (t.sent antenna said) (took.sent antenna (as_said antenna said));
  numbered = subst (λ (l : List (Message UplinkJob)). AreNumbered c v l) (sym (onto-append ms t.closed took.closed)) took.numbered;
  stands = more_stands c h t.given job next gives.stands;
}

-- the job may be taken
pub can_take : (c : Config) (h : History) (ru : Ru) (job : UplinkJob) → StandsFor c ru h → IsProperJob c.endpoints h.clock job → CanTake c job
can_take c h ru job stands proper = record { to = h.clock; proper = proper; high = stands.kept.time.high }

pub can_pack : {F : Type 0} (post : RePlace → Wide → Type 0) (c : Config) (h : History) (ms : List (Message UplinkJob)) (u : Uplink F) (ru : Ru) (opened : Option Pending) (job : UplinkJob) (old now : List LinkFrame)
    → (t : Taken post c h ms u ru opened old now) → IsProperJob c.endpoints h.clock job → CanPack u opened job
can_pack post c h ms u ru opened job old now t proper = record {
  config = c;
  messages = onto ms t.closed;
  message = t.message;
  numbered = t.numbered;
  is_open = t.is_open;
  can = can_take c (given_too h t.given) ru job t.stands proper;
}

-- ---- how many are left

left_as : (c : Config) (h : History) (ru : Ru) → StandsFor c ru h → left_up_to ru.memory.cells ru.cursor ru.clock.0 ≡ owed_until c h h.clock
left_as c h ru stands = stands.kept.left ru.clock.0 ∙ ap (owed_until c h) stands.kept.clock_is

pub fewer : (c : Config) (h : History) (ru next : Ru) (job : UplinkJob) → StandsFor c ru h → GivesJob c h job next
    → length (left_up_to next.memory.cells next.cursor next.clock.0) < length (left_up_to ru.memory.cells ru.cursor ru.clock.0)
fewer c h ru next job stands gives =
    let before : length (left_up_to ru.memory.cells ru.cursor ru.clock.0) ≡ suc (length (owed_until c (handed h job) h.clock)) = ap length (left_as c h ru stands ∙ gives.first) in
    let after : length (left_up_to next.memory.cells next.cursor next.clock.0) ≡ length (owed_until c (handed h job) h.clock) = ap length (left_as c (handed h job) next gives.stands) in
    omega (arith, before, after)

-- ---- a link that had no room

-- the first of some messages' frames were sent after others
some_more : (c : Config) (antenna : Antenna) (ms all closed more rest : List (Message UplinkJob)) (old now after : List LinkFrame) → all ≡ (closed ++ more) ++ rest
    → now ≡ old ++ frames_behind c antenna ms closed → SentSome (frames_behind c antenna (onto ms closed) more) now after → SentSome (frames_behind c antenna ms all) old after
some_more c antenna ms all closed more rest old now after is before s =
    let front = frames_behind c antenna ms closed in
    let tail = frames_behind c antenna (onto ms (closed ++ more)) rest in
    record {
      front = front ++ s.front;
      rest = s.rest ++ tail;
      is = ap (frames_behind c antenna ms) is ∙ frames_both c antenna ms (closed ++ more) rest
          ∙ ap (λ (l : List LinkFrame). l ++ tail) (frames_both c antenna ms closed more ∙ ap (λ (l : List LinkFrame). front ++ l) s.is ∙ sym (append_assoc front s.front s.rest))
          ∙ append_assoc (front ++ s.front) s.rest tail;
      sent = s.sent ∙ ap (λ (l : List LinkFrame). l ++ s.front) before ∙ append_assoc old front s.front;
    }

-- ... of the message that a job closed
pub stopped_at : {F : Type 0} (post : RePlace → Wide → Type 0) (c : Config) (h : History) (ms : List (Message UplinkJob)) (u : Uplink F) (ru next : Ru) (opened : Option Pending) (job : UplinkJob)
    (old now after : List LinkFrame)
    → (t : Taken post c h ms u ru opened old now) → GivesJob c (given_too h t.given) job next
    → ((antenna : Antenna) → AnswersBy post antenna → StoppedAtJob c (onto ms t.closed) antenna t.message job now after) → SentFirst post c h ms next old after
stopped_at post c h ms u ru next opened job old now after t gives stop =
    let left = owed_until c (given_too h (t.given ++ job ∷ [])) h.clock in
    let jobs = more_given c h t.given job t.jobs gives.first in
    record {
      sent = λ antenna said.
          let s = stop antenna said in
          some_more c antenna ms (uplink_messages_of c (owed_until c h h.clock)) t.closed s.closed (s.rest left) old now after
          (ap (uplink_messages_of c) jobs ∙ more_messages c t.given job t.closed s.closed t.message s.rest t.is s.is left) (t.sent antenna said) s.some;
      given = t.given ++ job ∷ [];
      left = left;
      jobs = jobs;
      stands = more_stands c h t.given job next gives.stands;
    }

-- ---- no job is left

all_given : (c : Config) (h : History) (given : List UplinkJob) → owed_until c h h.clock ≡ given ++ owed_until c (given_too h given) h.clock → owed_until c (given_too h given) h.clock ≡ []
    → owed_until c h h.clock ≡ given
all_given c h given jobs none = jobs ∙ ap (λ (l : List UplinkJob). given ++ l) none ∙ append-nil given

-- all messages are those that were closed, and the one that is open
all_messages : (c : Config) (given owed : List UplinkJob) (closed : List (Message UplinkJob)) (message : Option (Message UplinkJob)) → owed ≡ given
    → ((js : List UplinkJob) → uplink_messages_of c (given ++ js) ≡ closed ++ messages_from c message js) → uplink_messages_of c owed ≡ closed ++ messages_from c message []
all_messages c given owed closed message owed_is is = ap (uplink_messages_of c) (owed_is ∙ sym (append-nil given)) ∙ is []

pub all_taken : {F A B : Type 0} (r : Result A B) (post : RePlace → Wide → Type 0) (c : Config) (h : History) (ms : List (Message UplinkJob)) (u v : Uplink F) (ru next : Ru) (opened : Option Pending)
    (old now after : List LinkFrame)
    → (t : Taken post c h ms u ru opened old now) → owed_until c (given_too h t.given) h.clock ≡ [] → next ≡ ru
    → ((antenna : Antenna) → AnswersBy post antenna → OnOk r (after ≡ now ++ frames_behind c antenna (onto ms t.closed) (messages_from c t.message [])))
    → OnOk r (AreNumbered c v (onto (onto ms t.closed) (messages_from c t.message []))) → OnOk r (SentAll post c h ms v next old after)
all_taken (Err e) post c h ms u v ru next opened old now after t none same sent n = tt
all_taken (Ok x) post c h ms u v ru next opened old now after t none same sent n =
    let given = all_given c h t.given t.jobs none in
    let all = all_messages c t.given (owed_until c h h.clock) t.closed t.message given t.is in
    record {
      sent = λ antenna said.
          more_sent c antenna ms t.closed (messages_from c t.message []) old now after (t.sent antenna said) (sent antenna said)
          ∙ ap (λ (l : List (Message UplinkJob)). old ++ frames_behind c antenna ms l) (sym all);
      numbered = subst (λ (l : List (Message UplinkJob)). AreNumbered c v l) (sym (onto-append ms t.closed (messages_from c t.message [])) ∙ ap (onto ms) (sym all)) n;
      stands = subst (λ (js : List UplinkJob). StandsFor c next (given_too h js)) (sym given)
          (subst (λ (x : Ru). StandsFor c x (given_too h t.given)) (sym same) t.stands);
    }

-- ... of the last message
pub stopped_last : {F A B : Type 0} (r : Result A B) (post : RePlace → Wide → Type 0) (c : Config) (h : History) (ms : List (Message UplinkJob)) (u : Uplink F) (ru next : Ru) (opened : Option Pending)
    (old now after : List LinkFrame)
    → (t : Taken post c h ms u ru opened old now) → owed_until c (given_too h t.given) h.clock ≡ [] → next ≡ ru
    → ((antenna : Antenna) → AnswersBy post antenna → OnErr r (SentSome (frames_behind c antenna (onto ms t.closed) (messages_from c t.message [])) now after))
    → OnErr r (SentFirst post c h ms next old after)
stopped_last (Ok x) post c h ms u ru next opened old now after t none same stop = tt
stopped_last (Err e) post c h ms u ru next opened old now after t none same stop =
    let given = all_given c h t.given t.jobs none in
    let all = all_messages c t.given (owed_until c h h.clock) t.closed t.message given t.is in
    record {
      sent = λ antenna said.
          some_more c antenna ms (uplink_messages_of c (owed_until c h h.clock)) t.closed (messages_from c t.message []) [] old now after
          (all ∙ sym (append-nil (t.closed ++ messages_from c t.message []))) (t.sent antenna said) (stop antenna said);
      given = t.given;
      left = [];
      jobs = given ∙ sym (append-nil t.given);
      stands = subst (λ (x : Ru). StandsFor c x (given_too h t.given)) (sym same) t.stands;
    }

pub on_ok : {A B : Type 0} (r : Result A B) (P : Type 0) → P → OnOk r P
on_ok (Ok x) P p = p
on_ok (Err e) P p = tt
