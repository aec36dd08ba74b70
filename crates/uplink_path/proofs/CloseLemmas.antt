-- The message that is open when no job is left.
use Rattle.std.proofs.Common.{◌≡◌, List, [], ◌∷◌, ◌++◌, refl, sym, ap, subst, ◌∙◌, append-nil, Option, Some, None}
use Rattle.window_config.specs.declared.config.Config.{Config}
use Rattle.air_source.specs.declared.links.LinkFrame.{LinkFrame}
use Rattle.fh_base.specs.Lists.{onto}
use Rattle.unit_model.specs.declared.jobs.UplinkJob.{UplinkJob}
use Rattle.plan_model.specs.Packs.{Message}
use Rattle.uplink_model.specs.Frames.{Antenna, frames_behind, uplink_message_frames}
use Rattle.uplink_model.specs.Messages.{messages_behind}
use Rattle.uplink_path.specs.Opened.{IsOpen, IsProperMessage, messages_from}
use Rattle.uplink_path.specs.Packing.{IsPacked}
use Rattle.uplink_path.specs.declared.pending.Pending.{Pending}

-- what is open is a message
pub record OpenIs (c : Config) (p : Pending) (om : Option (Message UplinkJob)) : Type 0 where
  pub message : Message UplinkJob
  pub is : om ≡ Some message
  pub packed : IsPacked c p message
  pub proper : IsProperMessage c message

by_case : (c : Config) (p : Pending) (om : Option (Message UplinkJob)) → IsOpen c (Some p) om → OpenIs c p om
by_case c p None never = elim never [ ]
by_case c p (Some m) (packed, proper) = record { message = m; is = refl; packed = packed; proper = proper }

pub open_is : (c : Config) (opened : Option Pending) (p : Pending) (om : Option (Message UplinkJob)) → opened ≡ Some p → IsOpen c opened om → OpenIs c p om
open_is c opened p om same is = by_case c p om (subst (λ (o : Option Pending). IsOpen c o om) same is)

pub last_frames : (c : Config) (antenna : Antenna) (ms : List (Message UplinkJob)) (m : Message UplinkJob)
    → uplink_message_frames c antenna ms m ≡ frames_behind c antenna ms (messages_from c (Some m) [])
unfolding frames_behind messages_behind
last_frames c antenna ms m = sym (append-nil (uplink_message_frames c antenna ms m))

pub last_numbered : (c : Config) (ms : List (Message UplinkJob)) (m : Message UplinkJob) → m ∷ ms ≡ onto ms (messages_from c (Some m) [])
unfolding onto messages_behind
last_numbered c ms m = refl

pub all_closed : (c : Config) (antenna : Antenna) (ms : List (Message UplinkJob)) (p : Pending) (om : Option (Message UplinkJob)) (o : OpenIs c p om)
    → uplink_message_frames c antenna ms o.message ≡ frames_behind c antenna ms (messages_from c om [])
all_closed c antenna ms p om o =
    last_frames c antenna ms o.message ∙ ap (λ (x : Option (Message UplinkJob)). frames_behind c antenna ms (messages_from c x [])) (sym o.is)

pub all_numbered : (c : Config) (ms : List (Message UplinkJob)) (p : Pending) (om : Option (Message UplinkJob)) (o : OpenIs c p om)
    → o.message ∷ ms ≡ onto ms (messages_from c om [])
all_numbered c ms p om o = last_numbered c ms o.message ∙ ap (λ (x : Option (Message UplinkJob)). onto ms (messages_from c x [])) (sym o.is)

none_by : (c : Config) (om : Option (Message UplinkJob)) → IsOpen c None om → om ≡ None
none_by c None is = refl
none_by c (Some m) never = elim never [ ]

pub none_is : (c : Config) (opened : Option Pending) (om : Option (Message UplinkJob)) → opened ≡ None → IsOpen c opened om → om ≡ None
none_is c opened om same is = none_by c om (subst (λ (o : Option Pending). IsOpen c o om) same is)

none_frames : (c : Config) (antenna : Antenna) (ms : List (Message UplinkJob)) → [] ≡ frames_behind c antenna ms (messages_from c None [])
unfolding frames_behind
none_frames c antenna ms = refl

pub none_sent : (c : Config) (antenna : Antenna) (ms : List (Message UplinkJob)) (om : Option (Message UplinkJob)) (old : List LinkFrame) → om ≡ None
    → old ≡ old ++ frames_behind c antenna ms (messages_from c om [])
none_sent c antenna ms om old is =
    sym (append-nil old) ∙ ap (λ (l : List LinkFrame). old ++ l) (none_frames c antenna ms)
    ∙ ap (λ (x : Option (Message UplinkJob)). old ++ frames_behind c antenna ms (messages_from c x [])) (sym is)

none_onto : (c : Config) (ms : List (Message UplinkJob)) → ms ≡ onto ms (messages_from c None [])
unfolding onto
none_onto c ms = refl

pub none_numbered : (c : Config) (ms : List (Message UplinkJob)) (om : Option (Message UplinkJob)) → om ≡ None → ms ≡ onto ms (messages_from c om [])
none_numbered c ms om is = none_onto c ms ∙ ap (λ (x : Option (Message UplinkJob)). onto ms (messages_from c x [])) (sym is)
