-- The unit stands for some history after each call.
use Rattle.std.proofs.Common.{◌≡◌, ℤ, List, sym, subst, Result, Ok, Err, OnOk, OnErr, IfErr, IfOk}
use Rattle.air_source.specs.declared.airs.AirFault.{AirFault}
use Rattle.air_source.specs.declared.events.Event.{Event}
use Rattle.unit_model.specs.Standing.{History, at_clock, heard, nothing_yet, owed_until}
use Rattle.window_config.specs.declared.config.Config.{Config}
use Rattle.ru_buffers.specs.Calls.{HasGivenPast, StandsFor, StopsAtDue}
use Rattle.ru_buffers.specs.Reporting.{due_of}
use Rattle.ru_buffers.specs.declared.unit.Ru.{Ru}
use Rattle.uplink_path.specs.Steps.{IsSenderOf, IsUnitOf}
use Rattle.air_source.specs.Kept.{IsKept}
use Rattle.air_source.specs.declared.links.LinkFrame.{LinkFrame}
use Rattle.air_source.specs.declared.places.RePlace.{RePlace}
use Rattle.air_source.specs.declared.samples.Samples.{Samples}
use Rattle.bfp_codec.specs.declared.samples.Wide.{Wide}
use Rattle.fh_base.specs.Lists.{onto}
use Rattle.unit_model.specs.declared.jobs.UplinkJob.{UplinkJob}
use Rattle.plan_model.specs.Packs.{Message}
use Rattle.uplink_model.specs.Messages.{uplink_messages_of}
use Rattle.uplink_path.specs.Emitting.{SentAll, given_too}
use Rattle.uplink_path.specs.declared.uplink.Uplink.{Uplink}

pub unit_at_first : {E : Type 0} (c : Config) (r : Result Ru E) → IfOk r (λ u. StandsFor c u nothing_yet) → IfOk r (λ u. HasGivenPast u) → IfOk r (λ u. IsUnitOf c u)
unit_at_first c (Ok u) stands given = record { history = nothing_yet; stands = stands; given = given }
unit_at_first c (Err e) stands given = tt

pub unit_passed : {A : Type 0} (grew : A → List Event → A → Type 0) (stopped : AirFault → A → Event → A → Type 0) (c : Config) (h : History) (to : ℤ) (u : Ru) (before after : A)
    (r : Result (Unit {0}) AirFault) → OnOk r (StandsFor c u (at_clock (heard h (due_of c h to)) to)) → OnOk r (HasGivenPast u)
    → IfErr r (λ f. StopsAtDue grew (stopped f) c h to u before after) → OnErr r (HasGivenPast u) → IsUnitOf c u
unit_passed grew stopped c h to u before after (Ok x) told past stop given = record { history = at_clock (heard h (due_of c h to)) to; stands = told; given = past }
unit_passed grew stopped c h to u before after (Err e) told past stop given = record { history = heard h stop.told; stands = stop.stands; given = given }

pub unit_sent : {F A B : Type 0} (r : Result A B) (post : RePlace → Wide → Type 0) (c : Config) (h : History) (ms : List (Message UplinkJob)) (u : Uplink F) (ru : Ru) (old new : List LinkFrame)
    → OnOk r (SentAll post c h ms u ru old new) → OnOk r (HasGivenPast ru) → OnOk r (IsUnitOf c ru)
unit_sent (Ok x) post c h ms u ru old new all given = record { history = given_too h (owed_until c h h.clock); stands = all.stands; given = given }
unit_sent (Err e) post c h ms u ru old new all given = tt

pub sender_sent : {F A B : Type 0} (r : Result A B) (pre : F → RePlace → Type 0) (all_post : F → RePlace → Wide → Type 0) (post : RePlace → Wide → Type 0) (c : Config) (h : History)
    (ms : List (Message UplinkJob)) (u v : Uplink F) (ru : Ru) (old new : List LinkFrame)
    → OnOk r (SentAll post c h ms v ru old new) → v.antenna ≡ u.antenna → IsKept pre all_post u.antenna → OnOk r (IsSenderOf pre all_post c v)
sender_sent (Err e) pre all_post post c h ms u v ru old new all same kept = tt
sender_sent (Ok x) pre all_post post c h ms u v ru old new all same kept = record {
  messages = onto ms (uplink_messages_of c (owed_until c h h.clock));
  numbered = all.numbered;
  kept = subst (λ (a : Samples _). IsKept pre all_post a) (sym same) kept;
}
