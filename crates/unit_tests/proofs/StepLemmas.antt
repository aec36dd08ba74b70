-- What tests rest on: the unit stands for some history after each call.
use Rattle.std.proofs.Common.{◌≡◌, ◌∷◌, ◌++◌, All, ℤ, List, [], sym, subst, Result, Ok, Err, OnOk, OnErr, IfErr, IfOk}
use Rattle.std.specs.Prelude.{Option, Some, None, IfSome, IfNone}
use Rattle.std.proofs.lemmas.List.Elements.{All-nil, All-push}
use Rattle.air_source.specs.declared.airs.AirFault.{AirFault}
use Rattle.air_source.specs.declared.events.Event.{Event}
use Rattle.fh_base.specs.declared.fault.NoMemory.{NoMemory}
use Rattle.unit_model.specs.Proper.{IsTime}
use Rattle.plain_units.specs.declared.report.TimedFrame.{TimedFrame as SpecFrame}
use Rattle.unit_model.specs.Standing.{History, at_clock, handed, heard, nothing_yet}
use Rattle.unit_model.specs.declared.jobs.UplinkJob.{UplinkJob}
use Rattle.window_config.specs.declared.config.Config.{Config}
use Rattle.ru_buffers.specs.Calls.{GivesJob, StandsFor, StandsForSome, StopsAtDue}
use Rattle.ru_buffers.specs.Reporting.{due_of}
use Rattle.ru_buffers.specs.declared.unit.Ru.{Ru}

pub some_at_first : (c : Config) (r : Result Ru NoMemory) → IfOk r (λ u. StandsFor c u nothing_yet) → IfOk r (λ u. StandsForSome u)
some_at_first c (Ok u) h = record { config = c; history = nothing_yet; stands = h }
some_at_first c (Err e) h = tt

pub some_passed : {A : Type 0} (grew : A → List Event → A → Type 0) (stopped : AirFault → A → Event → A → Type 0) (c : Config) (h : History) (to : ℤ) (u : Ru) (before after : A)
    (r : Result (Unit {0}) AirFault) → OnOk r (StandsFor c u (at_clock (heard h (due_of c h to)) to))
    → IfErr r (λ f. StopsAtDue grew (stopped f) c h to u before after) → StandsForSome u
some_passed grew stopped c h to u before after (Ok x) told stop = record { config = c; history = at_clock (heard h (due_of c h to)) to; stands = told }
some_passed grew stopped c h to u before after (Err e) told stop = record { config = c; history = heard h stop.told; stands = stop.stands }

pub both_ways : (P : Type 0) (r : Result (Unit {0}) AirFault) → OnOk r P → OnErr r P → P
both_ways P (Ok x) p q = p
both_ways P (Err e) p q = q

pub some_given : (c : Config) (h : History) (u v : Ru) (r : Option UplinkJob) → StandsFor c u h → IfSome r (λ job. GivesJob c h job v) → IfNone r (v ≡ u) → StandsForSome v
some_given c h u v (Some job) all g same = record { config = c; history = handed h job; stands = g.stands }
some_given c h u v None all g same = record { config = c; history = h; stands = subst (λ (x : Ru). StandsFor c x h) (sym same) all }

abbrev HasTime : SpecFrame → Type 0
HasTime f = IsTime f.at.0

pub none_timed : (xs : List SpecFrame) → xs ≡ [] → All (λ (f : SpecFrame). IsTime f.at.0) xs
none_timed xs e = subst (All HasTime) (sym e) (All-nil HasTime)

pub one_more_timed :
    (ys xs : List SpecFrame) (x : SpecFrame) → ys ≡ xs ++ x ∷ [] → All (λ (f : SpecFrame). IsTime f.at.0) xs → IsTime x.at.0 →
    All (λ (f : SpecFrame). IsTime f.at.0) ys
one_more_timed ys xs x e h p = subst (All HasTime) (sym e) (All-push HasTime xs x h p)
