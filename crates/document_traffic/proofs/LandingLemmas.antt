-- All that lands for a document lands a second before the end of time.
use Rattle.std.proofs.Common.{ℤ, pos, ◌+ℤ◌, ◌≤ℤ◌, arith}
use Rattle.std.proofs.lemmas.Int.{ints}
use Rattle.air_source.specs.declared.events.Side.{Side}
use Rattle.air_source.specs.declared.events.Side.TheVariants.{Ru, Du}
use Rattle.fh_document.specs.Proper.{IsDocument}
use Rattle.fh_document.specs.declared.document.Document.{Document}
use Rattle.plan_model.specs.Valid.{IsValid}
use Rattle.unit_model.specs.Times.{last_landing}
use Rattle.document_traffic.specs.Landing.{landing_with, leaving_to}
use Rattle.document_traffic.specs.Laws.{PlannedLandingsAreReplayed}
use Rattle.document_traffic.specs.Sending.{Leaving}
use Rattle.document_traffic.proofs.AnswerLemmas.{down_leaves, last_answered, up_leaves}
use Rattle.document_traffic.proofs.TimeLemmas.{IsBy, last_sent, longest, replayed_by}
use Rattle.document_traffic.proofs.WithinLemmas.{each_lands}
use Rattle.fh_base.specs.Members.{IsIn}

-- the last frame that is sent to a unit leaves by then
abbrev pub last_leaving : Side → ℤ
last_leaving Ru = last_sent
last_leaving Du = last_answered

pub each_leaves : (side : Side) (d : Document) → IsDocument d → IsValid d.config d.plan → (f : Leaving) → IsIn f (leaving_to side d) → IsBy (last_leaving side) f.at
each_leaves Ru d is valid = down_leaves d is valid
each_leaves Du d is valid = up_leaves d is valid

pub leaving_late : (side : Side) → pos 1536000000000000 ≤ℤ last_leaving side
leaving_late Ru = omega (arith, ints)
leaving_late Du = omega (arith, ints)

pub landing_in_time : (side : Side) → (last_leaving side +ℤ longest) ≤ℤ last_landing
landing_in_time Ru = omega (arith, ints)
landing_in_time Du = omega (arith, ints)

pub are_replayed : PlannedLandingsAreReplayed
are_replayed d Ru is valid =
    replayed_by (last_sent +ℤ longest) (landing_with d Ru (leaving_to Ru d)) (landing_in_time Ru) (each_lands d is Ru (leaving_to Ru d) last_sent (leaving_late Ru) (each_leaves Ru d is valid))
are_replayed d Du is valid =
    replayed_by (last_answered +ℤ longest) (landing_with d Du (leaving_to Du d)) (landing_in_time Du) (each_lands d is Du (leaving_to Du d) last_answered (leaving_late Du) (each_leaves Du d is valid))
