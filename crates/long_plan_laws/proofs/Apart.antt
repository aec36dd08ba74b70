-- A long plan is sparse, and so not dense; and how many messages it has.
use Rattle.std.proofs.Common.{◌≡◌, ℕ, zero, suc, ◌+◌, ◌<◌, ◌≤◌, inl, inr, List, [], ◌∷◌, length, map, Option, None, refl, ap, ap₂, sym, ◌∙◌, subst, arith}
use Rattle.std.specs.List.{AllByRecursion}
use Rattle.std.proofs.lemmas.Int.{ints}
use Rattle.fh_base.specs.declared.values.Slot.{Slot}
use Rattle.fh_base.proofs.Orders.{pos_same}
use Rattle.window_config.specs.declared.endpoints.EndpointConfig.{EndpointConfig}
use Rattle.window_config.specs.declared.plan.TheConstants.{LAST_FRAME}
use Rattle.fh_base.specs.Lists.{or_else}
use Rattle.plan_model.specs.Dense.{dense, down_distance, up_distance}
use Rattle.plan_model.specs.Examples.{usual}
use Rattle.plan_model.specs.Lines.{planned}
use Rattle.plan_model.specs.Packs.{Message, alone, numbered, numbered_behind, packs}
use Rattle.plan_model.specs.Streams.{Part, frames_in, messages_of, part_fields, parts_in}
use Rattle.plan_model.specs.Valid.{dense_refused}
use Rattle.plan_model.specs.declared.dense.Dense.{Dense}
use Rattle.plan_model.specs.declared.lines.PlannedLine.{PlannedLine}
use Rattle.plan_model.specs.declared.refusals.PlanWhy.{PlanWhy}
use Rattle.plan_model.specs.declared.streams.Stream.{Stream}
use Rattle.plan_model.specs.declared.streams.Stream.TheVariants.{DownData, UpData}
use Rattle.generated_laws.specs.Sparse.{AreAlone, HasRoom, IsSpaced, IsSparse}
use Rattle.generated_laws.proofs.Lines.{NotBoth, not_both}
use Rattle.generated_laws.proofs.Spaced.{khz30_spaced}
use Rattle.generated_laws.proofs.Sparse.{each_alone, not_dense as sparse_not_dense}
use Rattle.long_plan_laws.specs.Lines.{frame_lines, long_config, LongPlansAreLong, LongPlansAreValid}
use Rattle.long_plan_laws.proofs.Lines.{line_at, lines_from, none_refused, planned_is}
use Rattle.long_plan_laws.proofs.Ticks.{parts_are, parts_from}
use Rattle.fh_base.specs.Members.{IsIn}

-- ---- no two lines have data in one symbol

frames_differ : (m k : ℕ) → m < k → (line_at 0 m).line.slot ≡ (line_at 0 k).line.slot → ⊥
frames_differ m k lt same = (let e = pos_same m k (ap (λ (s : Slot). s.frame) same) in omega (arith, lt, e))

other_frames : (stream : Stream) (j m i frame n : ℕ) → m < frame → AllByRecursion (NotBoth stream (line_at j m)) (lines_from i frame n)
unfolding lines_from
other_frames stream j m i frame zero lt = tt
other_frames stream j m i frame (suc n) lt = (
  not_both stream (line_at j m) (line_at i frame) (λ ep slot. frames_differ m frame lt slot),
  other_frames stream j m (i + 1) (frame + 1) n (omega (arith, lt)),
)

lines_alone : (stream : Stream) (i frame n : ℕ) → AreAlone stream (lines_from i frame n)
unfolding lines_from
lines_alone stream i frame zero = tt
lines_alone stream i frame (suc n) = (other_frames stream i frame (i + 1) (frame + 1) n (omega arith), lines_alone stream (i + 1) (frame + 1) n)

-- ---- the plan

at_usual : (i frame n : ℕ) (p : PlannedLine) → IsIn p (lines_from i frame n) → p.endpoint ≡ usual
unfolding lines_from
at_usual i frame zero p m = absurd m
at_usual i frame (suc n) p (inl here) = ap (λ (q : PlannedLine). q.endpoint) here
at_usual i frame (suc n) p (inr there) = at_usual (i + 1) (frame + 1) n p there

one_endpoint : (e : EndpointConfig) → IsIn e (usual ∷ []) → e ≡ usual
one_endpoint e (inl here) = here
one_endpoint e (inr there) = absurd there

-- 256 symbols of 53,200,000 ticks each are 8.8 ms
down_room : HasRoom long_config DownData 53200000 (down_distance long_config.delays)
down_room = omega (arith, ints)

up_room : HasRoom long_config UpData 53200000 (up_distance long_config.delays)
up_room = omega (arith, ints)

sparse : (n : ℕ) → IsSparse long_config (lines_from 0 1 n) 53200000
sparse n = record {
  single = refl;
  spaced = λ e m. subst (λ (x : EndpointConfig). IsSpaced x.numerology 53200000) (sym (one_endpoint e m)) khz30_spaced;
  placed = λ e m p i. ap (λ (x : EndpointConfig). x.numerology) (at_usual 0 1 n p i ∙ sym (one_endpoint e m));
  down = lines_alone DownData 0 1 n;
  up = lines_alone UpData 0 1 n;
  down_room = down_room;
  up_room = up_room;
}

abbrev lines_planned : ℕ → List PlannedLine
lines_planned n = planned long_config.endpoints (frame_lines 1 n)

not_dense : (n : ℕ) → dense long_config (lines_planned n) ≡ None
not_dense n = ap (λ (ps : List PlannedLine). dense long_config ps) (planned_is 0 1 n) ∙ sparse_not_dense long_config (lines_from 0 1 n) 53200000 (sparse n)

pub are_valid : LongPlansAreValid
are_valid n few =
    ap₂ (λ (x : Option (ℕ × PlanWhy)) (d : Option Dense). or_else x (dense_refused d)) (none_refused [] 0 1 n (λ a m. absurd m)) (not_dense n)

-- ---- how many messages

down_messages : (n : ℕ) → n ≤ LAST_FRAME → messages_of long_config (lines_planned n) DownData 0 usual
    ≡ numbered part_fields (frames_in long_config DownData) (map alone (parts_from 0 1 n))
unfolding messages_of
down_messages n few =
    ap (λ (ps : List PlannedLine). numbered part_fields (frames_in long_config DownData) (packs part_fields 1 (parts_in ps DownData 0 usual))) (planned_is 0 1 n)
    ∙ ap (λ (xs : List Part). numbered part_fields (frames_in long_config DownData) (packs part_fields 1 xs)) (parts_are n few)
    ∙ ap (λ (ms : List (Message Part)). numbered part_fields (frames_in long_config DownData) ms) (each_alone (parts_from 0 1 n))

count_numbered : (earlier ms : List (Message Part)) → length (numbered_behind part_fields (frames_in long_config DownData) earlier ms) ≡ length ms
unfolding numbered_behind
count_numbered earlier [] = refl
count_numbered earlier (m ∷ ms) = ap suc (count_numbered (m ∷ earlier) ms)

count_parts : (i frame n : ℕ) → length (map (alone {P = Part}) (parts_from i frame n)) ≡ n
unfolding parts_from
count_parts i frame zero = refl
count_parts i frame (suc n) = ap suc (count_parts (i + 1) (frame + 1) n)

pub are_long : LongPlansAreLong
are_long n few = ap length (down_messages n few) ∙ count_numbered [] (map alone (parts_from 0 1 n)) ∙ count_parts 0 1 n
