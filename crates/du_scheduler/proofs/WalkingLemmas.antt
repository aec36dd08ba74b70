-- When the messages of the definition leave, message by message.
use Rattle.std.proofs.Common.{◌≡◌, ℕ, pos, ◌+◌, ◌*◌, ◌+ℤ◌, min, List, [], ◌∷◌, ◌++◌, map, append_assoc, refl, ap, ap₂, sym, ◌∙◌, arith}
use Rattle.window_config.specs.declared.config.Config.{Config}
use Rattle.window_config.specs.declared.endpoints.EndpointConfig.{EndpointConfig}
use Rattle.plan_model.specs.Dense.{sending_of, sendings}
use Rattle.plan_model.specs.Departures.{departures_of, start_of_part}
use Rattle.plan_model.specs.Packs.{Numbered}
use Rattle.plan_model.specs.Streams.{Part, messages_of, parts_in}
use Rattle.plan_model.specs.declared.dense.Sending.{Sending}
use Rattle.plan_model.specs.declared.lines.PlannedLine.{PlannedLine}
use Rattle.plan_model.specs.declared.streams.Stream.{Stream}
use Rattle.du_scheduler.proofs.CutLemmas.{complete_are, completed}
use Rattle.du_scheduler.specs.Parts.{timed}
use Rattle.du_scheduler.specs.PlanRuns.{limits_of}
use Rattle.du_scheduler.specs.Walks.{complete}
use Rattle.du_scheduler.specs.declared.open_messages.OpenMessage.{OpenMessage}
use Rattle.du_scheduler.specs.PlanWalks.{sending_from}

pub walk_more : (f : OpenMessage → Sending) (m : OpenMessage) (all left : List OpenMessage) (old new whole : List Sending) (s : Sending) → old ++ map f all ≡ whole
    → all ≡ m ∷ left → s ≡ f m → new ≡ old ++ s ∷ [] → new ++ map f left ≡ whole
walk_more f m all left old new whole s so_far all_is s_is new_is =
    ap (λ (xs : List Sending). xs ++ map f left) (new_is ∙ ap (λ (x : Sending). old ++ x ∷ []) s_is) ∙ append_assoc old (f m ∷ []) (map f left)
    ∙ ap (λ (ms : List OpenMessage). old ++ map f ms) (sym all_is) ∙ so_far

module _ (c : Config) (stream : Stream) (ep : ℕ) where
  sending_is : (n : Numbered Part) → sending_from (limits_of c stream ep) (completed c stream n) ≡ sending_of c stream n
  sending_is n =
      let d = departures_of c stream in
      let none : n.before ≡ n.before + 0 = omega arith in
      ap (λ (before : ℕ). (let s : Sending = record {
        at = record { 0 = (start_of_part n.message.first +ℤ d.from.0) +ℤ pos (min (before * d.gap) d.spread) };
        line = n.message.first.planned.index;
      } in s)) none

  of_each : (ns : List (Numbered Part)) → map (sending_from (limits_of c stream ep)) (map (completed c stream) ns) ≡ map (sending_of c stream) ns
  of_each [] = refl
  of_each (n ∷ ns) = ap₂ (λ (s : Sending) (ss : List Sending). s ∷ ss) (sending_is n) (of_each ns)

  pub sendings_are : (lines : List PlannedLine) (at : ℕ) (e : EndpointConfig)
      → map (sending_from (limits_of c stream ep)) (complete (limits_of c stream ep) (map (timed stream) (parts_in lines stream at e))) ≡ sendings c lines stream at e
  unfolding messages_of
  sendings_are lines at e = ap (map (sending_from (limits_of c stream ep))) (complete_are c stream ep (parts_in lines stream at e)) ∙ of_each (messages_of c lines stream at e)
