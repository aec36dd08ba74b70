use Rattle.std.proofs.Common.{◌≡◌, ◌+◌, ◌≤◌, Ok, Err, Option, subst, length, drop, ap, sym, ◌∙◌}
use Rattle.std.proofs.lemmas.List.{take_rest}
use Rattle.std.proofs.lemmas.Result.{err_from_is_err_and}
use Rattle.std.specs.Prelude.{IfSome}
use Rattle.pcap_frames.specs.declared.interfaces.Choice.{Choice}
use Rattle.pcap_frames.specs.Interfaces.{changed, described}
use Rattle.pcap_frames.specs.Numbers.{padded}
use Rattle.pcap_frames.specs.Values.{chosen_as, option_as}
use Rattle.pcap_frames.proofs.Options.{next, ended, wrong}
use Rattle.pcap_frames.proofs.interfaces.described.Goals as goal

pub returns-in_err-choice : goal.returns-in_err-choice
returns-in_err-choice c =
    let stop = wrong c.args.little c.loop-choice.interface c.loop-choice.rest.now c.in_err-choice.field-0.0 (sym c.in_err-choice.ensures.value) in
    let e = err_from_is_err_and c.from_residual.result c.from_residual.ensures.1 in
    e.1 ∙ ap Err e.2 ∙ sym (c.loop-choice.invariant.so_far ∙ stop)

pub loop-choice-preserved : goal.loop-choice-preserved
loop-choice-preserved c =
    let o = chosen_as c.in-Some.choice in
    let i = c.loop-choice.interface in
    let rest = c.loop-choice.rest.now in
    let size = 4 + c.padded.result in
    let same : 4 + padded (length o.value) ≡ size = ap (λ n. 4 + n) (sym c.padded.ensures.value) in
    let within : 4 + padded (length o.value) ≤ length rest
    = subst (λ (m : Option Choice). IfSome m (λ choice. 4 + padded (length choice.value.now) ≤ length rest)) c.in-Some.is c.in_ok-choice.ensures.within in
    record {
      so_far = c.loop-choice.invariant.so_far
          ∙ next c.args.little i rest o (sym c.in_ok-choice.ensures.value ∙ ap (λ m. option_as (Ok m)) c.in-Some.is) within
          ∙ ap (λ n. described c.args.little 0 (changed c.args.little i o) (drop n rest)) same
          ∙ ap (λ j. described c.args.little 0 j (drop size rest)) (sym c.changed-interface.ensures)
          ∙ ap (λ b. described c.args.little 0 c.changed-interface.result b) (sym (take_rest rest size));
    }

pub returns : goal.returns
returns c = sym (c.loop-choice.invariant.so_far ∙ ended c.args.little c.loop-choice.interface c.loop-choice.rest.now (sym c.in_ok-choice.ensures.value ∙ ap (λ m. option_as (Ok m)) c.in_default.is))
