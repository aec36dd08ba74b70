use Rattle.std.proofs.Common.{◌≡◌, ◌*◌, ◌+◌, ◌∙◌, arith, refl, inl, inr, get_or}
use Rattle.std.proofs.lemmas.Bool.{cases_Bool, cases_lt}
use Rattle.std.proofs.lemmas.List.{get_or_past}
use Rattle.unit_model.specs.Claims.{is_from}
use Rattle.slot_rings.specs.Written.{is_written, no_prbs}
use Rattle.slot_rings.proofs.WrittenLemmas.{written_before, written_within}
use Rattle.slot_rings.proofs.written.wipe.Goals as goal

pub loop-symbol-init : goal.loop-symbol-init
loop-symbol-init g c = record {
  len = refl;
  capacity = omega arith;
  blank = λ k none. elim (cases_Bool (is_written c.args.prbs c.args.spans.now k)) [
    | inl written ↦ absurd (let e = none written in omega (arith, e))
    | inr not ↦ c.requires.each k not
  ];
}

pub loop-symbol-preserved : goal.loop-symbol-preserved
loop-symbol-preserved g c =
    let l = c.loop-symbol in
    let from = l.symbol * c.args.prbs + (get_or c.args.spans.now l.symbol no_prbs).first in
    record {
      len = c.overwrite.ensures.len ∙ l.invariant.len;
      capacity = omega (arith, l.invariant.capacity, c.overwrite.ensures.capacity);
      blank = λ k within. elim (cases_lt k l.list.len) [
        | inr past ↦ get_or_past c.overwrite.new.list.items k c.args.blank (omega (arith, past, c.overwrite.ensures.len, c.overwrite.new.list.ok.0))
        | inl there ↦
            let at = c.overwrite.ensures.each k c.args.blank there in
            elim (cases_Bool (is_from from c.saturating_sub-count.result k)) [
              | inl inside ↦ rw inside at at
              | inr out ↦
                  let before = written_before c.args.prbs l.symbol k c.saturating_sub-count.result c.args.spans.now c.saturating_sub-count.ensures out in
                  let same : get_or c.overwrite.new.list.items k c.args.blank ≡ get_or l.list.items k c.args.blank = rw out at at in
                  same ∙ l.invariant.blank k (λ written. before written (within written))
            ]
      ];
    }

pub returns-clause-blank : goal.returns-clause-blank
returns-clause-blank g c k = c.loop-symbol.invariant.blank k (λ written.
    omega (arith, written_within c.args.prbs k c.args.spans.now written, c.told-spans, c.loop-symbol-test.false))
