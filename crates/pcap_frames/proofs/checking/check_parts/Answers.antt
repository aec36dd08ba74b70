use Rattle.std.proofs.Common.{◌≡◌, ◌+◌, List, Result, Ok, Err, ap, sym, subst, ◌∙◌, rules}
use Rattle.std.proofs.lemmas.Result.{err_from_is_err_and}
use Rattle.pcap_frames.specs.declared.heads.PcapHead.{PcapHead}
use Rattle.pcap_frames.specs.declared.refusals.PcapFault.{PcapFault}
use Rattle.pcap_frames.specs.declared.refusals.PcapFault.TheVariants.{NoMemory}
use Rattle.pcap_frames.specs.Checked.{checked_by}
use Rattle.pcap_frames.specs.Heads.{Answers}
use Rattle.pcap_frames.specs.Packets.{opened_as, reading_as}
use Rattle.pcap_frames.specs.Parts.{Reading, after, part_of, interfaces_by}
use Rattle.pcap_frames.specs.Passes.{Passes, reading_now}
use Rattle.pcap_frames.specs.Wanted.{wanted_through, first_time}
use Rattle.pcap_frames.specs.declared.pcapng_values.Interface.{Interface}
use Rattle.pcap_frames.specs.Values.{block_as}
use Rattle.pcap_frames.proofs.Passing.{sliced, pass_refused, pass_fault, pass_next, pass_end}
use Rattle.pcap_frames.proofs.checking.check_parts.Goals as goal

pub returns-in-Err : goal.returns-in-Err
returns-in-Err c =
    let bytes = c.args.bytes.now in
    let place = c.loop-place.place in
    let s = c.loop-place.sections in
    let e : part_of (reading_now s) (sliced place bytes) ≡ Err c.in-Err.why
    = ap (λ is. part_of (reading_as s.layout is) (sliced place bytes)) (sym c.now.ensures) ∙ sym c.in-Err.ensures.value in
    ap (checked_by c.args.whose c.args.start bytes) c.requires.opened
    ∙ pass_refused c.args.whose c.args.start bytes (opened_as c.args.opening) place c.loop-place.first (reading_now s) s.interfaces.items c.in-Err.why c.loop-place-test.true e
    c.loop-place.invariant.so_far

pub returns-in-Err-first_behind : goal.returns-in-Err-first_behind
returns-in-Err-first_behind c =
    let bytes = c.args.bytes.now in
    let place = c.loop-place.place in
    let s = c.loop-place.sections in
    let part = block_as c.in-Ok.part in
    let e : part_of (reading_now s) (sliced place bytes) ≡ Ok part
    = ap (λ is. part_of (reading_as s.layout is) (sliced place bytes)) (sym c.now.ensures) ∙ sym c.in-Ok.ensures.value in
    ap (checked_by c.args.whose c.args.start bytes) c.requires.opened
    ∙ pass_fault c.args.whose c.args.start bytes (opened_as c.args.opening) place c.loop-place.first (reading_now s) s.interfaces.items part c.in-Err-first_behind.why e
    c.in-Ok.ensures.some c.in-Ok.ensures.within (sym c.in-Err-first_behind.ensures) c.loop-place.invariant.so_far

pub returns-in_err-take : goal.returns-in_err-take
returns-in_err-take c =
    let e = err_from_is_err_and c.from_residual.result c.from_residual.ensures.1 in
    let is : c.from_residual.result ≡ Err NoMemory = e.1 ∙ ap Err e.2 in
    subst (λ (r : Result PcapHead PcapFault). Answers c.args.whose c.args.bytes.now c.args.start r) (sym is) tt

pub loop-place-preserved : goal.loop-place-preserved
loop-place-preserved c =
    let whose = c.args.whose in
    let start = c.args.start in
    let bytes = c.args.bytes.now in
    let o = opened_as c.args.opening in
    let place = c.loop-place.place in
    let s = c.loop-place.sections in
    let new = c.take.new.self in
    let part = block_as c.in-Ok.part in
    let found = c.in-Ok-first_behind.found in
    let e : part_of (reading_now s) (sliced place bytes) ≡ Ok part
    = ap (λ is. part_of (reading_as s.layout is) (sliced place bytes)) (sym c.now.ensures) ∙ sym c.in-Ok.ensures.value in
    let next = pass_next whose start bytes o place c.loop-place.first found (reading_now s) s.interfaces.items part e c.in-Ok.ensures.some c.in-Ok.ensures.within
    (sym c.in-Ok-first_behind.ensures) c.loop-place.invariant.so_far in
    record {
      within = search rules;
      begins = c.in_ok-take.ensures.within;
      so_far = subst (λ (r : Reading). Passes whose start bytes o (place + part.size) found r new.interfaces.items) (sym c.in_ok-take.ensures.reading)
          (subst (λ (t : List Interface). Passes whose start bytes o (place + part.size) found (after (reading_now s) part.held) t) (sym c.in_ok-take.ensures.interfaces) next);
    }

pub returns : goal.returns
returns c =
    let whose = c.args.whose in
    let start = c.args.start in
    let bytes = c.args.bytes.now in
    let s = c.loop-place.sections in
    let p = pass_end whose start bytes (opened_as c.args.opening) c.loop-place.place c.loop-place.first (reading_now s) s.interfaces.items c.loop-place-test.false c.loop-place.invariant.so_far in (
      ap (checked_by whose start bytes) c.requires.opened ∙ p.0,
      record {
        first = c.unwrap_or.ensures ∙ p.1 ∙ sym (ap (λ r. first_time (wanted_through whose r bytes)) c.requires.opened);
        interfaces = p.2 ∙ sym (ap (λ r. interfaces_by r bytes) c.requires.opened);
      },
    )
