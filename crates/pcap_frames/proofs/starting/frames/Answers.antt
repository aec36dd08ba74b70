use Rattle.std.proofs.Common.{ap, sym, ◌∙◌}
use Rattle.pcap_frames.specs.Frames.{all_fine}
use Rattle.pcap_frames.specs.Wanted.{wanted_from, wanted_frames}
use Rattle.pcap_frames.specs.Walks.{left_in}
use Rattle.pcap_frames.proofs.Shown.{are_shown, checked_fine}
use Rattle.pcap_frames.proofs.starting.frames.Goals as goal

pub invariant_of-result : goal.invariant_of-result
invariant_of-result c =
    let whose = c.args.whose in
    let start = c.args.start in
    let bytes = c.args.bytes.now in
    record {
      goes_on = record {
        within = c.begun.ensures.within;
        later = c.begun.ensures.later ∙ c.deref.ensures.value ∙ c.requires.head.interfaces ∙ sym c.begun.ensures.parts;
      };
      fine = ap (all_fine c.args.head.now.first start) (c.begun.ensures.wanted whose)
          ∙ ap (λ n. all_fine n start (wanted_frames whose bytes)) c.requires.head.first
          ∙ checked_fine whose bytes start c.requires.passed;
    }

pub returns-clause-shown : goal.returns-clause-shown
returns-clause-shown c =
    let whose = c.args.whose in
    let start = c.args.start in
    let bytes = c.args.bytes.now in
    are_shown c.args.head.now.first start (wanted_from whose (left_in c.begun.result))
    (ap (all_fine c.args.head.now.first start) (c.begun.ensures.wanted whose)
    ∙ ap (λ n. all_fine n start (wanted_frames whose bytes)) c.requires.head.first
    ∙ checked_fine whose bytes start c.requires.passed)
