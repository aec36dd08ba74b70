use Rattle.std.proofs.Common.{◌≡◌, ◌+◌, ◌++◌, length, ap, ◌∙◌, arith, append_assoc, length-append}
use Rattle.fh_base.specs.Carrier.{first_of, count_of}
use Rattle.frame_bytes.specs.Spelled.{in_bytes}
use Rattle.frame_bytes.specs.Messages.{packed_prbs, section_fields, section_of}
use Rattle.frame_bytes.proofs.pieces.write_section.Goals as goal

pub returns-clause-stands : goal.returns-clause-stands
unfolding section_of
returns-clause-stands g c block said before at stood =
    let carrier = c.args.carrier.now in
    let section = c.args.section.now in
    let headers = c.as_slice.result.now in
    let prbs = packed_prbs carrier.format.method block (first_of section.start_prb section.num_prb) (count_of carrier.prbs section.num_prb) in
    let written = c.write_cut.ensures.stands before at stood in
    let place : length (before ++ headers) ≡ c.args.place + c.section_headers-headers.result.len = omega (arith, at, length-append before headers, c.as_slice.ensures.len) in
    let both = c.write_prbs.ensures.stands block said (before ++ headers) place written in
    let bytes : headers ≡ in_bytes (section_fields carrier.format section) = c.as_slice.ensures.bytes ∙ c.section_headers-headers.ensures.bytes in
    let all : (before ++ headers) ++ prbs ≡ before ++ (in_bytes (section_fields carrier.format section) ++ prbs) =
    append_assoc before headers prbs ∙ ap (λ xs. before ++ (xs ++ prbs)) bytes in
    rw all at both
