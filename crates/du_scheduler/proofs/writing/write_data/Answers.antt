use Rattle.du_scheduler.proofs.PartLemmas.{is_read, read_few, read_fits, read_frame}
use Rattle.du_scheduler.proofs.writing.write_data.Goals as goal

pub data_frame-requires-clause-fits : goal.data_frame-requires-clause-fits
data_frame-requires-clause-fits g c =
    let m = c.requires.data.0 in
    let d = c.requires.data.1 in
    read_fits m _ _ _ (is_read c.args.lines.now c.args.parts.now m c.index-lines-first.result _ d.at c.index-lines-first.is (c.put_sections.ensures.sections _ d.at)) d.fits

pub data_frame-requires-clause-sub : goal.data_frame-requires-clause-sub
data_frame-requires-clause-sub g c =
    let m = c.requires.data.0 in
    let d = c.requires.data.1 in
    read_few m _ _ _ c.args.fragment.sub c.args.fragment.size (is_read c.args.lines.now c.args.parts.now m c.index-lines-first.result _ d.at c.index-lines-first.is (c.put_sections.ensures.sections _ d.at)) c.requires.data.2

pub returns-clause-bytes : goal.returns-clause-bytes
returns-clause-bytes g c m d answer by blocks are =
    read_frame m _ _ _ c.args.fragment answer blocks _ (is_read c.args.lines.now c.args.parts.now m c.index-lines-first.result _ d.at c.index-lines-first.is (c.put_sections.ensures.sections _ d.at))
    (λ a. c.data_frame.ensures.bytes answer by blocks a) are
